-- What a network stands for.
use Rattle.wiring.specs.declared.networks.Network.{Network}
use Rattle.wiring.specs.Topologies.{Topology}
use Rattle.wiring.specs.Wirings.{topology}

abbrev pub net : Network → Topology
net n = topology n.wiring.now
