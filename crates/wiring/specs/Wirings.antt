-- What a wiring stands for.
use Rattle.std.specs.Prelude.{take, Ok, Err, Result}
use Rattle.fault.specs.declared.faults.Fault.{Fault}
use Rattle.wiring.specs.declared.wirings.Wiring.{Wiring}
use Rattle.wiring.specs.Topologies.{Topology}
use Rattle.wiring.specs.Links.{drawn}

abbrev pub topology : Wiring → Topology
topology w = drawn w.nodes w.layers (take w.count w.links)

-- an answer, by what the wiring in it stands for
abbrev pub seen : Result Wiring Fault → Result Topology Fault
seen (Ok w) = Ok (topology w)
seen (Err f) = Err f
