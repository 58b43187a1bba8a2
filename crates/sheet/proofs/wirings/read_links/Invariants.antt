use Rattle.std.proofs.Common.{◌≡◌, map, length, take}
use Rattle.wiring.specs.Lists.{range}
use Rattle.wiring.specs.Links.{ends_of}
use Rattle.sheet.specs.Wirings.{link_in}
use Rattle.sheet.proofs.wirings.read_links.Given as goal

abbrev pub invariant-loop-place : goal.invariant-loop-place
invariant-loop-place l = (map ends_of (take l.place l.links) ≡ map (link_in l.body) (range 0 l.place)) × (length l.links ≡ 120)
