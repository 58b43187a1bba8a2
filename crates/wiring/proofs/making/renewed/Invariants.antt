use Rattle.std.proofs.Common.{◌≡◌, map, length, take}
use Rattle.wiring.specs.Links.{ends_of, fresh}
use Rattle.wiring.proofs.making.renewed.Given as goal

abbrev pub invariant-loop-place : goal.invariant-loop-place
invariant-loop-place l = (take l.place l.held ≡ map fresh (map ends_of (take l.place l.links))) × (length l.held ≡ 120)
