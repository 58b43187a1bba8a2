-- What a wiring's record says of the wiring.
use Rattle.std.proofs.Common.{◌≡◌, ℕ, ◌/◌, ◌%◌, ◌≤◌, Bool, true, false, cond, eqb, length, take, is_some, Some, None, Option, sym, refl, ap, ◌∙◌, arith}
use Rattle.std.proofs.lemmas.List.{length-map, length-take-le, get_or_past}
use Rattle.wiring.specs.declared.wirings.Wiring.{Wiring}
use Rattle.wiring.specs.Topologies.{Valid, end_of, from}
use Rattle.wiring.specs.Links.{ends_of}
use Rattle.wiring.specs.Wirings.{topology}
use Rattle.wiring.specs.Soundness.{topology_fault}
use Rattle.wiring.proofs.SoundnessLaws.{sound_valid}

-- no fault is told
pub untold : {F : Type 0} (o : Option F) → is_some o ≡ false → o ≡ None
untold None e = refl
untold (Some f) e = let z : ◌≡◌ {A = ℕ} 0 1 = cc in absurd (omega arith)

-- whoever holds a wiring has a valid one
pub valid : (w : Wiring) → Valid (topology w)
valid w = sound_valid (topology w) (untold (topology_fault (topology w)) w.sound)

pub links_count : (w : Wiring) → length (topology w).links ≡ w.count
links_count w = let h = w.held in let r = w.room in length-map (take w.count w.links) ends_of ∙ length-take-le w.count w.links (omega arith)

nowhere : (b : Bool) → ◌≡◌ {A = ℕ} 0 (cond b 0 0)
nowhere true = refl
nowhere false = refl

pub from_past : (w : Wiring) (c : ℕ) → w.count ≤ c / 2 → 0 ≡ from (topology w) c
from_past w c l = nowhere (eqb (c % 2) 0) ∙ ap (end_of c) (sym (get_or_past (topology w).links (c / 2) (0, 0) (omega (arith, links_count w))))
