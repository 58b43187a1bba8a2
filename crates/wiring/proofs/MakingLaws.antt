-- Links that are looked at and taken over one by one.
use Rattle.std.proofs.Common.{◌≡◌, ℕ, suc, ◌*◌, ◌<◌, ◌≤◌, true, false, cond, not, List, [], ◌∷◌, map, length, get_or, take, is_some, Some, None, Ok, Err, Option, sym, refl, ap, ◌∙◌, subst, add-one, arith}
use Rattle.std.specs.List.{position, position_from}
use Rattle.std.proofs.lemmas.Iterator.Adapters.{position_from-zero}
use Rattle.std.proofs.lemmas.List.{length-map, get_or-map}
use Rattle.fault.specs.declared.faults.Fault.{Fault}
use Rattle.fault.specs.Faults.{judged}
use Rattle.wiring.specs.declared.links.Link.{Link}
use Rattle.wiring.specs.Topologies.{Topology, channels}
use Rattle.wiring.specs.Links.{ends_of, fresh, no_link, drawn, EndsWithin}
use Rattle.wiring.specs.Soundness.{fine_link, bad_link, topology_fault, sound_answer}
use Rattle.wiring.proofs.SoundnessLaws.{two_ends, links_fine, sound_valid}

-- the first link that is not fine, by its place
pub bad_place : (n : ℕ) (ls : List Link) → position (λ (l : Link). not (fine_link n (ends_of l))) ls ≡ bad_link n 0 (map ends_of ls)
bad_place n ls = position_from-zero (λ (l : Link). not (fine_link n (ends_of l))) ls ∙ along 0 ls
  where
    along : (j : ℕ) (xs : List Link) → position_from (λ (l : Link). not (fine_link n (ends_of l))) j xs ≡ bad_link n j (map ends_of xs)
    along j [] = refl
    along j (x ∷ xs) = rw (add-one, along (suc j) xs) (elim (fine_link n (ends_of x)) as (λ b. cond (not b) (Some j) (bad_link n (suc j) (map ends_of xs)) ≡ elim b [ true ↦ bad_link n (suc j) (map ends_of xs) | false ↦ Some j ]) [ true ↦ refl | false ↦ refl ])

-- where every link is fine, each end is a node
pub ends_within : (n : ℕ) (ls : List Link) → None ≡ bad_link n 0 (map ends_of ls) → EndsWithin n ls
ends_within n ls e j l =
    let h = two_ends n (get_or (map ends_of ls) j (0, 0)) (links_fine n 0 (map ends_of ls) (sym e) j (0, 0) (omega (arith, length-map ls ends_of))) in
    let q = get_or-map ends_of ls j no_link (0, 0) l in
    (subst (λ (p : ℕ × ℕ). p.0 < n) q h.0, subst (λ (p : ℕ × ℕ). p.1 < n) q h.1)

-- ---- what is made where none is told

pub same_ends : (es : List (ℕ × ℕ)) → map ends_of (map fresh es) ≡ es
same_ends [] = refl
same_ends (e ∷ es) = ap (λ (z : List (ℕ × ℕ)). e ∷ z) (same_ends es)

module _ (ls held : List Link) (front : take (length ls) held ≡ map fresh (map ends_of ls)) where
  -- what is taken over stands for what it was taken from
  pub held_drawn : (n k : ℕ) → drawn n k (take (length ls) held) ≡ drawn n k ls
  held_drawn n k = ap (λ (es : List (ℕ × ℕ)). record { nodes = n; layers = k; links = es }) (ap (map ends_of) front ∙ same_ends (map ends_of ls))

  -- with its loads at 1
  pub held_fresh : take (length ls) held ≡ map fresh (map ends_of (take (length ls) held))
  held_fresh = front ∙ ap (map fresh) (sym (ap (map ends_of) front ∙ same_ends (map ends_of ls)))

  pub held_pairs : (n k : ℕ) → 2 * length ls ≡ channels (drawn n k (take (length ls) held))
  held_pairs n k = ap (λ m. 2 * m) (sym (length-map ls ends_of)) ∙ ap channels (sym (held_drawn n k))

pub answer_none : (w v : Topology) → w ≡ v → None ≡ topology_fault v → Ok w ≡ sound_answer v
answer_none w v e f = ap Ok e ∙ rw (← f)

pub few_of : (n k : ℕ) (ls : List Link) → None ≡ topology_fault (drawn n k ls) → length ls ≤ 120
few_of n k ls e = let h = (sound_valid (drawn n k ls) (sym e)).few_links in omega (arith, length-map ls ends_of)

-- what a test answered, by the fault that it looked for
pub none_judged : (o : Option Fault) → Ok tt ≡ judged o → None ≡ o
none_judged None e = refl
none_judged (Some f) e = (cc)

pub some_judged : (o : Option Fault) (f : Fault) → Err f ≡ judged o → Some f ≡ o
some_judged None f e = (cc)
some_judged (Some g) f e = (cc)

pub quiet : (o : Option Fault) → None ≡ o → is_some o ≡ false
quiet o e = ap is_some (sym e)
