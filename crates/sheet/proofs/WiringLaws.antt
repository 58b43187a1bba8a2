-- Wiring sheets: their links, and what one without a fault in its contents keeps to.
use Rattle.std.proofs.Common.{◌≡◌, ℕ, zero, suc, ◌+◌, ◌*◌, ◌<◌, ◌≤◌, List, [], ◌∷◌, ◌++◌, map, length, get_or, take, drop, set, Some, None, sym, refl, ap, ◌∙◌, subst, ap₂, arith, lit<}
use Rattle.std.specs.Simd.{first_chunks}
use Rattle.std.proofs.lemmas.Grind.{common_steps}
use Rattle.std.proofs.lemmas.List.{take_more_set, map_push, drop-drop}
use Rattle.std.proofs.lemmas.Bool.{and_parts, leb-true}
use Rattle.fault.specs.declared.faults.Fault.TheVariants.{Unjoined}
use Rattle.wiring.specs.declared.links.Link.{Link}
use Rattle.wiring.specs.Lists.{range}
use Rattle.wiring.specs.Links.{ends_of, fresh}
use Rattle.wiring.specs.Soundness.{sound_answer}
use Rattle.wiring.proofs.LaidLaws.{range_split}
use Rattle.sheet.specs.declared.letters.Letter.{Letter}
use Rattle.sheet.specs.Lines.{byte, line, body, next_body}
use Rattle.sheet.specs.Contents.{sheet_fault, wiring_letters, Told}
use Rattle.sheet.specs.Wirings.{link_in, wired, wiring_in, read_wiring}
use Rattle.sheet.proofs.ContentsLaws.{told, fine, length_body, body_there}

range_push : (j : ℕ) → range 0 (j + 1) ≡ range 0 j ++ j ∷ []
range_push j = let e : 0 + j ≡ j = omega arith in range_split 0 j 1 ∙ ap (λ i. range 0 j ++ i ∷ []) e

-- one link more is read
pub links_more : (s : List ℕ) (links : List Link) (j : ℕ) → j < length links → map ends_of (take j links) ≡ map (link_in s) (range 0 j)
    → map ends_of (take (j + 1) (set links j (fresh (link_in s j)))) ≡ map (link_in s) (range 0 (j + 1))
links_more s links j l e =
    ap (map ends_of) (take_more_set links j (fresh (link_in s j)) l)
    ∙ map_push ends_of (take j links) (fresh (link_in s j))
    ∙ ap (λ (xs : List (ℕ × ℕ)). xs ++ link_in s j ∷ []) e
    ∙ sym (ap (map (link_in s)) (range_push j) ∙ map_push (link_in s) (range 0 j) j)

-- the bytes of link j, in a body that is cut into pairs
module _ (s : List ℕ) where
  pair_at : (n j : ℕ) (xs : List ℕ) → j < n → get_or (first_chunks 2 n xs) j [] ≡ take 2 (drop (2 * j) xs)
  pair_at zero j xs h = absurd (omega arith)
  pair_at (suc n) zero xs h = refl
  pair_at (suc n) (suc j) xs h =
      let e : 2 + 2 * j ≡ 2 * suc j = omega arith in
      pair_at n j (drop 2 xs) (omega arith) ∙ ap (take 2) (drop-drop (2 * j) 2 xs ∙ ap (λ i. drop i xs) e)

  pub pair_is : (pairs : List (List ℕ)) (n j : ℕ) → pairs ≡ first_chunks 2 n s → j < n → fresh (get_or (get_or pairs j []) 0 0, get_or (get_or pairs j []) 1 0) ≡ fresh (link_in s j)
  pair_is pairs n j is h =
      let e = ap (λ (ps : List (List ℕ)). get_or ps j []) is ∙ pair_at n j s h in
      let first : get_or (take 2 (drop (2 * j) s)) 0 0 ≡ byte s (2 * j) = grind (arith, common_steps) in
      let second : get_or (take 2 (drop (2 * j) s)) 1 0 ≡ byte s (2 * j + 1) = grind (arith, common_steps) in
      ap₂ (λ a b. fresh (a, b)) (ap (λ (p : List ℕ). get_or p 0 0) e ∙ first) (ap (λ (p : List ℕ). get_or p 1 0) e ∙ second)

-- what a reader hands out first is short enough
pub few_links : {t rest b : List ℕ} (s : List ℕ) → sheet_fault wiring_letters s ≡ None → t ≡ s → rest ≡ drop 1 s → b ≡ next_body t rest → length b ≤ 240
few_links {b = b} s e same at is =
    let f = fine wiring_letters s e in
    let first : b ≡ body s (line s 0) = is ∙ body_there wiring_letters s f 0 (lit< tt) same at in
    omega (arith, ap length first, length_body wiring_letters s f 0 (lit< tt), leb-true (line s 0).size 240 (and_parts _ _ (f.sizes 0 (lit< tt))).1)

-- the three bodies are those of the wiring
pub wiring_is : (s : List ℕ) (n k : ℕ) (nodes layers links : List ℕ) → links ≡ body s (line s 0) → n ≡ byte nodes 0 → nodes ≡ body s (line s 1) → k ≡ byte layers 0 → layers ≡ body s (line s 2)
    → wired n k links ≡ wiring_in s
wiring_is s n k nodes layers links p a q b r =
    ap (λ (x : List ℕ). wired n k x) p ∙ ap₂ (λ x y. wired x y (body s (line s 0))) (a ∙ ap (λ (x : List ℕ). byte x 0) q) (b ∙ ap (λ (x : List ℕ). byte x 0) r)

pub read_is : (s : List ℕ) → sheet_fault wiring_letters s ≡ None → sound_answer (wiring_in s) ≡ read_wiring s
read_is s e = rw e

-- the contents say nothing of nodes that are not joined
pub never_unjoined : (due : List Letter) (s : List ℕ) (n : ℕ) → sheet_fault due s ≡ Some (Unjoined n) → ⊥
never_unjoined due s n e = none (subst (Told due s) e (told due s))
  where
    none : Told due s (Some (Unjoined n)) → ⊥
    none t = elim t [ ]
