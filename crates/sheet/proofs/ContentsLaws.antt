-- What the answer about a sheet's contents says, and what a sheet as it should be keeps to.
use Rattle.std.proofs.Common.{◌≡◌, ℕ, zero, suc, ◌+◌, ◌-◌, ◌*◌, ◌<◌, ◌≤◌, Bool, true, false, ◌&&◌, eqb, ltb, List, [], ◌∷◌, length, get_or, drop, Some, None, Option, Result, sym, refl, ap, ◌∙◌, subst, ap₂, add-zero, zero-add, arith}
use Rattle.std.specs.Option.{option_map}
use Rattle.std.specs.Result.{result_err}
use Rattle.fault.specs.Faults.{judged}
use Rattle.std.proofs.lemmas.List.{length-drop, length-take-le}
use Rattle.std.proofs.lemmas.Bool.{both_ways, eqb-true, eqb-false, eq-eqb, lt-ltb, and_parts, and_from, ltb-true, cond-true, cond-false, le-leb, le-ltb}
use Rattle.fault.specs.declared.faults.Fault.{Fault}
use Rattle.fault.specs.declared.faults.Fault.TheVariants.{Contents, Letter as LetterFault, BodyPlace, BodySize}
use Rattle.wiring.specs.Lists.{when_not, or_else}
use Rattle.wiring.proofs.TopologyLaws.{none_some}
use Rattle.sheet.specs.declared.letters.Letter.{Letter}
use Rattle.sheet.specs.declared.letters.Letter.TheVariants.{L, N, V, P}
use Rattle.sheet.specs.Letters.{Part, code, letter_of}
use Rattle.sheet.specs.Lines.{byte, line, body, next_section, body_in, next_body}
use Rattle.sheet.specs.Contents.{Test, has_letter, due_at, in_place, has_size, first_line, first_body, place_fault, sheet_fault, Every, Lowest, Whole, Ended, Fine, Told, cut_short, other_letter, out_of_place, not_ended, other_size, nothing}

module _ (test : Test) where
  -- from line j on, i of the letters due are passed
  abbrev Passed : ℕ → List Letter → ℕ → Type 0
  Passed j due n = (i : ℕ) → i < n → test (j + i) (get_or due i L) ≡ true

  later : (j : ℕ) (x : Letter) (xs : List Letter) (n : ℕ) → test j x ≡ true → Passed (suc j) xs n → Passed j (x ∷ xs) (suc n)
  later j x xs n e p zero h = rw add-zero e
  later j x xs n e p (suc i) h = let k : j + suc i ≡ suc j + i = omega arith in rw k (p i (omega arith))

  module _ (fault : ℕ → Fault) where
    abbrev Stopped : ℕ → List Letter → Fault → Type 0
    Stopped j due f = (i : ℕ) × (f ≡ fault (j + i)) × (i < length due) × (test (j + i) (get_or due i L) ≡ false) × Passed j due i

    passed : (j : ℕ) (due : List Letter) → first_line test fault j due ≡ None → Passed j due (length due)
    passed j [] e = λ i h. absurd (omega arith)
    passed j (x ∷ xs) e = go (test j x) refl e (passed (suc j) xs)
      where
        go : (b : Bool) → test j x ≡ b → when_not b (fault j) (first_line test fault (suc j) xs) ≡ None → (first_line test fault (suc j) xs ≡ None → Passed (suc j) xs (length xs)) → Passed j (x ∷ xs) (suc (length xs))
        go false p e ih = absurd (none_some e refl)
        go true p e ih = later j x xs (length xs) p (ih e)

    stopped : (j : ℕ) (due : List Letter) (f : Fault) → first_line test fault j due ≡ Some f → Stopped j due f
    stopped j [] f e = absurd (none_some refl e)
    stopped j (x ∷ xs) f e = go (test j x) refl e (stopped (suc j) xs f)
      where
        go : (b : Bool) → test j x ≡ b → when_not b (fault j) (first_line test fault (suc j) xs) ≡ Some f → (first_line test fault (suc j) xs ≡ Some f → Stopped (suc j) xs f) → Stopped j (x ∷ xs) f
        go false p e ih = let k : fault j ≡ f = cc in (0, sym k ∙ ap fault (sym (add-zero j)), omega arith, ap (λ n. test n x) (add-zero j) ∙ p, λ i h. absurd (omega arith))
        go true p e ih =
            let q = ih e in
            let k : suc j + q.0 ≡ j + suc q.0 = omega arith in
            (suc q.0, q.1 ∙ ap fault k, omega (arith, q.2), ap (λ n. test n (get_or xs q.0 L)) (sym k) ∙ q.3, later j x xs q.0 p q.4)

    pub every : (due : List Letter) → first_line test fault 0 due ≡ None → Every test due
    every due e i h = subst (λ n. test n (get_or due i L) ≡ true) (zero-add i) (passed 0 due e i h)

    pub lowest : (due : List Letter) (f : Fault) → first_line test fault 0 due ≡ Some f → (i : ℕ) × (f ≡ fault i) × Lowest test due i
    lowest due f e =
        let q = stopped 0 due f e in
        let k = zero-add q.0 in
        (q.0, q.1 ∙ ap fault k, (q.2, ap (λ n. test n (get_or due q.0 L)) (sym k) ∙ q.3, λ i h. subst (λ n. test n (get_or due i L) ≡ true) (zero-add i) (q.4 i h)))

pub told : (due : List Letter) (s : List ℕ) → Told due s (sheet_fault due s)
told due s = contents (ltb (5 * length due) (length s) && eqb (byte s 0) (length due)) refl
  where
    rest : Option Fault
    rest = or_else (place_fault due s) (first_line (has_size s) BodySize 0 due)

    sizes : Whole due s → Every (has_letter s) due → Every (in_place (first_body due) s) due → Ended due s → (o : Option Fault) → first_line (has_size s) BodySize 0 due ≡ o → Told due s o
    sizes w l p d (Some f) e = let q = lowest (has_size s) BodySize due f e in subst (λ (g : Fault). Told due s (Some g)) (sym q.1) (other_size q.0 w l p d q.2)
    sizes w l p d None e = nothing (record { whole = w; letters = l; places = p; ended = d; sizes = every (has_size s) BodySize due e })

    ends : Whole due s → Every (has_letter s) due → Every (in_place (first_body due) s) due → (b : Bool) → eqb (due_at (first_body due) s (length due)) (length s) ≡ b
        → Told due s (or_else (when_not b (BodyPlace (length due - 1)) None) (first_line (has_size s) BodySize 0 due))
    ends w l p false e = not_ended w l p (eqb-false _ _ e)
    ends w l p true e = sizes w l p (eqb-true _ _ e) (first_line (has_size s) BodySize 0 due) refl

    places : Whole due s → Every (has_letter s) due → (o : Option Fault) → first_line (in_place (first_body due) s) BodyPlace 0 due ≡ o
        → Told due s (or_else (or_else o (when_not (eqb (due_at (first_body due) s (length due)) (length s)) (BodyPlace (length due - 1)) None)) (first_line (has_size s) BodySize 0 due))
    places w l (Some f) e = let q = lowest (in_place (first_body due) s) BodyPlace due f e in subst (λ (g : Fault). Told due s (Some g)) (sym q.1) (out_of_place q.0 w l q.2)
    places w l None e = ends w l (every (in_place (first_body due) s) BodyPlace due e) (eqb (due_at (first_body due) s (length due)) (length s)) refl

    letters : Whole due s → (o : Option Fault) → first_line (has_letter s) LetterFault 0 due ≡ o → Told due s (or_else o rest)
    letters w (Some f) e = let q = lowest (has_letter s) LetterFault due f e in subst (λ (g : Fault). Told due s (Some g)) (sym q.1) (other_letter q.0 w q.2)
    letters w None e = places w (every (has_letter s) LetterFault due e) (first_line (in_place (first_body due) s) BodyPlace 0 due) refl

    contents : (b : Bool) → (ltb (5 * length due) (length s) && eqb (byte s 0) (length due)) ≡ b → Told due s (when_not b Contents (or_else (first_line (has_letter s) LetterFault 0 due) rest))
    contents false e = cut_short (λ w. both_ways _ e (and_from _ _ (lt-ltb _ _ w.room) (eq-eqb _ _ w.count)))
    contents true e =
        let a = and_parts (ltb (5 * length due) (length s)) (eqb (byte s 0) (length due)) e in
        letters (record { room = ltb-true _ _ a.0; count = eqb-true _ _ a.1 }) (first_line (has_letter s) LetterFault 0 due) refl

-- the same of what a test of the contents answered
pub told_judged : (due : List Letter) (s : List ℕ) (r : Result (Unit {0}) Fault) → r ≡ judged (sheet_fault due s) → Told due s (result_err r)
told_judged due s r e = subst (Told due s) (err_judged (sheet_fault due s) ∙ ap result_err (sym e)) (told due s)
  where
    err_judged : (o : Option Fault) → o ≡ result_err (judged o)
    err_judged None = refl
    err_judged (Some f) = refl

-- where nothing is told, the sheet is as it should be
pub fine : (due : List Letter) (s : List ℕ) → sheet_fault due s ≡ None → Fine due s
fine due s e = fine_of (subst (Told due s) e (told due s))
  where
    fine_of : Told due s None → Fine due s
    fine_of (nothing f) = f

letter_back : (x : Letter) → letter_of (code x) ≡ Some x
letter_back L = refl
letter_back N = refl
letter_back V = refl
letter_back P = refl

-- a body ends before the next one is due
grows : (first : ℕ) (s : List ℕ) (i k : ℕ) → due_at first s i ≤ due_at first s (i + k)
grows first s i zero = rw add-zero (omega arith)
grows first s i (suc k) = let e : i + suc k ≡ suc (i + k) = omega arith in rw e (omega (arith, grows first s i k))

-- the section of line i, whose letter is the one due
abbrev pub part : List Letter → List ℕ → ℕ → Part
part due s i = record { letter = get_or due i L; place = (line s i).start; body = body s (line s i) }

module _ (due : List Letter) (s : List ℕ) (f : Fine due s) (i : ℕ) (h : i < length due) where
  pub inside : (line s i).start + (line s i).size ≤ length s
  inside =
      let e : suc i + (length due - suc i) ≡ length due = omega arith in
      omega (arith, eqb-true (line s i).start (due_at (first_body due) s i) (f.places i h), grows (first_body due) s (suc i) (length due - suc i), ap (due_at (first_body due) s) e, f.ended)

  pub length_body : length (body s (line s i)) ≡ (line s i).size
  length_body = length-take-le (line s i).size (drop (line s i).start s) (simp length-drop (omega (arith, inside)))

  pub section_there : next_section s (drop (5 * i + 1) s) ≡ Some (part due s i)
  section_there =
      cond-false _ _ _ (le-ltb (length (drop (5 * i + 1) s)) 5 (simp length-drop (omega (arith, f.whole.room))))
      ∙ cond-true _ _ _ (le-leb _ _ inside)
      ∙ ap (option_map (λ (x : Letter). record { letter = x; place = (line s i).start; body = body s (line s i) })) (ap letter_of (eqb-true _ _ (f.letters i h)) ∙ letter_back (get_or due i L))

  -- what a reader before line i hands out
  pub body_there : {t rest : List ℕ} → t ≡ s → rest ≡ drop (5 * i + 1) s → next_body t rest ≡ body s (line s i)
  body_there same at = ap body_in (ap₂ next_section same at ∙ section_there)
