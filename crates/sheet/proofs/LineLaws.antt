-- Stepping along the lines of a sheet.
use Rattle.std.proofs.Common.{◌≡◌, ℕ, suc, ◌+◌, ◌-◌, ◌*◌, ◌<◌, ◌≤◌, Bool, true, false, ltb, List, length, get_or, drop, Some, None, Option, sym, ap, ◌∙◌, add-one, arith}
use Rattle.std.proofs.lemmas.List.{length-drop, drop-drop, at_drop_more, at_drop_all}
use Rattle.std.proofs.lemmas.Bool.{cond-false, le-ltb, eq-eqb, ne_eqb}
use Rattle.fault.specs.declared.faults.Fault.{Fault}
use Rattle.fault.specs.declared.faults.Fault.TheVariants.{BodyPlace}
use Rattle.wiring.specs.Lists.{when_not, or_else}
use Rattle.sheet.specs.declared.letters.Letter.{Letter}
use Rattle.sheet.specs.declared.letters.Letter.TheVariants.{L}
use Rattle.sheet.specs.declared.reading.Line.{Line}
use Rattle.sheet.specs.Lines.{front, next_line, after_line, line}
use Rattle.sheet.specs.Contents.{Test, first_line, in_place, due_at, first_body, place_fault}

pub next_whole : (s : List ℕ) → 5 ≤ length s → Some (front s) ≡ next_line s
next_whole s h = sym (cond-false (ltb (length s) 5) None (Some (front s)) (le-ltb (length s) 5 h))

pub after_whole : (s : List ℕ) → 5 ≤ length s → drop 5 s ≡ after_line s
after_whole s h = sym (cond-false (ltb (length s) 5) s (drop 5 s) (le-ltb (length s) 5 h))

pub passes : {F : Type 0} (b : Bool) (f : F) (o : Option F) → b ≡ true → when_not b f o ≡ o
passes b f o e = rw (e, when_not)

pub stops : {F : Type 0} (b : Bool) (f : F) (o : Option F) → b ≡ false → when_not b f o ≡ Some f
stops b f o e = rw (e, when_not)

-- a pass over the lines, before line i
module _ (test : Test) (fault : ℕ → Fault) (due : List Letter) (i : ℕ) where
  pub line_passes : i < length due → test i (get_or due i L) ≡ true → first_line test fault i (drop i due) ≡ first_line test fault (i + 1) (drop (i + 1) due)
  line_passes h e =
      at_drop_more (first_line test fault i) due i L h
      ∙ passes (test i (get_or due i L)) (fault i) (first_line test fault (suc i) (drop (i + 1) due)) e
      ∙ ap (λ n. first_line test fault n (drop (i + 1) due)) (sym (add-one i))

  pub line_stops : i < length due → test i (get_or due i L) ≡ false → first_line test fault i (drop i due) ≡ Some (fault i)
  line_stops h e = at_drop_more (first_line test fault i) due i L h ∙ stops (test i (get_or due i L)) (fault i) _ e

  pub line_none : length due ≤ i → first_line test fault i (drop i due) ≡ None
  line_none h = at_drop_all (first_line test fault i) due i h

-- after the pass over the places, the end of the last body
module _ (due : List Letter) (s : List ℕ) where
  abbrev pub Placed : Option Fault → Type 0
  Placed o = first_line (in_place (first_body due) s) BodyPlace 0 due ≡ o

  pub not_placed : (f : Fault) → Placed (Some f) → place_fault due s ≡ Some f
  not_placed f e = rw (e, or_else)

  module _ (end : ℕ) (e : Placed None) (is : end ≡ due_at (first_body due) s (length due)) where
    pub ended : end ≡ length s → place_fault due s ≡ None
    ended h = rw (e, or_else) (passes _ _ _ (eq-eqb _ _ (sym is ∙ h)))

    pub not_ended : (end ≡ length s → ⊥) → place_fault due s ≡ Some (BodyPlace (length due - 1))
    not_ended h = rw (e, or_else) (stops _ _ _ (ne_eqb _ _ (λ k. h (is ∙ k))))

-- a reader before line i of a sheet that has all lines due
module _ {rest : List ℕ} (s : List ℕ) (due : List Letter) (i : ℕ) (at : rest ≡ drop (5 * i + 1) s) (room : 5 * length due < length s) (more : i < length due) where
  whole : 5 ≤ length rest
  whole = rw at (simp length-drop (omega arith))

  pub line_after : after_line rest ≡ drop (5 * (i + 1) + 1) s
  line_after =
      let e : 5 * i + 1 + 5 ≡ 5 * (i + 1) + 1 = omega arith in
      sym (after_whole rest whole) ∙ ap (drop 5) at ∙ drop-drop 5 (5 * i + 1) s ∙ ap (λ n. drop n s) e

  pub line_is : (l : Line) → Some l ≡ next_line rest → l ≡ line s i
  line_is l got = let e = got ∙ sym (next_whole rest whole) ∙ ap (λ (r : List ℕ). Some (front r)) at in cc
