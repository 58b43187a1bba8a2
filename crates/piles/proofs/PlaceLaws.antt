-- A call refused below is refused above, at the number that was put to the top.
use Rattle.std.proofs.Common.{◌≡◌, ℕ, Bool, true, false, rules, not, ltb, Ok, Err, Result, refl, ap, ◌∙◌, ap₂}
use Rattle.fault.specs.declared.faults.Fault.{Fault}
use Rattle.fault.specs.declared.faults.Fault.TheVariants.{NotSeated, NoSuchDestination, GateOpen, NotOwn, NoSuchLayer}
use Rattle.wiring.specs.Lists.{only_if, after}
use Rattle.bank.specs.Banks.{View, Done, seated_answer, clear_answer, put_answer, if_done}
use Rattle.piles.specs.Slots.{told_at, lifted}

lift_only : {X : Type 0} (n : ℕ) (b : Bool) (f : Fault) (a : Result X Fault) → lifted n (only_if b f a) ≡ only_if b (told_at f n) (lifted n a)
lift_only n true f a = refl
lift_only n false f a = refl

lift_after : {X Y : Type 0} (n : ℕ) (a : Result X Fault) (b : Result Y Fault) → lifted n (after a (λ _. b)) ≡ after (lifted n a) (λ _. lifted n b)
lift_after n (Ok x) b = refl
lift_after n (Err f) b = refl

-- number n of the bank above is number m of the bank below
pub record Is (u v : View) (n m : ℕ) : Type 0 where
  pub seated : seated_answer v m ≡ seated_answer u n
  pub own : (c : ℕ) → v.own m c ≡ u.own n c
  pub gate : v.gate m ≡ u.gate n
  pub cell : (d : ℕ) → v.cell m d ≡ u.cell n d

module _ (u v : View) (n m : ℕ) (is : Is u v n m) where
  first : {X : Type 0} (a b : Result X Fault) → lifted n a ≡ b → lifted n (only_if (seated_answer v m) (NotSeated m) a) ≡ only_if (seated_answer u n) (NotSeated n) b
  first {X} a b e = lift_only n (seated_answer v m) (NotSeated m) a ∙ ap₂ (λ (t : Bool) (r : Result X Fault). only_if t (NotSeated n) r) is.seated e

  pub clear_lifts : (d : ℕ) → lifted n (clear_answer v m d) ≡ clear_answer u n d
  clear_lifts d = first _ _ (lift_only n (ltb d 64) (NoSuchDestination d) _ ∙ ap (λ (r : Done). only_if (ltb d 64) (NoSuchDestination d) r) (lift_only n (not (v.gate m)) (GateOpen m) (Ok tt) ∙ ap (λ t. only_if (not t) (GateOpen n) (Ok tt)) is.gate))

  pub put_lifts : (d c l : ℕ) → lifted n (put_answer v m d c l) ≡ put_answer u n d c l
  put_lifts d c l =
      lift_after n (clear_answer v m d) _
      ∙ ap₂ (λ (a b : Done). after a (λ _. b)) (clear_lifts d) (lift_only n (v.own m c) (NotOwn m) _ ∙ ap₂ (λ (t : Bool) (r : Done). only_if t (NotOwn n) r) (is.own c) (lift_only n (ltb l 8) (NoSuchLayer l) (Ok tt)))

-- a change below is one above: F is the bank above, by the one below
pub changed_both : (F : View → View) (n : ℕ) (a b : Done) (v new new' : View) → lifted n a ≡ b → F new ≡ new' → F (if_done a new v) ≡ if_done b new' (F v)
changed_both F n (Ok x) (Ok y) v new new' l e = e
changed_both F n (Ok x) (Err f) v new new' l e = search rules
changed_both F n (Err f) (Ok y) v new new' l e = search rules
changed_both F n (Err f) (Err g) v new new' l e = refl

-- what holds where a test lets an answer through
pub let_through : {X : Type 0} (b : Bool) (f : Fault) (x y : X) → Ok x ≡ only_if b f (Ok y) → (b ≡ true) × (x ≡ y)
let_through true f x y e = (refl, cc)
let_through false f x y e = search rules
