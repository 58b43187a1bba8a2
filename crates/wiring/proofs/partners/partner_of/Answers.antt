use Rattle.std.proofs.Common.{◌≡◌, ℕ, zero, suc, ◌<◌, true, eqb, ltb, List, [], ◌∷◌, get_or, is_some, Some, None, Option, sym, refl, ap, ◌∙◌, arith}
use Rattle.std.specs.Borrow.{Bor}
use Rattle.std.specs.Option.{option_copied, option_map, unwrap_or}
use Rattle.std.proofs.lemmas.Bool.{and_parts, eqb-true, ltb-true, lt-ltb, cond-true, cond-false}
use Rattle.wiring.specs.Topologies.{partner, partner_answer}
use Rattle.wiring.specs.Pairing.{Paired}
use Rattle.wiring.proofs.PairingLaws.{each_at, right}
use Rattle.wiring.proofs.partners.partner_of.Goals as goal

-- the table as its rule has it: n entries from k on
abbrev ruled : ℕ → ℕ → List ℕ
ruled zero k = []
ruled (suc n) k = partner k ∷ ruled n (suc k)

abbrev table : List ℕ
table = ruled 240 0

answer_at : (c p : ℕ) → c < 240 → p ≡ partner c → Some p ≡ partner_answer c
answer_at c p l e = ap Some e ∙ sym (cond-true (ltb c 240) (Some (partner c)) None (lt-ltb c 240 l))

-- an entry of the table, or none past its end
abbrev Told : ℕ → Option ℕ → Type 0
Told k o = (o ≡ partner_answer k) × Paired k o

told : (k : ℕ) (r : Option (Bor ℕ)) → is_some r ≡ ltb k 240 → unwrap_or (option_map (λ (x : Bor ℕ). x.now) r) 0 ≡ get_or table k 0 → Told k (option_copied r)
told k None past at = (sym (cond-false (ltb k 240) (Some (partner k)) None (sym past)), tt)
told k (Some x) inside at =
    let l : k < 240 = ltb-true k 240 (sym inside) in
    let all : right k (get_or table k 0) ≡ true = each_at right table refl k l in
    let entry : right k x.now ≡ true = ap (right k) at ∙ all in
    let is = and_parts (eqb x.now (partner k)) (_) entry in
    let twice = and_parts (ltb x.now 240) (eqb (partner x.now) k) is.1 in
    let within = ltb-true x.now 240 twice.0 in
    (answer_at k x.now l (eqb-true _ _ is.0), (within, sym (answer_at x.now k within (sym (eqb-true _ _ twice.1)))))

pub returns : goal.returns
returns c =
    let h = c.get.ensures.lookup in
    let t : Told c.args.channel c.copied.result = rw c.copied.ensures (told c.args.channel c.get.result h.0 (h.4 (omega arith) 0)) in
    record { answer = t.0; paired = t.1 }
