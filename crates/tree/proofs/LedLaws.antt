-- Laws of routes that a list of channels, one for each node, leads along.
use Rattle.std.proofs.Common.{◌≡◌, ℕ, zero, suc, ◌<◌, ◌≤◌, ◌⊎◌, List, [], ◌∷◌, get_or, Some, None, Option, sym, refl, ap, ◌∙◌, subst, inl, inr, arith}
use Rattle.std.specs.List.{AllByRecursion}
use Rattle.std.proofs.ByRecursion.{All-weaker}
use Rattle.std.proofs.lemmas.Bool.{cases_eq}
use Rattle.wiring.specs.Topologies.{Topology, from, into}
use Rattle.wiring.proofs.TopologyLaws.{none_some}
use Rattle.plan_check.specs.Routes.{visits, Distinct}
use Rattle.plan_check.proofs.RouteLaws.{apart_from}
use Rattle.tree.specs.Escapes.{Led, there, onward}

-- there is one route from each node where d has no channel
same_from : {w : Topology} {vs : List (Option ℕ)} {d n m : ℕ} {cs ds : List ℕ} → get_or vs d None ≡ None → n ≡ m → Led w vs d n cs → Led w vs d m ds → cs ≡ ds
same_from e p there there = refl
same_from {vs} e p there (onward f g r) = absurd (none_some (ap (λ x. get_or vs x None) (sym p) ∙ e) f)
same_from {vs} e p (onward f g r) there = absurd (none_some (ap (λ x. get_or vs x None) p ∙ e) f)
same_from {w} {vs} {d} e p (onward {n} {c} f g r) (onward {n = m} {c = b} {cs = bs} k l q) =
    let z = ap (λ x. get_or vs x None) p in
    let s : c ≡ b = cc in
    ap (λ x. c ∷ x) (same_from e (ap (into w) s) r q) ∙ ap (λ x. x ∷ bs) s

pub led_same : {w : Topology} {vs : List (Option ℕ)} {d n : ℕ} {cs ds : List ℕ} → get_or vs d None ≡ None → Led w vs d n cs → Led w vs d n ds → cs ≡ ds
led_same e = same_from e refl

-- where the measure falls along every channel, the channels lead to d and no node is visited twice
pub leads_by : (w : Topology) (vs : List (Option ℕ)) (d : ℕ) (M : ℕ → ℕ)
    → ((n : ℕ) → n < w.nodes → (n ≡ d → ⊥) → (c : ℕ) × (get_or vs n None ≡ Some c) × (from w c ≡ n) × (into w c < w.nodes) × (M (into w c) < M n))
    → (k n : ℕ) → M n < k → n < w.nodes → (cs : List ℕ) × Led w vs d n cs × Distinct (visits w n cs) × AllByRecursion (λ x. M x ≤ M n) (visits w n cs)
leads_by w vs d M each zero n l h = absurd (omega arith)
leads_by w vs d M each (suc k) n l h = at (cases_eq n d) (λ m a b. leads_by w vs d M each k m a b)
  where
    at : (n ≡ d) ⊎ (n ≡ d → ⊥) → ((m : ℕ) → M m < k → m < w.nodes → (cs : List ℕ) × Led w vs d m cs × Distinct (visits w m cs) × AllByRecursion (λ x. M x ≤ M m) (visits w m cs))
        → (cs : List ℕ) × Led w vs d n cs × Distinct (visits w n cs) × AllByRecursion (λ x. M x ≤ M n) (visits w n cs)
    at (inl q) rest = ([], subst (λ x. Led w vs d x []) (sym q) there, (tt, tt), (omega arith, tt))
    at (inr q) rest =
        let p = each n h q in
        let f = p.4 in
        let m = into w p.0 in
        let r = rest m (omega arith) p.3 in
        (p.0 ∷ r.0, onward p.1 p.2 r.1, (apart_from M n (M m) (visits w m r.0) r.3 f, r.2), (omega arith, All-weaker (λ x. M x ≤ M m) (λ x. M x ≤ M n) (λ x i. omega arith) (visits w m r.0) r.3))

-- lists that give the same channels lead along the same routes
pub led_along : {w : Topology} {vs us : List (Option ℕ)} {d n : ℕ} {cs : List ℕ} → ((m : ℕ) → get_or vs m None ≡ get_or us m None) → Led w vs d n cs → Led w us d n cs
led_along same there = there
led_along same (onward {n} {c} e f r) = onward (sym (same n) ∙ e) f (led_along same r)
