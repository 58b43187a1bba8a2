-- Routes arrive: where a plan passes, the cells lead from every node to every destination, and no route visits a node twice.
use Rattle.std.proofs.Common.{◌≡◌, ℕ, zero, suc, ◌<◌, ◌≤◌, cond, eqb, List, [], ◌∷◌, sym, refl, ap, ◌∙◌, subst, ap₂, ⊎_elim, arith}
use Rattle.std.specs.List.{AllByRecursion}
use Rattle.std.proofs.ByRecursion.{All-weaker}
use Rattle.std.proofs.lemmas.Bool.{eq-eqb, ne_eqb, cond-true, cond-false, cases_eq}
use Rattle.wiring.specs.Topologies.{Topology, Valid, from, into}
use Rattle.wiring.specs.declared.table.Cell.{Cell}
use Rattle.wiring.specs.declared.table.Cell.TheVariants.{Empty, Hop}
use Rattle.wiring.specs.Tables.{Table}
use Rattle.plan_check.specs.Rules.{layer_of, Depends, Passes, deps_in}
use Rattle.plan_check.specs.Routes.{Route, there, onward, visits, Apart, Distinct, AllLead}
use Rattle.plan_check.proofs.CycleLaws.{depth, depth_falls}
use Rattle.plan_check.proofs.CheckLaws.{Onward, onward_at, into_within, depends_listed, passes_acyclic, same_hop}

pub onward_depends : (w : Topology) (t : Table) (d n : ℕ) → d < w.nodes → (a : Onward w t d n) → (into w a.channel ≡ d → ⊥) → (b : Onward w t d (into w a.channel)) → Depends w t (layer_of t d) a.channel b.channel
onward_depends w t d n l a ne b = record { dest = d; known = l; layer = refl; here = ap (t d) a.starts_here ∙ a.cell; short = ne; next = b.cell }

-- how deep a channel lies among the dependencies of a layer
abbrev pub deep : Topology → Table → ℕ → ℕ → ℕ
deep w t v c = depth (deps_in w t v) c

pub deep_falls : (w : Topology) (t : Table) → Valid w → Passes w t → (v : ℕ) → v < w.layers → (c e : ℕ) → Depends w t v c e → deep w t v e < deep w t v c
deep_falls w t ok p v l c e h = depth_falls (deps_in w t v) (passes_acyclic w t ok p v l) c e (depends_listed w t c e ok v h)

abbrev channel_in : Cell → ℕ
channel_in Empty = 0
channel_in (Hop c v) = c

-- falls along every route to d
abbrev far : Topology → Table → ℕ → ℕ → ℕ
far w t d n = cond (eqb n d) 0 (suc (deep w t (layer_of t d) (channel_in (t d n))))

far_there : (w : Topology) (t : Table) (d n : ℕ) → n ≡ d → far w t d n ≡ 0
far_there w t d n q = cond-true _ _ _ (eq-eqb n d q)

far_short : (w : Topology) (t : Table) (d n : ℕ) → (n ≡ d → ⊥) → (a : Onward w t d n) → far w t d n ≡ suc (deep w t (layer_of t d) a.channel)
far_short w t d n ne a = cond-false _ _ _ (ne_eqb n d ne) ∙ ap (λ x. suc (deep w t (layer_of t d) (channel_in x))) a.cell

pub apart_from : (f : ℕ → ℕ) (n b : ℕ) (xs : List ℕ) → AllByRecursion (λ x. f x ≤ b) xs → b < f n → Apart n xs
apart_from f n b [] a l = tt
apart_from f n b (x ∷ xs) a l = (λ q. let r = ap f q in let s = a.0 in omega arith, apart_from f n b xs a.1 l)

module _ (w : Topology) (t : Table) (ok : Valid w) (p : Passes w t) (d : ℕ) (known : d < w.nodes) where
  onward_here : (n : ℕ) → n < w.nodes → (n ≡ d → ⊥) → Onward w t d n
  onward_here n l ne = onward_at w t d n (p.each d n known l) (λ q. ne (sym q))

  far_falls : (n : ℕ) → n < w.nodes → (n ≡ d → ⊥) → (a : Onward w t d n) → far w t d (into w a.channel) < far w t d n
  far_falls n l ne a = ⊎_elim near on (cases_eq (into w a.channel) d)
    where
      near : into w a.channel ≡ d → far w t d (into w a.channel) < far w t d n
      near q = let r = far_there w t d (into w a.channel) q in let s = far_short w t d n ne a in omega arith

      on : (into w a.channel ≡ d → ⊥) → far w t d (into w a.channel) < far w t d n
      on ne' =
          let b = onward_here (into w a.channel) (into_within w ok a.channel a.within) ne' in
          let r = far_short w t d (into w a.channel) ne' b in
          let s = far_short w t d n ne a in
          let k = deep_falls w t ok p (layer_of t d) a.low a.channel b.channel (onward_depends w t d n known a ne' b) in
          omega arith

  abbrev Lead : ℕ → Type 0
  Lead n = (cs : List ℕ) × Route w t d n cs × Distinct (visits w n cs) × AllByRecursion (λ x. far w t d x ≤ far w t d n) (visits w n cs)

  lead : (k n : ℕ) → n < w.nodes → far w t d n < k → Lead n
  lead zero n l h = absurd (omega arith)
  lead (suc k) n l h = ⊎_elim stop (λ ne. let a = onward_here n l ne in let s = far_falls n l ne a in on ne a (lead k (into w a.channel) (into_within w ok a.channel a.within) (omega arith))) (cases_eq n d)
    where
      stop : n ≡ d → Lead n
      stop q = ([], subst (λ (x : ℕ). Route w t d x []) (sym q) there, (tt, tt), (omega arith, tt))

      on : (ne : n ≡ d → ⊥) (a : Onward w t d n) → Lead (into w a.channel) → Lead n
      on ne a (cs, r, distinct, near) =
          let m = into w a.channel in
          let s = far_falls n l ne a in
          let less = All-weaker (λ x. far w t d x ≤ far w t d m) (λ x. far w t d x ≤ far w t d n) (λ x i. omega arith) (visits w m cs) near in
          (a.channel ∷ cs, onward ne a.cell a.starts_here r, (apart_from (far w t d) n (far w t d m) (visits w m cs) near s, distinct), (omega arith, less))

one_leads : (w : Topology) (t : Table) → Valid w → Passes w t → (n d : ℕ) → n < w.nodes → d < w.nodes → (cs : List ℕ) × Route w t d n cs × Distinct (visits w n cs)
one_leads w t ok p n d l m = let r = lead w t ok p d m (suc (far w t d n)) n l (omega arith) in (r.0, r.1, r.2)

-- A route is settled by its start: so none visits a node twice.

-- what the first channel of a route says
pub record Ahead (w : Topology) (t : Table) (d n c : ℕ) (cs : List ℕ) : Type 0 where
  pub short : n ≡ d → ⊥
  pub layer : ℕ
  pub cell : t d n ≡ Hop c layer
  pub starts_here : from w c ≡ n
  pub rest : Route w t d (into w c) cs

pub ahead : (w : Topology) (t : Table) (d : ℕ) {n c : ℕ} {cs : List ℕ} → Route w t d n (c ∷ cs) → Ahead w t d n c cs
ahead w t d (onward {v = v} ne q f r) = record { short = ne; layer = v; cell = q; starts_here = f; rest = r }

pub ended : (w : Topology) (t : Table) (d : ℕ) {n : ℕ} → Route w t d n [] → n ≡ d
ended w t d there = refl

pub route_unique : (w : Topology) (t : Table) (d n : ℕ) (cs es : List ℕ) → Route w t d n cs → Route w t d n es → cs ≡ es
route_unique w t d n [] [] r s = refl
route_unique w t d n [] (e ∷ es) r s = absurd ((ahead w t d s).short (ended w t d r))
route_unique w t d n (c ∷ cs) [] r s = absurd ((ahead w t d r).short (ended w t d s))
route_unique w t d n (c ∷ cs) (e ∷ es) r s =
    let a = ahead w t d r in
    let b = ahead w t d s in
    let q : c ≡ e = (same_hop _ _ _ _ (sym a.cell ∙ b.cell)).0 in
    ap₂ ◌∷◌ q (route_unique w t d (into w c) cs es a.rest (subst (λ (x : ℕ). Route w t d (into w x) es) (sym q) b.rest))

pub route_distinct : (w : Topology) (t : Table) → Valid w → Passes w t → (n d : ℕ) → n < w.nodes → d < w.nodes → (cs : List ℕ) → Route w t d n cs → Distinct (visits w n cs)
route_distinct w t ok p n d l m cs r = let a = one_leads w t ok p n d l m in subst (λ (x : List ℕ). Distinct (visits w n x)) (route_unique w t d n a.0 cs a.1 r) a.2

pub routes_arrive : (w : Topology) (t : Table) → Valid w → Passes w t → AllLead w t
routes_arrive w t ok p n d l m = let r = one_leads w t ok p n d l m in ((r.0, r.1), λ cs q. route_distinct w t ok p n d l m cs q)
