-- No packets wait in a circle: where a plan passes, one of every nonempty set of stalled packets is blocked by no other of them.
use Rattle.std.proofs.Common.{◌≡◌, ℕ, zero, suc, ◌<◌, ◌≤◌, ◌⊎◌, List, [], ◌∷◌, ◌++◌, length, get_or, sym, refl, ap, ◌∙◌, subst, inl, inr, ⊎_elim, arith}
use Rattle.std.proofs.lemmas.List.{get_or_default}
use Rattle.std.proofs.lemmas.Bool.{cases_lt}
use Rattle.wiring.specs.Topologies.{Topology, Valid, channels, from, into}
use Rattle.wiring.specs.declared.table.Cell.TheVariants.{Hop}
use Rattle.wiring.specs.Tables.{Table}
use Rattle.plan_check.specs.Rules.{layer_of, Depends, Passes}
use Rattle.plan_check.specs.Routes.{Route}
use Rattle.plan_check.specs.Packets.{Packet, held, last_of, last, Stalled, In, now', later, Blocks, Each, NoDeadlock}
use Rattle.plan_check.proofs.CheckLaws.{onward_from, into_within, same_hop}
use Rattle.plan_check.proofs.RouteLaws.{ahead, deep, deep_falls}

in_cases : (x y : ℕ) (ys : List ℕ) → In x (y ∷ ys) → (x ≡ y) ⊎ In x ys
in_cases x y ys now' = inl refl
in_cases x y ys (later k) = inr k

-- c stands in its own cell for d, in the layer of d
record Laid (w : Topology) (t : Table) (d c : ℕ) : Type 0 where
  pub within : c < channels w
  pub cell : t d (from w c) ≡ Hop c (layer_of t d)
  pub low : layer_of t d < w.layers

-- each channel depends on the next
abbrev Steps : Topology → Table → ℕ → ℕ → List ℕ → Type 0
Steps w t v c [] = Unit {0}
Steps w t v c (e ∷ es) = Depends w t v c e × Steps w t v e es

-- how deep a packet's last channel lies in the packet's layer
abbrev lies : Topology → Table → Packet → ℕ
lies w t q = deep w t (layer_of t q.dest) (last q)

module _ (w : Topology) (t : Table) (ok : Valid w) (p : Passes w t) where
  module _ (d : ℕ) (known : d < w.nodes) where
    laid : (n c : ℕ) (cs : List ℕ) → n < w.nodes → Route w t d n (c ∷ cs) → Laid w t d c
    laid n c cs l r =
        let a = ahead w t d r in
        let b = onward_from w t p.each d n c a.layer known l a.cell in
        let q : b.channel ≡ c = (same_hop _ _ _ _ (sym b.cell ∙ a.cell)).0 in
        record { within = subst (λ (x : ℕ). x < channels w) q b.within; cell = ap (t d) a.starts_here ∙ b.cell ∙ ap (λ x. Hop x (layer_of t d)) q; low = b.low }

    -- a laid channel depends on what the cell at its end holds
    laid_depends : (c e v : ℕ) → Laid w t d c → (into w c ≡ d → ⊥) → t d (into w c) ≡ Hop e v → Depends w t (layer_of t d) c e
    laid_depends c e v a ne q =
        let b = onward_from w t p.each d (into w c) e v known (into_within w ok c a.within) q in
        let i : b.channel ≡ e = (same_hop _ _ _ _ (sym b.cell ∙ q)).0 in
        record { dest = d; known = known; layer = refl; here = a.cell; short = ne; next = b.cell ∙ ap (λ x. Hop x (layer_of t d)) i }

    route_from : (before cs : List ℕ) (n : ℕ) → n < w.nodes → Route w t d n (before ++ cs) → (m : ℕ) × (m < w.nodes) × Route w t d m cs
    route_from [] cs n l r = (n, l, r)
    route_from (x ∷ xs) cs n l r = route_from xs cs (into w x) (into_within w ok x (laid n x (xs ++ cs) l r).within) (ahead w t d r).rest

    route_last : (n c : ℕ) (cs beyond : List ℕ) → n < w.nodes → Route w t d n (c ∷ (cs ++ beyond)) → Laid w t d (last_of c cs)
    route_last n c [] beyond l r = laid n c beyond l r
    route_last n c (e ∷ es) beyond l r = route_last (into w c) e es beyond (into_within w ok c (laid n c (e ∷ (es ++ beyond)) l r).within) (ahead w t d r).rest

    route_steps : (n c : ℕ) (cs beyond : List ℕ) → n < w.nodes → Route w t d n (c ∷ (cs ++ beyond)) → Steps w t (layer_of t d) c cs
    route_steps n c [] beyond l r = tt
    route_steps n c (e ∷ es) beyond l r =
        let a = laid n c (e ∷ (es ++ beyond)) l r in
        let s = (ahead w t d r).rest in
        let b = ahead w t d s in
        (laid_depends c e b.layer a b.short b.cell, route_steps (into w c) e es beyond (into_within w ok c a.within) s)

  -- of consecutive channels the last lies lowest
  last_lowest : (v : ℕ) → v < w.layers → (c : ℕ) (cs : List ℕ) → Steps w t v c cs → (x : ℕ) → In x (c ∷ cs) → deep w t v (last_of c cs) ≤ deep w t v x
  last_lowest v l c [] s x i = ⊎_elim (λ q. let r = ap (deep w t v) q in omega arith) (λ k. elim k [ ]) (in_cases x c [] i)
  last_lowest v l c (e ∷ es) s x i = ⊎_elim (λ q. let r = ap (deep w t v) q in let a = last_lowest v l e es s.1 e now' in let b = deep_falls w t ok p v l c e s.0 in omega arith) (last_lowest v l e es s.1 x) (in_cases x c (e ∷ es) i)

  -- what blocks a packet lies lower
  blocker_lower : (a b : Packet) → Stalled w t a → Stalled w t b → Blocks w t b a → lies w t b < lies w t a
  blocker_lower a b x y k =
      let (m, i, r) = route_from a.dest x.known.0 x.before (held a ++ x.beyond) x.source x.known.1 x.route in
      let (n, j, s) = route_from b.dest y.known.0 y.before (held b ++ y.beyond) y.source y.known.1 y.route in
      let f = route_last a.dest x.known.0 m a.first a.rest x.beyond i r in
      let u = deep_falls w t ok p (layer_of t a.dest) f.low (last a) k.next (laid_depends a.dest x.known.0 (last a) k.next k.layer f k.short k.takes) in
      let z = last_lowest (layer_of t b.dest) (route_last b.dest y.known.0 n b.first b.rest y.beyond j s).low b.first b.rest (route_steps b.dest y.known.0 n b.first b.rest y.beyond j s) k.next k.holds in
      let e = ap (λ v. deep w t v k.next) k.same in
      omega arith

-- Of a nonempty list one has the least of a measure.

least : (f : Packet → ℕ) (p : Packet) (ps : List Packet) → (k : ℕ) × (k < length (p ∷ ps)) × ((j : ℕ) → j < length (p ∷ ps) → (any : Packet) → f (get_or (p ∷ ps) k any) ≤ f (get_or (p ∷ ps) j any))
least f p [] = (0, omega arith, one)
  where
    one : (j : ℕ) → j < 1 → (any : Packet) → f p ≤ f (get_or (p ∷ []) j any)
    one zero l any = omega arith
    one (suc j) l any = absurd (omega arith)
least f p (q ∷ qs) = go (least f q qs)
  where
    Least : ℕ → Type 0
    Least k = (j : ℕ) → j < suc (length (q ∷ qs)) → (any : Packet) → f (get_or (p ∷ q ∷ qs) k any) ≤ f (get_or (p ∷ q ∷ qs) j any)

    new : (k : ℕ) → k < length (q ∷ qs) → ((j : ℕ) → j < length (q ∷ qs) → (any : Packet) → f (get_or (q ∷ qs) k any) ≤ f (get_or (q ∷ qs) j any)) → f p ≤ f (get_or (q ∷ qs) k p) → Least 0
    new k l h m zero i any = omega arith
    new k l h m (suc j) i any = let a = h j (omega arith) any in let b = ap f (get_or_default (q ∷ qs) k p any l) in omega arith

    old : (k : ℕ) → k < length (q ∷ qs) → ((j : ℕ) → j < length (q ∷ qs) → (any : Packet) → f (get_or (q ∷ qs) k any) ≤ f (get_or (q ∷ qs) j any)) → f (get_or (q ∷ qs) k p) < f p → Least (suc k)
    old k l h m zero i any = let b = ap f (get_or_default (q ∷ qs) k p any l) in omega arith
    old k l h m (suc j) i any = h j (omega arith) any

    go : (k : ℕ) × (k < length (q ∷ qs)) × ((j : ℕ) → j < length (q ∷ qs) → (any : Packet) → f (get_or (q ∷ qs) k any) ≤ f (get_or (q ∷ qs) j any)) → (k : ℕ) × (k < suc (length (q ∷ qs))) × Least k
    go r = ⊎_elim (λ m. (suc r.0, let l = r.1 in omega arith, old r.0 r.1 r.2 m)) (λ m. (0, omega arith, new r.0 r.1 r.2 m)) (cases_lt (f (get_or (q ∷ qs) r.0 p)) (f p))

each_at : (P : Packet → Type 0) (ps : List Packet) → Each P ps → (j : ℕ) → j < length ps → (any : Packet) → P (get_or ps j any)
each_at P [] e j l any = absurd (omega arith)
each_at P (p ∷ ps) e zero l any = e.0
each_at P (p ∷ ps) e (suc j) l any = each_at P ps e.1 j (omega arith) any

pub no_deadlock : (w : Topology) (t : Table) → Valid w → Passes w t → NoDeadlock w t
no_deadlock w t ok p a rest stalled =
    let (k, l, h) = least (lies w t) a rest in
    let at = each_at (Stalled w t) (a ∷ rest) stalled in
    record {
      one = k;
      within = l;
      free = λ j i ne any b. let x = h j i any in let y = blocker_lower w t ok p (get_or (a ∷ rest) k any) (get_or (a ∷ rest) j any) (at k l any) (at j i any) b in omega arith;
    }
