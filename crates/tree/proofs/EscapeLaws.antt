-- The escape routes of a valid wiring.
use Rattle.std.proofs.Common.{◌≡◌, ℕ, suc, ◌<◌, true, List, length, get_or, set, Some, None, Option, sym, refl, ap, ◌∙◌, subst, arith}
use Rattle.std.specs.List.{AllByRecursion}
use Rattle.std.proofs.ByRecursion.{All-get_or}
use Rattle.std.proofs.lemmas.List.{length-set}
use Rattle.wiring.specs.Topologies.{Topology, channels, partner, from, into, Valid}
use Rattle.wiring.specs.Levels.{padded}
use Rattle.wiring.proofs.TopologyLaws.{inside_of, into_inside}
use Rattle.plan_check.specs.Cycles.{Cycle, has}
use Rattle.plan_check.specs.Routes.{visits, Distinct}
use Rattle.plan_check.proofs.CycleLaws.{no_cycle_by_rank}
use Rattle.tree.specs.Ups.{up_channels}
use Rattle.tree.specs.Escapes.{descend, escape_routes, Known, Led, UpThenDown, AllClimb, AllEscape}
use Rattle.tree.specs.Dependencies.{escape_deps, Next}
use Rattle.tree.proofs.UpLaws.{level, ups_up, others_have_one, level_below, level_most, level_is, up_leads, ups_long}
use Rattle.tree.proofs.LedLaws.{led_same, led_along}
use Rattle.tree.proofs.RoomLaws.{get_or_padded, unset_padded}
use Rattle.tree.proofs.DescentLaws.{known_unset, descend_known, descend_enough, descend_padded, descend_up}
use Rattle.tree.proofs.WayLaws.{Tree, descend_long, tree_none, tree_some, tree_kind, kind_known, kind_leaves}
use Rattle.tree.proofs.RankLaws.{rank, rank_rises, tree_leads, tree_up_then_down}
use Rattle.tree.proofs.DependencyLaws.{escape_deps_only}

pub escape_long : (w : Topology) (root d : ℕ) → length (escape_routes w (up_channels w root) d) ≡ w.nodes
escape_long w root d = descend_long w (up_channels w root) w.nodes d (set (up_channels w root) d None) ∙ length-set (up_channels w root) d None ∙ ups_long w root

module _ (w : Topology) (root : ℕ) (v : Valid w) (r : root < w.nodes) where
  of_ups : Tree w root (up_channels w root) (level w root)
  of_ups = record {
    long = ups_long w root;
    other = λ n h ne. let p = others_have_one w root v r n h ne in (p.0, p.1);
    here = λ n c e. (ups_up w root n c e).here;
    known = λ n c e. (ups_up w root n c e).known;
    leaves = λ n c e. (ups_up w root n c e).leaves;
    rises = λ n c e. (ups_up w root n c e).nearer_by_one;
    reaches = λ n c e. into_inside w (inside_of v) c (ups_up w root n c e).known;
    small = level_below w root v r;
  }

  module _ (d : ℕ) (h : d < w.nodes) where
    -- the destination has no channel, and every other node one that starts there
    pub none_at_end : get_or (escape_routes w (up_channels w root) d) d None ≡ None
    none_at_end = tree_none of_ups d h

    pub route_channel : (n : ℕ) → n < w.nodes → (n ≡ d → ⊥)
        → (c : ℕ) × (get_or (escape_routes w (up_channels w root) d) n None ≡ Some c) × (c < channels w) × (from w c ≡ n)
    route_channel n l ne =
        let p = tree_some of_ups d n h l ne in
        let k = tree_kind of_ups d n p.0 h p.1 in
        (p.0, p.1, kind_known of_ups k, kind_leaves of_ups k)

    -- the channels lead from every node to d, and no node is visited twice
    pub escape_routes_lead : (n : ℕ) → n < w.nodes → (cs : List ℕ) × Led w (escape_routes w (up_channels w root) d) d n cs × Distinct (visits w n cs)
    escape_routes_lead n l = tree_leads of_ups v.few_nodes d n h l

    pub first_up_then_down : {n : ℕ} {cs : List ℕ} → Led w (escape_routes w (up_channels w root) d) d n cs → UpThenDown w (up_channels w root) cs
    first_up_then_down = tree_up_then_down of_ups d h

    -- the rank rises along each dependency of a route
    pub next_rises : (n c e : ℕ) → Next w (escape_routes w (up_channels w root) d) n c e → rank (level w root) w c < rank (level w root) w e
    next_rises n c e p = rank_rises of_ups v.few_nodes d n c e h p.0 p.1

  pub escape_deps_rise : (ds : List ℕ) → AllByRecursion (λ d. d < w.nodes) ds → (c e : ℕ) → has c e (escape_deps w (up_channels w root) ds) ≡ true
      → rank (level w root) w c < rank (level w root) w e
  escape_deps_rise ds a c e h =
      let p = escape_deps_only w (up_channels w root) ds c e h in
      next_rises (get_or ds p.0 0) (All-get_or (λ d. d < w.nodes) ds p.0 0 p.1 a) p.2 c e p.4

  pub escape_deps_no_cycle : (ds : List ℕ) → AllByRecursion (λ d. d < w.nodes) ds → Cycle (λ c e. has c e (escape_deps w (up_channels w root) ds) ≡ true) → ⊥
  escape_deps_no_cycle ds a = no_cycle_by_rank (λ c e. has c e (escape_deps w (up_channels w root) ds) ≡ true) (rank (level w root) w) (escape_deps_rise ds a)

-- ---- in room for 64, below any root

module _ (w : Topology) (root : ℕ) (v : Valid w) where
  ups_inside : (m c : ℕ) → get_or (up_channels w root) m None ≡ Some c → into w c < w.nodes
  ups_inside m c e = into_inside w (inside_of v) c (ups_up w root m c e).known

  ups_rise : (m c : ℕ) → get_or (up_channels w root) m None ≡ Some c → suc (level w root (into w c)) ≡ level w root m
  ups_rise m c e = (ups_up w root m c e).nearer_by_one

  pub ups_known : Known w (up_channels w root)
  ups_known n c e = let u = ups_up w root n c e in (u.known, u.leaves)

  -- every channel of a route is one of the wiring and starts at its node
  pub escape_known : (d : ℕ) → Known w (escape_routes w (up_channels w root) d)
  escape_known d = descend_known w (up_channels w root) ups_known w.nodes d _ (known_unset w (up_channels w root) d ups_known)

  pub all_climb : AllClimb w root (padded (up_channels w root))
  all_climb r n h =
      let p = up_leads w root v r (level w root n) n refl h in
      (level w root n, level_is w root v r n h, p.0, led_along (λ m. sym (get_or_padded (up_channels w root) m)) p.1, p.2)

  -- the descent from d
  pub descent_begins : (d : ℕ) (vs : List (Option ℕ)) → vs ≡ set (padded (up_channels w root)) d None
      → descend w (up_channels w root) (level w root d) d vs ≡ padded (escape_routes w (up_channels w root) d)
  descent_begins d vs e =
      let us = up_channels w root in
      descend_enough w us (level w root) ups_rise (level w root d) w.nodes d vs (omega arith) (level_most w root v d)
      ∙ ap (descend w us w.nodes d) (e ∙ unset_padded us d)
      ∙ descend_padded w us ups_inside w.nodes d (set us d None) (length-set us d None ∙ ups_long w root)

  pub descent_goes_on : (m c : ℕ) (vs : List (Option ℕ)) → get_or (up_channels w root) m None ≡ Some c
      → descend w (up_channels w root) (level w root m) m vs ≡ descend w (up_channels w root) (level w root (into w c)) (into w c) (set vs (into w c) (Some (partner c)))
  descent_goes_on m c vs e = descend_up w (up_channels w root) (level w root) ups_rise m c vs e

  pub all_escape : (d : ℕ) → AllEscape w root (up_channels w root) d (padded (escape_routes w (up_channels w root) d))
  all_escape d r h n l =
      let vs = escape_routes w (up_channels w root) d in
      let p = escape_routes_lead w root v r d h n l in (
        (p.0, led_along (λ m. sym (get_or_padded vs m)) p.1),
        λ cs q.
            let q' = led_along (get_or_padded vs) q in
            record {
              distinct = subst (λ (xs : List ℕ). Distinct (visits w n xs)) (led_same (none_at_end w root v r d h) p.1 q') p.2;
              shape = first_up_then_down w root v r d h q';
            },
      )
