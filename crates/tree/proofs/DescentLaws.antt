-- The descent along the tree, one node at a time and in room for 64, below any root.
use Rattle.std.proofs.Common.{◌≡◌, ℕ, zero, suc, ◌<◌, ◌≤◌, ◌⊎◌, List, length, get_or, set, Some, None, Option, sym, refl, ap, ◌∙◌, subst, inl, inr, arith}
use Rattle.std.proofs.lemmas.List.{length-set, get_or-set_same, get_or-set_other, set_past}
use Rattle.std.proofs.lemmas.Bool.{cases_eq, cases_lt}
use Rattle.wiring.specs.Topologies.{Topology, channels, partner, from, into}
use Rattle.wiring.specs.Levels.{padded}
use Rattle.wiring.proofs.TopologyLaws.{none_some, partner_below}
use Rattle.tree.specs.Escapes.{descend, Known}
use Rattle.tree.proofs.RoomLaws.{set_padded}

-- what is written at the node passed
abbrev passed : Topology → List (Option ℕ) → ℕ → List (Option ℕ)
passed w vs c = set vs (into w c) (Some (partner c))

known_set : (w : Topology) (vs : List (Option ℕ)) (i : ℕ) (o : Option ℕ) → Known w vs → ((c : ℕ) → o ≡ Some c → (c < channels w) × (from w c ≡ i)) → Known w (set vs i o)
known_set w vs i o K here n c e = at (cases_eq n i) (cases_lt i (length vs))
  where
    at : (n ≡ i) ⊎ (n ≡ i → ⊥) → (i < length vs) ⊎ (length vs ≤ i) → (c < channels w) × (from w c ≡ n)
    at (inr ne) l = K n c (sym (get_or-set_other vs i n o None ne) ∙ e)
    at (inl q) (inr l) = K n c (sym (ap (λ (xs : List (Option ℕ)). get_or xs n None) (set_past vs i o l)) ∙ e)
    at (inl q) (inl l) =
        let h = here c (sym (get_or-set_same vs i o None l) ∙ ap (λ x. get_or (set vs i o) x None) (sym q) ∙ e) in
        (h.0, h.1 ∙ sym q)

pub known_unset : (w : Topology) (vs : List (Option ℕ)) (i : ℕ) → Known w vs → Known w (set vs i None)
known_unset w vs i K = known_set w vs i None K (λ c e. absurd (none_some refl e))

module _ (w : Topology) (us : List (Option ℕ)) where
  -- where no channel goes up, the descent is over
  pub descend_end : (k m : ℕ) (vs : List (Option ℕ)) → get_or us m None ≡ None → descend w us k m vs ≡ vs
  descend_end zero m vs e = refl
  descend_end (suc k) m vs e = rw (e, descend)

  step : (k m c : ℕ) (vs : List (Option ℕ)) → get_or us m None ≡ Some c → descend w us (suc k) m vs ≡ descend w us k (into w c) (passed w vs c)
  step k m c vs e = rw (e, descend)

  pub descend_known : Known w us → (k m : ℕ) (vs : List (Option ℕ)) → Known w vs → Known w (descend w us k m vs)
  descend_known U zero m vs K = K
  descend_known U (suc k) m vs K = at (get_or us m None) refl (descend_known U k)
    where
      at : (o : Option ℕ) → get_or us m None ≡ o → ((m : ℕ) (vs : List (Option ℕ)) → Known w vs → Known w (descend w us k m vs))
          → Known w (elim o [ None ↦ vs | Some c ↦ descend w us k (into w c) (passed w vs c) ])
      at None e rest = K
      at (Some c) e rest =
          rest (into w c) (passed w vs c)
          (known_set w vs (into w c) (Some (partner c)) K (λ x q. let y : partner c ≡ x = cc in (subst (λ a. a < channels w) y (partner_below w c (U m c e).0), ap (from w) (sym y))))

  module _ (inside : (m c : ℕ) → get_or us m None ≡ Some c → into w c < w.nodes) where
    pub descend_padded : (k m : ℕ) (vs : List (Option ℕ)) → length vs ≡ w.nodes → descend w us k m (padded vs) ≡ padded (descend w us k m vs)
    descend_padded zero m vs l = refl
    descend_padded (suc k) m vs l = at (get_or us m None) refl (descend_padded k)
      where
        at : (o : Option ℕ) → get_or us m None ≡ o
            → ((m : ℕ) (vs : List (Option ℕ)) → length vs ≡ w.nodes → descend w us k m (padded vs) ≡ padded (descend w us k m vs))
            → ◌≡◌ {A = List (Option ℕ)} (elim o [ None ↦ padded vs | Some c ↦ descend w us k (into w c) (passed w (padded vs) c) ])
            (padded (elim o [ None ↦ vs | Some c ↦ descend w us k (into w c) (passed w vs c) ]))
        at None e rest = refl
        at (Some c) e rest =
            let h = inside m c e in
            ap (λ (xs : List (Option ℕ)). descend w us k (into w c) xs) (set_padded vs (into w c) (Some (partner c)) (omega arith))
            ∙ rest (into w c) (passed w vs c) (length-set vs (into w c) (Some (partner c)) ∙ l)

  module _ (lev : ℕ → ℕ) (rises : (m c : ℕ) → get_or us m None ≡ Some c → suc (lev (into w c)) ≡ lev m) where
    -- as many steps as the level do
    pub descend_enough : (j k m : ℕ) (vs : List (Option ℕ)) → lev m ≤ j → lev m ≤ k → descend w us j m vs ≡ descend w us k m vs
    descend_enough zero k m vs a b = sym (descend_end k m vs (none (get_or us m None) refl))
      where
        none : (o : Option ℕ) → get_or us m None ≡ o → get_or us m None ≡ None
        none None e = e
        none (Some c) e = let r = rises m c e in absurd (omega arith)
    descend_enough (suc j) zero m vs a b = descend_end (suc j) m vs (none (get_or us m None) refl)
      where
        none : (o : Option ℕ) → get_or us m None ≡ o → get_or us m None ≡ None
        none None e = e
        none (Some c) e = let r = rises m c e in absurd (omega arith)
    descend_enough (suc j) (suc k) m vs a b = at (get_or us m None) refl (descend_enough j k)
      where
        at : (o : Option ℕ) → get_or us m None ≡ o
            → ((m : ℕ) (vs : List (Option ℕ)) → lev m ≤ j → lev m ≤ k → descend w us j m vs ≡ descend w us k m vs)
            → descend w us (suc j) m vs ≡ descend w us (suc k) m vs
        at None e rest = descend_end (suc j) m vs e ∙ sym (descend_end (suc k) m vs e)
        at (Some c) e rest = let r = rises m c e in step j m c vs e ∙ rest (into w c) (passed w vs c) (omega arith) (omega arith) ∙ sym (step k m c vs e)

    pub descend_up : (m c : ℕ) (vs : List (Option ℕ)) → get_or us m None ≡ Some c → descend w us (lev m) m vs ≡ descend w us (lev (into w c)) (into w c) (passed w vs c)
    descend_up m c vs e = ap (λ k. descend w us k m vs) (sym (rises m c e)) ∙ step (lev (into w c)) m c vs e
