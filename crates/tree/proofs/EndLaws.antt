-- Every number, channel or not, is given a node as its end.
use Rattle.std.proofs.Common.{ℕ, ◌*◌, ◌/◌, ◌<◌, ◌≤◌, ⊎_elim, arith}
use Rattle.std.proofs.lemmas.Bool.{cases_lt}
use Rattle.std.proofs.lemmas.Bool.Decides.{nat_tests}
use Rattle.wiring.specs.declared.wirings.Wiring.{Wiring}
use Rattle.wiring.specs.Topologies.{channels, partner, into}
use Rattle.wiring.specs.Wirings.{topology}
use Rattle.wiring.proofs.HeldLaws.{valid, from_past}
use Rattle.wiring.proofs.TopologyLaws.{inside_of, into_inside}

partner_past : (c k : ℕ) → 2 * k ≤ c → k ≤ partner c / 2
partner_past c k l = grind (arith, nat_tests)

pub ends_at_node : (w : Wiring) (c : ℕ) → into (topology w) c < w.nodes
ends_at_node w c =
    ⊎_elim (into_inside (topology w) (inside_of (valid w)) c)
    (λ l. let pairs = w.pairs in let e = from_past w (partner c) (partner_past c w.count (omega arith)) in let some = (valid w).some_nodes in omega arith)
    (cases_lt c (channels (topology w)))

pub ends_low : (w : Wiring) (c : ℕ) → into (topology w) c < 64
ends_low w c = let a = ends_at_node w c in let few = w.few in omega arith
