use Rattle.std.proofs.Common.{ℕ, List, get_or, None, Option, sym, ap, ◌∙◌}
use Rattle.wiring.proofs.HeldLaws.{valid}
use Rattle.tree.specs.Trees.{net_of, ups_of}
use Rattle.tree.proofs.RoomLaws.{get_or_padded}
use Rattle.tree.proofs.UpLaws.{up_lowest}
use Rattle.tree.proofs.trees.EscapeTree.up.Goals as goal

pub returns-clause-lowest : goal.returns-clause-lowest
returns-clause-lowest c =
    let t = c.args.self.now in
    let e = c.at_node.ensures ∙ ap (λ (us : List (Option ℕ)). get_or us c.args.node None) t.climbs ∙ get_or_padded (ups_of t) c.args.node in
    up_lowest (net_of t) t.root (valid t.wiring.now) c.args.node _ (sym e)
