use Rattle.std.proofs.Common.{sym, ◌∙◌, subst}
use Rattle.wiring.specs.Networks.{net}
use Rattle.wiring.specs.Owned.{Owns}
use Rattle.wiring.proofs.HeldLaws.{valid}
use Rattle.wiring.proofs.LaidLaws.{own_laws}
use Rattle.wiring.proofs.networks.Network.own.Goals as goal

pub returns : goal.returns
returns c =
    let n = c.args.self.now in
    let same = c.own.ensures ∙ n.laid c.args.node in
    record { answer = same; exact = subst (Owns (net n) c.args.node) (sym same) (own_laws (net n) (valid n.wiring.now) c.args.node) }
