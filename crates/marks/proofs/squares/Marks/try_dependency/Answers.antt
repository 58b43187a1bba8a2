use Rattle.std.proofs.Common.{◌≡◌, ◌<◌, sym, ap, ◌∙◌, arith}
use Rattle.wiring.specs.Topologies.{channels}
use Rattle.wiring.specs.Networks.{net}
use Rattle.wiring.proofs.LaidLaws.{few_channels}
use Rattle.marks.specs.declared.kinds.Mark.TheVariants.{Unused}
use Rattle.marks.specs.Marked.{marked}
use Rattle.marks.specs.Tries.{Tried}
use Rattle.marks.proofs.MarkedLaws.{in_square_from}
use Rattle.marks.proofs.TryLaws.{known_from, after_is, tried_unused, trial_of, trial_keeps}
use Rattle.marks.proofs.squares.Marks.try_dependency.Goals as goal

pub returns-in-Unused : goal.returns-in-Unused
returns-in-Unused c =
    let w = net c.args.network.now in
    let v = marked c.args.self.now in
    let x = c.args.dependency.channel in
    let y = c.args.dependency.on in
    let t = c.try_unused in
    let count : c.channels-channels.result ≡ channels w = c.channels-channels.ensures ∙ ap channels c.wiring.ensures in
    let few = few_channels c.args.network.now.wiring.now in
    let lx : x < channels w = omega arith in
    let ly : y < channels w = omega arith in
    let both = known_from w x y lx ly in
    let unused : v x y ≡ Unused = sym c.in-Unused.ensures in
    let answer : Tried w v x y t.result = tried_unused w v x y t.result (in_square_from x y (omega arith) (omega arith)) both unused t.ensures.closed t.ensures.free in
    let after = t.ensures.after ∙ sym (after_is w v x y t.result Unused both unused) in
    record {
      answer = answer;
      after = after;
      trial = trial_of w v _ x y t.result few answer after;
      keeps = trial_keeps w v _ x y t.result few answer after;
    }
