use Rattle.std.proofs.Common.{refl, ◌∙◌, arith}
use Rattle.std.proofs.lemmas.List.{length-set}
use Rattle.std.proofs.lemmas.Bool.{false≢true}
use Rattle.piles.proofs.SlotLaws.{marked_none, marked_more, marked_all, twice}
use Rattle.piles.proofs.mapping.permutes.Goals as goal

pub loop-slot-init : goal.loop-slot-init
loop-slot-init c = (refl, marked_none c.args.map.now 64)

pub returns-then-slot-ge64 : goal.returns-then-slot-ge64
returns-then-slot-ge64 c = ((λ e. absurd (false≢true e)), λ p. let h = p.0 c.loop-slot.slot-index (omega arith) in absurd (omega arith))

pub returns-then-seen-slot : goal.returns-then-seen-slot
returns-then-seen-slot c = let l = c.loop-slot in ((λ e. absurd (false≢true e)), λ p. absurd (twice c.args.map.now l.slot-index l.seen l.invariant.1 (omega arith) (omega arith) c.if-seen-slot.true p.1))

pub loop-slot-preserved : goal.loop-slot-preserved
loop-slot-preserved c =
    let l = c.loop-slot in
    let long = l.invariant.0 in
    (length-set l.seen _ _ ∙ long, marked_more c.args.map.now l.slot-index l.seen l.invariant.1 c.if-slot-ge64.false (omega arith) c.if-seen-slot.false)

pub returns : goal.returns
returns c = ((λ e. marked_all c.args.map.now c.loop-slot.slot-index c.loop-slot.seen (omega arith) c.loop-slot.invariant.1), λ p. refl)
