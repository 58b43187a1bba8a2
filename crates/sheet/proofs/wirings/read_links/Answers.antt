use Rattle.std.proofs.Common.{◌+◌, map, take, set, ap, ◌∙◌, arith}
use Rattle.std.proofs.lemmas.List.{length-set}
use Rattle.wiring.specs.declared.links.Link.{Link}
use Rattle.wiring.specs.Links.{ends_of}
use Rattle.sheet.proofs.WiringLaws.{links_more, pair_is}
use Rattle.sheet.proofs.wirings.read_links.Goals as goal

pub loop-place-preserved : goal.loop-place-preserved
loop-place-preserved c =
    let l = c.loop-place in (
      ap (λ (x : Link). map ends_of (take (l.place + 1) (set l.links l.place x))) (c.new.ensures ∙ pair_is c.args.body.now c.as_chunks.result.0.now _ l.place c.as_chunks.ensures.front (omega arith)) ∙ links_more c.args.body.now l.links l.place (omega arith) l.invariant.0,
      length-set l.links l.place _ ∙ l.invariant.1,
    )
