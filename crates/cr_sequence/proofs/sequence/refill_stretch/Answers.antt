use Rattle.std.proofs.Common.{◌*◌, length, ap, sym, ◌∙◌, arith}
use Rattle.cr_sequence.specs.Kept.{repeated}
use Rattle.cr_sequence.proofs.Showing.{length-repeated}
use Rattle.cr_sequence.proofs.Parts.{refill_done}
use Rattle.cr_sequence.proofs.sequence.refill_stretch.Goals as goal

pub refill_at-requires-clause-whole : goal.refill_at-requires-clause-whole
refill_at-requires-clause-whole g c = λ part is.
    let size = c.has_stretch-whole.ensures c.if-whole.true part is in
    ap (λ n. c.args.times * n) (sym c.size_of-each.ensures) ∙ sym c.in-Some.ensures.1 ∙ sym size

pub returns-then-whole-clause-done : goal.returns-then-whole-clause-done
returns-then-whole-clause-done g c = λ _.
    refill_done c.args.count c.args.flat.now.items c.args.parts.now.items c.refill_at.new.parts.items c.args.from _ _ (repeated c.args.times c.args.pattern.items) c.requires.counted
    c.placed-number.ensures.number c.placed-number.ensures.place (omega arith)
    (λ part is. c.has_stretch-whole.ensures c.if-whole.true part is ∙ c.in-Some.ensures.1 ∙ ap (λ n. c.args.times * n) c.size_of-each.ensures
    ∙ sym (length-repeated c.args.times c.args.pattern.items)) c.refill_at.ensures
