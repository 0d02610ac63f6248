use Rattle.std.proofs.Common.{arith}
use Rattle.cr_sequence.proofs.Parts.{fill_done}
use Rattle.cr_sequence.proofs.sequence.fill_stretch.Goals as goal

pub returns-then-whole-clause-done : goal.returns-then-whole-clause-done
returns-then-whole-clause-done g c = λ _.
    fill_done c.args.count c.args.flat.now.items c.args.parts.now.items c.fill_at.new.parts.items c.args.from c.args.size _ _ c.args.value c.requires.counted
    c.placed-number.ensures.number c.placed-number.ensures.place (omega arith) (c.has_stretch-whole.ensures c.if-whole.true) c.fill_at.ensures
