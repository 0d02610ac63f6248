use Rattle.std.proofs.Common.{ap, ◌∙◌}
use Rattle.cr_sequence.proofs.Parts.{one_part}
use Rattle.cr_sequence.proofs.sequence.pattern_at.Goals as goal

pub returns : goal.returns
returns g c = λ part is.
    rw (← one_part c.args.parts.now.items c.args.number c.index.result.now part c.requires c.index.ensures is) c.pattern.ensures
