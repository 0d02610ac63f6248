use Rattle.std.proofs.Common.{◌∙◌}
use Rattle.cr_memory.proofs.Overwriting.{same_overwritten}
use Rattle.cr_memory.proofs.flat.write_over.Goals as goal

pub returns : goal.returns
returns c = c.overwrite.ensures ∙ same_overwritten c.args.cells.now c.args.target c.args.values.now
