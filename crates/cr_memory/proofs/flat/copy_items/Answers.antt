use Rattle.std.proofs.Common.{take, drop, ◌∙◌}
use Rattle.cr_memory.proofs.Overwriting.{same_overwritten}
use Rattle.cr_memory.proofs.flat.copy_items.Goals as goal

pub returns : goal.returns
returns g c = c.copy_within.ensures ∙ same_overwritten c.args.items.now c.args.target (take c.args.count (drop c.args.source c.args.items.now))
