use Rattle.pass_list.proofs.Reading.{of_known}
use Rattle.pass_list.proofs.passes.left.Goals as goal

pub returns-in-Ok-clause-tokens : goal.returns-in-Ok-clause-tokens
returns-in-Ok-clause-tokens c =
    of_known c.args.file.now c.in_ok-analysis.analysis c.in-Ok.field-0.list.items c.in-Ok.ensures.list c.in_ok-analysis.ensures
