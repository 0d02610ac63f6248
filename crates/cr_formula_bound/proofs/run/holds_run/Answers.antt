use Rattle.std.proofs.Common.{◌≡◌, true, Some, None}
use Rattle.cr_formula_bound.proofs.Finding.{found}
use Rattle.cr_formula_bound.proofs.run.holds_run.Goals as goal

pub returns : goal.returns
returns c = found c.args.text.now c.args.all.now c.find.result c.is_some.result c.find.ensures c.is_some.ensures
