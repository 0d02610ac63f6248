use Rattle.cr_eval_join.proofs.Turning.{expression_joins}
use Rattle.cr_eval_join.proofs.laws.expressions_are_joined.Goals as goal

pub returns : goal.returns
returns c = λ p node op done world h call. expression_joins p node op op.work done world h call
