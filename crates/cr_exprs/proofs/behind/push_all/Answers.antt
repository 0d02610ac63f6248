use Rattle.std.proofs.Common.{◌∙◌}
use Rattle.cr_exprs.proofs.Appended.{at_error, keeps_some, below_some}
use Rattle.cr_exprs.proofs.behind.push_all.Goals as goal

pub returns-in_err-numbers_behind-clause-below : goal.returns-in_err-numbers_behind-clause-below
returns-in_err-numbers_behind-clause-below c = at_error c.from_residual.result (below_some _ _ c.args.more.now _ _ c.requires.before c.loop-node.invariant c.requires.below c.requires.more)

pub returns-in_err-push-clause-keeps : goal.returns-in_err-push-clause-keeps
returns-in_err-push-clause-keeps c = at_error c.from_residual-in_err-push.result (keeps_some _ _ c.args.more.now _ _ (c.in_err-push.ensures.err ∙ c.loop-node.invariant))

pub returns-in_err-push-clause-below : goal.returns-in_err-push-clause-below
returns-in_err-push-clause-below c = at_error c.from_residual-in_err-push.result (below_some _ _ c.args.more.now _ _ c.requires.before (c.in_err-push.ensures.err ∙ c.loop-node.invariant) c.requires.below c.requires.more)
