use Rattle.std.proofs.Common.{sym, ◌∙◌}
use Rattle.cr_exec_calls.proofs.Converting.{unused_fails, all_used}
use Rattle.cr_exec_calls.proofs.convert.arguments.Goals as goal

pub returns-then-any_unused : goal.returns-then-any_unused
returns-then-any_unused c = unused_fails c.args.store.now c.args.parameters.now c.args.done.now (sym c.any_unused.ensures ∙ c.if-any_unused.true)

pub returns : goal.returns
returns c =
    all_used c.args.store.now c.args.parameters.now c.args.done.now _ (sym c.any_unused.ensures ∙ c.if-any_unused.false) c.convert_each.ensures
