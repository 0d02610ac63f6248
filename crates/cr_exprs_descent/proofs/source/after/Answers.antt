use Rattle.std.proofs.Common.{sym, ◌∙◌, arith, rules}
use Rattle.cr_exprs_descent.proofs.Runs.{span_more}
use Rattle.cr_exprs_descent.proofs.source.after.Goals as goal

pub loop-word-preserved : goal.loop-word-preserved
loop-word-preserved c = record {
  from = omega arith;
  to = search rules;
  all = span_more _ _ _ _ c.loop-word.invariant.all (sym c.stands.ensures.answer ∙ c.loop-word-test.true);
}
