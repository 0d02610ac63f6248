use Rattle.std.proofs.Common.{sym, ◌∙◌, arith, rules}
use Rattle.cr_exprs_descent.proofs.Runs.{read_qualifiers, qualifiers_more}
use Rattle.cr_exprs_descent.proofs.source.qualifiers.Goals as goal

pub qualifiers-preserved : goal.qualifiers-preserved
qualifiers-preserved c = record {
  from = omega arith;
  to = search rules;
  all = qualifiers_more _ _ _ c.qualifiers.invariant.all (sym c.is_qualifier.ensures.answer ∙ c.qualifiers-test.true);
}

pub returns-clause-read : goal.returns-clause-read
returns-clause-read c = read_qualifiers _ _ _ c.qualifiers.invariant.from c.qualifiers.invariant.all (sym c.is_qualifier.ensures.answer ∙ c.qualifiers-test.false)
