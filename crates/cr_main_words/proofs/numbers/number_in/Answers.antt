use Rattle.std.proofs.Common.{length, None, Some, subst, sym, arith}
use Rattle.std.proofs.lemmas.Bool.{eqb-true, eqb-false}
use Rattle.cr_main_words.specs.Numbers.{IsOptional}
use Rattle.cr_main_words.specs.Numbers.IsOptional.{no_value, one_value}
use Rattle.cr_main_words.proofs.Uses.{none_of, one_of}
use Rattle.cr_main_words.proofs.numbers.number_in.Goals as goal

pub returns-then-is_empty-clause-number : goal.returns-then-is_empty-clause-number
returns-then-is_empty-clause-number c =
    subst (λ words. IsOptional c.args.least c.args.most words None)
    (sym (none_of c.args.values.now (eqb-true (length c.args.values.now) 0 (sym c.if-is_empty.ensures)))) no_value

pub returns-in-Some-clause-number : goal.returns-in-Some-clause-number
returns-in-Some-clause-number c =
    let some = eqb-false (length c.args.values.now) 0 (sym c.if-is_empty.ensures) in
    subst (λ words. IsOptional c.args.least c.args.most words (Some c.in-Some.number))
    (sym (one_of c.args.values.now _ (omega (arith, some, c.if-values-gt1.false)))) (one_value c.in-Some.ensures)
