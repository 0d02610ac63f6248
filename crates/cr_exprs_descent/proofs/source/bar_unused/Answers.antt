use Rattle.std.proofs.Common.{◌≡◌, true, Some, sym, ap, rules}
use Rattle.cr_syntax.specs.Units.{is_unused}
use Rattle.cr_syntax_machine.specs.Machine.{has_word, refusal_of}
use Rattle.cr_exprs_descent.specs.Source.{text_of}
use Rattle.cr_exprs_descent.proofs.Grammar.{unused_barred}
use Rattle.cr_exprs_descent.proofs.source.bar_unused.Goals as goal

pub returns-then-is_some_and-clause-err : goal.returns-then-is_some_and-clause-err
returns-then-is_some_and-clause-err c =
    let unused : has_word (text_of c.args.source.now) c.args.at is_unused ≡ true = search rules in
    record { is = ap (λ x. Some (refusal_of x c.args.at)) (sym (unused_barred (text_of c.args.source.now) c.args.at c.args.depth unused)) }
