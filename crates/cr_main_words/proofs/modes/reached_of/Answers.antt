use Rattle.std.proofs.Common.{arith}
use Rattle.cr_main_words.specs.Words.{texts_of}
use Rattle.cr_main_words.proofs.Asking.{many_labels}
use Rattle.cr_main_words.proofs.modes.reached_of.Goals as goal

pub returns-clause-usage : goal.returns-clause-usage
returns-clause-usage c = λ is.
    many_labels (texts_of c.args.list.now) (λ none. omega (arith, c.if-count-eq0.false, c.label_count-count.ensures, none)) (λ one. omega (arith, c.if-count-eq1.false, c.label_count-count.ensures, one))
