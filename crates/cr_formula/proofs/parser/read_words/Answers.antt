use Rattle.std.proofs.Common.{◌≡◌, ◌==◌, true, false, List, [], length, refl, sym, ap, ◌∙◌}
use Rattle.cr_formula.specs.Forms.{form_of}
use Rattle.cr_formula.proofs.Once.{once}
use Rattle.cr_formula.proofs.parser.read_words.Goals as goal

pub returns-then-not-is_empty-clause-none : goal.returns-then-not-is_empty-clause-none
returns-then-not-is_empty-clause-none c = λ _ f it deep.
    let same = once f (form_of c.in-Ok.found.0) c.args.words.now c.args.words.now [] c.in-Ok.found.1.now refl it c.in-Ok.ensures.found.0 in
    let bad : false ≡ true = c.if-not-is_empty.ensures ∙ ap (λ (ws : List _). length ws == 0) (sym same.1) in
    cc
