use Rattle.std.proofs.Common.{◌&&◌, ap, get_or, sym, ◌∙◌}
use Rattle.std.proofs.lemmas.List.Folds.{list_all_at, list_all_more}
use Rattle.cr_main_words.specs.Letters.{has_letter, pass_letters}
use Rattle.cr_main_words.proofs.letters.are_known.Goals as goal

pub returns-then-not-has : goal.returns-then-not-has
returns-then-not-has c =
    sym (list_all_at (has_letter pass_letters) c.args.word.now c.loop-letter.letter-index 0 c.loop-letter-test.true (sym c.has.ensures ∙ c.if-not-has.true))

pub loop-letter-preserved : goal.loop-letter-preserved
loop-letter-preserved c =
    let word = c.args.word.now in
    let place = c.loop-letter.letter-index in
    list_all_more (has_letter pass_letters) word place 0 c.loop-letter-test.true ∙ ap (λ b. b && has_letter pass_letters (get_or word place 0)) c.loop-letter.invariant
    ∙ (sym c.has.ensures ∙ c.if-not-has.false)
