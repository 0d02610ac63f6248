use Rattle.std.proofs.Common.{Bool, List, length, map, subst, sym, arith}
use Rattle.std.proofs.lemmas.Bool.{eqb-true, eqb-false}
use Rattle.cr_main_words.specs.Letters.{IsEnabled, IsLetters, has_letter, pass_letters, plain_letters}
use Rattle.cr_main_words.specs.Letters.IsEnabled.{plain_passes, some_passes}
use Rattle.cr_main_words.proofs.Enabling.{none_enabled}
use Rattle.cr_main_words.proofs.Uses.{none_of, one_of}
use Rattle.cr_main_words.proofs.letters.enabled_in.Goals as goal

pub returns-then-is_empty-clause-enabled : goal.returns-then-is_empty-clause-enabled
returns-then-is_empty-clause-enabled c =
    subst (λ words. IsEnabled words (map (has_letter plain_letters) pass_letters))
    (sym (none_of c.args.values.now (eqb-true (length c.args.values.now) 0 (sym c.if-is_empty.ensures)))) plain_passes

pub returns-in-Some-clause-enabled : goal.returns-in-Some-clause-enabled
returns-in-Some-clause-enabled c =
    let some = eqb-false (length c.args.values.now) 0 (sym c.if-is_empty.ensures) in
    subst (λ words. IsEnabled words c.in-Some.enabled)
    (sym (one_of c.args.values.now _ (omega (arith, some, c.if-values-gt1.false))))
    (some_passes (subst (λ word. IsLetters word c.in-Some.enabled) c.as_bytes.ensures.value c.in-Some.ensures))

pub returns-in-None-clause-usage : goal.returns-in-None-clause-usage
returns-in-None-clause-usage c = λ is enabled any.
    let some = eqb-false (length c.args.values.now) 0 (sym c.if-is_empty.ensures) in
    none_enabled _ _ (one_of c.args.values.now _ (omega (arith, some, c.if-values-gt1.false)))
    (subst (λ word. (letters : List Bool) → IsLetters word letters → ⊥) c.as_bytes.ensures.value c.in-None.ensures) enabled any
