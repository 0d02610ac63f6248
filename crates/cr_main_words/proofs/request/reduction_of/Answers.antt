use Rattle.std.proofs.Common.{◌≡◌, Err, ap, false, subst, sym, true, ◌∙◌}
use Rattle.cr_main_words.specs.Giving.{HasSettings}
use Rattle.cr_main_words.specs.Words.{texts_of}
use Rattle.cr_main_words.proofs.Asking.{no_reduction}
use Rattle.cr_main_words.proofs.Uses.{same_fault}
use Rattle.cr_main_words.proofs.request.reduction_of.Goals as goal

pub returns-in_err-modes-clause-usage : goal.returns-in_err-modes-clause-usage
returns-in_err-modes-clause-usage c = λ is settings modes asks.
    c.in_err-modes.ensures.usage (ap Err (same_fault c.from_residual.result c.in_err-modes.field-0.0 c.from_residual.ensures.1 is)) modes asks.flags

pub returns-in_err-settings-clause-usage : goal.returns-in_err-settings-clause-usage
returns-in_err-settings-clause-usage c = λ is settings modes asks.
    c.in_err-settings.ensures.usage (ap Err (same_fault c.from_residual-in_err-settings.result c.in_err-settings.field-0.0 c.from_residual-in_err-settings.ensures.1 is)) settings
    (subst (λ words. HasSettings words c.args.most settings) (sym c.in-Ok.ensures ∙ ap texts_of (sym c.as_slice.ensures.value)) asks.rest)

pub returns-then-not-suits-clause-usage : goal.returns-then-not-suits-clause-usage
returns-then-not-suits-clause-usage c = λ is settings modes asks.
    let found = c.in_ok-settings.settings in
    no_reduction (texts_of c.args.list.now) c.args.most found c.in_ok-modes.modes c.in_ok-modes.ensures.modes
    (subst (λ words. HasSettings words c.args.most found) (ap texts_of c.as_slice.ensures.value ∙ c.in-Ok.ensures) c.in_ok-settings.ensures.settings)
    (λ it. let bad : false ≡ true = sym c.if-not-suits.true ∙ c.suits.ensures.1 it in cc) settings modes asks
