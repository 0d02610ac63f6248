use Rattle.std.proofs.Common.{map, subst, sym, Some, None}
use Rattle.std.specs.Result.{IfOk}
use Rattle.clap.specs.Walk.{texts}
use Rattle.clap.specs.Words.{found_of}
use Rattle.cr_main_words.specs.Letters.{IsEnabled, has_letter, pass_letters, plain_letters}
use Rattle.cr_main_words.specs.Letters.IsEnabled.{plain_passes}
use Rattle.cr_main_words.proofs.Uses.{values_are}
use Rattle.cr_main_words.proofs.letters.enabled_at.Goals as goal

pub returns-in-Some-clause-enabled : goal.returns-in-Some-clause-enabled
returns-in-Some-clause-enabled c =
    subst (λ v. IfOk c.enabled_in.result (IsEnabled v))
    (sym (values_are (found_of c.args.matches.now) c.args.name.now (Some (texts c.in-Some.values.now)) c.in-Some.ensures)) c.enabled_in.ensures.enabled

pub returns-in-Some-clause-usage : goal.returns-in-Some-clause-usage
returns-in-Some-clause-usage c = λ is enabled any.
    c.enabled_in.ensures.usage is enabled
    (subst (λ v. IsEnabled v enabled)
    (values_are (found_of c.args.matches.now) c.args.name.now (Some (texts c.in-Some.values.now)) c.in-Some.ensures) any)

pub returns-in-None-clause-enabled : goal.returns-in-None-clause-enabled
returns-in-None-clause-enabled c =
    subst (λ v. IsEnabled v (map (has_letter plain_letters) pass_letters)) (sym (values_are (found_of c.args.matches.now) c.args.name.now None c.in-None.ensures)) plain_passes
