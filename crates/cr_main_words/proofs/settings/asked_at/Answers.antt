use Rattle.std.proofs.Common.{◌≡◌, [], ◌∷◌, subst, sym, Some, None, ◌∙◌}
use Rattle.std.specs.Result.{IfOk}
use Rattle.clap.specs.Walk.{texts}
use Rattle.clap.specs.Words.{found_of}
use Rattle.cr_main_words.specs.Parts.{GivesAsked}
use Rattle.cr_main_words.specs.Splitting.{place_id}
use Rattle.cr_main_words.proofs.Uses.{values_are}
use Rattle.cr_main_words.proofs.settings.asked_at.Goals as goal

pub returns-in-Some-clause-asked : goal.returns-in-Some-clause-asked
returns-in-Some-clause-asked c =
    subst (λ v. IfOk c.asked_in.result (GivesAsked v))
    (sym (values_are (found_of c.args.matches.now) place_id (Some (texts c.in-Some.places.now)) c.in-Some.ensures)) c.asked_in.ensures.asked

pub returns-in-Some-clause-usage : goal.returns-in-Some-clause-usage
returns-in-Some-clause-usage c = λ is asked gives.
    c.asked_in.ensures.usage is asked
    (subst (λ v. GivesAsked v asked)
    (values_are (found_of c.args.matches.now) place_id (Some (texts c.in-Some.places.now)) c.in-Some.ensures) gives)

pub returns-in-None-clause-usage : goal.returns-in-None-clause-usage
returns-in-None-clause-usage c = λ is asked gives.
    let nothing = values_are (found_of c.args.matches.now) place_id None c.in-None.ensures in
    let bad : [] ≡ gives.test ∷ (gives.file ∷ []) = sym nothing ∙ gives.two in cc
