use Rattle.std.proofs.Common.{◌≡◌, [], ◌∷◌, subst, sym, Some, None, ◌∙◌}
use Rattle.std.specs.Result.{IfOk}
use Rattle.clap.specs.Walk.{texts}
use Rattle.clap.specs.Words.{found_of}
use Rattle.cr_main_words.specs.Parts.{GivesNames}
use Rattle.cr_main_words.specs.Splitting.{place_id}
use Rattle.cr_main_words.proofs.Uses.{values_are}
use Rattle.cr_main_words.proofs.replay.names_at.Goals as goal

pub returns-in-Some-clause-names : goal.returns-in-Some-clause-names
returns-in-Some-clause-names c =
    subst (λ v. IfOk c.names_in.result (GivesNames v))
    (sym (values_are (found_of c.args.matches.now) place_id (Some (texts c.in-Some.places.now)) c.in-Some.ensures)) c.names_in.ensures.names

pub returns-in-Some-clause-usage : goal.returns-in-Some-clause-usage
returns-in-Some-clause-usage c = λ is names gives.
    c.names_in.ensures.usage is names
    (subst (λ v. GivesNames v names)
    (values_are (found_of c.args.matches.now) place_id (Some (texts c.in-Some.places.now)) c.in-Some.ensures) gives)

pub returns-in-None-clause-usage : goal.returns-in-None-clause-usage
returns-in-None-clause-usage c = λ is names gives.
    let nothing = values_are (found_of c.args.matches.now) place_id None c.in-None.ensures in
    let bad : [] ≡ gives.log ∷ (gives.file ∷ []) = sym nothing ∙ gives.two in cc
