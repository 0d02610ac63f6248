use Rattle.std.proofs.Common.{None, Some, length, refl, sym, ◌∙◌}
use Rattle.std.proofs.lemmas.Bool.{eqb-true}
use Rattle.clap.specs.Walk.{texts}
use Rattle.clap.specs.Words.{found_of}
use Rattle.cr_main_words.proofs.Uses.{empty_of, none_of, values_are}
use Rattle.cr_main_words.proofs.replay.is_absent.Goals as goal

pub returns-in-Some : goal.returns-in-Some
returns-in-Some c =
    let values = c.in-Some.values.now in
    let are = values_are (found_of c.args.matches.now) c.args.name.now (Some (texts values)) c.in-Some.ensures in (
      λ empty. are ∙ none_of values (eqb-true (length values) 0 (sym c.is_empty.ensures ∙ empty)),
      λ none. c.is_empty.ensures ∙ empty_of values (sym are ∙ none),
    )

pub returns-in-None : goal.returns-in-None
returns-in-None c = (λ _. values_are (found_of c.args.matches.now) c.args.name.now None c.in-None.ensures, λ _. refl)
