use Rattle.std.proofs.Common.{ap, sym, ◌∙◌}
use Rattle.cr_main_words.specs.Flags.{is_identifier}
use Rattle.cr_main_words.proofs.Asking.{no_bytes}
use Rattle.cr_main_words.proofs.modes.is_identifier.Goals as goal

pub returns-in-Some : goal.returns-in-Some
returns-in-Some c = c.is_spelled.ensures ∙ ap is_identifier (sym c.in-Some.ensures.cases.0)

pub returns-in-None : goal.returns-in-None
returns-in-None c = no_bytes c.args.name.now c.in-None.ensures.cases
