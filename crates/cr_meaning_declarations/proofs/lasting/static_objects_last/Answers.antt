use Rattle.cr_meaning_declarations.proofs.LastingLemmas.Firsts.{static_last}
use Rattle.cr_meaning_declarations.proofs.lasting.static_objects_last.Goals as goal

pub returns : goal.returns
returns c = static_last
