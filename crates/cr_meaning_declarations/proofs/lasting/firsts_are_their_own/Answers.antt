use Rattle.cr_meaning_declarations.proofs.LastingLemmas.Firsts.{first_own}
use Rattle.cr_meaning_declarations.proofs.lasting.firsts_are_their_own.Goals as goal

pub returns : goal.returns
returns c = first_own
