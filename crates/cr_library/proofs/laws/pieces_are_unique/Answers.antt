use Rattle.cr_library.proofs.Unique.{pieces_are_unique}
use Rattle.cr_library.proofs.laws.pieces_are_unique.Goals as goal

pub returns : goal.returns
returns c = pieces_are_unique
