use Rattle.cr_library.proofs.Unique.{pieces_stay_in_profile}
use Rattle.cr_library.proofs.laws.pieces_stay_in_profile.Goals as goal

pub returns : goal.returns
returns c = pieces_stay_in_profile
