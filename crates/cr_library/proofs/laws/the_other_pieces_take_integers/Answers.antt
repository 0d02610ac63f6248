use Rattle.cr_library.proofs.Integers.{others_take}
use Rattle.cr_library.proofs.laws.the_other_pieces_take_integers.Goals as goal

pub returns : goal.returns
returns c = others_take
