use Rattle.cr_memory.proofs.Loading.{saved-loaded}
use Rattle.cr_memory.proofs.laws.saved_is_loaded.Goals as goal

pub returns : goal.returns
returns c = saved-loaded
