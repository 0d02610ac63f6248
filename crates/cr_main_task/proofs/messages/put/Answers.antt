use Rattle.std.proofs.Common.{refl}
use Rattle.cr_main_task.specs.Outside.Says.{said_cut, said_starved}
use Rattle.cr_main_task.proofs.messages.put.Goals as goal

pub returns-in-Err-Failed : goal.returns-in-Err-Failed
returns-in-Err-Failed g c = said_cut c.in-Err-Failed.ensures.put.0 c.in-Err-Failed.ensures.put.1 (c.in-Err-Failed.ensures.failed cc) refl

pub returns-in-Err-NoMemory : goal.returns-in-Err-NoMemory
returns-in-Err-NoMemory g c = said_starved c.in-Err-NoMemory.ensures.put.0 c.in-Err-NoMemory.ensures.put.1 refl
