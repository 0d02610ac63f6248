use Rattle.cr_check_unit.proofs.OneTyping.{one_typing, same_readings}
use Rattle.cr_check_unit.proofs.OneBreak.{same_scenes}
use Rattle.cr_check_unit.proofs.laws.one_typing.Goals as goal

pub returns-clause-typing : goal.returns-clause-typing
returns-clause-typing c = one_typing

pub returns-clause-readings : goal.returns-clause-readings
returns-clause-readings c = same_readings

pub returns-clause-scenes : goal.returns-clause-scenes
returns-clause-scenes c = same_scenes
