use Rattle.cr_check_unit.proofs.OneBreak.{same_breaks, same_unit_breaks, one_first}
use Rattle.cr_check_unit.proofs.laws.one_first.Goals as goal

pub returns-clause-breaks : goal.returns-clause-breaks
returns-clause-breaks c = same_breaks

pub returns-clause-whole : goal.returns-clause-whole
returns-clause-whole c = same_unit_breaks

pub returns-clause-first : goal.returns-clause-first
returns-clause-first c = one_first
