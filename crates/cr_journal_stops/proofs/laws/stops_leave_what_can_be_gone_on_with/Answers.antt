use Rattle.cr_journal_stops.proofs.Safe.{beginning_safe, cut_safe}
use Rattle.cr_journal_stops.proofs.laws.stops_leave_what_can_be_gone_on_with.Goals as goal

pub returns-clause-beginnings : goal.returns-clause-beginnings
returns-clause-beginnings c = beginning_safe

pub returns-clause-cuts : goal.returns-clause-cuts
returns-clause-cuts c = cut_safe
