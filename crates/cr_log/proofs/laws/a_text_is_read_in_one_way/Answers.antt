use Rattle.cr_log.proofs.Wholes.{log_no_bad_line, one_bad_line, one_log}
use Rattle.cr_log.proofs.laws.a_text_is_read_in_one_way.Goals as goal

pub returns-clause-one_log : goal.returns-clause-one_log
returns-clause-one_log c = one_log

pub returns-clause-one_line : goal.returns-clause-one_line
returns-clause-one_line c = one_bad_line

pub returns-clause-apart : goal.returns-clause-apart
returns-clause-apart c = log_no_bad_line
