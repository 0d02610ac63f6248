use Rattle.cr_log.proofs.Wholes.{right_bad_line, right_line, right_log}
use Rattle.cr_log.proofs.reader.read_log.Goals as goal

pub returns-clause-every_log : goal.returns-clause-every_log
returns-clause-every_log c = right_log c.args.text.now c.read_lines.result c.read_lines.ensures

pub returns-clause-every_line : goal.returns-clause-every_line
returns-clause-every_line c = right_line c.args.text.now c.read_lines.result c.read_lines.ensures

pub returns-clause-line : goal.returns-clause-line
returns-clause-line c = right_bad_line c.args.text.now c.read_lines.result c.read_lines.ensures
