use Rattle.cr_journal_rows.proofs.Codec.{one_header, one_row}
use Rattle.cr_journal_rows.proofs.laws.a_body_is_of_one_row.Goals as goal

pub returns-clause-row : goal.returns-clause-row
returns-clause-row c = one_row

pub returns-clause-header : goal.returns-clause-header
returns-clause-header c = one_header
