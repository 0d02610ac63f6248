use Rattle.cr_tokens.specs.Faults.FaultAt.{open_comment, spliced}
use Rattle.cr_tokens.proofs.blank.comment_at.Goals as goal

pub returns-in_default-clause-fault : goal.returns-in_default-clause-fault
returns-in_default-clause-fault c = open_comment c.in_default.ensures.block c.in_default.ensures.none

pub returns-in-Some-first_splice-clause-fault : goal.returns-in-Some-first_splice-clause-fault
returns-in-Some-first_splice-clause-fault c = spliced (record {
  to = c.in-Some.end;
  comment = c.in-Some.ensures.comment;
  after = c.in-Some-first_splice.ensures.range.0;
  inside = c.in-Some-first_splice.ensures.range.1;
  spliced = c.in-Some-first_splice.ensures.spliced;
  first = c.in-Some-first_splice.ensures.first;
})
