use Rattle.std.proofs.Common.{refl}
use Rattle.cr_tokens.specs.Faults.IsBadChar.{broken}
use Rattle.cr_tokens.proofs.literal.char_end.Goals as goal

pub returns-in-Some-first_broken-clause-fault : goal.returns-in-Some-first_broken-clause-fault
returns-in-Some-first_broken-clause-fault c = (
  c.in-Some-first_broken.bad,
  refl,
  broken c.in-Some.end c.in-Some.ensures.unit c.in-Some-first_broken.ensures.range.0
      c.in-Some-first_broken.ensures.range.1 c.in-Some-first_broken.ensures.broken c.in-Some-first_broken.ensures.first,
)
