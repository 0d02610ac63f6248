use Rattle.std.proofs.Common.{Ok, ap}
use Rattle.tests_formulas.proofs.values.answer_of.Goals as goal

pub bound_answer-requires : goal.bound_answer-requires
bound_answer-requires c = c.in-Ok-None.ensures.lawful (ap Ok c.in-Ok-None.field-0-is)
