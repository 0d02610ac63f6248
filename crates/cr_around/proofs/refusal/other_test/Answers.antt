use Rattle.std.proofs.Common.{rules, refl}
use Rattle.cr_around.proofs.refusal.other_test.Goals as goal

pub returns-in-With : goal.returns-in-With
returns-in-With c = (c.in-With.words, refl, search rules, search rules)
