use Rattle.std.proofs.Common.{rules, refl}
use Rattle.cr_around.proofs.refusal.changed.Goals as goal

pub returns-in-With-Some-Some : goal.returns-in-With-Some-Some
returns-in-With-Some-Some c = (c.in-With-Some-Some.words, c.in-With-Some-Some.file, c.in-With-Some-Some.copy, refl, search rules, search rules, search rules, search rules, search rules)
