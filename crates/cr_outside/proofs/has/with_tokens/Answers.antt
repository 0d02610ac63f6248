use Rattle.std.proofs.Common.{arith}
use Rattle.std.proofs.lemmas.Bool.Decides.{nat_tests}
use Rattle.std.proofs.lemmas.List.{nil_from_length}
use Rattle.cr_outside.proofs.Texts.{empty_text}
use Rattle.cr_outside.proofs.has.with_tokens.Goals as goal

pub returns-then-is_empty-clause-bad : goal.returns-then-is_empty-clause-bad
returns-then-is_empty-clause-bad c = λ _. empty_text c.args.text.now c.args.wanted.list.items c.requires (nil_from_length c.args.wanted.list.items (grind (arith, nat_tests)))
