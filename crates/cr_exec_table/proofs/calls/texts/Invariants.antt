use Rattle.std.proofs.Common.{◌≡◌, map, take}
use Rattle.cr_meaning_operations.specs.Shapes.{value_type}
use Rattle.cr_meaning_operations.specs.Operations.{is_text}
use Rattle.cr_exec_table.proofs.calls.texts.Given as goal

abbrev pub invariant-loop-argument : goal.invariant-loop-argument
invariant-loop-argument l = l.texts.items ≡ map (λ part. is_text (value_type l.types part)) (take l.argument-index l.arguments)
