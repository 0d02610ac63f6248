use Rattle.std.proofs.Common.{◌≡◌, drop}
use Rattle.cr_outside.specs.Scripts.{answer_of, table_of}
use Rattle.cr_outside.proofs.script.Script.answer.Given as goal

-- what the rows from here on answer is what all answer
abbrev pub invariant-loop-known : goal.invariant-loop-known
invariant-loop-known l = answer_of (table_of (drop l.known-index l.known-items) l.self-inside.other) l.file ≡ answer_of l.self l.file
