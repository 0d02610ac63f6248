use Rattle.cr_tokens.specs.Bytes.{IsIndent, Each}
use Rattle.cr_tokens.proofs.blank.stands_first.Given as goal

abbrev pub invariant-loop-before : goal.invariant-loop-before
invariant-loop-before l = Each IsIndent l.file l.before l.at
