use Rattle.std.proofs.Common.{◌≡◌, ◌≤◌, ◌-◌}
use Rattle.cr_check_expressions.specs.Known.{spelling_of}
use Rattle.cr_check_declarations.specs.Declarators.{first_spelled}
use Rattle.cr_check_declarations.proofs.declarators.first_spelled.Given as goal

abbrev pub invariant-loop-token : goal.invariant-loop-token
invariant-loop-token l = record {
  within : l.token - l.from ≤ l.end - l.from;
  is : l.found ≡ first_spelled (spelling_of l.tree.file.now l.tree.tokens.now) l.word l.from (l.token - l.from);
}
