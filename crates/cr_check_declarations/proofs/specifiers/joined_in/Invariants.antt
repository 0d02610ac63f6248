use Rattle.std.proofs.Common.{◌≡◌, take, slice_index_or}
use Rattle.cr_check_declarators.specs.Specifiers.{nothing}
use Rattle.cr_check_declarations.specs.Specifiers.{joined_in}
use Rattle.cr_check_declarations.proofs.specifiers.joined_in.Given as goal

abbrev pub invariant-loop-part : goal.invariant-loop-part
invariant-loop-part l = l.said ≡ joined_in (λ p. slice_index_or l.columns.specified.now p nothing) (take l.part-index l.parts)
