use Rattle.std.proofs.Common.{◌≡◌, take, slice_index_or}
use Rattle.std.specs.List.{list_any}
use Rattle.cr_check_declarators.specs.Declarators.{name_alone}
use Rattle.cr_check_declarations.specs.Faults.{is_function}
use Rattle.cr_check_declarations.proofs.faults.has_function.Given as goal

abbrev pub invariant-loop-part : goal.invariant-loop-part
invariant-loop-part l =
    l.some ≡ list_any (is_function (λ p. slice_index_or l.columns.declarators.now p name_alone)) (take l.part-index l.declarators)
