use Rattle.std.proofs.Common.{◌≡◌, take, slice_index_or}
use Rattle.std.specs.List.{list_all}
use Rattle.cr_check_declarators.specs.Declarators.{name_alone}
use Rattle.cr_check_declarations.specs.Faults.{is_function}
use Rattle.cr_check_declarations.proofs.faults.has_functions_alone.Given as goal

abbrev pub invariant-loop-part : goal.invariant-loop-part
invariant-loop-part l =
    l.all ≡ list_all (is_function (λ p. slice_index_or l.columns.declarators.now p name_alone)) (take l.part-index l.declarators)
