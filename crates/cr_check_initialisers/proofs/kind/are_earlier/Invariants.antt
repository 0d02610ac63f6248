use Rattle.std.proofs.Common.{◌≡◌, drop}
use Rattle.std.specs.List.{list_all}
use Rattle.cr_check_initialisers.specs.Known.{member_types}
use Rattle.cr_check_initialisers.specs.Places.{is_earlier}
use Rattle.cr_check_initialisers.proofs.kind.are_earlier.Given as goal

abbrev pub invariant-loop-member : goal.invariant-loop-member
invariant-loop-member l =
    list_all (is_earlier l.structure) (member_types l.source.table.now (drop l.member-index l.members))
    ≡ list_all (is_earlier l.structure) (member_types l.source.table.now l.members)
