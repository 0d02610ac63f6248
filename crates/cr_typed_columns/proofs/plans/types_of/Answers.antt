use Rattle.std.proofs.Common.{refl}
use Rattle.cr_check_types.specs.Types.{type_at}
use Rattle.cr_typed_columns.specs.Columns.{member_type}
use Rattle.cr_typed_columns.specs.Rows.{type_in}
use Rattle.cr_typed_columns.proofs.Grown.{typed_more}
use Rattle.cr_typed_columns.proofs.plans.types_of.Goals as goal

pub loop-member-preserved : goal.loop-member-preserved
loop-member-preserved c =
    let look = type_at c.args.checked.now.table.now in
    rw c.in_ok-push.ensures.items (typed_more (type_in look) (member_type look) c.loop-member.types.items c.args.members.now c.loop-member.member-index _ _
    c.loop-member-test.true c.loop-member.invariant refl)
