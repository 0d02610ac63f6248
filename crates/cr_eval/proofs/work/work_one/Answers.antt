use Rattle.std.specs.Prelude.{◌&&◌, ◌||◌}
use Rattle.cr_eval.proofs.Answering.{answers}
use Rattle.cr_eval.proofs.work.work_one.Goals as goal

pub returns-in-Unary : goal.returns-in-Unary
returns-in-Unary c = λ world. rw c.in-Unary.is (c.giving.ensures _ _ c.signed.ensures)

pub returns-in-Not : goal.returns-in-Not
returns-in-Not c = λ world. rw c.in-Not.is (c.giving-in-Not.ensures _ _ c.negated.ensures)

pub returns-in-Cast : goal.returns-in-Cast
returns-in-Cast c = λ world. rw c.in-Cast.is (c.giving-in-Cast.ensures _ _ c.cast.ensures)

pub returns-in-AddressOf : goal.returns-in-AddressOf
returns-in-AddressOf c = λ world. rw c.in-AddressOf.is (c.giving-in-AddressOf.ensures _ _ (answers _ _ c.address.ensures))

pub returns-in-Dereference : goal.returns-in-Dereference
returns-in-Dereference c = λ world. rw c.in-Dereference.is (c.at_place.ensures _ c.dereferenced.ensures)

pub returns-in-PointerMember : goal.returns-in-PointerMember
returns-in-PointerMember c = λ world. rw c.in-PointerMember.is (c.at_place-in-PointerMember.ensures _ c.pointed_member.ensures)

pub returns-in-LogicalAnd : goal.returns-in-LogicalAnd
returns-in-LogicalAnd c = λ world. rw c.in-LogicalAnd.is (c.giving-in-LogicalAnd.ensures _ _ (c.decided.ensures (λ l. λ r. l && r)))

pub returns-in-LogicalOr : goal.returns-in-LogicalOr
returns-in-LogicalOr c = λ world. rw c.in-LogicalOr.is (c.giving-in-LogicalOr.ensures _ _ (c.decided-in-LogicalOr.ensures (λ l. λ r. l || r)))

pub returns-in-Conditional : goal.returns-in-Conditional
returns-in-Conditional c = λ world. rw c.in-Conditional.is (c.giving-in-Conditional.ensures _ _ c.undecided.ensures)
