use Rattle.cr_eval.proofs.work.work_two.Goals as goal

pub returns-in-Binary : goal.returns-in-Binary
returns-in-Binary c = λ world. rw c.in-Binary.is (c.giving.ensures _ _ c.changed.ensures)

pub returns-in-Compare : goal.returns-in-Compare
returns-in-Compare c = λ world. rw c.in-Compare.is (c.giving-in-Compare.ensures _ _ c.compared_integers.ensures)

pub returns-in-ComparePointers : goal.returns-in-ComparePointers
returns-in-ComparePointers c = λ world. rw c.in-ComparePointers.is (c.giving-in-ComparePointers.ensures _ _ c.compared.ensures)

pub returns-in-Distance : goal.returns-in-Distance
returns-in-Distance c = λ world. rw c.in-Distance.is (c.giving-in-Distance.ensures _ _ c.distance.ensures)

pub returns-in-Subscript : goal.returns-in-Subscript
returns-in-Subscript c = λ world. rw c.in-Subscript.is (c.at_place.ensures _ c.moved_either.ensures)

pub returns-in-Comma : goal.returns-in-Comma
returns-in-Comma c = λ world. rw c.in-Comma.is (c.giving-in-Comma.ensures _ _ c.copied.ensures)

pub returns-in-LogicalAnd : goal.returns-in-LogicalAnd
returns-in-LogicalAnd c = λ world. rw c.in-LogicalAnd.is (c.giving-in-LogicalAnd.ensures _ _ c.both.ensures)

pub returns-in-LogicalOr : goal.returns-in-LogicalOr
returns-in-LogicalOr c = λ world. rw c.in-LogicalOr.is (c.giving-in-LogicalOr.ensures _ _ c.either.ensures)

pub returns-in-Conditional : goal.returns-in-Conditional
returns-in-Conditional c = λ world. rw c.in-Conditional.is (c.giving-in-Conditional.ensures _ _ c.conditional.ensures)
