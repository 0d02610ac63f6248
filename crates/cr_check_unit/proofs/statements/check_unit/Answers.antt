use Rattle.std.proofs.Common.{sym, subst, ◌∙◌}
use Rattle.cr_check_expressions.specs.Breaks.{IsFirst, lesser}
use Rattle.cr_check_statements.specs.Statements.{IsBroken as IsStatementBroken}
use Rattle.cr_holding.proofs.Kept.{kept}
use Rattle.cr_check_unit.specs.Typing.{AreWithin, IsTyping}
use Rattle.cr_check_unit.specs.Breaks.{IsBroken}
use Rattle.cr_check_unit.specs.Statements.{scene_in, AreMarked, IsUnitBroken}
use Rattle.cr_check_unit.proofs.Unit.{unit_first}
use Rattle.cr_check_unit.proofs.statements.check_unit.Goals as goal

pub returns-clause-within : goal.returns-clause-within
returns-clause-within c =
    let shapes = c.check_nodes.new.table in
    let tree = c.args.tree.now in
    let (marks, one) = kept (AreMarked shapes tree c.in_ok-checked.checked.typing) c.marks_of-marked.result c.in_ok-checked.checked
    (c.in_ok-marked.marked, c.in_ok-marked.checked) (sym c.holding.ensures ∙ c.in_ok-marked.was) c.marks_of-marked.ensures in
    let (first, both) = kept (IsFirst (IsStatementBroken (scene_in shapes tree c.in_ok-marked.checked.typing c.in_ok-marked.marked)))
    c.statement_fault-statement.result (c.in_ok-marked.marked, c.in_ok-marked.checked)
    (c.in_ok-statement.statement, (c.in_ok-statement.marked, c.in_ok-statement.checked)) (sym c.holding-2.ensures ∙ c.in_ok-statement.was)
    c.statement_fault-statement.ensures in
    subst (λ h. AreWithin shapes h.1.typing) both (subst (λ x. AreWithin shapes x.typing) one c.in_ok-checked.ensures.within)

pub returns-clause-typing : goal.returns-clause-typing
returns-clause-typing c =
    let texts = c.args.texts.now in
    let shapes = c.check_nodes.new.table in
    let tree = c.args.tree.now in
    let (marks, one) = kept (AreMarked shapes tree c.in_ok-checked.checked.typing) c.marks_of-marked.result c.in_ok-checked.checked
    (c.in_ok-marked.marked, c.in_ok-marked.checked) (sym c.holding.ensures ∙ c.in_ok-marked.was) c.marks_of-marked.ensures in
    let (first, both) = kept (IsFirst (IsStatementBroken (scene_in shapes tree c.in_ok-marked.checked.typing c.in_ok-marked.marked)))
    c.statement_fault-statement.result (c.in_ok-marked.marked, c.in_ok-marked.checked)
    (c.in_ok-statement.statement, (c.in_ok-statement.marked, c.in_ok-statement.checked)) (sym c.holding-2.ensures ∙ c.in_ok-statement.was)
    c.statement_fault-statement.ensures in
    subst (λ h. IsTyping tree texts shapes h.1.typing) both (subst (λ x. IsTyping tree texts shapes x.typing) one c.in_ok-checked.ensures.typing)

pub returns-clause-marked : goal.returns-clause-marked
returns-clause-marked c =
    let shapes = c.check_nodes.new.table in
    let tree = c.args.tree.now in
    let (marks, one) = kept (AreMarked shapes tree c.in_ok-checked.checked.typing) c.marks_of-marked.result c.in_ok-checked.checked
    (c.in_ok-marked.marked, c.in_ok-marked.checked) (sym c.holding.ensures ∙ c.in_ok-marked.was) c.marks_of-marked.ensures in
    let (first, both) = kept (IsFirst (IsStatementBroken (scene_in shapes tree c.in_ok-marked.checked.typing c.in_ok-marked.marked)))
    c.statement_fault-statement.result (c.in_ok-marked.marked, c.in_ok-marked.checked)
    (c.in_ok-statement.statement, (c.in_ok-statement.marked, c.in_ok-statement.checked)) (sym c.holding-2.ensures ∙ c.in_ok-statement.was)
    c.statement_fault-statement.ensures in
    subst (λ h. AreMarked shapes tree h.1.typing h.0) both (subst (λ x. AreMarked shapes tree x.typing c.in_ok-marked.marked) one marks)

pub returns-clause-broken : goal.returns-clause-broken
returns-clause-broken c =
    let texts = c.args.texts.now in
    let shapes = c.check_nodes.new.table in
    let tree = c.args.tree.now in
    let (marks, one) = kept (AreMarked shapes tree c.in_ok-checked.checked.typing) c.marks_of-marked.result c.in_ok-checked.checked
    (c.in_ok-marked.marked, c.in_ok-marked.checked) (sym c.holding.ensures ∙ c.in_ok-marked.was) c.marks_of-marked.ensures in
    let (first, both) = kept (IsFirst (IsStatementBroken (scene_in shapes tree c.in_ok-marked.checked.typing c.in_ok-marked.marked)))
    c.statement_fault-statement.result (c.in_ok-marked.marked, c.in_ok-marked.checked)
    (c.in_ok-statement.statement, (c.in_ok-statement.marked, c.in_ok-statement.checked)) (sym c.holding-2.ensures ∙ c.in_ok-statement.was)
    c.statement_fault-statement.ensures in
    let both_first = unit_first tree texts shapes c.in_ok-marked.checked.typing c.in_ok-marked.marked c.in_ok-marked.checked.broken
    c.in_ok-statement.statement (subst (λ x. IsFirst (IsBroken tree texts shapes x.typing) x.broken) one c.in_ok-checked.ensures.broken) first in
    subst (IsFirst (IsUnitBroken tree texts shapes c.in_ok-statement.checked.typing c.in_ok-statement.marked)) (sym c.lesser.ensures)
    (subst (λ h. IsFirst (IsUnitBroken tree texts shapes h.1.typing h.0) (lesser h.1.broken c.in_ok-statement.statement)) both both_first)
