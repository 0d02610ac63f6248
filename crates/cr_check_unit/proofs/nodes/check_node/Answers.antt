use Rattle.std.proofs.Common.{◌≡◌, Some, get_or, slice_get, sym, subst, ◌∙◌}
use Rattle.std.proofs.lemmas.Option.{slice_get-get_or}
use Rattle.cr_check_expressions.specs.Breaks.{first_of, lesser}
use Rattle.cr_check_unit.specs.Typing.{IsRuledIf}
use Rattle.cr_check_unit.specs.Breaks.{expression_faults, declaration_faults, initialiser_faults, linked_faults}
use Rattle.cr_check_unit.proofs.Kept.{all_kept}
use Rattle.cr_check_unit.proofs.nodes.check_node.Goals as goal

pub broken-requires-clause-within : goal.broken-requires-clause-within
broken-requires-clause-within c =
    all_kept c.args.table.now c.entry_of.new.table c.args.typing.now c.in_ok-entry.ensures.grows c.requires.within

pub returns-clause-ruled : goal.returns-clause-ruled
returns-clause-ruled c = λ later on.
    let u = c.args.tree.now in
    let nodes = u.nodes.now in
    let t = c.args.typing.now in
    let e = c.in_ok-entry.entry in
    let node = c.index-tree-at.result in
    let some : slice_get nodes c.args.at ≡ Some (get_or nodes c.args.at node) = slice_get-get_or nodes c.args.at node c.requires.low in
    let here = subst (IsRuledIf u c.args.texts.now later t e c.in_ok-number.number) (sym some) (c.in_ok-entry.ensures.ruled later on) in
    subst (λ i. IsRuledIf u c.args.texts.now later t e i (slice_get nodes c.args.at)) c.in_ok-number.ensures here

pub returns-clause-broken : goal.returns-clause-broken
returns-clause-broken c =
    let u = c.args.tree.now in
    let texts = c.args.texts.now in
    let nodes = u.nodes.now in
    let new = c.entry_of.new.table in
    let t = c.args.typing.now in
    let e = c.in_ok-entry.entry in
    let node = c.index-tree-at.result in
    let some : slice_get nodes c.args.at ≡ Some (get_or nodes c.args.at node) = slice_get-get_or nodes c.args.at node c.requires.low in
    let is = sym some in
    let number = c.in_ok-number.ensures in
    c.in_ok-broken.ensures
    ∙ (λ s. lesser (first_of (expression_faults u texts new t e (number s) (is s)))
    (lesser (first_of (declaration_faults u new t e (number s) (is s)))
    (lesser (first_of (initialiser_faults u new t e (number s) (is s))) (first_of (linked_faults u new t e (number s) (is s))))))
