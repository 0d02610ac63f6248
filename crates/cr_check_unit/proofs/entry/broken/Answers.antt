use Rattle.std.proofs.Common.{ap, ◌∙◌}
use Rattle.cr_check_types.specs.Types.{type_at}
use Rattle.cr_check_operands.specs.Values.{seen_at}
use Rattle.cr_check_expressions.specs.Known.{source_of}
use Rattle.cr_check_expressions.specs.Forms.{form_of}
use Rattle.cr_check_expressions.specs.Ruled.{facts_at}
use Rattle.cr_check_expressions.specs.Breaks.{faults_in, first_of, lesser}
use Rattle.cr_check_declarations.specs.Faults.{has_at, faults_in as declaration_faults_in}
use Rattle.cr_check_initialisers.specs.Plans.{entries_of}
use Rattle.cr_check_declarations.specs.Before.{before_at}
use Rattle.cr_check_initialised.specs.Initialised.{object_at}
use Rattle.cr_check_initialised.specs.Faults.{faults_in as initialiser_faults_in}
use Rattle.cr_check_unit.specs.Typing.{before_in, source_in, known_in, object_in}
use Rattle.cr_check_unit.proofs.Later.{known_handed, object_handed}
use Rattle.cr_check_unit.proofs.entry.broken.Goals as goal

pub returns : goal.returns
returns c =
    let shapes = c.args.table.now in
    let n = c.args.node.now in
    let t = c.args.typing.now in
    let own = seen_at shapes c.args.entry.now.fact in
    let has = has_at shapes c.args.entry.now.own in
    let known = c.known_of-known.result in
    let source = source_in (type_at shapes) c.args.tree.now c.args.texts.now t in
    let u = c.args.tree.now in
    let e = c.args.entry.now in
    let columns = c.columns_of-columns.result in
    let are = c.columns_of-columns.ensures in
    let expressions = first_of (faults_in (form_of n.kind) own (facts_at shapes t.facts) source c.args.at n) in
    let declarations = first_of (declaration_faults_in n.kind has (before_in shapes t) u c.args.at n) in
    let bracket = e.own.declarator.sizeless in
    let type = type_at shapes e.own.named in
    let initialisers = first_of (initialiser_faults_in n.kind (known_in shapes u t) u (before_in shapes t) bracket (object_in shapes t n) type (entries_of shapes e.lines) c.args.at n) in
    c.lesser-2.ensures
    ∙ ap (λ x. lesser x c.lesser.result)
    (c.expression_break-expression.ensures
    ∙ ap (λ fs. first_of (faults_in (form_of n.kind) own (facts_at shapes fs) (source_of (type_at shapes) known) c.args.at n)) c.as_slice.ensures
    ∙ ap (λ s. first_of (faults_in (form_of n.kind) own (facts_at shapes t.facts) s c.args.at n))
    (c.known_of-known.ensures.source (type_at shapes)))
    ∙ ap (lesser expressions)
    (c.lesser.ensures
    ∙ ap (λ x. lesser x c.lesser-last.result)
    (c.in_ok-declaration.ensures
    ∙ ap (λ b. first_of (declaration_faults_in n.kind has b u c.args.at n)) (are.before shapes))
    ∙ ap (lesser declarations)
    (c.lesser-last.ensures
    ∙ ap (λ x. lesser x c.linked_broken.result)
    (c.initialiser_break-initialised.ensures
    ∙ ap (λ k. first_of (initialiser_faults_in n.kind k u (before_at shapes columns) bracket (object_at shapes columns n) type (entries_of shapes c.as_slice-3.result.now) c.args.at n))
    (known_handed shapes u t columns c.as_slice-2.result.now (are.before shapes) are.members c.as_slice-2.ensures)
    ∙ ap (λ b. first_of (initialiser_faults_in n.kind (known_in shapes u t) u b bracket (object_at shapes columns n) type (entries_of shapes c.as_slice-3.result.now) c.args.at n))
    (are.before shapes)
    ∙ ap (λ o. first_of (initialiser_faults_in n.kind (known_in shapes u t) u (before_in shapes t) bracket o type (entries_of shapes c.as_slice-3.result.now) c.args.at n))
    (object_handed shapes t columns n are.declared are.parameters)
    ∙ ap (λ ls. first_of (initialiser_faults_in n.kind (known_in shapes u t) u (before_in shapes t) bracket (object_in shapes t n) type (entries_of shapes ls) c.args.at n))
    c.as_slice-3.ensures)
    ∙ ap (lesser initialisers) c.linked_broken.ensures))
