-- The columns of a typed unit are what was judged.
use Rattle.std.proofs.Common.{◌≡◌, ℕ, ◌<◌, ◌≤◌, List, [], Option, None, Some, length, inl, inr, refl, sym, ap, subst, ◌∙◌, slice_get, slice_index_or, arith}
use Rattle.std.proofs.lemmas.Bool.{cases_lt}
use Rattle.std.proofs.lemmas.List.{get_or-take, get_or-map, get_or_past}
use Rattle.std.proofs.lemmas.Option.{slice_get_within, get_or_from_slice_get}
use Rattle.cr_syntax.specs.declared.node.Kind.{Kind}
use Rattle.cr_syntax.specs.declared.node.Kind.TheVariants as kind
use Rattle.cr_syntax.specs.declared.node.Node.{Node}
use Rattle.cr_syntax.specs.declared.unit.Unit as source
use Rattle.cr_scopes.specs.declared.names.Names.{Names}
use Rattle.cr_scopes_events.specs.Scripts as scripts
use Rattle.cr_check_constants.specs.declared.constant.Constant.{Constant}
use Rattle.cr_check_constants.specs.declared.constant.Constant.TheVariants as constant
use Rattle.cr_check_enclosing.specs.Above.{AreAbove}
use Rattle.cr_check_enclosing.specs.Around.{AreAround, outermost}
use Rattle.cr_check_types.specs.Types.{type_at, unknown}
use Rattle.cr_check_operands.specs.Values.{seen_at}
use Rattle.cr_check_expressions.specs.declared.least.Break.{Break}
use Rattle.cr_check_expressions.specs.Breaks.{IsAmong}
use Rattle.cr_check_expressions.specs.Forms.{form_of}
use Rattle.cr_check_expressions.specs.Known.{named_row}
use Rattle.cr_check_expressions.specs.Ruled.{facts_at, operand, seen_in as seen_if, no_fact, ruled}
use Rattle.cr_check_statements.specs.Setting.{result_row}
use Rattle.cr_check_statements.specs.Statements.{faults_in, faults_if}
use Rattle.cr_check_unit.specs.declared.typing.Typing.{Typing}
use Rattle.cr_check_unit.specs.Typing.{cut, entry_at, IsRuledIf, IsTyping}
use Rattle.cr_check.specs.declared.checked.Checked.{Checked}
use Rattle.cr_typed.specs.declared.typed.Typed.{Typed}
use Rattle.cr_typed_columns.specs.Reading.{parsed_of, part_of, entry_of}
use Rattle.cr_typed_columns.specs.Names.{named_by, named_of}
use Rattle.cr_typed_columns.specs.Expressions.{value_in}
use Rattle.cr_typed_unit.specs.Typed.{IsTypedBy}
use Rattle.cr_meaning_operations.specs.Shapes.{type_of_node, named_type}
use Rattle.cr_meaning_typing.specs.Typed.Columns.{AreColumns, constant_value}
use Rattle.cr_meaning_typing.proofs.TypedLemmas.Units as units
use Rattle.cr_meaning_typing.specs.Judged.Judged.{seen_in, source_of, scene_of, IsJudged}
use Rattle.cr_meaning_typing.proofs.JudgedLemmas.Ruled.{same}

one_value : (c : Constant) → value_in c ≡ constant_value c
one_value constant.NotConstant = refl
one_value constant.Undefined = refl
one_value (constant.Value v) = refl

module _ (file : List ℕ) (unit : source.Unit) (names : Names) (checked : Checked) (typed : Typed) (by : IsTypedBy file unit names checked typed) where
  abbrev typing : Typing
  typing = checked.whole.typing

  is_typing : IsTyping by.tree checked.texts checked.table typing
  is_typing = by.is.whole.typing

  nodes_are : typed.nodes ≡ by.tree.nodes.now
  nodes_are = by.elaborated.nodes_are ∙ sym by.is.whole.tree.nodes

  count_is : length typed.nodes ≡ length unit.nodes
  count_is = ap length by.elaborated.nodes_are

  -- ---- types and constants

  -- behind the last node there is no fact
  no_more : (i : ℕ) → length typed.nodes ≤ i → slice_index_or typing.facts i no_fact ≡ no_fact
  no_more i past = let facts = is_typing.whole.facts in let nodes = ap length nodes_are in get_or_past typing.facts i no_fact (omega (arith, past, facts, nodes))

  types : (i : ℕ) → type_of_node typed i ≡ (seen_in checked i).type
  types i = elim (cases_lt i (length typed.nodes)) [
    | inl low ↦ units.columns file unit names checked typed by i low
    | inr past ↦ (let rows = by.fits.types_count in ap (type_at typed.shapes) (get_or_past typed.types i 0 (omega (arith, past, rows))) ∙ by.fits.no_type)
        ∙ sym (ap (λ f. (seen_at checked.table f).type) (no_more i past) ∙ is_typing.none)
  ]

  constants : (i : ℕ) → slice_index_or typed.constants i None ≡ constant_value (seen_in checked i).constant
  constants i = elim (cases_lt i (length typed.nodes)) [
    | inl low ↦ units.constants file unit names checked typed by i low ∙ one_value (seen_in checked i).constant
    | inr past ↦ (let rows = by.fits.constants_count in get_or_past typed.constants i None (omega (arith, past, rows)))
        ∙ sym (ap (λ f. constant_value (seen_at checked.table f).constant) (no_more i past))
  ]

  columns : AreColumns typed (seen_in checked)
  columns = record { types = types; constants = constants }

  -- ---- rules

  part_below : (i : ℕ) (n : Node) (k p : ℕ) → slice_get typed.nodes i ≡ Some n → slice_get n.parts k ≡ Some p → p < i
  part_below i n k p at e =
      let few = slice_get_within n.parts k p e in
      let low = by.fits.parts_below i n at k few in
      let is = get_or_from_slice_get n.parts k p 0 e in
      omega (arith, low, is)

  seen_before : (i : ℕ) (o : Option ℕ) → ((p : ℕ) → o ≡ Some p → p < i) → seen_if (facts_at checked.table (cut i typing).facts) o ≡ seen_if (seen_in checked) o
  seen_before i None low = refl
  seen_before i (Some p) low = ap (seen_at checked.table) (get_or-take i typing.facts p no_fact (low p refl))

  operands : (i : ℕ) (n : Node) → slice_get typed.nodes i ≡ Some n → operand (facts_at checked.table (cut i typing).facts) n.parts ≡ operand (seen_in checked) n.parts
  operands i n at = λ j k. seen_before i (slice_get n.parts k) (λ p e. part_below i n k p at e) j

  here : (i : ℕ) (n : Node) → slice_get typed.nodes i ≡ Some n → slice_get by.tree.nodes.now i ≡ Some n
  here i n at = ap (λ ns. slice_get ns i) (sym nodes_are) ∙ at

  rules : (i : ℕ) (n : Node) → slice_get typed.nodes i ≡ Some n → seen_in checked i ≡ ruled (form_of n.kind) (seen_in checked) (source_of by.tree checked i) i n
  rules i n at =
      let one = subst (IsRuledIf by.tree checked.texts checked.table (cut i typing) (entry_at typing i) i) (here i n at) (is_typing.each i) in
      one.fact ∙ same (form_of n.kind) (facts_at checked.table (cut i typing).facts) (seen_in checked) (source_of by.tree checked i) i n (operands i n at)

  -- ---- statements

  allows : (i : ℕ) (n : Node) (b : Break) → slice_get typed.nodes i ≡ Some n → IsAmong (faults_in n.kind (scene_of by.tree checked) i n) b → ⊥
  allows i n b at among =
      by.sound.constraints b (inr (record { node = i; among = subst (λ x. IsAmong (faults_if x (scene_of by.tree checked) i) b) (sym (here i n at)) among }))

  above : AreAbove typed.nodes checked.surroundings.above
  above = subst (λ ns. AreAbove ns checked.surroundings.above) (sym by.elaborated.nodes_are) by.is.surroundings.above

  around : AreAround typed.nodes checked.surroundings.above checked.surroundings.around
  around = subst (λ ns. AreAround ns checked.surroundings.above checked.surroundings.around) (sym by.elaborated.nodes_are) by.is.surroundings.around

  -- ---- types by name

  abbrev nodes : List Node
  nodes = (parsed_of unit).nodes

  named : (i : ℕ) → i < length typed.nodes → named_type typed i ≡ named_of (parsed_of unit) by.columns i
  named i low =
      let rows = by.fits.named_count in
      let count = count_is in
      sym (get_or-map (type_at typed.shapes) typed.named i 0 unknown (omega (arith, low, rows)))
      ∙ ap (λ ts. slice_index_or ts i unknown) by.elaborated.named.are
      ∙ units.listed_at (named_of (parsed_of unit) by.columns) (length unit.nodes) i unknown (omega (arith, low, count))

  of_kind : (i : ℕ) (n : Node) (k : Kind) → slice_get typed.nodes i ≡ Some n → n.kind ≡ k → named_type typed i ≡ named_by (Some k) (parsed_of unit) by.columns i
  of_kind i n k at is =
      named i (slice_get_within typed.nodes i n at)
      ∙ ap (λ o. named_by o (parsed_of unit) by.columns i) (ap scripts.kind_if (ap (λ ns. slice_get ns i) (sym by.elaborated.nodes_are) ∙ at) ∙ ap Some is)

  row_before : (i : ℕ) (o : Option ℕ) → ((p : ℕ) → o ≡ Some p → p < i) → named_row (cut i typing).named o ≡ entry_of typing.named 0 o
  row_before i None low = refl
  row_before i (Some p) low = get_or-take i typing.named p 0 (low p refl)

  casts : (i : ℕ) (n : Node) → slice_get typed.nodes i ≡ Some n → n.kind ≡ kind.Cast → (source_of by.tree checked i).named (slice_get n.parts 0) ≡ named_type typed i
  casts i n at is =
      let part : part_of nodes (Some i) 0 ≡ slice_get n.parts 0 = ap (λ o. slice_get (scripts.parts_if o) 0) (ap (λ ns. slice_get ns i) (sym by.elaborated.nodes_are) ∙ at) in
      ap (type_at checked.table) (row_before i (slice_get n.parts 0) (λ p e. part_below i n 0 p at e))
      ∙ sym (of_kind i n kind.Cast at is ∙ (λ j. type_at (by.are.table j) (entry_of (by.are.named j) 0 (part j))))

  row_given : (rows : List ℕ) (o : Option ℕ) → entry_of rows 0 o ≡ result_row rows o
  row_given rows None = refl
  row_given rows (Some p) = refl

  returns : (i : ℕ) (n : Node) → slice_get typed.nodes i ≡ Some n → n.kind ≡ kind.Return
      → (let s = scene_of by.tree checked in s.gives (s.around i).function) ≡ named_type typed i
  returns i n at is =
      let s = scene_of by.tree checked in
      sym (of_kind i n kind.Return at is ∙ (λ j. type_at (by.are.table j) (entry_of (by.are.results j) 0 (slice_index_or (by.are.around j) i outermost).function))
      ∙ ap (type_at checked.table) (row_given checked.whole.marked.results (slice_index_or checked.surroundings.around i outermost).function)
      ∙ ap (λ a. type_at checked.table (result_row checked.whole.marked.results (slice_index_or a i outermost).function)) (sym by.is.whole.tree.around))

  pub judged : IsJudged typed (seen_in checked) (source_of by.tree checked) (scene_of by.tree checked) checked.surroundings.above checked.surroundings.around
  judged = record {
    columns = columns;
    ruled = rules;
    sees = refl;
    nodes = sym nodes_are;
    stands = λ i. ap (λ a. slice_index_or a i outermost) by.is.whole.tree.around;
    allowed = allows;
    above_are = above;
    around_are = around;
    casts = casts;
    returns = returns;
    texts = λ i k. ap (λ ts. length (slice_index_or ts k [])) (sym by.elaborated.texts_are);
  }
