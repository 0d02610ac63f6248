-- All expressions of a unit, by induction; and the columns that are made of them.
use Rattle.std.proofs.Common.{◌≡◌, ℕ, zero, suc, ◌<◌, true, List, [], ◌∷◌, None, Some, length, inl, inr, refl, sym, ap, subst, ◌∙◌, slice_get, slice_index_or, arith}
use Rattle.std.proofs.lemmas.Bool.{cases_lt}
use Rattle.std.proofs.lemmas.List.{get_or-take, get_or-map, get_or_push, length_push, get_or_append_left}
use Rattle.cr_syntax.specs.declared.node.Node.{Node}
use Rattle.cr_syntax.specs.declared.unit.Unit as source
use Rattle.cr_check_types.specs.declared.shape.Shape.{Shape}
use Rattle.cr_check_types.specs.Types.{type_at, unknown}
use Rattle.cr_scopes.specs.declared.names.Names.{Names}
use Rattle.cr_check_operands.specs.Values.{Seen, seen_at}
use Rattle.cr_check_expressions.specs.declared.least.Break.{Break}
use Rattle.cr_check_expressions.specs.Forms.{form_of}
use Rattle.cr_check_expressions.specs.Ruled.{facts_at, seen_in, no_fact}
use Rattle.cr_check_declarations.specs.declared.tree.Tree.{Tree}
use Rattle.cr_check_unit.specs.declared.typing.Typing.{Typing}
use Rattle.cr_check_unit.specs.Typing.{cut, entry_at, source_in, IsRuledIf, IsTyping}
use Rattle.cr_check_unit.specs.Breaks.{IsBroken, IsNodeBreak}
use Rattle.cr_check.specs.declared.checked.Checked.{Checked}
use Rattle.cr_typed.specs.declared.typed.Typed.{Typed}
use Rattle.cr_typed_unit.specs.Typed.{IsTypedBy}
use Rattle.cr_typed_columns.specs.Rows.{listed}
use Rattle.cr_typed_columns.specs.Expressions as expressions
use Rattle.cr_meaning_operations.specs.Shapes.{type_of_node}
use Rattle.cr_meaning_typing.specs.Typed.Typing.{has_value, is_expression}
use Rattle.cr_meaning_typing.specs.Typed.Whole.{AreReadable, AllHaveValues}
use Rattle.cr_meaning_typing.proofs.TypedLemmas.Worth.{typed}

module _ (u : Tree) (texts : List (List ℕ)) (shapes : List Shape) (t : Typing) (h : IsTyping u texts shapes t) (holds : (b : Break) → IsBroken u texts shapes t b → ⊥)
    (readable : AreReadable u texts shapes t) where
  -- what a part below a node has by the columns before the node
  earlier : (i a : ℕ) → a < i → facts_at shapes (cut i t).facts a ≡ facts_at shapes t.facts a
  earlier i a low = ap (seen_at shapes) (get_or-take i t.facts a no_fact low)

  below : (m i : ℕ) → i < m → (n : Node) → slice_get u.nodes.now i ≡ Some n → is_expression (form_of n.kind) ≡ true → has_value (facts_at shapes t.facts i).type ≡ true
  below zero i low n at is = absurd (omega (arith, low))
  below (suc m) i low n at is =
      let before = facts_at shapes (cut i t).facts in
      let ruled = subst (IsRuledIf u texts shapes (cut i t) (entry_at t i) i) at (h.each i) in
      typed (form_of n.kind) (facts_at shapes t.facts i) before (source_in (type_at shapes) u texts (cut i t)) i n ruled.fact
      (λ b among. holds b (record { node = i; among = subst (λ x. IsNodeBreak u texts shapes (cut i t) (entry_at t i) i x b) (sym at) (inl among) }))
      (readable.reads i n at is)
      (λ k asked. let o = readable.operands i n at k asked in
      ap (λ part. has_value (seen_in before part).type) o.is ∙ ap (λ (x : Seen). has_value x.type) (earlier i o.number o.below)
      ∙ below m o.number (let low_part = o.below in omega (arith, low, low_part)) o.node o.at o.expression)

  pub all_worth : AllHaveValues u shapes t
  all_worth i n at is = below (suc i) i (omega arith) n at is

-- ---- columns

length-listed : {A : Type 0} (f : ℕ → A) (count : ℕ) → length (listed f count) ≡ count
length-listed f zero = refl
length-listed f (suc count) = let rest = length-listed f count in let push = length_push (listed f count) (f count) in omega (arith, rest, push)

pub listed_at : {A : Type 0} (f : ℕ → A) (count i : ℕ) (d : A) → i < count → slice_index_or (listed f count) i d ≡ f i
listed_at f zero i d low = absurd (omega (arith, low))
listed_at f (suc count) i d low = elim (cases_lt i count) [
  | inl less ↦ get_or_append_left (listed f count) (f count ∷ []) d i (let count_is = length-listed f count in omega (arith, less, count_is)) ∙ listed_at f count i d less
  | inr more ↦ let last : count ≡ i = omega (arith, low, more) in get_or_push (listed f count) (f count) d i (length-listed f count ∙ last) ∙ ap f last
]

pub columns : (file : List ℕ) (unit : source.Unit) (names : Names) (checked : Checked) (typed : Typed) → IsTypedBy file unit names checked typed
    → (i : ℕ) → i < length typed.nodes → type_of_node typed i ≡ (facts_at checked.table checked.whole.typing.facts i).type
columns file unit names checked typed h i low =
    let count : length typed.nodes ≡ length unit.nodes = ap length h.elaborated.nodes_are in
    let rows = h.fits.types_count in
    let types = h.elaborated.types.are in
    sym (get_or-map (type_at typed.shapes) typed.types i 0 unknown (omega (arith, low, rows)))
    ∙ ap (λ ts. slice_index_or ts i unknown) types
    ∙ listed_at (expressions.type_of_node h.columns) (length unit.nodes) i unknown (omega (arith, low, count))
    ∙ (λ j. (seen_at (h.are.table j) (slice_index_or (h.are.facts j) i no_fact)).type)

-- of constants too
pub constants : (file : List ℕ) (unit : source.Unit) (names : Names) (checked : Checked) (typed : Typed) → IsTypedBy file unit names checked typed
    → (i : ℕ) → i < length typed.nodes → slice_index_or typed.constants i None ≡ expressions.value_in (facts_at checked.table checked.whole.typing.facts i).constant
constants file unit names checked typed h i low =
    let count : length typed.nodes ≡ length unit.nodes = ap length h.elaborated.nodes_are in
    ap (λ cs. slice_index_or cs i None) h.elaborated.constants
    ∙ listed_at (expressions.constant_of h.columns) (length unit.nodes) i None (omega (arith, low, count))
    ∙ (λ j. expressions.value_in (seen_at (h.are.table j) (slice_index_or (h.are.facts j) i no_fact)).constant)
