-- One table of sorts for all nodes of a typed unit.
use Rattle.std.specs.Prelude.{ℕ, zero, suc, Bool, Option, None, Some, List, [], length, slice_index_or, if◌then◌else◌}
use Rattle.cr_ints.specs.declared.kind.IntKind.TheVariants.{Int as IntegerKind}
use Rattle.cr_syntax.specs.declared.node.Kind.{Kind}
use Rattle.cr_syntax.specs.declared.node.Kind.TheVariants as kind
use Rattle.cr_check_enclosing.specs.declared.context.Around.{Around}
use Rattle.cr_check_types.specs.Types.{Qualified}
use Rattle.cr_check_operands.specs.Values.{Seen}
use Rattle.cr_check_expressions.specs.Forms.{form_of}
use Rattle.cr_check_expressions.specs.Known.{Source}
use Rattle.cr_typed.specs.declared.typed.Typed.{Typed}
use Rattle.cr_typed.specs.Typed.{row_cells}
use Rattle.cr_meaning.specs.World.{Program}
use Rattle.cr_meaning.specs.declared.op.Form.{Form}
use Rattle.cr_meaning.specs.declared.op.Form.TheVariants as form
use Rattle.cr_meaning_soundness.specs.Sorts.{Exits, Sort, chars, statement}
use Rattle.cr_meaning_soundness.specs.Statements.{of_function, labelled_by}
use Rattle.cr_meaning_operations.specs.Shapes.{type_of_node, form_by}
use Rattle.cr_meaning_operations.specs.Operations.{kind_at, part_at, parts_at, entity_of, chosen_row, pointed, left_type, targets_from, is_static_initialiser}
use Rattle.cr_meaning_typing.specs.Typed.Good.{place_sort, row_at}
use Rattle.cr_meaning_typing.specs.Typed.Typing.{is_expression}
use Rattle.cr_meaning_typing.specs.Typed.Placed.{exits_in}
use Rattle.cr_meaning_typing.specs.Expressions.Used.{beside_sort}
use Rattle.cr_meaning_typing.specs.Expressions.Places.{cells_at}

-- ---- what is known of a unit's nodes

pub record Judgement : Type 0 where
  -- what each expression has, and what its rule reads of the unit
  pub at : ℕ → Seen
  pub source : ℕ → Source
  -- what each node has from above, and what the function of a definition gives
  pub around : ℕ → Around
  pub gives : Option ℕ → Qualified
  -- the string literals that fill an array (6.7.9p14)
  pub fills : ℕ → Bool
  -- the nodes that a run may reach: what isn't evaluated has no sort
  pub runs : ℕ → Bool

-- ---- the cells of the place that an expression is

-- of a name those of its object, of a literal its bytes; brackets hand on those of what stands in them
abbrev pub size_of : Kind → ℕ → Program → Typed → ℕ → ℕ
size_of kind.Identifier inner p t i = length (p.shape (entity_of t i))
size_of kind.Text inner p t i = length (slice_index_or t.texts i [])
size_of kind.Group inner p t i = inner
size_of kind.Member inner p t i = row_cells t (chosen_row t i (type_of_node t (part_at t i 0)))
size_of kind.PointerMember inner p t i = row_cells t (chosen_row t i (pointed (left_type t i)))
size_of k inner p t i = cells_at t i

-- parts stand below their node, so its number of steps is enough
abbrev pub size_by : ℕ → Program → Typed → ℕ → ℕ
size_by zero p t i = 0
size_by (suc more) p t i = size_of (kind_at t i) (size_by more p t (part_at t i 0)) p t i

abbrev pub size_at : Program → Typed → ℕ → ℕ
size_at p t i = size_by (suc i) p t i

-- ---- what a statement may come to

-- the labels for which a `goto` leaves it: those of the blocks around, from the innermost outwards
abbrev pub labels_by : ℕ → Typed → Judgement → Option ℕ → List ℕ
labels_by zero t j block = []
labels_by (suc more) t j None = []
labels_by (suc more) t j (Some b) = labelled_by (targets_from t 0 (parts_at t b)) (labels_by more t j (j.around b).block)

abbrev pub labels_of : Typed → Judgement → Option ℕ → List ℕ
labels_of t j block = labels_by (suc (length t.nodes)) t j block

-- what its function gives; the initialisers of static objects stand where main's body does, which gives an int
abbrev pub result_of : Typed → Judgement → Option ℕ → Form
result_of t j None = form.Number IntegerKind
result_of t j (Some definition) = form_by t 0 (j.gives (Some definition))

abbrev pub exits_at : Typed → Judgement → ℕ → Exits
exits_at t j i =
    if is_static_initialiser t i (kind_at t i) then of_function (form.Number IntegerKind) else exits_in (labels_of t j) (result_of t j) (j.around i)

-- ---- sorts

abbrev pub expression_sort : Program → Typed → Judgement → ℕ → Sort
expression_sort p t j i =
    if (j.at i).lvalue then (if j.fills i then chars else place_sort p t i (size_at p t i)) else beside_sort p (row_at t i) (type_of_node t i)

abbrev pub sort_at : Program → Typed → Judgement → ℕ → Sort
sort_at p t j i = if is_expression (form_of (kind_at t i)) then expression_sort p t j i else statement (exits_at t j i)

abbrev pub sorts_in : Program → Typed → Judgement → ℕ → Option Sort
sorts_in p t j i = if j.runs i then Some (sort_at p t j i) else None
