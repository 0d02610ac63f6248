-- Places: names, and where statements stand.
use Rattle.std.specs.Prelude.{◌≡◌, ℕ, ◌<◌, ◌≤◌, ◌%◌, Bool, true, false, Option, Some, None, List, length, slice_get, slice_index_or}
use Rattle.std.specs.Option.{is_some}
use Rattle.cr_syntax.specs.declared.node.Kind.{Kind}
use Rattle.cr_syntax.specs.declared.node.Kind.TheVariants as kind
use Rattle.cr_syntax.specs.declared.node.Node.{Node}
use Rattle.cr_syntax.specs.declared.ctype.CType.TheVariants.{Int, Struct}
use Rattle.cr_check_enclosing.specs.declared.context.Around.{Around}
use Rattle.cr_check_enclosing.specs.Around.{AreAround, outermost}
use Rattle.cr_typed.specs.declared.typed.Typed.{Typed}
use Rattle.cr_check_types.specs.Types.{Qualified, plain, pointer as to, array}
use Rattle.cr_meaning.specs.World.{Program}
use Rattle.cr_meaning.specs.declared.op.Form.{Form}
use Rattle.cr_meaning.specs.declared.op.Target.{Target}
use Rattle.cr_meaning_operations.specs.Shapes.{type_of_node, cells_of}
use Rattle.cr_meaning_operations.specs.Operations.{entity_of, identifier_by}
use Rattle.cr_meaning_soundness.specs.Sorts.{Exits, Sort}
use Rattle.cr_meaning_soundness.specs.Statements.{in_loop, in_block}
use Rattle.cr_meaning_typing.specs.Typed.Good.{IsGood, place_sort}

-- ---- names

-- a type of objects, of which an array has elements with cells
abbrev pub IsObject : Typed → ℕ → Qualified → Type 0
IsObject t count (plain (Int kind) c v) = Unit {0}
IsObject t count (plain (Struct node) c v) = Unit {0}
IsObject t count (to c v below) = Unit {0}
IsObject t count (array n below) = (1 ≤ cells_of t below) × (count % cells_of t below ≡ 0)
IsObject t count other = ⊥

-- the object that a name names has cells, whole elements where it is an array
pub record IsNamed (p : Program) (t : Typed) (i : ℕ) : Type 0 where
  pub some : 1 ≤ length (p.shape (entity_of t i))
  pub object : IsObject t (length (p.shape (entity_of t i))) (type_of_node t i)

-- they give that place, as it is used
abbrev pub NamesAreGood : Type 0
NamesAreGood = (p : Program) (t : Typed) (sorts : ℕ → Option Sort) (sees : ℕ → Bool) (i : ℕ) → IsNamed p t i → sees (entity_of t i) ≡ true
    → IsGood p sorts sees (identifier_by t i None) (place_sort p t i (length (p.shape (entity_of t i))))

-- ---- statements

-- what a statement may come to, by what is around it
abbrev pub exits_in : (Option ℕ → List ℕ) → (Option ℕ → Form) → Around → Exits
exits_in labels result a = record { breaks = is_some a.breakable; continues = is_some a.iteration; labels = labels a.block; result = result a.function }

-- what the parts of a node of this kind may come to, by what it may itself
abbrev pub exits_of_parts : Kind → List Target → Exits → Exits
exits_of_parts kind.While targets exits = in_loop exits
exits_of_parts kind.Do targets exits = in_loop exits
exits_of_parts kind.Compound targets exits = in_block targets exits
exits_of_parts other targets exits = exits

abbrev pub is_statement_with_parts : Kind → Bool
is_statement_with_parts kind.While = true
is_statement_with_parts kind.Do = true
is_statement_with_parts kind.Compound = true
is_statement_with_parts kind.If = true
is_statement_with_parts kind.Declaration = true
is_statement_with_parts kind.Label = true
is_statement_with_parts kind.Case = true
is_statement_with_parts kind.Default = true
is_statement_with_parts other = false

abbrev pub StatementsStand : Type 0
StatementsStand = (nodes : List Node) (above : List (Option ℕ)) (around : List Around) (labels : Option ℕ → List ℕ) (result : Option ℕ → Form) (targets : List Target)
    → AreAround nodes above around → (i b : ℕ) (n : Node) → slice_get nodes i ≡ Some n → is_statement_with_parts n.kind ≡ true
    → (n.kind ≡ kind.Compound → labels (Some i) ≡ (in_block targets (exits_in labels result (slice_index_or around i outermost))).labels)
    → b < i → b < length nodes → slice_index_or above b None ≡ Some i
    → exits_in labels result (slice_index_or around b outermost) ≡ exits_of_parts n.kind targets (exits_in labels result (slice_index_or around i outermost))
