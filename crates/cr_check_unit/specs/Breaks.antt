-- Which constraints the expressions and declarations of a unit break.
use Rattle.std.specs.Prelude.{ℕ, ◌⊎◌, List, Option, None, Some, slice_get}
use Rattle.cr_syntax.specs.declared.node.Node.{Node}
use Rattle.cr_check_types.specs.declared.shape.Shape.{Shape}
use Rattle.cr_check_types.specs.Types.{Qualified, type_at}
use Rattle.cr_check_operands.specs.Values.{seen_at}
use Rattle.cr_check_expressions.specs.declared.least.Break.{Break}
use Rattle.cr_check_expressions.specs.Ruled.{facts_at}
use Rattle.cr_check_expressions.specs.Breaks.{faults_if, IsAmong}
use Rattle.cr_check_declarations.specs.declared.tree.Tree.{Tree}
use Rattle.cr_check_declarations.specs.Faults.{has_at, faults_if as declaration_faults_if}
use Rattle.cr_check_initialisers.specs.Plans.{entries_of}
use Rattle.cr_check_initialised.specs.Faults.{faults_if as initialiser_faults_if}
use Rattle.cr_check_unit.specs.declared.typing.Typing.{Typing}
use Rattle.cr_check_unit.specs.declared.entry.Entry.{Entry}
use Rattle.cr_check_linkage.specs.Faults.{faults_if as linked_faults_if}
use Rattle.cr_check_unit.specs.Typing.{cut, entry_at, before_in, source_in, known_in, object_in, past_in, name_type}

-- what a node breaks as an expression, and as a part of a declaration, by the columns before it
abbrev pub expression_faults : Tree → List (List ℕ) → List Shape → Typing → Entry → ℕ → Option Node → List (Option Break)
expression_faults u texts shapes t e i n =
    faults_if n (seen_at shapes e.fact) (facts_at shapes t.facts) (source_in (type_at shapes) u texts t) i

abbrev pub declaration_faults : Tree → List Shape → Typing → Entry → ℕ → Option Node → List (Option Break)
declaration_faults u shapes t e i n = declaration_faults_if n (has_at shapes e.own) (before_in shapes t) u i

-- what it breaks as an initialised declarator
abbrev pub object_if : List Shape → Typing → Option Node → Option Qualified
object_if shapes t None = None
object_if shapes t (Some n) = object_in shapes t n

abbrev pub initialiser_faults : Tree → List Shape → Typing → Entry → ℕ → Option Node → List (Option Break)
initialiser_faults u shapes t e i n =
    initialiser_faults_if n (known_in shapes u t) u (before_in shapes t) e.own.declarator.sizeless (object_if shapes t n) (type_at shapes e.own.named)
    (entries_of shapes e.lines) i

-- what it breaks as one of several declarations of a name
abbrev pub linked_faults : Tree → List Shape → Typing → Entry → ℕ → Option Node → List (Option Break)
linked_faults u shapes t e i n =
    linked_faults_if n e.linked u (before_in shapes t).specified e.own.declarator (past_in shapes t) (name_type shapes e) i

abbrev pub IsNodeBreak : Tree → List (List ℕ) → List Shape → Typing → Entry → ℕ → Option Node → Break → Type 0
IsNodeBreak u texts shapes t e i n b =
    IsAmong (expression_faults u texts shapes t e i n) b
    ⊎ (IsAmong (declaration_faults u shapes t e i n) b
    ⊎ (IsAmong (initialiser_faults u shapes t e i n) b ⊎ IsAmong (linked_faults u shapes t e i n) b))

-- a node breaks it
pub record IsBroken (u : Tree) (texts : List (List ℕ)) (shapes : List Shape) (t : Typing) (b : Break) : Type 0 where
  pub node : ℕ
  pub among : IsNodeBreak u texts shapes (cut node t) (entry_at t node) node (slice_get u.nodes.now node) b
