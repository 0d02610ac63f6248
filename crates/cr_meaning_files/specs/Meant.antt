-- What the calls of a file's unit see (C11 6.2.1p4, 6.5.2.2p1).
use Rattle.std.specs.Prelude.{◌≡◌, ◌≤◌, ℕ, Bool, List, None, Some, length, slice_get, slice_index_or}
use Rattle.cr_syntax.specs.declared.node.Kind.TheVariants as kind
use Rattle.cr_syntax.specs.declared.node.Node.{Node}
use Rattle.cr_scopes.specs.Resolved.{past_of}
use Rattle.cr_scopes.specs.Spelled.{name_of}
use Rattle.cr_scopes.specs.Units.{unit_events}
use Rattle.cr_scopes_bindings.specs.Visible.{visible}
use Rattle.cr_scopes_linkage.specs.Shared.Origins.{IsDeclarer}
use Rattle.cr_scopes_visibility.specs.Once.Told.{count_of}
use Rattle.cr_check_expressions.specs.Known.{Signature, a_function}
use Rattle.cr_typed.specs.declared.typed.Typed.{Typed}
use Rattle.cr_meaning.specs.declared.op.Callee.TheVariants.{Function}
use Rattle.cr_meaning.specs.declared.op.Parameter.{Parameter}
use Rattle.cr_meaning_operations.specs.Shapes.{named_type}
use Rattle.cr_meaning_operations.specs.Operations.{entity_of, function_in, callee_of}
use Rattle.cr_meaning_typing.specs.Judged.Judged.{source_of}
use Rattle.cr_meaning_objects.specs.Chained.Laws.{DeclaresFunction}
use Rattle.cr_meaning_declarations.specs.Declared.Files.{IsUnitOfFile}
use Rattle.cr_meaning_objects.specs.Called.Laws.{IsMeant}

-- the declarator that a node sees is that of the token that is visible at a name, and declares a function
pub record SeesFunction (file : List ℕ) (t : Typed) (it : IsUnitOfFile file t) (i name : ℕ) : Type 0 where
  pub token : ℕ
  pub declaration : ℕ
  pub declarator : ℕ
  pub node : Node
  pub found : visible (name_of file it.unit.tokens.list.items) (past_of (unit_events it.unit) (length (unit_events it.unit))) name ≡ Some token
  pub sees : slice_index_or it.checked.by.tree.visible.now i None ≡ Some declarator
  pub declares : IsDeclarer t.nodes token declaration declarator node
  pub function : DeclaresFunction it.checked.checked.whole.typing declarator

-- a called name that stands for a function sees a declaration or a definition of one, and no parameter
abbrev pub CallsSeeDeclarations : Type 0
CallsSeeDeclarations = (file : List ℕ) (t : Typed) (it : IsUnitOfFile file t)
    → (i : ℕ) (n : Node) → slice_get t.nodes i ≡ Some n → n.kind ≡ kind.Call → (signature : Signature) → (source_of it.checked.by.tree it.checked.checked i).stands i ≡ a_function signature
    → SeesFunction file t it i n.first

-- a call of a function of the unit's own means the definition that its name's row has, where the name is told once (6.9p3, K40)
abbrev pub CallsMeanDefinitions : Type 0
CallsMeanDefinitions = (file : List ℕ) (t : Typed) (it : IsUnitOfFile file t)
    → (i : ℕ) (n : Node) → slice_get t.nodes i ≡ Some n → n.kind ≡ kind.Call → count_of n.first (unit_events it.unit) ≤ 1
    → (signature : Signature) → (source_of it.checked.by.tree it.checked.checked i).stands i ≡ a_function signature
    → (parameters : List Parameter) (rest : ℕ) (is_main : Bool) → callee_of t i ≡ Function parameters rest is_main → IsMeant file t it i (function_in (named_type t (entity_of t i)))
