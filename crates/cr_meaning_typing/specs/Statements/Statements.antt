-- Statements and declarations, each by its constraint: where it is met, the operation is good. In the order of C11 6.7 and 6.8.
use Rattle.std.specs.Prelude.{◌≡◌, ℕ, Bool, true, false, Option, None, Some, List, [], ◌∷◌, slice_get, slice_index_or}
use Rattle.std.specs.Option.{is_some}
use Rattle.cr_syntax.specs.declared.ctype.CType.TheVariants.{Int, Void}
use Rattle.cr_typed.specs.declared.typed.Typed.{Typed}
use Rattle.cr_check_enclosing.specs.declared.context.Around.{Around}
use Rattle.cr_check_types.specs.Types.{Qualified, plain, pointer as to}
use Rattle.cr_check_operands.specs.Values.{Seen}
use Rattle.cr_check_statements.specs.Statements.{is_no_scalar, is_no_integer, returns_badly}
use Rattle.cr_meaning.specs.World.{Program}
use Rattle.cr_meaning.specs.declared.op.Form.{Form}
use Rattle.cr_meaning.specs.declared.op.Line.{Line}
use Rattle.cr_meaning.specs.declared.op.Work.TheVariants as work
use Rattle.cr_meaning_soundness.specs.Sorts.{Exits, Sort, statement, IsAmong}
use Rattle.cr_meaning_soundness.specs.Statements.{HasSort, MayHaveSort, in_loop, in_block, in_switch, AreLines}
use Rattle.cr_meaning_soundness.specs.Operands.{TakeLines}
use Rattle.cr_meaning_operations.specs.Shapes.{named_type, form_of}
use Rattle.cr_meaning_operations.specs.Operations.{node_op, parts_at, labelled, for_of, switch_of, targets_from, declarators_of, objects_in}
use Rattle.cr_meaning_typing.specs.Typed.Good.{IsGood}
use Rattle.cr_meaning_typing.specs.Typed.Typing.{has_value}
use Rattle.cr_meaning_typing.specs.Typed.Columns.{AreColumns}
use Rattle.cr_meaning_typing.specs.Typed.Placed.{exits_in}
use Rattle.cr_meaning_typing.specs.Expressions.Used.{IsUsedAt}

-- ---- controlling expressions (K38)

-- it has a value, which is a scalar
pub record IsControl (p : Program) (t : Typed) (sorts : ℕ → Option Sort) (at : ℕ → Seen) (a : ℕ) : Type 0 where
  pub has : has_value (at a).type ≡ true
  pub scalar : is_no_scalar (at a) ≡ false
  pub used : IsUsedAt p t sorts at a

-- or, of a `switch`, an integer
pub record IsSelector (p : Program) (t : Typed) (sorts : ℕ → Option Sort) (at : ℕ → Seen) (a : ℕ) : Type 0 where
  pub has : has_value (at a).type ≡ true
  pub integer : is_no_integer (at a) ≡ false
  pub used : IsUsedAt p t sorts at a

-- ---- what is known of a node's parts

abbrev pub OfNodes : (Program → Typed → (ℕ → Option Sort) → (ℕ → Bool) → (ℕ → Seen) → ℕ → Exits → Type 0) → Type 0
OfNodes says = (p : Program) (t : Typed) (sorts : ℕ → Option Sort) (sees : ℕ → Bool) (at : ℕ → Seen) → AreColumns t at → (i : ℕ) (exits : Exits) → says p t sorts sees at i exits

-- ---- 6.8.4, 6.8.5: selection and loops

abbrev pub BranchesAreGood : Type 0
BranchesAreGood = OfNodes (λ p t sorts sees at i exits. (a b : ℕ) → IsControl p t sorts at a → sorts b ≡ Some (statement exits)
    → (parts_at t i ≡ a ∷ b ∷ [] → IsGood p sorts sees (node_op (parts_at t i) work.If) (statement exits))
    × ((c : ℕ) → parts_at t i ≡ a ∷ b ∷ c ∷ [] → sorts c ≡ Some (statement exits) → IsGood p sorts sees (node_op (parts_at t i) work.If) (statement exits)))

-- the body of a `switch` is a block that has no turn of its own: its items stand below the `switch`
abbrev pub SwitchesAreGood : Type 0
SwitchesAreGood = OfNodes (λ p t sorts sees at i exits. (a body : ℕ) (items : List ℕ) → slice_index_or (parts_at t i) 0 0 ≡ a → IsSelector p t sorts at a
    → ((k node : ℕ) → slice_get items k ≡ Some node → sorts node ≡ Some (statement (in_switch (targets_from t 0 items) exits)))
    → IsGood p sorts sees (switch_of t i body items) (statement exits))

abbrev pub LoopsAreGood : Type 0
LoopsAreGood = OfNodes (λ p t sorts sees at i exits. (a b : ℕ) → IsControl p t sorts at a → sorts b ≡ Some (statement (in_loop exits))
    → (parts_at t i ≡ a ∷ b ∷ [] → IsGood p sorts sees (node_op (parts_at t i) work.While) (statement exits))
    × (parts_at t i ≡ b ∷ a ∷ [] → IsGood p sorts sees (node_op (parts_at t i) work.Do) (statement exits)))

-- a `for` by its clauses, each there or not, and its body
abbrev pub ForsAreGood : Type 0
ForsAreGood = OfNodes (λ p t sorts sees at i exits. (objects : List ℕ) (first control step : Option ℕ) (body : ℕ) → for_of t i ≡ node_op [] (work.For objects first control step body)
    → MayHaveSort sorts first → ((a : ℕ) → control ≡ Some a → IsControl p t sorts at a) → MayHaveSort sorts step → sorts body ≡ Some (statement (in_loop exits))
    → IsGood p sorts sees (for_of t i) (statement exits))

-- ---- 6.8.1, 6.8.6: labels and jumps

abbrev pub LabelsAreGood : Type 0
LabelsAreGood = OfNodes (λ p t sorts sees at i exits. (a : ℕ) → labelled t i ≡ a → sorts a ≡ Some (statement exits) → IsGood p sorts sees (node_op (labelled t i ∷ []) work.Labelled) (statement exits))

-- K38: `break` stands in a loop or a `switch`, and `continue` in a loop
abbrev pub JumpsAreGood : Type 0
JumpsAreGood = (p : Program) (sorts : ℕ → Option Sort) (sees : ℕ → Bool) (labels : Option ℕ → List ℕ) (result : Option ℕ → Form) (a : Around)
    → (is_some a.breakable ≡ true → IsGood p sorts sees (node_op [] work.Break) (statement (exits_in labels result a)))
    × (is_some a.iteration ≡ true → IsGood p sorts sees (node_op [] work.Continue) (statement (exits_in labels result a)))

-- K42: the label is one of a block around
abbrev pub GotosAreGood : Type 0
GotosAreGood = (p : Program) (sorts : ℕ → Option Sort) (sees : ℕ → Bool) (exits : Exits) (label : ℕ) → IsAmong label exits.labels
    → IsGood p sorts sees (node_op [] (work.Goto label)) (statement exits)

-- what a function gives: nothing or a scalar (K8)
abbrev pub IsResult : Qualified → Type 0
IsResult (plain Void c v) = Unit {0}
IsResult (plain (Int kind) c v) = Unit {0}
IsResult (to c v below) = Unit {0}
IsResult other = ⊥

-- K39: a `return` has an expression that may be assigned to what its function gives, or none where that is void
abbrev pub ReturnsAreGood : Type 0
ReturnsAreGood = OfNodes (λ p t sorts sees at i exits. exits.result ≡ form_of t (slice_index_or t.named i 0) → IsResult (named_type t i)
    → (parts_at t i ≡ [] → returns_badly (named_type t i) at None ≡ false → IsGood p sorts sees (node_op (parts_at t i) (work.Return (form_of t (slice_index_or t.named i 0)))) (statement exits))
    × ((a : ℕ) → parts_at t i ≡ a ∷ [] → returns_badly (named_type t i) at (Some a) ≡ false → has_value (at a).type ≡ true → IsUsedAt p t sorts at a
    → IsGood p sorts sees (node_op (parts_at t i) (work.Return (form_of t (slice_index_or t.named i 0)))) (statement exits)))

-- ---- 6.7, 6.8.2, 6.8.3: blocks, expression statements and declarations

abbrev pub BlocksAreGood : Type 0
BlocksAreGood = OfNodes (λ p t sorts sees at i exits.
    ((k node : ℕ) → slice_get (parts_at t i) k ≡ Some node → sorts node ≡ Some (statement (in_block (targets_from t 0 (parts_at t i)) exits)))
    → IsGood p sorts sees (node_op (parts_at t i) (work.Block (objects_in t (parts_at t i)) (targets_from t 0 (parts_at t i)))) (statement exits))

abbrev pub ExpressionStatementsAreGood : Type 0
ExpressionStatementsAreGood = OfNodes (λ p t sorts sees at i exits. ((k node : ℕ) → slice_get (parts_at t i) k ≡ Some node → HasSort sorts node)
    → IsGood p sorts sees (node_op (parts_at t i) work.Expression) (statement exits))

abbrev pub DeclarationsAreGood : Type 0
DeclarationsAreGood = OfNodes (λ p t sorts sees at i exits. ((k node : ℕ) → slice_get (declarators_of t i) k ≡ Some node → HasSort sorts node)
    → IsGood p sorts sees (node_op (declarators_of t i) work.Declaration) (statement exits))

-- a declarator sees its object; its initialisers set parts of that which have the cells of their types
abbrev pub DeclaratorsAreGood : Type 0
DeclaratorsAreGood = (p : Program) (sorts : ℕ → Option Sort) (sees : ℕ → Bool) (exits : Exits) (declared : ℕ) → sees declared ≡ true
    → IsGood p sorts sees (node_op [] (work.Declare declared)) (statement exits)
    × ((parts : List ℕ) (lines : List Line) → ((k node : ℕ) → slice_get parts k ≡ Some node → HasSort sorts node)
    → AreLines p sorts (node_op parts (work.Initialise declared lines)) declared 0 lines → TakeLines sorts (node_op parts (work.Initialise declared lines)) 0 lines
    → IsGood p sorts sees (node_op parts (work.Initialise declared lines)) (statement exits))
