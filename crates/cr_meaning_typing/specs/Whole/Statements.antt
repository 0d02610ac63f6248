-- What the statements of a typed unit rest on, and the law: each node that a run may reach is good, in one table of sorts.
use Rattle.std.specs.Prelude.{◌≡◌, ℕ, zero, suc, ◌<◌, ◌≤◌, ◌^◌, ◌⊎◌, Bool, true, false, Option, Some, List, [], map, length, slice_get, slice_index_or}
use Rattle.cr_syntax.specs.declared.node.Kind.{Kind}
use Rattle.cr_syntax.specs.declared.node.Kind.TheVariants as kind
use Rattle.cr_syntax.specs.declared.node.Node.{Node}
use Rattle.cr_syntax_nodes.specs.Loops.{clauses_of}
use Rattle.cr_typed.specs.declared.typed.Typed.{Typed}
use Rattle.cr_typed.specs.declared.typed.Put.{Put}
use Rattle.cr_check_enclosing.specs.Around.{inside}
use Rattle.cr_check_expressions.specs.declared.least.Break.{Break}
use Rattle.cr_check_expressions.specs.Breaks.{IsAmong as IsBreakAmong}
use Rattle.cr_check_expressions.specs.Forms.{form_of}
use Rattle.cr_check_statements.specs.Setting.{Scene}
use Rattle.cr_check_statements.specs.Statements.{faults_in}
use Rattle.cr_meaning.specs.World.{Program}
use Rattle.cr_meaning.specs.declared.op.Work.TheVariants as work
use Rattle.cr_meaning.specs.declared.run.Limits.{Limits}
use Rattle.cr_meaning_soundness.specs.Sorts.{IsAmong}
use Rattle.cr_meaning_soundness.specs.Statements.{AreLines}
use Rattle.cr_meaning_soundness.specs.Operands.{TakeLines}
use Rattle.cr_meaning_operations.specs.Shapes.{named_type}
use Rattle.cr_meaning_operations.specs.Operations.{node_op, kind_at, parts_at, part_at, name_of, entity_of, labelled, for_of, declarators_of, is_static_initialiser, line_of, op_of, program_of}
use Rattle.cr_meaning_typing.specs.Typed.Good.{IsGood}
use Rattle.cr_meaning_typing.specs.Typed.Typing.{is_expression}
use Rattle.cr_meaning_typing.specs.Statements.Statements.{IsResult}
use Rattle.cr_meaning_typing.specs.Sorts.Table.{Judgement, sort_at, sorts_in, exits_at}
use Rattle.cr_meaning_typing.specs.Sorts.Founded.{IsOperand, AreFounded}

-- ---- what the grammar gives of statements (6.8)

-- a run may reach expressions and these: statements, declarations and declarators
abbrev pub is_statement : Kind → Bool
is_statement kind.Compound = true
is_statement kind.ExpressionStatement = true
is_statement kind.If = true
is_statement kind.Switch = true
is_statement kind.While = true
is_statement kind.Do = true
is_statement kind.For = true
is_statement kind.Label = true
is_statement kind.Case = true
is_statement kind.Default = true
is_statement kind.Goto = true
is_statement kind.Break = true
is_statement kind.Continue = true
is_statement kind.Return = true
is_statement kind.Declaration = true
is_statement kind.InitDeclarator = true
is_statement kind.NameDeclarator = true
is_statement kind.PointerDeclarator = true
is_statement kind.GroupDeclarator = true
is_statement kind.ArrayDeclarator = true
is_statement kind.FunctionDeclarator = true
is_statement k = false

-- these parts of a statement are expressions that it evaluates
abbrev pub has_condition : Kind → ℕ → Bool
has_condition kind.If zero = true
has_condition kind.Switch zero = true
has_condition kind.While zero = true
has_condition kind.Do (suc zero) = true
has_condition kind.Return zero = true
has_condition kind.ExpressionStatement zero = true
has_condition k n = false

-- and these are statements, or declarations, within it
abbrev pub has_inner : Kind → ℕ → Bool
has_inner kind.If (suc n) = true
has_inner kind.While (suc zero) = true
has_inner kind.Do zero = true
has_inner kind.Label zero = true
has_inner kind.Default zero = true
has_inner kind.Case (suc zero) = true
has_inner kind.Compound n = true
has_inner k n = false

abbrev pub is_labelled : Kind → Bool
is_labelled kind.Label = true
is_labelled kind.Case = true
is_labelled kind.Default = true
is_labelled k = false

-- such a part has from above what its node hands on
pub record IsInner (t : Typed) (j : Judgement) (i a : ℕ) : Type 0 where
  pub plain : is_expression (form_of (kind_at t a)) ≡ false
  pub apart : is_static_initialiser t a (kind_at t a) ≡ false
  pub around : j.around a ≡ inside (kind_at t i) i (j.around i)

-- a condition or a step of a `for`, as a part of it
abbrev pub IsCondition : Typed → Judgement → ℕ → ℕ → Type 0
IsCondition t j i a = (k : ℕ) × IsOperand t j i k a

-- the clauses of a `for` and its body (6.8.5.3): the one that controls is the one that the check reads
pub record IsFor (t : Typed) (j : Judgement) (n : Node) (i : ℕ) : Type 0 where
  pub objects : List ℕ
  pub first : Option ℕ
  pub control : Option ℕ
  pub step : Option ℕ
  pub body : ℕ
  pub is : for_of t i ≡ node_op [] (work.For objects first control step body)
  pub tested : (clauses_of t.nodes n).test ≡ control
  pub test : (a : ℕ) → control ≡ Some a → IsCondition t j i a
  pub first_runs : (a : ℕ) → first ≡ Some a → j.runs a ≡ true
  pub control_runs : (a : ℕ) → control ≡ Some a → j.runs a ≡ true
  pub step_runs : (a : ℕ) → step ≡ Some a → j.runs a ≡ true
  pub inner : IsInner t j i body
  pub body_runs : j.runs body ≡ true

-- the expression of a `switch`, and its body, a block
pub record IsSwitch (t : Typed) (j : Judgement) (i : ℕ) : Type 0 where
  pub selects : slice_get (parts_at t i) 0 ≡ Some (part_at t i 0)
  pub inner : IsInner t j i (part_at t i 1)
  pub block : kind_at t (part_at t i 1) ≡ kind.Compound
  pub within : part_at t i 1 < length t.nodes
  pub items_run : (k a : ℕ) → slice_get (parts_at t (part_at t i 1)) k ≡ Some a → j.runs a ≡ true

pub record AreStatementsLaid (t : Typed) (j : Judgement) : Type 0 where
  pub proper : (i : ℕ) → j.runs i ≡ true → is_expression (form_of (kind_at t i)) ≡ false → is_statement (kind_at t i) ≡ true
  pub conditions : (i k a : ℕ) → has_condition (kind_at t i) k ≡ true → slice_get (parts_at t i) k ≡ Some a → IsOperand t j i k a
  pub inners : (i k a : ℕ) → has_inner (kind_at t i) k ≡ true → slice_get (parts_at t i) k ≡ Some a → IsInner t j i a
  pub branches : (i : ℕ) → kind_at t i ≡ kind.If → (length (parts_at t i) ≡ 2) ⊎ (length (parts_at t i) ≡ 3)
  pub whiles : (i : ℕ) → kind_at t i ≡ kind.While → length (parts_at t i) ≡ 2
  pub dos : (i : ℕ) → kind_at t i ≡ kind.Do → length (parts_at t i) ≡ 2
  pub returns : (i : ℕ) → kind_at t i ≡ kind.Return → length (parts_at t i) ≤ 1
  pub expressions : (i : ℕ) → kind_at t i ≡ kind.ExpressionStatement → length (parts_at t i) ≤ 1
  pub labels : (i : ℕ) → is_labelled (kind_at t i) ≡ true → (k : ℕ) × ((has_inner (kind_at t i) k ≡ true) × (slice_get (parts_at t i) k ≡ Some (labelled t i)))
  pub switches : (i : ℕ) → j.runs i ≡ true → kind_at t i ≡ kind.Switch → IsSwitch t j i
  pub fors : (i : ℕ) (n : Node) → j.runs i ≡ true → slice_get t.nodes i ≡ Some n → n.kind ≡ kind.For → IsFor t j n i
  -- what is evaluated and executed with a node is reached with it
  pub conditions_run : (i k a : ℕ) → j.runs i ≡ true → has_condition (kind_at t i) k ≡ true → slice_get (parts_at t i) k ≡ Some a → j.runs a ≡ true
  pub inners_run : (i k a : ℕ) → j.runs i ≡ true → has_inner (kind_at t i) k ≡ true → slice_get (parts_at t i) k ≡ Some a → j.runs a ≡ true
  pub declarators_run : (i k a : ℕ) → j.runs i ≡ true → kind_at t i ≡ kind.Declaration → slice_get (declarators_of t i) k ≡ Some a → j.runs a ≡ true
  pub puts_run : (i k : ℕ) (put : Put) → j.runs i ≡ true → kind_at t i ≡ kind.InitDeclarator → slice_get (slice_index_or t.plans i []) k ≡ Some put → j.runs put.node ≡ true

-- the blocks around a node have greater numbers
abbrev pub BlocksRise : Typed → Judgement → Type 0
BlocksRise t j = (b c : ℕ) → (j.around b).block ≡ Some c → (b < c) × (c < length t.nodes)

-- ---- what the check gives of statements

-- no statement breaks a constraint; what a `return` gives is what its function gives
pub record AreAllowed (t : Typed) (j : Judgement) (scene : Scene) : Type 0 where
  pub at : scene.at ≡ j.at
  pub nodes : scene.nodes ≡ t.nodes
  pub around : (i : ℕ) → scene.around i ≡ j.around i
  pub gives : (function : Option ℕ) → scene.gives function ≡ j.gives function
  pub allowed : (i : ℕ) (n : Node) (b : Break) → slice_get t.nodes i ≡ Some n → IsBreakAmong (faults_in n.kind scene i n) b → ⊥
  pub returns : (i : ℕ) (n : Node) → slice_get t.nodes i ≡ Some n → n.kind ≡ kind.Return → named_type t i ≡ scene.gives (scene.around i).function

-- ---- premises that are shown of no unit here

-- what a `return` that a run may reach is in: a function, which gives nothing or a scalar (6.9.1p3)
pub record IsIn (j : Judgement) (i : ℕ) : Type 0 where
  pub definition : ℕ
  pub is : (j.around i).function ≡ Some definition
  pub result : IsResult (j.gives (Some definition))

-- an initialised declarator that a run may reach: its plan sets parts of the object that have the cells of the initialisers' types (6.7.9)
pub record IsInitialised (p : Program) (t : Typed) (j : Judgement) (sees : ℕ → ℕ → Bool) (i : ℕ) : Type 0 where
  pub sees_it : sees i (entity_of t (name_of t i)) ≡ true
  pub lines : (let puts = slice_index_or t.plans i [] in
      AreLines p (sorts_in p t j) (node_op (map (λ put. put.node) puts) (work.Initialise (entity_of t (name_of t i)) (map (line_of t) puts))) (entity_of t (name_of t i)) 0 (map (line_of t) puts))
  pub take : (let puts = slice_index_or t.plans i [] in
      TakeLines (sorts_in p t j) (node_op (map (λ put. put.node) puts) (work.Initialise (entity_of t (name_of t i)) (map (line_of t) puts))) 0 (map (line_of t) puts))

abbrev pub is_declarator : Kind → Bool
is_declarator kind.NameDeclarator = true
is_declarator kind.PointerDeclarator = true
is_declarator kind.GroupDeclarator = true
is_declarator kind.ArrayDeclarator = true
is_declarator k = false

pub record AreDeclared (p : Program) (t : Typed) (j : Judgement) (sees : ℕ → ℕ → Bool) : Type 0 where
  pub returns : (i : ℕ) → j.runs i ≡ true → kind_at t i ≡ kind.Return → IsIn j i
  -- the label of a `goto` is one of a block around it (6.8.6.1)
  pub gotos : (i : ℕ) → j.runs i ≡ true → kind_at t i ≡ kind.Goto → IsAmong (entity_of t i) (exits_at t j i).labels
  pub declarators : (i : ℕ) → j.runs i ≡ true → is_declarator (kind_at t i) ≡ true → sees i (name_of t i) ≡ true
  pub names : (i : ℕ) → kind_at t i ≡ kind.NameDeclarator → name_of t i ≡ i
  pub initialised : (i : ℕ) → j.runs i ≡ true → kind_at t i ≡ kind.InitDeclarator → IsInitialised p t j sees i

-- all of it
pub record IsFounded (t : Typed) (limits : Limits) (j : Judgement) (scene : Scene) (sees : ℕ → ℕ → Bool) : Type 0 where
  pub expressions : AreFounded t limits j sees
  pub laid : AreStatementsLaid t j
  pub blocks : BlocksRise t j
  pub allowed : AreAllowed t j scene
  pub declared : AreDeclared (program_of t limits) t j sees

-- ---- the law

abbrev pub NodesAreGood : Type 0
NodesAreGood = (t : Typed) (limits : Limits) (j : Judgement) (scene : Scene) (sees : ℕ → ℕ → Bool) → IsFounded t limits j scene sees → limits.output < 2 ^ 31
    → (i : ℕ) → j.runs i ≡ true → IsGood (program_of t limits) (sorts_in (program_of t limits) t j) (sees i) (op_of t i) (sort_at (program_of t limits) t j i)
