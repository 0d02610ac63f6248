-- The run of a typed unit comes to a status, or to a numbered case.
use Rattle.std.specs.Prelude.{◌≡◌, ℕ, ◌<◌, ◌^◌, Bool, true, false, Some, [], slice_get, slice_index_or}
use Rattle.cr_ints.specs.declared.kind.IntKind.TheVariants.{Int as IntegerKind}
use Rattle.cr_check_expressions.specs.Forms.{form_of}
use Rattle.cr_check_statements.specs.Setting.{Scene}
use Rattle.cr_typed.specs.declared.typed.Typed.{Typed}
use Rattle.cr_meaning.specs.Language.{Reply, Runs}
use Rattle.cr_meaning.specs.World.{World, Answer, Halt}
use Rattle.cr_meaning.specs.Meaning.{body, operands, root_of, start_of, run_of}
use Rattle.cr_meaning.specs.declared.op.Form.TheVariants as form
use Rattle.cr_meaning.specs.declared.run.Limits.{Limits}
use Rattle.cr_meaning.specs.declared.run.Run.{Run}
use Rattle.cr_meaning_soundness.specs.Scopes.{AreScoped, IsScopedWhole}
use Rattle.cr_meaning_soundness.specs.Programs.{AreMainParameters}
use Rattle.std.specs.Prelude.{map}
use Rattle.cr_meaning_operations.specs.Operations.{kind_at, part_at, parameter_of, strings_of, nodes_from, is_lasting, is_static_initialiser, program_of}
use Rattle.cr_meaning_typing.specs.Typed.Typing.{is_expression}
use Rattle.cr_meaning_typing.specs.Sorts.Table.{Judgement, exits_at}
use Rattle.cr_meaning_soundness.specs.Statements.{of_function}
use Rattle.cr_meaning_typing.specs.Whole.Statements.{IsFounded}

-- main's body is a statement that gives an int, and its parameters are those of 5.1.2.2.1; the initialisers of static objects are reached
pub record IsStarted (t : Typed) (limits : Limits) (j : Judgement) : Type 0 where
  pub parameters : AreMainParameters (program_of t limits) (strings_of t (slice_index_or t.parameters t.main [])) (map (parameter_of t) (slice_index_or t.parameters t.main []))
  pub body_runs : j.runs (part_at t t.main 2) ≡ true
  pub body_plain : is_expression (form_of (kind_at t (part_at t t.main 2))) ≡ false
  pub body_exits : exits_at t j (part_at t t.main 2) ≡ of_function (form.Number IntegerKind)
  pub initialisers_run : (k a : ℕ) → slice_get (nodes_from (is_static_initialiser t) 0 t.nodes) k ≡ Some a → j.runs a ≡ true

-- which node sees which object: a part sees no more than its node does and what that enters for it (6.2.1p4)
pub record AreSeen (t : Typed) (limits : Limits) (sees : ℕ → ℕ → Bool) : Type 0 where
  pub scoped : AreScoped (program_of t limits) sees
  pub whole : IsScopedWhole sees (nodes_from (is_static_initialiser t) 0 t.nodes) (nodes_from (is_lasting t) 0 t.nodes) (map (parameter_of t) (slice_index_or t.parameters t.main [])) (part_at t t.main 2)

-- all that the law asks of a unit
pub record IsReady (t : Typed) (limits : Limits) (j : Judgement) (scene : Scene) (sees : ℕ → ℕ → Bool) : Type 0 where
  pub founded : IsFounded t limits j scene sees
  pub started : IsStarted t limits j
  pub seen : AreSeen t limits sees

-- within limits, whatever the run of such a unit comes to is an outcome: a status, or one of U1 to U16 and N1 to N7 at a node
abbrev pub UnitsHaveOutcomes : Type 0
UnitsHaveOutcomes = (t : Typed) (limits : Limits) (j : Judgement) (scene : Scene) (sees : ℕ → ℕ → Bool) → IsReady t limits j scene sees
    → limits.cells < 2 ^ 63 → limits.output < 2 ^ 31 → (reply : Reply Answer World Halt)
    → (let p = program_of t limits in Runs (body p) (body p (operands (root_of p) [])) (start_of limits) reply) → (outcome : Run) × (run_of limits reply ≡ Some outcome)
