-- The run of a file's typed unit comes to a status, or to a numbered case: what the grammar and the check give of its tree is no premise.
use Rattle.std.specs.Prelude.{◌≡◌, ℕ, ◌<◌, ◌^◌, true, Some, List, [], slice_get, slice_index_or}
use Rattle.cr_syntax.specs.declared.node.Kind.TheVariants as kind
use Rattle.cr_syntax.specs.declared.node.Node.{Node}
use Rattle.cr_check_types.specs.Types.{type_at}
use Rattle.cr_check_expressions.specs.Forms.{form_of}
use Rattle.cr_check_expressions.specs.Ruled.{facts_at}
use Rattle.cr_check_enclosing.specs.Around.{outermost}
use Rattle.cr_check_unit.specs.Typing.{cut, source_in}
use Rattle.cr_typed.specs.declared.typed.Typed.{Typed}
use Rattle.cr_typed.specs.declared.typed.Duration.TheVariants as duration
use Rattle.cr_typed_columns.specs.Expressions.{is_filling}
use Rattle.cr_meaning.specs.Language.{Reply, Runs}
use Rattle.cr_meaning.specs.World.{Program, World, Answer, Halt}
use Rattle.cr_meaning.specs.Meaning.{body, operands, root_of, start_of, run_of}
use Rattle.cr_meaning.specs.declared.run.Limits.{Limits}
use Rattle.cr_meaning.specs.declared.run.Run.{Run}
use Rattle.cr_meaning_operations.specs.Operations.{entity_of, program_of}
use Rattle.cr_meaning_typing.specs.Typed.Placed.{IsNamed}
use Rattle.cr_meaning_typing.specs.Typed.Typing.{is_expression, IsRead}
use Rattle.cr_meaning_typing.specs.Judged.Judged.{seen_in, source_of, scene_of}
use Rattle.cr_meaning_declarations.specs.Declared.Files.{IsUnitOfFile}
use Rattle.cr_meaning_soundness.specs.Programs.{IsWellTyped}
use Rattle.cr_meaning_operations.specs.Laws.{Comes}
use Rattle.cr_meaning_orders.specs.Fixed.{IsOrderFixed}
use Rattle.cr_meaning_declarations.specs.Units.Laws.{ComesInAnyOrder}
use Rattle.cr_meaning_typing.specs.Sorts.Table.{Judgement, sorts_in}
use Rattle.cr_meaning_files.specs.Reached.{is_reached}
use Rattle.cr_meaning_files.specs.Local.{is_object_by}

-- what was judged of a file's unit, where a run may reach these nodes
abbrev pub judgement_of : (file : List ℕ) (t : Typed) → IsUnitOfFile file t → Judgement
judgement_of file t it = record {
  at = seen_in it.checked.checked;
  source = source_of it.checked.by.tree it.checked.checked;
  around = λ i. slice_index_or it.checked.checked.surroundings.around i outermost;
  gives = (scene_of it.checked.by.tree it.checked.checked).gives;
  fills = is_filling it.checked.by.columns;
  runs = is_reached t;
}

-- what names, members and type names stand for is known where an expression reads it, and constants are spelled as such
abbrev pub AreRead : (file : List ℕ) (t : Typed) → IsUnitOfFile file t → Type 0
AreRead file t it = (i : ℕ) (n : Node) → slice_get it.checked.by.tree.nodes.now i ≡ Some n → is_expression (form_of n.kind) ≡ true
    → IsRead (form_of n.kind) (facts_at it.checked.checked.table (cut i it.checked.checked.whole.typing).facts)
    (source_in (type_at it.checked.checked.table) it.checked.by.tree it.checked.checked.texts (cut i it.checked.checked.whole.typing)) i n

-- a name that is used as a place names an object of the program (K40), with cells
abbrev pub AreVisible : Program → Typed → Judgement → Type 0
AreVisible p t j = (i : ℕ) (n : Node) → j.runs i ≡ true → slice_get t.nodes i ≡ Some n → n.kind ≡ kind.Identifier → (j.at i).lvalue ≡ true → IsNamed p t i
    × (is_object_by (slice_index_or t.durations (entity_of t i) duration.NoObject) ≡ true)

-- within limits, whatever the run of a file's typed unit comes to is an outcome: a status, or one of U1 to U16 and N1 to N7 at a node
abbrev pub FilesHaveOutcomes : Type 0
FilesHaveOutcomes = (file : List ℕ) (t : Typed) (it : IsUnitOfFile file t) (limits : Limits)
    → limits.cells < 2 ^ 63 → limits.output < 2 ^ 31 → (reply : Reply Answer World Halt)
    → (let p = program_of t limits in Runs (body p) (body p (operands (root_of p) [])) (start_of limits) reply) → (outcome : Run) × (run_of limits reply ≡ Some outcome)

-- its program is well typed: in one table of sorts each node's operation has the sort that is demanded of it
abbrev pub FilesAreWellTyped : Type 0
FilesAreWellTyped = (file : List ℕ) (t : Typed) (it : IsUnitOfFile file t) (limits : Limits) → limits.output < 2 ^ 31
    → IsWellTyped (program_of t limits) (sorts_in (program_of t limits) t (judgement_of file t it))

-- so where its order is fixed, it comes to one end in whatever order operands, arguments and initialisers are evaluated
abbrev pub FixedFilesRunAlike : Type 0
FixedFilesRunAlike = (file : List ℕ) (t : Typed) (limits : Limits) → IsUnitOfFile file t → limits.cells < 2 ^ 63 → limits.output < 2 ^ 31
    → IsOrderFixed (program_of t limits) → (one other : Run) → Comes t limits one → ComesInAnyOrder t limits other → other ≡ one
