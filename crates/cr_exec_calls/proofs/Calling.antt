-- A call of a function of the program, once its arguments are evaluated.
use Rattle.std.proofs.Common.{◌≡◌, ℕ, Bool, true, false, if◌then◌else◌, Result, Ok, Err, List, [], ◌∷◌, map, refl, sym, ap, ap₂, ◌∙◌, subst}
use Rattle.std.specs.List.{AllZip}
use Rattle.cr_memory.specs.declared.value.Trap.{Trap}
use Rattle.cr_memory.specs.declared.value.Trap.TheVariants.{Undefined, Left, NoMemory}
use Rattle.cr_meaning.specs.Events.{Arguments, operands_clash}
use Rattle.cr_meaning.specs.Language.{halts}
use Rattle.cr_meaning.specs.World.{Program, World, Answer, part, stopped}
use Rattle.cr_meaning.specs.Nodes.{Act, stops, resulting, value_of, values, events_of, unless_clash, arguments, begun, called}
use Rattle.cr_meaning.specs.declared.op.Callee.{Callee}
use Rattle.cr_meaning.specs.declared.op.Parameter.{Parameter}
use Rattle.cr_meaning.specs.declared.op.Work.TheVariants.{Call}
use Rattle.cr_meaning.specs.declared.value.Value.{Value}
use Rattle.cr_eval.specs.Answers.{Answers}
use Rattle.cr_exec_slices.specs.Shown.{Worked}
use Rattle.cr_exec_slices.specs.declared.nodes.Halted.{Halted}
use Rattle.cr_exec_turns.specs.declared.held.Held.{Held}
use Rattle.cr_exec_turns.specs.declared.held.Held.TheVariants as held
use Rattle.cr_exec_turns.specs.Held.{shows}
use Rattle.cr_exec_turns.proofs.Valued.{values_shown}
use Rattle.cr_exec_world.specs.Worlds.{halt_of}
use Rattle.cr_exec_calls.specs.Arguments.{value_in, values_in}
use Rattle.cr_exec_calls.specs.Clashes.{Clashes}

-- ---- work that no conflict stops, or that one stops

pub unless_none : (node : ℕ) (callee : Callee) (answers : List Answer) (act : Act) → operands_clash Arguments 0 (map events_of answers) ≡ false
    → unless_clash node (Call callee) answers act ≡ act
unless_none node callee answers act e = ap (λ (b : Bool). if b then stops (Undefined 12) node else act) e

pub unless_some : (node : ℕ) (callee : Callee) (answers : List Answer) (act : Act) → operands_clash Arguments 0 (map events_of answers) ≡ true
    → unless_clash node (Call callee) answers act ≡ stops (Undefined 12) node
unless_some node callee answers act e = ap (λ (b : Bool). if b then stops (Undefined 12) node else act) e

-- ---- the call

module _ (p : Program) (node : ℕ) (callee : Callee) (parameters : List Parameter) (done : List Held) (answers : List Answer) (w after : World) where
  called_is : (result : Result (List Value) Trap) → Clashes done false → AllZip shows done answers → arguments w.memory parameters (values_in done) ≡ result
      → called p node (Call callee) parameters answers w ≡ resulting node result (begun p node parameters w)
  called_is result c z e =
      unless_none node callee answers (resulting node (arguments w.memory parameters (values answers)) (begun p node parameters w)) (c.clashes 0 answers z)
      ∙ (ap (λ (vs : List Value). resulting node (arguments w.memory parameters vs) (begun p node parameters w)) (values_shown done answers z)
      ∙ ap (λ (r : Result (List Value) Trap). resulting node r (begun p node parameters w)) e)

  pub called_goes : (given : List Value) (r : Result (Unit {0}) Halted) → Clashes done false → AllZip shows done answers
      → Answers (arguments w.memory parameters (values_in done)) (Ok given) → Worked (begun p node parameters w given) r after
      → Worked (called p node (Call callee) parameters answers w) r after
  called_goes given r c z a h = let P : Act → Type 0 = λ act. Worked act r after in subst P (sym (called_is (Ok given) c z a.says)) h

  fails_by : (trap : Trap) → Clashes done false → AllZip shows done answers → Answers (arguments w.memory parameters (values_in done)) (Err trap)
      → Worked (called p node (Call callee) parameters answers w) (Err (halt_of trap node)) after
  fails_by (Undefined number) c z a = record { works = called_is (Err (Undefined number)) c z a.says }
  fails_by (Left number) c z a = record { works = called_is (Err (Left number)) c z a.says }
  fails_by NoMemory c z a = record { works = tt }

  pub called_fails : (trap : Trap) (halted : Halted) → Clashes done false → AllZip shows done answers → Answers (arguments w.memory parameters (values_in done)) (Err trap)
      → halted ≡ halt_of trap node → Worked (called p node (Call callee) parameters answers w) (Err halted) after
  called_fails trap halted c z a e =
      let P : Halted → Type 0 = λ h. Worked (called p node (Call callee) parameters answers w) (Err h) after in subst P (sym e) (fails_by trap c z a)
