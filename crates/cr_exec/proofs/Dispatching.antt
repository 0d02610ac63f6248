-- The work of a node, by its operation.
use Rattle.std.proofs.Common.{◌≡◌, ℕ, true, Option, Some, Result, Ok, List, [], ◌∷◌, refl, sym, ap, ◌∙◌, subst, slice_get}
use Rattle.cr_eval_join.specs.Turns.{is_expression}
use Rattle.cr_eval_join.specs.Parts.{IsFootOf}
use Rattle.cr_eval_join.proofs.Turning.{expression_joins}
use Rattle.cr_footprint.specs.Foot.{sets, no_events}
use Rattle.cr_footprint.specs.declared.foot.Foot.{Foot}
use Rattle.cr_meaning.specs.World.{Program, World, Answer}
use Rattle.cr_meaning.specs.Events.{Event}
use Rattle.cr_meaning.specs.Nodes.{Act, expression, events_of}
use Rattle.cr_meaning.specs.Meaning.{before_by, join_by}
use Rattle.cr_meaning.specs.declared.op.Op.{Op}
use Rattle.cr_meaning.proofs.Merging.{nothing_has_no_sets}
use Rattle.cr_exec_slices.specs.Turns.{before_for, before_at, join_for, join_at}
use Rattle.cr_exec_slices.specs.Shown.{Worked, Joined, Leaves}
use Rattle.cr_exec_slices.specs.declared.nodes.Halted.{Halted}
use Rattle.cr_eval_join.specs.declared.part.Part.{Part}
use Rattle.cr_exec_turns.specs.declared.held.Held.{Held}
use Rattle.cr_exec_turns.specs.declared.held.Held.TheVariants as held
use Rattle.cr_exec_turns.specs.Held.{shows}
use Rattle.cr_exec.specs.Runs.{IsNoCall}

module _ (p : Program) (node : ℕ) (op : Op) (answers : List Answer) (before after : World) where
  pub expression_here : (r : Result (Unit {0}) Halted) (left : List Held) → is_expression op.work ≡ true → IsNoCall op.work
      → Leaves shows (expression p node op answers before) r left after → Leaves shows (join_by p node op op.work answers before) r left after
  expression_here r left e other h = let P : Act → Type 0 = λ act. Leaves shows act r left after in subst P (sym (expression_joins p node op op.work answers before e other)) h

pub nothing_done : (foot : Foot) → sets foot ≡ no_events → IsFootOf foot []
nothing_done foot e = record { same = e ∙ sym nothing_has_no_sets }

-- a statement's answer has no events
no_events_of : (given : Held) (answer : Answer) → shows given answer → ((part : Part) → given ≡ held.Part part → ⊥) → events_of answer ≡ []
no_events_of (held.Part part) answer s other = absurd (other part refl)
no_events_of held.Next answer s other = ap events_of s
no_events_of held.Broke answer s other = ap events_of s
no_events_of held.Continued answer s other = ap events_of s
no_events_of (held.Jumped label) answer s other = ap events_of s
no_events_of (held.Returned value) answer s other = ap events_of s

-- so an empty footprint is its
pub nothing_for : (given : Held) (answer : Answer) (foot : Foot) → shows given answer → ((part : Part) → given ≡ held.Part part → ⊥) → sets foot ≡ no_events → IsFootOf foot (events_of answer)
nothing_for given answer foot s other e = let F : List Event → Type 0 = λ l. IsFootOf foot l in subst F (sym (no_events_of given answer s other)) (nothing_done foot e)
