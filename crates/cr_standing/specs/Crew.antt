-- What comes back once all workers are joined.
use Rattle.std.specs.Prelude.{◌≡◌, ℕ, ◌≤◌, Bool, List, drop, length, vec_capacity, Option, None, Some}
use Rattle.std.specs.Arc.{arc_value}
use Rattle.cr_cursor.specs.Variants.{Offer}
use Rattle.cr_outside.specs.declared.judge.Judge.{Ghosts as JudgeGhosts}
use Rattle.cr_reduce.specs.Bench.{Each, Judging}
use Rattle.cr_reduce.specs.Reduction.{Proposals, Within, cursors_of}
use Rattle.cr_reduce.specs.Search.{Search}
use Rattle.cr_reduce.specs.Walk.{EndsHere}
use Rattle.cr_reduce.specs.declared.end.Why.{Why}
use Rattle.cr_reduce.specs.declared.end.Why.TheVariants.{Fault}
use Rattle.cr_standing.specs.declared.crew.Back.{Back}
use Rattle.cr_standing.specs.declared.walk.Walk.{Walk}
use Rattle.cr_standing.specs.declared.walking.Step.{Step}
use Rattle.cr_standing.specs.declared.walking.Step.TheVariants.{On, Unsure, Ends}
use Rattle.cr_standing_workers.specs.Serving.{Serves}
use Rattle.cr_standing.specs.Walk.{IsSound, Leads, standing_at}

-- what is known of a walk that its workers left so: it has ended by no fault, whatever the judges did, or it may go on
abbrev pub LeavesSo : {T : Type 0} → Search → Proposals → (T → List ℕ → Offer) → Option ℕ → Walk T → Option Why → Type 0
LeavesSo s p offer limit walk (Some why) = ((turn worker : ℕ) → why ≡ Fault turn worker → ⊥) × ((before now : Judging) → EndsHere s before now limit (standing_at offer walk) why)
LeavesSo s p offer limit walk None = IsSound p offer walk

-- and after a step
abbrev pub StepSays : {T : Type 0} → Search → Proposals → (T → List ℕ → Offer) → Option ℕ → Walk T → Step → Type 0
StepSays s p offer limit walk On = IsSound p offer walk
StepSays s p offer limit walk Unsure = IsSound p offer walk
StepSays s p offer limit walk (Ends why) = LeavesSo s p offer limit walk (Some why)

-- The judges, of which the first ones worked, so many, and where the walk was left that went on so.
pub record IsBack {J K T : Type 0} (s : Search) (judge : JudgeGhosts J K) (asks : Bool) (p : Proposals) (offer : T → List ℕ → Offer) (limit : Option ℕ) (made stops : ℕ) (walk : Walk T) (given : List J) (b : Back J T) : Type 0 where
  pub serve : Each (Serves judge asks) given b.judges.items
  pub idle : drop stops b.judges.items ≡ drop stops given
  pub room : made ≤ vec_capacity b.judges
  pub leads : Leads s (standing_at offer walk) (standing_at offer b.walk)
  pub placed : b.walk.position ≤ length (cursors_of (offer (arc_value b.walk.shared).prep b.walk.file.items))
  pub within : Within limit b.walk.turns
  pub leaves : LeavesSo s p offer limit b.walk b.why
