-- What the whole reduction by standing workers says.
use Rattle.std.specs.Prelude.{◌≡◌, ℕ, ◌≤◌, Bool, List, drop, length, Option}
use Rattle.std.specs.Arc.{arc_value}
use Rattle.cr_cursor.specs.Variants.{Offer}
use Rattle.cr_outside.specs.declared.judge.Judge.{Ghosts as JudgeGhosts}
use Rattle.cr_reduce.specs.Bench.{Each, judging_of}
use Rattle.cr_reduce.specs.Reduction.{Within, cursors_of}
use Rattle.cr_reduce.specs.Search.{Search}
use Rattle.cr_reduce.specs.Walk.{EndsHere}
use Rattle.cr_reduce.specs.declared.end.End.{End}
use Rattle.cr_reduce.specs.declared.end.Why.TheVariants.{Fault}
use Rattle.cr_standing.specs.declared.running.Ended.{Ended}
use Rattle.cr_standing.specs.declared.walk.Walk.{Walk}
use Rattle.cr_standing_workers.specs.Serving.{Serves}
use Rattle.cr_standing_workers.specs.Told.{EndsIfTold}
use Rattle.cr_standing.specs.Walk.{Leads, standing_at}

-- where and why the walk by these judges, of which so many worked, ended that began so, and what was done to the judges
pub record IsManaged {J K T : Type 0} (s : Search) (judge : JudgeGhosts J K) (asks : Bool) (offer : T → List ℕ → Offer) (limit : Option ℕ) (workers : ℕ) (walk : Walk T) (given : List J) (e : Ended J T) : Type 0 where
  pub serve : Each (Serves judge asks) given e.judges.items
  pub idle : drop workers e.judges.items ≡ drop workers given
  pub leads : Leads s (standing_at offer walk) (standing_at offer e.walk)
  pub placed : e.walk.position ≤ length (cursors_of (offer (arc_value e.walk.shared).prep e.walk.file.items))
  pub within : Within limit e.walk.turns
  pub ended : EndsHere s (judging_of judge given) (judging_of judge e.judges.items) limit (standing_at offer e.walk) e.why
  pub of_first : (turn worker : ℕ) → e.why ≡ Fault turn worker → worker ≡ 0

-- what the reduction of a file by these judges, of which so many worked, ended with, and what was done to them
pub record EndsStanding {J K : Type 0} (s : Search) (judge : JudgeGhosts J K) (asks : Bool) (limit : Option ℕ) (workers : ℕ) (file : List ℕ) (given new : List J) (e : End) : Type 0 where
  pub chain : EndsIfTold s (judging_of judge given) (judging_of judge new) limit file e
  pub of_first : (turn worker : ℕ) → e.why ≡ Fault turn worker → worker ≡ 0
  pub serve : Each (Serves judge asks) given new
  pub idle : drop workers new ≡ drop workers given
