-- What a reduction does to a judge.
use Rattle.std.specs.Prelude.{◌≡◌, Bool, false, [], ◌∷◌}
use Rattle.cr_outside.specs.declared.judge.Judge.{Ghosts as JudgeGhosts}
use Rattle.cr_reduce.specs.Bench.{GoesOn, judging_of}

-- It keeps its key, its calls go on and its count of faults doesn't fall; a question that asks no judge leaves it as it was.
pub record Serves {J K : Type 0} (judge : JudgeGhosts J K) (asks : Bool) (old new : J) : Type 0 where
  pub key : judge.key new ≡ judge.key old
  pub goes_on : GoesOn (judging_of judge (old ∷ [])) (judging_of judge (new ∷ []))
  pub silent : asks ≡ false → new ≡ old
