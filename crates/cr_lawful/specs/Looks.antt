-- How often the stop is asked while a file is ruled on.
use Rattle.std.specs.Prelude.{ℕ, ◌+◌, ◌-◌, ◌*◌, ◌^◌, ◌≤◌, List, min}
use Rattle.cr_typed.specs.declared.typed.Typed.{Typed}
use Rattle.cr_meaning.specs.declared.run.Limits.{Limits}
use Rattle.cr_cursor.specs.declared.law.Ruling.{Ruling}
use Rattle.cr_cursor.specs.declared.law.Ruling.TheVariants as ruling
use Rattle.cr_lawful.specs.Lawful.{Ends, IsTypedUnit}

-- a count of looks didn't fall; one above its last value, 2^64 - 1, stands there at least
abbrev pub IsNotBelow : ℕ → ℕ → Type 0
IsNotBelow before after = min before (2 ^ 64 - 1) ≤ after

-- from one count of looks to another, while so many steps were taken: there was a look for each begun 4,096 of them, or the count
-- stands at its last value
pub record HasLookedOver (before after steps : ℕ) : Type 0 where
  pub times : ℕ
  pub enough : steps ≤ times * 4096
  pub counted : min (before + times) (2 ^ 64 - 1) ≤ after

-- the file's run ends, and between these counts its steps were looked over
pub record HasLookedThrough (limits : Limits) (file : List ℕ) (before after : ℕ) : Type 0 where
  pub typed : Typed
  pub of_file : IsTypedUnit file typed
  pub ends : Ends limits typed
  pub over : HasLookedOver before after ends.steps

-- what a ruling says of the looks that it took: nothing, where the file isn't lawful
abbrev pub Looks : Limits → List ℕ → ℕ → ℕ → Ruling → Type 0
Looks limits file before after ruling.Lawful = HasLookedThrough limits file before after
Looks limits file before after (ruling.Unlawful why) = Unit {0}
Looks limits file before after ruling.Stopped = Unit {0}
Looks limits file before after ruling.NoMemory = Unit {0}
