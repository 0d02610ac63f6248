-- How the runs of files end.
use Rattle.std.specs.Prelude.{◌≡◌, ℕ, List, Option, None, Some}
use Rattle.cr_typed.specs.declared.typed.Typed.{Typed}
use Rattle.cr_meaning.specs.declared.run.Limits.{Limits}
use Rattle.cr_meaning.specs.declared.run.Run.{Run}
use Rattle.cr_meaning.specs.declared.run.Run.TheVariants as run
use Rattle.cr_meaning_operations.specs.Laws.{Comes}
use Rattle.cr_cursor.specs.declared.law.Ruling.{Ruling}
use Rattle.cr_cursor.specs.declared.law.Ruling.TheVariants as ruling
use Rattle.cr_lawful.specs.Lawful.{IsTypedUnit}
use Rattle.cr_lawful.specs.declared.ends.Ended.{Ended}

-- The file has a typed unit, whose run within limits ends by itself with this status and this output (C11 5.1.2.2.3). Of that it has one proof
-- at most, so that a value may keep it.
abbrev pub ComesToEnd : Limits → List ℕ → ℕ → List ℕ → Type 0
ComesToEnd limits file status output =
    ∥ ((typed : Typed) × (steps : ℕ) × IsTypedUnit file typed × Comes typed limits (run.Ended status output steps)) ∥₁

-- what is answered of a run is right: it ends so, or it doesn't end
abbrev pub EndsAs : (ℕ → List ℕ → Type 0) → Option Ended → Type 0
EndsAs E None = (status : ℕ) (output : List ℕ) → E status output → ⊥
EndsAs E (Some end) = E end.status end.output

-- the end of what a run came to
abbrev pub EndIn : Run → Option Ended → Type 0
EndIn (run.Ended status output steps) found = found ≡ Some (record { status = status; output = output })
EndIn (run.Undefined number node) found = found ≡ None
EndIn (run.Left number node) found = found ≡ None
EndIn run.Stopped found = ⊥
EndIn run.NoMemory found = ⊥

-- where what the file's run came to is an end, the file comes to it
abbrev pub CameTo : Limits → List ℕ → Run → Type 0
CameTo limits file (run.Ended status output steps) = ComesToEnd limits file status output
CameTo limits file other = Unit {0}

-- that of a file which is refused before its run
abbrev pub NoEndIn : Ruling → Option Ended → Type 0
NoEndIn (ruling.Unlawful why) found = found ≡ None
NoEndIn other found = ⊥

-- within the same limits the run of a file ends in one way at most
abbrev pub HasOneEnd : Type 0
HasOneEnd =
    (limits : Limits) (file : List ℕ) (status other : ℕ) (output more : List ℕ)
    → ComesToEnd limits file status output → ComesToEnd limits file other more → (status ≡ other) × (output ≡ more)
