-- How often the machine looks at its stop.
use Rattle.std.specs.Prelude.{◌≡◌, ℕ, ◌+◌, ◌-◌, ◌*◌, ◌^◌, ◌≤◌, min}
use Rattle.cr_cursor.specs.Stops.{after_look}
use Rattle.cr_exec_slices.specs.declared.machine.Outcome.{Outcome}
use Rattle.cr_exec_slices.specs.declared.machine.Outcome.TheVariants.{Came, Halted, Stopped}

-- the steps that were not taken after the last look: a whole slice where the run was stopped there
abbrev pub given_up : {T : Type 0} → Outcome T → ℕ
given_up (Came held) = 0
given_up (Halted halted) = 0
given_up Stopped = 4096

-- from one number of looks to another, while so many steps were taken: a look before the first step and after each 4,096 steps.
-- The number stays at its last value, 2^64 - 1
pub record HasLooked (before after taken ahead : ℕ) : Type 0 where
  pub times : ℕ
  pub counted : after ≡ min (before + times) (2 ^ 64 - 1)
  pub most : taken + ahead ≤ times * 4096
  pub least : times * 4096 ≤ taken + 4096

-- the same between two slices, each of which is whole: what the number is after one more look
pub record IsBetweenSlices (before looks taken : ℕ) : Type 0 where
  pub times : ℕ
  pub counted : after_look looks ≡ min (before + (times + 1)) (2 ^ 64 - 1)
  pub whole : taken ≡ times * 4096
