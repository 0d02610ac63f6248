-- How often a stop was asked.
use Rattle.std.specs.Prelude.{ℕ, ◌+◌, ◌-◌, ◌^◌, min}

-- the number of looks after one more: it stays at its last value
abbrev pub after_look : ℕ → ℕ
after_look looks = min (looks + 1) (2 ^ 64 - 1)
