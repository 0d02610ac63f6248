-- The header of a run's journal.
use Rattle.std.specs.Prelude.{◌≡◌, ◌<◌, ◌^◌, ℕ, ◌+◌, Bool, true, false, List, get_or, Option, Some, None}
use Rattle.cr_journal_rows.specs.Forms.{HeaderFits}
use Rattle.cr_journal_rows.specs.declared.header.Header.{Header}
use Rattle.cr_reduce.specs.Sizes.{HasSize}
use Rattle.cr_main_kept.specs.declared.header.Marks.{Marks}

-- 2^64 - 1 stands for no limit
abbrev pub limit_mark : Option ℕ → ℕ
limit_mark (Some limit) = limit
limit_mark None = 18446744073709551615

abbrev pub bit : Bool → ℕ → ℕ
bit true value = value
bit false value = 0

-- bit k is that of pass k, from the lowest
abbrev pub passes_mark : List Bool → ℕ
passes_mark enabled =
    bit (get_or enabled 0 false) 1 + bit (get_or enabled 1 false) 2 + bit (get_or enabled 2 false) 4 + bit (get_or enabled 3 false) 8 + bit (get_or enabled 4 false) 16
    + bit (get_or enabled 5 false) 32 + bit (get_or enabled 6 false) 64 + bit (get_or enabled 7 false) 128 + bit (get_or enabled 8 false) 256 + bit (get_or enabled 9 false) 512
    + bit (get_or enabled 10 false) 1024 + bit (get_or enabled 11 false) 2048

abbrev pub header_of : Marks → Option ℕ → ℕ → Header
header_of marks limit size = record { passes = marks.passes; steps = marks.steps; limit = limit_mark limit; size = size }

-- The header is that of these settings, and its size is that of these bytes, where they have one.
pub record Fits (marks : Marks) (limit : Option ℕ) (header : Header) (bytes : List ℕ) : Type 0 where
  pub settings : header ≡ header_of marks limit header.size
  pub size : (n : ℕ) → HasSize bytes n → header.size ≡ n

-- The numbers of these settings fit the bytes of a header.
abbrev pub MarksFit : Marks → Option ℕ → Type 0
MarksFit marks limit = (size : ℕ) → size < 2 ^ 64 → HeaderFits (header_of marks limit size)
