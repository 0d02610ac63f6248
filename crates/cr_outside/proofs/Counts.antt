-- Counts of faults.
use Rattle.std.proofs.Common.{ℕ, ◌≤◌, arith}
use Rattle.cr_outside.specs.Faults.{Rose}

-- A count that rose since a later call rose since an earlier one.
pub rose_earlier : (first before now : ℕ) → first ≤ before → Rose before now → Rose first now
rose_earlier first before now less rose = grind arith
