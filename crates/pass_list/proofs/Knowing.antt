-- A width of pass 0.
use Rattle.std.proofs.Common.{◌≡◌, ◌<◌, ℕ, Bool, true, false, if◌then◌else◌, sym, true≢false}

pub within : (b : Bool) (index a d : ℕ) → b ≡ true → index < (if b then a else d) → index < a
within true index a d is less = less
within false index a d is less = absurd (true≢false (sym is))
