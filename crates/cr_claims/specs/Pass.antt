-- What contracts read of a pass and of the claims.
use Rattle.std.specs.Prelude.{◌≡◌, ◌≢◌, ℕ, ◌⊎◌, true, [], ◌∷◌, slice_index_or}
use Rattle.cr_claims.specs.declared.view.View.{View}
use Rattle.cr_claims.specs.View.{moved}
use Rattle.atomic_table.specs.declared.shared.Seat.{Seat}
use Rattle.cr_claims.specs.declared.seats.Claims.{Claims}
use Rattle.cr_claims.specs.declared.seats.Pass.{Pass}
use Rattle.cr_core.specs.declared.marks.Mark.TheVariants.{Open}
use Rattle.cr_core.specs.Row.{marked}
use Rattle.cr_core.specs.Sound.{Sum, total}

abbrev pub view_of : Pass → View
view_of p = p.seat.me.0

-- how many positions the epoch of these claims has
abbrev pub len_of : Claims → ℕ
len_of c = c.len

-- the pass is one of these claims
abbrev pub IsOf : Claims → Pass → Type 0
IsOf c p = (p.seat.table_id ≡ c.table.shared.table_id) × ((view_of p).len ≡ len_of c)

-- the pass's seat with its read word and its looks left out: what a look leaves as it was
abbrev pub steady : Pass → Seat ℕ View
steady p = record p.seat { me = (moved (view_of p).own 0 0 (view_of p).left (view_of p), p.seat.me.1) }

-- what is counted in all lists that a pass holds
abbrev pub held : View → Sum
held v = λ f. total f (v.own ∷ v.joined)

-- no entry that the pass holds is open, and its own worker or one that it joined saw the end
pub record IsDone (v : View) : Type 0 where
  pub nothing_is_open : (p : ℕ) → held v (marked p Open) ≡ 0
  pub one_left : (v.left ≡ true) ⊎ ((i : ℕ) × (slice_index_or v.joined i [] ≢ []))
