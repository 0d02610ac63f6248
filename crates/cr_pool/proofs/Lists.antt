-- Lists of entries, as a worker's steps leave them.
use Rattle.std.proofs.Common.{◌≡◌, ◌≢◌, inl, inr, ℕ, ◌-◌, ◌/◌, ◌<◌, ◌≤◌, [], ◌∷◌, ◌++◌, refl, ap, arith, sym, ◌∙◌, subst}
use Rattle.cr_core.specs.declared.marks.HitKind.{HitKind}
use Rattle.cr_core.specs.declared.marks.HitKind.TheVariants.{Yes, Failed, Starved}
use Rattle.cr_core.specs.declared.marks.Mark.{Mark}
use Rattle.cr_core.specs.declared.marks.Mark.TheVariants.{Open, Hit}
use Rattle.cr_core.specs.declared.marks.Entry.{Entry}
use Rattle.cr_core.specs.declared.events.Settle.TheVariants as settle
use Rattle.cr_core.specs.Row.{Row, word, last_position, last_mark, with_last}
use Rattle.cr_core.specs.Sound.{IsOver}
use Rattle.cr_core.specs.Machine.{MayClaim, MayHit, MayLeave}
use Rattle.atomic_table.specs.declared.shared.Seat.{Seat}
use Rattle.cr_claims.specs.declared.seats.Claims.{Claims}
use Rattle.cr_claims.specs.declared.seats.Pass.{Pass}
use Rattle.cr_claims.specs.declared.view.View.{View}
use Rattle.cr_claims.specs.Pass.{IsOf, steady}
use Rattle.cr_claims.specs.Plays.{RisesAbove}
use Rattle.cr_pool.specs.Works.{IsSameList, left_over}
use Rattle.cr_core.proofs.Rows.{last_position-append, last_mark-append, last_mark-with_last, last_position-with_last}

-- another mark at the last entry
pub with_last-append : (m : Mark) (l : Row) (e : Entry) → with_last m (l ++ e ∷ []) ≡ l ++ record { position = e.position; mark = m } ∷ []
with_last-append m [] e = refl
with_last-append m (a ∷ []) e = refl
with_last-append m (a ∷ b ∷ l) e = ap (λ (t : Row). a ∷ t) (with_last-append m (b ∷ l) e)

with_last-some : (m : Mark) (e : Entry) (es : Row) → with_last m (e ∷ es) ≢ []
with_last-some m e [] = λ none. cc
with_last-some m e (f ∷ es) = λ none. cc

pub append-some : (l : Row) (e : Entry) → l ++ e ∷ [] ≢ []
append-some [] e = λ none. cc
append-some (a ∷ l) e = λ none. cc

-- A pass may leave at a claimed position that is past the end or above the least hit that it has read.
pub may_leave_at : (len least : ℕ) (l m : Row) (at : ℕ) → l ≡ m ++ record { position = at; mark = Open } ∷ [] → IsOver len least at → MayLeave len least settle.Skipped l
may_leave_at len least l m at is over =
    let P : Row → Type 0 = λ r. MayLeave len least settle.Skipped r in
    let entry : Entry = record { position = at; mark = Open } in
    let Over : ℕ → Type 0 = λ p. IsOver len least p in
    let there = subst Over (sym (last_position-append m entry)) over in
    subst P (sym is) ((last_mark-append m entry, there), append-some m entry, there)

-- What is claimed after a hit lies above it.
pub above_hit : (k : HitKind) (read p at : ℕ) → read ≤ word p k → p < at → read / 4 < at
above_hit Yes read p at low up = omega arith
above_hit Failed read p at low up = omega arith
above_hit Starved read p at low up = omega arith

-- A pass may claim again after a hit.
pub claims_after_hit : (len least : ℕ) (k : HitKind) (l : Row) → MayHit len l → MayClaim len least settle.Nothing (with_last (Hit k) l)
claims_after_hit len least k [] may = cc
claims_after_hit len least k (e ∷ es) may =
    let mark = last_mark-with_last (Hit k) e es in
    (λ is_open. cc, inr (omega (arith, last_position-with_last (Hit k) (e ∷ es), may.1)))

-- And it may leave at what it then claimed.
pub leaves_after_hit : (len read at : ℕ) (k : HitKind) (l h m : Row) → MayHit len l → h ≡ with_last (Hit k) l → m ≡ h ++ record { position = at; mark = Open } ∷ []
    → RisesAbove at h → read ≤ word (last_position l) k → MayLeave len read settle.Skipped m
leaves_after_hit len read at k [] h m may hit more rises low = cc
leaves_after_hit len read at k (e ∷ es) h m may hit more (inl none) low = absurd (with_last-some (Hit k) e es (sym hit ∙ none))
leaves_after_hit len read at k (e ∷ es) h m may hit more (inr up) low =
    let l : Row = e ∷ es in
    let there : last_position h ≡ last_position l = ap last_position hit ∙ last_position-with_last (Hit k) l in
    may_leave_at len read m h at more (inr (above_hit k read (last_position l) at low (omega (arith, there, up))))

-- How a list stands with an open position claimed last.
pub open_at : (l m : Row) (at : ℕ) → l ≡ m ++ record { position = at; mark = Open } ∷ [] → (last_mark l ≡ Open) × (last_position l ≡ at)
open_at l m at is =
    let entry : Entry = record { position = at; mark = Open } in
    (ap last_mark is ∙ last_mark-append m entry, ap last_position is ∙ last_position-append m entry)

-- It is settled so.
pub marked_at : (l m : Row) (at : ℕ) (mark : Mark) → l ≡ m ++ record { position = at; mark = Open } ∷ [] → with_last mark l ≡ m ++ record { position = at; mark = mark } ∷ []
marked_at l m at mark is = ap (λ (r : Row). with_last mark r) is ∙ with_last-append mark m (record { position = at; mark = Open })

left_over-append : (len : ℕ) (m : Row) (e : Entry) → left_over len (m ++ e ∷ []) ≡ len - e.position
left_over-append len [] e = refl
left_over-append len (a ∷ m) e = ap (λ (p : ℕ). len - p) (last_position-append (a ∷ m) e)

-- A claim leaves less to claim.
pub less_left : (len at : ℕ) (l m old : Row) → l ≡ m ++ record { position = at; mark = Open } ∷ [] → at < len → RisesAbove at old → left_over len l < left_over len old
less_left len at l m [] is within rises =
    let entry : Entry = record { position = at; mark = Open } in
    omega (arith, ap (λ (r : Row). left_over len r) is, left_over-append len m entry)
less_left len at l m (e ∷ es) is within (inl none) = cc
less_left len at l m (e ∷ es) is within (inr up) =
    let entry : Entry = record { position = at; mark = Open } in
    omega (arith, ap (λ (r : Row). left_over len r) is, left_over-append len m entry, up)

-- What a look leaves as it was.
pub steady_of : (claims : Claims) (old new : Pass) → steady new ≡ steady old → IsOf claims old → IsOf claims new
steady_of claims old new same of = (ap (λ (s : Seat ℕ View). s.table_id) same ∙ of.0, ap (λ (s : Seat ℕ View). s.me.0.len) same ∙ of.1)

pub steady_list : (old new : Pass) → steady new ≡ steady old → IsSameList old new
steady_list old new same = (ap (λ (s : Seat ℕ View). s.me.0.own) same, ap (λ (s : Seat ℕ View). s.me.0.left) same)
