-- The code's reads and writes of a list's last entry.
use Rattle.std.proofs.Common.{◌≡◌, ℕ, ◌+◌, ◌-◌, [], ◌∷◌, ◌++◌, length, get_or, set, refl, sym, ap, subst, ◌∙◌, arith, Option, None, Some, MatchOption, slice_get}
use Prim.Native.Nat.{zero, suc}
use Rattle.cr_core.specs.declared.marks.Mark.{Mark}
use Rattle.cr_core.specs.declared.marks.Entry.{Entry}
use Rattle.cr_core.specs.Row.{Row, last_position, last_mark, with_last, IsLast}

last-get : (e : Entry) (es : Row) → slice_get (e ∷ es) (length es) ≡ Some (record { position = last_position (e ∷ es); mark = last_mark (e ∷ es) })
last-get e [] = refl
last-get e (f ∷ es) = last-get f es

pub is_last : (l : Row) (o : Option Entry) → o ≡ slice_get l (length l - 1) → MatchOption o (l ≡ []) (IsLast l)
is_last [] None h = refl
is_last [] (Some e) h = cc
is_last (e ∷ es) o h =
    let n : length (e ∷ es) - 1 ≡ length es = omega arith in
    let is : o ≡ Some (record { position = last_position (e ∷ es); mark = last_mark (e ∷ es) }) = (rw n at h) ∙ last-get e es in
    let P : Option Entry → Type 0 = λ q. MatchOption q ((e ∷ es) ≡ []) (IsLast (e ∷ es)) in
    subst P (sym is) ((λ (f : (e ∷ es) ≡ []). cc), refl, refl)

-- a write at the last of the first entries
pub set-with_last : (d : Entry) (m : Mark) (at : ℕ) (l r : Row) → length l ≡ at + 1
    → set (l ++ r) at (record { position = (get_or (l ++ r) at d).position; mark = m }) ≡ with_last m l ++ r
set-with_last d m at [] r h = absurd (omega arith)
set-with_last d m zero (e ∷ []) r h = refl
set-with_last d m (suc a) (e ∷ []) r h = absurd (omega arith)
set-with_last d m zero (e ∷ f ∷ es) r h = absurd (omega arith)
set-with_last d m (suc a) (e ∷ f ∷ es) r h = ap (λ (t : Row). e ∷ t) (set-with_last d m a (f ∷ es) r (omega arith))
