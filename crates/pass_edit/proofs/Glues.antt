-- Texts put side by side.
use native.Mathlib.Omega.{arith}
use Rattle.std.proofs.Common.{◌≡◌, ◌<◌, ◌≤◌, ◌-◌, ℕ, List, [], ◌∷◌, ◌++◌, ◌&&◌, if◌then◌else◌, length, Some, refl, ap, ◌∙◌, Bool, true, false, OnErr, Result, Ok, Err}
use Rattle.std.proofs.Math.Bool.{and-false}
use Rattle.std.proofs.lemmas.List.{append_assoc, append-nil, length-append}
use Rattle.std.specs.Prelude.{nat_le, slice_get, slice_range}
use Rattle.pass_edit.specs.declared.change.Change.{Change}
use Rattle.pass_edit.specs.declared.form.Kept.{Kept}
use Rattle.pass_edit.specs.Edit.{pieces, text_bytes}
use Rattle.pass_edit.specs.Glue.{first_byte, glued, glued_all, is_word_byte, last_byte, seam}

-- The byte at the last place is the last byte.
pub last_of : (x : ℕ) (xs : List ℕ) (b : ℕ) → slice_get (x ∷ xs) (length xs) ≡ Some b → b ≡ last_byte (x ∷ xs)
last_of x [] b is = grind arith
last_of x (y ∷ ys) b is = last_of y ys b is

pub last_is : (xs : List ℕ) (b : ℕ) → slice_get xs (length xs - 1) ≡ Some b → b ≡ last_byte xs
last_is [] b is = grind arith
last_is (x ∷ xs) b is = last_of x xs b (let e : length (x ∷ xs) - 1 ≡ length xs = omega arith in grind arith)

-- Whatever stands before a text that isn't empty, its last byte stays.
pub last_behind : (xs ys : List ℕ) (b : ℕ) → last_byte (xs ++ b ∷ ys) ≡ last_byte (b ∷ ys)
last_behind [] ys b = refl
last_behind (x ∷ []) ys b = refl
last_behind (x ∷ y ∷ xs) ys b = last_behind (y ∷ xs) ys b

-- A text isn't shortened by what is put behind it.
pub front_grows : (x t : List ℕ) → length x ≤ length (x ++ t)
front_grows x t = let e = length-append x t in omega arith

pub glued_grows : (x y : List ℕ) → length x ≤ length (glued x y)
glued_grows x y = let first = front_grows x (seam x y) in let rest = front_grows (x ++ seam x y) y in omega (arith, first, rest)

pub all_grow : (x : List ℕ) (ps : List (List ℕ)) → length x ≤ length (glued_all x ps)
all_grow x [] = omega arith
all_grow x (p ∷ ps) = let first = glued_grows x p in let rest = all_grow (glued x p) ps in omega arith

pub room : (x : List ℕ) (ps : List (List ℕ)) (most : ℕ) → most < length x → most < length (glued_all x ps)
room x ps most less = let rest = all_grow x ps in omega arith

pub on_err : {T E : Type 0} {P : Type 0} (r : Result T E) → P → OnErr r P
on_err (Ok value) it = tt
on_err (Err fault) it = it

-- An empty text behind another one changes nothing.
no_seam : (b : Bool) (s : List ℕ) → (if b && false then s else []) ≡ []
no_seam b s = rw (and-false b) refl

pub bare : (x : List ℕ) → glued x [] ≡ x
bare x = ap {B = List ℕ} (λ s. (x ++ s) ++ []) (no_seam (is_word_byte (last_byte x)) (32 ∷ [])) ∙ append-nil (x ++ []) ∙ append-nil x

-- What stands before a text that isn't empty makes no difference to what comes behind it.
pub seam_behind : (x y z : List ℕ) (b : ℕ) → seam (x ++ b ∷ y) z ≡ seam (b ∷ y) z
seam_behind x y z b = ap {B = List ℕ} (λ (last : ℕ). if is_word_byte last && is_word_byte (first_byte z) then 32 ∷ [] else []) (last_behind x y b)

regroup : (a y s z : List ℕ) → ((a ++ y) ++ s) ++ z ≡ a ++ ((y ++ s) ++ z)
regroup a y s z = ap {B = List ℕ} (λ t. t ++ z) (append_assoc a y s) ∙ append_assoc a (y ++ s) z

pub associative : (x y z : List ℕ) → glued (glued x y) z ≡ glued x (glued y z)
associative x [] z = ap {B = List ℕ} (λ t. glued t z) (bare x)
associative x (b ∷ bs) z =
    ap {B = List ℕ} (λ s. ((x ++ seam x (b ∷ bs) ++ (b ∷ bs)) ++ s) ++ z) (seam_behind (x ++ seam x (b ∷ bs)) bs z b)
    ∙ regroup (x ++ seam x (b ∷ bs)) (b ∷ bs) (seam (b ∷ bs) z) z

-- Where there is no room for a change and its text, there is none for what comes behind them either.
pub full_there : (file : List ℕ) (kept : Kept) (x : List ℕ) (at : ℕ) (change : Change) (most : ℕ) → nat_le at change.start ≡ true
    → most < length (glued (glued x (slice_range file at change.start)) (text_bytes file kept change.text))
    → (changes : List Change) → most < length (glued_all x (pieces file kept at (change ∷ changes)))
full_there file kept x at change most is less changes =
    rw is (room (glued (glued x (slice_range file at change.start)) (text_bytes file kept change.text)) (pieces file kept change.end changes) most less)
