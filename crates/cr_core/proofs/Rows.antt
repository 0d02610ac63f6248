-- What is counted in a list, after its last entry got another mark, and after an entry more.
use Rattle.std.proofs.Common.{◌≡◌, ◌≢◌, ℕ, ◌+◌, ◌-◌, ◌<◌, [], ◌∷◌, ◌++◌, refl, ap, arith}
use Rattle.cr_core.specs.declared.marks.HitKind.TheVariants.{Yes, Failed, Starved}
use Rattle.cr_core.specs.declared.marks.Mark.{Mark}
use Rattle.cr_core.specs.declared.marks.Mark.TheVariants.{Open, No, Hit, Skipped}
use Rattle.cr_core.specs.declared.marks.Entry.{Entry}
use Rattle.cr_core.specs.Row.{IsLast, with_any_mark, Row, mark_no, apart, placed, marked, disorder, early, past, last_position, last_mark, with_last}

pub placed-append : (p : ℕ) (a b : Row) → placed p (a ++ b) ≡ placed p a + placed p b
placed-append p [] b = omega arith
placed-append p (e ∷ a) b = omega (arith, placed-append p a b)

pub marked-append : (p : ℕ) (m : Mark) (a b : Row) → marked p m (a ++ b) ≡ marked p m a + marked p m b
marked-append p m [] b = omega arith
marked-append p m (e ∷ a) b = omega (arith, marked-append p m a b)

pub placed-with_last : (p : ℕ) (m : Mark) (l : Row) → placed p (with_last m l) ≡ placed p l
placed-with_last p m [] = refl
placed-with_last p m (e ∷ []) = refl
placed-with_last p m (e ∷ f ∷ es) = omega (arith, placed-with_last p m (f ∷ es))

pub disorder-with_last : (low : ℕ) (m : Mark) (l : Row) → disorder low (with_last m l) ≡ disorder low l
disorder-with_last low m [] = refl
disorder-with_last low m (e ∷ []) = refl
disorder-with_last low m (e ∷ f ∷ []) = refl
disorder-with_last low m (e ∷ f ∷ g ∷ es) = omega (arith, disorder-with_last (e.position + 1) m (f ∷ g ∷ es))

pub early-with_last : (len : ℕ) (m : Mark) (l : Row) → early len (with_last m l) ≡ early len l
early-with_last len m [] = refl
early-with_last len m (e ∷ []) = refl
early-with_last len m (e ∷ f ∷ []) = refl
early-with_last len m (e ∷ f ∷ g ∷ es) = omega (arith, early-with_last len m (f ∷ g ∷ es))

pub past-with_last : (len : ℕ) (m : Mark) (l : Row) → past len (with_last m l) ≡ past len l
past-with_last len m [] = refl
past-with_last len m (e ∷ []) = refl
past-with_last len m (e ∷ f ∷ []) = refl
past-with_last len m (e ∷ f ∷ g ∷ es) = past-with_last len m (f ∷ g ∷ es)

-- an open last entry goes from the count of Open to that of its new mark
pub marked-with_last : (p : ℕ) (n m : Mark) (l : Row) → last_mark l ≡ Open
    → marked p n (with_last m l) + (1 - (apart p (last_position l) + apart (mark_no n) 0))
    ≡ marked p n l + (1 - (apart p (last_position l) + apart (mark_no n) (mark_no m)))
marked-with_last p n m [] is_open = cc
marked-with_last p n m (e ∷ []) is_open = omega (arith, ap mark_no is_open)
marked-with_last p n m (e ∷ f ∷ es) is_open = omega (arith, marked-with_last p n m (f ∷ es) is_open)

pub last_position-with_last : (m : Mark) (l : Row) → last_position (with_last m l) ≡ last_position l
last_position-with_last m [] = refl
last_position-with_last m (e ∷ []) = refl
last_position-with_last m (e ∷ f ∷ []) = refl
last_position-with_last m (e ∷ f ∷ g ∷ es) = last_position-with_last m (f ∷ g ∷ es)

pub last_mark-with_last : (m : Mark) (e : Entry) (es : Row) → last_mark (with_last m (e ∷ es)) ≡ m
last_mark-with_last m e [] = refl
last_mark-with_last m e (f ∷ []) = refl
last_mark-with_last m e (f ∷ g ∷ es) = last_mark-with_last m f (g ∷ es)

pub last_position-append : (l : Row) (n : Entry) → last_position (l ++ n ∷ []) ≡ n.position
last_position-append [] n = refl
last_position-append (e ∷ []) n = refl
last_position-append (e ∷ f ∷ es) n = last_position-append (f ∷ es) n

pub last_mark-append : (l : Row) (n : Entry) → last_mark (l ++ n ∷ []) ≡ n.mark
last_mark-append [] n = refl
last_mark-append (e ∷ []) n = refl
last_mark-append (e ∷ f ∷ es) n = last_mark-append (f ∷ es) n

append-some : (l : Row) (n : Entry) → l ++ n ∷ [] ≢ []
append-some [] n = λ (h : n ∷ [] ≡ []). cc
append-some (e ∷ es) n = λ (h : e ∷ (es ++ n ∷ []) ≡ []). cc

pub append-is_last : (l : Row) (n : Entry) → IsLast (l ++ n ∷ []) n
append-is_last l n = (append-some l n, last_position-append l n, last_mark-append l n)

pub disorder-append : (low : ℕ) (e : Entry) (es : Row) (n : Entry)
    → disorder low ((e ∷ es) ++ n ∷ [])
    ≡ disorder low (e ∷ es) + ((1 - mark_no (last_mark (e ∷ es))) + ((last_position (e ∷ es) + 1) - n.position))
disorder-append low e [] n = omega arith
disorder-append low e (f ∷ es) n = omega (arith, disorder-append (e.position + 1) f es n)

pub early-append : (len : ℕ) (e : Entry) (es : Row) (n : Entry)
    → early len ((e ∷ es) ++ n ∷ []) ≡ early len (e ∷ es) + (1 - (len - last_position (e ∷ es)))
early-append len e [] n = omega arith
early-append len e (f ∷ es) n = omega (arith, early-append len f es n)

pub past-append : (len : ℕ) (l : Row) (n : Entry) → past len (l ++ n ∷ []) ≡ 1 - (len - n.position)
past-append len [] n = refl
past-append len (e ∷ []) n = refl
past-append len (e ∷ f ∷ es) n = past-append len (f ∷ es) n

pub past-last : (len : ℕ) (e : Entry) (es : Row) → past len (e ∷ es) ≡ 1 - (len - last_position (e ∷ es))
past-last len e [] = refl
past-last len e (f ∷ es) = past-last len f es

pub placed-last : (e : Entry) (es : Row) → 0 < placed (last_position (e ∷ es)) (e ∷ es)
placed-last e [] = omega arith
placed-last e (f ∷ es) = omega (arith, placed-last f es)

-- a mark that isn't Open has a number above 0
pub settled_no : (m : Mark) → m ≢ Open → 0 < mark_no m
settled_no Open h = absurd (h refl)
settled_no No h = omega arith
settled_no Skipped h = omega arith
settled_no (Hit k) h = omega arith

-- one entry has one mark
one_mark : (d : ℕ) (m : Mark) →
    (1 - (d + apart 0 (mark_no m))) + (1 - (d + apart 1 (mark_no m))) + (1 - (d + apart 2 (mark_no m)))
    + (1 - (d + apart 3 (mark_no m))) + (1 - (d + apart 4 (mark_no m))) + (1 - (d + apart 5 (mark_no m))) ≡ 1 - d
one_mark d Open = omega arith
one_mark d No = omega arith
one_mark d Skipped = omega arith
one_mark d (Hit Yes) = omega arith
one_mark d (Hit Failed) = omega arith
one_mark d (Hit Starved) = omega arith

pub placed-marks : (p : ℕ) (l : Row) → placed p l ≡ with_any_mark (λ f. f l) p
placed-marks p [] = refl
placed-marks p (e ∷ es) = omega (arith, placed-marks p es, one_mark (apart p e.position) e.mark)
