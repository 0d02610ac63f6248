-- Where a line and a field end, and that a line tells what it was written of.
use Rattle.std.proofs.Common.{◌≡◌, ◌≢◌, ℕ, zero, suc, ◌^◌, ◌<◌, ◌≤◌, List, [], ◌∷◌, ◌++◌, All, refl, sym, ◌∙◌, ap, arith, cond, eqb}
use Rattle.std.specs.Fmt.{decimal}
use Rattle.std.proofs.lemmas.Fmt.{decimal_is_IsNumeral, decimal_injective}
use Rattle.std.proofs.lemmas.List.Elements.{All-append, All-cons, All-from_get_or}
use Rattle.std.proofs.lemmas.Str.Parse.{digit_at}
use Rattle.std.specs.Int.{IsInRange}
use Rattle.cr_reduce.specs.declared.end.Accepted.{Accepted}
use Rattle.cr_log.specs.Texts.{accepted_line, last_line, letter_of, why_word}
use Rattle.cr_log.specs.Forms.{IsLoggable, IsEnding}
use Rattle.cr_cursor.specs.Variants.{pass_count}

-- what stands before the first c, and after it, is one
pub same_cut : (c : ℕ) (xs ys r s : List ℕ) → All (λ x. x ≢ c) xs → All (λ x. x ≢ c) ys → xs ++ c ∷ r ≡ ys ++ c ∷ s → (xs ≡ ys) × (r ≡ s)
same_cut c [] [] r s p q e = (refl, cc)
same_cut c [] (y ∷ ys) r s p q e = absurd (q 0 0 (omega arith) cc)
same_cut c (x ∷ xs) [] r s p q e = absurd (p 0 0 (omega arith) cc)
same_cut c (x ∷ xs) (y ∷ ys) r s p q e =
    let t = same_cut c xs ys r s (λ k d h. p (suc k) d (omega arith)) (λ k d h. q (suc k) d (omega arith)) cc in
    (cc, t.1)

-- a number is written in digits
decimal_digits : (n : ℕ) → n < 2 ^ 64 → All (λ x. IsInRange 48 57 x) (decimal n)
decimal_digits n h = All-from_get_or (IsInRange 48 57) (decimal n) 0 (λ i l. digit_at (decimal n) i (decimal_is_IsNumeral n h).0.1 l)

pub decimal_free : (c n : ℕ) → c < 48 → n < 2 ^ 64 → All (λ x. x ≢ c) (decimal n)
decimal_free c n low h = λ k d l. let r = decimal_digits n h k d l in omega arith

-- of two texts that begin with a number and a space, the numbers are one, and what follows too
pub same_number : (m n : ℕ) (r s : List ℕ) → m < 2 ^ 64 → n < 2 ^ 64 → decimal m ++ 32 ∷ r ≡ decimal n ++ 32 ∷ s → (m ≡ n) × (r ≡ s)
same_number m n r s p q e =
    let t = same_cut 32 (decimal m) (decimal n) r s (decimal_free 32 m (omega arith) p) (decimal_free 32 n (omega arith) q) e in
    (decimal_injective m n p q t.0, t.1)

-- of two texts that are two numbers with a space between them, the numbers are the same
pub same_pair : (m n u v : ℕ) → m < 2 ^ 64 → n < 2 ^ 64 → u < 2 ^ 64 → v < 2 ^ 64 → decimal m ++ 32 ∷ decimal u ≡ decimal n ++ 32 ∷ decimal v → (m ≡ n) × (u ≡ v)
same_pair m n u v pm pn pu pv e =
    let t = same_number m n (decimal u) (decimal v) pm pn e in
    (t.0, decimal_injective u v pu pv t.1)

-- a text that begins with one byte and a space
pub same_head : (x y : ℕ) (r s : List ℕ) → x ∷ 32 ∷ r ≡ y ∷ 32 ∷ s → (x ≡ y) × (r ≡ s)
same_head x y r s e = (cc, cc)

-- and one that begins with `end` and a space
pub same_end : (r s : List ℕ) → 101 ∷ 110 ∷ 100 ∷ 32 ∷ r ≡ 101 ∷ 110 ∷ 100 ∷ 32 ∷ s → r ≡ s
same_end r s e = cc

-- the pass of a letter
abbrev place_of : ℕ → ℕ
place_of x =
    cond (eqb x 108) 0 (cond (eqb x 116) 1 (cond (eqb x 98) 2 (cond (eqb x 117) 3 (cond (eqb x 115) 4
    (cond (eqb x 99) 5 (cond (eqb x 105) 6 (cond (eqb x 112) 7 (cond (eqb x 114) 8 (cond (eqb x 102) 9 (cond (eqb x 118) 10 11))))))))))

place_of-letter_of : (p : ℕ) → p < pass_count → place_of (letter_of p) ≡ p
place_of-letter_of zero h = refl
place_of-letter_of (suc zero) h = refl
place_of-letter_of (suc (suc zero)) h = refl
place_of-letter_of (suc (suc (suc zero))) h = refl
place_of-letter_of (suc (suc (suc (suc zero)))) h = refl
place_of-letter_of (suc (suc (suc (suc (suc zero))))) h = refl
place_of-letter_of (suc (suc (suc (suc (suc (suc zero)))))) h = refl
place_of-letter_of (suc (suc (suc (suc (suc (suc (suc zero))))))) h = refl
place_of-letter_of (suc (suc (suc (suc (suc (suc (suc (suc zero)))))))) h = refl
place_of-letter_of (suc (suc (suc (suc (suc (suc (suc (suc (suc zero))))))))) h = refl
place_of-letter_of (suc (suc (suc (suc (suc (suc (suc (suc (suc (suc zero)))))))))) h = refl
place_of-letter_of (suc (suc (suc (suc (suc (suc (suc (suc (suc (suc (suc zero))))))))))) h = refl
place_of-letter_of (suc (suc (suc (suc (suc (suc (suc (suc (suc (suc (suc (suc n)))))))))))) h = absurd (omega arith)

pub same_letter : (p q : ℕ) → p < pass_count → q < pass_count → letter_of p ≡ letter_of q → p ≡ q
same_letter p q hp hq e = sym (place_of-letter_of p hp) ∙ ap place_of e ∙ place_of-letter_of q hq

letter_printable : (p : ℕ) → p < pass_count → 32 ≤ letter_of p
letter_printable zero h = omega arith
letter_printable (suc zero) h = omega arith
letter_printable (suc (suc zero)) h = omega arith
letter_printable (suc (suc (suc zero))) h = omega arith
letter_printable (suc (suc (suc (suc zero)))) h = omega arith
letter_printable (suc (suc (suc (suc (suc zero))))) h = omega arith
letter_printable (suc (suc (suc (suc (suc (suc zero)))))) h = omega arith
letter_printable (suc (suc (suc (suc (suc (suc (suc zero))))))) h = omega arith
letter_printable (suc (suc (suc (suc (suc (suc (suc (suc zero)))))))) h = omega arith
letter_printable (suc (suc (suc (suc (suc (suc (suc (suc (suc zero))))))))) h = omega arith
letter_printable (suc (suc (suc (suc (suc (suc (suc (suc (suc (suc zero)))))))))) h = omega arith
letter_printable (suc (suc (suc (suc (suc (suc (suc (suc (suc (suc (suc zero))))))))))) h = omega arith
letter_printable (suc (suc (suc (suc (suc (suc (suc (suc (suc (suc (suc (suc n)))))))))))) h = absurd (omega arith)

-- the same acceptance, from its numbers
abbrev acceptance : ℕ → ℕ → ℕ → ℕ → ℕ → Accepted
acceptance pass level index size turn = record { at = record { pass = pass; level = level; index = index }; size = size; turn = turn }

same_acceptance : (p q l m i j s t u v : ℕ) → p ≡ q → l ≡ m → i ≡ j → s ≡ t → u ≡ v → acceptance p l i s u ≡ acceptance q m j t v
same_acceptance p q l m i j s t u v a b c d e =
    ap (λ x. acceptance x l i s u) a ∙ ap (λ x. acceptance q x i s u) b ∙ ap (λ x. acceptance q m x s u) c
    ∙ ap (λ x. acceptance q m j x u) d ∙ ap (λ x. acceptance q m j t x) e

-- a line tells which acceptance it was written of
pub same_accepted_line : (a b : Accepted) → IsLoggable a → IsLoggable b → accepted_line a ≡ accepted_line b → a ≡ b
same_accepted_line a b p q e =
    let head = same_head _ _ _ _ e in
    let level = same_number a.at.level b.at.level _ _ (omega (arith, p.level)) (omega (arith, q.level)) head.1 in
    let index = same_number a.at.index b.at.index _ _ p.index q.index level.1 in
    let pair = same_pair a.size b.size a.turn b.turn p.size q.size p.turn q.turn index.1 in
    same_acceptance _ _ _ _ _ _ _ _ _ _ (same_letter _ _ p.pass q.pass head.0) level.0 index.0 pair.0 pair.1

heads_differ : (a b : ℕ) (r s : List ℕ) → a ≢ b → a ∷ r ≡ b ∷ s → ⊥
heads_differ a b r s ne e = ne cc

seconds_differ : (a b x y : ℕ) (r s : List ℕ) → x ≢ y → a ∷ x ∷ r ≡ b ∷ y ∷ s → ⊥
seconds_differ a b x y r s ne e = ne cc

-- words of five letters
after_five : (a b c d e f g h i j : ℕ) (r s : List ℕ) → a ∷ b ∷ c ∷ d ∷ e ∷ 32 ∷ r ≡ f ∷ g ∷ h ∷ i ∷ j ∷ 32 ∷ s → r ≡ s
after_five a b c d e f g h i j r s p = cc

-- the words for why a reduction ended differ
pub same_why : (v w : ℕ) (r s : List ℕ) → v ≤ 2 → w ≤ 2 → why_word v ++ 32 ∷ r ≡ why_word w ++ 32 ∷ s → (v ≡ w) × (r ≡ s)
same_why zero zero r s p q e = (refl, after_five _ _ _ _ _ _ _ _ _ _ r s e)
same_why zero (suc zero) r s p q e = absurd (heads_differ 102 108 _ _ (λ h. omega arith) e)
same_why zero (suc (suc zero)) r s p q e = absurd (seconds_differ _ _ 105 97 _ _ (λ h. omega arith) e)
same_why zero (suc (suc (suc w))) r s p q e = absurd (omega arith)
same_why (suc zero) zero r s p q e = absurd (heads_differ 108 102 _ _ (λ h. omega arith) e)
same_why (suc zero) (suc zero) r s p q e = (refl, after_five _ _ _ _ _ _ _ _ _ _ r s e)
same_why (suc zero) (suc (suc zero)) r s p q e = absurd (heads_differ 108 102 _ _ (λ h. omega arith) e)
same_why (suc zero) (suc (suc (suc w))) r s p q e = absurd (omega arith)
same_why (suc (suc zero)) zero r s p q e = absurd (seconds_differ _ _ 97 105 _ _ (λ h. omega arith) e)
same_why (suc (suc zero)) (suc zero) r s p q e = absurd (heads_differ 102 108 _ _ (λ h. omega arith) e)
same_why (suc (suc zero)) (suc (suc zero)) r s p q e = (refl, after_five _ _ _ _ _ _ _ _ _ _ r s e)
same_why (suc (suc zero)) (suc (suc (suc w))) r s p q e = absurd (omega arith)
same_why (suc (suc (suc v))) w r s p q e = absurd (omega arith)

-- a last line tells which end it was written of
pub same_last_line : (v w s t u x : ℕ) → IsEnding v s u → IsEnding w t x → last_line v s u ≡ last_line w t x → (v ≡ w) × (s ≡ t) × (u ≡ x)
same_last_line v w s t u x p q e =
    let why = same_why v w (decimal s ++ 32 ∷ decimal u) (decimal t ++ 32 ∷ decimal x) p.known q.known (same_end _ _ e) in
    let pair = same_pair s t u x p.size_fits q.size_fits p.turns_fit q.turns_fit why.1 in
    (why.0, pair.0, pair.1)

-- the line of an acceptance is no last line
pub other_line : (one : Accepted) (why size turns : ℕ) → accepted_line one ≡ last_line why size turns → ⊥
other_line one why size turns e = seconds_differ _ _ 32 110 _ _ (λ h. omega arith) e

-- no line has a byte below a space in it
record IsPrintable (xs : List ℕ) : Type 0 where
  printable : All (λ x. 32 ≤ x) xs

also : (x : ℕ) (xs : List ℕ) → 32 ≤ x → IsPrintable xs → IsPrintable (x ∷ xs)
also x xs h p = record { printable = All-cons (λ y. 32 ≤ y) x xs h p.printable }

last_printable : (n : ℕ) → n < 2 ^ 64 → IsPrintable (decimal n)
last_printable n h = record { printable = λ k d l. let r = decimal_digits n h k d l in omega arith }

number_printable : (n : ℕ) (rest : List ℕ) → n < 2 ^ 64 → IsPrintable rest → IsPrintable (decimal n ++ rest)
number_printable n rest h p =
    record { printable = All-append (λ y. 32 ≤ y) (decimal n) rest (last_printable n h).printable p.printable }

five_printable : (a b c d e : ℕ) (rest : List ℕ) → 32 ≤ a → 32 ≤ b → 32 ≤ c → 32 ≤ d → 32 ≤ e → IsPrintable rest → IsPrintable (a ∷ b ∷ c ∷ d ∷ e ∷ rest)
five_printable a b c d e rest p q r s t u = also a _ p (also b _ q (also c _ r (also d _ s (also e _ t u))))

word_printable : (why : ℕ) (rest : List ℕ) → why ≤ 2 → IsPrintable rest → IsPrintable (why_word why ++ rest)
word_printable zero rest h p = five_printable 102 105 120 101 100 rest (omega arith) (omega arith) (omega arith) (omega arith) (omega arith) p
word_printable (suc zero) rest h p = five_printable 108 105 109 105 116 rest (omega arith) (omega arith) (omega arith) (omega arith) (omega arith) p
word_printable (suc (suc zero)) rest h p = five_printable 102 97 117 108 116 rest (omega arith) (omega arith) (omega arith) (omega arith) (omega arith) p
word_printable (suc (suc (suc n))) rest h p = absurd (omega arith)

free_of_lf : (xs : List ℕ) → IsPrintable xs → All (λ x. x ≢ 10) xs
free_of_lf xs p = λ k d h. let high = p.printable k d h in omega arith

pub accepted_line_free : (one : Accepted) → IsLoggable one → All (λ x. x ≢ 10) (accepted_line one)
accepted_line_free one p =
    let turn = last_printable one.turn p.turn in
    let size = number_printable one.size _ p.size (also 32 _ (omega arith) turn) in
    let index = number_printable one.at.index _ p.index (also 32 _ (omega arith) size) in
    let level = number_printable one.at.level _ (omega (arith, p.level)) (also 32 _ (omega arith) index) in
    free_of_lf (accepted_line one) (also (letter_of one.at.pass) _ (letter_printable one.at.pass p.pass) (also 32 _ (omega arith) level))

pub last_line_free : (why size turns : ℕ) → IsEnding why size turns → All (λ x. x ≢ 10) (last_line why size turns)
last_line_free why size turns p =
    let turn = last_printable turns p.turns_fit in
    let pair = number_printable size _ p.size_fits (also 32 _ (omega arith) turn) in
    let word = word_printable why _ p.known (also 32 _ (omega arith) pair) in
    free_of_lf (last_line why size turns) (also 101 _ (omega arith) (also 110 _ (omega arith) (also 100 _ (omega arith) (also 32 _ (omega arith) word))))
