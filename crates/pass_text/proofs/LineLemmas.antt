-- The lines of a file, and where they end.
use Rattle.std.proofs.Common.{◌≡◌, ℕ, zero, suc, ◌+◌, ◌-◌, ◌<◌, ◌≤◌, true, false, List, [], ◌∷◌, ◌++◌, length, take, drop, ◌==◌, if◌then◌else◌, refl, sym, ap, ◌∙◌, subst, arith}
use Rattle.std.proofs.lemmas.List.{length-append, length-drop, length-take-le, drop-drop}
use Rattle.std.proofs.Math.Seq.{take-append-add, drop-append-add}
use Rattle.std.proofs.lemmas.Bool.Decides.{nat_tests}
use Rattle.pass_text.specs.Lines.{lines_of, onto_first, joined, first_len}

one_and : (k : ℕ) → 1 + k ≡ suc k
one_and k = omega arith

-- the first line of a byte and the rest, where the rest is split so
split_step : (b : ℕ) (bs : List ℕ) → onto_first b (lines_of bs) ≡ (b ∷ take (first_len bs) bs) ∷ lines_of (drop (first_len bs) bs)
    → lines_of (b ∷ bs) ≡ take (first_len (b ∷ bs)) (b ∷ bs) ∷ lines_of (drop (first_len (b ∷ bs)) (b ∷ bs))
split_step b bs rest = elim (b == 10) as (λ t. (b == 10) ≡ t → (if t then (10 ∷ []) ∷ lines_of bs else onto_first b (lines_of bs))
    ≡ take (if t then 1 else 1 + first_len bs) (b ∷ bs) ∷ lines_of (drop (if t then 1 else 1 + first_len bs) (b ∷ bs))) [
      | true ↦ λ is. let e : b ≡ 10 = grind (arith, nat_tests) in ap (λ x. (x ∷ []) ∷ lines_of bs) (sym e)
      | false ↦ λ is. subst (λ k. onto_first b (lines_of bs) ≡ take k (b ∷ bs) ∷ lines_of (drop k (b ∷ bs))) (sym (one_and (first_len bs))) rest
    ] refl

-- the first line, and the lines behind it
pub first_split : (b : ℕ) (bs : List ℕ) → lines_of (b ∷ bs) ≡ take (first_len (b ∷ bs)) (b ∷ bs) ∷ lines_of (drop (first_len (b ∷ bs)) (b ∷ bs))
first_split b [] = split_step b [] refl
first_split b (c ∷ rest) = split_step b (c ∷ rest) (ap (onto_first b) (first_split c rest))

first_some : (b : ℕ) (bs : List ℕ) → 0 < first_len (b ∷ bs)
first_some b bs = elim (b == 10) as (λ t. 0 < (if t then 1 else 1 + first_len bs)) [ true ↦ omega arith | false ↦ omega arith ]

pub first_within : (bs : List ℕ) → first_len bs ≤ length bs
first_within [] = omega arith
first_within (b ∷ bs) = elim (b == 10) as (λ t. (if t then 1 else 1 + first_len bs) ≤ length (b ∷ bs)) [ true ↦ omega arith | false ↦ omega (arith, first_within bs) ]

-- lines put together are the file again
joined-onto_first : (b : ℕ) (lines : List (List ℕ)) → joined (onto_first b lines) ≡ b ∷ joined lines
joined-onto_first b [] = refl
joined-onto_first b (line ∷ lines) = refl

pub joined-lines_of : (bs : List ℕ) → joined (lines_of bs) ≡ bs
joined-lines_of [] = refl
joined-lines_of (b ∷ bs) = elim (b == 10) as (λ t. (b == 10) ≡ t → joined (if t then (10 ∷ []) ∷ lines_of bs else onto_first b (lines_of bs)) ≡ b ∷ bs) [
  | true ↦ λ is. let e : b ≡ 10 = grind (arith, nat_tests) in ap (λ x. 10 ∷ x) (joined-lines_of bs) ∙ ap (λ x. x ∷ bs) (sym e)
  | false ↦ λ is. joined-onto_first b (lines_of bs) ∙ ap (λ x. b ∷ x) (joined-lines_of bs)
] refl

-- the front and the back of lines put together
pub take_joined : (n : ℕ) (lines : List (List ℕ)) → take (length (joined (take n lines))) (joined lines) ≡ joined (take n lines)
take_joined zero lines = refl
take_joined (suc n) [] = refl
take_joined (suc n) (line ∷ lines) =
    subst (λ k. take k (line ++ joined lines) ≡ line ++ joined (take n lines)) (sym (length-append line (joined (take n lines))))
    (take-append-add line (joined lines) (length (joined (take n lines))) ∙ ap (λ x. line ++ x) (take_joined n lines))

pub drop_joined : (n : ℕ) (lines : List (List ℕ)) → drop (length (joined (take n lines))) (joined lines) ≡ joined (drop n lines)
drop_joined zero lines = refl
drop_joined (suc n) [] = refl
drop_joined (suc n) (line ∷ lines) =
    subst (λ k. drop k (line ++ joined lines) ≡ joined (drop n lines)) (sym (length-append line (joined (take n lines))))
    (drop-append-add line (joined lines) (length (joined (take n lines))) ∙ drop_joined n lines)

pub take_lines : (n : ℕ) (file : List ℕ) → take (length (joined (take n (lines_of file)))) file ≡ joined (take n (lines_of file))
take_lines n file = subst (λ f. take (length (joined (take n (lines_of file)))) f ≡ joined (take n (lines_of file))) (joined-lines_of file) (take_joined n (lines_of file))

pub drop_lines : (n : ℕ) (file : List ℕ) → drop (length (joined (take n (lines_of file)))) file ≡ joined (drop n (lines_of file))
drop_lines n file = subst (λ f. drop (length (joined (take n (lines_of file)))) f ≡ joined (drop n (lines_of file))) (joined-lines_of file) (drop_joined n (lines_of file))

-- the first line of what isn't empty
split_some : (bs : List ℕ) → 0 < length bs → lines_of bs ≡ take (first_len bs) bs ∷ lines_of (drop (first_len bs) bs)
split_some [] some = absurd (omega arith)
split_some (b ∷ bs) some = first_split b bs

pub first_more : (bs : List ℕ) → 0 < length bs → 0 < first_len bs
first_more [] some = absurd (omega arith)
first_more (b ∷ bs) some = first_some b bs

-- one line fewer behind it
pub count_behind : (bs : List ℕ) → 0 < length bs → length (lines_of bs) ≡ 1 + length (lines_of (drop (first_len bs) bs))
count_behind bs some = ap length (split_some bs some) ∙ omega arith

-- where some lines end: the first one, and the others behind it
pub ends_behind : (n : ℕ) (bs : List ℕ) → 0 < length bs → 0 < n → length (joined (take n (lines_of bs))) ≡ first_len bs + length (joined (take (n - 1) (lines_of (drop (first_len bs) bs))))
ends_behind zero bs some more = absurd (omega arith)
ends_behind (suc n) bs some more =
    let first : length (take (first_len bs) bs) ≡ first_len bs = length-take-le (first_len bs) bs (first_within bs) in
    let less : suc n - 1 ≡ n = omega arith in
    ap (λ ls. length (joined (take (suc n) ls))) (split_some bs some)
    ∙ length-append (take (first_len bs) bs) (joined (take n (lines_of (drop (first_len bs) bs))))
    ∙ subst (λ m. length (take (first_len bs) bs) + length (joined (take n (lines_of (drop (first_len bs) bs)))) ≡ first_len bs + length (joined (take m (lines_of (drop (first_len bs) bs))))) (sym less) (omega (arith, first))

-- the same at a place of a file

pub count_at : (file : List ℕ) (at count : ℕ) → at < length file → length (lines_of file) ≡ count + length (lines_of (drop at file))
    → length (lines_of file) ≡ count + 1 + length (lines_of (drop (at + first_len (drop at file)) file))
count_at file at count below whole =
    let some : 0 < length (drop at file) = omega (arith, length-drop at file) in
    let behind = count_behind (drop at file) some in
    let same = ap (λ xs. length (lines_of xs)) (drop-drop (first_len (drop at file)) at file) in
    omega arith

pub ends_at : (file : List ℕ) (at n left : ℕ) → at < length file → 0 < left → length (joined (take n (lines_of file))) ≡ at + length (joined (take left (lines_of (drop at file))))
    → length (joined (take n (lines_of file))) ≡ at + first_len (drop at file) + length (joined (take (left - 1) (lines_of (drop (at + first_len (drop at file)) file))))
ends_at file at n left below more whole =
    let some : 0 < length (drop at file) = omega (arith, length-drop at file) in
    let behind = ends_behind left (drop at file) some more in
    let same = ap (λ xs. length (joined (take (left - 1) (lines_of xs)))) (drop-drop (first_len (drop at file)) at file) in
    omega arith

pub first_fits : (file : List ℕ) (at : ℕ) → at ≤ length file → at + first_len (drop at file) ≤ length file
first_fits file at within = omega (arith, first_within (drop at file), length-drop at file)
