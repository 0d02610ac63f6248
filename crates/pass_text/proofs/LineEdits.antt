-- A chunk of lines goes by one change of the file's bytes.
use native.Mathlib.Omega.{arith}
use Rattle.std.proofs.Common.{◌≡◌, ℕ, zero, suc, ◌+◌, ◌-◌, ◌*◌, ◌<◌, ◌≤◌, inl, inr, false, true, List, [], ◌∷◌, ◌++◌, length, take, drop, ◌==◌, if◌then◌else◌, refl, sym, ap, ◌∙◌}
use Rattle.std.proofs.Math.Dec.{leb-zero}
use Rattle.std.proofs.Math.ListN.{drop_of_length-le}
use Rattle.std.proofs.Math.Seq.{drop-length}
use Rattle.std.proofs.lemmas.Bool.{cases_lt}
use Rattle.std.proofs.lemmas.List.{append-nil, length-drop, take_all}
use Rattle.std.specs.Prelude.{slice_range}
use Rattle.cr_cursor.specs.declared.passes.Cursor.{Cursor}
use Rattle.pass_edit.specs.declared.form.Kept.{Kept}
use Rattle.pass_edit.specs.Edit.{edited}
use Rattle.pass_edit.specs.declared.change.Text.TheVariants.{Nothing}
use Rattle.pass_edit.specs.Glue.{glued, is_word_byte, last_byte}
use Rattle.pass_edit.proofs.Glues.{bare}
use Rattle.pass_edit.specs.Laws.{LinesNeedNoSeam}
use Rattle.pass_text.specs.Lines.{chunk_of, joined, lines_bytes, lines_gone, lines_of, onto_first}
use Rattle.pass_text.proofs.LineLemmas.{drop_lines, joined-lines_of, take_lines}

-- Behind a line that isn't the last one stands LF.
last_more : (b : ℕ) (xs : List ℕ) → last_byte xs ≡ 10 → last_byte (b ∷ xs) ≡ 10
last_more b [] is = absurd (omega (arith, is))
last_more b (x ∷ xs) is = is

behind_first : (b : ℕ) (lines : List (List ℕ)) (n : ℕ) → ((m : ℕ) → m < length lines → 0 < m → last_byte (joined (take m lines)) ≡ 10)
    → n < length (onto_first b lines) → 0 < n → last_byte (joined (take n (onto_first b lines))) ≡ 10
behind_first b [] n rest below some = absurd (omega (arith, below, some))
behind_first b (line ∷ lines) zero rest below some = absurd (omega (arith, some))
behind_first b (line ∷ lines) (suc n) rest below some = last_more b (line ++ joined (take n lines)) (rest (suc n) below some)

behind_end : (lines : List (List ℕ)) (n : ℕ) → ((m : ℕ) → m < length lines → 0 < m → last_byte (joined (take m lines)) ≡ 10)
    → n < length ((10 ∷ []) ∷ lines) → 0 < n → last_byte (joined (take n ((10 ∷ []) ∷ lines))) ≡ 10
behind_end lines zero rest below some = absurd (omega (arith, some))
behind_end lines (suc zero) rest below some = refl
behind_end lines (suc (suc n)) rest below some = last_more 10 (joined (take (suc n) lines)) (rest (suc n) (omega (arith, below)) (omega arith))

ended : (bs : List ℕ) (n : ℕ) → n < length (lines_of bs) → 0 < n → last_byte (joined (take n (lines_of bs))) ≡ 10
ended [] n = λ below some. absurd (omega (arith, below))
ended (b ∷ bs) n = elim (b == 10) as (λ t. n < length (if t then (10 ∷ []) ∷ lines_of bs else onto_first b (lines_of bs)) → 0 < n
    → last_byte (joined (take n (if t then (10 ∷ []) ∷ lines_of bs else onto_first b (lines_of bs)))) ≡ 10) [
      | true ↦ behind_end (lines_of bs) n (ended bs)
      | false ↦ behind_first b (lines_of bs) n (ended bs)
    ]

seamless : (bs : List ℕ) (n : ℕ) → n < length (lines_of bs) → is_word_byte (last_byte (joined (take n (lines_of bs)))) ≡ false
seamless bs zero below = refl
seamless bs (suc n) below = ap is_word_byte (ended bs (suc n) below (omega arith))

-- What stands from a place to the end.
to_end : (file : List ℕ) (from : ℕ) → slice_range file from (length file) ≡ drop from file
to_end file from = take_all (length file - from) (drop from file) (let e = length-drop from file in omega (arith, e))

-- Nothing goes at the end of a file.
nothing_behind : (file : List ℕ) (kept : Kept) → edited file kept (record { start = length file; end = length file; text = Nothing } ∷ []) ≡ file
nothing_behind file kept =
    rw (leb-zero (length file)) (rw (to_end file (length file)) (rw (drop-length file) (rw (to_end file 0) (bare (glued file []) ∙ bare file))))

-- All lines are the file.
all_lines : (file : List ℕ) (n : ℕ) → length (lines_of file) ≤ n → joined (take n (lines_of file)) ≡ file
all_lines file n all = ap joined (take_all n (lines_of file) all) ∙ joined-lines_of file

none_left : (file : List ℕ) (n : ℕ) → length (lines_of file) ≤ n → joined (drop n (lines_of file)) ≡ []
none_left file n all = ap joined (drop_of_length-le (lines_of file) all)

-- lines up to a number, and from one on, as bytes of the file
abbrev end_of : List ℕ → ℕ → ℕ
end_of file n = length (joined (take n (lines_of file)))

fronts : (file : List ℕ) (n m : ℕ) → take (end_of file n) file ++ slice_range file (end_of file m) (length file) ≡ joined (take n (lines_of file)) ++ joined (drop m (lines_of file))
fronts file n m = rw (to_end file (end_of file m)) (rw (take_lines n file) (rw (drop_lines m file) refl))

some_lines : LinesNeedNoSeam → (file : List ℕ) (kept : Kept) (n m : ℕ) → n < length (lines_of file)
    → edited file kept (record { start = end_of file n; end = end_of file m; text = Nothing } ∷ []) ≡ joined (take n (lines_of file)) ++ joined (drop m (lines_of file))
some_lines law file kept n m below =
    law file kept (end_of file n) (end_of file m) (ap (λ front. is_word_byte (last_byte front)) (take_lines n file) ∙ seamless file n below) ∙ fronts file n m

no_lines : (file : List ℕ) (kept : Kept) (n m : ℕ) → length (lines_of file) ≤ n → length (lines_of file) ≤ m
    → edited file kept (record { start = end_of file n; end = end_of file m; text = Nothing } ∷ []) ≡ joined (take n (lines_of file)) ++ joined (drop m (lines_of file))
no_lines file kept n m all also =
    rw (all_lines file n all) (rw (all_lines file m also) (rw (none_left file m also) (nothing_behind file kept ∙ sym (append-nil file))))

pub by_a_change : LinesNeedNoSeam → (file : List ℕ) (kept : Kept) (at : Cursor) → edited file kept (lines_gone file at ∷ []) ≡ lines_bytes file at
by_a_change law file kept at =
    let n : ℕ = at.index * chunk_of at.level in
    let m : ℕ = (at.index + 1) * chunk_of at.level in
    elim (cases_lt n (length (lines_of file))) [
      | inl below ↦ some_lines law file kept n m below
      | inr all ↦ no_lines file kept n m all (omega (arith, all))
    ]
