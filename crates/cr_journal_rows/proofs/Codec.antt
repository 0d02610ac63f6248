-- Bodies as their numbers.
use Rattle.std.proofs.Common.{◌≡◌, ℕ, ◌<◌, ◌^◌, List, [], ◌∷◌, ◌++◌, length, take, drop, get_or, refl, sym, ◌∙◌, ap}
use Rattle.std.proofs.lemmas.Nat.{from_le_bytes-to_le_bytes_2, from_le_bytes-to_le_bytes_8}
use Rattle.std.specs.Int.{to_le_bytes, from_le_bytes, w16, w64}
use Rattle.cr_reduce.specs.declared.end.Accepted.{Accepted}
use Rattle.cr_journal_rows.specs.declared.header.Header.{Header}
use Rattle.cr_journal_rows.specs.Forms.{HeaderFits, RowFits, ending, header_body, row_body}

number_at : (at n m : ℕ) (one other : List ℕ) → n < 2 ^ 64 → m < 2 ^ 64 → take 8 (drop at one) ≡ to_le_bytes w64 n → take 8 (drop at other) ≡ to_le_bytes w64 m → one ≡ other → n ≡ m
number_at at n m one other fits fits_too has has_too same =
    sym (from_le_bytes-to_le_bytes_8 n fits) ∙ ap (from_le_bytes w64) (sym has ∙ ap (λ (l : List ℕ). take 8 (drop at l)) same ∙ has_too) ∙ from_le_bytes-to_le_bytes_8 m fits_too

pub one_row : (a b : Accepted) → RowFits a → RowFits b → row_body a ≡ row_body b → a ≡ b
one_row a b fits fits_too same =
    let pass : a.at.pass ≡ b.at.pass = ap (λ (l : List ℕ). get_or l 0 0) same in
    let level : a.at.level ≡ b.at.level = ap (λ (l : List ℕ). get_or l 1 0) same in
    let index = number_at 2 a.at.index b.at.index (row_body a) (row_body b) fits.index fits_too.index refl refl same in
    let size = number_at 10 a.size b.size (row_body a) (row_body b) fits.size fits_too.size refl refl same in
    let turn = number_at 18 a.turn b.turn (row_body a) (row_body b) fits.turn fits_too.turn refl refl same in
    (λ i. record { at = record { pass = pass i; level = level i; index = index i }; size = size i; turn = turn i })

pub one_header : (a b : Header) → HeaderFits a → HeaderFits b → header_body a ≡ header_body b → a ≡ b
one_header a b fits fits_too same =
    let passes : a.passes ≡ b.passes =
    sym (from_le_bytes-to_le_bytes_2 a.passes fits.passes) ∙ ap (λ (l : List ℕ). from_le_bytes w16 (take 2 l)) same ∙ from_le_bytes-to_le_bytes_2 b.passes fits_too.passes in
    let steps = number_at 2 a.steps b.steps (header_body a) (header_body b) fits.steps fits_too.steps refl refl same in
    let limit = number_at 10 a.limit b.limit (header_body a) (header_body b) fits.limit fits_too.limit refl refl same in
    let size = number_at 18 a.size b.size (header_body a) (header_body b) fits.size fits_too.size refl refl same in
    (λ i. record { passes = passes i; steps = steps i; limit = limit i; size = size i })
