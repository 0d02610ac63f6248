-- One byte further in a literal.
use Rattle.std.proofs.Common.{◌≡◌, ℕ, zero, suc, ◌+◌, ◌-◌, ◌<◌, List, [], ◌∷◌, ◌++◌, length, drop, sym, ap, append_assoc, ◌∙◌, arith}
use Rattle.std.proofs.lemmas.List.{drop_more}
use Rattle.cr_check_literals.specs.Characters.{byte_of, bytes_behind, further_of}

pub belongs : (inside : List ℕ) (at left : ℕ) → at < length inside → 0 < left
    → bytes_behind left (drop at inside) ≡ bytes_behind (left - 1) (drop (at + 1) inside)
belongs inside at zero low some = absurd (let no : ⊥ = omega (arith, some) in no)
belongs inside at (suc left) low some =
    let less : left ≡ suc left - 1 = omega arith in
    ap (bytes_behind (suc left)) (drop_more inside at 0 low) ∙ ap (λ (m : ℕ). bytes_behind m (drop (at + 1) inside)) less

begins : (inside : List ℕ) (at : ℕ) → at < length inside
    → bytes_behind 0 (drop at inside) ≡ byte_of (drop at inside) ∷ bytes_behind (further_of (drop at inside)) (drop (at + 1) inside)
begins inside at low =
    let more = drop_more inside at 0 low in
    ap (bytes_behind 0) more ∙ ap (λ rest. byte_of rest ∷ bytes_behind (further_of rest) (drop (at + 1) inside)) (sym more)

pub begun : (old inside new : List ℕ) (at byte : ℕ) → at < length inside → new ≡ old ++ byte ∷ [] → byte ≡ byte_of (drop at inside)
    → new ++ bytes_behind (further_of (drop at inside)) (drop (at + 1) inside) ≡ old ++ bytes_behind 0 (drop at inside)
begun old inside new at byte low put is =
    let rest = bytes_behind (further_of (drop at inside)) (drop (at + 1) inside) in
    ap (λ (l : List ℕ). l ++ rest) put ∙ append_assoc old (byte ∷ []) rest
    ∙ ap (λ (b : ℕ). old ++ b ∷ rest) is ∙ ap (λ (l : List ℕ). old ++ l) (sym (begins inside at low))
