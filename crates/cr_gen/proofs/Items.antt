-- Lemmas on a text that is made item by item.
use Rattle.std.proofs.Common.{◌≡◌, ℕ, zero, suc, ◌+◌, ◌*◌, List, [], ◌++◌, sym, ◌∙◌, ap, add-one, append_assoc, arith}
use Rattle.std.proofs.lemmas.List.{append-nil}
use Rattle.std.specs.List.{flat_map, range_with_len}
use Rattle.cr_gen.specs.Program.{next_state, state_after}

-- an item moves the state by two draws
pub state_after-item : (number j : ℕ) → state_after number (2 * (j + 1)) ≡ next_state (next_state (state_after number (2 * j)))
unfolding state_after
state_after-item number j =
    let e : 2 * (j + 1) ≡ suc (suc (2 * j)) = omega arith in ap (state_after number) e

flat_map-range_from : (f : ℕ → List ℕ) (a n : ℕ) → flat_map f (range_with_len a (suc n)) ≡ flat_map f (range_with_len a n) ++ f (a + n)
flat_map-range_from f a zero = append-nil (f a) ∙ ap f (omega arith)
flat_map-range_from f a (suc n) =
    let e : (a + 1) + n ≡ a + suc n = omega arith in
    ap (λ s. f a ++ s) (flat_map-range_from f (a + 1) n ∙ ap (λ k. flat_map f (range_with_len (a + 1) n) ++ f k) e)
    ∙ sym (append_assoc (f a) (flat_map f (range_with_len (a + 1) n)) (f (a + suc n)))

-- the items up to one more are those before it, and then it
pub flat_map-range_more : (f : ℕ → List ℕ) (n : ℕ) → flat_map f (range_with_len 0 (n + 1)) ≡ flat_map f (range_with_len 0 n) ++ f n
flat_map-range_more f n =
    rw add-one (flat_map-range_from f 0 n ∙ ap (λ k. flat_map f (range_with_len 0 n) ++ f k) (omega arith))

-- a text that has the first items, with the next one appended
pub items_appended : (f : ℕ → List ℕ) (n : ℕ) (start before after piece : List ℕ) → before ≡ start ++ flat_map f (range_with_len 0 n) → after ≡ before ++ piece → piece ≡ f n → after ≡ start ++ flat_map f (range_with_len 0 (n + 1))
items_appended f n start before after piece so_far appended same =
    appended
    ∙ ap (λ s. s ++ piece) so_far
    ∙ ap (λ s. (start ++ flat_map f (range_with_len 0 n)) ++ s) same
    ∙ append_assoc start (flat_map f (range_with_len 0 n)) (f n)
    ∙ ap (λ s. start ++ s) (sym (flat_map-range_more f n))

-- five pieces appended in turn to an empty text
pub five_appended : {s t u v w x : List ℕ} (a b c d e : List ℕ) → s ≡ [] → t ≡ s ++ a → u ≡ t ++ b → v ≡ u ++ c → w ≡ v ++ d → x ≡ w ++ e → x ≡ a ++ b ++ c ++ d ++ e
five_appended a b c d e empty first second third fourth fifth =
    fifth ∙ ap (λ y. y ++ e) (fourth ∙ ap (λ y. y ++ d) (third ∙ ap (λ y. y ++ c) (second ∙ ap (λ y. y ++ b) (first ∙ ap (λ y. y ++ a) empty))))
