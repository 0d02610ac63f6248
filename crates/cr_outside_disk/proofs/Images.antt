-- What is seen is an image, and so is what is seen with other bytes for the unsynced ones.
use Rattle.std.proofs.Common.{◌≡◌, ◌⊎◌, inl, inr, ℕ, ◌+◌, ◌≤◌, ◌<◌, min, max, List, [], ◌∷◌, ◌++◌, length, take, drop, replicate, refl, sym, ◌∙◌, ap, subst, arith, append_assoc, length-append, length-take, length-drop, take-append-drop}
use Rattle.std.proofs.lemmas.Bool.{cases_lt}
use Rattle.std.proofs.lemmas.List.{take_at, take_all, drop_at, drop_all, append-nil, length-replicate}
use Rattle.cr_outside_disk.specs.Images.{Leaves, Torn, CutShort, filled, put, seen_after}
use Rattle.cr_outside.specs.Story.{Change}
use Rattle.cr_outside.specs.Story.Change.{Written, Cut, Synced}

module _ (at : ℕ) (bytes old : List ℕ) where
  abbrev tail : List ℕ
  tail = drop (at + length bytes) old

  size : length (put at bytes old) ≡ min at (length old) + (length bytes + length tail)
  size = omega (arith, length-append (take at old ++ bytes) tail, length-append (take at old) bytes, length-take at old)

  behind : (length old < at) ⊎ (at ≤ length old) → drop (at + length bytes) (put at bytes old) ≡ tail
  behind (inr within) =
      drop_at (take at old ++ bytes) tail (at + length bytes) (omega (arith, length-append (take at old) bytes, length-take at old, within))
  behind (inl past) =
      let none : tail ≡ [] = drop_all (at + length bytes) old (omega (arith, past)) in
      drop_all (at + length bytes) (put at bytes old) (omega (arith, size, past, ap length none)) ∙ sym none

  pub torn_put : Torn at (length bytes) old (put at bytes old)
  torn_put = record {
    before = ap (take (min at (length old))) (append_assoc (take at old) bytes tail) ∙ take_at (take at old) (bytes ++ tail) (min at (length old)) (omega (arith, length-take at old));
    after = behind (cases_lt (length old) at);
    no_shorter = omega (arith, size, length-drop (at + length bytes) old);
    no_longer = omega (arith, size, length-drop (at + length bytes) old);
  }

min_take : (len : ℕ) (old : List ℕ) → (len < length old) ⊎ (length old ≤ len) → take (min len (length old)) old ≡ take len old
min_take len old (inl short) = let same : min len (length old) ≡ len = omega (arith, short) in ap (λ (n : ℕ). take n old) same
min_take len old (inr long) =
    take_all (min len (length old)) old (omega (arith, long)) ∙ sym (take_all len old long)

pub cut_take : (len : ℕ) (old : List ℕ) → CutShort len old (take len old)
cut_take len old = record {
  no_shorter = omega (arith, length-take len old);
  front = ap (λ (n : ℕ). take n old) (length-take len old) ∙ min_take len old (cases_lt len (length old));
}

pub seen_is_image : (first : List ℕ) (changes : List Change) → Leaves first changes (seen_after first changes)
seen_is_image first [] = refl
seen_is_image first (Written at bytes ∷ older) = (seen_after first older, seen_is_image first older, torn_put at bytes (seen_after first older))
seen_is_image first (Cut len ∷ older) = (seen_after first older, seen_is_image first older, cut_take len (seen_after first older))
seen_is_image first (Synced ∷ older) = refl

pub filled_is_image : (fill : ℕ) (first : List ℕ) (changes : List Change) → Leaves first changes (filled fill first changes)
filled_is_image fill first [] = refl
filled_is_image fill first (Written at bytes ∷ older) =
    let before = filled fill first older in
    let other = replicate (length bytes) fill in
    (before, filled_is_image fill first older, subst (λ n. Torn at n before (put at other before)) (length-replicate (length bytes) fill) (torn_put at other before))
filled_is_image fill first (Cut len ∷ older) =
    let before = filled fill first older in
    (before, filled_is_image fill first older, cut_take len before)
filled_is_image fill first (Synced ∷ older) = refl
