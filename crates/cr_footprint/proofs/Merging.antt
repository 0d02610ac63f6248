-- The merge of two rising lists of cells.
use Rattle.std.proofs.Common.{◌≡◌, Bool, true, false, ◌||◌, List, [], ◌∷◌, refl, sym, ◌∙◌, ap, subst, inl, inr}
use Rattle.std.specs.declared.cmp.Ordering.{Ordering}
use Rattle.std.specs.declared.cmp.Ordering.TheVariants.{Less, Equal, Greater}
use Rattle.std.specs.Ordering.{is_eq}
use Rattle.std.proofs.lemmas.Bool.{or_cases}
use Rattle.cr_footprint.specs.Cell.{Cell, cell_cmp, same_cell, holds, IsRising}
use Rattle.cr_footprint.specs.Merge.{by_order, woven, merged}
use Rattle.cr_footprint.proofs.Rising.{same_cell-cell_cmp, same_cell-equal, above_below, flipped, AllAbove, IsRising-head, IsRising-tail, IsRising-cons}

-- what two lists hold that is put together
abbrev Both : (List Cell → List Cell) → List Cell → Type 0
Both rest a = (b : List Cell) (c : Cell) → holds (rest b) c ≡ (holds a c || holds b c)

equal_cells : (x y : Cell) → cell_cmp x y ≡ Equal → x ≡ y
equal_cells x y e = sym (same_cell-equal y x (same_cell-cell_cmp y x ∙ ap is_eq e))

left_first : (h a b : Bool) → (h || (a || b)) ≡ ((h || a) || b)
left_first true a b = refl
left_first false a b = refl

left_same : (h a b : Bool) → (h || (a || b)) ≡ ((h || a) || (h || b))
left_same true a b = refl
left_same false a b = refl

right_first : (x a h b : Bool) → (h || ((x || a) || b)) ≡ ((x || a) || (h || b))
right_first true a true b = refl
right_first true a false b = refl
right_first false true true b = refl
right_first false true false b = refl
right_first false false h b = refl

woven-holds : (rest : List Cell → List Cell) (x : Cell) (a b : List Cell) → Both rest a → (c : Cell) → holds (woven rest x a b) c ≡ (holds (x ∷ a) c || holds b c)
woven-holds rest x a [] both c = right_none (holds (x ∷ a) c)
  where
    right_none : (h : Bool) → h ≡ (h || false)
    right_none true = refl
    right_none false = refl
woven-holds rest x a (y ∷ b) both c = choose (cell_cmp x y) refl (woven-holds rest x a b both c)
  where
    choose : (o : Ordering) → cell_cmp x y ≡ o → holds (woven rest x a b) c ≡ (holds (x ∷ a) c || holds b c)
        → holds (by_order o (x ∷ rest (y ∷ b)) (x ∷ rest b) (y ∷ woven rest x a b)) c ≡ (holds (x ∷ a) c || holds (y ∷ b) c)
    choose Less is later = ap (λ h. same_cell c x || h) (both (y ∷ b) c) ∙ left_first (same_cell c x) (holds a c) (holds (y ∷ b) c)
    choose Equal is later =
        ap (λ h. same_cell c x || h) (both b c) ∙ left_same (same_cell c x) (holds a c) (holds b c)
        ∙ ap (λ z. (same_cell c x || holds a c) || (same_cell c z || holds b c)) (equal_cells x y is)
    choose Greater is later = ap (λ h. same_cell c y || h) later ∙ right_first (same_cell c x) (holds a c) (same_cell c y) (holds b c)

pub merged-holds : (a : List Cell) → Both (merged a) a
merged-holds [] b c = refl
merged-holds (x ∷ a) b c = woven-holds (merged a) x a b (merged-holds a) c

-- a cell below all of two lists is below all of what they make
above_both : (z : Cell) (rest : List Cell → List Cell) (a b : List Cell) → Both rest a → AllAbove z a → AllAbove z b → AllAbove z (rest b)
above_both z rest a b both on_a on_b d there =
    elim (or_cases (holds a d) (holds b d) (sym (both b d) ∙ there)) [ inl h ↦ on_a d h | inr h ↦ on_b d h ]

above_more : (x y : Cell) (b : List Cell) → cell_cmp x y ≡ Less → AllAbove y b → AllAbove x (y ∷ b)
above_more x y b low on d there =
    elim (or_cases (same_cell d y) (holds b d) there) [
      | inl h ↦ (let P : Cell → Type 0 = λ z. cell_cmp x z ≡ Less in subst P (sym (same_cell-equal d y h)) low)
      | inr h ↦ above_below x y d low (on d h)
    ]

woven-rising : (rest : List Cell → List Cell) (x : Cell) (a b : List Cell) → Both rest a → ((o : List Cell) → IsRising o → IsRising (rest o))
    → IsRising (x ∷ a) → IsRising b → IsRising (woven rest x a b)
woven-rising rest x a [] both rises on_a on_b = on_a
woven-rising rest x a (y ∷ b) both rises on_a on_b =
    choose (cell_cmp x y) refl (woven-rising rest x a b both rises on_a (IsRising-tail y b on_b))
  where
    choose : (o : Ordering) → cell_cmp x y ≡ o → IsRising (woven rest x a b) → IsRising (by_order o (x ∷ rest (y ∷ b)) (x ∷ rest b) (y ∷ woven rest x a b))
    choose Less is later =
        IsRising-cons x (rest (y ∷ b))
        (above_both x rest a (y ∷ b) both (IsRising-head x a on_a) (above_more x y b is (IsRising-head y b on_b)))
        (rises (y ∷ b) on_b)
    choose Equal is later =
        IsRising-cons x (rest b)
        (above_both x rest a b both (IsRising-head x a on_a) (let P : Cell → Type 0 = λ z. AllAbove z b in subst P (sym (equal_cells x y is)) (IsRising-head y b on_b)))
        (rises b (IsRising-tail y b on_b))
    choose Greater is later =
        IsRising-cons y (woven rest x a b)
        (λ d there. elim (or_cases (holds (x ∷ a) d) (holds b d) (sym (woven-holds rest x a b both d) ∙ there)) [
          | inl h ↦ above_more y x a (flipped x y is) (IsRising-head x a on_a) d h
          | inr h ↦ IsRising-head y b on_b d h
        ])
        later

pub merged-rising : (a b : List Cell) → IsRising a → IsRising b → IsRising (merged a b)
merged-rising [] b on_a on_b = on_b
merged-rising (x ∷ a) b on_a on_b =
    woven-rising (merged a) x a b (merged-holds a) (λ o on_o. merged-rising a o (IsRising-tail x a on_a) on_o) on_a on_b

pub merged_as : (all left right a b : List Cell) → all ≡ merged left right → left ≡ a → right ≡ b → all ≡ merged a b
merged_as all left right a b is on_left on_right = is ∙ ap (λ l. merged l right) on_left ∙ ap (λ l. merged a l) on_right
