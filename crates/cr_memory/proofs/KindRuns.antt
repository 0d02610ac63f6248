-- Kinds of a run that are compared one by one.
use Rattle.std.proofs.Common.{◌≡◌, ℕ, ◌+◌, ◌-◌, ◌<◌, ◌≤◌, ◌&&◌, List, ◌∷◌, length, get_or, take, drop, ap, ◌∙◌}
use Rattle.std.proofs.lemmas.List.{drop_more}
use Rattle.cr_memory.specs.declared.value.Scalar.{Scalar}
use Rattle.cr_memory.specs.declared.value.Scalar.TheVariants.{Pointer as PointerKind}
use Rattle.cr_memory.specs.declared.value.Guard.{Guard}
use Rattle.cr_memory.specs.declared.value.Guard.TheVariants.{Free}
use Rattle.cr_memory.specs.Kind.{is_same}
use Rattle.cr_memory.specs.Access.{have_kinds, have_same_kinds}
use Rattle.cr_memory.specs.Flat.{shape_or}
use Rattle.cr_memory.proofs.Repeating.{run_more}

pub same_more : (shape : List (Scalar × Guard)) (left right count i : ℕ) → i < count → left + count ≤ length shape → right + count ≤ length shape
    → have_same_kinds (take (count - i) (drop (left + i) shape)) (take (count - i) (drop (right + i) shape))
    ≡ (is_same (shape_or shape (left + i)).0 (shape_or shape (right + i)).0
    && have_same_kinds (take (count - (i + 1)) (drop (left + (i + 1)) shape)) (take (count - (i + 1)) (drop (right + (i + 1)) shape)))
same_more shape left right count i h l r =
    let free : Scalar × Guard = (PointerKind 0, Free) in
    ap (λ xs. have_same_kinds xs (take (count - i) (drop (right + i) shape))) (run_more shape left count i free h l)
    ∙ ap (λ ys. have_same_kinds (shape_or shape (left + i) ∷ take (count - (i + 1)) (drop (left + (i + 1)) shape)) ys) (run_more shape right count i free h r)

pub kinds_more : (shape : List (Scalar × Guard)) (kinds : List Scalar) (from i : ℕ) (d : Scalar) → i < length kinds → from + length kinds ≤ length shape
    → have_kinds (take (length kinds - i) (drop (from + i) shape)) (drop i kinds)
    ≡ (is_same (shape_or shape (from + i)).0 (get_or kinds i d) && have_kinds (take (length kinds - (i + 1)) (drop (from + (i + 1)) shape)) (drop (i + 1) kinds))
kinds_more shape kinds from i d h w =
    let free : Scalar × Guard = (PointerKind 0, Free) in
    ap (λ xs. have_kinds xs (drop i kinds)) (run_more shape from (length kinds) i free h w)
    ∙ ap (λ ks. have_kinds (shape_or shape (from + i) ∷ take (length kinds - (i + 1)) (drop (from + (i + 1)) shape)) ks) (drop_more kinds i d h)
