-- A later declaration adds no cells to a type of known size.
use Rattle.std.proofs.Common.{◌≡◌, ℕ, zero, suc, Bool, false, List, ◌++◌, length, refl, sym, ap, ◌∙◌, arith, if◌then◌else◌}
use Rattle.std.proofs.lemmas.Bool.{ne_eqb}
use Rattle.std.proofs.lemmas.List.{map-append}
use Rattle.cr_memory.specs.declared.value.Scalar.{Scalar}
use Rattle.cr_memory.specs.declared.value.Guard.{Guard}
use Rattle.cr_typed.specs.declared.typed.Typed.{Typed}
use Rattle.cr_check_types.specs.Types.{Qualified, plain, pointer as to, array}
use Rattle.cr_check_types.specs.Relations.{composite_of}
use Rattle.cr_meaning_soundness.specs.Sorts.{sort_of_scalar, sorts_in}
use Rattle.cr_meaning_operations.specs.Shapes.{cells_with, structure_cells, shape_of, repeated}
use Rattle.cr_meaning_objects.specs.Initialised.Composites.{IsSized}

same_repeated : (n : ℕ) (xs ys : List (Scalar × Guard)) → sorts_in xs ≡ sorts_in ys → sorts_in (repeated n xs) ≡ sorts_in (repeated n ys)
same_repeated zero xs ys e = refl
same_repeated (suc n) xs ys e =
    map-append (λ (own : Scalar × Guard). sort_of_scalar own.0) xs (repeated n xs)
    ∙ (λ j. e j ++ same_repeated n xs ys e j)
    ∙ sym (map-append (λ (own : Scalar × Guard). sort_of_scalar own.0) ys (repeated n ys))

module _ (look : Bool → ℕ → List (Scalar × Guard)) (t : Typed) (constant : Bool) where
  kept : (one other : Qualified) → IsSized one → sorts_in (cells_with look t constant (composite_of one other)) ≡ sorts_in (cells_with look t constant one)
  kept (plain of c v) other h = refl
  kept (to c v below) (plain of d w) h = refl
  kept (to c v below) (to d w u) h = refl
  kept (to c v below) (array m u) h = refl
  kept (array n below) (plain of d w) h = refl
  kept (array n below) (to d w u) h = refl
  kept (array n below) (array m u) h =
      let some = h.0 in
      ap (λ b. sorts_in (repeated (if b then m else n) (cells_with look t constant (composite_of below u)))) (ne_eqb n 0 (λ e. absurd (omega (arith, some, e))))
      ∙ same_repeated n (cells_with look t constant (composite_of below u)) (cells_with look t constant below) (kept below u h.1)

pub composite_kept : (t : Typed) (one other : Qualified) → IsSized one → sorts_in (shape_of t (composite_of one other)) ≡ sorts_in (shape_of t one)
composite_kept t one other h = kept (structure_cells (length t.nodes) t) t false one other h
