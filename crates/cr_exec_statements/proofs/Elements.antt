-- A literal's cells as elements, one after another.
use Rattle.std.proofs.Common.{◌≡◌, ℕ, suc, ◌+◌, ◌<◌, ◌≤◌, List, [], ◌∷◌, length, drop, slice_index_or, refl, sym, ap, ◌∙◌, arith}
use Rattle.std.proofs.lemmas.List.{drop_more}
use Rattle.std.proofs.Math.ListN.{drop_of_length-le}
use Rattle.cr_memory.specs.declared.value.Cell.{Cell}
use Rattle.cr_memory.specs.declared.value.Cell.TheVariants.{Unset}
use Rattle.cr_memory.specs.declared.value.Scalar.{Scalar}
use Rattle.cr_meaning.specs.Nodes.{element_of, elements_of}

pub one_more : (kind : Scalar) (kinds : List Scalar) (cells : List Cell) (place : ℕ) (held : Cell) → place < length cells → slice_index_or cells place Unset ≡ held
    → elements_of (kind ∷ kinds) (drop place cells) ≡ element_of kind held ∷ elements_of kinds (drop (place + 1) cells)
one_more kind kinds cells place held inside e =
    ap (elements_of (kind ∷ kinds)) (drop_more cells place Unset inside) ∙ ap (λ h. element_of kind h ∷ elements_of kinds (drop (place + 1) cells)) e

pub none_left : (kinds : List Scalar) (cells : List Cell) (place : ℕ) → length cells ≤ place → elements_of kinds (drop place cells) ≡ []
none_left kinds cells place past = ap (elements_of kinds) (drop_of_length-le cells past) ∙ of_none kinds
  where
    of_none : (all : List Scalar) → elements_of all [] ≡ []
    of_none [] = refl
    of_none (kind ∷ rest) = refl
