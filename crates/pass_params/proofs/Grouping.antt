-- Items by the entities that they are of.
use Rattle.std.proofs.Common.{zero, suc, ◌&&◌, ◌≡◌, ◌∙◌, ◌<◌, ◌≤◌, ◌+◌, ◌==◌, ℕ, Bool, true, false, List, [], ◌∷◌, ◌++◌, Option, None, Some, length, set, take, slice_index_or, if◌then◌else◌, refl, sym, ap, inl, inr, arith}
use Rattle.std.specs.List.{filter, flat_map}
use Rattle.std.proofs.lemmas.List.{get_or_past, get_or-set_other, length-set}
use Rattle.std.proofs.lemmas.List.Elements.{filter_more}
use Rattle.std.proofs.lemmas.Grind.{get_or-set_at}
use Rattle.std.proofs.lemmas.Bool.{cases_eq, eq-eqb, ne_eqb, cond-true, cond-false}
use Rattle.cr_scopes.specs.declared.names.Names.{Names}
use Rattle.pass_params.specs.Functions.{names_same, number_of, same_number}
use Rattle.pass_params.specs.Grouped.{AreGrouped, IsPut, items_of, number_where}

pub one_empty : (rows : List (List ℕ)) → ((entity : ℕ) → slice_index_or rows entity [] ≡ []) → (entity : ℕ) → slice_index_or (rows ++ [] ∷ []) entity [] ≡ []
one_empty [] empty zero = refl
one_empty [] empty (suc entity) = get_or_past [] entity [] (omega arith)
one_empty (row ∷ rows) empty zero = empty 0
one_empty (row ∷ rows) empty (suc entity) = one_empty rows (λ k. empty (suc k)) entity

behind_nothing : (xs : List ℕ) → xs ≡ xs ++ []
behind_nothing [] = refl
behind_nothing (x ∷ xs) = ap (λ ys. x ∷ ys) (behind_nothing xs)

pub nothing_put : (item : ℕ) (rows : List (List ℕ)) → IsPut None item rows rows
nothing_put item rows = record { whole = refl; each = λ entity low. behind_nothing (slice_index_or rows entity []) }

pub put_past : (at item : ℕ) (rows : List (List ℕ)) → length rows ≤ at → IsPut (Some at) item rows rows
put_past at item rows past = record {
  whole = refl;
  each = λ entity low.
      behind_nothing (slice_index_or rows entity [])
      ∙ ap (λ ys. slice_index_or rows entity [] ++ ys) (sym (cond-false (entity == at) (item ∷ []) [] (ne_eqb entity at (λ is. omega (arith, past, is, low)))));
}

pub put_there : (at item : ℕ) (rows new : List (List ℕ)) (row : List ℕ) → at < length rows → new ≡ set rows at (row ++ item ∷ []) → row ≡ slice_index_or rows at []
    → IsPut (Some at) item rows new
put_there at item rows new row low is of = record {
  whole = ap length is ∙ length-set rows at (row ++ item ∷ []);
  each = λ entity within. ap (λ xs. slice_index_or xs entity []) is ∙ elim (cases_eq entity at) [
    | inl same ↦
        get_or-set_at rows at entity (row ++ item ∷ []) [] same low
        ∙ ap (λ r. r ++ item ∷ []) (of ∙ ap (λ k. slice_index_or rows k []) (sym same))
        ∙ ap (λ ys. slice_index_or rows entity [] ++ ys) (sym (cond-true (entity == at) (item ∷ []) [] (eq-eqb entity at same)))
    | inr other ↦
        get_or-set_other rows at entity (row ++ item ∷ []) [] other
        ∙ behind_nothing (slice_index_or rows entity [])
        ∙ ap (λ ys. slice_index_or rows entity [] ++ ys) (sym (cond-false (entity == at) (item ∷ []) [] (ne_eqb entity at other)))
  ];
}

-- what holds of each is kept when it is picked out again
twice : (p : ℕ → Bool) (xs : List ℕ) → filter p (filter p xs) ≡ filter p xs
twice p [] = refl
twice p (x ∷ xs) = step (twice p xs) (p x) refl
  where
    step : filter p (filter p xs) ≡ filter p xs → (b : Bool) → p x ≡ b → filter p (if b then x ∷ filter p xs else filter p xs) ≡ (if b then x ∷ filter p xs else filter p xs)
    step below true is = ap (λ b. if b then x ∷ filter p (filter p xs) else filter p (filter p xs)) is ∙ ap (λ ys. x ∷ ys) below
    step below false is = below

-- no item is of no entity
pub no_items : (number_by : ℕ → Option ℕ) (items : List ℕ) → items_of number_by None items ≡ []
no_items number_by [] = refl
no_items number_by (item ∷ items) = no_items number_by items

pub own_row : (number_by : ℕ → Option ℕ) (entity : ℕ) (all row : List ℕ) → row ≡ items_of number_by (Some entity) all
    → items_of number_by (Some entity) row ≡ items_of number_by (Some entity) all
own_row number_by entity all row is =
    ap (λ xs. items_of number_by (Some entity) xs) is ∙ twice (λ item. same_number (Some entity) (number_by item)) all

-- what is given of those alone of which something holds
given_by : {X : Type 0} (p q : ℕ → Bool) → ((x : ℕ) → p x ≡ q x) → (g : ℕ → List X) (xs : List ℕ) → flat_map (λ x. if p x then g x else []) xs ≡ flat_map g (filter q xs)
given_by p q same g [] = refl
given_by p q same g (x ∷ xs) =
    ap (λ b. (if b then g x else []) ++ flat_map (λ y. if p y then g y else []) xs) (same x) ∙ step (given_by p q same g xs) (q x)
  where
    step : flat_map (λ y. if p y then g y else []) xs ≡ flat_map g (filter q xs) → (b : Bool) → (if b then g x else []) ++ flat_map (λ y. if p y then g y else []) xs ≡ flat_map g (if b then x ∷ filter q xs else filter q xs)
    step below true = ap (λ ys. g x ++ ys) below
    step below false = below

-- it is the same of two lists with the same such items
pub given_alike : {X : Type 0} (p q : ℕ → Bool) → ((x : ℕ) → p x ≡ q x) → (g : ℕ → List X) (some all : List ℕ) → filter q some ≡ filter q all
    → flat_map (λ x. if p x then g x else []) some ≡ flat_map (λ x. if p x then g x else []) all
given_alike p q same g some all is = given_by p q same g some ∙ ap (flat_map g) is ∙ sym (given_by p q same g all)

same_none : (number : Option ℕ) → false ≡ same_number number None
same_none None = refl
same_none (Some at) = refl

pub declares : (names : Names) (token : ℕ) (next : Bool) (name : Option ℕ)
    → (next && names_same names token name) ≡ same_number (number_of names token) (if next then number_where names name else None)
declares names token false name = same_none (number_of names token)
declares names token true None = same_none (number_of names token)
declares names token true (Some other) = refl
