-- Typedef names that are declared again, by rows.
use Rattle.std.proofs.Common.{◌≡◌, ℕ, zero, suc, ◌+◌, ◌<◌, ◌≤◌, List, [], ◌∷◌, ◌++◌, Option, None, Some, IfSome, length, slice_get, slice_index_or, inl, inr, refl, sym, ap, subst, ◌∙◌, arith, length-append, eq-eqb, ◌==◌, not, Bool, true, false, ◌↔◌}
use Rattle.std.proofs.Math.ListN.{get_or-append}
use Rattle.std.proofs.Math.Seq.{get_or-append_seam}
use Rattle.std.proofs.lemmas.Bool.{cases_lt, eqb-true}
use Rattle.std.proofs.lemmas.List.{get_or_past}
use Rattle.cr_check_types.specs.declared.shape.Shape.{Shape}
use Rattle.cr_check_types.specs.Types.{Qualified, type_at}
use Rattle.cr_check_types.specs.Shared.{IsDistinct}
use Rattle.cr_check_operands.specs.Places.{found_by}
use Rattle.cr_scopes.specs.declared.names.Entity.{Entity}
use Rattle.cr_scopes.specs.declared.names.Names.{Names}
use Rattle.cr_scopes.specs.Looking.{or_else}
use Rattle.cr_check_definitions.specs.declared.known.Declarations.{Declarations}
use Rattle.cr_check_definitions.specs.Known.{Known, known_of, declared_if, declared_in}
use Rattle.cr_check_definitions.specs.Typedefs.{AreFirsts, IsFirstTwice, IsRowOf, IsTwice, differ, entry_of, first_given, given_if, given_first, typedef_if, typedef_of}

some_is : {A : Type 0} (x y : A) → Some x ≡ Some y → x ≡ y
some_is x y e = cc e

none_past : {X : Type 0} (xs : List X) (k : ℕ) → length xs ≤ k → slice_get xs k ≡ None
none_past [] k h = refl
none_past (x ∷ xs) zero h = absurd (omega (arith, h))
none_past (x ∷ xs) (suc k) h = none_past xs k (omega (arith, h))

-- ---- what entities are given

no_row : (shapes : List Shape) → IsRowOf shapes None None
no_row shapes = record { is = refl; within = tt }

given_by : (shapes : List Shape) (k : Known) (names : Names) (firsts : List (Option ℕ)) (entity : ℕ) → length firsts ≡ length names.entities
    → AreFirsts shapes k names (length names.entities) firsts
    → IsRowOf shapes (slice_index_or firsts entity None) (first_given (typedef_of k) (declared_in names entity))
given_by shapes k names firsts entity count h = elim (cases_lt entity (length names.entities)) [
  | inl there ↦ h entity there
  | inr gone ↦
      let a : slice_index_or firsts entity None ≡ None = get_or_past firsts entity None (omega (arith, count, gone)) in
      let b : declared_in names entity ≡ [] = ap declared_if (none_past names.entities entity gone) in
      rw (a, b) (no_row shapes)
]

given_is : (shapes : List Shape) (k : Known) (names : Names) (firsts : List (Option ℕ)) (entity : Option ℕ) → length firsts ≡ length names.entities
    → AreFirsts shapes k names (length names.entities) firsts → IsRowOf shapes (entry_of firsts entity) (given_if k names entity)
given_is shapes k names firsts None count h = no_row shapes
given_is shapes k names firsts (Some entity) count h = given_by shapes k names firsts entity count h

pub given_first_is : (shapes : List Shape) (k : Known) (names : Names) (firsts : List (Option ℕ)) (token : ℕ) (row : Option ℕ)
    → length firsts ≡ length names.entities → AreFirsts shapes k names (length names.entities) firsts
    → row ≡ entry_of firsts (slice_index_or names.of_token token None) → IsRowOf shapes row (given_first k names token)
given_first_is shapes k names firsts token row count h e =
    subst (λ r. IsRowOf shapes r (given_first k names token)) (sym e) (given_is shapes k names firsts (slice_index_or names.of_token token None) count h)

-- one entity more
pub firsts_more : (shapes : List Shape) (k : Known) (names : Names) (at : ℕ) (firsts : List (Option ℕ)) (row : Option ℕ) → length firsts ≡ at
    → AreFirsts shapes k names at firsts → IsRowOf shapes row (first_given (typedef_of k) (declared_in names at))
    → AreFirsts shapes k names (at + 1) (firsts ++ row ∷ [])
firsts_more shapes k names at firsts row count h is entity low = elim (cases_lt entity at) [
  | inl older ↦
      subst (λ r. IsRowOf shapes r (first_given (typedef_of k) (declared_in names entity)))
      (sym (get_or-append firsts (row ∷ []) None entity (omega (arith, count, older)))) (h entity older)
  | inr newest ↦
      let here : length firsts ≡ entity = omega (arith, count, low, newest) in
      let last : at ≡ entity = omega (arith, low, newest) in
      subst (λ r. IsRowOf shapes r (first_given (typedef_of k) (declared_in names entity)))
      (sym (subst (λ n. slice_index_or (firsts ++ row ∷ []) n None ≡ row) here (get_or-append_seam firsts row [] None)))
      (subst (λ n. IsRowOf shapes row (first_given (typedef_of k) (declared_in names n))) last is)
]

-- the first of what is left
pub given_here : (shapes : List Shape) (given : ℕ → Option Qualified) (row token : ℕ) (tokens rest : List ℕ) → rest ≡ token ∷ tokens
    → IsRowOf shapes (Some row) (given token) → IsRowOf shapes (Some row) (first_given given rest)
given_here shapes given row token tokens rest e h =
    rw e (subst (λ x. IsRowOf shapes (Some row) (or_else x (first_given given tokens))) h.is
    (record { is = refl; within = h.within }))

pub given_later : (shapes : List Shape) (given : ℕ → Option Qualified) (token : ℕ) (tokens rest : List ℕ) → rest ≡ token ∷ tokens
    → IsRowOf shapes None (given token) → first_given given rest ≡ first_given given tokens
given_later shapes given token tokens rest e h = rw e (ap (λ x. or_else x (first_given given tokens)) (sym h.is))

-- ---- two rows

pub are_twice : (shapes : List Shape) (k : Known) (names : Names) (token row first : ℕ) → IsDistinct shapes
    → IsRowOf shapes (Some row) (typedef_of k token) → IsRowOf shapes (Some first) (given_first k names token) → (row ≡ first → ⊥)
    → IsTwice k names token
are_twice shapes k names token row first distinct own given other = record {
  own = type_at shapes row;
  first = type_at shapes first;
  is = sym own.is;
  given = sym given.is;
  other = λ e. other (distinct row first own.within given.within e);
}

pub are_not : (shapes : List Shape) (k : Known) (names : Names) (token row first : ℕ) → IsRowOf shapes (Some row) (typedef_of k token)
    → IsRowOf shapes (Some first) (given_first k names token) → row ≡ first → IsTwice k names token → ⊥
are_not shapes k names token row first own given same h =
    h.other (some_is h.own (type_at shapes row) (sym h.is ∙ sym own.is) ∙ ap (type_at shapes) same
    ∙ some_is (type_at shapes first) h.first (given.is ∙ h.given))

pub has_no_row : (shapes : List Shape) (k : Known) (names : Names) (token : ℕ) → IsRowOf shapes None (typedef_of k token) → IsTwice k names token → ⊥
has_no_row shapes k names token own h = cc (own.is ∙ h.is)

pub has_no_first : (shapes : List Shape) (k : Known) (names : Names) (token : ℕ) → IsRowOf shapes None (given_first k names token)
    → IsTwice k names token → ⊥
has_no_first shapes k names token given h = cc (given.is ∙ h.given)

-- the rows decide
decided : (shapes : List Shape) (k : Known) (names : Names) (token row first : ℕ) (same : Bool) → (row == first) ≡ same → IsDistinct shapes
    → IsRowOf shapes (Some row) (typedef_of k token) → IsRowOf shapes (Some first) (given_first k names token)
    → (not same ≡ true) ↔ IsTwice k names token
decided shapes k names token row first true e distinct own given =
    ((λ wrong. cc wrong), λ h. absurd (are_not shapes k names token row first own given (eqb-true row first e) h))
decided shapes k names token row first false e distinct own given =
    ((λ right. are_twice shapes k names token row first distinct own given (λ same. cc (sym e ∙ eq-eqb row first same))), λ h. refl)

pub decides : (shapes : List Shape) (k : Known) (names : Names) (token : ℕ) (row first : Option ℕ) → IsDistinct shapes
    → IsRowOf shapes row (typedef_of k token) → IsRowOf shapes first (given_first k names token) → (differ row first ≡ true) ↔ IsTwice k names token
decides shapes k names token None first distinct own given = ((λ wrong. cc wrong), λ h. absurd (has_no_row shapes k names token own h))
decides shapes k names token (Some row) None distinct own given = ((λ wrong. cc wrong), λ h. absurd (has_no_first shapes k names token given h))
decides shapes k names token (Some row) (Some first) distinct own given =
    decided shapes k names token row first (row == first) refl distinct own given

-- ---- tokens

-- a token behind those that are declared
beyond : (d : Declarations) (names : Names) (token : ℕ) → length d.declarers.now ≤ token
    → IsTwice (known_of d) names token → ⊥
beyond d names token past h =
    cc (sym (ap (typedef_if (known_of d)) (get_or_past d.declarers.now token None past)) ∙ h.is)

pub none_beyond : (d : Declarations) (names : Names) (count : ℕ) → length d.declarers.now ≤ count
    → ((token : ℕ) → token < count → IsTwice (known_of d) names token → ⊥) → IsFirstTwice (known_of d) names None
none_beyond d names count past none token h = elim (cases_lt token count) [
  | inl there ↦ none token there h
  | inr gone ↦ beyond d names token (omega (arith, past, gone)) h
]

pub first_is : (k : Known) (names : Names) (token : ℕ) → IsTwice k names token → ((other : ℕ) → other < token → IsTwice k names other → ⊥)
    → IsFirstTwice k names (Some token)
first_is k names token is none = (
  is,
  λ other h. elim (cases_lt other token) [
    | inl before ↦ absurd (none other before h)
    | inr behind ↦ behind
  ],
)

-- one token more
pub none_more : (k : Known) (names : Names) (at token : ℕ) → token ≡ at → ((other : ℕ) → other < at → IsTwice k names other → ⊥)
    → (IsTwice k names token → ⊥) → (other : ℕ) → other < at + 1 → IsTwice k names other → ⊥
none_more k names at token here before own other low h = elim (cases_lt other at) [
  | inl older ↦ before other older h
  | inr newest ↦
      let same : other ≡ token = omega (arith, here, low, newest) in
      own (subst (IsTwice k names) same h)
]
