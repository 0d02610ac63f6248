-- Fewer names are taken than there are short ones.
use native.Mathlib.Omega.{arith}
use Rattle.std.proofs.Common.{◌≡◌, ℕ, zero, suc, ◌+◌, ◌<◌, ◌≤◌, Bool, true, false, ◌||◌, List, [], ◌∷◌, ◌++◌, Option, None, Some, if◌then◌else◌, length, map, refl, sym, ap, subst, ◌∙◌, inl, inr}
use Rattle.std.specs.Prelude.{slice_range}
use Rattle.std.specs.List.{list_any}
use Rattle.std.specs.Str.{bytes_eq}
use Rattle.std.proofs.lemmas.Bool.{cases_lt}
use Rattle.std.proofs.lemmas.List.{length-append, length-map}
use Rattle.std.proofs.lemmas.List.Folds.{list_any-append}
use Rattle.std.proofs.lemmas.Option.{none-some}
use Rattle.cr_tokens.specs.declared.token.Token.{Token}
use Rattle.cr_tokens.specs.Words.{keywords}
use Rattle.pass_names.specs.Short.{first_free, free_from, is_taken, short_name}
use Rattle.pass_names.proofs.Own.{own_names}
use Rattle.pass_names.proofs.Hits.{all_stand_in}

abbrev spelled : List ℕ → Token → List ℕ
spelled file token = slice_range file token.start token.end

abbrev taken_names : List ℕ → List Token → List (List ℕ)
taken_names file tokens = keywords ++ map (spelled file) tokens

any_spelled : (file : List ℕ) (tokens : List Token) (name : List ℕ) → list_any (λ y. bytes_eq y name) (map (spelled file) tokens) ≡ list_any (λ token. bytes_eq (spelled file token) name) tokens
any_spelled file [] name = refl
any_spelled file (token ∷ tokens) name = ap (λ b. bytes_eq (spelled file token) name || b) (any_spelled file tokens name)

is_there : (file : List ℕ) (tokens : List Token) (name : List ℕ) → is_taken file tokens name ≡ true → list_any (λ y. bytes_eq y name) (taken_names file tokens) ≡ true
is_there file tokens name is =
    list_any-append (λ y. bytes_eq y name) keywords (map (spelled file) tokens)
    ∙ ap (λ b. list_any (λ y. bytes_eq y name) keywords || b) (any_spelled file tokens name) ∙ is

-- where no number is found, all names are taken
here_by : (taken : Bool) (later : Option ℕ) (number : ℕ) → (if taken then later else Some number) ≡ None → taken ≡ true
here_by true later number none = refl
here_by false later number none = absurd (none-some number (sym none))

later_by : (taken : Bool) (later : Option ℕ) (number : ℕ) → (if taken then later else Some number) ≡ None → later ≡ None
later_by true later number none = none
later_by false later number none = absurd (none-some number (sym none))

all_taken : (file : List ℕ) (tokens : List Token) (more number i : ℕ) → free_from file tokens number more ≡ None → number ≤ i → i < number + more → is_taken file tokens (short_name i) ≡ true
all_taken file tokens zero number i none low high = absurd (omega (arith, low, high))
all_taken file tokens (suc more) number i none low high =
    let later = free_from file tokens (number + 1) more in
    elim (cases_lt number i) [
      | inl above ↦ all_taken file tokens more (number + 1) i (later_by (is_taken file tokens (short_name number)) later number none) (omega (arith, above)) (omega (arith, high))
      | inr below ↦ let here : number ≡ i = omega (arith, low, below) in
          subst (λ n. is_taken file tokens (short_name n) ≡ true) here (here_by (is_taken file tokens (short_name number)) later number none)
    ]

few_taken : (file : List ℕ) (tokens : List Token) → length (taken_names file tokens) ≡ 44 + length tokens
few_taken file tokens = length-append keywords (map (spelled file) tokens) ∙ ap (λ n. 44 + n) (length-map tokens (spelled file))

pub a_free_name : (file : List ℕ) (tokens : List Token) → length tokens ≤ 475209 → first_free file tokens ≡ None → ⊥
a_free_name file tokens short none =
    let few = all_stand_in short_name (taken_names file tokens) (length tokens + 45)
    (λ i j low below same. own_names i j (omega (arith, low, short)) (omega (arith, below, short)) same)
    (λ i low. is_there file tokens (short_name i) (all_taken file tokens (length tokens + 45) 0 i none (omega arith) (omega (arith, low)))) in
    let count = few_taken file tokens in
    omega (arith, few, count)
