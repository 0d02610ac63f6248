-- The first free number, one number on.
use native.Mathlib.Omega.{arith}
use Rattle.std.proofs.Common.{◌≡◌, ℕ, ◌+◌, ◌-◌, ◌<◌, suc, Bool, true, false, not, List, Option, Some, if◌then◌else◌, refl, sym, ap, ◌∙◌, true≢false}
use Rattle.cr_tokens.specs.declared.token.Token.{Token}
use Rattle.pass_names.specs.Short.{free_from, is_taken, short_name}

here : (taken : Bool) (later : Option ℕ) (number : ℕ) → not taken ≡ true → (if taken then later else Some number) ≡ Some number
here true later number free = absurd (true≢false (sym free))
here false later number free = refl

on : (taken : Bool) (later : Option ℕ) (number : ℕ) → not taken ≡ false → (if taken then later else Some number) ≡ later
on true later number free = refl
on false later number free = absurd (true≢false free)

step : (file : List ℕ) (tokens : List Token) (number most : ℕ) → number < most
    → free_from file tokens number (most - number) ≡ (if is_taken file tokens (short_name number) then free_from file tokens (number + 1) (most - (number + 1)) else Some number)
step file tokens number most below = let more : most - number ≡ suc (most - (number + 1)) = omega (arith, below) in ap (free_from file tokens number) more

pub found : (file : List ℕ) (tokens : List Token) (number most : ℕ) (free : Bool) → number < most → free ≡ not (is_taken file tokens (short_name number)) → free ≡ true
    → free_from file tokens number (most - number) ≡ Some number
found file tokens number most free below is unused =
    step file tokens number most below ∙ here (is_taken file tokens (short_name number)) (free_from file tokens (number + 1) (most - (number + 1))) number (sym is ∙ unused)

pub passed : (file : List ℕ) (tokens : List Token) (number most : ℕ) (free : Bool) → number < most → free ≡ not (is_taken file tokens (short_name number)) → free ≡ false
    → free_from file tokens number (most - number) ≡ free_from file tokens (number + 1) (most - (number + 1))
passed file tokens number most free below is used =
    step file tokens number most below ∙ on (is_taken file tokens (short_name number)) (free_from file tokens (number + 1) (most - (number + 1))) number (sym is ∙ used)
