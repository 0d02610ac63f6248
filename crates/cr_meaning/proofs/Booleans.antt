-- Identities of truth values, by trying all of them.
use Rattle.std.proofs.Common.{◌≡◌, refl}
use Rattle.std.specs.Prelude.{Bool, true, false, ◌&&◌, not}
use Rattle.std.proofs.lemmas.Bool.{and_parts}

abbrev pub agree : Bool → Bool → Bool
agree true b = b
agree false b = not b

agreed : (a b : Bool) → agree a b ≡ true → a ≡ b
agreed true true e = refl
agreed false false e = refl
agreed true false e = cc
agreed false true e = cc

abbrev pub both : (Bool → Bool) → Bool
both f = f true && f false

either : (f : Bool → Bool) (a : Bool) → both f ≡ true → f a ≡ true
either f true e = (and_parts (f true) (f false) e).0
either f false e = (and_parts (f true) (f false) e).1

pub same_two : (f g : Bool → Bool → Bool) → both (λ a. both (λ b. agree (f a b) (g a b))) ≡ true → (a b : Bool) → f a b ≡ g a b
same_two f g e a b = agreed _ _ (either (λ b. agree (f a b) (g a b)) b (either (λ a. both (λ b. agree (f a b) (g a b))) a e))

pub same_three : (f g : Bool → Bool → Bool → Bool) → both (λ a. both (λ b. both (λ c. agree (f a b c) (g a b c)))) ≡ true → (a b c : Bool) → f a b c ≡ g a b c
same_three f g e a b c = same_two (f a) (g a) (either (λ a. both (λ b. both (λ c. agree (f a b c) (g a b c)))) a e) b c

pub same_four : (f g : Bool → Bool → Bool → Bool → Bool) → both (λ a. both (λ b. both (λ c. both (λ d. agree (f a b c d) (g a b c d))))) ≡ true
    → (a b c d : Bool) → f a b c d ≡ g a b c d
same_four f g e a b c d = same_three (f a) (g a) (either (λ a. both (λ b. both (λ c. both (λ d. agree (f a b c d) (g a b c d))))) a e) b c d

pub same_six : (f g : Bool → Bool → Bool → Bool → Bool → Bool → Bool)
    → both (λ a. both (λ b. both (λ c. both (λ d. both (λ e. both (λ h. agree (f a b c d e h) (g a b c d e h))))))) ≡ true
    → (a b c d e h : Bool) → f a b c d e h ≡ g a b c d e h
same_six f g e a b c d x y = same_four (f a b) (g a b)
    (either (λ b. both (λ c. both (λ d. both (λ e. both (λ h. agree (f a b c d e h) (g a b c d e h)))))) b
    (either (λ a. both (λ b. both (λ c. both (λ d. both (λ e. both (λ h. agree (f a b c d e h) (g a b c d e h))))))) a e)) c d x y
