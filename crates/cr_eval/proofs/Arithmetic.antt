-- Results of calls, put together.
use Rattle.std.proofs.Common.{◌≡◌, ℤ, FitsSigned, to_z, of_z, ◌∙◌, ap}
use Rattle.std.proofs.lemmas.Int.{to_z-of_z}
use Rattle.std.specs.Int.{w128}
use Rattle.cr_ints.specs.declared.kind.IntKind.{IntKind}
use Rattle.cr_ints.specs.IntKind.{Represents}
use Rattle.cr_ints.specs.Conversions.{convert_of}
use Rattle.cr_ints.proofs.Ranges.{represented_fits}

-- a number of a kind, as it is read back from an `i128`
pub read_back : (kind : IntKind) (value want : ℤ) → Represents kind value → value ≡ want → to_z w128 (of_z w128 value) ≡ want
read_back kind value want h e = to_z-of_z w128 value (represented_fits kind value h) ∙ e

-- the conversion of a number that is given as an `i128`
pub read_converted : (kind : IntKind) (value result : ℤ) → FitsSigned w128 value → Represents kind result
    → result ≡ convert_of (to_z w128 (of_z w128 value)) kind → to_z w128 (of_z w128 result) ≡ convert_of value kind
read_converted kind value result fits h e = read_back kind result _ h (e ∙ ap (λ x. convert_of x kind) (to_z-of_z w128 value fits))

-- a call on the results of two calls, and what is made of its own
pub through : {A B C : Type 0} (f : A → A → B) (g : B → C) (l r first second : A) (e : B) (result : C)
    → first ≡ l → second ≡ r → e ≡ f first second → result ≡ g e → result ≡ g (f l r)
through f g l r first second e result one two made gave = gave ∙ ap g (made ∙ (ap (λ x. f x second) one ∙ ap (f l) two))
