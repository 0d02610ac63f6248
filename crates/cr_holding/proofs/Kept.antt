-- What is known of a call's value is known of it beside the held one.
use Rattle.std.proofs.Common.{◌≡◌, Result, Ok, Err, IfOk, OnOk, MatchResult, refl, subst}
use Rattle.std.specs.Result.{result_and}
use Rattle.cr_holding.specs.Holding.{with_held}

pub kept : {T U E : Type 0} (P : T → Type 0) (made : Result T E) (held : U) (both : T × U) → with_held held made ≡ Ok both → IfOk made P
    → P both.0 × (held ≡ both.1)
kept P (Ok value) held both same is = subst (λ r. IfOk r (λ b. P b.0 × (held ≡ b.1))) same (is, refl)
kept P (Err error) held both same is = subst (λ r. MatchResult r (λ b. P both.0 × (held ≡ both.1)) (λ e. Unit {0})) same tt

-- what a call that gives nothing makes known is known of a value that stays
pub stays : {T E : Type 0} (P : T → Type 0) (Q : Type 0) (done : Result Unit E) (value : T) → OnOk done Q → (Q → P value)
    → IfOk (result_and done (Ok value)) P
stays P Q (Ok u) value is known = known is
stays P Q (Err error) value is known = tt
