-- What an initialiser fills is one thing.
use Rattle.std.proofs.Common.{◌≡◌, ℕ, List, Option, None, Some, sym, ap, subst, ◌∙◌}
use Rattle.cr_check_types.specs.Types.{Qualified, plain, pointer, array}
use Rattle.cr_check_initialisers.specs.Known.{Known}
use Rattle.cr_check_initialisers.specs.Places.{sized}
use Rattle.cr_check_initialisers.specs.Plans.{Entry, IsPlan, length_asked}
use Rattle.cr_check_initialisers.proofs.OnePlan.{one_plan}
use Rattle.cr_check_initialised.specs.Initialised.{Planned, IsCompleted, IsFilled}

one_completed : (k : Known) (type : Qualified) (i node : ℕ) (one other : Qualified) (xs ys : List Entry)
    → IsCompleted k type i node one xs → IsCompleted k type i node other ys → (one ≡ other) × (xs ≡ ys)
one_completed k type i node one other xs ys a b =
    let same = one_plan k type i node a.first b.first a.is_first b.is_first in
    let e : one ≡ other = a.is ∙ ap (λ zs. sized type (length_asked k type zs)) same ∙ sym b.is in
    (e, one_plan k other i node xs ys (subst (λ t. IsPlan k t i node xs) e a.plan) b.plan)

pub one_filling : (k : Known) (i : ℕ) (planned : Option Planned) (type one other : Qualified) (xs ys : List Entry)
    → IsFilled k i planned type one xs → IsFilled k i planned type other ys → (one ≡ other) × (xs ≡ ys)
one_filling k i None type one other xs ys a b = (a.0 ∙ sym b.0, a.1 ∙ sym b.1)
one_filling k i (Some p) type one other xs ys a b = one_completed k p.type i p.initialiser one other xs ys a b
