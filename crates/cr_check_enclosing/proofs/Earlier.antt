-- The least token of each mark, and what stands behind it.
use Rattle.std.proofs.Common.{◌≡◌, ℕ, suc, ◌+◌, ◌<◌, ◌&&◌, List, [], ◌∷◌, ◌++◌, Option, Some, None, Bool, false, ◌||◌, length, nat_lt, slice_index_or, inl, inr, refl, ap, subst, ◌∙◌, arith, length-append}
use Rattle.std.proofs.Math.ListN.{get_or-append}
use Rattle.std.proofs.Math.Seq.{get_or-append_seam}
use Rattle.std.proofs.lemmas.Bool.{cases_lt}
use Rattle.cr_check_enclosing.specs.Repeats.{has_before, has_mark, is_mark}

-- one node more is looked at
pub one_before : {K : Type 0} (eq : K → K → Bool) (mark : ℕ → Option K) (place : ℕ → ℕ) (k token : ℕ) (q : K)
    → has_before eq mark place (k + 1) token q ≡ (has_before eq mark place k token q || (nat_lt (place k) token && is_mark eq q (mark k)))
one_before eq mark place k token q =
    let step : k + 1 ≡ suc k = omega arith in
    ap (λ (n : ℕ). has_before eq mark place n token q) step

pub same_mark : {K : Type 0} (f g : K → Bool) (mark : Option K) → ((q : K) → f q ≡ g q) → has_mark f mark ≡ has_mark g mark
same_mark f g None h = refl
same_mark f g (Some mark) h = h mark
