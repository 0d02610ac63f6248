-- An initialiser has one plan.
use Rattle.std.proofs.Common.{◌≡◌, ℕ, List, [], ◌∷◌, ◌++◌, refl, sym, subst, ◌∙◌}
use Rattle.cr_check_types.specs.Types.{Qualified}
use Rattle.cr_check_initialisers.specs.Known.{Known}
use Rattle.cr_check_initialisers.specs.Places.{Place, laid, types_in, types_within, types_of_object}
use Rattle.cr_check_initialisers.specs.Plans.{Entry, put, Fills, ends, exceeds, braces, whole, elided, loses, IsPlan, by_expression, by_list}

pub one_filling : (k : Known) (ps : List Place) (b : ℕ) (is : List ℕ) (xs ys zs : List Entry) → Fills k ps b is xs ys → Fills k ps b is xs zs → ys ≡ zs
one_filling k ps b is xs ys zs (ends) (ends) = refl
one_filling k ps b is xs ys zs (exceeds) (exceeds) = refl
one_filling k ps b is xs ys zs (braces {p = p} {ps = qs} {i = i} {is = js} {ys = us} o f r) (braces {ys = vs} q g s) =
    let e = one_filling k (laid k p.cell (types_within k p.type (k.initialisers i))) i (k.initialisers i) xs us vs f g in
    one_filling k qs b js us ys zs r (subst (λ ws. Fills k qs b js ws zs) (sym e) s)
one_filling k ps b is xs ys zs (braces o f r) (whole q t s) = absurd cc
one_filling k ps b is xs ys zs (braces o f r) (elided q t l s) = absurd cc
one_filling k ps b is xs ys zs (braces o f r) (loses q t l) = absurd cc
one_filling k ps b is xs ys zs (whole o t r) (braces q g s) = absurd cc
one_filling k ps b is xs ys zs (whole {p = p} {ps = qs} {i = i} {is = js} o t r) (whole q u s) = one_filling k qs b js (xs ++ put p i b ∷ []) ys zs r s
one_filling k ps b is xs ys zs (whole o t r) (elided q u l s) = absurd cc
one_filling k ps b is xs ys zs (whole o t r) (loses q u l) = absurd cc
one_filling k ps b is xs ys zs (elided o t l r) (braces q g s) = absurd cc
one_filling k ps b is xs ys zs (elided o t l r) (whole q u s) = absurd cc
one_filling k ps b is xs ys zs (elided {p = p} {ps = qs} {i = i} {is = js} o t l r) (elided q u m s) =
    one_filling k (laid k p.cell (types_in k p.type) ++ qs) b (i ∷ js) xs ys zs r s
one_filling k ps b is xs ys zs (elided o t l r) (loses q u m) = absurd cc
one_filling k ps b is xs ys zs (loses o t l) (braces q g s) = absurd cc
one_filling k ps b is xs ys zs (loses o t l) (whole q u s) = absurd cc
one_filling k ps b is xs ys zs (loses o t l) (elided q u m s) = absurd cc
one_filling k ps b is xs ys zs (loses o t l) (loses q u m) = refl

pub one_plan : (k : Known) (type : Qualified) (above node : ℕ) (xs ys : List Entry) → IsPlan k type above node xs → IsPlan k type above node ys → xs ≡ ys
one_plan k type above node xs ys (by_expression o e) (by_expression q f) = e ∙ sym f
one_plan k type above node xs ys (by_expression o e) (by_list q f) = absurd cc
one_plan k type above node xs ys (by_list o f) (by_expression q e) = absurd cc
one_plan k type above node xs ys (by_list o f) (by_list q g) =
    one_filling k (laid k 0 (types_of_object k type (k.initialisers node))) node (k.initialisers node) [] xs ys f g
