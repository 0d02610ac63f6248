use Rattle.std.proofs.Common.{rules, arith, ◌≡◌, refl, ◌∙◌, FitsSigned, to_z, of_z, ℤ, ◌+ℤ◌, ◌-ℤ◌}
use Rattle.std.proofs.lemmas.Int.{ints, to_z-of_z}
use Rattle.std.specs.Int.{w128}
use Rattle.cr_ints.specs.declared.kind.IntKind.{IntKind}
use Rattle.cr_ints.specs.IntKind.{IsInteger, least_of}
use Rattle.cr_ints.specs.Conversions.{wrapped}
use Rattle.cr_ints.specs.Operations.{modulo_of}
use Rattle.cr_ints.proofs.Ranges.{wrapped-represents, represented_fits, narrow_least}
use Rattle.cr_ints.proofs.conversion.wrap.Goals as goal

-- the sum of the least value and what is left is the wrapped value
sum_is : (kind : IntKind) (value least rest : ℤ) → IsInteger value → least ≡ least_of kind → FitsSigned w128 least → FitsSigned w128 (value -ℤ least)
    → rest ≡ modulo_of kind (to_z w128 (of_z w128 (to_z w128 (of_z w128 value) -ℤ to_z w128 (of_z w128 least)))) → least +ℤ rest ≡ wrapped kind value
sum_is kind value least rest within l fl fd r =
    let fv : FitsSigned w128 value = omega (arith, ints, within) in
    let e = rw (to_z-of_z w128 value fv, to_z-of_z w128 least fl, to_z-of_z w128 (value -ℤ least) fd) at r in
    rw (e, l) refl

-- the value less the least one fits
difference_fits : (kind : IntKind) (value least : ℤ) → IsInteger value → least ≡ least_of kind → FitsSigned w128 (value -ℤ least)
difference_fits kind value least within l = let n = narrow_least kind in rw l (omega (arith, ints, within))

sum_fits : (kind : IntKind) (value least rest : ℤ) → least +ℤ rest ≡ wrapped kind value → FitsSigned w128 least → FitsSigned w128 rest
    → FitsSigned w128 (to_z w128 (of_z w128 least) +ℤ to_z w128 (of_z w128 rest))
sum_fits kind value least rest s fl fr =
    rw (to_z-of_z w128 least fl, to_z-of_z w128 rest fr, s) (represented_fits kind _ (wrapped-represents kind value))

pub overflow_add-result : goal.overflow_add-result
overflow_add-result c =
    let least = c.least-least.ensures in
    let fl : FitsSigned w128 c.least-least.result = search rules in
    let fr : FitsSigned w128 c.residue.result = search rules in
    let s = sum_is c.args.to c.args.value _ _ c.requires least fl (difference_fits c.args.to _ _ c.requires least) c.residue.ensures in
    sum_fits c.args.to c.args.value _ _ s fl fr

pub returns-clause-value : goal.returns-clause-value
returns-clause-value c =
    let least = c.least-least.ensures in
    let fl : FitsSigned w128 c.least-least.result = search rules in
    let fr : FitsSigned w128 c.residue.result = search rules in
    let s = sum_is c.args.to c.args.value _ _ c.requires least fl (difference_fits c.args.to _ _ c.requires least) c.residue.ensures in
    let f = sum_fits c.args.to c.args.value _ _ s fl fr in
    to_z-of_z w128 _ f ∙ rw (to_z-of_z w128 _ fl, to_z-of_z w128 _ fr) s

pub returns-clause-representable : goal.returns-clause-representable
returns-clause-representable c = rw (returns-clause-value c) (wrapped-represents c.args.to c.args.value)
