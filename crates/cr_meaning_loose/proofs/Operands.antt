-- The operands of a node that have no order among themselves.
use Rattle.std.proofs.Common.{◌≡◌, refl, sym, ◌∙◌, ap, subst, arith, inl, inr}
use Rattle.std.specs.Prelude.{ℕ, ◌<◌, ◌≤◌, ◌⊎◌, nat_lt, Bool, true, false, Option, Some, None, length, slice_get, if◌then◌else◌}
use Rattle.std.proofs.lemmas.Bool.{true≢false, false≢true, ltb-true, ltb-false}
use Rattle.cr_meaning.specs.World.{Program}
use Rattle.cr_meaning.specs.declared.op.Op.{Op}
use Rattle.cr_meaning_seen.specs.Seen.{Forest}
use Rattle.cr_meaning_orders.specs.AnyOrder.{is_free}
use Rattle.cr_meaning_orders.specs.Fixed.{IsFixedNode}
use Rattle.cr_meaning_loose.specs.Loose.{IsFixedAt}
use Rattle.cr_meaning_loose.specs.Lists.{operands_if, operands_by, operands_at}
use Rattle.cr_meaning_loose.proofs.Adding.{few_fixed}

-- ---- operands

few_or_all : (free : Bool) (count : ℕ) → ((operands_if free count ≡ 0) × ((free ≡ true → ⊥) ⊎ (count < 2))) ⊎ (operands_if free count ≡ count)
few_or_all false count = inl (refl, inl (λ e. false≢true e))
few_or_all true count = by (nat_lt count 2) refl
  where
    by : (b : Bool) → nat_lt count 2 ≡ b → ((operands_if true count ≡ 0) × ((true ≡ true → ⊥) ⊎ (count < 2))) ⊎ (operands_if true count ≡ count)
    by true e = let F : Bool → ℕ = λ x. if x then 0 else count in inl (ap F e, inr (ltb-true count 2 e))
    by false e = let F : Bool → ℕ = λ x. if x then 0 else count in inr (ap F e)

module _ (p : Program) (number : ℕ) (forest : Forest) where
  pub to_at : IsFixedNode p (operands_at p number) forest → IsFixedAt p number forest
  to_at h op is free = by (few_or_all (is_free op.work) (length op.parts))
    where
      here : IsFixedNode p (operands_if (is_free op.work) (length op.parts)) forest
      here = let F : Option Op → Type 0 = λ o. IsFixedNode p (operands_by o) forest in subst F is h

      by : ((operands_if (is_free op.work) (length op.parts) ≡ 0) × ((is_free op.work ≡ true → ⊥) ⊎ (length op.parts < 2))) ⊎ (operands_if (is_free op.work) (length op.parts) ≡ length op.parts) → IsFixedNode p (length op.parts) forest
      by (inl i) = few i.1
        where
          few : (is_free op.work ≡ true → ⊥) ⊎ (length op.parts < 2) → IsFixedNode p (length op.parts) forest
          few (inl never) = absurd (never free)
          few (inr two) = few_fixed p (length op.parts) forest two
      by (inr e) = let F : ℕ → Type 0 = λ n. IsFixedNode p n forest in subst F e here

  pub from_at : IsFixedAt p number forest → IsFixedNode p (operands_at p number) forest
  from_at h = by (slice_get p.ops number) refl
    where
      none : (n : ℕ) → n ≡ 0 → IsFixedNode p n forest
      none n e = few_fixed p n forest (omega (arith, e))

      by : (o : Option Op) → slice_get p.ops number ≡ o → IsFixedNode p (operands_by o) forest
      by None is = none 0 refl
      by (Some op) is = free (is_free op.work) refl
        where
          free : (b : Bool) → is_free op.work ≡ b → IsFixedNode p (operands_if b (length op.parts)) forest
          free false e = none 0 refl
          free true e = cases (few_or_all true (length op.parts))
            where
              cases : ((operands_if true (length op.parts) ≡ 0) × ((true ≡ true → ⊥) ⊎ (length op.parts < 2))) ⊎ (operands_if true (length op.parts) ≡ length op.parts) → IsFixedNode p (operands_if true (length op.parts)) forest
              cases (inl i) = none (operands_if true (length op.parts)) i.0
              cases (inr same) = let F : ℕ → Type 0 = λ n. IsFixedNode p n forest in subst F (sym same) (h op is e)

-- where there is one there are two
pub two_by : (o : Option Op) → 0 < operands_by o → 2 ≤ operands_by o
two_by None some = absurd (omega (arith, some))
two_by (Some op) some = by (is_free op.work) some
  where
    by : (b : Bool) → 0 < operands_if b (length op.parts) → 2 ≤ operands_if b (length op.parts)
    by false some = absurd (omega (arith, some))
    by true some = cases (nat_lt (length op.parts) 2) refl
      where
        cases : (b : Bool) → nat_lt (length op.parts) 2 ≡ b → 2 ≤ operands_if true (length op.parts)
        cases true e =
            let none : operands_if true (length op.parts) ≡ 0 = ap (λ (x : Bool). if x then 0 else length op.parts) e in absurd (omega (arith, none, some))
        cases false e =
            let all : operands_if true (length op.parts) ≡ length op.parts = ap (λ (x : Bool). if x then 0 else length op.parts) e in
            let n = ltb-false (length op.parts) 2 e in omega (arith, all, n)

pub two_at : (p : Program) (number : ℕ) → 0 < operands_at p number → 2 ≤ operands_at p number
two_at p number some = two_by (slice_get p.ops number) some
