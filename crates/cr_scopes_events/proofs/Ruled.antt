-- Each value is what the rule makes of those before it.
use Rattle.std.proofs.Common.{◌≡◌, ℕ, zero, suc, ◌==◌, nat_lt, if◌then◌else◌, refl, sym, ap, ◌∙◌, inl, inr, arith}
use Rattle.std.proofs.lemmas.Bool.{cases_eq, cases_order, eq-eqb, ne_eqb, cond-true, cond-false, le-ltb, lt-ltb}
use Rattle.cr_scopes_events.specs.Values.{before, made, value_at}

abbrev own : {A : Type 0} → A → ((ℕ → A) → ℕ → A) → ℕ → A
own nothing rule q = made nothing rule (suc q) q

same_test : (p i : ℕ) → (p ≡ i → ⊥) → nat_lt p i ≡ nat_lt p (suc i)
same_test p i ne = elim (cases_order p i) [
  | inl is ↦ absurd (ne is)
  | inr (inl lt) ↦ lt-ltb p i lt ∙ sym (lt-ltb p (suc i) (omega (arith, lt)))
  | inr (inr gt) ↦ le-ltb p i (omega (arith, gt)) ∙ sym (le-ltb p (suc i) (omega (arith, gt)))
]

steps : {A : Type 0} (nothing : A) (rule : (ℕ → A) → ℕ → A) (i p : ℕ)
    → made nothing rule i p ≡ before nothing i (own nothing rule) p
steps nothing rule zero p = sym (cond-false (nat_lt p 0) (own nothing rule p) nothing (le-ltb p 0 (omega arith)))
steps nothing rule (suc i) p = elim (cases_eq p i) [
  | inl is ↦
      cond-true (p == i) (rule (made nothing rule i) i) (made nothing rule i p) (eq-eqb p i is)
      ∙ ap (λ k. rule (made nothing rule k) k) (sym is)
      ∙ sym (cond-true (p == p) (rule (made nothing rule p) p) (made nothing rule p p) (eq-eqb p p refl))
      ∙ sym (cond-true (nat_lt p (suc i)) (own nothing rule p) nothing (lt-ltb p (suc i) (omega (arith, is))))
  | inr ne ↦
      cond-false (p == i) (rule (made nothing rule i) i) (made nothing rule i p) (ne_eqb p i ne)
      ∙ steps nothing rule i p
      ∙ ap (λ b. if b then own nothing rule p else nothing) (same_test p i ne)
]

pub ruled : {A : Type 0} (nothing : A) (rule : (ℕ → A) → ℕ → A) (i : ℕ)
    → value_at nothing rule i ≡ rule (before nothing i (value_at nothing rule)) i
unfolding value_at
ruled nothing rule i =
    cond-true (i == i) (rule (made nothing rule i) i) (made nothing rule i i) (eq-eqb i i refl)
    ∙ ap (λ f. rule f i) (λ t. λ p. steps nothing rule i p t)
