-- What an entry of a column of last numbers says: the number there has that key.
use Rattle.std.proofs.Common.{◌≡◌, ℕ, zero, suc, inl, inr, Bool, true, false, List, Option, None, Some, slice_index_or, refl, sym, subst, ap, ◌∙◌, arith, if◌then◌else◌}
use Rattle.std.proofs.lemmas.Bool.{false≢true, cases_lt, eqb-true}
use Rattle.std.proofs.lemmas.List.{get_or_past}
use Rattle.cr_scopes.specs.Resolved.{is_number}
use Rattle.cr_scopes_bindings.specs.Last.{last_with, AreLast}
use Rattle.cr_scopes_bindings.specs.Bindings.{entry_if}

last_has : (key : ℕ → Option ℕ) (bound k p : ℕ) → last_with key bound k ≡ Some p → is_number (key p) k ≡ true
last_has key zero k p e = absurd cc
last_has key (suc bound) k p e = by (is_number (key bound) k) refl e (λ x. last_has key bound k p x)
  where
    by : (b : Bool) → is_number (key bound) k ≡ b → (if b then Some bound else last_with key bound k) ≡ Some p → (last_with key bound k ≡ Some p → is_number (key p) k ≡ true) → is_number (key p) k ≡ true
    by true q e rest = let same : bound ≡ p = cc in subst (λ x. is_number (key x) k ≡ true) same q
    by false q e rest = rest e

number_is : (o : Option ℕ) (k : ℕ) → is_number o k ≡ true → o ≡ Some k
number_is None k e = absurd (false≢true e)
number_is (Some j) k e = ap Some (eqb-true j k e)

module _ (key : ℕ → Option ℕ) (bound keys : ℕ) (column : List (Option ℕ)) (h : AreLast key bound keys column) where
  at_entry : (k p : ℕ) → slice_index_or column k None ≡ Some p → key p ≡ Some k
  at_entry k p e = elim (cases_lt k keys) [
    | inl low ↦ number_is (key p) k (last_has key bound k p (sym (h.each k low) ∙ e))
    | inr past ↦ absurd (none (sym (get_or_past column k None (let c = h.count in omega (arith, c, past))) ∙ e))
  ]
    where
      none : None ≡ Some p → ⊥
      none f = cc

  -- so a number that an entry has is one with a key
  pub has_key : (o : Option ℕ) (p : ℕ) → entry_if column o ≡ Some p → (k : ℕ) × (key p ≡ Some k)
  has_key None p e = absurd cc
  has_key (Some k) p e = (k, at_entry k p e)
