-- The first and the last uses of what tokens declare, entity by entity.
use Rattle.std.proofs.Common.{◌≡◌, ℕ, ◌+◌, ◌<◌, ◌≤◌, ◌⊎◌, inl, inr, ◌==◌, Bool, true, false, not, ◌&&◌, ◌||◌, cond, Option, None, Some, length, nat_lt, refl, sym, ap, subst, ◌∙◌, arith}
use Rattle.std.specs.List.{list_all, list_any}
use Rattle.std.proofs.lemmas.Bool.{true≢false, cases_lt, cases_order, eq-eqb, le-ltb, lt-ltb, ne_eqb}
use Rattle.std.proofs.lemmas.List.{get_or_past}
use Rattle.cr_scopes.specs.declared.names.Entity.{Entity}
use Rattle.cr_scopes.specs.declared.names.Names.{Names}
use Rattle.cr_scopes.specs.Resolved.{is_number, nobody}
use Rattle.pass_names.specs.Reach.{declared_by, entity_at, fits, is_within, uses_by}

-- what is known of a token after so many entities: that it declares something used outside is known of those alone
abbrev pub own_by : Names → Option ℕ → ℕ → ℕ → ℕ → ℕ → Bool
own_by names None count first last token = true
own_by names (Some at) count first last token =
    not (nat_lt at count && list_any (λ declared. declared == token) (entity_at names at).declared) || list_all (is_within first last) (entity_at names at).uses

here : {X : Type 0} (f : X → Bool) (outer old : X) (same low lower declares within : Bool) → same ≡ true → low ≡ false → lower ≡ true
    → f old ≡ (not (low && declares) || within) → f outer ≡ within → f (cond (same && declares) outer old) ≡ (not (lower && declares) || within)
here f outer old true false true true within s l r before all = all
here f outer old true false true false within s l r before all = before
here f outer old false low lower declares within s l r before all = absurd (true≢false (sym s))
here f outer old true true lower declares within s l r before all = absurd (true≢false l)
here f outer old true false false declares within s l r before all = absurd (true≢false (sym r))

there : {X : Type 0} (f : X → Bool) (outer old : X) (same low lower other declares within : Bool) → same ≡ false → low ≡ lower
    → f old ≡ (not (low && declares) || within) → f (cond (same && other) outer old) ≡ (not (lower && declares) || within)
there f outer old false low lower other declares within s l before = before ∙ ap (λ x. not (x && declares) || within) l
there f outer old true low lower other declares within s l before = absurd (true≢false s)

module _ (names : Names) (count first last token : ℕ) (old outer : Option (ℕ × ℕ)) where
  abbrev declares_at : ℕ → Bool
  declares_at at = list_any (λ declared. declared == token) (entity_at names at).declared

  abbrev within_at : ℕ → Bool
  within_at at = list_all (is_within first last) (entity_at names at).uses

  abbrev After : Option ℕ → Type 0
  After n = fits first last old ≡ own_by names n count first last token
      → fits first last (cond (is_number n count && declares_at count) outer old) ≡ own_by names n (count + 1) first last token

  own_here : fits first last outer ≡ within_at count → After (Some count)
  own_here all before = here (fits first last) outer old (count == count) (nat_lt count count) (nat_lt count (count + 1)) (declares_at count) (within_at count)
      (eq-eqb count count refl) (le-ltb count count (omega arith)) (lt-ltb count (count + 1) (omega arith)) before all

  own_there : (at : ℕ) → (at == count) ≡ false → nat_lt at count ≡ nat_lt at (count + 1) → After (Some at)
  own_there at other same before = there (fits first last) outer old (at == count) (nat_lt at count) (nat_lt at (count + 1)) (declares_at count) (declares_at at) (within_at at)
      other same before

  more_by : (at : ℕ) → fits first last outer ≡ within_at count → (at ≡ count) ⊎ ((at < count) ⊎ (count < at)) → After (Some at)
  more_by at all (inl same) = subst (λ k. After (Some k)) (sym same) (own_here all)
  more_by at all (inr (inl less)) =
      own_there at (ne_eqb at count (λ same. omega (arith, less, same))) (lt-ltb at count less ∙ sym (lt-ltb at (count + 1) (omega (arith, less))))
  more_by at all (inr (inr past)) =
      own_there at (ne_eqb at count (λ same. omega (arith, past, same))) (le-ltb at count (omega (arith, past)) ∙ sym (le-ltb at (count + 1) (omega (arith, past))))

  -- one entity more
  pub own_more : (n : Option ℕ) → fits first last outer ≡ within_at count → After n
  own_more None all before = before
  own_more (Some at) all before = more_by at all (cases_order at count) before

-- before the first entity
pub own_none : (names : Names) (n : Option ℕ) (first last token : ℕ) → own_by names n 0 first last token ≡ true
own_none names None first last token = refl
own_none names (Some at) first last token =
    ap (λ (b : Bool). not (b && list_any (λ declared. declared == token) (entity_at names at).declared) || list_all (is_within first last) (entity_at names at).uses)
    (le-ltb at 0 (omega arith))

abbrev owns : ℕ → ℕ → ℕ → Bool → Entity → Bool
owns first last token below entity = not (below && list_any (λ declared. declared == token) entity.declared) || list_all (is_within first last) entity.uses

-- after the last one
pub own_all : (names : Names) (n : Option ℕ) (count first last token : ℕ) → length names.entities ≤ count
    → own_by names n count first last token ≡ (not (list_any (λ declared. declared == token) (declared_by names n)) || list_all (is_within first last) (uses_by names n))
own_all names None count first last token h = refl
own_all names (Some at) count first last token h = elim (cases_lt at count) [
  | inl low ↦ ap (λ (b : Bool). owns first last token b (entity_at names at)) (lt-ltb at count low)
  | inr past ↦ ap (λ (b : Bool). owns first last token b (entity_at names at)) (le-ltb at count past)
      ∙ sym (ap (λ (entity : Entity). owns first last token true entity) (get_or_past names.entities at nobody (omega (arith, h, past))))
]
