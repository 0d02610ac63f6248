-- Names are those of spellings.
use Rattle.std.proofs.Common.{◌≡◌, ◌≢◌, ℕ, zero, suc, ◌<◌, ◌≤◌, ◌==◌, Bool, true, false, List, [], Option, None, Some, length, slice_get, nat_lt, refl, sym, ap, subst, ◌∙◌, inl, inr, arith, if◌then◌else◌}
use Rattle.std.specs.Str.{bytes_eq}
use Rattle.std.proofs.lemmas.Slice.Eq.{bytes_eq-Decides}
use Rattle.std.proofs.lemmas.Bool.{true≢false, cases_lt, eq-eqb, ne_eqb, cond-true, cond-false, lt-ltb, le-ltb}
use Rattle.std.proofs.lemmas.Option.{slice_get_within}
use Rattle.cr_tokens.specs.declared.token.Token.{Token}
use Rattle.cr_scopes.specs.Looking.{or_else, or_given}
use Rattle.cr_scopes.specs.Spelled.{spelling_if, spelling_of, first_spelled, name_of}
use Rattle.cr_scopes_typedef_names.specs.Effects.Laws

module _ (file : List ℕ) (tokens : List Token) where
  abbrev spelling : ℕ → List ℕ
  spelling t = spelling_of file tokens t

  abbrev first : List ℕ → ℕ → Option ℕ
  first s k = first_spelled file tokens s k

  -- what is found is one of those, with that spelling
  found : (s : List ℕ) (k m : ℕ) → first s k ≡ Some m → (m < k) × (s ≡ spelling m)
  found s zero m e = absurd cc
  found s (suc k) m e = by (first s k) refl (λ n q. found s k n q) e
    where
      here : (b : Bool) → bytes_eq s (spelling k) ≡ b → (if b then Some k else None) ≡ Some m → (m < suc k) × (s ≡ spelling m)
      here true q e = let is : k ≡ m = cc in (omega (arith, is), (bytes_eq-Decides s (spelling k)).0 q ∙ ap spelling is)
      here false q e = absurd cc

      by : (o : Option ℕ) → first s k ≡ o → ((n : ℕ) → first s k ≡ Some n → (n < k) × (s ≡ spelling n)) → or_else o (if bytes_eq s (spelling k) then Some k else None) ≡ Some m → (m < suc k) × (s ≡ spelling m)
      by None q f e = here (bytes_eq s (spelling k)) refl e
      by (Some n) q f e = let is : Some n ≡ Some m = e in let r = f m (q ∙ is) in (omega (arith, r.0), r.1)

  -- it stays
  stays_to : (s : List ℕ) (k l m : ℕ) → k ≤ l → first s k ≡ Some m → first s l ≡ Some m
  stays_to s k zero m le e = let is : k ≡ 0 = omega (arith, le) in subst (λ x. first s x ≡ Some m) is e
  stays_to s k (suc l) m le e = elim (cases_lt k (suc l)) [
    | inl less ↦ ap (λ o. or_else o (if bytes_eq s (spelling l) then Some l else None)) (stays_to s k l m (omega (arith, less)) e)
    | inr ge ↦ (let is : k ≡ suc l = omega (arith, le, ge) in subst (λ x. first s x ≡ Some m) is e)
  ]

  -- the first token that is spelled like a token
  own : (t : ℕ) → first (spelling t) (suc t) ≡ Some (or_given (first (spelling t) t) t)
  own t = by (first (spelling t) t)
    where
      by : (o : Option ℕ) → or_else o (if bytes_eq (spelling t) (spelling t) then Some t else None) ≡ Some (or_given o t)
      by None = ap (λ b. if b then Some t else None) ((bytes_eq-Decides (spelling t) (spelling t)).1 refl)
      by (Some n) = refl

  name_is : (t : ℕ) → t < length tokens → first (spelling t) (length tokens) ≡ Some (name_of file tokens t)
  name_is t low =
      stays_to (spelling t) (suc t) (length tokens) _ (omega (arith, low)) (own t)
      ∙ ap Some (sym (cond-true (nat_lt t (length tokens)) (or_given (first (spelling t) t) t) t (lt-ltb t (length tokens) low)))

  beyond_name : (t : ℕ) → length tokens ≤ t → name_of file tokens t ≡ t
  beyond_name t high = cond-false (nat_lt t (length tokens)) (or_given (first (spelling t) t) t) t (le-ltb t (length tokens) high)

  beyond_spelling : (t : ℕ) → length tokens ≤ t → spelling t ≡ []
  beyond_spelling t high = by (slice_get tokens t) refl
    where
      by : (o : Option Token) → slice_get tokens t ≡ o → spelling_if file o ≡ []
      by None q = refl
      by (Some x) q = absurd (let w = slice_get_within tokens t x q in omega (arith, w, high))

  module _ (u : ℕ) (low : u < length tokens) (some : spelling u ≢ []) where
    abbrev Alike : ℕ → Type 0
    Alike t = (name_of file tokens t == name_of file tokens u) ≡ bytes_eq (spelling u) (spelling t)

    inside : (t : ℕ) → t < length tokens → Alike t
    inside t lt = by (bytes_eq (spelling u) (spelling t)) refl
      where
        by : (b : Bool) → bytes_eq (spelling u) (spelling t) ≡ b → (name_of file tokens t == name_of file tokens u) ≡ b
        by true q =
            let same : spelling u ≡ spelling t = (bytes_eq-Decides (spelling u) (spelling t)).0 q in
            let is : Some (name_of file tokens t) ≡ Some (name_of file tokens u) = sym (name_is t lt) ∙ ap (λ s. first s (length tokens)) (sym same) ∙ name_is u low in
            eq-eqb (name_of file tokens t) (name_of file tokens u) cc
        by false q = ne_eqb (name_of file tokens t) (name_of file tokens u) (λ e.
            let a = (found (spelling t) (length tokens) (name_of file tokens t) (name_is t lt)).1 in
            let b = (found (spelling u) (length tokens) (name_of file tokens u) (name_is u low)).1 in
            let same : spelling u ≡ spelling t = b ∙ ap spelling (sym e) ∙ sym a in
            true≢false (sym ((bytes_eq-Decides (spelling u) (spelling t)).1 same) ∙ q))

    outside : (t : ℕ) → length tokens ≤ t → Alike t
    outside t high = by (bytes_eq (spelling u) (spelling t)) refl
      where
        by : (b : Bool) → bytes_eq (spelling u) (spelling t) ≡ b → (name_of file tokens t == name_of file tokens u) ≡ b
        by true q = absurd (some ((bytes_eq-Decides (spelling u) (spelling t)).0 q ∙ beyond_spelling t high))
        by false q = ne_eqb (name_of file tokens t) (name_of file tokens u) (λ e.
            let a = (found (spelling u) (length tokens) (name_of file tokens u) (name_is u low)).0 in
            let b = beyond_name t high in
            omega (arith, a, b, e, high))

    spelled : (t : ℕ) → Alike t
    spelled t = elim (cases_lt t (length tokens)) [ inl lt ↦ inside t lt | inr ge ↦ outside t (omega (arith, ge)) ]

pub all_spelled : Laws.SpellingsAreNames
all_spelled file tokens token low some t = spelled file tokens token low some t
