-- Tokens that are spelled alike have one name.
use Rattle.std.proofs.Common.{◌≡◌, ℕ, zero, suc, ◌<◌, List, Option, None, Some, length, inl, inr, refl, sym, ap, ◌∙◌, arith, if◌then◌else◌}
use Rattle.std.specs.Str.{bytes_eq}
use Rattle.std.proofs.lemmas.Bool.{cases_lt, lt-ltb}
use Rattle.std.proofs.lemmas.Slice.Eq.{bytes_eq-Decides}
use Rattle.std.proofs.lemmas.Option.{same_Some}
use Rattle.cr_tokens.specs.declared.token.Token.{Token}
use Rattle.cr_scopes.specs.Looking.{or_else, or_given}
use Rattle.cr_scopes.specs.Spelled.{spelling_of, first_spelled, name_of}

or_first : (o : Option ℕ) (t : ℕ) → or_else o (Some t) ≡ Some (or_given o t)
or_first None t = refl
or_first (Some x) t = refl

module _ (file : List ℕ) (tokens : List Token) where
  -- the first token that is spelled so, of all up to one that is
  first_there : (s : List ℕ) (t n : ℕ) → spelling_of file tokens t ≡ s → t < n → first_spelled file tokens s n ≡ Some (or_given (first_spelled file tokens s t) t)
  first_there s t zero e less = absurd (omega (arith, less))
  first_there s t (suc n) e less = elim (cases_lt t n) [
    | inl more ↦ ap (λ o. or_else o (if bytes_eq s (spelling_of file tokens n) then Some n else None)) (first_there s t n e more)
    | inr le ↦
        (let same : n ≡ t = omega (arith, less, le) in
        ap (λ m. first_spelled file tokens s (suc m)) same
        ∙ ap (λ b. or_else (first_spelled file tokens s t) (if b then Some t else None)) ((bytes_eq-Decides s (spelling_of file tokens t)).1 (sym e)) ∙ or_first (first_spelled file tokens s t) t)
  ]

  pub alike : (t u : ℕ) → t < length tokens → u < length tokens → spelling_of file tokens t ≡ spelling_of file tokens u → name_of file tokens t ≡ name_of file tokens u
  alike t u low less e =
      let s = spelling_of file tokens u in
      let one = first_there s t (length tokens) e low in
      let other = first_there s u (length tokens) refl less in
      ap (λ b. if b then or_given (first_spelled file tokens (spelling_of file tokens t) t) t else t) (lt-ltb t (length tokens) low)
      ∙ ap (λ x. or_given (first_spelled file tokens x t) t) e ∙ same_Some (or_given (first_spelled file tokens s t) t) (or_given (first_spelled file tokens s u) u) (sym one ∙ other)
      ∙ sym (ap (λ b. if b then or_given (first_spelled file tokens s u) u else u) (lt-ltb u (length tokens) less))
