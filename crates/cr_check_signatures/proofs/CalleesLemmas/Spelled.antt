-- What is visible where a name is written is spelled like it (C11 6.2.1p4).
use Rattle.std.proofs.Common.{◌≡◌, ℕ, zero, suc, ◌==◌, Bool, true, false, not, ◌&&◌, List, [], ◌∷◌, Option, None, Some, length, nat_lt, slice_get, refl, sym, ap, ◌∙◌, if◌then◌else◌}
use Rattle.std.specs.Str.{bytes_eq}
use Rattle.std.proofs.lemmas.Bool.{and_parts, eqb-true}
use Rattle.std.proofs.lemmas.Slice.Eq.{bytes_eq-Decides}
use Rattle.cr_tokens.specs.declared.token.Token.{Token}
use Rattle.cr_scopes_events.specs.declared.event.Event.{Event}
use Rattle.cr_scopes_events.specs.declared.event.Event.TheVariants.{Node, Opens, Closes, Name, Member}
use Rattle.cr_scopes.specs.declared.scope.Space.TheVariants.{Ordinary}
use Rattle.cr_scopes.specs.Looking.{stands_in, or_else, or_given}
use Rattle.cr_scopes.specs.Spelled.{spelling_if, spelling_of, first_spelled, name_of}
use Rattle.cr_scopes_bindings.specs.Visible.{is_named, latest, visible}
use Rattle.cr_check_expressions.specs.Known as expressions

module _ (name : ℕ → ℕ) where
  latest_name : (s d : ℕ) (past : List Event) (x : ℕ) → latest name s d past ≡ Some x → name x ≡ s
  latest_name s d [] x e = absurd cc
  latest_name s d (Closes ∷ past) x e = latest_name s (suc d) past x e
  latest_name s zero (Opens ∷ past) x e = latest_name s zero past x e
  latest_name s (suc d) (Opens ∷ past) x e = latest_name s d past x e
  latest_name s zero (Name t r ∷ past) x e = by (stands_in Ordinary r && (name t == s)) refl e (λ f. latest_name s zero past x f)
    where
      by : (b : Bool) → (stands_in Ordinary r && (name t == s)) ≡ b → (if b then Some t else latest name s zero past) ≡ Some x → (latest name s zero past ≡ Some x → name x ≡ s) → name x ≡ s
      by true q e rest = let same : t ≡ x = cc in ap name (sym same) ∙ eqb-true (name t) s (and_parts (stands_in Ordinary r) (name t == s) q).1
      by false q e rest = rest e
  latest_name s (suc d) (Name t r ∷ past) x e = latest_name s (suc d) past x e
  latest_name s d (Member t k ∷ past) x e = latest_name s d past x e
  latest_name s d (Node i ∷ past) x e = latest_name s d past x e

  pub visible_name : (past : List Event) (token x : ℕ) → visible name past token ≡ Some x → name x ≡ name token
  visible_name [] token x e = absurd cc
  visible_name (Name t r ∷ past) token x e = by ((token == t) && not (is_named token past)) refl e (λ f. visible_name past token x f)
    where
      by : (b : Bool) → ((token == t) && not (is_named token past)) ≡ b → (if b then latest name (name t) zero past else visible name past token) ≡ Some x → (visible name past token ≡ Some x → name x ≡ name token) → name x ≡ name token
      by true q e rest = latest_name (name t) zero past x e ∙ ap name (sym (eqb-true token t (and_parts (token == t) (not (is_named token past)) q).0))
      by false q e rest = rest e
  visible_name (Opens ∷ past) token x e = visible_name past token x e
  visible_name (Closes ∷ past) token x e = visible_name past token x e
  visible_name (Member t k ∷ past) token x e = visible_name past token x e
  visible_name (Node i ∷ past) token x e = visible_name past token x e

-- ---- names and spellings

module _ (file : List ℕ) (tokens : List Token) where
  first_is : (s : List ℕ) (t x : ℕ) → first_spelled file tokens s t ≡ Some x → s ≡ spelling_of file tokens x
  first_is s zero x e = absurd cc
  first_is s (suc t) x e = by (first_spelled file tokens s t) refl (bytes_eq s (spelling_of file tokens t)) refl e (λ f. first_is s t x f)
    where
      by : (o : Option ℕ) → first_spelled file tokens s t ≡ o → (b : Bool) → bytes_eq s (spelling_of file tokens t) ≡ b → or_else o (if b then Some t else None) ≡ Some x
          → (first_spelled file tokens s t ≡ Some x → s ≡ spelling_of file tokens x) → s ≡ spelling_of file tokens x
      by (Some y) p b q e rest = rest (p ∙ e)
      by None p true q e rest = let same : t ≡ x = cc in (bytes_eq-Decides s (spelling_of file tokens t)).0 q ∙ ap (spelling_of file tokens) same
      by None p false q e rest = absurd cc

  name_spelled : (t : ℕ) → spelling_of file tokens t ≡ spelling_of file tokens (name_of file tokens t)
  name_spelled t = by (nat_lt t (length tokens)) (first_spelled file tokens (spelling_of file tokens t) t) refl
    where
      by : (b : Bool) (o : Option ℕ) → first_spelled file tokens (spelling_of file tokens t) t ≡ o → spelling_of file tokens t ≡ spelling_of file tokens (if b then or_given o t else t)
      by false o p = refl
      by true None p = refl
      by true (Some x) p = first_is (spelling_of file tokens t) t x p

  spelled_alike : (t : ℕ) → expressions.spelling_of file tokens t ≡ spelling_of file tokens t
  spelled_alike t = by (slice_get tokens t)
    where
      by : (o : Option Token) → expressions.spelling_if file o ≡ spelling_if file o
      by None = refl
      by (Some token) = refl

  -- of one name is one spelling
  pub same_spelling : (a b : ℕ) → name_of file tokens a ≡ name_of file tokens b → expressions.spelling_of file tokens a ≡ expressions.spelling_of file tokens b
  same_spelling a b e = spelled_alike a ∙ name_spelled a ∙ ap (spelling_of file tokens) e ∙ sym (name_spelled b) ∙ sym (spelled_alike b)
