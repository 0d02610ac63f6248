-- Where what tokens name is declared and used (C11 6.2.1).
use Rattle.std.specs.Prelude.{ℕ, ◌+◌, ◌-◌, Bool, not, ◌&&◌, ◌||◌, ◌==◌, ◌≡◌, nat_le, true, List, [], Option, None, Some, slice_index_or}
use Rattle.std.specs.List.{list_all, list_any, range_with_len}
use Rattle.cr_scopes.specs.declared.names.Entity.{Entity}
use Rattle.cr_scopes.specs.declared.names.Names.{Names}
use Rattle.cr_scopes.specs.Resolved.{nobody}

-- the entity of a number; one that isn't there has no token
abbrev pub entity_at : Names → ℕ → Entity
entity_at names at = slice_index_or names.entities at nobody

-- the number of the entity in whose lists a token stands
abbrev pub number_of : Names → ℕ → Option ℕ
number_of names token = slice_index_or names.of_token token None

abbrev pub uses_by : Names → Option ℕ → List ℕ
uses_by names None = []
uses_by names (Some at) = (entity_at names at).uses

abbrev pub declared_by : Names → Option ℕ → List ℕ
declared_by names None = []
declared_by names (Some at) = (entity_at names at).declared

-- the tokens that use what a token names, and those that declare it
abbrev pub uses_of : Names → ℕ → List ℕ
uses_of names token = uses_by names (number_of names token)

abbrev pub declared_of : Names → ℕ → List ℕ
declared_of names token = declared_by names (number_of names token)

abbrev pub declares : Names → ℕ → Bool
declares names token = list_any (λ declared. declared == token) (declared_of names token)

-- a token stands from one to another
abbrev pub is_within : ℕ → ℕ → ℕ → Bool
is_within first last token = nat_le first token && nat_le token last

-- what a token names has no use but from one token to another
abbrev pub has_no_use_outside : Names → ℕ → ℕ → ℕ → Bool
has_no_use_outside names first last token = list_all (is_within first last) (uses_of names token)

-- where a token declares something, that has no use outside
abbrev pub is_own : Names → ℕ → ℕ → ℕ → Bool
is_own names first last token = not (declares names token) || has_no_use_outside names first last token

-- nothing that is declared from one token to another has a use outside
abbrev pub are_own : Names → ℕ → ℕ → Bool
are_own names first last = list_all (is_own names first last) (range_with_len first (last + 1 - first))

-- two tokens, if there are any, stand from one to another
abbrev pub fits : ℕ → ℕ → Option (ℕ × ℕ) → Bool
fits first last None = true
fits first last (Some outer) = nat_le first outer.0 && nat_le outer.1 last

-- by these pairs, one for each token, it is told whether what a token declares has a use outside
abbrev pub AreOuter : Names → List (Option (ℕ × ℕ)) → Type 0
AreOuter names outer = (first last token : ℕ) → fits first last (slice_index_or outer token None) ≡ is_own names first last token
