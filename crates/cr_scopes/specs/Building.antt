-- How the entities are gathered from what tokens stand for.
use Rattle.std.specs.Prelude.{◌≡◌, ℕ, zero, suc, ◌<◌, List, Option, None, Some, length, slice_get, slice_index_or, if◌then◌else◌}
use Rattle.cr_scopes.specs.declared.names.Entity.{Entity}
use Rattle.cr_scopes.specs.declared.told.Told.{Told}
use Rattle.cr_scopes.specs.Resolved.{begins, count_of, nobody, with_token, is_number}

-- what tokens stand for, from a row
abbrev pub told_in : List (Option Told) → ℕ → Option Told
told_in rows t = slice_index_or rows t None

-- which of the first k tokens begin an entity, each with its number, and how many do
pub record AreBegun (at : ℕ → Option Told) (numbers : List (Option ℕ)) (count k : ℕ) : Type 0 where
  pub whole : length numbers ≡ k
  pub each : (t : ℕ) → t < k → slice_index_or numbers t None ≡ (if begins (at t) t then Some (count_of at t) else None)
  pub total : count ≡ count_of at k

abbrev pub number_in : List (Option ℕ) → Option Told → Option ℕ
number_in begun None = None
number_in begun (Some x) = slice_index_or begun x.first None

-- the number of the entity of each of the first k tokens
pub record AreNumbered (at : ℕ → Option Told) (begun of : List (Option ℕ)) (k : ℕ) : Type 0 where
  pub whole : length of ≡ k
  pub each : (t : ℕ) → t < k → slice_index_or of t None ≡ number_in begun (at t)

-- entity j, of the first tokens, where the numbers are given
abbrev pub filled_of : (ℕ → Option Told) → List (Option ℕ) → ℕ → ℕ → Entity
filled_of at of zero j = nobody
filled_of at of (suc t) j = if is_number (slice_index_or of t None) j then with_token t (at t) (filled_of at of t j) else filled_of at of t j

pub record AreFilled (at : ℕ → Option Told) (of : List (Option ℕ)) (entities : List Entity) (count k : ℕ) : Type 0 where
  pub whole : length entities ≡ count
  pub each : (j : ℕ) → j < count → slice_get entities j ≡ Some (filled_of at of k j)

-- a token is put to the entity of a number
pub record HasAdded (number : Option ℕ) (token : ℕ) (what : Option Told) (old new : List Entity) : Type 0 where
  pub whole : length new ≡ length old
  pub each : (j : ℕ) (entity : Entity) → slice_get old j ≡ Some entity
      → slice_get new j ≡ Some (if is_number number j then with_token token what entity else entity)
