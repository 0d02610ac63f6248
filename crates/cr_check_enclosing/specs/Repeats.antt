-- Which marks of nodes stood in the text before.
use Rattle.std.specs.Prelude.{◌≡◌, ℕ, zero, suc, ◌<◌, ◌&&◌, ◌||◌, List, Bool, false, Option, Some, None, length, nat_lt, slice_get, slice_index_or}
use Rattle.cr_syntax.specs.declared.node.Node.{Node}
use Rattle.cr_syntax.specs.Numbered.{first_if}

-- where a node stands: its first token
abbrev pub place_of : List Node → ℕ → ℕ
place_of nodes i = first_if (slice_get nodes i)

-- an entry has this mark
abbrev pub is_mark : {K : Type 0} → (K → K → Bool) → K → Option K → Bool
is_mark eq mark None = false
is_mark eq mark (Some other) = eq other mark

-- a place is there, and before a token
abbrev pub is_below : Option ℕ → ℕ → Bool
is_below None token = false
is_below (Some place) token = nat_lt place token

-- the entry has a mark of which the test holds
abbrev pub has_mark : {K : Type 0} → (K → Bool) → Option K → Bool
has_mark test None = false
has_mark test (Some mark) = test mark

-- of so many nodes one has this mark and stands before a token
abbrev pub has_before : {K : Type 0} → (K → K → Bool) → (ℕ → Option K) → (ℕ → ℕ) → ℕ → ℕ → K → Bool
has_before eq mark place zero token q = false
has_before eq mark place (suc i) token q = has_before eq mark place i token q || (nat_lt (place i) token && is_mark eq q (mark i))

-- the node has a mark that one of so many nodes has before it in the text
abbrev pub repeats_at : {K : Type 0} → (K → K → Bool) → (ℕ → Option K) → (ℕ → ℕ) → ℕ → ℕ → Bool
repeats_at eq mark place count i = has_mark (has_before eq mark place count (place i)) (mark i)

abbrev pub mark_in : {K : Type 0} → List (Option K) → ℕ → Option K
mark_in marks i = slice_index_or marks i None

-- for each node whether it repeats one before it
pub record AreRepeated {K : Type 0} (eq : K → K → Bool) (marks : List (Option K)) (place : ℕ → ℕ) (repeated : List Bool) : Type 0 where
  pub count : length repeated ≡ length marks
  pub each : (i : ℕ) → i < length marks → slice_index_or repeated i false ≡ repeats_at eq (mark_in marks) place (length marks) i
