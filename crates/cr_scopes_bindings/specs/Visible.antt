-- The declaration that is visible where a name is written (C11 6.2.1p4), by looking back over the events before that place.
use Rattle.std.specs.Prelude.{◌==◌, ◌&&◌, ◌||◌, ℕ, zero, suc, Bool, true, false, not, Option, None, Some, List, [], ◌∷◌, length, slice_index_or, slice_set, if◌then◌else◌}
use Rattle.cr_scopes_events.specs.declared.event.Event.{Event}
use Rattle.cr_scopes_events.specs.declared.event.Event.TheVariants.{Node, Opens, Closes, Name, Member}
use Rattle.cr_scopes.specs.declared.scope.Space.TheVariants.{Ordinary}
use Rattle.cr_scopes.specs.Looking.{stands_in}
use Rattle.cr_scopes.specs.Resolved.{past_of}
use Rattle.cr_scopes_bindings.specs.declared.scoped.Binding.{Binding}
use Rattle.cr_scopes_bindings.specs.Stacks.{found_in}
use Rattle.cr_rows.specs.Columns.{AreOf}

-- Looking back over the events before a place, the latest first, and over so many scopes that ended: the latest declaration of an ordinary
-- identifier of this name, in whatever scope is open there.
abbrev pub latest : (ℕ → ℕ) → ℕ → ℕ → List Event → Option ℕ
latest name s d [] = None
latest name s d (Closes ∷ past) = latest name s (suc d) past
latest name s zero (Opens ∷ past) = latest name s zero past
latest name s (suc d) (Opens ∷ past) = latest name s d past
latest name s zero (Name t r ∷ past) = if stands_in Ordinary r && (name t == s) then Some t else latest name s zero past
latest name s (suc d) (Name t r ∷ past) = latest name s (suc d) past
latest name s d (Member t k ∷ past) = latest name s d past
latest name s d (Node i ∷ past) = latest name s d past

-- an event names the token
abbrev pub is_named : ℕ → List Event → Bool
is_named token [] = false
is_named token (Name t r ∷ past) = (token == t) || is_named token past
is_named token (Opens ∷ past) = is_named token past
is_named token (Closes ∷ past) = is_named token past
is_named token (Member t k ∷ past) = is_named token past
is_named token (Node i ∷ past) = is_named token past

-- Where a token stands, by its first event: the declaration of its name that is visible directly before it. Where it is used that is what
-- it stands for; where it is declared, an earlier declaration (6.2.2p4, 6.2.7p4). A definition's parameters are told once more in its block,
-- behind the definition's own name, which isn't in scope yet where they are written (6.2.1p7).
abbrev pub visible : (ℕ → ℕ) → List Event → ℕ → Option ℕ
visible name [] token = None
visible name (Name t r ∷ past) token = if (token == t) && not (is_named token past) then latest name (name t) zero past else visible name past token
visible name (Opens ∷ past) token = visible name past token
visible name (Closes ∷ past) token = visible name past token
visible name (Member t k ∷ past) token = visible name past token
visible name (Node i ∷ past) token = visible name past token

abbrev pub AreVisible : (ℕ → ℕ) → List Event → ℕ → List (Option ℕ) → Type 0
AreVisible name events tokens column = AreOf (visible name (past_of events (length events))) None tokens column

-- the tokens that are named by so many events are marked
abbrev pub marked_by : Event → List Bool → List Bool
marked_by (Name t r) marks = slice_set marks t true
marked_by Opens marks = marks
marked_by Closes marks = marks
marked_by (Member t k) marks = marks
marked_by (Node i) marks = marks

-- what is known of the tokens with one event more, where these are marked
abbrev pub seen_by : (ℕ → ℕ) → Event → List Binding → List Bool → List (Option ℕ) → List (Option ℕ)
seen_by name (Name t r) stack marks column = if slice_index_or marks t false then column else slice_set column t (found_in stack (name t))
seen_by name Opens stack marks column = column
seen_by name Closes stack marks column = column
seen_by name (Member t k) stack marks column = column
seen_by name (Node i) stack marks column = column
