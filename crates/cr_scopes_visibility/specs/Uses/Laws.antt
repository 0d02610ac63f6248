-- A law of names that are used.
use Rattle.std.specs.Prelude.{◌≡◌, ℕ, true, List, None, length}
use Rattle.cr_scopes_events.specs.declared.event.Event.{Event}
use Rattle.cr_scopes.specs.Resolved.{fault_at, past_of}
use Rattle.cr_scopes_visibility.specs.Uses.Uses.{is_use, Finds}

-- where no name is at fault, a name that is used sees a declaration that is told before it (6.2.1p4, p7)
abbrev pub UsesFindDeclarations : Type 0
UsesFindDeclarations = (name : ℕ → ℕ) (events : List Event) (token : ℕ) → ((k : ℕ) → fault_at name events k ≡ None) → is_use token (past_of events (length events)) ≡ true
    → Finds name token (past_of events (length events))
