-- A law of the events of names.
use Rattle.std.specs.Prelude.{ℕ, List, length}
use Rattle.cr_tokens.specs.declared.token.Token.{Token}
use Rattle.cr_syntax.specs.declared.node.Node.{Node}
use Rattle.cr_scopes_events.specs.Events.{events_of}
use Rattle.cr_scopes_typedef_names.specs.Tellings.Tellings.{Telling, AllNames}

-- each event of a name is told by a node that declares it or uses it
abbrev pub NamesAreToldByNodes : Type 0
NamesAreToldByNodes = (tokens : List Token) (nodes : List Node) (items : List ℕ) → AllNames (Telling nodes) (events_of tokens nodes items)
