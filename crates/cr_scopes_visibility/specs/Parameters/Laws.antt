-- Laws of parameters.
use Rattle.std.specs.Prelude.{ℕ, Bool, List, length}
use Rattle.cr_tokens.specs.declared.token.Token.{Token}
use Rattle.cr_syntax.specs.declared.node.Node.{Node}
use Rattle.cr_scopes_events.specs.Events.{events_of}
use Rattle.cr_scopes.specs.Resolved.{past_of}
use Rattle.cr_scopes_visibility.specs.Alone.Sight.{IsSeen}
use Rattle.cr_scopes_visibility.specs.Sight.Scopes.{IsApart}
use Rattle.cr_scopes_visibility.specs.Parameters.Definitions.{AreOwn, AreInside, AreOrdered, IsLone, AreWithin}

-- what is declared in the list of parameters or the body of a definition alone isn't in scope where a name is used that stands in neither (6.2.1p4)
abbrev pub ParametersStayInside : Type 0
ParametersStayInside = (tokens : List Token) (nodes : List Node) (items : List ℕ) (name : ℕ → ℕ) (definition list body : ℕ) (under : ℕ → Bool) (token site : ℕ)
    → AreOwn nodes definition list body → AreOrdered nodes → AreInside nodes items definition list body under → IsApart nodes under token site
    → IsSeen name token site (past_of (events_of tokens nodes items) (length (events_of tokens nodes items))) → ⊥

-- what is declared in the list of parameters of another declarator alone isn't in scope where a name is used that doesn't stand there: that is
-- function prototype scope (6.2.1p4)
abbrev pub ListsStayInside : Type 0
ListsStayInside = (tokens : List Token) (nodes : List Node) (items : List ℕ) (name : ℕ → ℕ) (list : ℕ) (under : ℕ → Bool) (token site : ℕ)
    → IsLone nodes list → AreOrdered nodes → AreWithin nodes items list under → IsApart nodes under token site
    → IsSeen name token site (past_of (events_of tokens nodes items) (length (events_of tokens nodes items))) → ⊥
