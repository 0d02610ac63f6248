-- What a declarator declares (C11 6.7.6).
use Rattle.std.specs.Prelude.{◌≡◌, ℕ, ◌<◌, List, [], ◌∷◌, Option, None, Some, slice_get, nat_lt, if◌then◌else◌}
use Rattle.cr_syntax.specs.declared.node.Kind.{Kind}
use Rattle.cr_syntax.specs.declared.node.Kind.TheVariants.{NameDeclarator, GroupDeclarator, PointerDeclarator, ArrayDeclarator, FunctionDeclarator}
use Rattle.cr_syntax.specs.declared.node.Node.{Node}
use Rattle.cr_scopes_events.specs.declared.declarator.Derivation.{Derivation}
use Rattle.cr_scopes_events.specs.declared.declarator.Derivation.TheVariants.{Nothing, Function, Other}
use Rattle.cr_scopes_events.specs.declared.declarator.Declarator.{Declarator}
use Rattle.cr_scopes_events.specs.declared.declarator.Descent.{Descent}
use Rattle.cr_scopes_events.specs.declared.declarator.Descent.TheVariants.{Ends, Goes}
use Rattle.cr_scopes_events.specs.Values.{before, value_at}

-- what is no declarator declares nothing
abbrev pub nowhere : Declarator
nowhere = record { name = None; next = Nothing }

-- the derivation next to the name, of one and those inside it
abbrev pub innermost : Derivation → Derivation → Derivation
innermost outer Nothing = outer
innermost outer (Function node) = Function node
innermost outer Other = Other

-- what a declarator declares with one derivation more around it
abbrev pub derived : Derivation → Declarator → Declarator
derived outer inner = record { name = inner.name; next = innermost outer inner.next }

-- what the first part declares
abbrev pub in_first : (ℕ → Declarator) → List ℕ → Declarator
in_first at [] = nowhere
in_first at (part ∷ parts) = at part

-- What a node declares, by what its parts declare: an identifier itself (6.7.6p4), or what its inner declarator declares, with
-- a pointer (6.7.6.1), an array (6.7.6.2) or a function (6.7.6.3) derived around it.
abbrev pub declared_by : Kind → (ℕ → Declarator) → ℕ → Node → Declarator
declared_by NameDeclarator at i node = record { name = Some node.first; next = Nothing }
declared_by GroupDeclarator at i node = derived Nothing (in_first at node.parts)
declared_by PointerDeclarator at i node = derived Other (in_first at node.parts)
declared_by ArrayDeclarator at i node = derived Other (in_first at node.parts)
declared_by FunctionDeclarator at i node = derived (Function i) (in_first at node.parts)
declared_by kind at i node = nowhere

abbrev pub declared_if : Option Node → (ℕ → Declarator) → ℕ → Declarator
declared_if None at i = nowhere
declared_if (Some node) at i = declared_by node.kind at i node

abbrev pub declarator_rule : List Node → (ℕ → Declarator) → ℕ → Declarator
declarator_rule nodes at i = declared_if (slice_get nodes i) at i

-- what the node of a number declares
unfoldable pub declarator_of : List Node → ℕ → Declarator
declarator_of nodes i = value_at nowhere (declarator_rule nodes) i

-- Each node declares what the rule makes of the nodes before it.
abbrev pub DeclaratorsAreRuled : Type 0
DeclaratorsAreRuled = (nodes : List Node) (i : ℕ) → declarator_of nodes i ≡ declarator_rule nodes (before nowhere i (declarator_of nodes)) i

-- A step towards the name says what is declared, or where to look and what is derived around that.
abbrev pub IsDescent : List Node → ℕ → Descent → Type 0
IsDescent nodes i (Ends d) = declarator_of nodes i ≡ d
IsDescent nodes i (Goes outer part) = (declarator_of nodes i ≡ derived outer (declarator_of nodes part)) × (part < i)

abbrev pub descent_into : Derivation → ℕ → List ℕ → Descent
descent_into outer i [] = Ends (derived outer nowhere)
descent_into outer i (part ∷ parts) = if nat_lt part i then Goes outer part else Ends (derived outer nowhere)

abbrev pub descent_by : Kind → ℕ → Node → Descent
descent_by NameDeclarator i node = Ends (record { name = Some node.first; next = Nothing })
descent_by GroupDeclarator i node = descent_into Nothing i node.parts
descent_by PointerDeclarator i node = descent_into Other i node.parts
descent_by ArrayDeclarator i node = descent_into Other i node.parts
descent_by FunctionDeclarator i node = descent_into (Function i) i node.parts
descent_by kind i node = Ends nowhere
