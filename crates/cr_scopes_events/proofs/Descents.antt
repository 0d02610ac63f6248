-- A step towards a declared name.
use Rattle.std.proofs.Common.{◌≡◌, ℕ, nat_lt, Bool, true, false, List, [], ◌∷◌, None, Some, slice_get, if◌then◌else◌, refl, ap, ◌∙◌}
use Rattle.std.proofs.lemmas.Bool.{ltb-true}
use Rattle.cr_syntax.specs.declared.node.Kind.{Kind}
use Rattle.cr_syntax.specs.declared.node.Kind.TheVariants.{GroupDeclarator, PointerDeclarator, ArrayDeclarator, FunctionDeclarator}
use Rattle.cr_syntax.specs.declared.node.Node.{Node}
use Rattle.cr_scopes_events.specs.declared.declarator.Derivation.{Derivation}
use Rattle.cr_scopes_events.specs.declared.declarator.Derivation.TheVariants.{Nothing, Function, Other}
use Rattle.cr_scopes_events.specs.declared.declarator.Declarator.{Declarator}
use Rattle.cr_scopes_events.specs.declared.declarator.Descent.TheVariants.{Ends, Goes}
use Rattle.cr_scopes_events.specs.Values.{before}
use Rattle.cr_scopes_events.specs.Declarators.{nowhere, innermost, derived, in_first, declared_by, declared_if, declarator_rule, declarator_of, IsDescent, descent_into, descent_by}
use Rattle.cr_scopes_events.proofs.Ruled.{ruled}

pub declarator_ruled : (nodes : List Node) (i : ℕ)
    → declarator_of nodes i ≡ declarator_rule nodes (before nowhere i (declarator_of nodes)) i
unfolding declarator_of
declarator_ruled nodes i = ruled nowhere (declarator_rule nodes) i

goes_if : (nodes : List Node) (i part : ℕ) (outer : Derivation) (b : Bool) → nat_lt part i ≡ b
    → declarator_of nodes i ≡ derived outer (if b then declarator_of nodes part else nowhere)
    → IsDescent nodes i (if b then Goes outer part else Ends (derived outer nowhere))
goes_if nodes i part outer true e h = (h, ltb-true part i e)
goes_if nodes i part outer false e h = h

goes : (nodes : List Node) (i : ℕ) (outer : Derivation) (parts : List ℕ)
    → declarator_of nodes i ≡ derived outer (in_first (before nowhere i (declarator_of nodes)) parts)
    → IsDescent nodes i (descent_into outer i parts)
goes nodes i outer [] h = h
goes nodes i outer (part ∷ parts) h = goes_if nodes i part outer (nat_lt part i) refl h

by_kind : (nodes : List Node) (i : ℕ) (k : Kind) (node : Node)
    → declarator_of nodes i ≡ declared_by k (before nowhere i (declarator_of nodes)) i node
    → IsDescent nodes i (descent_by k i node)
by_kind nodes i GroupDeclarator node h = goes nodes i Nothing node.parts h
by_kind nodes i PointerDeclarator node h = goes nodes i Other node.parts h
by_kind nodes i ArrayDeclarator node h = goes nodes i Other node.parts h
by_kind nodes i FunctionDeclarator node h = goes nodes i (Function i) node.parts h
by_kind nodes i k node h = h

-- where there is a node, and where there is none
pub descends : (nodes : List Node) (i : ℕ) (node : Node) → slice_get nodes i ≡ Some node → IsDescent nodes i (descent_by node.kind i node)
descends nodes i node e =
    by_kind nodes i node.kind node (declarator_ruled nodes i ∙ ap (λ o. declared_if o (before nowhere i (declarator_of nodes)) i) e)

pub ends : (nodes : List Node) (i : ℕ) → slice_get nodes i ≡ None → declarator_of nodes i ≡ nowhere
ends nodes i e = declarator_ruled nodes i ∙ ap (λ o. declared_if o (before nowhere i (declarator_of nodes)) i) e

plain_next : (d : Derivation) → d ≡ innermost Nothing d
plain_next Nothing = refl
plain_next (Function k) = refl
plain_next Other = refl

pub plain : (d : Declarator) → d ≡ derived Nothing d
plain d = ap (λ next. record { name = d.name; next = next }) (plain_next d.next)

chained : (a b c : Derivation) → innermost a (innermost b c) ≡ innermost (innermost a b) c
chained a b Nothing = refl
chained a b (Function k) = refl
chained a b Other = refl

pub derived_twice : (a b : Derivation) (d : Declarator) → derived a (derived b d) ≡ derived (innermost a b) d
derived_twice a b d = ap (λ next. record { name = d.name; next = next }) (chained a b d.next)
