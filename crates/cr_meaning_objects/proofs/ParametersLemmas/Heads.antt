-- The words of the types that a node names: its own, whatever earlier declarations tell of them.
use Rattle.std.proofs.Common.{◌≡◌, ℕ, false, List, [], Option, None, Some, map, slice_get, slice_index_or, refl, ap, ◌∙◌}
use Rattle.cr_syntax.specs.declared.node.Node.{Node}
use Rattle.cr_check_types.specs.declared.shape.Shape.{Shape}
use Rattle.cr_check_types.specs.Types.{Qualified, plain, pointer, array, type_at}
use Rattle.cr_check_expressions.specs.declared.known.Declared.{Declared}
use Rattle.cr_check_expressions.specs.declared.known.Declared.TheVariants.{Object, Enumerator, Function, TypeName, Unclear}
use Rattle.cr_check_expressions.specs.declared.least.Break.{Break}
use Rattle.cr_check_declarators.specs.declared.linkages.Declaration.{Declaration}
use Rattle.cr_check_declarators.specs.Functions.{adjusted_type}
use Rattle.cr_check_declarations.specs.declared.tree.Tree.{Tree}
use Rattle.cr_check_declarations.specs.Named.{is_initialised, declared_by, declaration_of, parameters_by}
use Rattle.cr_check_linkage.specs.NameTypes.{NameType, of_object, of_function, of_none, type_as, type_or, parameters_or}
use Rattle.cr_check_linkage.specs.Linked.{Past, linked_in, name_type_in, seen_with, seen_by, same_by}
use Rattle.cr_check_unit.specs.declared.typing.Typing.{Typing}
use Rattle.cr_check_unit.specs.Typing.{cut, entry_at, before_in, past_in, own_named, own_type, seen_type, name_type, composite_type, IsTyping}
use Rattle.cr_check_unit.specs.Breaks.{IsBroken}
use Rattle.cr_check_signatures.specs.Functions.Outlines.{head, outline}
use Rattle.cr_check_signatures.proofs.FunctionsLemmas.Outlines.{joined_alike}
use Rattle.cr_meaning_types.proofs.KnownLemmas.Naming.{plain_named, ruled}

-- ---- a name's type and one of the same outline

outlined_result : (type : Qualified) (c : NameType) → head (type_or type c) ≡ type_or (head type) (outline c)
outlined_result type (of_object t) = refl
outlined_result type (of_function f) = refl
outlined_result type of_none = refl

own_result : (d : Declared) (type : Qualified) (qs : List Qualified) → type_or (head type) (outline (type_as d type qs)) ≡ head type
own_result (Object row register) type qs = refl
own_result (Function row more) type qs = refl
own_result (Enumerator value) type qs = refl
own_result TypeName type qs = refl
own_result Unclear type qs = refl

pub result_kept : (d : Declared) (type : Qualified) (qs : List Qualified) (c : NameType) → outline c ≡ outline (type_as d type qs) → head (type_or type c) ≡ head type
result_kept d type qs c e = outlined_result type c ∙ ap (type_or (head type)) e ∙ own_result d type qs

outlined_parameters : (qs : List Qualified) (c : NameType) → map head (parameters_or qs c) ≡ parameters_or (map head qs) (outline c)
outlined_parameters qs (of_object t) = refl
outlined_parameters qs (of_function f) = refl
outlined_parameters qs of_none = refl

own_parameters : (d : Declared) (type : Qualified) (qs : List Qualified) → parameters_or (map head qs) (outline (type_as d type qs)) ≡ map head qs
own_parameters (Object row register) type qs = refl
own_parameters (Function row more) type qs = refl
own_parameters (Enumerator value) type qs = refl
own_parameters TypeName type qs = refl
own_parameters Unclear type qs = refl

pub parameters_kept : (d : Declared) (type : Qualified) (qs : List Qualified) (c : NameType) → outline c ≡ outline (type_as d type qs) → map head (parameters_or qs c) ≡ map head qs
parameters_kept d type qs c e = outlined_parameters qs c ∙ ap (parameters_or (map head qs)) e ∙ own_parameters d type qs

with_alike : (o : Option Declaration) (earlier own : NameType) → outline (seen_with o earlier own) ≡ outline own
with_alike None earlier own = refl
with_alike (Some declaration) earlier own = joined_alike earlier own

seen_alike : (o : Option Declaration) (past : Past) (earlier : Option ℕ) (own : NameType) → outline (seen_by o past earlier own) ≡ outline own
seen_alike None past earlier own = refl
seen_alike (Some declaration) past earlier own = with_alike (linked_in past.linked earlier) (name_type_in past.seen earlier) own

-- ---- a parameter that is adjusted (6.7.6.3p7)

pub head_adjusted : (type : Qualified) → head (adjusted_type type) ≡ adjusted_type (head type)
head_adjusted (plain of c v) = refl
head_adjusted (pointer c v t) = refl
head_adjusted (array n t) = refl

pub adjusted_twice : (type : Qualified) → adjusted_type (adjusted_type type) ≡ adjusted_type type
adjusted_twice (plain of c v) = refl
adjusted_twice (pointer c v t) = refl
adjusted_twice (array n t) = refl

-- ---- by columns

module _ (u : Tree) (texts : List (List ℕ)) (shapes : List Shape) (t : Typing) (h : IsTyping u texts shapes t) (holds : (b : Break) → IsBroken u texts shapes t b → ⊥) (p : ℕ) (n : Node)
    (at : slice_get u.nodes.now p ≡ Some n) where
  abbrev declares : Declared
  declares = declared_by n.kind u.nodes.now (before_in shapes (cut p t)).specified (entry_at t p).own.declarator 0 (entry_at t p).own.enumerated (declaration_of u.nodes.now u.above.now p)

  abbrev own : Qualified
  own = own_named shapes u (cut p t) (entry_at t p) p n

  abbrev given : List Qualified
  given = parameters_by n.kind u.nodes.now (before_in shapes (cut p t)) n

  seen_is : outline (seen_type shapes u (cut p t) (entry_at t p) p n) ≡ outline (type_as declares own given)
  seen_is = seen_alike (entry_at t p).linked (past_in shapes (cut p t)) (slice_index_or u.earlier.now p None) (own_type shapes u (cut p t) (entry_at t p) p n)

  pub named_head : is_initialised (Some n.kind) ≡ false → head (type_at shapes (slice_index_or t.named p 0)) ≡ head own
  named_head e =
      let r = ruled u texts shapes t h holds p n at in
      ap head (plain_named n.kind _ p _ _ n.parts _ (type_at shapes (slice_index_or t.named p 0)) _ e r.filled)
      ∙ result_kept declares own given (seen_type shapes u (cut p t) (entry_at t p) p n) seen_is

  pub parameter_heads : map head (map (type_at shapes) (slice_index_or t.parameters p [])) ≡ map head given
  parameter_heads =
      ap (map head) (ruled u texts shapes t h holds p n at).parameters ∙ parameters_kept declares own given (seen_type shapes u (cut p t) (entry_at t p) p n) seen_is

  -- the composite type of all declarations so far
  pub composite_head : head (type_at shapes (slice_index_or t.composites p 0)) ≡ head (type_at shapes (slice_index_or t.named p 0))
  composite_head =
      let e = entry_at t p in
      ap head (ruled u texts shapes t h holds p n at).composite
      ∙ result_kept e.declared (type_at shapes e.own.named) (map (type_at shapes) e.parameters) (composite_type shapes u (cut p t) e p n)
      (joined_alike (name_type_in (past_in shapes (cut p t)).composite (same_by n.kind e.linked (slice_index_or u.same.now p None) n)) (name_type shapes e))
