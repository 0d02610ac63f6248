-- What is known of each node of a unit that breaks no constraint: types that are there (C11 6.7, K1).
use Rattle.std.specs.Prelude.{◌≡◌, ℕ, Bool, true, false, List, Option, None, Some, map, slice_get}
use Rattle.std.specs.Option.{is_some}
use Rattle.cr_syntax.specs.declared.node.Kind.{Kind}
use Rattle.cr_syntax.specs.declared.node.Kind.TheVariants as kind
use Rattle.cr_syntax.specs.declared.node.Node.{Node}
use Rattle.cr_check_types.specs.declared.shape.Shape.{Shape}
use Rattle.cr_check_types.specs.Types.{Qualified, type_at}
use Rattle.cr_check_types.specs.Relations.{is_complete_at}
use Rattle.cr_check_expressions.specs.declared.known.Member.{Member}
use Rattle.cr_check_expressions.specs.Forms.{form_of}
use Rattle.cr_check_expressions.specs.Ruled.{is_type, facts_at}
use Rattle.cr_check_declarators.specs.declared.enumerators.Enumerated.{Enumerated}
use Rattle.cr_check_declarators.specs.Specifiers.{is_one_type_of}
use Rattle.cr_check_declarators.specs.Declarators.{whole_object}
use Rattle.cr_check_declarations.specs.declared.tree.Tree.{Tree}
use Rattle.cr_check_declarations.specs.Named.{declares_name, declaration_of}
use Rattle.cr_check_declarations.specs.Faults.{is_specifier}
use Rattle.cr_check_unit.specs.declared.typing.Typing.{Typing}
use Rattle.cr_check_unit.specs.Typing.{entry_at}
use Rattle.cr_meaning_typing.specs.Typed.Typing.{has_value, is_expression}

-- what names a type by its declarator
abbrev pub names_type : Kind → Bool
names_type kind.Parameter = true
names_type kind.TypeName = true
names_type k = false

abbrev pub is_enumerator : Kind → Bool
is_enumerator kind.Enumerator = true
is_enumerator k = false

-- an enumerator has a value
abbrev pub IsNumbered : Option Enumerated → Type 0
IsNumbered None = ⊥
IsNumbered (Some own) = is_some own.value ≡ true

abbrev pub AllTyped : List Qualified → Type 0
AllTyped types = (k : ℕ) (type : Qualified) → slice_get types k ≡ Some type → is_type type ≡ true

-- the type of a member is known, and complete where it is declared, unless it is an array of unknown size (6.7.2.1p3, K6)
pub record IsMemberType (u : Tree) (type : Qualified) : Type 0 where
  pub known : has_value type ≡ true
  pub declarator : ℕ
  pub complete : whole_object (is_complete_at u.nodes.now declarator) type ≡ true

abbrev pub AllMembers : Tree → List Shape → List Member → Type 0
AllMembers u shapes members = (k : ℕ) (member : Member) → slice_get members k ≡ Some member → IsMemberType u (type_at shapes member.row)

-- Specifiers that are one row of the list of types name a type; a declarator of a declaration has one, and its parameters have; an enumerator
-- has a value; the members of a structure have types; and so has each expression.
pub record IsKnown (u : Tree) (shapes : List Shape) (t : Typing) (i : ℕ) (n : Node) : Type 0 where
  pub expression : is_expression (form_of n.kind) ≡ true → has_value (facts_at shapes t.facts i).type ≡ true
  pub specifiers : is_specifier n.kind ≡ true → is_one_type_of (entry_at t i).own.specified ≡ true → has_value (type_at shapes (entry_at t i).own.named) ≡ true
  pub sized : declares_name n.kind ≡ true → (entry_at t i).own.declarator.untyped ≡ false
  pub declared : declares_name n.kind ≡ true → (d : ℕ) → declaration_of u.nodes.now u.above.now i ≡ Some d → has_value (type_at shapes (entry_at t i).own.named) ≡ true
  pub parameters : declares_name n.kind ≡ true → AllTyped (map (type_at shapes) (entry_at t i).parameters)
  pub named : names_type n.kind ≡ true → has_value (type_at shapes (entry_at t i).own.named) ≡ true
  pub enumerator : is_enumerator n.kind ≡ true → IsNumbered (entry_at t i).own.enumerated
  pub members : AllMembers u shapes (entry_at t i).members

abbrev pub AreKnown : Tree → List Shape → Typing → Type 0
AreKnown u shapes t = (i : ℕ) (n : Node) → slice_get u.nodes.now i ≡ Some n → IsKnown u shapes t i n
