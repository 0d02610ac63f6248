-- What is known of a declaration with linkage, by the columns of a unit (C11 6.2.2p4, 6.2.7p2, 6.9p3).
use Rattle.std.specs.Prelude.{◌≡◌, ℕ, ◌<◌, Bool, true, false, List, Option, None, Some, slice_get, slice_index_or}
use Rattle.cr_syntax.specs.declared.node.Node.{Node}
use Rattle.cr_check_types.specs.declared.shape.Shape.{Shape}
use Rattle.cr_check_expressions.specs.Known.{spelling_of}
use Rattle.cr_scopes_events.specs.Declarators.{declarator_of}
use Rattle.cr_check_declarators.specs.declared.linkages.Linkage.{Linkage}
use Rattle.cr_check_declarators.specs.declared.linkages.Linkage.TheVariants.{Alone, Internal, External}
use Rattle.cr_check_declarators.specs.declared.linkages.Declaration.{Declaration}
use Rattle.cr_check_declarators.specs.Functions.{library_of}
use Rattle.cr_check_declarators.specs.Linkages.{repeats, with_declaration_of}
use Rattle.cr_check_declarations.specs.declared.tree.Tree.{Tree}
use Rattle.cr_check_declarations.specs.Named.{is_declarator}
use Rattle.cr_check_linkage.specs.NameTypes.{NameType, disagrees, is_misdeclared}
use Rattle.cr_check_linkage.specs.Linked.{linked_in, name_type_in, declaration_at}
use Rattle.cr_check_unit.specs.declared.typing.Typing.{Typing}
use Rattle.cr_check_unit.specs.Typing.{cut, entry_at, before_in, past_in, name_type}

abbrev pub has_linkage : Linkage → Bool
has_linkage Alone = false
has_linkage Internal = true
has_linkage External = true

-- the declaration before it, in whatever scope
abbrev pub same_at : Tree → ℕ → Option ℕ
same_at u p = slice_index_or u.same.now p None

-- what the declarations before it did, and their type
abbrev pub before_at : Tree → List Shape → Typing → ℕ → Option Declaration
before_at u shapes t p = linked_in (past_in shapes (cut p t)).linked (same_at u p)

abbrev pub earlier_at : Tree → List Shape → Typing → ℕ → NameType
earlier_at u shapes t p = name_type_in (past_in shapes (cut p t)).composite (same_at u p)

-- what it does itself, and its type
abbrev pub does_at : Tree → List Shape → Typing → ℕ → Declaration
does_at u shapes t p = declaration_at u (before_in shapes (cut p t)).specified (entry_at t p).own.declarator (past_in shapes (cut p t)).linked p

abbrev pub now_at : List Shape → Typing → ℕ → NameType
now_at shapes t p = name_type shapes (entry_at t p)

-- a declarator counts among the declarations of its name, and breaks neither K9 nor K10 by them
pub record IsLinked (u : Tree) (shapes : List Shape) (t : Typing) (p : ℕ) : Type 0 where
  pub linked : slice_index_or t.linked p None ≡ Some (with_declaration_of (before_at u shapes t p) (does_at u shapes t p))
  pub agrees : (token : ℕ) → (declarator_of u.nodes.now p).name ≡ Some token → disagrees (earlier_at u shapes t p) (now_at shapes t p) ≡ false
  pub library : (token : ℕ) → (declarator_of u.nodes.now p).name ≡ Some token
      → is_misdeclared (library_of (spelling_of u.file.now u.tokens.now token)) (now_at shapes t p) ≡ false
  pub again : (token : ℕ) → (declarator_of u.nodes.now p).name ≡ Some token → repeats (before_at u shapes t p) (does_at u shapes t p) ≡ false

-- what declares a function is a declarator that has linkage (6.2.2p4, p5): it is no parameter and no member (K8), and has no initialiser (K11)
pub record IsFunction (u : Tree) (shapes : List Shape) (t : Typing) (p : ℕ) : Type 0 where
  pub node : Node
  pub at : slice_get u.nodes.now p ≡ Some node
  pub is : is_declarator node.kind ≡ true
  pub has : has_linkage (does_at u shapes t p).linkage ≡ true
  pub linked : IsLinked u shapes t p

-- the declaration of a function is behind another one, by declarations of functions one behind the other
pub data Follows (u : Tree) (shapes : List Shape) (t : Typing) : ℕ → ℕ → Type 0 where
  directly : {p q : ℕ} → same_at u p ≡ Some q → q < p → Follows u shapes t p q
  behind : {p q : ℕ} (r token : ℕ) → same_at u p ≡ Some r → r < p → IsFunction u shapes t r → (declarator_of u.nodes.now r).name ≡ Some token → Follows u shapes t r q → Follows u shapes t p q
