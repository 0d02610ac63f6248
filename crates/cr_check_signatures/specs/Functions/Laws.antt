-- Laws of the declarations of a unit that breaks no constraint.
use Rattle.std.specs.Prelude.{◌≡◌, ℕ, ◌<◌, Bool, true, false, List, [], Some, map, slice_get, slice_index_or}
use Rattle.std.specs.List.{list_all}
use Rattle.cr_syntax.specs.declared.node.Node.{Node}
use Rattle.cr_scopes_events.specs.Declarators.{declarator_of}
use Rattle.cr_check_types.specs.declared.shape.Shape.{Shape}
use Rattle.cr_check_types.specs.Types.{type_at}
use Rattle.cr_check_expressions.specs.declared.known.Declared.TheVariants.{Function, Unclear}
use Rattle.cr_check_expressions.specs.declared.least.Break.{Break}
use Rattle.cr_check_expressions.specs.Known.{spelling_of}
use Rattle.cr_check_expressions.specs.Ruled.{is_type}
use Rattle.cr_check_declarators.specs.declared.functions.Library.{Library}
use Rattle.cr_check_declarators.specs.Functions.{library_of, library_type}
use Rattle.cr_check_declarations.specs.declared.tree.Tree.{Tree}
use Rattle.cr_check_declarations.specs.Named.{is_declarator}
use Rattle.cr_check_linkage.specs.NameTypes.{NameType, types_agree, is_known}
use Rattle.cr_check_unit.specs.declared.typing.Typing.{Typing}
use Rattle.cr_check_unit.specs.Typing.{IsTyping}
use Rattle.cr_check_unit.specs.Breaks.{IsBroken}
use Rattle.cr_check_signatures.specs.Functions.Linked.{has_linkage, same_at, does_at, now_at, IsLinked, IsFunction, Follows}
use Rattle.cr_check_signatures.specs.Functions.Outlines.{outline}

-- compatible types have one outline (6.2.7p1, 6.7.6.3p15)
abbrev pub CompatibleAreAlike : Type 0
CompatibleAreAlike = (one other : NameType) → types_agree one other ≡ true → outline one ≡ outline other

-- a declarator with linkage agrees with the declarations of its name before it (K9, K10)
abbrev pub DeclarationsAreLinked : Type 0
DeclarationsAreLinked = (u : Tree) (texts : List (List ℕ)) (shapes : List Shape) (t : Typing) → IsTyping u texts shapes t → ((b : Break) → IsBroken u texts shapes t b → ⊥)
    → (p : ℕ) (n : Node) → slice_get u.nodes.now p ≡ Some n → is_declarator n.kind ≡ true → has_linkage (does_at u shapes t p).linkage ≡ true → IsLinked u shapes t p

-- what declares a function is linked to the declarations before it
abbrev pub FunctionsAreLinked : Type 0
FunctionsAreLinked = (u : Tree) (texts : List (List ℕ)) (shapes : List Shape) (t : Typing) → IsTyping u texts shapes t → ((b : Break) → IsBroken u texts shapes t b → ⊥)
    → (p row : ℕ) (more : Bool) → slice_index_or t.declared p Unclear ≡ Function row more → IsFunction u shapes t p

-- a function that is named like one of the library's has its very type (K9)
abbrev pub LibraryHasItsTypes : Type 0
LibraryHasItsTypes = (u : Tree) (texts : List (List ℕ)) (shapes : List Shape) (t : Typing) → IsTyping u texts shapes t → ((b : Break) → IsBroken u texts shapes t b → ⊥)
    → (p row : ℕ) (more : Bool) → slice_index_or t.declared p Unclear ≡ Function row more → is_type (type_at shapes row) ≡ true
    → list_all is_type (map (type_at shapes) (slice_index_or t.parameters p [])) ≡ true → (token : ℕ) → (declarator_of u.nodes.now p).name ≡ Some token
    → (l : Library) → library_of (spelling_of u.file.now u.tokens.now token) ≡ Some l
    → library_type l (record { result = type_at shapes row; variadic = more; parameters = map (type_at shapes) (slice_index_or t.parameters p []) }) ≡ true

-- a declarator with linkage has the outline of the declaration of its name before it, where the types of both are known (K9)
abbrev pub DeclarationsAreAlike : Type 0
DeclarationsAreAlike = (u : Tree) (texts : List (List ℕ)) (shapes : List Shape) (t : Typing) → IsTyping u texts shapes t → ((b : Break) → IsBroken u texts shapes t b → ⊥)
    → (p q token : ℕ) → IsLinked u shapes t p → (declarator_of u.nodes.now p).name ≡ Some token → same_at u p ≡ Some q → q < p
    → is_known (now_at shapes t q) ≡ true → is_known (now_at shapes t p) ≡ true → outline (now_at shapes t q) ≡ outline (now_at shapes t p)

-- so of declarations one behind the other one at most has a body (6.9p3, p5)
abbrev pub FunctionsAreDefinedOnce : Type 0
FunctionsAreDefinedOnce = (u : Tree) (shapes : List Shape) (t : Typing) (p q token : ℕ) → IsFunction u shapes t p → (declarator_of u.nodes.now p).name ≡ Some token → IsFunction u shapes t q → Follows u shapes t p q
    → (does_at u shapes t q).defines ≡ true → (does_at u shapes t p).defines ≡ false

-- and all have one outline, where their types are known (6.2.7p2)
abbrev pub FunctionsAreAlike : Type 0
FunctionsAreAlike = (u : Tree) (texts : List (List ℕ)) (shapes : List Shape) (t : Typing) → IsTyping u texts shapes t → ((b : Break) → IsBroken u texts shapes t b → ⊥)
    → ((q : ℕ) → IsFunction u shapes t q → is_known (now_at shapes t q) ≡ true) → (p q token : ℕ) → IsFunction u shapes t p → (declarator_of u.nodes.now p).name ≡ Some token → IsFunction u shapes t q
    → Follows u shapes t p q → outline (now_at shapes t q) ≡ outline (now_at shapes t p)
