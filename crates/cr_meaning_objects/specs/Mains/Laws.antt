-- Laws of the definition of main (C11 5.1.2.2.1, 6.9p3).
use Rattle.std.specs.Prelude.{◌≡◌, ℕ, true, List, [], Some, map, slice_get, slice_index_or}
use Rattle.cr_syntax.specs.declared.node.Kind.TheVariants as kind
use Rattle.cr_syntax.specs.declared.node.Node.{Node}
use Rattle.cr_scopes.specs.Spelled.{spelling_of}
use Rattle.cr_scopes_linkage.specs.Shared.Origins.{IsDeclarer}
use Rattle.cr_check_types.specs.Types.{type_at}
use Rattle.cr_check_declarators.specs.Functions.{is_plain_int}
use Rattle.cr_typed.specs.declared.typed.Typed.{Typed}
use Rattle.cr_meaning.specs.declared.run.Limits.{Limits}
use Rattle.cr_meaning_soundness.specs.Programs.{AreMainParameters}
use Rattle.cr_meaning_operations.specs.Operations.{part_at, parameter_of, strings_of, program_of}
use Rattle.cr_meaning_declarations.specs.Declared.Files.{IsUnitOfFile}

-- two external declarations that define functions of one name are one
abbrev pub NamesAreDefinedOnce : Type 0
NamesAreDefinedOnce = (file : List ℕ) (t : Typed) (it : IsUnitOfFile file t)
    → (one other i q j r k l : ℕ) (m n : Node) → IsDeclarer t.nodes one i q m → IsDeclarer t.nodes other j r n → m.kind ≡ kind.FunctionDefinition → n.kind ≡ kind.FunctionDefinition
    → slice_get t.items k ≡ Some i → slice_get t.items l ≡ Some j → spelling_of file it.unit.tokens.list.items one ≡ spelling_of file it.unit.tokens.list.items other → i ≡ j

-- what main's declarator declares, and the objects that a run enters for it
pub record IsMain (file : List ℕ) (t : Typed) (it : IsUnitOfFile file t) (limits : Limits) : Type 0 where
  pub gives : is_plain_int (type_at it.checked.checked.table (slice_index_or it.checked.checked.whole.typing.named (part_at t t.main 1) 0)) ≡ true
  pub parameters : AreMainParameters (program_of t limits) (strings_of t (slice_index_or t.parameters t.main [])) (map (parameter_of t) (slice_index_or t.parameters t.main []))

-- main gives an int, and has no parameters, or an int and a pointer, where it is an external declaration, as all definitions are
abbrev pub MainsAreDeclaredSo : Type 0
MainsAreDeclaredSo = (file : List ℕ) (t : Typed) (it : IsUnitOfFile file t) (limits : Limits)
    → (k : ℕ) → slice_get t.items k ≡ Some t.main → IsMain file t it limits
