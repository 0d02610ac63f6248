-- Which types are those of whole objects (C11 6.2.5p1, p20, p22), and that members have them (6.7.2.1).
use Rattle.std.specs.Prelude.{◌≡◌, ℕ, ◌≤◌, [], Some, slice_get, slice_index_or}
use Rattle.cr_syntax.specs.declared.ctype.CType.TheVariants.{Int, Struct}
use Rattle.cr_syntax.specs.declared.node.Kind.TheVariants as kind
use Rattle.cr_typed.specs.declared.typed.Typed.{Typed}
use Rattle.cr_check_types.specs.Types.{Qualified, plain, pointer as to, array, type_at}
use Rattle.cr_meaning_operations.specs.Operations.{kind_at}

-- a type of objects: a structure has its content, and an array has elements
abbrev pub IsWhole : Typed → Qualified → Type 0
IsWhole t (plain (Int kind) c v) = Unit {0}
IsWhole t (plain (Struct node) c v) = kind_at t node ≡ kind.StructContent
IsWhole t (to c v below) = Unit {0}
IsWhole t (array n below) = (1 ≤ n) × IsWhole t below
IsWhole t other = ⊥

-- the members of structures have types of objects (6.7.2.1p3, K6, K14)
abbrev pub AreMembersWhole : Typed → Type 0
AreMembersWhole t = (node k row : ℕ) → slice_get (slice_index_or t.members node []) k ≡ Some row → IsWhole t (type_at t.shapes row)
