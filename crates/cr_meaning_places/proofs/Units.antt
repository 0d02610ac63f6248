-- The program of a typed unit: its literals hold bytes alone.
use Rattle.std.proofs.Common.{◌≡◌, ℕ, Some, List, [], ◌∷◌, map, slice_index_or, subst}
use Rattle.std.specs.List.{AllByRecursion}
use Rattle.cr_memory.specs.declared.value.Cell.{Cell}
use Rattle.cr_meaning.specs.declared.run.Limits.{Limits}
use Rattle.cr_meaning_operations.specs.Operations.{kind_at, byte_cell, literal_by, program_of}
use Rattle.cr_syntax.specs.declared.node.Kind.{Kind}
use Rattle.cr_syntax.specs.declared.node.Kind.TheVariants as kind
use Rattle.cr_typed.specs.declared.typed.Typed.{Typed}
use Rattle.cr_meaning_places.specs.Laws
use Rattle.cr_meaning_places.specs.Laws.{IsPlain, HasPlainLiterals}
use Rattle.cr_meaning_places.proofs.Running.{places_are_declared}

bytes_plain : (bytes : List ℕ) → AllByRecursion IsPlain (map byte_cell bytes)
bytes_plain [] = tt
bytes_plain (byte ∷ rest) = (tt, bytes_plain rest)

same_cells : (one other : List Cell) → Some one ≡ Some other → one ≡ other
same_cells one other e = cc e

literal_plain : (t : Typed) (node : ℕ) (k : Kind) (held : List Cell) → literal_by t node k ≡ Some held → AllByRecursion IsPlain held
literal_plain t node kind.Text held e =
    let P : List Cell → Type 0 = λ cells. AllByRecursion IsPlain cells in
    subst P (same_cells (map byte_cell (slice_index_or t.texts node [])) held e) (bytes_plain (slice_index_or t.texts node []))
literal_plain t node k held e = absurd (cc e)

units_are_plain : (t : Typed) (limits : Limits) → HasPlainLiterals (program_of t limits)
units_are_plain t limits node held e = literal_plain t node (kind_at t node) held e

pub units_have_declared_places : Laws.UnitsHaveDeclaredPlaces
units_have_declared_places t limits = places_are_declared (program_of t limits) (units_are_plain t limits)
