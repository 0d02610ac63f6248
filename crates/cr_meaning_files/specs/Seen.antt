-- Which node sees which object, by what stands above it (C11 6.2.1p4, 6.2.4p6, 6.9.1p9).
use Rattle.std.specs.Prelude.{ℕ, zero, suc, ◌+◌, ◌==◌, Bool, false, not, ◌&&◌, ◌||◌, List, [], Option, None, Some, length, slice_index_or, if◌then◌else◌}
use Rattle.std.specs.List.{list_any}
use Rattle.cr_syntax.specs.declared.node.Kind.{Kind}
use Rattle.cr_syntax.specs.declared.node.Kind.TheVariants as kind
use Rattle.cr_check_enclosing.specs.Above.{above_of}
use Rattle.cr_typed.specs.declared.typed.Typed.{Typed}
use Rattle.cr_meaning_operations.specs.Operations.{kind_at, parts_at, first_at, part_from, clause_objects, objects_in, is_lasting, is_static_initialiser}
use Rattle.cr_meaning_files.specs.Reached.{is_block, is_definition, is_reached}

-- the objects that a node enters for a part: a definition its parameters, for its body (6.9.1p9), a block those of its declarations, and a
-- `for` those of its first clause (6.8.5.3p1)
abbrev pub entered_for : Typed → ℕ → Kind → ℕ → List ℕ
entered_for t node kind.FunctionDefinition part = if is_block (kind_at t part) then slice_index_or t.parameters node [] else []
entered_for t node kind.Compound part = objects_in t (parts_at t node)
entered_for t node kind.For part = clause_objects t (part_from t (parts_at t node) (first_at t node + 2))
entered_for t node k part = []

abbrev pub is_one_of : List ℕ → ℕ → Bool
is_one_of objects declared = list_any (λ own. own == declared) objects

-- an object of a node around: nothing is around a definition, nor around the initialiser of a static object, which is executed before main
abbrev pub finds_above : Typed → (ℕ → Bool) → ℕ → ℕ → Option ℕ → Bool
finds_above t outside declared part None = false
finds_above t outside declared part (Some node) =
    is_one_of (entered_for t node (kind_at t node) part) declared || (not (is_definition (kind_at t node)) && outside node)

-- nodes stand above their parts, so the number of all is enough
abbrev pub finds_by : ℕ → Typed → ℕ → ℕ → Bool
finds_by zero t declared part = false
finds_by (suc more) t declared part =
    not (is_static_initialiser t part (kind_at t part)) && finds_above t (finds_by more t declared) declared part (above_of t.nodes (length t.nodes) part)

abbrev pub finds : Typed → ℕ → ℕ → Bool
finds t node declared = finds_by (suc (length t.nodes)) t declared node

-- objects of static duration and literals are seen everywhere
abbrev pub knows : Typed → ℕ → ℕ → Bool
knows t node declared = is_lasting t declared (kind_at t declared) || finds t node declared

-- what no run reaches names nothing, so of it nothing is asked
abbrev pub sees : Typed → ℕ → ℕ → Bool
sees t node declared = not (is_reached t node) || knows t node declared
