-- Which names are of objects that a block or a `for` declares, or that a definition enters as parameters (C11 6.2.1p4, 6.2.4p5, 6.9.1p9).
use Rattle.std.specs.Prelude.{ℕ, zero, suc, Bool, true, false, not, ◌&&◌, ◌||◌, [], Option, None, Some, length, slice_index_or, if◌then◌else◌}
use Rattle.std.specs.List.{list_any}
use Rattle.std.specs.Option.{is_some}
use Rattle.cr_check_enclosing.specs.Above.{above_of}
use Rattle.cr_typed.specs.declared.typed.Typed.{Typed}
use Rattle.cr_typed.specs.declared.typed.Duration.{Duration}
use Rattle.cr_typed.specs.declared.typed.Duration.TheVariants as duration
use Rattle.cr_meaning_operations.specs.Operations.{kind_at, entity_of, is_automatic_by, is_declaration, is_static_initialiser, nodes_from}
use Rattle.cr_meaning_declarations.specs.Units.Owned.{owns}
use Rattle.cr_meaning_declarations.specs.Sight.Under.{is_under}
use Rattle.cr_meaning_files.specs.Seen.{is_one_of}

-- the innermost declaration around a node
abbrev pub declaration_if : Typed → (ℕ → Option ℕ) → Option ℕ → Option ℕ
declaration_if t outside None = None
declaration_if t outside (Some node) = if is_declaration (kind_at t node) then Some node else outside node

abbrev pub declaration_by : ℕ → Typed → ℕ → Option ℕ
declaration_by zero t part = None
declaration_by (suc more) t part = declaration_if t (declaration_by more t) (above_of t.nodes (length t.nodes) part)

abbrev pub declaration_around : Typed → ℕ → Option ℕ
declaration_around t part = declaration_by (suc (length t.nodes)) t part

-- it stands in another node, and has the object among those of its declarators
abbrev pub is_held_by : Typed → ℕ → Option ℕ → Bool
is_held_by t declared None = false
is_held_by t declared (Some declaration) = is_some (above_of t.nodes (length t.nodes) declaration) && owns t declaration declared

-- an automatic object that isn't a parameter
abbrev pub is_local : Typed → ℕ → Bool
is_local t declared =
    is_automatic_by (slice_index_or t.durations declared duration.NoObject) && is_held_by t declared (declaration_around t declared)

-- an object that a definition enters as one of its parameters (6.9.1p9), by so many definitions
abbrev pub is_parameter_below : ℕ → Typed → ℕ → Bool
is_parameter_below zero t declared = false
is_parameter_below (suc d) t declared = is_one_of (slice_index_or t.parameters d []) declared || is_parameter_below d t declared

abbrev pub is_parameter : Typed → ℕ → Bool
is_parameter t declared = is_parameter_below (length t.nodes) t declared

abbrev pub is_own_parameter : Typed → ℕ → Bool
is_own_parameter t declared = is_automatic_by (slice_index_or t.durations declared duration.NoObject) && is_parameter t declared

-- a node in an initialiser that is executed before main
abbrev pub is_early : Typed → ℕ → Bool
is_early t node = list_any (λ start. is_under t start node) (nodes_from (is_static_initialiser t) 0 t.nodes)

-- an object of the program: an `extern` one that is defined nowhere is none
abbrev pub is_object_by : Duration → Bool
is_object_by duration.NoObject = false
is_object_by d = true

-- an automatic object that a block, a `for` or a definition enters
abbrev pub is_entered : Typed → ℕ → Bool
is_entered t declared = is_local t declared || is_own_parameter t declared

-- a name that its scope alone shows to see its object
abbrev pub is_named_locally : Typed → ℕ → Bool
is_named_locally t node = is_entered t (entity_of t node) && not (is_early t node)
