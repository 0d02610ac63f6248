-- What the names of a unit have in a run: the node of their entity, how long their objects live, and their types.
use Rattle.std.specs.Prelude.{ℕ, ◌==◌, Bool, true, false, List, Option, None, Some, slice_index_or, if◌then◌else◌}
use Rattle.cr_syntax.specs.declared.ctype.CType.TheVariants as type
use Rattle.cr_syntax.specs.declared.node.Kind.{Kind}
use Rattle.cr_syntax.specs.declared.node.Kind.TheVariants as kind
use Rattle.cr_syntax.specs.declared.node.Node.{Node}
use Rattle.cr_scopes_events.specs.Scripts.{kind_at, first_at}
use Rattle.cr_scopes_bindings.specs.Entities.{entity_if}
use Rattle.cr_check_enclosing.specs.declared.context.Around.{Around}
use Rattle.cr_check_enclosing.specs.declared.context.Place.{Place}
use Rattle.cr_check_enclosing.specs.declared.context.Place.TheVariants as place
use Rattle.cr_check_enclosing.specs.Around.{outermost}
use Rattle.cr_typed.specs.declared.typed.Duration.{Duration}
use Rattle.cr_typed.specs.declared.typed.Duration.TheVariants as duration
use Rattle.cr_check_types.specs.Types.{Qualified, plain, unknown, type_at}
use Rattle.cr_check_expressions.specs.declared.known.Declared.{Declared}
use Rattle.cr_check_expressions.specs.declared.known.Declared.TheVariants.{Object, Function}
use Rattle.cr_typed_columns.specs.declared.checked.CheckedColumns.{CheckedColumns}
use Rattle.cr_typed_columns.specs.Reading.{Parsed, kind_of, part_of, entry_of}
use Rattle.cr_typed_columns.specs.Functions.{function_of}
use Rattle.cr_typed_columns.specs.Entities.{entity_of, first_declared, last_declared, definition_of, whole_of, declared_of, is_kept}

-- ---- entities

-- an identifier and a called name is its node's first token (6.5.1, 6.5.2.2), and so is a declared one
abbrev pub is_mention : Option Kind → Bool
is_mention (Some kind.Identifier) = true
is_mention (Some kind.Call) = true
is_mention (Some kind.NameDeclarator) = true
is_mention k = false

abbrev pub mentioned_token : List Node → ℕ → Option ℕ
mentioned_token nodes i = if is_mention (kind_at nodes i) then first_at nodes i else None

abbrev pub is_here : ℕ → Option ℕ → Bool
is_here i None = false
is_here i (Some node) = node == i

abbrev pub is_goto : Option Kind → Bool
is_goto (Some kind.Goto) = true
is_goto k = false

-- the node that declares the entity first, or the label of a `goto` (6.8.6.1)
abbrev pub ref_of : Parsed → CheckedColumns → ℕ → Option ℕ
ref_of u j i =
    if is_goto (kind_at u.nodes i) then slice_index_or j.labels.now i None
    else first_declared u j.names.now (entity_if j.names.now (mentioned_token u.nodes i))

-- ---- durations (6.2.4)

abbrev pub around_of : CheckedColumns → Option ℕ → Around
around_of j node = entry_of j.around.now outermost node

abbrev pub is_list : Option Kind → Bool
is_list (Some kind.Parameters) = true
is_list (Some kind.VariadicParameters) = true
is_list k = false

-- the function declarator that has a parameter alone or in a list (6.7.6.3)
abbrev pub function_above : List Node → CheckedColumns → Option ℕ → Option ℕ
function_above nodes j above = if is_list (kind_of nodes above) then entry_of j.above.now None above else above

abbrev pub is_same : Option ℕ → Option ℕ → Bool
is_same None other = false
is_same (Some node) other = is_here node other

-- the whole declarator of a parameter of this definition itself (6.9.1p7)
abbrev pub is_own : List Node → CheckedColumns → Option ℕ → Option ℕ → Bool
is_own nodes j whole None = false
is_own nodes j whole (Some definition) =
    is_same (function_above nodes j (entry_of j.above.now None (entry_of j.above.now None whole))) (function_of nodes j definition)

-- a parameter of a definition is an object (6.9.1p9), and one of any other declarator is none
abbrev pub of_parameter : Bool → Duration
of_parameter own = if own then duration.Automatic else duration.NoObject

-- an object of static duration that is defined nowhere isn't one of the program
abbrev pub of_object : Bool → Bool → Duration
of_object static kept = if static then (if kept then duration.Static else duration.NoObject) else duration.Automatic

abbrev pub by_place : Place → Bool → Bool → Bool → Duration
by_place place.Parameter own static kept = of_parameter own
by_place p own static kept = of_object static kept

abbrev pub by_declared : Declared → Place → Bool → Bool → Bool → Duration
by_declared (Object row register) p own static kept = by_place p own static kept
by_declared other p own static kept = duration.NoObject

abbrev pub duration_of : List Node → CheckedColumns → ℕ → Duration
duration_of nodes j i =
    by_declared (declared_of j (whole_of nodes j i)) (around_of j (whole_of nodes j i)).place
    (is_own nodes j (whole_of nodes j i) (around_of j (whole_of nodes j i)).function) (entry_of j.statics.now false (whole_of nodes j i))
    (is_kept nodes j (entity_of nodes j.names.now i))

-- ---- types

abbrev pub type_named : CheckedColumns → Option ℕ → Qualified
type_named j node = type_at j.table.now (entry_of j.named.now 0 node)

-- the declarator with its initialiser, where it has one, which completes its type (6.7.9p22)
abbrev pub is_initialised : Option Kind → Bool
is_initialised (Some kind.InitDeclarator) = true
is_initialised k = false

abbrev pub initialised_if : List Node → Option ℕ → Option ℕ → Option ℕ
initialised_if nodes above whole = if is_initialised (kind_of nodes above) then above else whole

abbrev pub with_initialiser : List Node → CheckedColumns → Option ℕ → Option ℕ
with_initialiser nodes j whole = initialised_if nodes (entry_of j.above.now None whole) whole

-- the composite type of all declarations of an object, at its last one (6.2.7p3, p4)
abbrev pub whole_if : List Node → CheckedColumns → Option ℕ → Option ℕ
whole_if nodes j None = None
whole_if nodes j (Some name) = whole_of nodes j name

abbrev pub composite_type : List Node → CheckedColumns → Option ℕ → Qualified
composite_type nodes j entity =
    type_at j.table.now (entry_of j.composites.now 0 (with_initialiser nodes j (whole_if nodes j (last_declared nodes j.names.now entity))))

-- a function by its definition, or by the node that declares it first where it has none
abbrev pub or_first : ℕ → Option ℕ → ℕ
or_first i None = i
or_first i (Some definition) = definition

abbrev pub function_type : List Node → CheckedColumns → ℕ → Option ℕ → Qualified
function_type nodes j i entity = plain (type.Function (or_first i (definition_of nodes j.names.now entity))) false false

abbrev pub entity_type : Declared → List Node → CheckedColumns → ℕ → Option ℕ → Qualified
entity_type (Function row more) nodes j i entity = function_type nodes j i entity
entity_type (Object row register) nodes j i entity = composite_type nodes j entity
entity_type other nodes j i entity = type_named j (whole_of nodes j i)

-- the type of an entity at the node that declares it first, and else what a declaration gives its name
abbrev pub name_type : Parsed → CheckedColumns → ℕ → Qualified
name_type u j i =
    if is_here i (first_declared u j.names.now (entity_of u.nodes j.names.now i))
    then entity_type (declared_of j (whole_of u.nodes j i)) u.nodes j i (entity_of u.nodes j.names.now i)
    else type_named j (whole_of u.nodes j i)

-- a cast has the type that it names (6.5.4), a `return` what its function gives (6.8.6.4)
abbrev pub named_by : Option Kind → Parsed → CheckedColumns → ℕ → Qualified
named_by (Some kind.NameDeclarator) u j i = name_type u j i
named_by (Some kind.Cast) u j i = type_named j (part_of u.nodes (Some i) 0)
named_by (Some kind.Return) u j i = type_at j.table.now (entry_of j.results.now 0 (around_of j (Some i)).function)
named_by k u j i = unknown

abbrev pub named_of : Parsed → CheckedColumns → ℕ → Qualified
named_of u j i = named_by (kind_at u.nodes i) u j i
