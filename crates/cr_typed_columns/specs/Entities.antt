-- What the names of a unit stand for, by the nodes that declare them (C11 6.2.1, 6.2.2).
use Rattle.std.specs.Prelude.{ℕ, Bool, true, false, ◌&&◌, not, nat_lt, List, Option, None, Some, length, if◌then◌else◌}
use Rattle.std.specs.Option.{is_some}
use Rattle.cr_syntax.specs.declared.node.Kind.{Kind}
use Rattle.cr_syntax.specs.declared.node.Kind.TheVariants as kind
use Rattle.cr_syntax.specs.declared.node.Node.{Node}
use Rattle.cr_scopes_events.specs.Scripts.{kind_at, first_at}
use Rattle.cr_scopes_events.specs.Declarators.{declarator_of}
use Rattle.cr_scopes.specs.declared.names.Names.{Names}
use Rattle.cr_scopes_bindings.specs.Last.{last_with, AreLast}
use Rattle.cr_scopes_bindings.specs.Entities.{entity_if, first_of}
use Rattle.cr_check_declarators.specs.declared.words.Class.{Class}
use Rattle.cr_check_declarators.specs.declared.words.Class.TheVariants as class
use Rattle.cr_check_declarators.specs.declared.words.Storage.{Storage}
use Rattle.cr_check_declarators.specs.Specifiers.{nothing}
use Rattle.cr_check_expressions.specs.declared.known.Declared.{Declared}
use Rattle.cr_check_expressions.specs.declared.known.Declared.TheVariants.{Object, Unclear}
use Rattle.cr_typed_columns.specs.declared.checked.CheckedColumns.{CheckedColumns}
use Rattle.cr_typed_columns.specs.declared.lasts.Found.{Found}
use Rattle.cr_typed_columns.specs.Reading.{Parsed, kind_of, part_of, entry_of}

-- ---- declared names

abbrev pub is_name : Option Kind → Bool
is_name (Some kind.NameDeclarator) = true
is_name k = false

-- the token of a declared identifier, at its own node
abbrev pub named_token : List Node → ℕ → Option ℕ
named_token nodes i = if is_name (kind_at nodes i) then first_at nodes i else None

-- the last number below a bound whose key this is; there are so many keys
abbrev pub last_below : (ℕ → Option ℕ) → ℕ → ℕ → ℕ → Option ℕ
last_below key bound keys k = if nat_lt k keys then last_with key bound k else None

-- the same where there is a key
abbrev pub last_of : (ℕ → Option ℕ) → ℕ → ℕ → Option ℕ → Option ℕ
last_of key bound keys None = None
last_of key bound keys (Some k) = last_below key bound keys k

-- the node of the identifier that a token declares
abbrev pub name_node : Parsed → Option ℕ → Option ℕ
name_node u token = last_of (named_token u.nodes) (length u.nodes) (length u.tokens) token

-- what a declared identifier stands for
abbrev pub entity_of : List Node → Names → ℕ → Option ℕ
entity_of nodes names i = entity_if names (named_token nodes i)

-- ---- its declarations

-- the node that declares an entity first, and the one that declares it last
abbrev pub first_declared : Parsed → Names → Option ℕ → Option ℕ
first_declared u names entity = name_node u (first_of names entity)

abbrev pub last_declared : List Node → Names → Option ℕ → Option ℕ
last_declared nodes names entity = last_of (entity_of nodes names) (length nodes) (length names.entities) entity

abbrev pub is_definition : Option Kind → Bool
is_definition (Some kind.FunctionDefinition) = true
is_definition k = false

-- the identifier that a declarator declares
abbrev pub declared_token : List Node → Option ℕ → Option ℕ
declared_token nodes None = None
declared_token nodes (Some declarator) = (declarator_of nodes declarator).name

-- the function that a definition defines, by its declarator (6.9.1)
abbrev pub defined_entity : List Node → Names → ℕ → Option ℕ
defined_entity nodes names i =
    if is_definition (kind_at nodes i) then entity_if names (declared_token nodes (part_of nodes (Some i) 1)) else None

abbrev pub definition_of : List Node → Names → Option ℕ → Option ℕ
definition_of nodes names entity = last_of (defined_entity nodes names) (length nodes) (length names.entities) entity

-- ---- objects

-- the whole declarator that declares a name
abbrev pub whole_of : List Node → CheckedColumns → ℕ → Option ℕ
whole_of nodes j i = entry_of j.declarers.now None (named_token nodes i)

abbrev pub declared_of : CheckedColumns → Option ℕ → Declared
declared_of j whole = entry_of j.declared.now Unclear whole

abbrev pub is_object : Declared → Bool
is_object (Object row register) = true
is_object other = false

abbrev pub is_declaration : Option Kind → Bool
is_declaration (Some kind.Declaration) = true
is_declaration k = false

abbrev pub is_extern_class : Class → Bool
is_extern_class class.Extern = true
is_extern_class other = false

abbrev pub is_extern : Option Storage → Bool
is_extern None = false
is_extern (Some storage) = is_extern_class storage.class

-- an object that a declaration names with `extern` and without an initialiser, which defines none (6.9.2p1, p2)
abbrev pub is_open : List Node → CheckedColumns → Option ℕ → Bool
is_open nodes j whole =
    is_declaration (kind_of nodes (entry_of j.above.now None whole))
    && is_extern (entry_of j.specified.now nothing (part_of nodes (entry_of j.above.now None whole) 0)).storage

abbrev pub keeps : List Node → CheckedColumns → Option ℕ → Bool
keeps nodes j whole = is_object (declared_of j whole) && not (is_open nodes j whole)

-- the object that a declaration defines
abbrev pub kept_entity : List Node → CheckedColumns → ℕ → Option ℕ
kept_entity nodes j i = if keeps nodes j (whole_of nodes j i) then entity_of nodes j.names.now i else None

-- some declaration of an object defines it
abbrev pub is_kept : List Node → CheckedColumns → Option ℕ → Bool
is_kept nodes j entity = is_some (last_of (kept_entity nodes j) (length nodes) (length j.names.now.entities) entity)

-- ---- the columns by which they are found

pub record AreFound (u : Parsed) (j : CheckedColumns) (found : Found) : Type 0 where
  pub names : AreLast (named_token u.nodes) (length u.nodes) (length u.tokens) found.names
  pub lasts : AreLast (entity_of u.nodes j.names.now) (length u.nodes) (length j.names.now.entities) found.lasts
  pub definitions : AreLast (defined_entity u.nodes j.names.now) (length u.nodes) (length j.names.now.entities) found.definitions
  pub kept : AreLast (kept_entity u.nodes j) (length u.nodes) (length j.names.now.entities) found.kept
