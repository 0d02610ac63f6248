-- What is used is defined (C11 6.9p3, p5), and `main` is: K40.
use Rattle.std.specs.Prelude.{ℕ, Bool, true, false, not, ◌&&◌, ◌==◌, List, [], ◌∷◌, Option, None, Some, is_none}
use Rattle.std.specs.List.{list_all, list_any}
use Rattle.cr_syntax.specs.declared.node.Kind.{Kind}
use Rattle.cr_syntax.specs.declared.node.Kind.TheVariants as kind
use Rattle.cr_scopes_events.specs.Scripts.{parts_at}
use Rattle.cr_scopes.specs.declared.names.Entity.{Entity}
use Rattle.cr_scopes.specs.declared.names.Names.{Names}
use Rattle.cr_check_declarators.specs.declared.words.Class.{Class}
use Rattle.cr_check_declarators.specs.declared.words.Class.TheVariants as class
use Rattle.cr_check_declarators.specs.declared.words.Storage.{Storage}
use Rattle.cr_check_declarators.specs.Functions.{library_of}
use Rattle.cr_check_expressions.specs.Known.{Meaning, an_object, an_enumerator, a_function, a_type, unclear}
use Rattle.cr_check_definitions.specs.Known.{Known, first_part, kind_above}
use Rattle.cr_check_definitions.specs.Mains.{has_main}

abbrev pub is_definition : Option Kind → Bool
is_definition (Some kind.FunctionDefinition) = true
is_definition other = false

abbrev pub is_declaration : Option Kind → Bool
is_declaration (Some kind.Declaration) = true
is_declaration other = false

abbrev pub is_extern_class : Class → Bool
is_extern_class class.Extern = true
is_extern_class other = false

abbrev pub is_extern_by : Option Storage → Bool
is_extern_by None = false
is_extern_by (Some storage) = is_extern_class storage.class

abbrev pub is_extern_if : Known → Option ℕ → Bool
is_extern_if k None = false
is_extern_if k (Some specifiers) = is_extern_by (k.specified specifiers).storage

abbrev pub is_extern_above : Known → Option ℕ → Bool
is_extern_above k None = false
is_extern_above k (Some above) = is_extern_if k (first_part (parts_at k.nodes above))

-- the specifiers of the declaration that a declarator stands in say `extern`
abbrev pub is_extern : Known → ℕ → Bool
is_extern k node = is_extern_above k (k.above node)

-- A declaration leaves the definition to another one: that of a function without its body, but for the library's (6.9.1), and that of an
-- object with `extern` and without an initialiser (6.7p5, 6.9.2p1, p2).
abbrev pub open_by : Meaning → Option Kind → Bool → Bool → Bool
open_by (an_object type register) above external library = is_declaration above && external
open_by (an_enumerator value) above external library = false
open_by (a_function signature) above external library = not (is_definition above) && not library
open_by a_type above external library = false
open_by unclear above external library = false

abbrev pub is_library : Known → ℕ → Bool
is_library k token = not (is_none (library_of (k.spelling token)))

abbrev pub is_open_at : Known → ℕ → ℕ → Bool
is_open_at k token node = open_by (k.stands node) (kind_above k node) (is_extern k node) (is_library k token)

abbrev pub is_open_if : Known → ℕ → Option ℕ → Bool
is_open_if k token None = false
is_open_if k token (Some node) = is_open_at k token node

-- by the token of its name
abbrev pub is_open : Known → ℕ → Bool
is_open k token = is_open_if k token (k.declarer token)

abbrev pub is_used : List ℕ → Bool
is_used [] = false
is_used (token ∷ tokens) = true

-- it is used, in `sizeof` too (own), and all its declarations leave the definition to another one
abbrev pub is_undefined : Known → Entity → Bool
is_undefined k entity = entity.space == 0 && (is_used entity.uses && list_all (is_open k) entity.declared)

-- K40
abbrev pub is_defined : Known → List ℕ → Names → Bool
is_defined k items names = has_main k items && not (list_any (is_undefined k) names.entities)
