-- Which constraints a node of a declaration breaks (C11 6.7), by what it has itself and what the nodes before it have. A row is judged
-- only where what it speaks of has types.
use Rattle.std.specs.Prelude.{ℕ, ◌-◌, ◌&&◌, ◌||◌, List, [], ◌∷◌, Bool, true, false, not, Option, None, Some, drop, length, nat_lt, slice_get, slice_index_or, if◌then◌else◌}
use Rattle.std.specs.List.{list_any, list_all}
use Rattle.std.specs.Option.{is_some}
use Rattle.cr_syntax.specs.declared.node.Kind.{Kind}
use Rattle.cr_syntax.specs.declared.node.Kind.TheVariants as kind
use Rattle.cr_syntax.specs.declared.node.Node.{Node}
use Rattle.cr_check_enclosing.specs.declared.context.Place.{Place}
use Rattle.cr_check_enclosing.specs.declared.context.Place.TheVariants as place
use Rattle.cr_check_enclosing.specs.Around.{outermost}
use Rattle.cr_check_types.specs.declared.layout.Layout.{Layout}
use Rattle.cr_check_types.specs.declared.shape.Shape.{Shape}
use Rattle.cr_check_types.specs.Types.{Qualified, type_at}
use Rattle.cr_check_types.specs.Relations.{is_complete_at}
use Rattle.cr_check_types.specs.Layouts.{layout_of}
use Rattle.cr_scopes_events.specs.Declarators.{declarator_of}
use Rattle.cr_check_expressions.specs.declared.least.Break.{Break}
use Rattle.cr_check_expressions.specs.Breaks.{fault, argument_faults}
use Rattle.cr_check_declarators.specs.declared.words.Class.{Class}
use Rattle.cr_check_declarators.specs.declared.words.Specified.{Specified}
use Rattle.cr_check_declarators.specs.declared.declarator.Declarator.{Declarator}
use Rattle.cr_check_declarators.specs.declared.enumerators.Enumerated.{Enumerated}
use Rattle.cr_check_declarators.specs.Specifiers.{is_one_type_of, storage_fault_of, inline_fault_of, volatile_fault_of, declares_names, is_member}
use Rattle.cr_check_declarators.specs.Declarators.{whole_elements, whole_object, is_object_of, cells_fault_of, function_fault_of, open_fault_of}
use Rattle.cr_check_declarators.specs.Structures.{is_too_large_of}
use Rattle.cr_check_declarators.specs.Linkages.{linkage_of, may_be_initialised_of}
use Rattle.cr_check_declarations.specs.declared.tree.Tag.{Tag}
use Rattle.cr_check_declarations.specs.declared.tree.Tree.{Tree}
use Rattle.cr_check_declarations.specs.declared.faults.Own as columns
use Rattle.cr_check_declarations.specs.Before.{Before, kind_in, first_in, parts_in, type_in, specified_in, declarator_in}
use Rattle.cr_check_declarations.specs.Named.{is_declarator, declaration_of, is_initialised, specifiers_in, is_listed, tag_breaks, class_of, is_typedef, parameter_nodes}

-- ---- what a node has itself

pub record Has : Type 0 where
  pub specified : Specified
  pub declarator : Declarator
  pub derived : Qualified
  pub named : Qualified
  pub layout : Layout
  pub enumerated : Option Enumerated

abbrev pub has_at : List Shape → columns.Own → Has
has_at shapes own = record {
  specified = own.specified;
  declarator = own.declarator;
  derived = type_at shapes own.derivations;
  named = type_at shapes own.named;
  layout = own.layout;
  enumerated = own.enumerated;
}

-- a break at a token that is there
abbrev pub fault_at : ℕ → Option ℕ → Option Break
fault_at row None = None
fault_at row (Some token) = Some (record { token = token; row = row })

abbrev pub token_if : Bool → Option ℕ → Option ℕ
token_if judged token = if judged then token else None

abbrev pub place_of : Tree → ℕ → Place
place_of t i = (slice_index_or t.around.now i outermost).place

-- ---- specifiers

abbrev pub is_specifier : Kind → Bool
is_specifier kind.Specifiers = true
is_specifier kind.PlainSpecifiers = true
is_specifier kind.Typedef = true
is_specifier kind.Extern = true
is_specifier kind.Static = true
is_specifier kind.Auto = true
is_specifier kind.Register = true
is_specifier kind.Inline = true
is_specifier kind.Const = true
is_specifier kind.Volatile = true
is_specifier kind.Void = true
is_specifier kind.Char = true
is_specifier kind.Short = true
is_specifier kind.Int = true
is_specifier kind.Long = true
is_specifier kind.Signed = true
is_specifier kind.Unsigned = true
is_specifier kind.Bool = true
is_specifier kind.TypedefName = true
is_specifier kind.StructContent = true
is_specifier kind.StructTag = true
is_specifier kind.EnumContent = true
is_specifier kind.EnumTag = true
is_specifier k = false

abbrev pub are_specifiers : Option Kind → Bool
are_specifiers (Some kind.Specifiers) = true
are_specifiers (Some kind.PlainSpecifiers) = true
are_specifiers k = false

-- all specifiers of a declaration, and not one of several
abbrev pub is_whole : Tree → ℕ → Bool
is_whole t i = not (are_specifiers (kind_in t.nodes.now (slice_index_or t.above.now i None)))

-- a parameter, a member or a type name; the storage classes of other declarations are judged where these end
abbrev pub is_lone : Place → Bool
is_lone at = not (declares_names at)

-- K5
abbrev pub tag_fault : Kind → Tree → ℕ → Option Tag → Option Break
tag_fault k t i None = None
tag_fault k t i (Some tag) = fault 5 tag.token (tag_breaks k (kind_in t.nodes.now (Some tag.first)) (is_listed tag.content i))

-- the brace stands before the first member
abbrev pub brace_before : List Node → Node → ℕ
brace_before nodes n = first_in nodes (slice_get n.parts 0) - 1

abbrev pub specifier_faults : Has → Tree → Place → ℕ → Node → List (Option Break)
specifier_faults own t at i n =
    fault 1 n.first (is_whole t i && not (is_one_type_of own.specified))
    ∷ fault_at 2 (token_if (is_whole t i && is_lone at) (storage_fault_of own.specified at false))
    ∷ fault_at 4 (token_if (is_whole t i && is_lone at) (inline_fault_of own.specified at false))
    ∷ tag_fault n.kind t i (slice_index_or t.tags.now i None)
    ∷ fault 7 (brace_before t.nodes.now n) (is_too_large_of own.layout)
    ∷ fault_at 41 (token_if (is_whole t i) (volatile_fault_of own.specified at own.named))
    ∷ []

-- ---- declarations

-- a declarator, maybe with its initialiser, declares a function
abbrev pub is_function : (ℕ → Declarator) → ℕ → Bool
is_function at part = is_some (at part).function

abbrev pub is_nothing : List ℕ → Bool
is_nothing [] = true
is_nothing (part ∷ parts) = false

-- all that is declared is functions, and no type names
abbrev pub declares_functions : (ℕ → Declarator) → Specified → List ℕ → Bool
declares_functions has said declarators =
    not (is_typedef (class_of said.storage)) && (not (is_nothing declarators) && list_all (is_function has) declarators)

-- some of what is declared is a function, and no type names
abbrev pub declares_function : (ℕ → Declarator) → Specified → List ℕ → Bool
declares_function has said declarators = not (is_typedef (class_of said.storage)) && list_any (is_function has) declarators

abbrev pub declaration_faults : (ℕ → Declarator) → Place → Specified → List ℕ → Node → List (Option Break)
declaration_faults has at said declarators n =
    fault_at 2 (storage_fault_of said at (declares_function has said declarators))
    ∷ fault 3 n.first (is_nothing declarators && not said.declares)
    ∷ fault_at 4 (inline_fault_of said at (declares_functions has said declarators))
    ∷ []

-- ---- definitions of functions

abbrev pub name_or : Option ℕ → ℕ → ℕ
name_or None token = token
name_or (Some name) token = name

-- the name that a declarator declares, or the first token of its declaration
abbrev pub name_token : List Node → ℕ → Option ℕ → ℕ
name_token nodes declarator declaration = name_or (declarator_of nodes declarator).name (first_in nodes declaration)

abbrev pub name_in : List Node → Option ℕ → Option ℕ
name_in nodes None = None
name_in nodes (Some declarator) = (declarator_of nodes declarator).name

-- the name of a parameter
abbrev pub parameter_name : List Node → ℕ → Option ℕ
parameter_name nodes part = name_in nodes (slice_get (parts_in nodes (Some part)) 1)

abbrev pub list_in : List Node → Option ℕ → Option ℕ
list_in nodes None = None
list_in nodes (Some function) = slice_get (parts_in nodes (Some function)) 1

abbrev pub is_nameless : List Node → ℕ → Bool
is_nameless nodes part = not (is_some (parameter_name nodes part))

-- K6: a defined parameter has a complete type; one that is declared as a function breaks K8
abbrev pub parameter_fault : Before → List Node → ℕ → Option ℕ → Option Break
parameter_fault b nodes i None = None
parameter_fault b nodes i (Some part) =
    fault 6 (name_or (parameter_name nodes part) (first_in nodes (Some part)))
    (not (is_some (declarator_in b.declarator (slice_get (parts_in nodes (Some part)) 1)).function)
    && not (whole_object (is_complete_at nodes i) (b.named part)))

abbrev pub parameter_faults : Before → List Node → ℕ → List ℕ → List (Option Break)
parameter_faults b nodes i list = argument_faults (λ k. parameter_fault b nodes i (slice_get list k)) (length list)

-- K2, K4, K10 (a function by its own declarator, named parameters) and K6
abbrev pub definition_faults : Before → List Node → ℕ → Specified → Option ℕ → Option ℕ → List (Option Break)
definition_faults b nodes i said declarator function =
    fault_at 2 (storage_fault_of said place.Definition (is_some function))
    ∷ fault_at 4 (inline_fault_of said place.Definition (is_some function))
    ∷ fault 10 (name_or (name_in nodes declarator) (first_in nodes declarator)) (not (is_some function))
    ∷ fault 10 (first_in nodes (list_in nodes function) - 1) (list_any (is_nameless nodes) (parameter_nodes nodes (list_in nodes function)))
    ∷ parameter_faults b nodes i (parameter_nodes nodes (list_in nodes function))

-- ---- declarators

-- K6
abbrev pub is_incomplete : Has → List Node → ℕ → Place → Option Class → Qualified → Bool
is_incomplete own nodes i at storage base =
    not (whole_elements (is_complete_at nodes i) own.derived base)
    || (is_object_of at storage (is_some own.declarator.function) && not (whole_object (is_complete_at nodes i) own.named))

-- a declarator of a declaration whose specifiers say and name so much
abbrev pub declarator_faults : Has → Before → List Node → ℕ → Place → Option Class → Bool → Qualified → ℕ → List (Option Break)
declarator_faults own b nodes i at storage initialised base name =
    fault 6 name (is_incomplete own nodes i at storage base)
    ∷ fault_at 7 own.declarator.wrong
    ∷ fault_at 7 (cells_fault_of own.declarator (layout_of b.layouts base))
    ∷ fault 8 name (function_fault_of own.declarator at (is_typedef storage) own.named)
    ∷ fault_at 14 (open_fault_of own.declarator at storage initialised)
    ∷ fault_at 41 (token_if (is_member at) own.declarator.volatile)
    ∷ []

abbrev pub whole_faults : Has → Before → Tree → ℕ → Option ℕ → List (Option Break)
whole_faults own b t i None = []
whole_faults own b t i (Some declaration) =
    declarator_faults own b t.nodes.now i (place_of t i)
    (class_of (specified_in b.specified (specifiers_in t.nodes.now (Some declaration))).storage)
    (is_initialised (kind_in t.nodes.now (slice_index_or t.above.now i None)))
    (type_in b.named (specifiers_in t.nodes.now (Some declaration))) (name_token t.nodes.now i (Some declaration))

-- K11: what may have an initialiser at all. A declaration that has linkage in a block has it whatever is visible there.
abbrev pub may_have_initialiser : Place → Option Class → Bool → Bool
may_have_initialiser at storage function = may_be_initialised_of at (is_typedef storage) function (linkage_of at storage function None)

abbrev pub initialised_faults : Declarator → (ℕ → Specified) → Tree → ℕ → Node → Option ℕ → List (Option Break)
initialised_faults own said t i n declaration =
    fault 11 (first_in t.nodes.now (slice_get n.parts 1))
    (not (may_have_initialiser (place_of t i) (class_of (specified_in said (specifiers_in t.nodes.now declaration)).storage) (is_some own.function)))
    ∷ []

-- K15
abbrev pub enumerator_breaks : Option Enumerated → Bool
enumerator_breaks None = false
enumerator_breaks (Some own) = own.broken

-- ---- the table

abbrev pub other_faults : Kind → Has → Before → Tree → ℕ → Node → List (Option Break)
other_faults k own b t i n =
    if is_specifier k then specifier_faults own t (place_of t i) i n
    else (if is_declarator k then whole_faults own b t i (declaration_of t.nodes.now t.above.now i) else [])

abbrev pub faults_in : Kind → Has → Before → Tree → ℕ → Node → List (Option Break)
faults_in kind.Declaration own b t i n =
    declaration_faults b.declarator (place_of t i) (specified_in b.specified (slice_get n.parts 0)) (drop 1 n.parts) n
faults_in kind.FunctionDefinition own b t i n =
    definition_faults b t.nodes.now i (specified_in b.specified (slice_get n.parts 0)) (slice_get n.parts 1)
    (declarator_in b.declarator (slice_get n.parts 1)).function
faults_in kind.InitDeclarator own b t i n = initialised_faults own.declarator b.specified t i n (declaration_of t.nodes.now t.above.now i)
faults_in kind.Enumerator own b t i n = fault 15 n.first (enumerator_breaks own.enumerated) ∷ []
faults_in k own b t i n = other_faults k own b t i n

abbrev pub faults_if : Option Node → Has → Before → Tree → ℕ → List (Option Break)
faults_if None own b t i = []
faults_if (Some n) own b t i = faults_in n.kind own b t i n
