-- What declarators declare: the type of each name, and of which declaration a declarator is (C11 6.7.6).
use Rattle.std.specs.Prelude.{ℕ, List, [], ◌∷◌, Bool, true, false, not, Option, None, Some, drop, map, nat_lt, slice_get, slice_index_or, if◌then◌else◌}
use Rattle.std.specs.List.{flat_map}
use Rattle.cr_syntax.specs.declared.node.Kind.{Kind}
use Rattle.cr_syntax.specs.declared.node.Kind.TheVariants as kind
use Rattle.cr_syntax.specs.declared.node.Node.{Node}
use Rattle.cr_check_types.specs.Types.{Qualified, unknown}
use Rattle.cr_scopes_events.specs.Declarators.{declarator_of}
use Rattle.cr_check_expressions.specs.declared.known.Declared.{Declared}
use Rattle.cr_check_expressions.specs.declared.known.Declared.TheVariants.{Object, Enumerator, Function, TypeName, Unclear}
use Rattle.cr_check_expressions.specs.declared.known.Member.{Member}
use Rattle.cr_check_declarators.specs.declared.words.Class.{Class}
use Rattle.cr_check_declarators.specs.declared.words.Class.TheVariants as class
use Rattle.cr_check_declarators.specs.declared.words.Storage.{Storage}
use Rattle.cr_check_declarators.specs.declared.words.Specified.{Specified}
use Rattle.cr_check_declarators.specs.declared.declarator.Declarator.{Declarator}
use Rattle.cr_check_declarators.specs.declared.enumerators.Enumerated.{Enumerated}
use Rattle.cr_check_declarators.specs.Declarators.{declared_type}
use Rattle.cr_check_declarators.specs.Functions.{adjusted_type}
use Rattle.cr_check_declarators.specs.Structures.{tag_agrees}
use Rattle.cr_check_declarations.specs.declared.tree.Tag.{Tag}
use Rattle.cr_check_declarations.specs.declared.tree.Tree.{Tree}
use Rattle.cr_check_declarations.specs.Before.{Before, kind_in, parts_in, type_in}
use Rattle.cr_check_declarations.specs.Specifiers.{specified_type}

-- ---- whole declarators

abbrev pub is_declarator : Kind → Bool
is_declarator kind.NameDeclarator = true
is_declarator kind.GroupDeclarator = true
is_declarator kind.PointerDeclarator = true
is_declarator kind.ArrayDeclarator = true
is_declarator kind.FunctionDeclarator = true
is_declarator kind.AbstractPointer = true
is_declarator kind.AbstractGroup = true
is_declarator kind.AbstractArray = true
is_declarator kind.AbstractArrayOf = true
is_declarator k = false

-- specifiers are its first part, and declarators stand behind them
abbrev pub is_declaration : Option Kind → Bool
is_declaration (Some kind.Declaration) = true
is_declaration (Some kind.FunctionDefinition) = true
is_declaration (Some kind.MemberDeclaration) = true
is_declaration (Some kind.Parameter) = true
is_declaration (Some kind.TypeName) = true
is_declaration k = false

abbrev pub is_initialised : Option Kind → Bool
is_initialised (Some kind.InitDeclarator) = true
is_initialised k = false

abbrev pub above_in : List (Option ℕ) → Option ℕ → Option ℕ
above_in above None = None
above_in above (Some node) = slice_index_or above node None

abbrev pub declaration_at : List Node → Option ℕ → Option ℕ
declaration_at nodes above = if is_declaration (kind_in nodes above) then above else None

-- the declaration that has the node as a declarator, maybe with its initialiser; no part of a declarator has one
abbrev pub declaration_of : List Node → List (Option ℕ) → ℕ → Option ℕ
declaration_of nodes above i =
    if is_initialised (kind_in nodes (slice_index_or above i None)) then declaration_at nodes (above_in above (slice_index_or above i None))
    else declaration_at nodes (slice_index_or above i None)

abbrev pub specifiers_in : List Node → Option ℕ → Option ℕ
specifiers_in nodes declaration = slice_get (parts_in nodes declaration) 0

-- ---- types

abbrev pub is_parameter : Option Kind → Bool
is_parameter (Some kind.Parameter) = true
is_parameter k = false

abbrev pub adjusted_if : Bool → Qualified → Qualified
adjusted_if parameter type = if parameter then adjusted_type type else type

-- the type that a declarator of a declaration gives its name, or the result of its function
abbrev pub type_by : List Node → Before → Declarator → Qualified → Option ℕ → Qualified
type_by nodes b own derived None = unknown
type_by nodes b own derived (Some declaration) =
    adjusted_if (is_parameter (kind_in nodes (Some declaration)))
    (declared_type own derived (type_in b.named (specifiers_in nodes (Some declaration))))

-- the content of the tag stands before node i
abbrev pub is_listed : Option ℕ → ℕ → Bool
is_listed None i = false
is_listed (Some content) i = nat_lt content i

-- K5: a tag isn't used as it is declared first
abbrev pub tag_breaks : Kind → Option Kind → Bool → Bool
tag_breaks k None listed = false
tag_breaks k (Some first) listed = not (tag_agrees k first listed)

abbrev pub is_misused : Kind → List Node → Option Tag → ℕ → Bool
is_misused k nodes None i = false
is_misused k nodes (Some tag) i = tag_breaks k (kind_in nodes (Some tag.first)) (is_listed tag.content i)

-- the type that a node names by what it has itself: a type name and a parameter that of their declarator, and an initialised declarator
-- that of its declarator, which its initialiser may complete. Specifiers whose tag is misused name none.
abbrev pub named_by : Kind → Tree → Specified → Declarator → Qualified → Before → ℕ → Node → Qualified
named_by kind.TypeName t said own derived b i n = type_in b.named (slice_get n.parts 1)
named_by kind.Parameter t said own derived b i n = type_in b.named (slice_get n.parts 1)
named_by kind.InitDeclarator t said own derived b i n = type_in b.named (slice_get n.parts 0)
named_by k t said own derived b i n =
    if is_declarator k then type_by t.nodes.now b own derived (declaration_of t.nodes.now t.above.now i)
    else (if is_misused k t.nodes.now (slice_index_or t.tags.now i None) i then unknown
    else specified_type said k (slice_index_or t.tags.now i None) (slice_index_or t.visible.now i None) b i n)

-- ---- what names stand for

-- `typedef` counts before any other word beside it
abbrev pub class_of : Option Storage → Option Class
class_of None = None
class_of (Some storage) = if storage.typedefs then Some class.Typedef else Some storage.class

abbrev pub is_typedef : Option Class → Bool
is_typedef (Some class.Typedef) = true
is_typedef other = false

abbrev pub is_register : Option Class → Bool
is_register (Some class.Register) = true
is_register other = false

abbrev pub is_variadic_list : Option Kind → Bool
is_variadic_list (Some kind.VariadicParameters) = true
is_variadic_list k = false

-- the function has `...` behind its parameters
abbrev pub is_variadic : List Node → ℕ → Bool
is_variadic nodes function = is_variadic_list (kind_in nodes (slice_get (parts_in nodes (Some function)) 1))

abbrev pub value_by : List Node → Option Class → Option ℕ → ℕ → Declared
value_by nodes storage None row = Object row (is_register storage)
value_by nodes storage (Some function) row = Function row (is_variadic nodes function)

-- by the row of the type that the declarator gives
abbrev pub declared_as : List Node → Option Class → Declarator → ℕ → Declared
declared_as nodes storage own row = if is_typedef storage then TypeName else value_by nodes storage own.function row

-- members and type names declare no ordinary identifier (6.2.3)
abbrev pub names_ordinary : Option Kind → Bool
names_ordinary (Some kind.Declaration) = true
names_ordinary (Some kind.FunctionDefinition) = true
names_ordinary (Some kind.Parameter) = true
names_ordinary k = false

abbrev pub ordinary_by : List Node → (ℕ → Specified) → Declarator → ℕ → Option ℕ → Declared
ordinary_by nodes said own row None = Unclear
ordinary_by nodes said own row (Some specifiers) = declared_as nodes (class_of (said specifiers).storage) own row

abbrev pub ordinary_of : List Node → (ℕ → Specified) → Declarator → ℕ → Option ℕ → Declared
ordinary_of nodes said own row declaration =
    if names_ordinary (kind_in nodes declaration) then ordinary_by nodes said own row (specifiers_in nodes declaration) else Unclear

abbrev pub constant_by : Option Enumerated → Declared
constant_by None = Unclear
constant_by (Some own) = elim own.value [ None ↦ Unclear | Some value ↦ Enumerator value ]

abbrev pub declares_name : Kind → Bool
declares_name kind.InitDeclarator = true
declares_name k = is_declarator k

abbrev pub named_declared : Kind → List Node → (ℕ → Specified) → Declarator → ℕ → Option ℕ → Declared
named_declared k nodes said own row declaration = if declares_name k then ordinary_of nodes said own row declaration else Unclear

abbrev pub declared_by : Kind → List Node → (ℕ → Specified) → Declarator → ℕ → Option Enumerated → Option ℕ → Declared
declared_by kind.Enumerator nodes said own row enumerated declaration = constant_by enumerated
declared_by k nodes said own row enumerated declaration = named_declared k nodes said own row declaration

-- ---- parameters (6.7.6.3)

abbrev pub listed_by : Option Kind → List ℕ → ℕ → List ℕ
listed_by (Some kind.VoidParameters) parts list = []
listed_by (Some kind.Parameters) parts list = parts
listed_by (Some kind.VariadicParameters) parts list = parts
listed_by k parts list = list ∷ []

-- the parameters of a list, which is a lone parameter itself where it is no such list
abbrev pub parameter_nodes : List Node → Option ℕ → List ℕ
parameter_nodes nodes None = []
parameter_nodes nodes (Some list) = listed_by (kind_in nodes (Some list)) (parts_in nodes (Some list)) list

abbrev pub parameters_in : Before → Option ℕ → List Qualified
parameters_in b None = []
parameters_in b (Some part) = b.parameters part

-- those of its function
abbrev pub parameters_by : Kind → List Node → Before → Node → List Qualified
parameters_by kind.FunctionDeclarator nodes b n = map (λ p. adjusted_type (b.named p)) (parameter_nodes nodes (slice_get n.parts 1))
parameters_by kind.PointerDeclarator nodes b n = parameters_in b (slice_get n.parts 0)
parameters_by kind.ArrayDeclarator nodes b n = parameters_in b (slice_get n.parts 0)
parameters_by kind.GroupDeclarator nodes b n = parameters_in b (slice_get n.parts 0)
parameters_by kind.InitDeclarator nodes b n = parameters_in b (slice_get n.parts 0)
parameters_by k nodes b n = []

-- ---- members (6.7.2.1)

abbrev pub name_number : List ℕ → Option ℕ → ℕ
name_number names None = 0
name_number names (Some token) = slice_index_or names token 0

-- a declarator's member, by the number of its name's spelling and the row of its type
abbrev pub member_of : List Node → List ℕ → List ℕ → ℕ → Member
member_of nodes names named part =
    record { name = name_number names (declarator_of nodes part).name; row = slice_index_or named part 0 }

-- those of a declaration, or of all declarations in the content of a structure
abbrev pub members_by : Kind → List Node → List ℕ → List ℕ → List (List Member) → List ℕ → List Member
members_by kind.MemberDeclaration nodes names named members parts = map (member_of nodes names named) (drop 1 parts)
members_by kind.StructContent nodes names named members parts = flat_map (λ p. slice_index_or members p []) parts
members_by k nodes names named members parts = []
