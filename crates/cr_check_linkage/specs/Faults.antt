-- Which constraints the declaration of a name breaks by the other declarations of it (K9, K10).
use Rattle.std.specs.Prelude.{ℕ, ◌||◌, List, [], ◌∷◌, Bool, Option, None, Some, slice_get, slice_index_or, if◌then◌else◌}
use Rattle.std.specs.Option.{is_some}
use Rattle.cr_syntax.specs.declared.node.Kind.{Kind}
use Rattle.cr_syntax.specs.declared.node.Kind.TheVariants as kind
use Rattle.cr_syntax.specs.declared.node.Node.{Node}
use Rattle.cr_check_expressions.specs.declared.least.Break.{Break}
use Rattle.cr_check_expressions.specs.Known.{spelling_of}
use Rattle.cr_check_declarators.specs.declared.words.Specified.{Specified}
use Rattle.cr_check_declarators.specs.declared.declarator.Declarator.{Declarator}
use Rattle.cr_check_declarators.specs.declared.functions.Library.{Library}
use Rattle.cr_check_declarators.specs.declared.linkages.Declaration.{Declaration}
use Rattle.cr_check_declarators.specs.Functions.{library_of}
use Rattle.cr_check_declarators.specs.Linkages.{is_again_of}
use Rattle.cr_check_declarations.specs.declared.tree.Tree.{Tree}
use Rattle.cr_check_declarations.specs.Named.{is_declarator}
use Rattle.cr_check_declarations.specs.Faults.{fault_at, token_if, name_in}
use Rattle.cr_check_linkage.specs.NameTypes.{NameType, disagrees, is_misdeclared}
use Rattle.cr_check_linkage.specs.Linked.{Past, linked_in, name_type_in, declaration_at}

-- the function of the library that a linked name is
abbrev pub library_at : Tree → Option ℕ → Option Library
library_at t None = None
library_at t (Some token) = library_of (spelling_of t.file.now t.tokens.now token)

-- the type that an initialiser has completed (6.7.9p22) is the declared one too
abbrev pub completed_faults : Past → Option ℕ → Option ℕ → NameType → List (Option Break)
completed_faults past declarator name now = fault_at 9 (token_if (disagrees (name_type_in past.composite declarator) now) name) ∷ []

abbrev pub name_faults : Past → Option ℕ → Option ℕ → Option Library → Declaration → NameType → List (Option Break)
name_faults past same name library does now =
    fault_at 9 (token_if (disagrees (name_type_in past.composite same) now || is_misdeclared library now) name)
    ∷ fault_at 10 (token_if (is_again_of (linked_in past.linked same) does (is_some library)) name)
    ∷ []

abbrev pub linked_faults : Option Declaration → Tree → (ℕ → Specified) → Declarator → Past → NameType → ℕ → List (Option Break)
linked_faults None t said own past now i = []
linked_faults (Some all) t said own past now i =
    name_faults past (slice_index_or t.same.now i None) (name_in t.nodes.now (Some i)) (library_at t (name_in t.nodes.now (Some i)))
    (declaration_at t said own past.linked i) now

-- the table: by what the declarations of its name did so far, and the type that uses see
abbrev pub faults_in : Kind → Option Declaration → Tree → (ℕ → Specified) → Declarator → Past → NameType → ℕ → Node → List (Option Break)
faults_in kind.InitDeclarator linked t said own past now i n =
    completed_faults past (slice_get n.parts 0) (name_in t.nodes.now (slice_get n.parts 0)) now
faults_in k linked t said own past now i n = if is_declarator k then linked_faults linked t said own past now i else []

abbrev pub faults_if : Option Node → Option Declaration → Tree → (ℕ → Specified) → Declarator → Past → NameType → ℕ → List (Option Break)
faults_if None linked t said own past now i = []
faults_if (Some n) linked t said own past now i = faults_in n.kind linked t said own past now i n
