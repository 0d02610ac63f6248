-- Labels (C11 6.8.1) that no `goto` of their function names (6.8.6.1).
use Rattle.std.specs.Prelude.{◌≡◌, ℕ, ◌+◌, Bool, ◌&&◌, ◌==◌, List, [], ◌∷◌, ◌++◌, length, slice_index_or, if◌then◌else◌}
use Rattle.std.specs.List.{list_any}
use Rattle.std.specs.Borrow.{Bor}
use Rattle.std.specs.Str.{bytes_eq}
use Rattle.cr_tokens.specs.declared.token.Token.{Token}
use Rattle.cr_syntax.specs.declared.node.Kind.{Kind}
use Rattle.cr_syntax.specs.declared.node.Kind.TheVariants.{FunctionDefinition, Goto, Label}
use Rattle.cr_syntax.specs.declared.node.Node.{Node}
use Rattle.pass_levels.specs.declared.counted.Counted.{Counted}
use Rattle.pass_levels.specs.Gathered.{gathered}
use Rattle.pass_levels.specs.Nodes.{node_at}
use Rattle.pass_levels.specs.Places.{gone, spelling_at}
use Rattle.pass_stmts.specs.declared.labels.Jump.{Jump}

-- how many definitions are listed when a node of this kind is
abbrev pub counting : Kind → ℕ → ℕ
counting FunctionDefinition count = count + 1
counting _ count = count

abbrev pub functions_from : ℕ → List Node → List ℕ
functions_from count [] = []
functions_from count (n ∷ ns) = count ∷ functions_from (counting n.kind count) ns

-- For each node the number of the function that it is in: how many definitions are listed before it. Each node is listed behind those below
-- it, and no definition has another one in it (6.9.1), so of the nodes below a definition, and of no others, that is its own number.
abbrev pub functions_of : List Node → List ℕ
functions_of nodes = functions_from 0 nodes

abbrev pub function_at : List ℕ → ℕ → ℕ
function_at functions k = slice_index_or functions k 0

-- what a `goto` names: the token behind its word, in its function
abbrev pub jump_by : Kind → ℕ → ℕ → List Jump
jump_by Goto function first = record { function = function; label = first + 1 } ∷ []
jump_by _ function first = []

abbrev pub jumps_of : List Node → List ℕ → List Jump
jumps_of nodes functions = gathered (λ k. jump_by (node_at nodes k).kind (function_at functions k) (node_at nodes k).first) (length nodes)

-- a `goto` names the label that this token spells, in a function of this number; a label has its whole function for a scope (6.2.1p3)
abbrev pub names_label : List ℕ → List Token → ℕ → ℕ → Jump → Bool
names_label file tokens function label jump = (jump.function == function) && bytes_eq (spelling_at file tokens jump.label) (spelling_at file tokens label)

-- labels by the numbers of their functions and their bytes
abbrev pub same_label : ℕ × Bor (List ℕ) → ℕ × Bor (List ℕ) → Bool
same_label a b = (a.0 == b.0) && bytes_eq a.1.now b.1.now

-- a set of labels has those that some `goto` names
abbrev pub AreNamed : List ℕ → List Token → List Jump → (ℕ × Bor (List ℕ) → Bool) → Type 0
AreNamed file tokens jumps named = (label : ℕ × Bor (List ℕ))
    → named label ≡ list_any (λ jump. (jump.function == label.0) && bytes_eq (spelling_at file tokens jump.label) label.1.now) jumps

-- a label and its `:` go, counted by the labelled statement
abbrev pub label_goes : List Token → Node → Counted
label_goes tokens n = record { first = n.first; last = n.last; edit = gone tokens n.first (n.first + 1) ∷ [] }

abbrev pub label_by : Kind → Bool → List Token → Node → List Counted
label_by Label named tokens n = if named then [] else label_goes tokens n ∷ []
label_by _ named tokens n = []

-- a label that no `goto` of its function names goes
abbrev pub labels_give : List ℕ → List Token → List Node → List ℕ → List Jump → ℕ → List Counted
labels_give file tokens nodes functions jumps k =
    label_by (node_at nodes k).kind (list_any (names_label file tokens (function_at functions k) (node_at nodes k).first) jumps) tokens (node_at nodes k)
