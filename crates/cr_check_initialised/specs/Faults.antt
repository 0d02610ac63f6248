-- Which constraints an initialised declarator breaks by what it initialises: K7 of the completed type, K11, K12, K13 and K37.
use Rattle.std.specs.Prelude.{ℕ, ◌-◌, ◌&&◌, List, [], ◌∷◌, Bool, false, Option, None, Some, nat_lt, slice_get}
use Rattle.cr_syntax.specs.declared.node.Kind.{Kind}
use Rattle.cr_syntax.specs.declared.node.Kind.TheVariants as kind
use Rattle.cr_syntax.specs.declared.node.Node.{Node}
use Rattle.cr_check_types.specs.declared.layout.Layout.{Layout}
use Rattle.cr_check_types.specs.Types.{Qualified}
use Rattle.cr_check_types.specs.Layouts.{layout_of}
use Rattle.cr_check_expressions.specs.declared.least.Break.{Break}
use Rattle.cr_check_declarators.specs.Declarators.{most_cells}
use Rattle.cr_check_initialisers.specs.Known.{Known}
use Rattle.cr_check_initialisers.specs.Plans.{Entry, is_open}
use Rattle.cr_check_initialisers.specs.Faults.{plan_faults}
use Rattle.cr_check_declarations.specs.declared.tree.Tree.{Tree}
use Rattle.cr_check_declarations.specs.Before.{Before, first_in}
use Rattle.cr_check_declarations.specs.Faults.{fault_at, token_if}
use Rattle.cr_check_initialised.specs.Durations.{is_static}

-- K7: an array whose size comes from its initialiser has too many cells
abbrev pub is_overfull : List Layout → Option Qualified → Qualified → Bool
is_overfull layouts None completed = false
is_overfull layouts (Some type) completed = is_open type && nat_lt most_cells (layout_of layouts completed).cells

-- the `=` stands before the initialiser
abbrev pub equals_before : List Node → Node → ℕ
equals_before nodes n = first_in nodes (slice_get n.parts 1) - 1

-- by the bracket without a size, the object's type before and the completed one, and the plan
abbrev pub faults_in : Kind → Known → Tree → Before → Option ℕ → Option Qualified → Qualified → List Entry → ℕ → Node → List (Option Break)
faults_in kind.InitDeclarator k t b bracket object completed xs i n =
    fault_at 7 (token_if (is_overfull b.layouts object completed) bracket)
    ∷ plan_faults k (is_static t b.specified (Some i)) (equals_before t.nodes.now n) xs
faults_in other k t b bracket object completed xs i n = []

abbrev pub faults_if : Option Node → Known → Tree → Before → Option ℕ → Option Qualified → Qualified → List Entry → ℕ → List (Option Break)
faults_if None k t b bracket object completed xs i = []
faults_if (Some n) k t b bracket object completed xs i = faults_in n.kind k t b bracket object completed xs i n
