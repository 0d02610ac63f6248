-- What says which type a name has, where it is read: the declarator that declares it, or the initialised declarator around that.
use Rattle.std.specs.Prelude.{◌==◌, ◌&&◌, ℕ, Bool, false, nat_lt, List, [], ◌∷◌, Option, None, Some, slice_get, slice_index_or, if◌then◌else◌}
use Rattle.cr_syntax.specs.declared.node.Kind.{Kind}
use Rattle.cr_syntax.specs.declared.node.Kind.TheVariants as kind
use Rattle.cr_syntax.specs.declared.node.Node.{Node}

abbrev pub is_first : ℕ → List ℕ → Bool
is_first part [] = false
is_first part (first ∷ rest) = first == part

-- the declarator is what an initialised declarator declares (6.7p1)
abbrev pub initialises : Kind → List ℕ → ℕ → Bool
initialises kind.InitDeclarator parts declarer = is_first declarer parts
initialises kind parts declarer = false

abbrev pub raised_by : Option Node → ℕ → ℕ → ℕ → ℕ
raised_by None above declarer reader = declarer
raised_by (Some n) above declarer reader = if initialises n.kind n.parts declarer && nat_lt above reader then above else declarer

abbrev pub raised_if : List Node → Option ℕ → ℕ → ℕ → ℕ
raised_if nodes None declarer reader = declarer
raised_if nodes (Some above) declarer reader = raised_by (slice_get nodes above) above declarer reader

-- A name is in scope as soon as its declarator ends (6.2.1p7), and an array of unknown size is completed where its initialiser ends
-- (6.7.9p22). Nodes are numbered as they end: so a node inside the initialiser reads of the declarator, and one behind it of the
-- initialised declarator.
abbrev pub raised : List Node → List (Option ℕ) → ℕ → ℕ → ℕ
raised nodes above declarer reader = raised_if nodes (slice_index_or above declarer None) declarer reader

-- the same, where there is a declaration
abbrev pub raised_of : List Node → List (Option ℕ) → Option ℕ → ℕ → Option ℕ
raised_of nodes above None reader = None
raised_of nodes above (Some declarer) reader = Some (raised nodes above declarer reader)
