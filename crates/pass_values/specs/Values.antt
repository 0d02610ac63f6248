-- Pass v: what passes through a variable.
use Rattle.std.specs.Prelude.{ℕ, ◌-◌, ◌==◌, ◌&&◌, Bool, nat_le, List, [], ◌∷◌, Option, None, Some, drop, length, slice_get, slice_index, slice_index_or, if◌then◌else◌}
use Rattle.std.specs.List.{flat_map, list_any, position}
use Rattle.cr_tokens.specs.declared.token.Token.{Token}
use Rattle.cr_syntax.specs.declared.node.Kind.{Kind}
use Rattle.cr_syntax.specs.declared.node.Kind.TheVariants as kind
use Rattle.cr_syntax.specs.declared.node.Node.{Node}
use Rattle.cr_scopes.specs.declared.names.Names.{Names}
use Rattle.pass_edit.specs.declared.change.Change.{Change}
use Rattle.pass_edit.specs.declared.change.Text.TheVariants.{Semicolon}
use Rattle.pass_edit.specs.Menu.{Offering}
use Rattle.pass_levels.specs.declared.counted.Counted.{Counted}
use Rattle.pass_levels.specs.Gathered.{gathered}
use Rattle.pass_levels.specs.Level.{level_of}
use Rattle.pass_levels.specs.Nodes.{node_at}
use Rattle.pass_levels.specs.Places.{gone, replaced}
use Rattle.pass_params.specs.Functions.{number_of, part_at, same_number, uses_by}
use Rattle.pass_params.specs.Ordered.{ordered}
use Rattle.pass_values.specs.declared.declarators.Plain.{Plain}
use Rattle.pass_values.specs.Declarators.{Facts, comes_to, declarator_goes, declared_uses, initial_of, kept_by, named_in, plains_in}

-- an edit that a node counts
abbrev pub counted_by : Node → List Change → Counted
counted_by n edit = record { first = n.first; last = n.last; edit = edit }

-- Level 0: a declarator's initialiser comes to the one use of its name, and the declarator goes.
abbrev pub is_within : ℕ → ℕ → ℕ → Bool
is_within first last token = nat_le first token && nat_le token last

abbrev pub only_of : List ℕ → Option ℕ
only_of uses = if length uses == 1 then Some (slice_index uses 0) else None

abbrev pub moved : Facts → Node → List ℕ → ℕ → ℕ → ℕ → Counted
moved f n row at expression used = counted_by (node_at f.nodes (part_at row at))
    (ordered (comes_to f.tokens used expression ∷ (declarator_goes f.tokens n at (length row) (node_at f.nodes (part_at row at)) ∷ [])))

-- the use stands outside the declarator and its initialiser
abbrev pub moved_if : Facts → Node → List ℕ → ℕ → ℕ → ℕ → List Counted
moved_if f n row at expression used = if is_within (node_at f.nodes (part_at row at)).first (node_at f.nodes (part_at row at)).last used
    then [] else moved f n row at expression used ∷ []

abbrev pub moved_to : Option ℕ → Facts → Node → List ℕ → ℕ → ℕ → List Counted
moved_to None f n row at expression = []
moved_to (Some used) f n row at expression = moved_if f n row at expression used

abbrev pub only_use : Facts → ℕ → Option ℕ
only_use f part = only_of (declared_uses f.nodes f.names (named_in f.nodes part))

abbrev pub moved_by : Option ℕ → Facts → Node → List ℕ → ℕ → List Counted
moved_by None f n row at = []
moved_by (Some expression) f n row at = moved_to (only_use f (part_at row at)) f n row at expression

abbrev pub moved_at : Facts → Node → List ℕ → ℕ → List Counted
moved_at f n row at = moved_by (initial_of f.nodes (part_at row at)) f n row at

abbrev pub initials_by : Kind → Facts → Node → List ℕ → List Counted
initials_by kind.Declaration f n row = gathered (moved_at f n row) (length row)
initials_by _ f n row = []

abbrev pub initials_give : Facts → ℕ → List Counted
initials_give f k = initials_by (node_at f.nodes k).kind f (node_at f.nodes k) (drop 1 (node_at f.nodes k).parts)

-- Level 1: the right side of an assignment, which is a statement, comes to the other use of its left side; the statement becomes `;`, and the
-- declarator goes. The other use is none that is assigned likewise (C11 6.5.16.1): a name on the left of `=` isn't read.
abbrev pub left_name : Kind → Node → List ℕ
left_name kind.Identifier n = n.first ∷ []
left_name _ n = []

abbrev pub lefts_by : Kind → List Node → List ℕ → List ℕ
lefts_by kind.Assign nodes parts = left_name (node_at nodes (part_at parts 0)).kind (node_at nodes (part_at parts 0))
lefts_by _ nodes parts = []

abbrev pub lefts_from : List Node → ℕ → List ℕ
lefts_from nodes k = lefts_by (node_at nodes k).kind nodes (node_at nodes k).parts

abbrev pub lefts_in : List Node → List ℕ
lefts_in nodes = gathered (lefts_from nodes) (length nodes)

abbrev pub read_if : List ℕ → ℕ → Option ℕ
read_if lefts token = if list_any (λ left. left == token) lefts then None else Some token

abbrev pub read_of : List ℕ → Option ℕ → Option ℕ
read_of lefts None = None
read_of lefts (Some token) = read_if lefts token

abbrev pub other_by : ℕ → ℕ → ℕ → Option ℕ
other_by token one another = if one == token then Some another else if another == token then Some one else None

abbrev pub other_of : ℕ → List ℕ → Option ℕ
other_of token uses = if length uses == 2 then other_by token (slice_index uses 0) (slice_index uses 1) else None

-- the declarator of a number
abbrev pub plain_of : List Plain → ℕ → Plain
plain_of plains at = slice_index_or plains at (record { declaration = 0; at = 0; number = None })

abbrev pub plain_in : Facts → Plain → List ℕ → Change
plain_in f p row = declarator_goes f.tokens (node_at f.nodes p.declaration) p.at (length row) (node_at f.nodes (part_at row p.at))

abbrev pub plain_goes : Facts → Plain → Change
plain_goes f p = plain_in f p (drop 1 (node_at f.nodes p.declaration).parts)

abbrev pub assigned : Facts → Node → ℕ → ℕ → ℕ → Counted
assigned f n expression other at = counted_by n
    (ordered (comes_to f.tokens other expression ∷ (replaced f.tokens n.first n.last Semicolon ∷ (plain_goes f (plain_of f.plains at) ∷ []))))

-- the first declarator without initialiser that declares what a token names
abbrev pub declarator_from : Facts → ℕ → Option ℕ
declarator_from f token = position (λ p. same_number (number_of f.names token) p.number) f.plains

abbrev pub assigned_from : Option ℕ → Facts → Node → ℕ → ℕ → List Counted
assigned_from None f n expression other = []
assigned_from (Some at) f n expression other = assigned f n expression other at ∷ []

abbrev pub assigned_by : Option ℕ → Facts → Node → ℕ → ℕ → List Counted
assigned_by None f n expression token = []
assigned_by (Some other) f n expression token = assigned_from (declarator_from f token) f n expression other

abbrev pub other_use : Facts → ℕ → Option ℕ
other_use f token = read_of f.lefts (other_of token (uses_by f.names (number_of f.names token)))

abbrev pub assigned_to : Facts → Node → ℕ → ℕ → List Counted
assigned_to f n expression token = assigned_by (other_use f token) f n expression token

abbrev pub left_by : Kind → Facts → Node → ℕ → Node → List Counted
left_by kind.Identifier f n expression left = assigned_to f n expression left.first
left_by _ f n expression left = []

abbrev pub assignment_by : Kind → Facts → Node → List ℕ → List Counted
assignment_by kind.Assign f n parts = left_by (node_at f.nodes (part_at parts 0)).kind f n (part_at parts 1) (node_at f.nodes (part_at parts 0))
assignment_by _ f n parts = []

abbrev pub statement_of : Option ℕ → Facts → Node → List Counted
statement_of None f n = []
statement_of (Some part) f n = assignment_by (node_at f.nodes part).kind f n (node_at f.nodes part).parts

abbrev pub statement_by : Kind → Facts → Node → List Counted
statement_by kind.ExpressionStatement f n = statement_of (slice_get n.parts 0) f n
statement_by _ f n = []

abbrev pub assigned_give : Facts → ℕ → List Counted
assigned_give f k = statement_by (node_at f.nodes k).kind f (node_at f.nodes k)

-- Level 2: a declaration in a block becomes its initialiser.
abbrev pub bared : Facts → Node → ℕ → Counted
bared f n expression = counted_by n (gone f.tokens n.first ((node_at f.nodes expression).first - 1) ∷ [])

-- whose name has no use
abbrev pub bared_if : List ℕ → Facts → Node → ℕ → List Counted
bared_if uses f n expression = if length uses == 0 then bared f n expression ∷ [] else []

abbrev pub bared_of : Option ℕ → Facts → Node → ℕ → List Counted
bared_of None f n part = []
bared_of (Some expression) f n part = bared_if (declared_uses f.nodes f.names (named_in f.nodes part)) f n expression

-- and that has one declarator
abbrev pub bared_alone : Option ℕ → Facts → Node → List Counted
bared_alone None f n = []
bared_alone (Some part) f n = bared_of (initial_of f.nodes part) f n part

abbrev pub bared_by : Kind → Facts → Node → List Counted
bared_by kind.Declaration f n = bared_alone (only_of (drop 1 n.parts)) f n
bared_by _ f n = []

abbrev pub items_by : Kind → Facts → List ℕ → List Counted
items_by kind.Compound f parts = flat_map (λ p. bared_by (node_at f.nodes p).kind f (node_at f.nodes p)) parts
items_by _ f parts = []

abbrev pub items_give : Facts → ℕ → List Counted
items_give f k = items_by (node_at f.nodes k).kind f (node_at f.nodes k).parts

abbrev pub facts_in : List Token → List Node → Names → Facts
facts_in tokens nodes names = record { tokens = tokens; nodes = nodes; names = names; plains = plains_in nodes names; lefts = lefts_in nodes }

-- What pass v offers: at level 0 initialisers come to the one use of what they initialise, at level 1 right sides to the other use of their left
-- side, and at level 2 declarations become their initialisers.
abbrev pub v_offering : List Token → List Node → Names → Offering
v_offering tokens nodes names = record {
  levels = level_of (initials_give (facts_in tokens nodes names)) (length nodes)
      ∷ (level_of (assigned_give (facts_in tokens nodes names)) (length nodes)
      ∷ (level_of (items_give (facts_in tokens nodes names)) (length nodes)
      ∷ []));
  kept = kept_by tokens nodes;
}
