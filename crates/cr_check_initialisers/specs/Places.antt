-- Places: the parts of an object that an initialiser can initialise (C11 6.7.9).
use Rattle.std.specs.Prelude.{ℕ, ◌+◌, ◌==◌, ◌&&◌, ◌||◌, List, [], ◌∷◌, Bool, true, false, not, length, replicate, nat_lt, if◌then◌else◌}
use Rattle.std.specs.List.{list_all}
use Rattle.cr_ints.specs.declared.kind.IntKind.{IntKind}
use Rattle.cr_ints.specs.declared.kind.IntKind.TheVariants.{Char, SChar, UChar}
use Rattle.cr_syntax.specs.declared.ctype.CType.{CType}
use Rattle.cr_syntax.specs.declared.ctype.CType.TheVariants.{Int, Struct, Unknown}
use Rattle.cr_check_types.specs.Types.{Qualified, plain, pointer, array}
use Rattle.cr_check_initialisers.specs.Known.{Known}

-- a part of an object: the cell at which it begins, and its type
pub record Place : Type 0 where
  pub cell : ℕ
  pub type : Qualified

abbrev pub object : Qualified → Place
object type = record { cell = 0; type = type }

-- parts of these types from a cell on, one behind another (6.2.5p20, 6.7.2.1p15)
unfoldable pub laid : Known → ℕ → List Qualified → List Place
laid k cell [] = []
laid k cell (t ∷ ts) = record { cell = cell; type = t } ∷ laid k (cell + k.cells t) ts

-- the types of the parts that an aggregate has: of an array its elements, of a structure its members (6.7.9p17)
abbrev pub types_by : Known → CType → List Qualified
types_by k (Struct node) = k.members node
types_by k other = []

unfoldable pub types_in : Known → Qualified → List Qualified
types_in k (plain of c v) = types_by k of
types_in k (pointer c v t) = []
types_in k (array n t) = replicate n t

-- ---- what an expression without braces takes

abbrev pub is_char_kind : IntKind → Bool
is_char_kind Char = true
is_char_kind SChar = true
is_char_kind UChar = true
is_char_kind other = false

abbrev pub is_char_by : CType → Bool
is_char_by (Int kind) = is_char_kind kind
is_char_by other = false

-- a character type (6.2.5p15)
abbrev pub is_char : Qualified → Bool
is_char (plain of c v) = is_char_by of
is_char (pointer c v t) = false
is_char (array n t) = false

abbrev pub is_structure_by : ℕ → CType → Bool
is_structure_by node (Struct other) = other == node
is_structure_by node other = false

-- the structure of this node
abbrev pub is_structure : ℕ → Qualified → Bool
is_structure node (plain of c v) = is_structure_by node of
is_structure node (pointer c v t) = false
is_structure node (array n t) = false

abbrev pub is_unknown_by : CType → Bool
is_unknown_by Unknown = true
is_unknown_by other = false

-- no type
abbrev pub is_unknown : Qualified → Bool
is_unknown (plain of c v) = is_unknown_by of
is_unknown (pointer c v t) = false
is_unknown (array n t) = false

abbrev pub takes_by : CType → Qualified → Bool
takes_by (Struct node) type = is_structure node type
takes_by other type = true

-- an expression initialises a whole place: an array of characters by a string literal (6.7.9p14), a structure by one of its type
-- (p13), and every scalar (p11). By another one the first part of an array or a structure is initialised (p20)
unfoldable pub takes : Known → Qualified → ℕ → Bool
takes k (plain of c v) node = takes_by of (k.seen node).type
takes k (pointer c v t) node = true
takes k (array n t) node = is_char t && k.literal node

-- the structure in a type, that of an array's elements too, is of a node before the given one
abbrev pub is_earlier_leaf : ℕ → CType → Bool
is_earlier_leaf node (Struct other) = nat_lt other node
is_earlier_leaf node other = true

abbrev pub is_earlier : ℕ → Qualified → Bool
is_earlier node (plain of c v) = is_earlier_leaf node of
is_earlier node (pointer c v t) = true
is_earlier node (array n t) = is_earlier node t

-- a structure has members, all of types that are complete before it is (6.7.2.1p3)
abbrev pub are_made : ℕ → List Qualified → Bool
are_made node [] = false
are_made node (t ∷ ts) = list_all (is_earlier node) (t ∷ ts)

-- It isn't known what an expression without a type initialises at a structure's place, nor what any expression does at the place of a
-- structure or an array of which a declaration broke a constraint.
abbrev pub is_lost_by : Known → CType → Qualified → Bool
is_lost_by k (Struct node) type = is_unknown type || not (are_made node (k.members node))
is_lost_by k other type = false

unfoldable pub is_lost : Known → Qualified → ℕ → Bool
is_lost k (plain of c v) node = is_lost_by k of (k.seen node).type
is_lost k (pointer c v t) node = false
is_lost k (array n t) node = n == 0

-- ---- what a list in braces has places for

-- the node is a list in braces among the initialisers of another node, below which it stands
unfoldable pub opens : Known → ℕ → ℕ → Bool
opens k above node = nat_lt node above && k.listed node

abbrev pub begins_with_literal : Known → List ℕ → Bool
begins_with_literal k [] = false
begins_with_literal k (node ∷ rest) = k.literal node

abbrev pub encloses_by : CType → Bool
encloses_by (Struct node) = false
encloses_by other = true

-- braces enclose a place itself: a scalar (6.7.9p11), or an array of characters that a string literal initialises (p14)
unfoldable pub encloses : Known → Qualified → List ℕ → Bool
encloses k (plain of c v) list = encloses_by of
encloses k (pointer c v t) list = true
encloses k (array n t) list = is_char t && begins_with_literal k list

-- the types for which a list in braces is read: that of the place itself, or those of its parts (p17)
unfoldable pub types_within : Known → Qualified → List ℕ → List Qualified
types_within k type list = if encloses k type list then type ∷ [] else types_in k type

-- a whole object's; of an array of unknown size a list needs no more elements than it has initialisers (p22)
abbrev pub known_size : ℕ → ℕ → ℕ
known_size count most = if count == 0 then most else count

abbrev pub sized : Qualified → ℕ → Qualified
sized (plain of c v) most = plain of c v
sized (pointer c v t) most = pointer c v t
sized (array n t) most = array (known_size n most) t

unfoldable pub types_of_object : Known → Qualified → List ℕ → List Qualified
types_of_object k type list = if encloses k type list then type ∷ [] else types_in k (sized type (length list))
