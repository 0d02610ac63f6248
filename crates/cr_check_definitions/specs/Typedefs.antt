-- Typedef names that are declared again (C11 6.7p3).
use Rattle.std.specs.Prelude.{◌≡◌, ℕ, ◌<◌, ◌≤◌, ◌==◌, Bool, true, false, not, ◌&&◌, List, [], ◌∷◌, Option, None, Some, IfSome, length, is_none, slice_index_or, if◌then◌else◌}
use Rattle.cr_check_types.specs.declared.shape.Shape.{Shape}
use Rattle.cr_check_types.specs.Types.{Qualified, type_at}
use Rattle.cr_check_operands.specs.Places.{found_by}
use Rattle.cr_scopes.specs.declared.names.Names.{Names}
use Rattle.cr_scopes.specs.Looking.{or_else}
use Rattle.cr_check_expressions.specs.Known.{Meaning, an_object, an_enumerator, a_function, a_type, unclear}
use Rattle.cr_check_expressions.specs.Ruled.{is_type}
use Rattle.cr_check_definitions.specs.Known.{Known, declared_in}

abbrev pub is_type_name : Meaning → Bool
is_type_name (an_object type register) = false
is_type_name (an_enumerator value) = false
is_type_name (a_function signature) = false
is_type_name a_type = true
is_type_name unclear = false

-- A function type stands only as that of a declared function (K8), so a typedef of one has no type.
abbrev pub is_typedef : Known → ℕ → Bool
is_typedef k node = is_type_name (k.stands node) && is_none (k.function node)

abbrev pub type_if : Bool → Qualified → Option Qualified
type_if there type = if there then Some type else None

abbrev pub typedef_at : Known → ℕ → Option Qualified
typedef_at k node = type_if (is_typedef k node && is_type (k.named node)) (k.named node)

abbrev pub typedef_if : Known → Option ℕ → Option Qualified
typedef_if k None = None
typedef_if k (Some node) = typedef_at k node

-- the type that a token gives its typedef name, if it has one
abbrev pub typedef_of : Known → ℕ → Option Qualified
typedef_of k token = typedef_if k (k.declarer token)

-- of tokens the first that gives a type
abbrev pub first_given : (ℕ → Option Qualified) → List ℕ → Option Qualified
first_given given [] = None
first_given given (token ∷ tokens) = or_else (given token) (first_given given tokens)

abbrev pub given_if : Known → Names → Option ℕ → Option Qualified
given_if k names None = None
given_if k names (Some entity) = first_given (typedef_of k) (declared_in names entity)

-- what the first declaration with a type gives a token's name
abbrev pub given_first : Known → Names → ℕ → Option Qualified
given_first k names token = given_if k names (slice_index_or names.of_token token None)

-- the name is declared again with another type
pub record IsTwice (k : Known) (names : Names) (token : ℕ) : Type 0 where
  pub own : Qualified
  pub first : Qualified
  pub is : typedef_of k token ≡ Some own
  pub given : given_first k names token ≡ Some first
  pub other : own ≡ first → ⊥

-- the first such token
abbrev pub IsFirstTwice : Known → Names → Option ℕ → Type 0
IsFirstTwice k names None = (token : ℕ) → IsTwice k names token → ⊥
IsFirstTwice k names (Some token) = IsTwice k names token × ((other : ℕ) → IsTwice k names other → token ≤ other)

-- ---- by rows

-- a row that is there, of a type
pub record IsRowOf (shapes : List Shape) (row : Option ℕ) (type : Option Qualified) : Type 0 where
  pub is : found_by (type_at shapes) row ≡ type
  pub within : IfSome row (λ r. r < length shapes)

-- both are there, and they are two
abbrev pub differ : Option ℕ → Option ℕ → Bool
differ None first = false
differ (Some row) None = false
differ (Some row) (Some first) = not (row == first)

abbrev pub entry_of : List (Option ℕ) → Option ℕ → Option ℕ
entry_of column None = None
entry_of column (Some entity) = slice_index_or column entity None

-- what entities are given first, by their numbers
abbrev pub AreFirsts : List Shape → Known → Names → ℕ → List (Option ℕ) → Type 0
AreFirsts shapes k names count firsts = (entity : ℕ) → entity < count
    → IsRowOf shapes (slice_index_or firsts entity None) (first_given (typedef_of k) (declared_in names entity))
