-- What is known of a unit where its expressions are judged: what its names stand for, which types are named, and its structures.
use Rattle.std.specs.Prelude.{ℕ, ℤ, suc, ◌<◌, ◌≤◌, ◌==◌, Bool, false, List, [], ◌∷◌, Option, None, Some, IfSome, length, slice_get, slice_index_or, slice_range, if◌then◌else◌}
use Rattle.cr_tokens.specs.declared.token.Token.{Token}
use Rattle.cr_syntax.specs.declared.node.Node.{Node}
pub use Rattle.cr_syntax.specs.Numbered.{spelling_if, spelling_of}
use Rattle.cr_check_types.specs.declared.layout.Layout.{Layout}
use Rattle.cr_check_types.specs.declared.shape.Shape.{Shape}
use Rattle.cr_check_types.specs.Types.{Qualified, type_at}
use Rattle.cr_check_operands.specs.Places.{found_by}
use Rattle.cr_check_expressions.specs.declared.known.Declared.{Declared}
use Rattle.cr_check_expressions.specs.declared.known.Declared.TheVariants.{Object, Enumerator, Function, TypeName, Unclear}
use Rattle.cr_check_expressions.specs.declared.known.Member.{Member}
use Rattle.cr_check_expressions.specs.declared.known.Known.{Known}

-- ---- names

-- the type of a function (6.7.6.3): its result, its parameters by their numbers, and whether a call may have more arguments
pub record Signature : Type 0 where
  pub gives : Qualified
  pub count : ℕ
  pub parameter : ℕ → Option Qualified
  pub more : Bool

-- what a name stands for: an object and whether it is declared `register`, an enumerator, a function, a type, or nothing known
pub data Meaning : Type 0 where
  an_object : Qualified → Bool → Meaning
  an_enumerator : ℤ → Meaning
  a_function : Signature → Meaning
  a_type : Meaning
  unclear : Meaning

-- ---- what rules ask of a unit

pub record Source : Type 0 where
  pub nodes : List Node
  -- the bytes of a token
  pub spelling : ℕ → List ℕ
  -- what the name of an identifier or a call stands for
  pub stands : ℕ → Meaning
  -- the bytes of the string literal at a node, its closing zero among them
  pub text : ℕ → ℕ
  -- the type that a type name names
  pub named : Option ℕ → Qualified
  -- the type of the member of a structure that a token names
  pub member : ℕ → ℕ → Option Qualified
  -- the layouts of the structures, by their nodes
  pub layouts : List Layout
  -- the structures with a constant member
  pub fixed : ℕ → Bool

-- ---- the same by rows of types

abbrev pub declared_by : List Declared → Option ℕ → Declared
declared_by declared None = Unclear
declared_by declared (Some node) = slice_index_or declared node Unclear

abbrev pub parameters_in : List (List ℕ) → Option ℕ → List ℕ
parameters_in rows None = []
parameters_in rows (Some node) = slice_index_or rows node []

abbrev pub meaning_by : (ℕ → Qualified) → List ℕ → Declared → Meaning
meaning_by look rows (Object row register) = an_object (look row) register
meaning_by look rows (Enumerator value) = an_enumerator value
meaning_by look rows (Function row more) =
    a_function (record { gives = look row; count = length rows; parameter = λ k. found_by look (slice_get rows k); more = more })
meaning_by look rows TypeName = a_type
meaning_by look rows Unclear = unclear

abbrev pub meaning_of : (ℕ → Qualified) → Known → Option ℕ → Meaning
meaning_of look known node = meaning_by look (parameters_in known.parameters.now node) (declared_by known.declared.now node)

abbrev pub named_row : List ℕ → Option ℕ → ℕ
named_row named None = 0
named_row named (Some node) = slice_index_or named node 0

-- of the first member of a name
abbrev pub row_of_name : ℕ → List Member → Option ℕ
row_of_name name [] = None
row_of_name name (member ∷ members) = if member.name == name then Some member.row else row_of_name name members

abbrev pub member_row : List ℕ → List (List Member) → ℕ → ℕ → Option ℕ
member_row names members structure token = row_of_name (slice_index_or names token 0) (slice_index_or members structure [])

abbrev pub source_of : (ℕ → Qualified) → Known → Source
source_of look known = record {
  nodes = known.nodes.now;
  spelling = spelling_of known.file.now known.tokens.now;
  stands = λ node. meaning_of look known (slice_index_or known.visible.now node None);
  text = λ node. length (slice_index_or known.texts.now node []);
  named = λ node. look (named_row known.named.now node);
  member = λ structure token. found_by look (member_row known.names.now known.members.now structure token);
  layouts = known.layouts.now;
  fixed = λ structure. slice_index_or known.fixed.now structure false;
}

-- by the rows of a table
abbrev pub source_at : List Shape → Known → Source
source_at shapes known = source_of (type_at shapes) known

abbrev pub meaning_at : List Shape → List ℕ → Declared → Meaning
meaning_at shapes rows declared = meaning_by (type_at shapes) rows declared

-- ---- the rows are there

-- what is declared names rows below this number
abbrev pub room_of_declared : Declared → ℕ
room_of_declared (Object row register) = suc row
room_of_declared (Enumerator value) = 0
room_of_declared (Function row more) = suc row
room_of_declared TypeName = 0
room_of_declared Unclear = 0

-- what is known names rows of a table of so many
pub record AreKnown (count : ℕ) (known : Known) : Type 0 where
  pub declared : (node : Option ℕ) → room_of_declared (declared_by known.declared.now node) ≤ count
  pub parameters : (node : Option ℕ) (k : ℕ) → IfSome (slice_get (parameters_in known.parameters.now node) k) (λ row. row < count)
  pub named : (node : Option ℕ) → named_row known.named.now node < count
  pub members : (structure token : ℕ) → IfSome (member_row known.names.now known.members.now structure token) (λ row. row < count)
