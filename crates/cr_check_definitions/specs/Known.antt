-- What is known of the declarations of a unit, by nodes and tokens.
use Rattle.std.specs.Prelude.{ℕ, ◌<◌, ◌≤◌, List, [], ◌∷◌, Option, None, Some, length, slice_get, slice_index_or}
use Rattle.cr_syntax.specs.declared.node.Kind.{Kind}
use Rattle.cr_syntax.specs.declared.node.Node.{Node}
use Rattle.cr_check_types.specs.Types.{Qualified, type_at}
use Rattle.cr_check_types.specs.Relations.{AreRows}
use Rattle.cr_scopes_events.specs.Scripts.{kind_at}
use Rattle.cr_scopes.specs.declared.names.Entity.{Entity}
use Rattle.cr_scopes.specs.declared.names.Names.{Names}
use Rattle.cr_check_declarators.specs.declared.words.Specified.{Specified}
use Rattle.cr_check_declarators.specs.Specifiers.{nothing}
use Rattle.cr_check_declarators.specs.Declarators.{name_alone}
use Rattle.cr_check_expressions.specs.declared.known.Declared.TheVariants.{Unclear}
use Rattle.cr_check_expressions.specs.Known.{Meaning, meaning_by, spelling_of, room_of_declared}
use Rattle.cr_check_definitions.specs.declared.known.Declarations.{Declarations}

pub record Known : Type 0 where
  pub nodes : List Node
  -- the bytes of a token
  pub spelling : ℕ → List ℕ
  -- the node above a node
  pub above : ℕ → Option ℕ
  -- the whole declarator, or the enumerator, that declares a token
  pub declarer : ℕ → Option ℕ
  -- what specifiers say
  pub specified : ℕ → Specified
  -- the function declarator next to a declarator's name
  pub function : ℕ → Option ℕ
  -- what a node declares
  pub stands : ℕ → Meaning
  -- the type of a declared name, or of the result of its function
  pub named : ℕ → Qualified

-- the same by columns and the rows of a table
abbrev pub known_of : Declarations → Known
known_of d = record {
  nodes = d.nodes.now;
  spelling = spelling_of d.file.now d.tokens.now;
  above = λ node. slice_index_or d.above.now node None;
  declarer = λ token. slice_index_or d.declarers.now token None;
  specified = λ node. slice_index_or d.specified.now node nothing;
  function = λ node. (slice_index_or d.declarators.now node name_alone).function;
  stands = λ node. meaning_by (type_at d.table.now) (slice_index_or d.parameters.now node []) (slice_index_or d.declared.now node Unclear);
  named = λ node. type_at d.table.now (slice_index_or d.named.now node 0);
}

-- the rows are there
pub record AreKnown (d : Declarations) : Type 0 where
  pub named : (node : ℕ) → slice_index_or d.named.now node 0 < length d.table.now
  pub declared : (node : ℕ) → room_of_declared (slice_index_or d.declared.now node Unclear) ≤ length d.table.now
  pub parameters : (node : ℕ) → AreRows d.table.now (slice_index_or d.parameters.now node [])

-- ---- nodes and entities

abbrev pub kind_if : List Node → Option ℕ → Option Kind
kind_if nodes None = None
kind_if nodes (Some node) = kind_at nodes node

abbrev pub kind_above : Known → ℕ → Option Kind
kind_above k node = kind_if k.nodes (k.above node)

abbrev pub first_part : List ℕ → Option ℕ
first_part [] = None
first_part (part ∷ parts) = Some part

abbrev pub declared_if : Option Entity → List ℕ
declared_if None = []
declared_if (Some entity) = entity.declared

-- the tokens that declare an entity
abbrev pub declared_in : Names → ℕ → List ℕ
declared_in names entity = declared_if (slice_get names.entities entity)
