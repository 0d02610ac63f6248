-- The typed unit of a file.
use Rattle.std.specs.Prelude.{ℕ, List, length}
use Rattle.cr_tokens.specs.Tokens.{Tokenizes}
use Rattle.cr_syntax.specs.declared.unit.Unit as source
use Rattle.cr_syntax.specs.Kept.{row_in}
use Rattle.cr_syntax.specs.Words.{lexemes_of}
use Rattle.cr_syntax.specs.Units.{IsTreeOf}
use Rattle.cr_syntax_order.specs.Listed.{AreListed}
use Rattle.cr_scopes.specs.declared.names.Names.{Names}
use Rattle.cr_scopes.specs.Units.{AreUnitNames}
use Rattle.cr_typed.specs.declared.typed.Typed.{Typed}
use Rattle.cr_typed_unit.specs.Typed.{IsAssembledOf, IsTypedOf}

-- The tokens of the file are those of a unit, whose nodes are listed in order and whose names are known; it breaks no constraint, and is
-- typed so. This is what `IsTypedUnit` of `cr_lawful` says of a file.
pub record IsUnitOfFile (file : List ℕ) (typed : Typed) : Type 0 where
  pub unit : source.Unit
  pub names : Names
  pub tokenizes : Tokenizes file unit.tokens.list.items
  pub is_tree : IsTreeOf (lexemes_of file unit.tokens.list.items) (row_in unit.nodes unit.items)
  pub listed : AreListed unit.nodes 0 unit.items (length unit.nodes)
  pub known : AreUnitNames file unit names
  pub checked : IsTypedOf file unit names typed
  pub open checked use {by as made_by, by.{tree, columns}, checked.{table as shapes, texts, whole.{typing}}}

-- ---- the same before it is tested whether the unit fits

pub record IsAssembledFile (file : List ℕ) (typed : Typed) : Type 0 where
  pub unit : source.Unit
  pub names : Names
  pub tokenizes : Tokenizes file unit.tokens.list.items
  pub is_tree : IsTreeOf (lexemes_of file unit.tokens.list.items) (row_in unit.nodes unit.items)
  pub listed : AreListed unit.nodes 0 unit.items (length unit.nodes)
  pub known : AreUnitNames file unit names
  pub checked : IsAssembledOf file unit names typed
  pub open checked use {by as made_by, by.{tree, columns}, checked.{table as shapes, texts, whole.{typing}}}

-- what has passed the test
abbrev pub assembled : (file : List ℕ) (typed : Typed) → IsUnitOfFile file typed → IsAssembledFile file typed
assembled file typed it = record {
  unit = it.unit;
  names = it.names;
  tokenizes = it.tokenizes;
  is_tree = it.is_tree;
  listed = it.listed;
  known = it.known;
  checked = record {
    checked = it.checked.checked;
    by = record {
      tree = it.checked.by.tree;
      is = it.checked.by.is;
      sound = it.checked.by.sound;
      columns = it.checked.by.columns;
      are = it.checked.by.are;
      elaborated = it.checked.by.elaborated;
    };
  };
}
