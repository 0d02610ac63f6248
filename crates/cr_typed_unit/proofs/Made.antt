-- The columns of a typed unit as they are made.
use Rattle.std.proofs.Common.{◌≡◌, ◌<◌, ◌^◌, List, ℕ, [], length, subst}
use Rattle.cr_syntax.specs.declared.unit.Unit as source
use Rattle.cr_syntax.specs.Words.{AreSpans}
use Rattle.cr_scopes.specs.declared.names.Names.{Names}
use Rattle.cr_check_declarations.specs.declared.tree.Tree.{Tree}
use Rattle.cr_typed.specs.declared.typed.Typed.{Typed}
use Rattle.cr_typed_columns.specs.declared.checked.CheckedColumns.{CheckedColumns}
use Rattle.cr_typed_columns.specs.Reading.{parsed_of}
use Rattle.cr_typed_columns.specs.Columns.{IsElaborated}
use Rattle.cr_typed_fit.specs.Fits.{IsFitting}
use Rattle.cr_check.specs.declared.checked.Checked.{Checked}
use Rattle.cr_check.specs.Checked.{IsSoundOf}
use Rattle.cr_typed_unit.specs.Made.{IsMade}
use Rattle.cr_typed_unit.specs.Typed.{AreColumnsOf, IsAssembledOf, IsTypedOf}
use Rattle.cr_typed_unit.proofs.Fitted.{is_typed}

-- the columns are nothing of the literals
pub with_texts : (names : Names) (checked : Checked) (texts : List (List ℕ)) (t : Tree) (j : CheckedColumns)
    → AreColumnsOf names (record { surroundings = checked.surroundings; texts = texts; table = checked.table; whole = checked.whole }) t j
    → AreColumnsOf names checked t j
with_texts names checked texts t j h = record {
  table = h.table;
  names_are = h.names_are;
  spellings = h.spellings;
  declarers = h.declarers;
  above = h.above;
  around = h.around;
  facts = h.facts;
  specified = h.specified;
  declarators = h.declarators;
  named = h.named;
  declared = h.declared;
  composites = h.composites;
  statics = h.statics;
  members = h.members;
  layouts = h.layouts;
  lines = h.lines;
  results = h.results;
  labels = h.labels;
}

pub assembled_of : (file bytes : List ℕ) (unit : source.Unit) (names : Names) (checked rest : Checked) (texts : List (List ℕ)) (typed : Typed)
    → (sound : IsSoundOf file unit names checked) → bytes ≡ file → texts ≡ checked.texts
    → rest ≡ record { surroundings = checked.surroundings; texts = []; table = checked.table; whole = checked.whole }
    → IsMade bytes unit texts names rest sound.tree typed → IsAssembledOf file unit names typed
assembled_of file bytes unit names checked rest texts typed sound of_file of_texts of_checked made = record {
  checked = checked;
  by = record {
    tree = sound.tree;
    is = sound.is;
    sound = sound.sound;
    columns = made.columns;
    are = with_texts names checked [] sound.tree made.columns (subst (λ j. AreColumnsOf names j sound.tree made.columns) of_checked made.are);
    elaborated =
        subst (λ b. IsElaborated b (parsed_of unit) checked.texts made.columns typed) of_file
        (subst (λ ts. IsElaborated bytes (parsed_of unit) ts made.columns typed) of_texts made.elaborated);
  };
}

-- what fits is typed
pub typed_of : (file : List ℕ) (unit : source.Unit) (names : Names) (typed : Typed) → AreSpans file unit.tokens.list.items → length unit.nodes < 2 ^ 32
    → IsAssembledOf file unit names typed → IsFitting typed → IsTypedOf file unit names typed
typed_of file unit names typed spans few of fits = record {
  checked = of.checked;
  by = record {
    tree = of.by.tree;
    is = of.by.is;
    sound = of.by.sound;
    columns = of.by.columns;
    are = of.by.are;
    elaborated = of.by.elaborated;
    fits = is_typed file unit names of.checked of.by.tree of.by.columns typed of.by.is of.by.sound of.by.are of.by.elaborated spans few fits;
  };
}
