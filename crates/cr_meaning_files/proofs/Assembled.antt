-- Whatever is assembled of a unit without fault fits, so the test of it says no of none, and the file has its typed unit.
use Rattle.std.proofs.Common.{ℕ, ◌<◌, ◌^◌, List, length}
use Rattle.cr_syntax.proofs.Spans.{spans_of}
use Rattle.cr_typed.specs.declared.typed.Typed.{Typed}
use Rattle.cr_typed_fit.specs.Fits.{IsFitting}
use Rattle.cr_typed_unit.proofs.Made.{typed_of}
use Rattle.cr_meaning_declarations.specs.Declared.Files.{IsUnitOfFile, IsAssembledFile}
use Rattle.cr_meaning_types.proofs.FittingLemmas.Fitting.{fits as typed_units_fit}
use Rattle.cr_meaning_references.proofs.TypedefsLemmas.Files.{are_seen}
use Rattle.cr_meaning_files.specs.Assembled.{AssembledUnitsFit, AssembledUnitsAreTyped}
use Rattle.cr_meaning_references.proofs.TreesLemmas.Shaped.{tree_shaped}
use Rattle.cr_meaning_references.proofs.TreesLemmas.Sighted.{tree_sighted}

module _ (file : List ℕ) (t : Typed) (it : IsAssembledFile file t) where
  open it use {made_by}

  fitting : IsFitting t
  fitting =
      typed_units_fit file it.unit it.names it.checked.checked made_by.tree made_by.columns t made_by.is made_by.sound made_by.are made_by.elaborated it.tokenizes
      (tree_shaped file t it) (tree_sighted file t it) (are_seen file t it)

  typed : length it.unit.nodes < 2 ^ 32 → IsUnitOfFile file t
  typed few = record {
    unit = it.unit;
    names = it.names;
    tokenizes = it.tokenizes;
    is_tree = it.is_tree;
    listed = it.listed;
    known = it.known;
    checked = typed_of file it.unit it.names t (spans_of it.tokenizes.falls) few it.checked fitting;
  }

pub fits : AssembledUnitsFit
fits = fitting

pub are_typed : AssembledUnitsAreTyped
are_typed = typed
