-- What names and tags of a file's unit find is declared (C11 6.2.1p7, 6.7.2.3).
use Rattle.std.proofs.Common.{ℕ, List}
use Rattle.cr_typed.specs.declared.typed.Typed.{Typed}
use Rattle.cr_meaning_declarations.specs.Declared.Files.{IsUnitOfFile, assembled}
use Rattle.cr_meaning_types.proofs.FoundLemmas.Names.{declared as are_declared}
use Rattle.cr_meaning_types.specs.Known.Sighted.{AreSighted}
use Rattle.cr_meaning_references.specs.Trees.Laws.{TreesAreSighted}
use Rattle.cr_meaning_references.proofs.ToldLemmas.Asked.{all_found}
use Rattle.cr_meaning_references.proofs.TypedefsLemmas.Files.{no_enumerators}

pub tree_sighted : TreesAreSighted
tree_sighted file t it =
    are_declared file it.unit it.names it.checked.checked.surroundings it.tree it.made_by.is.surroundings it.made_by.is.whole.tree
    (all_found file t it (record { typed = no_enumerators file t it }))

pub sighted : (file : List ℕ) (t : Typed) (it : IsUnitOfFile file t) → AreSighted it.tree
sighted file t it = tree_sighted file t (assembled file t it)
