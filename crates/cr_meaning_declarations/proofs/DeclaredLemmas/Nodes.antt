-- The nodes of a file's typed unit are those of a unit of the grammar.
use Rattle.std.proofs.Common.{◌≡◌, ℕ, List, length, refl, sym, subst}
use Rattle.cr_tokens.specs.declared.token.Token.{Token}
use Rattle.cr_syntax.specs.declared.node.Node.{Node}
use Rattle.cr_syntax.specs.Kept.{AreWithin, PartsAreBelow, NamedOnce, ItemsAreNodes, row_in}
use Rattle.cr_syntax.specs.Words.{lexemes_of}
use Rattle.cr_syntax.specs.Spells.{AtMost}
use Rattle.cr_syntax.specs.Units.{IsUnit, most_levels}
use Rattle.cr_typed.specs.declared.typed.Typed.{Typed}
use Rattle.cr_typed_columns.specs.Reading.{parsed_of}
use Rattle.cr_typed_columns.specs.Columns.{IsElaborated}
use Rattle.cr_meaning_declarations.specs.Units.Owned.{AreOfUnit}
use Rattle.cr_meaning_declarations.specs.Declared.Files.{IsAssembledFile, IsUnitOfFile, assembled}

pub unit_of : (file : List ℕ) (t : Typed) → IsAssembledFile file t → AreOfUnit t
unit_of file t it = record {
  tokens = lexemes_of file it.unit.tokens.list.items;
  limit = AtMost most_levels;
  within = subst (λ (ts : List Token). AreWithin (length ts) t.nodes) (sym made.tokens_are) (subst (AreWithin (length it.unit.tokens.list.items)) (sym made.nodes_are) it.unit.within);
  below = subst PartsAreBelow (sym made.nodes_are) it.unit.parts_below;
  once = both NamedOnce it.unit.named_once;
  are = both ItemsAreNodes it.unit.items_are_nodes;
  is_unit = both (λ ns is. IsUnit (AtMost most_levels) (lexemes_of file it.unit.tokens.list.items) (row_in ns is)) it.is_tree.is_unit;
}
  where
    made : IsElaborated file (parsed_of it.unit) it.checked.checked.texts it.checked.by.columns t
    made = it.checked.by.elaborated

    both : (F : List Node → List ℕ → Type 0) → F it.unit.nodes it.unit.items → F t.nodes t.items
    both F h = subst (F t.nodes) (sym made.items_are) (subst (λ ns. F ns it.unit.items) (sym made.nodes_are) h)

-- their tokens are those of the file
pub tokens_of : (file : List ℕ) (t : Typed) (it : IsAssembledFile file t) → (unit_of file t it).tokens ≡ lexemes_of file it.unit.tokens.list.items
unfolding unit_of
tokens_of file t it = refl

-- and so it is of what has passed the test
pub of_unit : (file : List ℕ) (t : Typed) → IsUnitOfFile file t → AreOfUnit t
of_unit file t it = unit_of file t (assembled file t it)

pub unit_tokens : (file : List ℕ) (t : Typed) (it : IsUnitOfFile file t) → (of_unit file t it).tokens ≡ lexemes_of file it.unit.tokens.list.items
unfolding of_unit
unit_tokens file t it = tokens_of file t (assembled file t it)
