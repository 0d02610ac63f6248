-- All nodes of a unit, by induction in their order.
use Rattle.std.proofs.Common.{◌≡◌, ℕ, zero, suc, ◌<◌, List, Some, slice_get, arith}
use Rattle.cr_syntax.specs.declared.node.Node.{Node}
use Rattle.cr_check_types.specs.declared.shape.Shape.{Shape}
use Rattle.cr_check_expressions.specs.declared.least.Break.{Break}
use Rattle.cr_check_declarations.specs.declared.tree.Tree.{Tree}
use Rattle.cr_check_unit.specs.declared.typing.Typing.{Typing}
use Rattle.cr_check_unit.specs.Typing.{IsTyping}
use Rattle.cr_check_unit.specs.Breaks.{IsBroken}
use Rattle.cr_meaning_typing.specs.Typed.Whole.{AreReadable}
use Rattle.cr_meaning_types.specs.Known.Shaped.{IsShaped}
use Rattle.cr_meaning_types.specs.Known.Sighted.{AreSighted}
use Rattle.cr_meaning_types.specs.Known.Known.{IsKnown, AreKnown}
use Rattle.cr_meaning_types.specs.Known.Laws.{TypesAreKnown, ExpressionsReadTypes}
use Rattle.cr_meaning_types.proofs.KnownLemmas.Specifying.{specified_known}
use Rattle.cr_meaning_types.proofs.KnownLemmas.Sizes.{sized_known, enumerated_known}
use Rattle.cr_meaning_types.proofs.KnownLemmas.Declaring.{declared_known}
use Rattle.cr_meaning_types.proofs.KnownLemmas.Listing.{named_known, parameters_known, members_known}
use Rattle.cr_meaning_types.proofs.KnownLemmas.Reading.{read_known, expression_known}

module _ (u : Tree) (texts : List (List ℕ)) (shapes : List Shape) (t : Typing) (h : IsTyping u texts shapes t) (holds : (b : Break) → IsBroken u texts shapes t b → ⊥)
    (shaped : IsShaped u) (sighted : AreSighted u) where
  node_known : (i : ℕ) (n : Node) → slice_get u.nodes.now i ≡ Some n → ((p : ℕ) → p < i → (m : Node) → slice_get u.nodes.now p ≡ Some m → IsKnown u shapes t p m) → IsKnown u shapes t i n
  node_known i n at below = record {
    expression = expression_known u texts shapes t h holds shaped sighted i n at below;
    specifiers = specified_known u texts shapes t h holds shaped sighted i n at below;
    sized = sized_known u texts shapes t h holds shaped i n at below;
    declared = declared_known u texts shapes t h holds shaped i n at below;
    parameters = parameters_known u texts shapes t h holds shaped i n at below;
    named = named_known u texts shapes t h holds shaped i n at below;
    enumerator = enumerated_known u texts shapes t h holds shaped i n at below;
    members = members_known u texts shapes t h holds shaped i n at below;
  }

  all_below : (m i : ℕ) → i < m → (n : Node) → slice_get u.nodes.now i ≡ Some n → IsKnown u shapes t i n
  all_below zero i low n at = absurd (omega (arith, low))
  all_below (suc m) i low n at = node_known i n at (λ p less. all_below m p (omega (arith, low, less)))

  pub all_known : AreKnown u shapes t
  all_known i n at = all_below (suc i) i (omega arith) n at

  pub all_readable : AreReadable u texts shapes t
  all_readable = record {
    operands = shaped.operands;
    reads = λ i n at e. read_known u texts shapes t h holds shaped sighted i n at (λ p less m there. all_known p m there) e;
  }

pub known : TypesAreKnown
known u texts shapes t h holds shaped sighted = all_known u texts shapes t h holds shaped sighted

pub readable : ExpressionsReadTypes
readable u texts shapes t h holds shaped sighted = all_readable u texts shapes t h holds shaped sighted
