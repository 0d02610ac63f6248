-- The rows that declarations name are there.
use Rattle.std.proofs.Common.{◌≡◌, List}
use Rattle.cr_check_types.specs.declared.shape.Shape.{Shape}
use Rattle.cr_check_unit.specs.declared.typing.Typing.{Typing}
use Rattle.cr_check_unit.specs.Typing.{AreWithin}
use Rattle.cr_check_definitions.specs.declared.known.Declarations.{Declarations}
use Rattle.cr_check_definitions.specs.Known.{AreKnown}

pub are_known : (d : Declarations) (shapes : List Shape) (t : Typing) → d.table.now ≡ shapes → d.declared.now ≡ t.declared
    → d.named.now ≡ t.named → d.parameters.now ≡ t.parameters → AreWithin shapes t → AreKnown d
are_known d shapes t table declared named parameters h = record {
  named = λ p. rw (table, named) (h.each p).named;
  declared = λ p. rw (table, declared) (h.each p).declared;
  parameters = λ p. rw (table, parameters) (h.each p).parameters;
}
