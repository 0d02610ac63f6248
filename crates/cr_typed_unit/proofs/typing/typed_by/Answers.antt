use Rattle.std.proofs.Common.{IfOk, subst, sym}
use Rattle.cr_holding.proofs.Kept.{stays}
use Rattle.cr_typed_fit.specs.Fits.{IsFitting}
use Rattle.cr_typed_unit.specs.Typed.{IsTypedOf}
use Rattle.cr_typed_unit.proofs.Made.{typed_of}
use Rattle.cr_typed_unit.proofs.typing.typed_by.Goals as goal

pub returns : goal.returns
returns c =
    let typed = c.in_ok-typed.typed in
    let is = IsTypedOf c.args.file.now c.args.unit c.args.names.now in
    subst (λ r. IfOk r is) (sym c.and.ensures)
    (stays is (IsFitting typed) c.fitting.result typed c.fitting.ensures
    (typed_of c.args.file.now c.args.unit c.args.names.now typed c.requires.spans c.in_ok-typed.ensures.few c.in_ok-typed.ensures.assembled))
