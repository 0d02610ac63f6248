use Rattle.std.specs.Prelude.{IsTrue, ◌↔◌}
use Rattle.std.proofs.Common.{Bool, not, sym, subst}
use Rattle.cr_tokens.specs.Places.{StaysApart}
use Rattle.cr_printer.proofs.Spaces.{apart_without_space}
use Rattle.cr_printer.proofs.seam.stays_apart.Goals as goal

pub returns : goal.returns
returns c =
    let s = c.args.left.now in
    let t = c.args.right.now in
    subst (λ (b : Bool). IsTrue (not b) ↔ StaysApart s t) (sym c.needs_space.ensures)
    (apart_without_space s t c.requires.left c.requires.right c.requires.short)
