use Rattle.std.proofs.Common.{◌&&◌, subst, sym}
use Rattle.std.specs.Prelude.{Option}
use Rattle.cr_footprint.specs.Cell.{Cell, holds, IsLeastOf}
use Rattle.cr_footprint.proofs.Rising.{find-least, IsLeastOf-same, and-swap}
use Rattle.cr_footprint.proofs.cells.Cells.first_shared.Goals as goal

pub returns-then-len : goal.returns-then-len
returns-then-len c =
    let a = c.args.self.now.list in
    let b = c.args.other.now.list in
    let P : Option Cell → Type 0 = IsLeastOf (λ d. holds a d && holds b d) in
    subst P (sym c.first_within.ensures)
    (IsLeastOf-same (λ d. holds b d && holds a d) (λ d. holds a d && holds b d) _ (λ d. and-swap (holds b d) (holds a d))
    (find-least (holds a) b c.args.other.now.rising))

pub returns-else-len : goal.returns-else-len
returns-else-len c =
    let a = c.args.self.now.list in
    let b = c.args.other.now.list in
    let P : Option Cell → Type 0 = IsLeastOf (λ d. holds a d && holds b d) in
    subst P (sym c.first_within-else-len.ensures) (find-least (holds b) a c.args.self.now.rising)
