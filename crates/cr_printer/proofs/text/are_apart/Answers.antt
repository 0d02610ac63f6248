use Rattle.std.proofs.Common.{List, ℕ, sym, subst}
use Rattle.cr_printer.specs.Pieces.{IsOneToken}
use Rattle.cr_printer.proofs.Orders.{one_token}
use Rattle.cr_printer.proofs.text.are_apart.Goals as goal

pub stays_apart-requires-clause-left : goal.stays_apart-requires-clause-left
stays_apart-requires-clause-left c =
    let P : List ℕ → Type 0 = λ s. IsOneToken (record { kind = c.args.left.now.kind; spelling = s }) in
    (c.args.left.now.kind, subst P (sym c.spelling.ensures) (one_token c.args.file.now c.args.left.now c.requires.short c.requires.left))

pub stays_apart-requires-clause-right : goal.stays_apart-requires-clause-right
stays_apart-requires-clause-right c =
    let P : List ℕ → Type 0 = λ s. IsOneToken (record { kind = c.args.right.now.kind; spelling = s }) in
    (c.args.right.now.kind, subst P (sym c.spelling-2.ensures) (one_token c.args.file.now c.args.right.now c.requires.short c.requires.right))
