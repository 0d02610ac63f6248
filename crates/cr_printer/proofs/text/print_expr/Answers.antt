use Rattle.std.proofs.Common.{◌+◌, List, sym, subst}
use Rattle.cr_tokens.specs.declared.token.Token.{Token}
use Rattle.cr_printer.specs.Seams.{AreInOrder}
use Rattle.cr_printer.proofs.Orders.{in_order, order_part}
use Rattle.cr_printer.proofs.text.print_expr.Goals as goal

pub print_tokens-requires : goal.print_tokens-requires
print_tokens-requires c =
    let P : List Token → Type 0 = λ ts. AreInOrder c.args.file.now ts in
    let n = c.run_of.ensures.0 in
    subst P (sym c.run_of.ensures.2)
    (order_part c.args.file.now c.args.unit.now.tokens.list.items n.first (n.last + 1)
    (in_order c.args.file.now c.args.unit.now.tokens.list.items c.requires.file))
