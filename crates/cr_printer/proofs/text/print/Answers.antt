use Rattle.std.proofs.Common.{List, sym, subst}
use Rattle.cr_tokens.specs.declared.token.Token.{Token}
use Rattle.cr_printer.specs.Seams.{AreInOrder}
use Rattle.cr_printer.proofs.Orders.{in_order}
use Rattle.cr_printer.proofs.text.print.Goals as goal

pub print_tokens-requires : goal.print_tokens-requires
print_tokens-requires c =
    let P : List Token → Type 0 = λ ts. AreInOrder c.args.file.now ts in
    subst P (sym c.as_slice.ensures.value) (in_order c.args.file.now c.args.unit.now.tokens.list.items c.requires)
