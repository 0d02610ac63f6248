use Rattle.std.proofs.Common.{None, Some}
use Rattle.cr_main_words.proofs.NameLemmas.{number_is_first}
use Rattle.cr_main_words.proofs.source.made_of.Goals as goal

pub returns-in_err-number : goal.returns-in_err-number
returns-in_err-number c = rw c.from_residual.ensures (λ number items it. number_is_first c.args.rest.now None number items c.in_err-number.ensures.cases it)

pub returns-in_err-number-2 : goal.returns-in_err-number-2
returns-in_err-number-2 c = rw c.from_residual-in_err-number-2.ensures (λ number items it.
    let first = number_is_first c.args.rest.now (Some (c.in_ok-number.number, c.in_ok-number.items)) number items c.in_ok-number.ensures.cases it in
    c.in_err-number-2.ensures number (rw (first.0) it.is_number))

pub returns-in_err-items : goal.returns-in_err-items
returns-in_err-items c = rw c.from_residual-in_err-items.ensures (λ number items it.
    let first = number_is_first c.args.rest.now (Some (c.in_ok-number.number, c.in_ok-number.items)) number items c.in_ok-number.ensures.cases it in
    c.in_err-items.ensures items (rw (first.1) it.is_items))
