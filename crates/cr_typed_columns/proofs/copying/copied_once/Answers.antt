use Rattle.std.proofs.Common.{None, slice_index_or, ap, subst, sym, ◌∙◌}
use Rattle.cr_typed_columns.specs.Rows.{AreKept}
use Rattle.cr_typed_columns.proofs.Kept.{kept_is, kept_levels, kept_more}
use Rattle.cr_typed_columns.proofs.copying.copied_once.Goals as goal

pub copied_on-requires : goal.copied_on-requires
copied_on-requires c = subst (AreKept c.args.from.now c.args.table.now) (sym c.deref-in-None.ensures.value) c.requires

pub returns-in-Some-clause-made : goal.returns-in-Some-clause-made
returns-in-Some-clause-made c =
    kept_is c.args.from.now c.args.table.now c.args.known.now.items c.args.row c.in-Some.made c.requires
    (sym (ap (λ xs. slice_index_or xs c.args.row None) c.deref.ensures.value) ∙ sym c.entry_at.ensures ∙ c.in-Some.is)

pub returns-in-Some-clause-levels : goal.returns-in-Some-clause-levels
returns-in-Some-clause-levels c =
    kept_levels c.args.from.now c.args.table.now c.args.known.now.items c.args.row c.in-Some.made c.requires
    (sym (ap (λ xs. slice_index_or xs c.args.row None) c.deref.ensures.value) ∙ sym c.entry_at.ensures ∙ c.in-Some.is)

pub returns-in_ok-made-in-None-clause-kept : goal.returns-in_ok-made-in-None-clause-kept
returns-in_ok-made-in-None-clause-kept c =
    let is = c.in_ok-made-in-None.ensures in
    kept_more c.args.from.now c.args.table.now c.copied_on.new.table c.args.known.now.items c.set_link.new.column.items c.args.row c.in_ok-made-in-None.made
    c.requires c.set_link.ensures is.grows is.made is.levels
