use Rattle.std.proofs.Common.{sym, ◌∙◌}
use Rattle.cr_typed_columns.proofs.Kept.{kept_is}
use Rattle.cr_typed_columns.proofs.copying.copied_on.Goals as goal

pub raised_on-requires-clause-base : goal.raised_on-requires-clause-base
raised_on-requires-clause-base c =
    kept_is c.args.from.now c.args.table.now c.args.known.now c.in-Above.below c.in-Some.base c.requires (sym c.entry_at.ensures ∙ c.in-Some.is)
