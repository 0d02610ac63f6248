use Rattle.cr_check_unit.proofs.Kept.{are_links}
use Rattle.cr_check_unit.proofs.typing.links_of.Goals as goal

pub returns-clause-within : goal.returns-clause-within
returns-clause-within c = λ shapes h. are_links shapes c.args.typing.now
    (record { linked = c.as_slice.result; composites = c.as_slice-2.result; parameters = c.as_slice-3.result })
    c.as_slice-2.ensures c.as_slice-3.ensures h
