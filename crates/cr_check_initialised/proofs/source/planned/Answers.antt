use Rattle.std.proofs.Common.{IfOk, subst}
use Rattle.cr_check_types.specs.Types.{type_at}
use Rattle.cr_check_initialisers.specs.Known.{known_of}
use Rattle.cr_check_initialisers.specs.Plans.{IsPlan, entries_of}
use Rattle.cr_check_initialised.proofs.source.planned.Goals as goal

pub returns : goal.returns
returns c =
    let is = c.source_of-source.ensures in
    let table = c.args.table.now in
    subst (λ k. IfOk c.plan.result (λ lines. IsPlan k (type_at table c.args.row) c.args.above c.args.node (entries_of table lines.items))) is.known
    (subst (λ t. IfOk c.plan.result (λ lines. IsPlan (known_of c.source_of-source.result) (type_at t c.args.row) c.args.above c.args.node (entries_of t lines.items)))
    is.table c.plan.ensures)
