use Rattle.std.proofs.Common.{◌≡◌, IfOk, subst}
use Rattle.cr_check_types.specs.Types.{type_at}
use Rattle.cr_check_initialisers.specs.Known.{known_of}
use Rattle.cr_check_initialisers.specs.Plans.{entries_of, length_asked}
use Rattle.cr_check_initialised.proofs.source.asked.Goals as goal

pub returns : goal.returns
returns c =
    let is = c.source_of-source.ensures in
    let table = c.args.table.now in
    let lines = c.args.lines.now in
    subst (λ k. IfOk c.length_asked.result (λ n. n ≡ length_asked k (type_at table c.args.row) (entries_of table lines))) is.known
    (subst (λ t. IfOk c.length_asked.result (λ n. n ≡ length_asked (known_of c.source_of-source.result) (type_at t c.args.row) (entries_of t lines)))
    is.table c.length_asked.ensures)
