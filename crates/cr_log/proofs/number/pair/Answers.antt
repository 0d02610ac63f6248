use Rattle.cr_log.proofs.Fields.{pair_start, same_start}
use Rattle.std.specs.Fmt.{decimal}
use Rattle.cr_log.proofs.number.pair.Goals as goal

pub returns-in_err-second : goal.returns-in_err-second
returns-in_err-second c = rw c.from_residual-in_err-second.ensures
    (λ m n both. c.in_err-second.ensures n both.second_fits (same_start c.args.text.now c.in_ok-first.first m c.in_ok-first.rest.now (decimal n) c.in_ok-first.ensures (pair_start c.args.text.now m n both)).1)
