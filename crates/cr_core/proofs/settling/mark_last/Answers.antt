use Rattle.std.proofs.Common.{[], sym, arith, ◌∙◌}
use Rattle.std.proofs.lemmas.List.{append-nil}
use Rattle.cr_core.specs.Row.{with_last}
use Rattle.cr_core.proofs.settling.mark_last.Goals as goal

pub returns-then-len-gt0 : goal.returns-then-len-gt0
returns-then-len-gt0 c =
    let l = c.args.row.now in
    c.re_mark.ensures l [] (sym (append-nil l)) (omega arith) ∙ append-nil (with_last c.args.mark l)
