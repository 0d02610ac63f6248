use Rattle.std.proofs.Common.{◌∙◌, sym, subst}
use Rattle.std.specs.Prelude.{ℕ, List, Option}
use Rattle.cr_eval.specs.Table.{program_of}
use Rattle.cr_meaning_loose.specs.Lists.{around}
use Rattle.cr_order_watch.specs.Judged.{IsJudged}
use Rattle.cr_order_watch.proofs.Judging.{judged_by}
use Rattle.cr_order_watch.proofs.judged.run_judged_beside.Goals as goal

pub returns-clause-judged : goal.returns-clause-judged
returns-clause-judged g c = λ e.
    let p = program_of c.args.table.now in
    let both = c.run_seen-run.result.1 in
    let F : List (Option ℕ) → Type 0 = λ l. IsJudged p (around l) c.run_seen-run.result.0 c.first_loose.result in
    subst F (sym c.outer.ensures ∙ c.is_same.ensures c.if-not-is_same.false)
    (judged_by _ p (around both.one.outer.now) c.run_seen-run.result.0 c.first_loose.result (c.run_seen-run.ensures.seen e) (λ marks known. c.first_loose.ensures p marks known.0))

pub returns-clause-seen : goal.returns-clause-seen
returns-clause-seen g c = λ e.
    let h = c.run_seen-run.ensures.seen e in record { reply = h.reply; forest = h.forest; seen = h.seen; comes = h.comes; known = h.known.1 }
