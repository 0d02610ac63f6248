use Rattle.std.proofs.Common.{ap, sym, ◌∙◌}
use Rattle.cr_main_words.specs.Flags.{is_journal, is_resume, is_standing, once_if}
use Rattle.cr_main_words.proofs.Asking.{one_answer}
use Rattle.cr_main_words.proofs.modes.flags_of.Goals as goal

pub returns-in_err-journal : goal.returns-in_err-journal
returns-in_err-journal c = rw c.from_residual.ensures (λ engine any_order given. c.in_err-journal.ensures (is_journal engine) given.journal)

pub returns-in_err-resume : goal.returns-in_err-resume
returns-in_err-resume c = rw c.from_residual-in_err-resume.ensures (λ engine any_order given. c.in_err-resume.ensures (is_resume engine) given.resume)

pub returns-in_err-standing : goal.returns-in_err-standing
returns-in_err-standing c = rw c.from_residual-in_err-standing.ensures (λ engine any_order given. c.in_err-standing.ensures (is_standing engine) given.standing)

pub returns-in_err-any_order : goal.returns-in_err-any_order
returns-in_err-any_order c = rw c.from_residual-in_err-any_order.ensures (λ engine any_order given. c.in_err-any_order.ensures any_order given.any_order_is)

pub returns-in_err-engine : goal.returns-in_err-engine
returns-in_err-engine c = rw c.from_residual-in_err-engine.ensures (λ engine any_order given.
    c.in_err-engine.ensures engine
    (one_answer c.in_ok-journal.journal (is_journal engine) (sym c.in_ok-journal.ensures ∙ given.journal))
    (one_answer c.in_ok-resume.resume (is_resume engine) (sym c.in_ok-resume.ensures ∙ given.resume))
    (one_answer c.in_ok-standing.standing (is_standing engine) (sym c.in_ok-standing.ensures ∙ given.standing)))

pub returns : goal.returns
returns c = record {
  journal = c.in_ok-journal.ensures ∙ ap once_if c.in_ok-engine.ensures.0;
  resume = c.in_ok-resume.ensures ∙ ap once_if c.in_ok-engine.ensures.1;
  standing = c.in_ok-standing.ensures ∙ ap once_if c.in_ok-engine.ensures.2;
  any_order_is = c.in_ok-any_order.ensures;
}
