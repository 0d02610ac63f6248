use Rattle.std.proofs.Common.{Err, ap, codes, subst, sym}
use Rattle.clap.specs.Words.{found_of, rows_of}
use Rattle.cr_main_words.specs.Numbers.{IsNumberOr}
use Rattle.cr_main_words.specs.Splitting.{values_at}
use Rattle.cr_main_words.proofs.Uses.{same_fault}
use Rattle.cr_main_words.proofs.replay.replay_in.Goals as goal

pub returns-in_err-steps-clause-usage : goal.returns-in_err-steps-clause-usage
returns-in_err-steps-clause-usage c = λ is settings gives.
    c.in_err-steps.ensures.usage (ap Err (same_fault c.from_residual.result c.in_err-steps.field-0.0 c.from_residual.ensures.1 is)) settings.steps gives.steps

pub returns-in_err-enabled-clause-usage : goal.returns-in_err-enabled-clause-usage
returns-in_err-enabled-clause-usage c = λ is settings gives.
    c.in_err-enabled.ensures.usage (ap Err (same_fault c.from_residual-in_err-enabled.result c.in_err-enabled.field-0.0 c.from_residual-in_err-enabled.ensures.1 is)) settings.enabled gives.passes

pub returns-in_err-log-clause-usage : goal.returns-in_err-log-clause-usage
returns-in_err-log-clause-usage c = λ is settings gives.
    c.in_err-log.ensures.usage (ap Err (same_fault c.from_residual-in_err-log.result c.in_err-log.field-0.0 c.from_residual-in_err-log.ensures.1 is))
    (record { log = settings.log; file = settings.file })
    (record { log = gives.log; file = gives.file; two = gives.two; log_name = gives.log_name; file_name = gives.file_name })

pub returns-clause-settings : goal.returns-clause-settings
returns-clause-settings c =
    let only = c.has_only_replay_options.ensures.0 c.if-not-has_only_replay_options.false in
    let names = c.in_ok-log.ensures.names in
    let rows = rows_of (found_of c.args.matches.now) in
    record {
      log = names.log;
      file = names.file;
      two = names.two;
      no_workers = only.0;
      no_window = only.1;
      no_limit = only.2;
      steps = subst (λ n. IsNumberOr 1000000 1 100000000 (values_at (codes "steps") rows) n) (sym c.from.ensures) c.in_ok-steps.ensures.count;
      passes = c.in_ok-enabled.ensures.enabled;
      log_name = names.log_name;
      file_name = names.file_name;
    }
