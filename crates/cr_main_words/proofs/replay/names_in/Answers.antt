use Rattle.std.proofs.Common.{◌≡◌, Err, ap, arith, length}
use Rattle.cr_main_words.proofs.Replaying.{first_name, names_given, second_name}
use Rattle.cr_main_words.proofs.Uses.{same_fault}
use Rattle.cr_main_words.proofs.replay.names_in.Goals as goal

pub returns-in_err-log-clause-usage : goal.returns-in_err-log-clause-usage
returns-in_err-log-clause-usage c = λ is names gives.
    let two : length c.args.places.now ≡ 2 = omega arith in
    c.in_err-log.ensures.usage (ap Err (same_fault c.from_residual.result c.in_err-log.field-0.0 c.from_residual.ensures.1 is)) names.log
    (first_name c.args.places.now _ names two gives)

pub returns-in_err-file-clause-usage : goal.returns-in_err-file-clause-usage
returns-in_err-file-clause-usage c = λ is names gives.
    let two : length c.args.places.now ≡ 2 = omega arith in
    c.in_err-file.ensures.usage (ap Err (same_fault c.from_residual-in_err-file.result c.in_err-file.field-0.0 c.from_residual-in_err-file.ensures.1 is)) names.file
    (second_name c.args.places.now _ names two gives)

pub returns-clause-names : goal.returns-clause-names
returns-clause-names c =
    let two : length c.args.places.now ≡ 2 = omega arith in
    names_given c.args.places.now _ _ (record { log = c.in_ok-log.log; file = c.in_ok-file.file }) two c.in_ok-log.ensures.name c.in_ok-file.ensures.name
