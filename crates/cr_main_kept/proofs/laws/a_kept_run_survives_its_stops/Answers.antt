use Rattle.std.proofs.Common.{[], List, ℕ}
use Rattle.cr_journal.proofs.Led.{levels}
use Rattle.cr_reduce.proofs.OneOutcome.{told_apart}
use Rattle.cr_main_kept.specs.KeptTask.{at, kept_with}
use Rattle.cr_main_kept.proofs.Surviving.{run_survives}
use Rattle.cr_main_kept.proofs.laws.a_kept_run_survives_its_stops.Goals as goal

pub returns : goal.returns
returns g c = λ says own window limit name saves marks old new before after has_failed status is_saved of_programs runs.
    let k = kept_with (g.P.Passes.offers c.args.passes.now) (record { Lawful = g.L.Law.lawful c.args.law.now; Against = g.L.Law.reasons c.args.law.now }) (g.A.Asking.asks c.args.asking.now) (λ (bytes : List ℕ). g.A.Asking.tells (g.A.Asking.key c.args.asking.now bytes))
    says own window limit name saves in
    run_survives k marks old new before after has_failed status is_saved of_programs (g.met.P.Passes.one c.args.passes.now)
    (λ bytes. told_apart k.law.Lawful (k.Tells bytes) (g.met.A.Asking.one_answer (g.A.Asking.key c.args.asking.now bytes) says own))
    (levels (at k []).search (g.met.P.Passes.few c.args.passes.now) (g.met.P.Passes.sixteen_levels c.args.passes.now)) runs
