use Rattle.cr_main_replay.specs.Replay.{replaying}
use Rattle.cr_main_replay.proofs.Exact.{replay_yes}
use Rattle.cr_main_replay.proofs.laws.a_log_that_leads_to_the_file_is_taken.Goals as goal

pub returns : goal.returns
returns g c = λ files old new status told it run. replay_yes (replaying g.P.Passes g.L.Law c.args.replay.now) (g.met.P.Passes.one c.args.replay.now.passes.now) files it old new status told run
