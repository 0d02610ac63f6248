use Rattle.clap.specs.Words.{found_of, rows_of}
use Rattle.cr_main_words.specs.Requests.{GivesReplay, HasReplay}
use Rattle.cr_main_words.specs.Splitting.{place_id, values_at}
use Rattle.cr_main_words.specs.Words.{texts_of}
use Rattle.cr_main_words.proofs.Giving.{each_ok}
use Rattle.cr_main_words.proofs.Replaying.{no_replay_from, replay_from}
use Rattle.cr_main_words.proofs.replay.replay_of.Goals as goal

pub returns-clause-settings : goal.returns-clause-settings
returns-clause-settings c =
    let rows = rows_of (found_of c.in_ok-matches.matches) in
    each_ok (GivesReplay (λ name. values_at name rows) (values_at place_id rows)) (HasReplay (texts_of c.args.list.now)) c.replay_in.result
    (replay_from (texts_of c.args.list.now) rows c.in_ok-matches.ensures.found) c.replay_in.ensures.settings

pub returns-clause-usage : goal.returns-clause-usage
returns-clause-usage c = λ is settings.
    no_replay_from (texts_of c.args.list.now) (rows_of (found_of c.in_ok-matches.matches)) c.in_ok-matches.ensures.found settings
    (c.replay_in.ensures.usage is settings)
