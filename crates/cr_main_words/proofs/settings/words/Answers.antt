use Rattle.clap.specs.Words.{found_of, rows_of}
use Rattle.cr_main_words.specs.Giving.{GivesSettings, HasSettings}
use Rattle.cr_main_words.specs.Splitting.{place_id, values_at}
use Rattle.cr_main_words.specs.Words.{texts_of}
use Rattle.cr_main_words.proofs.Giving.{each_ok, none_from, settings_from}
use Rattle.cr_main_words.proofs.settings.words.Goals as goal

pub returns-clause-settings : goal.returns-clause-settings
returns-clause-settings c =
    let rows = rows_of (found_of c.in_ok-matches.matches) in
    each_ok (GivesSettings (λ name. values_at name rows) (values_at place_id rows) c.args.most) (HasSettings (texts_of c.args.list.now) c.args.most) c.settings_of.result
    (settings_from (texts_of c.args.list.now) rows c.in_ok-matches.ensures.found c.args.most) c.settings_of.ensures.settings

pub returns-clause-usage : goal.returns-clause-usage
returns-clause-usage c = λ is settings.
    none_from (texts_of c.args.list.now) (rows_of (found_of c.in_ok-matches.matches)) c.in_ok-matches.ensures.found c.args.most settings
    (c.settings_of.ensures.usage is settings)
