-- What is said behind --replay, and the settings that it gives.
use Rattle.std.proofs.Common.{◌≡◌, inl, inr, List, [], codes, get_or, length, sym, ap, ◌∙◌, subst}
use Rattle.std.specs.Borrow.{Bor}
use Rattle.clap.specs.Walk.{Row, texts}
use Rattle.cr_main_words.specs.Letters.{IsEnabled}
use Rattle.cr_main_words.specs.Names.{IsSource}
use Rattle.cr_main_words.specs.Numbers.{IsNumberOr}
use Rattle.cr_main_words.specs.Parts.{GivesNames}
use Rattle.cr_main_words.specs.RequestLaws.{SameReplay}
use Rattle.cr_main_words.specs.Requests.{GivesReplay, HasReplay}
use Rattle.cr_main_words.specs.Splitting.{Found, place_id, values_at}
use Rattle.cr_main_words.specs.Words.{IsAmong, Word, option_names, places_of, values_of}
use Rattle.cr_main_words.specs.declared.replay.Names.{Names}
use Rattle.cr_main_words.specs.declared.replay.ReplaySettings.{ReplaySettings}
use Rattle.cr_main_words.specs.declared.source.Source.TheVariants as source
use Rattle.cr_main_words.proofs.Giving.{NoMinus, all_plain, enabled_plain, limit_name, one_count, one_enabled, optional_plain, passes_name, steps_name, window_name, workers_name}
use Rattle.cr_main_words.proofs.Results.{one_telling}
use Rattle.cr_main_words.proofs.Uses.{two_of}

-- the same values give the same settings
pub replay_moved : (f g : Word → List Word) (places other : List Word) (settings : ReplaySettings) → ((name : Word) → IsAmong name option_names → f name ≡ g name)
    → places ≡ other → GivesReplay f places settings → GivesReplay g other settings
replay_moved f g places other settings same words it = record {
  log = it.log;
  file = it.file;
  two = sym words ∙ it.two;
  no_workers = sym (same (codes "workers") workers_name) ∙ it.no_workers;
  no_window = sym (same (codes "window") window_name) ∙ it.no_window;
  no_limit = sym (same (codes "limit") limit_name) ∙ it.no_limit;
  steps = subst (λ v. IsNumberOr 1000000 1 100000000 v settings.steps) (same (codes "steps") steps_name) it.steps;
  passes = subst (λ v. IsEnabled v settings.enabled) (same (codes "passes") passes_name) it.passes;
  log_name = it.log_name;
  file_name = it.file_name;
}

-- ---- no value begins with -

absent_plain : (values : List Word) → values ≡ [] → NoMinus values
absent_plain values none = subst NoMinus (sym none) tt

replay_plain_at : (values : Word → List Word) (places : List Word) (settings : ReplaySettings) → GivesReplay values places settings
    → (name : Word) → IsAmong name option_names → NoMinus (values name)
replay_plain_at values places settings it name (inl is) = subst (λ n. NoMinus (values n)) (sym is) (absent_plain (values (codes "workers")) it.no_workers)
replay_plain_at values places settings it name (inr (inl is)) = subst (λ n. NoMinus (values n)) (sym is) (absent_plain (values (codes "window")) it.no_window)
replay_plain_at values places settings it name (inr (inr (inl is))) = subst (λ n. NoMinus (values n)) (sym is) (absent_plain (values (codes "limit")) it.no_limit)
replay_plain_at values places settings it name (inr (inr (inr (inl is)))) =
    subst (λ n. NoMinus (values n)) (sym is) (optional_plain 1 100000000 (values (codes "steps")) it.steps.0 it.steps.1)
replay_plain_at values places settings it name (inr (inr (inr (inr (inl is))))) =
    subst (λ n. NoMinus (values n)) (sym is) (enabled_plain (values (codes "passes")) settings.enabled it.passes)
replay_plain_at values places settings it name (inr (inr (inr (inr (inr more))))) = absurd more

-- ---- from what clap found to the settings, and back

module _ (words : List Word) (rows : List Row) (found : Found words rows) (settings : ReplaySettings) where
  pub replay_from : GivesReplay (λ name. values_at name rows) (values_at place_id rows) settings → HasReplay words settings
  replay_from it =
      let gives = replay_moved (λ name. values_at name rows) (λ name. values_of name found.said) (values_at place_id rows) (places_of found.said) settings found.holds.values found.holds.places it in
      record {
        said = found.said;
        tells = found.tells (all_plain found.said found.named (replay_plain_at (λ name. values_of name found.said) (places_of found.said) settings gives));
        gives = gives;
      }

  pub no_replay_from : (GivesReplay (λ name. values_at name rows) (values_at place_id rows) settings → ⊥) → HasReplay words settings → ⊥
  no_replay_from none has =
      let same = found.only has.said has.tells in
      none (replay_moved (λ name. values_of name has.said) (λ name. values_at name rows) (places_of has.said) (values_at place_id rows) settings
      (λ name among. ap (values_of name) same ∙ sym (found.holds.values name among)) (ap places_of same ∙ sym found.holds.places) has.gives)

-- ---- the two positional words

module _ (places : List (Bor Word)) (d e : Bor Word) (names : Names) (two : length places ≡ 2) where
  pub names_given : IsSource (get_or places 0 d).now (source.Named names.log) → IsSource (get_or places 1 e).now (source.Named names.file) → GivesNames (texts places) names
  names_given log file = record {
    log = (get_or places 0 d).now;
    file = (get_or places 1 e).now;
    two = two_of places d e two;
    log_name = log;
    file_name = file;
  }

pub first_name : (places : List (Bor Word)) (d : Bor Word) (names : Names) → length places ≡ 2 → GivesNames (texts places) names
    → IsSource (get_or places 0 d).now (source.Named names.log)
first_name places d names two gives =
    let both = sym (two_of places d d two) ∙ gives.two in
    let same : gives.log ≡ (get_or places 0 d).now = cc in
    subst (λ w. IsSource w (source.Named names.log)) same gives.log_name

pub second_name : (places : List (Bor Word)) (e : Bor Word) (names : Names) → length places ≡ 2 → GivesNames (texts places) names
    → IsSource (get_or places 1 e).now (source.Named names.file)
second_name places e names two gives =
    let both = sym (two_of places e e two) ∙ gives.two in
    let same : gives.file ≡ (get_or places 1 e).now = cc in
    subst (λ w. IsSource w (source.Named names.file)) same gives.file_name

-- ---- words give one replay at most

given_alike : (values : Word → List Word) (places : List Word) (a b : ReplaySettings) → GivesReplay values places a → GivesReplay values places b → SameReplay a b
given_alike values places a b first second =
    let words = sym first.two ∙ second.two in
    let log_is : first.log ≡ second.log = cc in
    let file_is : first.file ≡ second.file = cc in
    record {
      steps = one_count 1000000 1 100000000 (values (codes "steps")) a.steps b.steps first.steps second.steps;
      enabled = one_enabled (values (codes "passes")) a.enabled b.enabled first.passes second.passes;
      log = first.log_name.0 ∙ log_is ∙ sym second.log_name.0;
      file = first.file_name.0 ∙ file_is ∙ sym second.file_name.0;
    }

pub one_replay : (words : List Word) (a b : ReplaySettings) → HasReplay words a → HasReplay words b → SameReplay a b
one_replay words a b first second =
    let same = one_telling words second.said first.said second.tells first.tells in
    given_alike (λ name. values_of name first.said) (places_of first.said) a b first.gives
    (subst (λ said. GivesReplay (λ name. values_of name said) (places_of said) b) same second.gives)
