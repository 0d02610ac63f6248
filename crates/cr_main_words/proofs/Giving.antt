-- What is said, and the settings that it gives.
use Rattle.std.proofs.Common.{◌≡◌, inl, inr, ◌<◌, ℕ, Bool, true, false, List, [], ◌∷◌, ◌++◌, cond, codes, min, Option, Some, Result, Ok, Err, unwrap_or, ◌==◌, refl, sym, ap, ◌∙◌, subst, arith}
use Rattle.std.specs.Char.{digit_value}
use Rattle.std.specs.List.{after_first, before_first, list_all}
use Rattle.std.specs.Result.{IfOk}
use Rattle.std.specs.Str.Parse.{digits_value}
use Rattle.std.specs.Str.{bytes_eq}
use Rattle.std.proofs.lemmas.List.{append_cancel_left}
use Rattle.clap.specs.Walk.{Row}
use Rattle.clap.proofs.CutLemmas.{after_first-at, before_first-at}
use Rattle.cr_outside.specs.HasText.{TellsText}
use Rattle.cr_outside.specs.Test.{ReadsTest, has_prefix}
use Rattle.cr_outside.specs.declared.test.Test.{Test}
use Rattle.cr_outside.specs.declared.test.Test.TheVariants as test
use Rattle.cr_main_words.specs.Giving.{GivesSettings, HasSettings}
use Rattle.cr_main_words.specs.Laws.{Agree, SameSettings, SameSource}
use Rattle.cr_main_words.specs.Letters.{IsEnabled, IsLetters, has_letter, pass_letters}
use Rattle.cr_main_words.specs.Letters.IsEnabled.{plain_passes, some_passes}
use Rattle.cr_main_words.specs.Names.{IsGenerated, IsSource}
use Rattle.cr_main_words.specs.Names.IsNoName.{made}
use Rattle.cr_main_words.specs.Numbers.{IsNumber, IsNumberOr, IsOptional}
use Rattle.cr_main_words.specs.Numbers.IsOptional.{no_value, one_value}
use Rattle.cr_main_words.specs.Splitting.{Found, IsNamed, IsPlain, place_id, values_at}
use Rattle.cr_main_words.specs.Words.{BeginsWith, IsAmong, Said, Word, option_names, places_of, values_of}
use Rattle.cr_main_words.specs.Words.Said.{option, place}
use Rattle.cr_main_words.specs.declared.settings.Settings.{Settings}
use Rattle.cr_main_words.specs.declared.source.Source.{Source}
use Rattle.cr_main_words.specs.declared.source.Source.TheVariants as source
use Rattle.cr_main_words.proofs.Forms.{bytes_same}
use Rattle.cr_main_words.proofs.NameLemmas.{no_colon}
use Rattle.cr_main_words.proofs.Results.{one_telling}

-- ---- the same values give the same settings

pub workers_name : IsAmong (codes "workers") option_names
workers_name = inl refl

pub window_name : IsAmong (codes "window") option_names
window_name = inr (inl refl)

pub limit_name : IsAmong (codes "limit") option_names
limit_name = inr (inr (inl refl))

pub steps_name : IsAmong (codes "steps") option_names
steps_name = inr (inr (inr (inl refl)))

pub passes_name : IsAmong (codes "passes") option_names
passes_name = inr (inr (inr (inr (inl refl))))

pub moved : (f g : Word → List Word) (places other : List Word) (most : ℕ) (settings : Settings) → ((name : Word) → IsAmong name option_names → f name ≡ g name)
    → places ≡ other → GivesSettings f places most settings → GivesSettings g other most settings
moved f g places other most settings same words it = record {
  test = it.test;
  file = it.file;
  two = sym words ∙ it.two;
  workers = subst (λ v. IsNumberOr (min 4 most) 1 (min 32 most) v settings.workers) (same (codes "workers") workers_name) it.workers;
  window = subst (λ v. IsNumberOr 256 1 4096 v settings.window) (same (codes "window") window_name) it.window;
  limit = subst (λ v. IsOptional 0 9223372036854775807 v settings.limit) (same (codes "limit") limit_name) it.limit;
  steps = subst (λ v. IsNumberOr 1000000 1 100000000 v settings.steps) (same (codes "steps") steps_name) it.steps;
  passes = subst (λ v. IsEnabled v settings.enabled) (same (codes "passes") passes_name) it.passes;
  reads = it.reads;
  source = it.source;
}

-- ---- no value begins with -

abbrev pub NoMinus : List Word → Type 0
NoMinus [] = Unit {0}
NoMinus (value ∷ values) = (BeginsWith value 45 → ⊥) × NoMinus values

number_plain : (least most : ℕ) (word : Word) (n : ℕ) → IsNumber least most word n → BeginsWith word 45 → ⊥
number_plain least most [] n it begins = let bad = begins.1 in cc
number_plain least most (b ∷ more) n it begins =
    let is : b ≡ 45 = let e = begins.1 in cc in
    let low : digit_value 45 < 10 = subst (λ x. digit_value x < 10) is it.digits.0 in absurd (omega (arith, low))

pub optional_plain : (least most : ℕ) (values : List Word) (given : Option ℕ) → IsOptional least most values given → NoMinus values
optional_plain least most _ _ no_value = tt
optional_plain least most _ _ (one_value {word = word} {n = n} it) = (number_plain least most word n it, tt)

letters_plain : (word : Word) (enabled : List Bool) → IsLetters word enabled → BeginsWith word 45 → ⊥
letters_plain word enabled it begins =
    let bad : false ≡ true = subst (λ w. list_all (has_letter pass_letters) w ≡ true) begins.1 it.known in cc

pub enabled_plain : (values : List Word) (enabled : List Bool) → IsEnabled values enabled → NoMinus values
enabled_plain _ _ plain_passes = tt
enabled_plain _ _ (some_passes {word = word} {enabled = enabled} it) = (letters_plain word enabled it, tt)

plain_at : (values : Word → List Word) (places : List Word) (most : ℕ) (settings : Settings) → GivesSettings values places most settings
    → (name : Word) → IsAmong name option_names → NoMinus (values name)
plain_at values places most settings it name (inl is) = subst (λ n. NoMinus (values n)) (sym is) (optional_plain 1 (min 32 most) (values (codes "workers")) it.workers.0 it.workers.1)
plain_at values places most settings it name (inr (inl is)) = subst (λ n. NoMinus (values n)) (sym is) (optional_plain 1 4096 (values (codes "window")) it.window.0 it.window.1)
plain_at values places most settings it name (inr (inr (inl is))) = subst (λ n. NoMinus (values n)) (sym is) (optional_plain 0 9223372036854775807 (values (codes "limit")) settings.limit it.limit)
plain_at values places most settings it name (inr (inr (inr (inl is)))) = subst (λ n. NoMinus (values n)) (sym is) (optional_plain 1 100000000 (values (codes "steps")) it.steps.0 it.steps.1)
plain_at values places most settings it name (inr (inr (inr (inr (inl is))))) = subst (λ n. NoMinus (values n)) (sym is) (enabled_plain (values (codes "passes")) settings.enabled it.passes)
plain_at values places most settings it name (inr (inr (inr (inr (inr more))))) = absurd more

pub all_plain : (said : List Said) → IsNamed option_names said → ((name : Word) → IsAmong name option_names → NoMinus (values_of name said)) → IsPlain said
all_plain [] named plain = tt
all_plain (option n value ∷ said) named plain =
    let own : NoMinus (value ∷ values_of n said) = rw (bytes_same n) at (plain n named.0) in
    (own.0, all_plain said named.1 (λ name among. behind (bytes_eq n name) name (plain name among)))
  where
    behind : (t : Bool) (name : Word) → NoMinus (cond t (value ∷ values_of name said) (values_of name said)) → NoMinus (values_of name said)
    behind true name it = it.1
    behind false name it = it
all_plain (place word ∷ said) named plain = all_plain said named plain

-- ---- from what clap found to the settings, and back

module _ (words : List Word) (rows : List Row) (found : Found words rows) (most : ℕ) (settings : Settings) where
  pub settings_from : GivesSettings (λ name. values_at name rows) (values_at place_id rows) most settings → HasSettings words most settings
  settings_from it =
      let gives = moved (λ name. values_at name rows) (λ name. values_of name found.said) (values_at place_id rows) (places_of found.said) most settings found.holds.values found.holds.places it in
      record {
        said = found.said;
        tells = found.tells (all_plain found.said found.named (plain_at (λ name. values_of name found.said) (places_of found.said) most settings gives));
        gives = gives;
      }

  pub none_from : (GivesSettings (λ name. values_at name rows) (values_at place_id rows) most settings → ⊥) → HasSettings words most settings → ⊥
  none_from none has =
      let same = found.only has.said has.tells in
      none (moved (λ name. values_of name has.said) (λ name. values_at name rows) (places_of has.said) (values_at place_id rows) most settings
      (λ name among. ap (values_of name) same ∙ sym (found.holds.values name among)) (ap places_of same ∙ sym found.holds.places) has.gives)

pub each_ok : {T E : Type 0} (P Q : T → Type 0) (r : Result T E) → ((x : T) → P x → Q x) → IfOk r P → IfOk r Q
each_ok P Q (Ok x) f it = f x it
each_ok P Q (Err e) f it = it

-- ---- words give one settings at most

one_optional : (least most : ℕ) (values : List Word) (a b : Option ℕ) → IsOptional least most values a → IsOptional least most values b → a ≡ b
one_optional least most _ _ _ no_value no_value = refl
one_optional least most _ _ _ (one_value first) (one_value second) = ap Some (first.is ∙ sym second.is)

pub one_count : (without least most : ℕ) (values : List Word) (a b : ℕ) → IsNumberOr without least most values a → IsNumberOr without least most values b → a ≡ b
one_count without least most values a b first second =
    first.2 ∙ ap (λ g. unwrap_or g without) (one_optional least most values first.0 second.0 first.1 second.1) ∙ sym second.2

pub one_enabled : (values : List Word) (a b : List Bool) → IsEnabled values a → IsEnabled values b → a ≡ b
one_enabled _ _ _ plain_passes plain_passes = refl
one_enabled _ _ _ (some_passes first) (some_passes second) = first.is ∙ sym second.is

one_generated : (word : Word) (number items other more : ℕ) → IsGenerated word number items → IsGenerated word other more → (number ≡ other) × (items ≡ more)
one_generated word number items other more a b =
    let same = append_cancel_left (codes "gen:") (a.first ++ 58 ∷ a.second) (b.first ++ 58 ∷ b.second) (sym a.is ∙ b.is) in
    let first : a.first ≡ b.first =
    sym (before_first-at 58 a.first a.second (no_colon a.first a.is_number.digits)) ∙ ap (before_first (λ x. x == 58)) same
    ∙ before_first-at 58 b.first b.second (no_colon b.first b.is_number.digits) in
    let second : a.second ≡ b.second =
    sym (after_first-at 58 a.first a.second (no_colon a.first a.is_number.digits)) ∙ ap (after_first (λ x. x == 58)) same
    ∙ after_first-at 58 b.first b.second (no_colon b.first b.is_number.digits) in
    (a.is_number.is ∙ ap (digits_value 10) first ∙ sym b.is_number.is, a.is_items.is ∙ ap (digits_value 10) second ∙ sym b.is_items.is)

one_source : (word : Word) (a b : Source) → IsSource word a → IsSource word b → SameSource a b
one_source word (source.Named a) (source.Named b) first second = first.0 ∙ sym second.0
one_source word (source.Named a) (source.Made number items) first second = absurd (first.1 (made (second.first ++ 58 ∷ second.second, second.is)))
one_source word (source.Made number items) (source.Named b) first second = absurd (second.1 (made (first.first ++ 58 ∷ first.second, first.is)))
one_source word (source.Made number items) (source.Made other more) first second = one_generated word number items other more first second

one_test : (word : Word) (a b : Test) → ReadsTest word (Ok a) → ReadsTest word (Ok b) → Agree a b
one_test word (test.Has a) (test.Has b) first second =
    let same = append_cancel_left has_prefix a b (sym first.0 ∙ second.0) in
    record { asks = refl; tells = λ says name file answer it. subst (λ text. TellsText text file answer) same it }
one_test word (test.Has a) (test.Program q) first second = absurd (second.2 a first.0)
one_test word (test.Program p) (test.Has b) first second = absurd (first.2 b second.0)
one_test word (test.Program p) (test.Program q) first second =
    let same = first.0 ∙ sym second.0 in
    record { asks = refl; tells = λ says name file answer it. subst (λ path. says path name file ≡ Some answer) same it }

given_alike : (values : Word → List Word) (places : List Word) (most : ℕ) (a b : Settings) → GivesSettings values places most a → GivesSettings values places most b → SameSettings a b
given_alike values places most a b first second =
    let words = sym first.two ∙ second.two in
    let test_is : first.test ≡ second.test = cc in
    let file_is : first.file ≡ second.file = cc in
    record {
      workers = one_count (min 4 most) 1 (min 32 most) (values (codes "workers")) a.workers b.workers first.workers second.workers;
      window = one_count 256 1 4096 (values (codes "window")) a.window b.window first.window second.window;
      limit = one_optional 0 9223372036854775807 (values (codes "limit")) a.limit b.limit first.limit second.limit;
      steps = one_count 1000000 1 100000000 (values (codes "steps")) a.steps b.steps first.steps second.steps;
      enabled = one_enabled (values (codes "passes")) a.enabled b.enabled first.passes second.passes;
      source = one_source second.file a.source b.source (subst (λ w. IsSource w a.source) file_is first.source) second.source;
      tests = one_test second.test a.test b.test (subst (λ w. ReadsTest w (Ok a.test)) test_is first.reads) second.reads;
    }

-- words give one settings, but for how their texts are kept
pub one_settings : (words : List Word) (most : ℕ) (a b : Settings) → HasSettings words most a → HasSettings words most b → SameSettings a b
one_settings words most a b first second =
    let same = one_telling words second.said first.said second.tells first.tells in
    given_alike (λ name. values_of name first.said) (places_of first.said) most a b first.gives
    (subst (λ said. GivesSettings (λ name. values_of name said) (places_of said) most b) same second.gives)
