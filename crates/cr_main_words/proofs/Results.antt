-- What clap answers, as the definition has it.
use Rattle.std.proofs.Common.{◌≡◌, ◌<◌, ◌+◌, take, get_or, length, ℕ, true, false, List, [], ◌∷◌, ◌++◌, codes, map, Option, Some, None, refl, sym, ap, ◌∙◌, subst, String}
use Rattle.std.proofs.lemmas.List.{take_more}
use Rattle.std.specs.Borrow.{Bor}
use Rattle.std.specs.Global.{Global}
use Rattle.std.specs.Str.{bytes_eq}
use Rattle.std.proofs.lemmas.Str.{IsUtf8-string_bytes}
use Rattle.clap.specs.Walk.{Row, Rule}
use Rattle.clap.specs.Simple.{App, is_simple, matches_of, with_rule}
use Rattle.clap.specs.Kinds.{IsAmong as IsKindAmong}
use Rattle.clap.specs.Faults.{fault_of, is_simple_and_free}
use Rattle.clap.specs.declared.error.kind.ErrorKind.{ErrorKind}
use Rattle.cr_main_words.specs.Words.{Said, Tells, Word, option_names, texts_of}
use Rattle.cr_main_words.specs.Splitting.{Found, Holds, IsNamed, app_of_names, option_rule, place_id, values_at}
use Rattle.cr_main_words.proofs.Forms.{bytes_differ, lacks, not_same}
use Rattle.cr_main_words.proofs.Rows.{adds, adds_more, said_at-name, said_at-place}
use Rattle.cr_main_words.proofs.Scan.{AllFit, read_is_told, scan, told_is_read}
use Rattle.cr_main_words.proofs.Steps.Resting.{quiet}
use Rattle.cr_main_words.proofs.Walks.{AllUtf8, Comes, walk_is_scan}
use Rattle.cr_main_words.proofs.Walks.Stands.{rests}
use Rattle.cr_main_words.proofs.App.{AllOther, app_for, fault_is, other_at, reads_for, rows_are, shape_for, start}
use Rattle.clap.specs.Walk.Waiting.{idle}

pub all_utf8 : (list : List (String Global)) → AllUtf8 (texts_of list)
all_utf8 [] = tt
all_utf8 (x ∷ more) = (IsUtf8-string_bytes x, all_utf8 more)

pub fit_names : AllFit option_names
fit_names = (
  record { some = (119, codes "orkers", refl); no_equals = lacks 61 (codes "workers") refl },
  (
    record { some = (119, codes "indow", refl); no_equals = lacks 61 (codes "window") refl },
    (
      record { some = (108, codes "imit", refl); no_equals = lacks 61 (codes "limit") refl },
      (
        record { some = (115, codes "teps", refl); no_equals = lacks 61 (codes "steps") refl },
        (record { some = (112, codes "asses", refl); no_equals = lacks 61 (codes "passes") refl }, tt),
      ),
    ),
  ),
)

pub other_names : AllOther option_names
other_names = (refl, (refl, (refl, (refl, (refl, tt)))))

abbrev pub the_app : App
the_app = app_for option_names

pub app_is_simple : is_simple the_app ≡ true
app_is_simple = refl

pub app_is_free : is_simple_and_free the_app ≡ true
app_is_free = refl

-- words give one telling at most
pub one_telling : (words : List Word) (a b : List Said) → Tells option_names words a → Tells option_names words b → a ≡ b
one_telling words a b x y =
    let same : Some a ≡ Some b = sym (told_is_read option_names fit_names words a x) ∙ told_is_read option_names fit_names words b y in cc

module _ (words : List Word) (utf8 : AllUtf8 words) where
  comes : Comes (shape_for option_names) option_names (reads_for option_names other_names) (scan option_names words None) start words []
  comes = walk_is_scan (shape_for option_names) option_names (reads_for option_names other_names) words utf8 None start [] (rests [] None idle quiet)

  holds_said : (rows : List Row) (said : List Said) → IsNamed option_names said → rows ≡ adds said [] → Holds rows said
  holds_said rows said named is = record {
    values = λ name among.
        let other : bytes_eq place_id name ≡ false = bytes_differ place_id name (λ same. not_same name place_id (other_at option_names name other_names among) (sym same)) in
        ap (values_at name) is ∙ adds_more name said [] ∙ said_at-name name said other;
    places = ap (values_at place_id) is ∙ adds_more place_id said [] ∙ said_at-place option_names said (λ name among. other_at option_names name other_names among) named;
  }

  pub found_all : (rows : List Row) → fault_of the_app words ≡ [] → rows ≡ matches_of the_app words → Found words rows
  found_all rows none are = by (scan option_names words None) refl comes
    where
      by : (o : Option (List Said)) → scan option_names words None ≡ o
          → Comes (shape_for option_names) option_names (reads_for option_names other_names) o start words [] → Found words rows
      by None e c = absurd (c (sym (fault_is option_names other_names words) ∙ none))
      by (Some said) e c =
          let told = read_is_told option_names words None said tt e in
          record {
            said = said;
            named = told.1;
            tells = told.0;
            only = λ other tells. let same : Some other ≡ Some said = sym (told_is_read option_names fit_names words other tells) ∙ e in cc;
            holds = holds_said rows said told.1 (are ∙ rows_are option_names other_names words ∙ c.1);
          }

  pub none_told : (k : ErrorKind) (said : List Said) → IsKindAmong k (fault_of the_app words) → Tells option_names words said → ⊥
  none_told k said among tells =
      let read = told_is_read option_names fit_names words said tells in
      let c = subst (λ o. Comes (shape_for option_names) option_names (reads_for option_names other_names) o start words []) read comes in
      subst (IsKindAmong k) (fault_is option_names other_names words ∙ c.0) among

-- ---- the command is built so

map_push : (f : Word → Rule) (xs : List Word) (x : Word) → map f (xs ++ x ∷ []) ≡ map f xs ++ f x ∷ []
map_push f [] x = refl
map_push f (y ∷ ys) x = ap (λ rest. f y ∷ rest) (map_push f ys x)

pub option_more : (names : List Word) (name : Word) → with_rule (app_of_names names) (option_rule name) ≡ app_of_names (names ++ name ∷ [])
option_more names name = ap (λ rules. record (app_of_names names) { top = record (app_of_names names).top { rules = rules } }) (sym (map_push option_rule names name))

pub names_more : (names : List (Bor Word)) (i : ℕ) (d : Bor Word) → i < length names
    → map (λ n. n.now) (take (i + 1) names) ≡ map (λ n. n.now) (take i names) ++ (get_or names i d).now ∷ []
names_more names i d below = ap (map (λ n. n.now)) (take_more names i d below) ∙ map_now (take i names) (get_or names i d)
  where
    map_now : (xs : List (Bor Word)) (x : Bor Word) → map (λ n. n.now) (xs ++ x ∷ []) ≡ map (λ n. n.now) xs ++ x.now ∷ []
    map_now [] x = refl
    map_now (y ∷ ys) x = ap (λ rest. y.now ∷ rest) (map_now ys x)
