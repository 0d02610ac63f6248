-- The command that clap is given: what its walk asks of its arguments, its faults, and its rows.
use Rattle.std.proofs.Common.{◌≡◌, ◌&&◌, ◌||◌, inl, inr, ℕ, Bool, true, false, not, List, [], ◌∷◌, ◌++◌, cond, map, Option, Some, None, refl, sym, ap, ◌∙◌, subst}
use Rattle.std.specs.Str.{bytes_eq}
use Rattle.std.specs.List.{list_any}
use Rattle.std.specs.Prelude.{fold}
use Rattle.clap.specs.Walk.{Row, Rule, Text, Walk, arg_by_id, arg_by_index, arg_by_long, arg_by_short, default_rows, finished, has_row, nothing_held, reading_by, settled, walk, with_default}
use Rattle.clap.specs.Walk.Waiting.{idle}
use Rattle.clap.specs.Simple.{App, Shape, built, entered, filled_from, matches_of, with_rule}
use Rattle.clap.specs.Takes.{is_given}
use Rattle.clap.specs.Kinds.{Kinds, or_else}
use Rattle.clap.specs.Faults.{check_fault, defaults_fault, entered_fault, fault_of, settle_fault, walk_fault}
use Rattle.cr_main_words.specs.Words.{IsAmong, Word}
use Rattle.cr_main_words.specs.Splitting.{app_of_names, option_rule, place_id, place_rule}
use Rattle.cr_main_words.proofs.Forms.{same_bytes}
use Rattle.cr_main_words.proofs.Scan.{is_name, named_among}
use Rattle.cr_main_words.proofs.Steps.{Reads, at, name_rule, words_rule}
use Rattle.cr_main_words.proofs.Walks.{fault, rows_after}

-- the arguments as clap completes them
abbrev pub rules_for : List Word → List Rule
rules_for names = map name_rule names ++ words_rule ∷ []

pub filled_is : (names : List Word) → filled_from 1 (map option_rule names ++ place_rule ∷ []) ≡ rules_for names
filled_is [] = refl
filled_is (name ∷ names) = ap (λ rest. name_rule name ∷ rest) (filled_is names)

-- no option has the positional words' id for its name
abbrev pub AllOther : List Word → Type 0
AllOther [] = Unit {0}
AllOther (name ∷ names) = (bytes_eq name place_id ≡ false) × AllOther names

pub other_at : (names : List Word) (name : Word) → AllOther names → IsAmong name names → bytes_eq name place_id ≡ false
other_at [] name all among = absurd among
other_at (n ∷ names) name all among = elim among [
  | inl is ↦ subst (λ x. bytes_eq x place_id ≡ false) (sym is) all.0
  | inr more ↦ other_at names name all.1 more
]

by_long : (names : List Word) (name : Word) → arg_by_long (rules_for names) name ≡ cond (is_name names name) (Some (name_rule name)) None
by_long [] name = refl
by_long (n ∷ names) name = by (bytes_eq n name) refl (by_long names name)
  where
    by : (t : Bool) → bytes_eq n name ≡ t → arg_by_long (rules_for names) name ≡ cond (is_name names name) (Some (name_rule name)) None
        → arg_by_long (rules_for (n ∷ names)) name ≡ cond (is_name (n ∷ names) name) (Some (name_rule name)) None
    by true e rest = rw e (ap (λ x. Some (name_rule x)) (same_bytes n name e))
    by false e rest = rw e rest

by_id : (names : List Word) (name : Word) → is_name names name ≡ true → arg_by_id (rules_for names) name ≡ Some (name_rule name)
by_id [] name known = cc
by_id (n ∷ names) name known = by (bytes_eq n name) refl (by_id names name)
  where
    by : (t : Bool) → bytes_eq n name ≡ t → (is_name names name ≡ true → arg_by_id (rules_for names) name ≡ Some (name_rule name))
        → arg_by_id (rules_for (n ∷ names)) name ≡ Some (name_rule name)
    by true e rest = rw e (ap (λ x. Some (name_rule x)) (same_bytes n name e))
    by false e rest = rw e (rest (rw e at known))

by_place : (names : List Word) → AllOther names → arg_by_id (rules_for names) place_id ≡ Some words_rule
by_place [] all = refl
by_place (n ∷ names) all = rw all.0 (by_place names all.1)

by_index : (names : List Word) → arg_by_index (rules_for names) 1 ≡ Some words_rule
by_index [] = refl
by_index (n ∷ names) = by_index names

by_short : (names : List Word) (x : ℕ) → arg_by_short (rules_for names) x ≡ None
by_short [] x = refl
by_short (n ∷ names) x = by_short names x

pub reads_of : (names : List Word) → AllOther names → Reads names (rules_for names)
reads_of names all = record {
  long = by_long names;
  known = by_id names;
  words = by_place names all;
  index = by_index names;
  short = by_short names;
  other = λ name known. other_at names name all (named_among names name known);
}

-- ---- after the walk

same_default : (rows : List Row) (a : Rule) → a.defaults ≡ [] → with_default rows a ≡ rows
same_default rows a none = by (has_row a.id rows)
  where
    by : (t : Bool) → cond t rows (default_rows a.id (reading_by a) a.defaults rows) ≡ rows
    by true = refl
    by false = rw none refl

no_defaults : (names : List Word) (rows : List Row) → fold with_default rows (rules_for names) ≡ rows
no_defaults [] rows = same_default rows words_rule refl
no_defaults (name ∷ names) rows = ap (λ r. fold with_default r (rules_for names)) (same_default rows (name_rule name) refl) ∙ no_defaults names rows

always : (b : Bool) (ks : Kinds) → cond (b || true) [] ks ≡ []
always true ks = refl
always false ks = refl

no_default_faults : (names : List Word) (rows : List Row) → defaults_fault rows (rules_for names) ≡ []
unfolding defaults_fault
no_default_faults [] rows = rw (always (has_row place_id rows)) refl
no_default_faults (name ∷ names) rows =
    rw (always (has_row name rows)) (ap (λ r. defaults_fault r (rules_for names)) (same_default rows (name_rule name) refl) ∙ no_default_faults names rows)

none_required : (names : List Word) (rows : List Row) → list_any (λ a. a.required && not (is_given a.id rows)) (rules_for names) ≡ false
none_required [] rows = refl
none_required (name ∷ names) rows = none_required names rows

-- ---- the whole

abbrev pub app_for : List Word → App
app_for names = with_rule (app_of_names names) place_rule

abbrev pub shape_for : List Word → Shape
shape_for names = (built (app_for names)).top

pub reads_for : (names : List Word) → AllOther names → Reads names (shape_for names).rules
reads_for names all = subst (Reads names) (sym (filled_is names)) (reads_of names all)

abbrev pub start : Walk
start = at [] None idle false

or_none : (ks : Kinds) → or_else ks [] ≡ ks
or_none [] = refl
or_none (k ∷ ks) = refl

no_entry : (names : List Word) (stop : Option (Text × List Text)) → entered_fault (built (app_for names)) stop ≡ []
no_entry names None = refl
no_entry names (Some p) = refl

no_subcommand : (names : List Word) (stop : Option (Text × List Text)) → entered (built (app_for names)) stop ≡ None
no_subcommand names None = refl
no_subcommand names (Some p) = refl

no_check_fault : (names : List Word) (rows : List Row) → check_fault (shape_for names) rows false ≡ []
no_check_fault names rows =
    let none : list_any (λ a. a.required && not (is_given a.id rows)) (shape_for names).rules ≡ false =
    ap (λ c. list_any (λ a. a.required && not (is_given a.id rows)) c) (filled_is names) ∙ none_required names rows in
    rw none refl

module _ (names : List Word) (all : AllOther names) (words : List Word) where
  abbrev end : Walk
  end = walk (shape_for names).rules [] nothing_held words

  no_later_faults : defaults_fault (settled (shape_for names).rules end.held).rows (shape_for names).rules ≡ []
  no_later_faults = ap (λ c. defaults_fault (settled (shape_for names).rules end.held).rows c) (filled_is names) ∙ no_default_faults names (settled (shape_for names).rules end.held).rows

  pub fault_is : fault_of (app_for names) words ≡ fault (shape_for names) names (reads_for names all) start words
  fault_is =
      let stop = end.stopped in
      let s = shape_for names in
      rw (no_entry names stop, no_subcommand names stop, no_later_faults, no_check_fault names (finished s.rules end.held))
      (ap (λ ks. or_else (walk_fault s [] start words) ks) (or_none (settle_fault s.rules s.args_override_self end.held)))

  pub rows_are : matches_of (app_for names) words ≡ rows_after (shape_for names) names (reads_for names all) start words
  rows_are =
      ap (λ c. fold with_default (settled (shape_for names).rules end.held).rows c) (filled_is names)
      ∙ no_defaults names (settled (shape_for names).rules end.held).rows
