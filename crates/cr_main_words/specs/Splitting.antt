-- How clap splits the words: the command that it is given, and what is found.
use Rattle.std.specs.Prelude.{◌≡◌, true, List, [], ◌∷◌, codes, cond, map, Some}
use Rattle.std.specs.Str.{bytes_eq}
use Rattle.clap.specs.Walk.{Row, Rule, Text}
use Rattle.clap.specs.Simple.{App, new_rule, new_shape}
use Rattle.clap.specs.declared.builder.action.ArgAction.TheVariants.{Append}
use Rattle.cr_main_words.specs.Words.{BeginsWith, IsAmong, Said, Tells, Word, option_names, places_of, values_of}
use Rattle.cr_main_words.specs.Words.Said.{option, place}

-- the id of the positional words, which is the name of no option
abbrev pub place_id : Word
place_id = codes "WORD"

abbrev pub option_rule : Word → Rule
option_rule name = record (new_rule name) { long = Some name; action = Some Append }

abbrev pub place_rule : Rule
place_rule = record (new_rule place_id) { action = Some Append }

-- the command with these options, but without the positional words
abbrev pub app_of_names : List Word → App
app_of_names names = record {
  top = record (new_shape (codes "creduce")) {
    rules = map option_rule names;
    no_binary_name = true;
    disable_help_flag = true;
    disable_version_flag = true;
  };
  subs = [];
}

-- the values of an id in the rows
abbrev pub values_at : Text → List Row → List Text
values_at id [] = []
values_at id (row ∷ rows) = cond (bytes_eq row.id id) row.values (values_at id rows)

-- the rows hold what is said
pub record Holds (rows : List Row) (said : List Said) : Type 0 where
  pub values : (name : Word) → IsAmong name option_names → values_at name rows ≡ values_of name said
  pub places : values_at place_id rows ≡ places_of said

-- no value begins with -
abbrev pub IsPlain : List Said → Type 0
IsPlain [] = Unit {0}
IsPlain (option name value ∷ said) = (BeginsWith value 45 → ⊥) × IsPlain said
IsPlain (place word ∷ said) = IsPlain said

-- each option has one of these names
abbrev pub IsNamed : List Word → List Said → Type 0
IsNamed names [] = Unit {0}
IsNamed names (option name value ∷ said) = IsAmong name names × IsNamed names said
IsNamed names (place word ∷ said) = IsNamed names said

-- What clap found in the words: what is said, but that a value may begin with -.
pub record Found (words : List Word) (rows : List Row) : Type 0 where
  pub said : List Said
  pub named : IsNamed option_names said
  pub tells : IsPlain said → Tells option_names words said
  pub only : (other : List Said) → Tells option_names words other → other ≡ said
  pub holds : Holds rows said
