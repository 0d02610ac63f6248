-- One word more: what clap's walk makes of it, where it stands on a use that is whole, or on an option without its value.
use Rattle.std.proofs.Common.{◌≡◌, ℕ, Bool, true, false, List, [], ◌∷◌, cond, Option, Some, None, refl}
use Rattle.std.specs.Str.{bytes_eq, chars}
use Rattle.std.specs.Prelude.{slice_get}
use Rattle.clap.specs.Lexer.{long_of, short_of}
use Rattle.clap.specs.Walk.{Held, Row, Rule, Text, Waiting, Walk, arg_by_id, arg_by_index, arg_by_long, arg_by_short, settled_rows, walked}
use Rattle.clap.specs.Walk.Waiting.{idle, option as option_waits, positional}
use Rattle.clap.specs.Simple.{Shape, new_rule}
use Rattle.clap.specs.Kinds.{Kinds}
use Rattle.clap.specs.Faults.{bundle_fault, flags_fault, settle_fault, turn_fault}
use Rattle.clap.specs.declared.error.kind.ErrorKind.TheVariants as kind
use Rattle.clap.specs.declared.builder.action.ArgAction.TheVariants.{Append}
use Rattle.clap.specs.declared.builder.value_parser.ValueParser.TheVariants as vp
use Rattle.cr_main_words.specs.Words.{Word}
use Rattle.cr_main_words.specs.Words.Said.{option}
use Rattle.cr_main_words.specs.Splitting.{place_id}
use Rattle.cr_main_words.proofs.Forms.{LooksPlain, bytes_same, dashes_word}
use Rattle.cr_main_words.proofs.Rows.{with_said}
use Rattle.cr_main_words.proofs.Scan.{is_name}

-- an argument as clap completes it
abbrev pub plain_rule : Text → Option Text → Option ℕ → Rule
plain_rule id long index = record (new_rule id) {
  long = long;
  index = index;
  action = Some Append;
  range = Some (record { start_inclusive = 1; end_inclusive = 1 });
  parser = Some vp.String;
}

abbrev pub name_rule : Word → Rule
name_rule name = plain_rule name (Some name) None

abbrev pub words_rule : Rule
words_rule = plain_rule place_id None (Some 1)

-- All that the walk asks of the arguments.
pub record Reads (names : List Word) (c : List Rule) : Type 0 where
  pub long : (name : Word) → arg_by_long c name ≡ cond (is_name names name) (Some (name_rule name)) None
  pub known : (name : Word) → is_name names name ≡ true → arg_by_id c name ≡ Some (name_rule name)
  pub words : arg_by_id c place_id ≡ Some words_rule
  pub index : arg_by_index c 1 ≡ Some words_rule
  pub short : (x : ℕ) → arg_by_short c x ≡ None
  pub other : (name : Word) → is_name names name ≡ true → bytes_eq name place_id ≡ false

abbrev pub holding : List Row → Option (Text × List Text) → Held
holding rows pending = record { rows = rows; pending = pending; skip = 0 }

abbrev pub at : List Row → Option (Text × List Text) → Waiting → Bool → Walk
at rows pending waiting trailing = record {
  held = holding rows pending;
  waiting = waiting;
  position = 1;
  is_trailing = trailing;
  stopped = None;
}

-- nothing waits for a value: what is pending is a whole use
pub data Resting (names : List Word) : Option (Text × List Text) → Waiting → Type 0 where
  quiet : Resting names None idle
  used : (name value : Word) → is_name names name ≡ true → Resting names (Some (name, value ∷ [])) idle
  put : (word : Word) → Resting names (Some (place_id, word ∷ [])) positional

module _ (s : Shape) (names : List Word) (reads : Reads names s.rules) where
  abbrev c : List Rule
  c = s.rules

  abbrev again : Bool
  again = s.args_override_self

  abbrev pub settle : Walk → Kinds
  settle w = settle_fault c again w.held

  abbrev pub turn : Walk → Text → Kinds
  turn w word = turn_fault s [] w word

  abbrev pub after : Walk → Text → Walk
  after w word = walked c [] w word

  -- from a rest
  module _ (rows : List Row) where
    pub rest_settles : (pending : Option (Text × List Text)) (waiting : Waiting) (trailing : Bool) → Resting names pending waiting → settle (at rows pending waiting trailing) ≡ []
    rest_settles _ _ trailing quiet = refl
    rest_settles _ _ trailing (used name value known) = rw (reads.known name known) refl
    rest_settles _ _ trailing (put word) = rw reads.words refl

    pub waits_settles : (name : Word) (trailing : Bool) → is_name names name ≡ true
        → settle (at rows (Some (name, [])) (option_waits name) trailing) ≡ kind.InvalidValue ∷ []
    waits_settles name trailing known = rw (reads.known name known) refl

  module _ (rows : List Row) (word : Word) where
    pub dashes_turn : (pending : Option (Text × List Text)) (waiting : Waiting) → Resting names pending waiting → word ≡ dashes_word
        → turn (at rows pending waiting false) word ≡ []
    dashes_turn _ _ quiet is = rw is refl
    dashes_turn _ _ (used name value known) is = rw is refl
    dashes_turn _ _ (put other) is = rw is refl

    pub dashes_after : (pending : Option (Text × List Text)) (waiting : Waiting) → Resting names pending waiting → word ≡ dashes_word
        → after (at rows pending waiting false) word ≡ at rows pending waiting true
    unfolding walked
    dashes_after _ _ quiet is = rw is refl
    dashes_after _ _ (used name value known) is = rw is refl
    dashes_after _ _ (put other) is = rw is refl

    -- a positional word behind --
    pub trails_turn : (pending : Option (Text × List Text)) (waiting : Waiting) → Resting names pending waiting
        → turn (at rows pending waiting true) word ≡ []
    trails_turn _ _ quiet = rw reads.index refl
    trails_turn _ _ (used name value known) = rw (reads.index, reads.other name known, reads.known name known) refl
    trails_turn _ _ (put other) = rw (reads.index, reads.words) refl

    pub trails_after : (pending : Option (Text × List Text)) (waiting : Waiting) → Resting names pending waiting
        → after (at rows pending waiting true) word ≡ at (settled_rows c pending rows) (Some (place_id, word ∷ [])) positional true
    unfolding walked
    trails_after _ _ quiet = rw reads.index refl
    trails_after _ _ (used name value known) = rw (reads.index, reads.other name known) refl
    trails_after _ _ (put other) = rw reads.index refl

    -- --NAME=VALUE
    pub joined_turn : (name value : Word) (pending : Option (Text × List Text)) (waiting : Waiting) → Resting names pending waiting
        → bytes_eq word dashes_word ≡ false → long_of word ≡ Some (name, Some value) → is_name names name ≡ true
        → turn (at rows pending waiting false) word ≡ []
    joined_turn name value _ _ quiet differs is known = rw (differs, is, reads.long name, known) refl
    joined_turn name value _ _ (used other v k) differs is known = rw (differs, is, reads.long name, known, reads.known other k) refl
    joined_turn name value _ _ (put other) differs is known = rw (differs, is, reads.long name, known, reads.words) refl

    pub joined_after : (name value : Word) (pending : Option (Text × List Text)) (waiting : Waiting) → Resting names pending waiting
        → bytes_eq word dashes_word ≡ false → long_of word ≡ Some (name, Some value) → is_name names name ≡ true
        → after (at rows pending waiting false) word ≡ at (with_said (option name value) (settled_rows c pending rows)) None idle false
    unfolding walked
    joined_after name value _ _ quiet differs is known = rw (differs, is, reads.long name, known) refl
    joined_after name value _ _ (used other v k) differs is known = rw (differs, is, reads.long name, known) refl
    joined_after name value _ _ (put other) differs is known = rw (differs, is, reads.long name, known) refl

    -- --NAME, whose value is the next word
    pub apart_turn : (name : Word) (pending : Option (Text × List Text)) (waiting : Waiting) → Resting names pending waiting
        → bytes_eq word dashes_word ≡ false → long_of word ≡ Some (name, None) → is_name names name ≡ true
        → turn (at rows pending waiting false) word ≡ []
    apart_turn name _ _ quiet differs is known = rw (differs, is, reads.long name, known) refl
    apart_turn name _ _ (used other v k) differs is known = rw (differs, is, reads.long name, known, reads.known other k) refl
    apart_turn name _ _ (put other) differs is known = rw (differs, is, reads.long name, known, reads.words) refl

    pub apart_after : (name : Word) (pending : Option (Text × List Text)) (waiting : Waiting) → Resting names pending waiting
        → bytes_eq word dashes_word ≡ false → long_of word ≡ Some (name, None) → is_name names name ≡ true
        → after (at rows pending waiting false) word ≡ at (settled_rows c pending rows) (Some (name, [])) (option_waits name) false
    unfolding walked
    apart_after name _ _ quiet differs is known = rw (differs, is, reads.long name, known) refl
    apart_after name _ _ (used other v k) differs is known = rw (differs, is, reads.long name, known) refl
    apart_after name _ _ (put other) differs is known = rw (differs, is, reads.long name, known) refl

    -- a positional word
    pub plain_turn : (pending : Option (Text × List Text)) (waiting : Waiting) → Resting names pending waiting → LooksPlain word
        → turn (at rows pending waiting false) word ≡ []
    plain_turn _ _ quiet plain = rw (plain.dashes, plain.long, plain.short, reads.index) refl
    plain_turn _ _ (used name value known) plain = rw (plain.dashes, plain.long, plain.short, reads.index, reads.other name known, reads.known name known) refl
    plain_turn _ _ (put other) plain = rw (plain.dashes, plain.long, plain.short, reads.index, reads.words) refl

    pub plain_after : (pending : Option (Text × List Text)) (waiting : Waiting) → Resting names pending waiting → LooksPlain word
        → after (at rows pending waiting false) word ≡ at (settled_rows c pending rows) (Some (place_id, word ∷ [])) positional false
    unfolding walked
    plain_after _ _ quiet plain = rw (plain.dashes, plain.long, plain.short, reads.index) refl
    plain_after _ _ (used name value known) plain = rw (plain.dashes, plain.long, plain.short, reads.index, reads.other name known) refl
    plain_after _ _ (put other) plain = rw (plain.dashes, plain.long, plain.short, reads.index) refl

    -- the value that an option waits for
    pub value_turn : (name : Word) → is_name names name ≡ true → LooksPlain word → turn (at rows (Some (name, [])) (option_waits name) false) word ≡ []
    value_turn name known plain = rw (plain.dashes, plain.long, plain.short) refl

    pub value_after : (name : Word) → is_name names name ≡ true → LooksPlain word
        → after (at rows (Some (name, [])) (option_waits name) false) word ≡ at rows (Some (name, word ∷ [])) idle false
    unfolding walked
    value_after name known plain = rw (plain.dashes, plain.long, plain.short, reads.known name known, bytes_same name) refl

  -- ---- what is refused, wherever the walk stands
  module _ (rows : List Row) (word : Word) (pending : Option (Text × List Text)) (differs : bytes_eq word dashes_word ≡ false) where
    pub unknown_turn : (waiting : Waiting) (name : Word) (value : Option Word) → long_of word ≡ Some (name, value) → is_name names name ≡ false
        → turn (at rows pending waiting false) word ≡ kind.UnknownArgument ∷ []
    unknown_turn idle name value is unknown = rw (differs, is, reads.long name, unknown) refl
    unknown_turn (option_waits id) name value is unknown = rw (differs, is, reads.long name, unknown) refl
    unknown_turn positional name value is unknown = rw (differs, is, reads.long name, unknown) refl

    pub short_fault : (x : ℕ) (flag : ℕ) (flags : Text) → slice_get (chars (flag ∷ flags)) 0 ≡ Some x
        → bundle_fault c again (flag ∷ flags) (holding rows pending) ≡ kind.UnknownArgument ∷ []
    unfolding flags_fault
    short_fault x flag flags first = rw (first, reads.short x) refl

    pub short_turn : (waiting : Waiting) (x : ℕ) (flag : ℕ) (flags : Text) → long_of word ≡ None → short_of word ≡ Some (flag ∷ flags)
        → slice_get (chars (flag ∷ flags)) 0 ≡ Some x → turn (at rows pending waiting false) word ≡ kind.UnknownArgument ∷ []
    short_turn idle x flag flags is short first = rw (differs, is, short, short_fault x flag flags first) refl
    short_turn (option_waits id) x flag flags is short first = rw (differs, is, short, short_fault x flag flags first) refl
    short_turn positional x flag flags is short first = rw (differs, is, short, short_fault x flag flags first) refl

  -- an option in place of the value that an option waits for
  module _ (rows : List Row) (word : Word) (id : Word) (waits : is_name names id ≡ true) where
    pub late_joined_turn : (name value : Word) → bytes_eq word dashes_word ≡ false → long_of word ≡ Some (name, Some value) → is_name names name ≡ true
        → turn (at rows (Some (id, [])) (option_waits id) false) word ≡ kind.InvalidValue ∷ []
    late_joined_turn name value differs is known = rw (differs, is, reads.long name, known, reads.known id waits) refl

    pub late_apart_turn : (name : Word) → bytes_eq word dashes_word ≡ false → long_of word ≡ Some (name, None) → is_name names name ≡ true
        → turn (at rows (Some (id, [])) (option_waits id) false) word ≡ kind.InvalidValue ∷ []
    late_apart_turn name differs is known = rw (differs, is, reads.long name, known, reads.known id waits) refl

    pub late_dashes_turn : word ≡ dashes_word → turn (at rows (Some (id, [])) (option_waits id) false) word ≡ []
    late_dashes_turn is = rw is refl

    pub late_dashes_after : word ≡ dashes_word
        → after (at rows (Some (id, [])) (option_waits id) false) word ≡ at rows (Some (id, [])) (option_waits id) true
    unfolding walked
    late_dashes_after is = rw is refl

    pub late_trails_turn : turn (at rows (Some (id, [])) (option_waits id) true) word ≡ kind.InvalidValue ∷ []
    late_trails_turn = rw (reads.index, reads.other id waits, reads.known id waits) refl
