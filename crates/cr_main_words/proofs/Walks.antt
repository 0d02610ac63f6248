-- All words: clap has no fault exactly where they are read, and then its rows are what is said.
use Rattle.std.proofs.Common.{◌≡◌, ◌==◌, inl, inr, ℕ, Bool, true, false, List, [], ◌∷◌, map, Option, Some, None, refl, sym, ap, ◌∙◌, subst, arith}
use Rattle.std.specs.Str.{IsUtf8, chars, encode_utf8_all}
use Rattle.std.specs.Char.{encode_utf8}
use Rattle.std.specs.Prelude.{fold, slice_get}
use Rattle.std.proofs.lemmas.Str.{IsUtf8-past_char, encodes-chars}
use Rattle.std.proofs.lemmas.Bool.Decides.{nat_tests}
use Rattle.clap.specs.Lexer.{short_of}
use Rattle.clap.specs.Walk.{Row, Text, Waiting, Walk, settled, settled_rows, walked}
use Rattle.clap.specs.Walk.Waiting.{idle, option as option_waits, positional}
use Rattle.clap.specs.Simple.{Shape}
use Rattle.clap.specs.Kinds.{Kinds, or_else}
use Rattle.clap.specs.Faults.{walk_fault}
use Rattle.clap.specs.declared.error.kind.ErrorKind.{ErrorKind}
use Rattle.clap.specs.declared.error.kind.ErrorKind.TheVariants as kind
use Rattle.cr_main_words.specs.Words.{Said, Word}
use Rattle.cr_main_words.specs.Words.Said.{option, place}
use Rattle.cr_main_words.specs.Splitting.{place_id}
use Rattle.cr_main_words.proofs.Rows.{adds, with_said}
use Rattle.cr_main_words.proofs.Scan.{Look, and_said, is_dashes, is_name, look_at, looks_plain_so, scan, scan_step, seen}
use Rattle.cr_main_words.proofs.Scan.Look.{look_apart, look_bad, look_dashes, look_joined, look_plain}
use Rattle.cr_main_words.proofs.Steps.{Reads, Resting, apart_after, apart_turn, at, dashes_after, dashes_turn, joined_after, joined_turn, late_apart_turn, late_dashes_after, late_dashes_turn, late_joined_turn, late_trails_turn, plain_after, plain_turn, rest_settles, settle, short_turn, trails_after, trails_turn, turn, unknown_turn, value_after, value_turn, waits_settles}
use Rattle.cr_main_words.proofs.Steps.Resting.{quiet, used, put}

abbrev pub AllUtf8 : List Word → Type 0
AllUtf8 [] = Unit {0}
AllUtf8 (word ∷ words) = IsUtf8 word × AllUtf8 words

-- ---- the first character of a bundle

short_form : (word flags : Word) → short_of word ≡ Some flags → (flag : ℕ) × (rest : List ℕ) × (flags ≡ flag ∷ rest) × (word ≡ 45 ∷ flags)
short_form [] flags is = cc
short_form (a ∷ []) flags is = by (a == 45) refl
  where
    by : (t : Bool) → (a == 45) ≡ t → (flag : ℕ) × (rest : List ℕ) × (flags ≡ flag ∷ rest) × (a ∷ [] ≡ 45 ∷ flags)
    by true e = let bad : None ≡ Some flags = rw e at is in cc
    by false e = let bad : None ≡ Some flags = rw e at is in cc
short_form (a ∷ (b ∷ more)) flags is = by (a == 45) refl (b == 45) refl
  where
    by : (t : Bool) → (a == 45) ≡ t → (u : Bool) → (b == 45) ≡ u → (flag : ℕ) × (rest : List ℕ) × (flags ≡ flag ∷ rest) × (a ∷ (b ∷ more) ≡ 45 ∷ flags)
    by false e u f = let bad : None ≡ Some flags = rw e at is in cc
    by true e true f = let bad : None ≡ Some flags = rw (e, f) at is in cc
    by true e false f =
        let some : Some (b ∷ more) ≡ Some flags = rw (e, f) at is in
        let same : b ∷ more ≡ flags = cc in
        let first : a ≡ 45 = grind (arith, nat_tests) in
        (b, more, sym same, ap (λ x. x ∷ (b ∷ more)) first ∙ ap (λ r. 45 ∷ r) same)

pub record StartsBundle (flags : Word) : Type 0 where
  pub flag : ℕ
  pub rest : List ℕ
  pub is : flags ≡ flag ∷ rest
  pub char : ℕ
  pub first : slice_get (chars (flag ∷ rest)) 0 ≡ Some char

starts : (flag : ℕ) (rest : List ℕ) → IsUtf8 (flag ∷ rest) → (char : ℕ) × (slice_get (chars (flag ∷ rest)) 0 ≡ Some char)
starts flag rest utf8 = by (chars (flag ∷ rest)) refl
  where
    by : (cs : List ℕ) → chars (flag ∷ rest) ≡ cs → (char : ℕ) × (slice_get (chars (flag ∷ rest)) 0 ≡ Some char)
    by [] e = let bad : [] ≡ flag ∷ rest = sym (ap encode_utf8_all e) ∙ encodes-chars (flag ∷ rest) utf8 in cc
    by (c ∷ cs) e = (c, ap (λ x. slice_get x 0) e)

minus_off : (word flags : Word) → IsUtf8 word → word ≡ 45 ∷ flags → IsUtf8 flags
unfolding encode_utf8
minus_off word flags utf8 is = IsUtf8-past_char word flags 45 utf8 is

pub starts_bundle : (word flags : Word) → IsUtf8 word → short_of word ≡ Some flags → StartsBundle flags
starts_bundle word flags utf8 is =
    let form = short_form word flags is in
    let first = starts form.0 form.1 (subst IsUtf8 form.2 (minus_off word flags utf8 form.3)) in
    record { flag = form.0; rest = form.1; is = form.2; char = first.0; first = first.1 }

-- ---- the walk

module _ (s : Shape) (names : List Word) (reads : Reads names s.rules) where
  -- the faults of the walk, and of what is pending at its end
  abbrev pub fault : Walk → List Word → Kinds
  fault w words = or_else (walk_fault s [] w words) (settle s names reads (fold (walked s.rules []) w words))

  abbrev pub rows_after : Walk → List Word → List Row
  rows_after w words = (settled s.rules (fold (walked s.rules []) w words).held).rows

  abbrev pub Comes : Option (List Said) → Walk → List Word → List Row → Type 0
  Comes None w words rows = fault w words ≡ [] → ⊥
  Comes (Some said) w words rows = (fault w words ≡ []) × (rows_after w words ≡ adds said rows)

  fault_end : (w : Walk) → fault w [] ≡ settle s names reads w
  unfolding walk_fault
  fault_end w = refl

  fault_cons : (w : Walk) (word : Word) (words : List Word) → fault w (word ∷ words) ≡ or_else (turn s names reads w word) (fault (walked s.rules [] w word) words)
  unfolding walk_fault
  fault_cons w word words = by (turn s names reads w word)
    where
      by : (ks : Kinds) → or_else (or_else ks (walk_fault s [] (walked s.rules [] w word) words)) (settle s names reads (fold (walked s.rules []) (walked s.rules [] w word) words))
          ≡ or_else ks (fault (walked s.rules [] w word) words)
      by [] = refl
      by (k ∷ ks) = refl

  module _ (w : Walk) (word : Word) (words : List Word) where
    refused : (k : ErrorKind) → turn s names reads w word ≡ k ∷ [] → fault w (word ∷ words) ≡ [] → ⊥
    refused k is none =
        let bad : k ∷ [] ≡ [] = sym (ap (λ ks. or_else ks (fault (walked s.rules [] w word) words)) is) ∙ sym (fault_cons w word words) ∙ none in cc

    -- a word without fault, and what it comes to
    goes_on : (next : Walk) → turn s names reads w word ≡ [] → walked s.rules [] w word ≡ next → fault w (word ∷ words) ≡ fault next words
    goes_on next is after = fault_cons w word words ∙ ap (λ ks. or_else ks (fault (walked s.rules [] w word) words)) is ∙ ap (λ x. fault x words) after

    comes_on : (next : Walk) (o : Option (List Said)) (rows : List Row) → turn s names reads w word ≡ [] → walked s.rules [] w word ≡ next
        → Comes o next words rows → Comes o w (word ∷ words) rows
    comes_on next None rows is after comes = λ none. comes (sym (goes_on next is after) ∙ none)
    comes_on next (Some said) rows is after comes = (goes_on next is after ∙ comes.0, ap (λ x. rows_after x words) after ∙ comes.1)

    says_more : (next : Walk) (x : Said) (o : Option (List Said)) (rows : List Row) → turn s names reads w word ≡ [] → walked s.rules [] w word ≡ next
        → Comes o next words (with_said x rows) → Comes (and_said x o) w (word ∷ words) rows
    says_more next x None rows is after comes = λ none. comes (sym (goes_on next is after) ∙ none)
    says_more next x (Some said) rows is after comes = (goes_on next is after ∙ comes.0, ap (λ x. rows_after x words) after ∙ comes.1)

  -- behind --
  trails : (words : List Word) (rows : List Row) (pending : Option (Text × List Text)) (waiting : Waiting) → Resting names pending waiting
      → Comes (Some (map place words)) (at rows pending waiting true) words (settled_rows s.rules pending rows)
  trails [] rows pending waiting rest = (fault_end (at rows pending waiting true) ∙ rest_settles s names reads rows pending waiting true rest, refl)
  trails (word ∷ words) rows pending waiting rest =
      let next = at (settled_rows s.rules pending rows) (Some (place_id, word ∷ [])) positional true in
      let more = trails words (settled_rows s.rules pending rows) (Some (place_id, word ∷ [])) positional (put word) in
      let now : settled_rows s.rules (Some (place_id, word ∷ [])) (settled_rows s.rules pending rows) ≡ with_said (place word) (settled_rows s.rules pending rows) = rw reads.words refl in
      says_more (at rows pending waiting true) word words next (place word) (Some (map place words)) (settled_rows s.rules pending rows)
      (trails_turn s names reads rows word pending waiting rest) (trails_after s names reads rows word pending waiting rest)
      (subst (Comes (Some (map place words)) next words) now more)

  -- behind --, where an option waits for its value
  late_trails : (words : List Word) (rows : List Row) (id : Word) → is_name names id ≡ true → fault (at rows (Some (id, [])) (option_waits id) true) words ≡ [] → ⊥
  late_trails [] rows id waits none =
      let bad : kind.InvalidValue ∷ [] ≡ [] = sym (waits_settles s names reads rows id true waits) ∙ sym (fault_end (at rows (Some (id, [])) (option_waits id) true)) ∙ none in cc
  late_trails (word ∷ words) rows id waits none = refused (at rows (Some (id, [])) (option_waits id) true) word words kind.InvalidValue (late_trails_turn s names reads rows word id waits) none

  -- where the walk stands, with the option that waits for its value, and the rows of what was said
  pub data Stands : Option Word → Walk → List Row → Type 0 where
    rests : (rows : List Row) (pending : Option (Text × List Text)) (waiting : Waiting) → Resting names pending waiting
        → Stands None (at rows pending waiting false) (settled_rows s.rules pending rows)
    waits : (rows : List Row) (name : Word) → is_name names name ≡ true → Stands (Some name) (at rows (Some (name, [])) (option_waits name) false) rows

  not_joined : (name value : Word) → look_dashes ≡ look_joined name value → ⊥
  not_joined name value is = cc

  not_apart : (name : Word) → look_dashes ≡ look_apart name → ⊥
  not_apart name is = cc

  not_bad : look_dashes ≡ look_bad → ⊥
  not_bad is = cc

  bad_word : (word : Word) (words : List Word) → IsUtf8 word → look_at names word ≡ look_bad → (rows : List Row) (pending : Option (Text × List Text)) (waiting : Waiting)
      → fault (at rows pending waiting false) (word ∷ words) ≡ [] → ⊥
  bad_word word words utf8 e rows pending waiting none =
      let saw = seen names word look_bad e not_bad in
      let w = at rows pending waiting false in
      elim saw.1 [
        | inl long ↦
            refused w word words kind.UnknownArgument
            (unknown_turn s names reads rows word pending saw.0 waiting long.0 long.1 long.2 long.3) none
        | inr short ↦
            let starts = starts_bundle word short.1 utf8 short.2 in
            refused w word words kind.UnknownArgument
            (short_turn s names reads rows word pending saw.0 waiting starts.char starts.flag starts.rest short.0 (short.2 ∙ ap (λ f. Some f) starts.is) starts.first) none
      ]

  pub walk_is_scan : (words : List Word) → AllUtf8 words → (o : Option Word) (w : Walk) (rows : List Row) → Stands o w rows
      → Comes (scan names words o) w words rows
  walk_is_scan [] utf8 _ _ _ (rests rows pending waiting rest) = (fault_end (at rows pending waiting false) ∙ rest_settles s names reads rows pending waiting false rest, refl)
  walk_is_scan [] utf8 _ _ _ (waits rows name known) = λ none.
      let bad : kind.InvalidValue ∷ [] ≡ [] =
      sym (waits_settles s names reads rows name false known) ∙ sym (fault_end (at rows (Some (name, [])) (option_waits name) false)) ∙ none in cc
  walk_is_scan (word ∷ words) utf8 o w rows stands = by (look_at names word) refl (walk_is_scan words utf8.1) o w rows stands
    where
      by : (l : Look) → look_at names word ≡ l
          → ((o : Option Word) (w : Walk) (rows : List Row) → Stands o w rows → Comes (scan names words o) w words rows)
          → (o : Option Word) (w : Walk) (rows : List Row) → Stands o w rows → Comes (scan_step l o word words (scan names words)) w (word ∷ words) rows
      by look_dashes e more _ _ _ (rests rows pending waiting rest) =
          comes_on (at rows pending waiting false) word words (at rows pending waiting true) (Some (map place words)) (settled_rows s.rules pending rows)
          (dashes_turn s names reads rows word pending waiting rest (is_dashes names word e))
          (dashes_after s names reads rows word pending waiting rest (is_dashes names word e)) (trails words rows pending waiting rest)
      by (look_joined name value) e more _ _ _ (rests rows pending waiting rest) =
          let saw = seen names word (look_joined name value) e (not_joined name value) in
          let next = with_said (option name value) (settled_rows s.rules pending rows) in
          says_more (at rows pending waiting false) word words (at next None idle false) (option name value) (scan names words None) (settled_rows s.rules pending rows)
          (joined_turn s names reads rows word name value pending waiting rest saw.0 saw.1.0 saw.1.1)
          (joined_after s names reads rows word name value pending waiting rest saw.0 saw.1.0 saw.1.1)
          (more None (at next None idle false) next (rests next None idle quiet))
      by (look_apart name) e more _ _ _ (rests rows pending waiting rest) =
          let saw = seen names word (look_apart name) e (not_apart name) in
          let next = settled_rows s.rules pending rows in
          comes_on (at rows pending waiting false) word words (at next (Some (name, [])) (option_waits name) false) (scan names words (Some name)) next
          (apart_turn s names reads rows word name pending waiting rest saw.0 saw.1.0 saw.1.1)
          (apart_after s names reads rows word name pending waiting rest saw.0 saw.1.0 saw.1.1)
          (more (Some name) (at next (Some (name, [])) (option_waits name) false) next (waits next name saw.1.1))
      by look_plain e more _ _ _ (rests rows pending waiting rest) =
          let plain = looks_plain_so names word e in
          let before = settled_rows s.rules pending rows in
          let next = at before (Some (place_id, word ∷ [])) positional false in
          let now : settled_rows s.rules (Some (place_id, word ∷ [])) before ≡ with_said (place word) before = rw reads.words refl in
          says_more (at rows pending waiting false) word words next (place word) (scan names words None) before
          (plain_turn s names reads rows word pending waiting rest plain) (plain_after s names reads rows word pending waiting rest plain)
          (subst (Comes (scan names words None) next words) now
          (more None next (settled_rows s.rules (Some (place_id, word ∷ [])) before) (rests before (Some (place_id, word ∷ [])) positional (put word))))
      by look_bad e more _ _ _ (rests rows pending waiting rest) = bad_word word words utf8.0 e rows pending waiting
      by look_plain e more _ _ _ (waits rows name known) =
          let plain = looks_plain_so names word e in
          let next = at rows (Some (name, word ∷ [])) idle false in
          let now : settled_rows s.rules (Some (name, word ∷ [])) rows ≡ with_said (option name word) rows = rw (reads.known name known) refl in
          says_more (at rows (Some (name, [])) (option_waits name) false) word words next (option name word) (scan names words None) rows
          (value_turn s names reads rows word name known plain) (value_after s names reads rows word name known plain)
          (subst (Comes (scan names words None) next words) now
          (more None next (settled_rows s.rules (Some (name, word ∷ [])) rows) (rests rows (Some (name, word ∷ [])) idle (used name word known))))
      by look_dashes e more _ _ _ (waits rows name known) = λ none.
          let w = at rows (Some (name, [])) (option_waits name) false in
          let next = at rows (Some (name, [])) (option_waits name) true in
          late_trails words rows name known
          (sym (goes_on w word words next (late_dashes_turn s names reads rows word name known (is_dashes names word e))
          (late_dashes_after s names reads rows word name known (is_dashes names word e))) ∙ none)
      by (look_joined other value) e more _ _ _ (waits rows name known) =
          let saw = seen names word (look_joined other value) e (not_joined other value) in
          refused (at rows (Some (name, [])) (option_waits name) false) word words kind.InvalidValue
          (late_joined_turn s names reads rows word name known other value saw.0 saw.1.0 saw.1.1)
      by (look_apart other) e more _ _ _ (waits rows name known) =
          let saw = seen names word (look_apart other) e (not_apart other) in
          refused (at rows (Some (name, [])) (option_waits name) false) word words kind.InvalidValue
          (late_apart_turn s names reads rows word name known other saw.0 saw.1.0 saw.1.1)
      by look_bad e more _ _ _ (waits rows name known) = bad_word word words utf8.0 e rows (Some (name, [])) (option_waits name)
