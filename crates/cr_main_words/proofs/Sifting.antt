-- The words before the first --, and those without the flags.
use Rattle.std.proofs.Common.{◌≡◌, ◌+◌, ◌||◌, ℕ, Bool, true, false, not, List, [], ◌∷◌, ◌++◌, codes, cond, drop, filter, length, map, nat_lt, take, slice_get, get_or, ◌<◌, ◌≤◌, Option, Some, None, String, string_bytes, unwrap_or, inl, inr, refl, sym, ap, ◌∙◌, subst, arith}
use Rattle.std.specs.List.{count_by, position, position_or_len}
use Rattle.std.specs.Option.{option_map}
use Rattle.std.specs.Str.{bytes_eq}
use Rattle.std.specs.Global.{Global}
use Rattle.std.proofs.lemmas.Bool.Decides.{nat_tests}
use Rattle.std.proofs.lemmas.List.{drop-map, take-append-drop, take-map}
use Rattle.std.proofs.lemmas.Option.{slice_get-map, slice_get_past, slice_get_read}
use Rattle.std.proofs.lemmas.List.Sums.{prefix_len-le-length, sum_by-cons, take_while-cons}
use Rattle.cr_main_words.specs.Flags.{flag_words, from_end, in_front, is_end, is_flag, is_labelled, first_label, label_count, rest_of, times}
use Rattle.cr_main_words.specs.Words.{IsAmong, Said, Tells, Word, option_names, texts_of}
use Rattle.cr_main_words.proofs.Results.{fit_names}
use Rattle.cr_main_words.proofs.Scan.{scan, told_is_read}

-- ---- tests of what a list's elements are mapped to

module _ {X Y : Type 0} (f : X → Y) (p : Y → Bool) where
  pub position_or_len-map : (xs : List X) → position_or_len p (map f xs) ≡ position_or_len (λ x. p (f x)) xs
  position_or_len-map [] = refl
  position_or_len-map (x ∷ xs) = ap (λ n. cond (not (p (f x))) (1 + n) 0) (position_or_len-map xs)

  pub count_by-map : (xs : List X) → count_by p (map f xs) ≡ count_by (λ x. p (f x)) xs
  count_by-map [] = refl
  count_by-map (x ∷ xs) =
      sum_by-cons (λ y. cond (p y) 1 0) (f x) (map f xs) ∙ ap (λ n. cond (p (f x)) 1 0 + n) (count_by-map xs)
      ∙ sym (sum_by-cons (λ x. cond (p (f x)) 1 0) x xs)

-- the place of the first that passes, or the length
pub first_or_len : {X : Type 0} (p : X → Bool) (xs : List X) → unwrap_or (position p xs) (length xs) ≡ position_or_len p xs
first_or_len p xs = by (nat_lt (position_or_len p xs) (length xs)) refl
  where
    by : (t : Bool) → nat_lt (position_or_len p xs) (length xs) ≡ t → unwrap_or (cond t (Some (position_or_len p xs)) None) (length xs) ≡ position_or_len p xs
    by true e = refl
    by false e = let most = prefix_len-le-length (λ x. not (p x)) xs in grind (arith, nat_tests)

-- the words in front, and those behind, by the place of the first --
pub front_is : (list : List (String Global)) (end : ℕ) → end ≡ position_or_len is_end (texts_of list) → in_front (texts_of list) ≡ texts_of (take end list)
front_is list end is = ap (λ n. take n (texts_of list)) (sym is) ∙ take-map string_bytes end list

pub behind_is : (list : List (String Global)) (end : ℕ) → end ≡ position_or_len is_end (texts_of list) → from_end (texts_of list) ≡ texts_of (drop end list)
behind_is list end is = ap (λ n. drop n (texts_of list)) (sym is) ∙ drop-map string_bytes end list

-- what is pushed, first those that are no flags and then those behind, is all without the flags
pub rest_is : (list now others behind : List (String Global)) (end : ℕ) → texts_of now ≡ texts_of others ++ texts_of behind → behind ≡ drop end list
    → texts_of others ≡ filter (λ w. not (is_flag w)) (texts_of (take end list)) → end ≡ position_or_len is_end (texts_of list)
    → texts_of now ≡ rest_of (texts_of list)
rest_is list now others behind end all last first is =
    let front = first ∙ ap (filter (λ w. not (is_flag w))) (sym (front_is list end is)) in
    let back = ap texts_of last ∙ sym (behind_is list end is) in
    all ∙ ap (λ t. t ++ texts_of behind) front ∙ ap (λ t. filter (λ w. not (is_flag w)) (in_front (texts_of list)) ++ t) back

-- ---- the label

-- the first word with a label, among those in front
pub label_at : (list front : List (String Global)) (at : ℕ) → in_front (texts_of list) ≡ texts_of front → at ≡ position_or_len (λ word. is_labelled (string_bytes word)) front
    → first_label (texts_of list) ≡ option_map (λ word. drop 10 (string_bytes word)) (slice_get front at)
label_at list front at front_is at_is =
    ap (λ words. option_map (λ word. drop 10 word) (slice_get words (position_or_len is_labelled words))) front_is
    ∙ ap (λ n. option_map (λ word. drop 10 word) (slice_get (texts_of front) n)) (position_or_len-map string_bytes is_labelled front ∙ sym at_is)
    ∙ ap (option_map (λ word. drop 10 word)) (slice_get-map string_bytes front at) ∙ twice (slice_get front at)
  where
    twice : (o : Option (String Global)) → option_map (λ word. drop 10 word) (option_map string_bytes o) ≡ option_map (λ word. drop 10 (string_bytes word)) o
    twice None = refl
    twice (Some word) = refl

-- what that word has behind the flag is the label
pub label_is : (list front : List (String Global)) (at : ℕ) (word : String Global) (label : List ℕ) → in_front (texts_of list) ≡ texts_of front
    → at ≡ position_or_len (λ word. is_labelled (string_bytes word)) front → at < length front → word ≡ get_or front at word → label ≡ drop 10 (string_bytes word)
    → first_label (texts_of list) ≡ Some label
label_is list front at word label front_is at_is low is behind =
    label_at list front at front_is at_is ∙ ap (option_map (λ word. drop 10 (string_bytes word))) (slice_get_read front (length front) at word refl low is) ∙ ap Some (sym behind)

-- where there is no such word there is none
pub label_none : (list front : List (String Global)) (at : ℕ) → in_front (texts_of list) ≡ texts_of front → at ≡ position_or_len (λ word. is_labelled (string_bytes word)) front
    → length front ≤ at → first_label (texts_of list) ≡ None
label_none list front at front_is at_is past = label_at list front at front_is at_is ∙ ap (option_map (λ word. drop 10 (string_bytes word))) (slice_get_past front at past)

-- ---- where no word is a flag

none_passes : (test : Word → Bool) (x : Word) (xs : List Word) → count_by test (x ∷ xs) ≡ 0 → (test x ≡ false) × (count_by test xs ≡ 0)
none_passes test x xs none = by (test x) refl (sym (sum_by-cons (λ w. cond (test w) 1 0) x xs) ∙ none)
  where
    by : (t : Bool) → test x ≡ t → cond t 1 0 + count_by test xs ≡ 0 → (test x ≡ false) × (count_by test xs ≡ 0)
    by true e sum = absurd (omega arith)
    by false e sum = (e, omega arith)

stands_not : (x : Word) (xs : List Word) (flag : Word) → count_by (λ w. bytes_eq w flag) (x ∷ xs) ≡ 0
    → (bytes_eq x flag ≡ false) × (count_by (λ w. bytes_eq w flag) xs ≡ 0)
stands_not x xs flag none = none_passes (λ w. bytes_eq w flag) x xs none

none_of_five : (a b c d e : Bool) → a ≡ false → b ≡ false → c ≡ false → d ≡ false → e ≡ false → ((a || (b || (c || (d || false)))) || e) ≡ false
none_of_five a b c d e p q r s t = rw (p, q, r, s, t) refl

abbrev HasNone : List Word → Type 0
HasNone xs = (flag : Word) → IsAmong flag flag_words → count_by (λ w. bytes_eq w flag) xs ≡ 0

keeps_all : (xs : List Word) → HasNone xs → count_by is_labelled xs ≡ 0 → filter (λ w. not (is_flag w)) xs ≡ xs
keeps_all [] none unlabelled = refl
keeps_all (x ∷ xs) none unlabelled =
    let label = none_passes is_labelled x xs unlabelled in
    let at = λ (flag : Word) (among : IsAmong flag flag_words). stands_not x xs flag (none flag among) in
    let other : is_flag x ≡ false =
    none_of_five (bytes_eq x (codes "--journal")) (bytes_eq x (codes "--resume")) (bytes_eq x (codes "--standing")) (bytes_eq x (codes "--any-order")) (is_labelled x)
    (at (codes "--journal") (inl refl)).0 (at (codes "--resume") (inr (inl refl))).0 (at (codes "--standing") (inr (inr (inl refl)))).0
    (at (codes "--any-order") (inr (inr (inr (inl refl))))).0 label.0 in
    ap (λ t. cond (not t) (x ∷ filter (λ w. not (is_flag w)) xs) (filter (λ w. not (is_flag w)) xs)) other
    ∙ ap (λ more. x ∷ more) (keeps_all xs (λ flag among. (at flag among).1) label.1)

-- without a flag the words are as they stand
pub stays : (words : List Word) → ((flag : Word) → IsAmong flag flag_words → times flag words ≡ 0) → label_count words ≡ 0 → rest_of words ≡ words
stays words none unlabelled = ap (λ front. front ++ from_end words) (keeps_all (in_front words) none unlabelled) ∙ take-append-drop (position_or_len is_end words) words

-- ---- a first word --replay

replay_stays : (others : List Word) → (more : List Word) × (rest_of (codes "--replay" ∷ others) ≡ codes "--replay" ∷ more)
replay_stays others = (
  filter (λ w. not (is_flag w)) (in_front others) ++ from_end (codes "--replay" ∷ others),
  ap (λ front. filter (λ w. not (is_flag w)) front ++ from_end (codes "--replay" ∷ others)) (take_while-cons (λ w. not (is_end w)) (codes "--replay") others),
)

-- it is in no form that gives settings
pub replay_is_refused : (words others : List Word) (said : List Said) → words ≡ codes "--replay" ∷ others → Tells option_names (rest_of words) said → ⊥
replay_is_refused words others said is tells =
    let kept = replay_stays others in
    let read : scan option_names (codes "--replay" ∷ kept.0) None ≡ Some said =
    subst (λ w. scan option_names w None ≡ Some said) (ap rest_of is ∙ kept.1) (told_is_read option_names fit_names (rest_of words) said tells) in cc
