-- What a word looks like: to clap, and as the definition has it.
use Rattle.std.proofs.Common.{◌≡◌, ◌==◌, ℕ, zero, suc, ◌<◌, Bool, true, false, List, [], ◌∷◌, ◌++◌, length, get_or, Option, Some, None, refl, sym, ap, ◌∙◌, subst, arith}
use Rattle.std.specs.Str.{bytes_eq}
use Rattle.std.specs.List.{before_first, after_first, position_or_len}
use Rattle.std.proofs.lemmas.Bool.Decides.{nat_tests}
use Rattle.std.proofs.lemmas.List.Sums.{passes_at_first, split_at_first}
use Rattle.std.proofs.lemmas.Slice.Eq.{bytes_eq-Decides}
use Rattle.clap.specs.Lexer.{has_byte, long_of, long_of_rest, name_and_value, short_of}
use Rattle.clap.proofs.CutLemmas.{Lacks, before_first-Lacks}
use Rattle.clap.proofs.LexerLemmas.{name_and_value-at, name_and_value-without}
use Rattle.cr_main_words.specs.Words.{IsOption, Word}

abbrev pub dashes_word : Word
dashes_word = 45 ∷ 45 ∷ []

-- a name that can be told in a word: it has a byte, and none of them is =
pub record IsFit (name : Word) : Type 0 where
  pub some : (byte : ℕ) × (more : List ℕ) × (name ≡ byte ∷ more)
  pub no_equals : Lacks 61 name

pub same_bytes : (xs ys : List ℕ) → bytes_eq xs ys ≡ true → xs ≡ ys
same_bytes xs ys = (bytes_eq-Decides xs ys).0

pub bytes_same : (xs : List ℕ) → bytes_eq xs xs ≡ true
bytes_same xs = (bytes_eq-Decides xs xs).1 refl

pub not_same : (xs ys : List ℕ) → bytes_eq xs ys ≡ false → xs ≡ ys → ⊥
not_same xs ys e is = let bad : true ≡ false = sym ((bytes_eq-Decides xs ys).1 is) ∙ e in cc

pub bytes_differ : (xs ys : List ℕ) → (xs ≡ ys → ⊥) → bytes_eq xs ys ≡ false
bytes_differ xs ys differ = by (bytes_eq xs ys) refl
  where
    by : (t : Bool) → bytes_eq xs ys ≡ t → bytes_eq xs ys ≡ false
    by true e = absurd (differ (same_bytes xs ys e))
    by false e = e

-- ---- from the definition's forms to clap's

pub long_joined : (name value : Word) → IsFit name → long_of (45 ∷ 45 ∷ (name ++ 61 ∷ value)) ≡ Some (name, Some value)
long_joined name value fit =
    let e = fit.some.2 in
    ap (λ n. long_of (45 ∷ 45 ∷ (n ++ 61 ∷ value))) e
    ∙ ap (λ p. Some p) (name_and_value-at (fit.some.0 ∷ fit.some.1) value (subst (Lacks 61) e fit.no_equals) ∙ ap (λ n. (n, Some value)) (sym e))

pub long_apart : (name : Word) → IsFit name → long_of (45 ∷ 45 ∷ name) ≡ Some (name, None)
long_apart name fit =
    let e = fit.some.2 in
    ap (λ n. long_of (45 ∷ 45 ∷ n)) e
    ∙ ap (λ p. Some p) (name_and_value-without (fit.some.0 ∷ fit.some.1) (subst (Lacks 61) e fit.no_equals) ∙ ap (λ n. (n, None)) (sym e))

pub not_dashes : (name rest : Word) → IsFit name → bytes_eq (45 ∷ 45 ∷ (name ++ rest)) dashes_word ≡ false
not_dashes name rest fit = ap (λ n. bytes_eq (45 ∷ 45 ∷ (n ++ rest)) dashes_word) fit.some.2

-- a word that is no option, in clap's tests
pub record LooksPlain (word : Word) : Type 0 where
  pub dashes : bytes_eq word dashes_word ≡ false
  pub long : long_of word ≡ None
  pub short : short_of word ≡ None

pub looks_plain : (word : Word) → (IsOption word → ⊥) → LooksPlain word
looks_plain [] plain = record { dashes = refl; long = refl; short = refl }
looks_plain (a ∷ []) plain = by (a == 45) refl
  where
    by : (t : Bool) → (a == 45) ≡ t → LooksPlain (a ∷ [])
    by true e = record { dashes = rw e refl; long = rw e refl; short = rw e refl }
    by false e = record { dashes = rw e refl; long = rw e refl; short = rw e refl }
looks_plain (a ∷ (b ∷ more)) plain = by (a == 45) refl
  where
    by : (t : Bool) → (a == 45) ≡ t → LooksPlain (a ∷ (b ∷ more))
    by true e = let is : a ≡ 45 = grind (arith, nat_tests) in absurd (plain (b, more, ap (λ x. x ∷ (b ∷ more)) is))
    by false e = record { dashes = rw e refl; long = rw e refl; short = rw e refl }

-- ---- and back

pub option_form : (word : Word) → LooksPlain word → IsOption word → ⊥
option_form word plain (b, more, is) = by (b == 45) refl more refl
  where
    by : (t : Bool) → (b == 45) ≡ t → (rest : List ℕ) → more ≡ rest → ⊥
    by true e [] none =
        let it : b ≡ 45 = grind (arith, nat_tests) in
        let bad : bytes_eq word dashes_word ≡ true = ap (λ w. bytes_eq w dashes_word) (is ∙ ap (λ m. 45 ∷ b ∷ m) none ∙ ap (λ x. 45 ∷ x ∷ []) it) in cc
    by true e (x ∷ xs) some =
        let it : b ≡ 45 = grind (arith, nat_tests) in
        let bad : long_of word ≡ Some (name_and_value (x ∷ xs)) = ap long_of (is ∙ ap (λ m. 45 ∷ b ∷ m) some ∙ ap (λ y. 45 ∷ y ∷ (x ∷ xs)) it) in cc
    by false e rest same =
        let bad : short_of word ≡ Some (b ∷ more) = ap short_of is ∙ rw e refl in cc

-- what stands round the first =, and what has none
any_below : (c : ℕ) (text : List ℕ) → has_byte c text ≡ true → position_or_len (λ x. x == c) text < length text
any_below c [] some = cc
any_below c (a ∷ more) some = by (any_below c more) (a == c) refl
  where
    by : (has_byte c more ≡ true → position_or_len (λ x. x == c) more < length more) → (t : Bool) → (a == c) ≡ t
        → position_or_len (λ x. x == c) (a ∷ more) < length (a ∷ more)
    by rest true e = rw e (omega arith)
    by rest false e = let below = rest (rw e at some) in rw e (omega arith)

pub lacks : (c : ℕ) (text : List ℕ) → has_byte c text ≡ false → Lacks c text
lacks c [] none = λ i lt is. absurd (omega arith)
lacks c (a ∷ more) none = by (lacks c more) (a == c) refl
  where
    by : (has_byte c more ≡ false → Lacks c more) → (t : Bool) → (a == c) ≡ t → Lacks c (a ∷ more)
    by rest true e i lt is = let bad : true ≡ false = rw e at none in cc
    by rest false e zero lt is = grind (arith, nat_tests)
    by rest false e (suc i) lt is = rest (rw e at none) i (omega arith) is

cut : (text : List ℕ) → has_byte 61 text ≡ true → text ≡ before_first (λ x. x == 61) text ++ 61 ∷ after_first (λ x. x == 61) text
cut text some =
    let below = any_below 61 text some in
    let at = passes_at_first (λ x. x == 61) text 0 below in
    let is : get_or text (position_or_len (λ x. x == 61) text) 0 ≡ 61 = grind (arith, nat_tests) in
    split_at_first (λ x. x == 61) text 0 below ∙ ap (λ b. before_first (λ x. x == 61) text ++ b ∷ after_first (λ x. x == 61) text) is

pub cut_joined : (rest name value : Word) → name_and_value rest ≡ (name, Some value) → rest ≡ name ++ 61 ∷ value
cut_joined rest name value is = by (has_byte 61 rest) refl
  where
    by : (t : Bool) → has_byte 61 rest ≡ t → rest ≡ name ++ 61 ∷ value
    by true e =
        let at : (before_first (λ x. x == 61) rest, Some (after_first (λ x. x == 61) rest)) ≡ (name, Some value) = rw e at is in
        let first : before_first (λ x. x == 61) rest ≡ name = ap (λ p. p.0) at in
        let some : Some (after_first (λ x. x == 61) rest) ≡ Some value = ap (λ p. p.1) at in
        let second : after_first (λ x. x == 61) rest ≡ value = cc in
        cut rest e ∙ ap (λ n. n ++ 61 ∷ after_first (λ x. x == 61) rest) first ∙ ap (λ v. name ++ 61 ∷ v) second
    by false e =
        let at : (before_first (λ x. x == 61) rest, None) ≡ (name, Some value) = rw e at is in
        let bad : None ≡ Some value = ap (λ p. p.1) at in cc

pub cut_apart : (rest name : Word) → name_and_value rest ≡ (name, None) → rest ≡ name
cut_apart rest name is = by (has_byte 61 rest) refl
  where
    by : (t : Bool) → has_byte 61 rest ≡ t → rest ≡ name
    by true e =
        let at : (before_first (λ x. x == 61) rest, Some (after_first (λ x. x == 61) rest)) ≡ (name, None) = rw e at is in
        let bad : Some (after_first (λ x. x == 61) rest) ≡ None = ap (λ p. p.1) at in cc
    by false e = sym (before_first-Lacks 61 rest (lacks 61 rest e)) ∙ ap (λ p. p.0) is

pub long_form : (word name : Word) (value : Option Word) → long_of word ≡ Some (name, value) → (rest : List ℕ) × (word ≡ 45 ∷ 45 ∷ rest) × (name_and_value rest ≡ (name, value))
long_form [] name value is = cc
long_form (a ∷ []) name value is = by (a == 45) refl
  where
    by : (t : Bool) → (a == 45) ≡ t → (rest : List ℕ) × (a ∷ [] ≡ 45 ∷ 45 ∷ rest) × (name_and_value rest ≡ (name, value))
    by true e = let bad : None ≡ Some (name, value) = rw e at is in cc
    by false e = let bad : None ≡ Some (name, value) = rw e at is in cc
long_form (a ∷ (b ∷ more)) name value is = by (a == 45) refl (b == 45) refl
  where
    onto : (rest : List ℕ) → more ≡ rest → long_of_rest rest ≡ Some (name, value) → a ≡ 45 → b ≡ 45
        → (rest : List ℕ) × (a ∷ (b ∷ more) ≡ 45 ∷ 45 ∷ rest) × (name_and_value rest ≡ (name, value))
    onto [] same at x y = cc
    onto (z ∷ zs) same at x y =
        (z ∷ zs, ap (λ r. a ∷ (b ∷ r)) same ∙ ap (λ p. p ∷ (b ∷ (z ∷ zs))) x ∙ ap (λ q. 45 ∷ (q ∷ (z ∷ zs))) y, cc)

    by : (t : Bool) → (a == 45) ≡ t → (u : Bool) → (b == 45) ≡ u → (rest : List ℕ) × (a ∷ (b ∷ more) ≡ 45 ∷ 45 ∷ rest) × (name_and_value rest ≡ (name, value))
    by false e u f = let bad : None ≡ Some (name, value) = rw e at is in cc
    by true e false f = let bad : None ≡ Some (name, value) = rw (e, f) at is in cc
    by true e true f = onto more refl (rw (e, f) at is) (grind (arith, nat_tests)) (grind (arith, nat_tests))
