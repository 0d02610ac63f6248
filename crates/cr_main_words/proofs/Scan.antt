-- The words read one after the other, by how each looks to clap; and that this is the telling of the definition.
use Rattle.std.proofs.Common.{◌≡◌, ◌⊎◌, inl, inr, Bool, true, false, List, [], ◌∷◌, ◌++◌, cond, ◌||◌, codes, map, Option, Some, None, refl, sym, ap, ◌∙◌, subst}
use Rattle.std.specs.Str.{bytes_eq}
use Rattle.std.specs.List.{list_any}
use Rattle.clap.specs.Lexer.{long_of, short_of}
use Rattle.cr_main_words.specs.Words.{BeginsWith, IsAmong, IsOption, Said, Tells, Word}
use Rattle.cr_main_words.specs.Words.Said.{option, place}
use Rattle.cr_main_words.specs.Words.Tells.{no_word, dashes, joined, apart, stands}
use Rattle.cr_main_words.specs.Splitting.{IsNamed, IsPlain}
use Rattle.cr_main_words.proofs.Forms.{IsFit, LooksPlain, bytes_same, cut_apart, cut_joined, dashes_word, long_apart, long_form, long_joined, looks_plain, not_dashes, option_form, same_bytes}

-- how a word looks
pub data Look : Type 0 where
  look_dashes : Look
  look_joined : Word → Word → Look
  look_apart : Word → Look
  look_bad : Look
  look_plain : Look

abbrev pub is_name : List Word → Word → Bool
is_name names name = list_any (λ n. bytes_eq n name) names

abbrev pub look_value : Word → Option Word → Look
look_value name (Some value) = look_joined name value
look_value name None = look_apart name

abbrev pub look_words : List Word → Option (Word × Option Word) → Option Word → Look
look_words names (Some p) short = cond (is_name names p.0) (look_value p.0 p.1) look_bad
look_words names None (Some flags) = look_bad
look_words names None None = look_plain

abbrev pub look_at : List Word → Word → Look
look_at names word = cond (bytes_eq word dashes_word) look_dashes (look_words names (long_of word) (short_of word))

abbrev pub and_said : Said → Option (List Said) → Option (List Said)
and_said x None = None
and_said x (Some said) = Some (x ∷ said)

-- by how the first word looks: with the option that waits for its value, and what the words behind it say
abbrev pub scan_step : Look → Option Word → Word → List Word → (Option Word → Option (List Said)) → Option (List Said)
scan_step look_dashes None word words rest = Some (map place words)
scan_step (look_joined name value) None word words rest = and_said (option name value) (rest None)
scan_step (look_apart name) None word words rest = rest (Some name)
scan_step look_plain None word words rest = and_said (place word) (rest None)
scan_step look_plain (Some name) word words rest = and_said (option name word) (rest None)
scan_step _ _ word words rest = None

abbrev pub scan_end : Option Word → Option (List Said)
scan_end None = Some []
scan_end (Some name) = None

abbrev pub scan : List Word → List Word → Option Word → Option (List Said)
scan names [] pending = scan_end pending
scan names (word ∷ words) pending = scan_step (look_at names word) pending word words (scan names words)

pub among_named : (names : List Word) (name : Word) → IsAmong name names → is_name names name ≡ true
among_named [] name among = absurd among
among_named (n ∷ names) name (inl is) = rw (sym (ap (λ x. bytes_eq x name) is) ∙ bytes_same name) refl
among_named (n ∷ names) name (inr more) = by (bytes_eq n name) (among_named names name more)
  where
    by : (t : Bool) → is_name names name ≡ true → (t || is_name names name) ≡ true
    by true e = refl
    by false e = e

pub named_among : (names : List Word) (name : Word) → is_name names name ≡ true → IsAmong name names
named_among [] name named = cc
named_among (n ∷ names) name named = by (named_among names name) (bytes_eq n name) refl
  where
    by : (is_name names name ≡ true → IsAmong name names) → (t : Bool) → bytes_eq n name ≡ t → IsAmong name (n ∷ names)
    by more true e = inl (sym (same_bytes n name e))
    by more false e = inr (more (rw e at named))

-- each of the names is fit
abbrev pub AllFit : List Word → Type 0
AllFit [] = Unit {0}
AllFit (name ∷ names) = IsFit name × AllFit names

pub fit_at : (names : List Word) (name : Word) → AllFit names → IsAmong name names → IsFit name
fit_at [] name all among = absurd among
fit_at (n ∷ names) name all (inl is) = subst IsFit (sym is) all.0
fit_at (n ∷ names) name all (inr more) = fit_at names name all.1 more

module _ (names : List Word) (all : AllFit names) where
  sees_joined : (word name value : Word) → IsAmong name names → word ≡ codes "--" ++ (name ++ (codes "=" ++ value)) → look_at names word ≡ look_joined name value
  sees_joined word name value among is =
      let fit = fit_at names name all among in
      ap (look_at names) is ∙ rw (not_dashes name (61 ∷ value) fit, long_joined name value fit, among_named names name among) refl

  sees_apart : (word name : Word) → IsAmong name names → word ≡ codes "--" ++ name → look_at names word ≡ look_apart name
  sees_apart word name among is =
      let fit = fit_at names name all among in
      let no : bytes_eq (45 ∷ 45 ∷ name) dashes_word ≡ false = ap (λ n. bytes_eq (45 ∷ 45 ∷ n) dashes_word) fit.some.2 in
      ap (look_at names) is ∙ rw (no, long_apart name fit, among_named names name among) refl

  sees_plain : (word : Word) → (IsOption word → ⊥) → look_at names word ≡ look_plain
  sees_plain word plain = let l = looks_plain word plain in rw (l.dashes, l.long, l.short) refl

  -- what the words tell is read
  pub told_is_read : (words : List Word) (said : List Said) → Tells names words said → scan names words None ≡ Some said
  told_is_read _ _ no_word = refl
  told_is_read _ _ (dashes {word = word} {words = words} is) = rw (ap (look_at names) is) refl
  told_is_read _ _ (joined {word = word} {words = words} {said = said} name value among is rest) =
      rw (sees_joined word name value among is, told_is_read words said rest) refl
  told_is_read _ _ (apart {word = word} {value = value} {words = words} {said = said} name among is plain rest) =
      rw (sees_apart word name among is, sees_plain value (λ o. plain (o.0 ∷ o.1, o.2)), told_is_read words said rest) refl
  told_is_read _ _ (stands {word = word} {words = words} {said = said} plain rest) =
      rw (sees_plain word plain, told_is_read words said rest) refl

-- ---- what a word is that looks so
module _ (names : List Word) where
  abbrev pub Came : Look → Option (Word × Option Word) → Option Word → Type 0
  Came look_dashes long short = ⊥
  Came (look_joined name value) long short = (long ≡ Some (name, Some value)) × (is_name names name ≡ true)
  Came (look_apart name) long short = (long ≡ Some (name, None)) × (is_name names name ≡ true)
  Came look_bad long short = ((name : Word) × (value : Option Word) × (long ≡ Some (name, value)) × (is_name names name ≡ false)) ⊎ ((long ≡ None) × (flags : Word) × (short ≡ Some flags))
  Came look_plain long short = (long ≡ None) × (short ≡ None)

  came : (long : Option (Word × Option Word)) (short : Option Word) → Came (look_words names long short) long short
  came None None = (refl, refl)
  came None (Some flags) = inr (refl, flags, refl)
  came (Some p) short = from p.0 p.1 (is_name names p.0) refl
    where
      from : (name : Word) (value : Option Word) (t : Bool) → is_name names name ≡ t → Came (cond t (look_value name value) look_bad) (Some (name, value)) short
      from name (Some value) true e = (refl, e)
      from name None true e = (refl, e)
      from name value false e = inl (name, value, refl, e)

  module _ (word : Word) where
    looks : (l : Look) → look_at names word ≡ l
        → ((word ≡ dashes_word) × (look_dashes ≡ l)) ⊎ ((bytes_eq word dashes_word ≡ false) × Came l (long_of word) (short_of word))
    looks l e = by (bytes_eq word dashes_word) refl
      where
        by : (t : Bool) → bytes_eq word dashes_word ≡ t
            → ((word ≡ dashes_word) × (look_dashes ≡ l)) ⊎ ((bytes_eq word dashes_word ≡ false) × Came l (long_of word) (short_of word))
        by true f = inl (same_bytes word dashes_word f, rw f at e)
        by false f =
            let at : look_words names (long_of word) (short_of word) ≡ l = rw f at e in
            inr (f, subst (λ x. Came x (long_of word) (short_of word)) at (came (long_of word) (short_of word)))

    pub seen : (l : Look) → look_at names word ≡ l → (look_dashes ≡ l → ⊥) → (bytes_eq word dashes_word ≡ false) × Came l (long_of word) (short_of word)
    seen l e other = elim (looks l e) [ inl h ↦ absurd (other h.1) | inr h ↦ h ]

    pub is_dashes : look_at names word ≡ look_dashes → word ≡ dashes_word
    is_dashes e = elim (looks look_dashes e) [ inl h ↦ h.0 | inr h ↦ absurd h.1 ]

    pub joined_form : (name value : Word) → look_at names word ≡ look_joined name value → IsAmong name names × (word ≡ 45 ∷ 45 ∷ (name ++ 61 ∷ value))
    joined_form name value e = elim (looks (look_joined name value) e) [
      | inl h ↦ let bad : look_dashes ≡ look_joined name value = h.1 in cc
      | inr h ↦
          let form = long_form word name (Some value) h.1.0 in
          (named_among names name h.1.1, form.1 ∙ ap (λ r. 45 ∷ 45 ∷ r) (cut_joined form.0 name value form.2))
    ]

    pub apart_form : (name : Word) → look_at names word ≡ look_apart name → IsAmong name names × (word ≡ 45 ∷ 45 ∷ name)
    apart_form name e = elim (looks (look_apart name) e) [
      | inl h ↦ let bad : look_dashes ≡ look_apart name = h.1 in cc
      | inr h ↦
          let form = long_form word name None h.1.0 in
          (named_among names name h.1.1, form.1 ∙ ap (λ r. 45 ∷ 45 ∷ r) (cut_apart form.0 name form.2))
    ]

    pub looks_plain_so : look_at names word ≡ look_plain → LooksPlain word
    looks_plain_so e = elim (looks look_plain e) [
      | inl h ↦ let bad : look_dashes ≡ look_plain = h.1 in cc
      | inr h ↦ record { dashes = h.0; long = h.1.0; short = h.1.1 }
    ]

    pub plain_form : look_at names word ≡ look_plain → IsOption word → ⊥
    plain_form e = option_form word (looks_plain_so e)

-- ---- and back

-- what was read of the words behind an option that waits for its value
pub record ReadsValue (names : List Word) (name : Word) (words : List Word) (said : List Said) : Type 0 where
  pub value : Word
  pub rest : List Word
  pub more : List Said
  pub words_are : words ≡ value ∷ rest
  pub said_is : said ≡ option name value ∷ more
  pub tells : Tells names rest more

abbrev pub WasRead : List Word → Option Word → List Word → List Said → Type 0
WasRead names None words said = Tells names words said
WasRead names (Some name) words said = ReadsValue names name words said

abbrev pub PendingIsNamed : List Word → Option Word → Type 0
PendingIsNamed names None = Unit {0}
PendingIsNamed names (Some name) = IsAmong name names

abbrev pub IsReadAs : List Word → Option Word → List Word → List Said → Type 0
IsReadAs names pending words said = (IsPlain said → WasRead names pending words said) × IsNamed names said

said_more : (x : Said) (o : Option (List Said)) (said : List Said) → and_said x o ≡ Some said → (more : List Said) × (o ≡ Some more) × (said ≡ x ∷ more)
said_more x None said is = cc
said_more x (Some more) said is = (more, refl, cc)

named_places : (names words : List Word) → IsNamed names (map place words)
named_places names [] = tt
named_places names (word ∷ words) = named_places names words

module _ (names : List Word) where
  pub read_is_told : (words : List Word) (pending : Option Word) (said : List Said) → PendingIsNamed names pending → scan names words pending ≡ Some said
      → IsReadAs names pending words said
  read_is_told [] None said named is = let none : [] ≡ said = cc in subst (IsReadAs names None []) none (λ _. no_word, tt)
  read_is_told [] (Some name) said named is = cc
  read_is_told (word ∷ words) pending said named is = by (look_at names word) refl (read_is_told words) pending said named is
    where
      by : (l : Look) → look_at names word ≡ l
          → ((pending : Option Word) (said : List Said) → PendingIsNamed names pending → scan names words pending ≡ Some said → IsReadAs names pending words said)
          → (pending : Option Word) (said : List Said) → PendingIsNamed names pending → scan_step (look_at names word) pending word words (scan names words) ≡ Some said
          → IsReadAs names pending (word ∷ words) said
      by look_dashes e rest None said named is =
          let at : Some (map place words) ≡ Some said = rw e at is in
          let all : map place words ≡ said = cc in
          subst (IsReadAs names None (word ∷ words)) all (λ _. dashes (is_dashes names word e), named_places names words)
      by (look_joined name value) e rest None said named is =
          let at : and_said (option name value) (scan names words None) ≡ Some said = rw e at is in
          let more = said_more (option name value) (scan names words None) said at in
          let told = rest None more.0 tt more.1 in
          let form = joined_form names word name value e in
          subst (IsReadAs names None (word ∷ words)) (sym more.2)
          (λ plain. joined name value form.0 form.1 (told.0 plain.1), (form.0, told.1))
      by (look_apart name) e rest None said named is =
          let at : scan names words (Some name) ≡ Some said = rw e at is in
          let form = apart_form names word name e in
          let told = rest (Some name) said form.0 at in (
            λ plain.
                let v = told.0 plain in
                let behind : BeginsWith v.value 45 → ⊥ = (subst IsPlain v.said_is plain).0 in
                subst (λ ws. Tells names (word ∷ ws) said) (sym v.words_are)
                (subst (Tells names (word ∷ (v.value ∷ v.rest))) (sym v.said_is) (apart name form.0 form.1 behind v.tells)),
            told.1,
          )
      by look_bad e rest None said named is = let bad : None ≡ Some said = rw e at is in cc
      by look_plain e rest None said named is =
          let at : and_said (place word) (scan names words None) ≡ Some said = rw e at is in
          let more = said_more (place word) (scan names words None) said at in
          let told = rest None more.0 tt more.1 in
          subst (IsReadAs names None (word ∷ words)) (sym more.2)
          (λ plain. stands (plain_form names word e) (told.0 plain), told.1)
      by look_plain e rest (Some name) said named is =
          let at : and_said (option name word) (scan names words None) ≡ Some said = rw e at is in
          let more = said_more (option name word) (scan names words None) said at in
          let told = rest None more.0 tt more.1 in
          subst (IsReadAs names (Some name) (word ∷ words)) (sym more.2)
          (λ plain. record { value = word; rest = words; more = more.0; words_are = refl; said_is = refl; tells = told.0 plain.1 }, (named, told.1))
      by look_dashes e rest (Some name) said named is = let bad : None ≡ Some said = rw e at is in cc
      by (look_joined other value) e rest (Some name) said named is = let bad : None ≡ Some said = rw e at is in cc
      by (look_apart other) e rest (Some name) said named is = let bad : None ≡ Some said = rw e at is in cc
      by look_bad e rest (Some name) said named is = let bad : None ≡ Some said = rw e at is in cc
