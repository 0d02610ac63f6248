-- Whether the specifiers of a declaration say `typedef`, as names are resolved and as constraints are judged (C11 6.7.1).
use Rattle.std.proofs.Common.{◌≡◌, ℕ, suc, ◌||◌, Bool, true, false, List, [], ◌∷◌, Option, None, Some, slice_get, refl, sym, ap, ◌∙◌, if◌then◌else◌, ◌⊎◌, inl, inr}
use Rattle.std.specs.Prelude.{fold}
use Rattle.std.specs.Option.{is_some}
use Rattle.std.proofs.lemmas.Bool.{false≢true}
use Rattle.cr_syntax.specs.declared.node.Kind.{Kind}
use Rattle.cr_syntax.specs.declared.node.Kind.TheVariants as kind
use Rattle.cr_scopes_events.specs.declared.naming.Storage.{Storage as Word}
use Rattle.cr_scopes_events.specs.declared.naming.Storage.TheVariants.{TypedefWord, ExternWord, NoWord}
use Rattle.cr_scopes_events.specs.declared.declarator.Derivation.{Derivation}
use Rattle.cr_scopes_events.specs.declared.declarator.Derivation.TheVariants.{Nothing, Function, Other}
use Rattle.cr_scopes_events.specs.Scripts.{with_word, role_by}
use Rattle.cr_scopes_linkage.specs.Shared.Sorts.{is_value}
use Rattle.cr_check_enclosing.specs.declared.context.Place.TheVariants as place
use Rattle.cr_check_declarators.specs.declared.words.Class.{Class}
use Rattle.cr_check_declarators.specs.declared.words.Class.TheVariants as class
use Rattle.cr_check_declarators.specs.declared.words.Storage.{Storage}
use Rattle.cr_check_declarators.specs.declared.words.Specified.{Specified}
use Rattle.cr_check_declarators.specs.Specifiers.{is_typedef_word, specified_by, both_storages, joined_of, may_stand, storage_by}
use Rattle.cr_check_declarations.specs.Named.{class_of, is_typedef}
use Rattle.cr_meaning_types.proofs.KnownLemmas.Classes.{first_some, or_right as or_true}

abbrev pub is_type : Word → Bool
is_type TypedefWord = true
is_type ExternWord = false
is_type NoWord = false

abbrev pub says : Option Storage → Bool
says st = is_typedef (class_of st)

-- a name is an object or a function, unless the word is `typedef`
pub value_is : (w : Word) (next : Derivation) → is_type w ≡ false → is_value (role_by w next) ≡ true
value_is TypedefWord next e = absurd (false≢true (sym e))
value_is ExternWord Nothing e = refl
value_is ExternWord (Function f) e = refl
value_is ExternWord Other e = refl
value_is NoWord Nothing e = refl
value_is NoWord (Function f) e = refl
value_is NoWord Other e = refl

pub no_type : (w : Word) (next : Derivation) → is_value (role_by w next) ≡ true → is_type w ≡ false
no_type TypedefWord next e = absurd (false≢true e)
no_type ExternWord next e = refl
no_type NoWord next e = refl

-- ---- one word more

or_false : (a b : Bool) → b ≡ false → (a || b) ≡ a
or_false true b e = refl
or_false false b e = e

joined : (a b : Storage) → b.typedefs ≡ false → says (both_storages (Some a) (Some b)) ≡ says (Some a)
joined a b e = ap (λ x. is_typedef (if x then Some class.Typedef else Some a.class)) (or_false a.typedefs b.typedefs e)

typed : (a b : Storage) → b.typedefs ≡ true → says (both_storages (Some a) (Some b)) ≡ true
typed a b e = ap (λ x. is_typedef (if x then Some class.Typedef else Some a.class)) (or_true a.typedefs b.typedefs e)

both_none : (st : Option Storage) → both_storages st None ≡ st
both_none None = refl
both_none (Some a) = refl

word_typedef : (w : Word) → is_type (with_word w (Some kind.Typedef)) ≡ true
word_typedef TypedefWord = refl
word_typedef ExternWord = refl
word_typedef NoWord = refl

word_other : (w : Word) (k : Kind) → (k ≡ kind.Typedef → ⊥) → is_type (with_word w (Some k)) ≡ is_type w
word_other TypedefWord k f = refl
word_other ExternWord kind.Typedef f = absurd (f refl)
word_other ExternWord kind.Extern f = refl
word_other ExternWord k f = refl
word_other NoWord kind.Typedef f = absurd (f refl)
word_other NoWord kind.Extern f = refl
word_other NoWord k f = refl

abbrev stored : Class → ℕ → Storage
stored c token = record { class = c; token = token; second = None; typedefs = is_typedef_word c }

alone : (c : Class) (token : ℕ) → is_typedef_word c ≡ false → says (Some (stored c token)) ≡ false
alone class.Typedef token e = absurd (false≢true (sym e))
alone class.Extern token e = refl
alone class.Static token e = refl
alone class.Auto token e = refl
alone class.Register token e = refl

-- another storage class
spoken : (w : Word) (st : Option Storage) (k : Kind) (c : Class) (token : ℕ) → (k ≡ kind.Typedef → ⊥) → is_typedef_word c ≡ false → is_type w ≡ says st
    → is_type (with_word w (Some k)) ≡ says (both_storages st (Some (stored c token)))
spoken w None k c token f e h = word_other w k f ∙ h ∙ sym (alone c token e)
spoken w (Some a) k c token f e h = word_other w k f ∙ h ∙ sym (joined a (stored c token) e)

pub step : (w : Word) (st : Option Storage) (k : Kind) (token : ℕ) (declares : Bool) → is_type w ≡ says st → is_type (with_word w (Some k)) ≡ says (both_storages st (specified_by k token declares).storage)
step w None kind.Typedef token declares h = word_typedef w
step w (Some a) kind.Typedef token declares h = word_typedef w ∙ sym (typed a (stored class.Typedef token) refl)
step w st kind.Extern token declares h = spoken w st kind.Extern class.Extern token (λ e. cc) refl h
step w st kind.Static token declares h = spoken w st kind.Static class.Static token (λ e. cc) refl h
step w st kind.Auto token declares h = spoken w st kind.Auto class.Auto token (λ e. cc) refl h
step w st kind.Register token declares h = spoken w st kind.Register class.Register token (λ e. cc) refl h
step w st k token declares h = word_other w k (λ e. cc) ∙ h ∙ ap says (sym (both_none st))

-- several words in turn
pub steps : (kind_at : ℕ → Option Kind) (at : ℕ → Specified) (ps : List ℕ) (w : Word) (said : Specified)
    → ((k p : ℕ) → slice_get ps k ≡ Some p → (v : Word) (st : Option Storage) → is_type v ≡ says st → is_type (with_word v (kind_at p)) ≡ says (both_storages st (at p).storage))
    → is_type w ≡ says said.storage → is_type (fold (λ storage p. with_word storage (kind_at p)) w ps) ≡ says (fold (λ said part. joined_of said (at part)) said ps).storage
steps kind_at at [] w said f h = h
steps kind_at at (p ∷ ps) w said f h = steps kind_at at ps (with_word w (kind_at p)) (joined_of said (at p)) (λ k q e v st g. f (suc k) q e v st g) (f 0 p refl w said.storage h)

-- ---- `typedef` among storage classes

-- it is the one class, or there are several
abbrev pub Held : Option Storage → Type 0
Held None = Unit {0}
Held (Some a) = says (Some a) ≡ true → (a.class ≡ class.Typedef) ⊎ (is_some a.second ≡ true)

held_join : (a b : Option Storage) → Held a → Held b → Held (both_storages a b)
held_join None b h g = g
held_join (Some a) None h g = h
held_join (Some a) (Some b) h g = λ e. inr (first_some a.second b.token)

pub held_word : (k : Kind) (token : ℕ) (declares : Bool) → Held (specified_by k token declares).storage
held_word kind.Typedef token declares = λ e. inl refl
held_word kind.Extern token declares = λ e. absurd (false≢true e)
held_word kind.Static token declares = λ e. absurd (false≢true e)
held_word kind.Auto token declares = λ e. absurd (false≢true e)
held_word kind.Register token declares = λ e. absurd (false≢true e)
held_word k token declares = tt

pub held_words : (at : ℕ → Specified) (ps : List ℕ) (said : Specified) → ((k p : ℕ) → slice_get ps k ≡ Some p → Held (at p).storage) → Held said.storage
    → Held (fold (λ said part. joined_of said (at part)) said ps).storage
held_words at [] said f h = h
held_words at (p ∷ ps) said f h = held_words at ps (joined_of said (at p)) (λ k q e. f (suc k) q e) (held_join said.storage (at p).storage h (f 0 p refl))

-- no definition is a `typedef` (K2)
pub refused : (function : Bool) (st : Option Storage) → Held st → says st ≡ true → is_some (storage_by place.Definition function st) ≡ false → ⊥
refused function None h e none = false≢true e
refused function (Some a) h e none = elim (h e) [
  | inl c ↦ false≢true (sym none ∙ ap (λ x. is_some (if may_stand place.Definition function x then a.second else Some a.token)) c)
  | inr several ↦ by (may_stand place.Definition function a.class) none several
]
  where
    by : (b : Bool) → is_some (if b then a.second else Some a.token) ≡ false → is_some a.second ≡ true → ⊥
    by true f g = false≢true (sym f ∙ g)
    by false f g = false≢true (sym f)
