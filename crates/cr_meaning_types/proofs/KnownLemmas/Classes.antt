-- A `typedef` says so among its storage classes, and stands in no parameter (C11 6.7.1, 6.7.6.3p2, K2).
use Rattle.std.proofs.Common.{◌≡◌, ℕ, zero, suc, ◌⊎◌, inl, inr, ◌||◌, Bool, true, false, List, [], ◌∷◌, Option, None, Some, fold, slice_get, refl, sym, ap, subst, if◌then◌else◌}
use Rattle.std.specs.Option.{is_some}
use Rattle.std.proofs.lemmas.Bool.{false≢true}
use Rattle.cr_syntax.specs.declared.node.Kind.{Kind}
use Rattle.cr_syntax.specs.declared.node.Kind.TheVariants as kind
use Rattle.cr_syntax.specs.declared.node.Node.{Node}
use Rattle.cr_scopes_events.specs.declared.naming.Storage.{Storage as Said}
use Rattle.cr_scopes_events.specs.declared.naming.Storage.TheVariants.{TypedefWord, ExternWord, NoWord}
use Rattle.cr_scopes_events.specs.Scripts as scripts
use Rattle.cr_scopes_events.specs.Scripts.{with_word, words_of, storage_of}
use Rattle.cr_check_enclosing.specs.declared.context.Place.{Place}
use Rattle.cr_check_enclosing.specs.declared.context.Place.TheVariants as place
use Rattle.cr_check_declarators.specs.declared.words.Class.TheVariants as class
use Rattle.cr_check_declarators.specs.declared.words.Storage.{Storage}
use Rattle.cr_check_declarators.specs.declared.words.Specified.{Specified}
use Rattle.cr_check_declarators.specs.Specifiers.{first_of, both_storages, joined_of, may_stand, storage_by}
use Rattle.cr_check_declarators.specs.Declarators.{may_be_open}
use Rattle.cr_check_declarations.specs.Named.{class_of}
use Rattle.cr_check_declarations.specs.Faults.{may_have_initialiser}

-- ---- storage classes with `typedef` among them

abbrev pub Typedefs : Option Storage → Type 0
Typedefs None = ⊥
Typedefs (Some s) = (s.typedefs ≡ true) × ((s.class ≡ class.Typedef) ⊎ (is_some s.second ≡ true))

pub first_some : (o : Option ℕ) (token : ℕ) → is_some (first_of o (Some token)) ≡ true
first_some None token = refl
first_some (Some x) token = refl

pub or_right : (a b : Bool) → b ≡ true → (a || b) ≡ true
or_right true b e = refl
or_right false b e = e

join_left : (a b : Option Storage) → Typedefs a → Typedefs (both_storages a b)
join_left None b h = absurd h
join_left (Some one) None h = h
join_left (Some one) (Some other) h = (ap (λ x. x || other.typedefs) h.0, inr (first_some one.second other.token))

join_right : (a b : Option Storage) → Typedefs b → Typedefs (both_storages a b)
join_right None b h = h
join_right (Some one) None h = absurd h
join_right (Some one) (Some other) h = (or_right one.typedefs other.typedefs h.0, inr (first_some one.second other.token))

folded : (at : ℕ → Specified) (ws : List ℕ) (from : Specified) → Typedefs from.storage → Typedefs (fold (λ said part. joined_of said (at part)) from ws).storage
folded at [] from h = h
folded at (w ∷ ws) from h = folded at ws (joined_of from (at w)) (join_left from.storage (at w).storage h)

pub among_said : (at : ℕ → Specified) (ws : List ℕ) (from : Specified) (k w : ℕ) → slice_get ws k ≡ Some w → Typedefs (at w).storage → Typedefs (fold (λ said part. joined_of said (at part)) from ws).storage
among_said at [] from k w e h = absurd (cc e)
among_said at (x ∷ xs) from zero w e h =
    let same : x ≡ w = cc e in folded at xs (joined_of from (at x)) (join_right from.storage (at x).storage (subst (λ y. Typedefs (at y).storage) (sym same) h))
among_said at (x ∷ xs) from (suc k) w e h = among_said at xs (joined_of from (at x)) k w e h

pub typedef_class : (o : Option Storage) → Typedefs o → class_of o ≡ Some class.Typedef
typedef_class None h = absurd h
typedef_class (Some s) h = ap (λ b. if b then Some class.Typedef else Some s.class) h.0

-- ---- where they may stand

-- no parameter is a typedef
pub parameter_refuses : (o : Option Storage) → Typedefs o → is_some (storage_by place.Parameter false o) ≡ true
parameter_refuses None h = absurd h
parameter_refuses (Some s) h = elim h.1 [
  | inl e ↦ ap (λ c. is_some (if may_stand place.Parameter false c then s.second else Some s.token)) e
  | inr f ↦ by (may_stand place.Parameter false s.class) f
]
  where
    by : (b : Bool) → is_some s.second ≡ true → is_some (if b then s.second else Some s.token) ≡ true
    by true f = f
    by false f = refl

-- a member has no storage class
pub member_refuses : (o : Option Storage) → is_some (storage_by place.Member false o) ≡ false → o ≡ None
member_refuses None e = refl
member_refuses (Some s) e = absurd (false≢true (sym e))

-- brackets without a size stand only in a parameter
pub open_place : (at : Place) → may_be_open at (Some class.Typedef) ≡ true → at ≡ place.Parameter
open_place place.Parameter e = refl
open_place at e = absurd (false≢true e)

-- a typedef has no initialiser (K11)
pub none_initialised : (at : Place) (function : Bool) → may_have_initialiser at (Some class.Typedef) function ≡ false
none_initialised place.Block function = refl
none_initialised place.Clause function = refl
none_initialised at function = refl

-- ---- the words of a declaration

unsaid : NoWord ≡ TypedefWord → ⊥
unsaid e = cc e

extern_apart : ExternWord ≡ TypedefWord → ⊥
extern_apart e = cc e

word_says : (from : Said) (o : Option Kind) → with_word from o ≡ TypedefWord → (from ≡ TypedefWord) ⊎ (o ≡ Some kind.Typedef)
word_says TypedefWord o e = inl refl
word_says NoWord (Some kind.Typedef) e = inr refl
word_says NoWord (Some kind.Extern) e = absurd (extern_apart e)
word_says NoWord o e = inl e
word_says ExternWord (Some kind.Typedef) e = inr refl
word_says ExternWord o e = inl e

abbrev pub SaysTypedef : List Node → List ℕ → Type 0
SaysTypedef nodes ws = (k : ℕ) × ((w : ℕ) × ((slice_get ws k ≡ Some w) × (scripts.kind_at nodes w ≡ Some kind.Typedef)))

words_say : (nodes : List Node) (ws : List ℕ) (from : Said) → fold (λ storage word. with_word storage (scripts.kind_at nodes word)) from ws ≡ TypedefWord → (from ≡ TypedefWord) ⊎ SaysTypedef nodes ws
words_say nodes [] from e = inl e
words_say nodes (w ∷ ws) from e = elim (words_say nodes ws (with_word from (scripts.kind_at nodes w)) e) [
  | inl f ↦ elim (word_says from (scripts.kind_at nodes w) f) [ inl g ↦ inl g | inr g ↦ inr (0, (w, (refl, g))) ]
  | inr f ↦ inr (suc f.0, f.1)
]

-- one of the words of the specifiers is `typedef`
pub says_typedef : (nodes : List Node) (parts : List ℕ) (s : ℕ) → slice_get parts 0 ≡ Some s → storage_of nodes parts ≡ TypedefWord → SaysTypedef nodes (words_of nodes s (scripts.kind_at nodes s))
says_typedef nodes [] s f e = absurd (cc f)
says_typedef nodes (x ∷ xs) s f e =
    let same : x ≡ s = cc f in subst (λ y. SaysTypedef nodes (words_of nodes y (scripts.kind_at nodes y))) same (elim (words_say nodes (words_of nodes x (scripts.kind_at nodes x)) NoWord e) [ inl g ↦ absurd (unsaid g) | inr g ↦ g ])
