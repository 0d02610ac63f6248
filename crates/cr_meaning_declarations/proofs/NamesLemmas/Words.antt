-- What the specifiers of a declaration say of its names' storage, as names are resolved and as constraints are judged (C11 6.7.1).
use Rattle.std.proofs.Common.{◌≡◌, ℕ, suc, Bool, List, [], ◌∷◌, Option, None, Some, slice_get, refl, sym, ap, subst, ◌∙◌}
use Rattle.std.specs.Prelude.{fold}
use Rattle.cr_syntax.specs.declared.node.Kind.{Kind}
use Rattle.cr_syntax.specs.declared.node.Kind.TheVariants as kind
use Rattle.cr_scopes_events.specs.declared.naming.Storage.{Storage as Word}
use Rattle.cr_scopes_events.specs.declared.naming.Storage.TheVariants.{TypedefWord, ExternWord, NoWord}
use Rattle.cr_scopes_events.specs.Scripts.{with_word}
use Rattle.cr_check_declarators.specs.declared.words.Class.{Class}
use Rattle.cr_check_declarators.specs.declared.words.Class.TheVariants as class
use Rattle.cr_check_declarators.specs.declared.words.Storage.{Storage}
use Rattle.cr_check_declarators.specs.declared.words.Specified.{Specified}
use Rattle.cr_check_declarators.specs.Specifiers.{is_typedef_word, specified_by, first_of, both_storages, joined_of}

-- the word that a class is
abbrev pub word_of : Class → Word
word_of class.Typedef = TypedefWord
word_of class.Extern = ExternWord
word_of other = NoWord

-- a storage class that stands alone says its word
pub record IsSaid (word : Word) (one : Storage) : Type 0 where
  pub is : word ≡ word_of one.class
  pub typedefs : one.typedefs ≡ is_typedef_word one.class

abbrev pub Agrees : Word → Option Storage → Type 0
Agrees word None = word ≡ NoWord
Agrees word (Some one) = one.second ≡ None → IsSaid word one

with_other : (word : Word) (k : Kind) → (k ≡ kind.Typedef → ⊥) → (k ≡ kind.Extern → ⊥) → with_word word (Some k) ≡ word
with_other TypedefWord k f g = refl
with_other ExternWord kind.Typedef f g = absurd (f refl)
with_other ExternWord kind.Extern f g = absurd (g refl)
with_other ExternWord k f g = refl
with_other NoWord kind.Typedef f g = absurd (f refl)
with_other NoWord kind.Extern f g = absurd (g refl)
with_other NoWord k f g = refl

-- a word that is no storage class
silent : (word : Word) (st : Option Storage) (k : Kind) → (k ≡ kind.Typedef → ⊥) → (k ≡ kind.Extern → ⊥) → Agrees word st → Agrees (with_word word (Some k)) (both_storages st None)
silent word None k f g h = with_other word k f g ∙ h
silent word (Some one) k f g h = subst (λ w. Agrees w (Some one)) (sym (with_other word k f g)) h

-- and one that is
spoken : (word : Word) (st : Option Storage) (k : Kind) (c : Class) (token : ℕ) → with_word NoWord (Some k) ≡ word_of c → Agrees word st
    → Agrees (with_word word (Some k)) (both_storages st (Some (record { class = c; token = token; second = None; typedefs = is_typedef_word c })))
spoken word None k c token e h = λ alone. record { is = ap (λ w. with_word w (Some k)) h ∙ e; typedefs = refl }
spoken word (Some one) k c token e h = λ alone. absurd (never one.second alone)
  where
    never : (o : Option ℕ) → first_of o (Some token) ≡ None → ⊥
    never None e = cc
    never (Some x) e = cc

pub word_agrees : (word : Word) (st : Option Storage) (k : Kind) (token : ℕ) (declares : Bool) → Agrees word st → Agrees (with_word word (Some k)) (both_storages st (specified_by k token declares).storage)
word_agrees word st kind.Typedef token declares h = spoken word st kind.Typedef class.Typedef token refl h
word_agrees word st kind.Extern token declares h = spoken word st kind.Extern class.Extern token refl h
word_agrees word st kind.Static token declares h = spoken word st kind.Static class.Static token refl h
word_agrees word st kind.Auto token declares h = spoken word st kind.Auto class.Auto token refl h
word_agrees word st kind.Register token declares h = spoken word st kind.Register class.Register token refl h
word_agrees word st k token declares h = silent word st k (λ e. cc) (λ e. cc) h

-- several words in turn
pub words_agree : (kind_at : ℕ → Option Kind) (at : ℕ → Specified) (ps : List ℕ) (word : Word) (said : Specified)
    → ((k p : ℕ) → slice_get ps k ≡ Some p → (w : Word) (st : Option Storage) → Agrees w st → Agrees (with_word w (kind_at p)) (both_storages st (at p).storage))
    → Agrees word said.storage → Agrees (fold (λ storage p. with_word storage (kind_at p)) word ps) (fold (λ said part. joined_of said (at part)) said ps).storage
words_agree kind_at at [] word said f h = h
words_agree kind_at at (p ∷ ps) word said f h =
    words_agree kind_at at ps (with_word word (kind_at p)) (joined_of said (at p)) (λ k q e w st g. f (suc k) q e w st g) (f 0 p refl word said.storage h)
