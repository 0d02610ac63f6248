-- Taking apart the tests of reading, and what its small functions say of a row.
use Rattle.std.proofs.Common.{◌≡◌, ℕ, Bool, true, false, List, Option, None, Some, refl, sym, ap}
use Rattle.std.specs.Prelude.{if◌then◌else◌}
pub use Rattle.std.proofs.lemmas.Bool.{and_parts as both, not-true as not_true}
use denote.Enum.Bare.{same_true}
use Rattle.cr_syntax.specs.contracts.word.Word as word_type
use Rattle.cr_syntax.specs.declared.word.Word.{Word}
use Rattle.cr_syntax.specs.Words.{Lexeme, word_at}
use Rattle.cr_syntax.specs.Trees.{Trees, none, node, ◌&◌}
use Rattle.cr_syntax.specs.Reads.{is_word, same_word, is_none, alone, is_last, next_of}
use Rattle.cr_syntax.specs.Spells.{Is}

pub if_some : {A : Type 0} {e : A} (b : Bool) (o : Option A) → (if b then o else None) ≡ Some e → (b ≡ true) × (o ≡ Some e)
if_some true o q = (refl, q)
if_some false o q = cc

pub some_one : {A : Type 0} {c e : A} → Some c ≡ Some e → c ≡ e
some_one q = cc

pub some_of : {A B : Type 0} {r : B} (o : Option A) (f : A → Option B) → elim o as (λ _. Option B) [ None ↦ None | Some x ↦ f x ] ≡ Some r → (x : A) × (o ≡ Some x) × (f x ≡ Some r)
some_of None f q = cc
some_of (Some x) f q = (x, refl, q)

pub is_of : (ts : List Lexeme) (i : ℕ) (w : Word) → is_word ts i w ≡ true → Is ts i w
is_of ts i w = at (word_at ts i)
  where
    at : (o : Option Word) → elim o as (λ _. Bool) [ None ↦ false | Some v ↦ same_word v w ] ≡ true → o ≡ Some w
    at None q = cc
    at (Some v) q = ap Some (same_true word_type.the_type tt v w q)

pub none_of : (t : Trees) → is_none t ≡ true → none ≡ t
none_of none q = refl
none_of (node k i j a n) q = cc

pub rejoined : (t : Trees) → alone t & next_of t ≡ t
rejoined none = refl
rejoined (node k i j a n) = refl

pub last_of : (t : Trees) → is_last t ≡ true → none ≡ next_of t
last_of none q = refl
last_of (node k i j a none) q = refl
last_of (node k i j a (node k' i' j' a' n')) q = cc

-- a row that is a last tree is that tree alone
pub last_alone : (t : Trees) → is_last t ≡ true → alone t ≡ t
last_alone none q = refl
last_alone (node k i j a none) q = refl
last_alone (node k i j a (node k' i' j' a' n')) q = cc

-- by the test of a choice
pub choose : {A : Type 0} {G : Type 0} {e : A} (b : Bool) (x y : Option A) → (b ≡ true → x ≡ Some e → G) → (b ≡ false → y ≡ Some e → G) → (if b then x else y) ≡ Some e → G
choose true x y f g q = f refl q
choose false x y f g q = g refl q

pub alone_of : (t : Trees) → next_of t ≡ none → alone t ≡ t
alone_of none q = refl
alone_of (node k i j a n) q = ap (λ x. node k i j a x) (sym q)
