-- Of the declarations of a name in one scope the latest decides, and it bears on no other name.
use Rattle.std.proofs.Common.{◌≡◌, ◌≢◌, refl, sym, ◌∙◌, ℕ, Bool, true, false, List, [], ◌∷◌, Some}
use Rattle.std.specs.Str.{bytes_eq}
use Rattle.std.proofs.lemmas.Slice.Eq.{bytes_eq-Decides}
use Rattle.cr_syntax.specs.declared.scopes.TypeName.{TypeName}
use Rattle.cr_syntax.specs.Scopes.{Scopes, said_of, is_type, put, enter}

alike : (s : List ℕ) → bytes_eq s s ≡ true
alike s = (bytes_eq-Decides s s).1 refl

differ : (s t : List ℕ) → s ≢ t → bytes_eq s t ≡ false
differ s t n = by (bytes_eq s t) refl
  where
    by : (b : Bool) → bytes_eq s t ≡ b → b ≡ false
    by true q = absurd (n ((bytes_eq-Decides s t).0 q))
    by false q = refl

said_latest : (n : TypeName) (ns : List TypeName) → said_of (put n ns) n.name ≡ Some n.is_type
said_latest n [] = rw (alike n.name) refl
said_latest n (m ∷ ms) = by (bytes_eq n.name m.name) refl (said_latest n ms)
  where
    by : (b : Bool) → bytes_eq n.name m.name ≡ b → said_of (put n ms) n.name ≡ Some n.is_type → said_of (put n (m ∷ ms)) n.name ≡ Some n.is_type
    by true q h = rw (q, alike n.name) refl
    by false q h = rw (q, q) h

said_others : (n : TypeName) (ns : List TypeName) (s : List ℕ) → s ≢ n.name → said_of (put n ns) s ≡ said_of ns s
said_others n [] s d = rw (differ s n.name d) refl
said_others n (m ∷ ms) s d = by (bytes_eq n.name m.name) refl (said_others n ms s d)
  where
    by : (b : Bool) → bytes_eq n.name m.name ≡ b → said_of (put n ms) s ≡ said_of ms s → said_of (put n (m ∷ ms)) s ≡ said_of (m ∷ ms) s
    by true q h = rw (q, differ s n.name d, differ s m.name (λ e. d (e ∙ sym ((bytes_eq-Decides n.name m.name).0 q)))) refl
    by false q h = rw (q, h) refl

pub latest : (n : TypeName) (c : Scopes) → is_type (enter n c) n.name ≡ n.is_type
latest n [] = rw (is_type, said_of, alike n.name) refl
latest n (names ∷ outer) = rw (is_type, said_latest n names) refl

pub others : (n : TypeName) (c : Scopes) (s : List ℕ) → s ≢ n.name → is_type (enter n c) s ≡ is_type c s
others n [] s d = rw (is_type, said_of, differ s n.name d) refl
others n (names ∷ outer) s d = rw (is_type, said_others n names s d) refl
