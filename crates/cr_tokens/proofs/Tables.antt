-- What holds of each entry of a table holds of what stands in it.
use Rattle.std.proofs.Common.{◌≡◌, List, [], ◌∷◌, ℕ, Bool, true, false, nat_eq, sym, refl}
use Rattle.std.specs.Prelude.{◌&&◌, ◌||◌, ◌==◌}
use Rattle.std.proofs.lemmas.Bool.{eqb-true}
use Rattle.std.specs.List.{list_all}
use Rattle.std.specs.Cmp.Lexicographic.{pointwise, same_text}
use Rattle.cr_tokens.specs.Bytes.{is_among, is_byte_of}

and-first : (a b : Bool) → (a && b) ≡ true → a ≡ true
and-first true b h = refl
and-first false b h = h

and-second : (a b : Bool) → (a && b) ≡ true → b ≡ true
and-second true b h = h
and-second false b h = cc

entry : (p : List ℕ → Bool) (t s : List ℕ) (ts : List (List ℕ)) (b : Bool) → b ≡ pointwise nat_eq t s →
    (b || is_among ts s) ≡ true → (is_among ts s ≡ true → p s ≡ true) → p t ≡ true → p s ≡ true
entry p t s ts true e h rest here = let same : t ≡ s = same_text t s e in rw same at here
entry p t s ts false e h rest here = rest h

pub is_among-all : (p : List ℕ → Bool) (table : List (List ℕ)) (s : List ℕ) → is_among table s ≡ true →
    list_all p table ≡ true → p s ≡ true
is_among-all p [] s h a = cc
is_among-all p (t ∷ ts) s h a =
    entry p t s ts (pointwise nat_eq t s) refl h (λ r. is_among-all p ts s r (and-second (p t) (list_all p ts) a))
    (and-first (p t) (list_all p ts) a)

byte : (p : ℕ → Bool) (c b : ℕ) (cs : List ℕ) (e : Bool) → e ≡ (c == b) →
    (e || is_byte_of cs b) ≡ true → (is_byte_of cs b ≡ true → p b ≡ true) → p c ≡ true → p b ≡ true
byte p c b cs true e h rest here = let same : c ≡ b = eqb-true c b (sym e) in rw same at here
byte p c b cs false e h rest here = rest h

pub is_byte_of-all : (p : ℕ → Bool) (bytes : List ℕ) (b : ℕ) → is_byte_of bytes b ≡ true →
    list_all p bytes ≡ true → p b ≡ true
is_byte_of-all p [] b h a = cc
is_byte_of-all p (c ∷ cs) b h a =
    byte p c b cs (c == b) refl h (λ r. is_byte_of-all p cs b r (and-second (p c) (list_all p cs) a))
    (and-first (p c) (list_all p cs) a)
