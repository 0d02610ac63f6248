-- A type becomes its composite with another one, by sizes that became known (C11 6.2.7p3).
use Rattle.std.proofs.Common.{◌≡◌, ℕ, ◌==◌, ◌&&◌, ◌||◌, Bool, true, false, refl, sym, subst, ap, ◌∙◌, if◌then◌else◌}
use Rattle.std.proofs.lemmas.Bool.{false≢true, and_parts, eqb-true}
use Rattle.cr_syntax.specs.declared.ctype.CType.{CType}
use Rattle.cr_check_types.specs.Types.{Qualified, plain, pointer, array}
use Rattle.cr_check_types.specs.Relations.{same, are_same, sizes_agree, are_compatible, known_size, composite_of}
use Rattle.cr_check_expressions.specs.Ruled.{is_type}
use Rattle.cr_check_signatures.proofs.FunctionsLemmas.Outlines.{compatible_head}
use Rattle.cr_check_linkage.specs.NameTypes.{NameType, of_object, of_function, of_none, joined_type, type_or}
use Rattle.cr_meaning_objects.specs.Composed.Laws.{Becomes}

-- ---- sizes

either_same : (b : Bool) (n : ℕ) → (if b then n else n) ≡ n
either_same true n = refl
either_same false n = refl

size_known : (n m : ℕ) → known_size n (known_size n m) ≡ known_size n m
size_known n m = by (n == 0)
  where
    by : (b : Bool) → (if b then (if b then m else n) else n) ≡ (if b then m else n)
    by true = refl
    by false = refl

size_agreed : (n m : ℕ) → sizes_agree n m ≡ true → known_size m (known_size n m) ≡ known_size n m
size_agreed n m h = by (n == 0) (m == 0) (λ e. eqb-true n m e) h
  where
    by : (b c : Bool) → ((n == m) ≡ true → n ≡ m) → (b || (c || n == m)) ≡ true → (if c then (if b then m else n) else m) ≡ (if b then m else n)
    by true c same h = either_same c m
    by false true same h = refl
    by false false same h = sym (same h)

size_further : (n m k : ℕ) → known_size n m ≡ m → known_size m k ≡ k → known_size n k ≡ k
size_further n m k h g = by (n == 0) refl
  where
    by : (b : Bool) → (n == 0) ≡ b → known_size n k ≡ k
    by true e = ap (λ b. if b then k else n) e
    by false e = ap (λ x. known_size x k) (sym (ap (λ b. if b then m else n) e) ∙ h) ∙ g

-- ---- types

same_bool : (a b : Bool) → same a b ≡ true → b ≡ a
same_bool true true h = refl
same_bool false false h = refl
same_bool true false h = absurd (false≢true h)
same_bool false true h = absurd (false≢true h)

pub becomes_itself : (t : Qualified) → Becomes t t
becomes_itself (plain of c v) = refl
becomes_itself (pointer c v t) = ap (pointer c v) (becomes_itself t)
becomes_itself (array n t) = (λ j. array (either_same (n == 0) n j) (becomes_itself t j))

-- the earlier one of two
pub becomes_later : (t u : Qualified) → Becomes t (composite_of t u)
becomes_later (plain of c v) u = refl
becomes_later (pointer c v t) (plain other d w) = becomes_itself (pointer c v t)
becomes_later (pointer c v t) (pointer d w u) = ap (pointer c v) (becomes_later t u)
becomes_later (pointer c v t) (array m u) = becomes_itself (pointer c v t)
becomes_later (array n t) (plain other d w) = becomes_itself (array n t)
becomes_later (array n t) (pointer d w u) = becomes_itself (array n t)
becomes_later (array n t) (array m u) = (λ j. array (size_known n m j) (becomes_later t u j))

plain_words : (of other : CType) → plain of false false ≡ plain other false false → of ≡ other
plain_words of other e = cc

-- and the later one, where they are compatible
pub becomes_earlier : (t u : Qualified) → are_compatible t u ≡ true → Becomes u (composite_of t u)
becomes_earlier (plain of c v) (plain other d w) h =
    let word : of ≡ other = plain_words of other (compatible_head (plain of c v) (plain other d w) h) in
    let back = sym word in
    let qualifiers = and_parts (same c d) (same v w) (and_parts (are_same of other) (same c d && same v w) h).1 in
    (λ j. plain (back j) (same_bool c d qualifiers.0 j) (same_bool v w qualifiers.1 j))
becomes_earlier (pointer c v t) (pointer d w u) h =
    let both = and_parts (same c d && same v w) (are_compatible t u) h in
    let qualifiers = and_parts (same c d) (same v w) both.0 in
    (λ j. pointer (same_bool c d qualifiers.0 j) (same_bool v w qualifiers.1 j) (becomes_earlier t u both.1 j))
becomes_earlier (array n t) (array m u) h =
    let both = and_parts (sizes_agree n m) (are_compatible t u) h in
    (λ j. array (size_agreed n m both.0 j) (becomes_earlier t u both.1 j))
becomes_earlier (plain of c v) (pointer d w u) h = absurd (false≢true h)
becomes_earlier (plain of c v) (array m u) h = absurd (false≢true h)
becomes_earlier (pointer c v t) (plain other d w) h = absurd (false≢true h)
becomes_earlier (pointer c v t) (array m u) h = absurd (false≢true h)
becomes_earlier (array n t) (plain other d w) h = absurd (false≢true h)
becomes_earlier (array n t) (pointer d w u) h = absurd (false≢true h)

pub becomes_further : (a b c : Qualified) → Becomes a b → Becomes b c → Becomes a c
becomes_further (plain of x y) (plain other d w) c h g = h ∙ g
becomes_further (plain of x y) (pointer d w u) c h g = absurd cc
becomes_further (plain of x y) (array m u) c h g = absurd cc
becomes_further (pointer x y t) (plain other d w) c h g = absurd cc
becomes_further (pointer x y t) (array m u) c h g = absurd cc
becomes_further (pointer x y t) (pointer d w u) (plain other e z) h g = absurd cc
becomes_further (pointer x y t) (pointer d w u) (array k s) h g = absurd cc
becomes_further (pointer x y t) (pointer d w u) (pointer e z s) h g =
    let one : x ≡ e = constant x d (composite_of t u) u h ∙ constant d e (composite_of u s) s g in
    let two : y ≡ z = volatile y w (composite_of t u) u h ∙ volatile w z (composite_of u s) s g in
    let rest = becomes_further t u s (below x d (composite_of t u) u h) (below d e (composite_of u s) s g) in
    (λ j. pointer (one j) (two j) (rest j))
  where
    constant : (p q : Bool) (a b : Qualified) → {r o : Bool} → pointer p r a ≡ pointer q o b → p ≡ q
    constant p q a b e = cc

    volatile : (p q : Bool) (a b : Qualified) → {r o : Bool} → pointer r p a ≡ pointer o q b → p ≡ q
    volatile p q a b e = cc

    below : (p q : Bool) (a b : Qualified) → {r o : Bool} → pointer p r a ≡ pointer q o b → a ≡ b
    below p q a b e = cc
becomes_further (array n t) (plain other d w) c h g = absurd cc
becomes_further (array n t) (pointer d w u) c h g = absurd cc
becomes_further (array n t) (array m u) (plain other e z) h g = absurd cc
becomes_further (array n t) (array m u) (pointer e z s) h g = absurd cc
becomes_further (array n t) (array m u) (array k s) h g =
    let size = size_further n m k (count (known_size n m) m (composite_of t u) u h) (count (known_size m k) k (composite_of u s) s g) in
    let rest = becomes_further t u s (element (known_size n m) m (composite_of t u) u h) (element (known_size m k) k (composite_of u s) s g) in
    (λ j. array (size j) (rest j))
  where
    count : (p q : ℕ) (a b : Qualified) → array p a ≡ array q b → p ≡ q
    count p q a b e = cc

    element : (p q : ℕ) (a b : Qualified) → array p a ≡ array q b → a ≡ b
    element p q a b e = cc

-- ---- known types

composite_typed : (t u : Qualified) → is_type (composite_of t u) ≡ is_type t
composite_typed (plain of c v) u = refl
composite_typed (pointer c v t) (plain other d w) = refl
composite_typed (pointer c v t) (pointer d w u) = refl
composite_typed (pointer c v t) (array m u) = refl
composite_typed (array n t) (plain other d w) = refl
composite_typed (array n t) (pointer d w u) = refl
composite_typed (array n t) (array m u) = refl

pub becomes_typed : (t u : Qualified) → Becomes t u → is_type u ≡ is_type t
becomes_typed t u h = ap is_type (sym h) ∙ composite_typed t u

-- ---- what the earlier declarations tell

-- a declaration of an object with what the earlier ones tell of it
pub joined_own : (earlier : NameType) (own : Qualified) → Becomes own (type_or own (joined_type earlier (of_object own)))
joined_own (of_object t) own = by (are_compatible t own) refl
  where
    by : (b : Bool) → are_compatible t own ≡ b → Becomes own (type_or own (if b then of_object (composite_of t own) else of_object own))
    by true e = becomes_earlier t own e
    by false e = becomes_itself own
joined_own (of_function f) own = becomes_itself own
joined_own of_none own = becomes_itself own

pub joined_earlier : (t own : Qualified) → are_compatible t own ≡ true → Becomes t (type_or own (joined_type (of_object t) (of_object own)))
joined_earlier t own h =
    subst (Becomes t) (sym (ap (λ b. type_or own (if b then of_object (composite_of t own) else of_object own)) h)) (becomes_later t own)
