-- A map from spellings to their first tokens.
use Rattle.std.proofs.Common.{◌≡◌, ◌≢◌, ℕ, suc, ◌+◌, ◌<◌, ◌==◌, ◌&&◌, Bool, true, false, List, [], ◌∷◌, ◌++◌, Option, None, Some, length, replicate, slice_index, slice_index_or, slice_set, nat_lt, if◌then◌else◌, refl, sym, ap, subst, ◌∙◌, inl, inr, arith, length-append}
use Rattle.std.specs.Str.{bytes_eq}
use Rattle.std.specs.declared.vec.Vec.{Vec}
use Rattle.std.proofs.lemmas.Slice.Eq.{bytes_eq-Decides}
use Rattle.std.proofs.lemmas.Bool.{true≢false, cases_lt, eqb-true, eqb-false, cond-true, cond-false, lt-ltb, le-ltb}
use Rattle.std.proofs.lemmas.List.{get_or_past, get_or-set_same, get_or-set_other, get_or-replicate, length-replicate}
use Rattle.std.proofs.Math.ListN.{get_or-append}
use Rattle.std.proofs.Math.Seq.{get_or-append_seam}
use Rattle.indexmap.specs.IndexMap.{insert_entry}
use Rattle.cr_tokens.specs.declared.token.Token.{Token}
use Rattle.cr_scopes.specs.Looking.{or_else, or_given}
use Rattle.cr_scopes.specs.Spelled.{spelling_of, first_spelled, name_of, known_as, said_in}
use Rattle.cr_scopes.specs.declared.spelled.Known.{Known}
use Rattle.cr_scopes.specs.States.{name_in}

or_none : (o : Option ℕ) → o ≡ or_else o None
or_none None = refl
or_none (Some x) = refl

put_same : (a b : Bool) (v w : ℕ) (rest : Option ℕ) → a ≡ b → (if b then Some v else rest) ≡ (if a then Some v else (if b then Some w else rest))
put_same true true v w rest e = refl
put_same false false v w rest e = refl
put_same true false v w rest e = absurd (true≢false e)
put_same false true v w rest e = absurd (true≢false (sym e))

put_other : (a b : Bool) (v w : ℕ) (rest : Option ℕ) → (a ≡ true → b ≡ true → ⊥)
    → (if b then Some w else (if a then Some v else rest)) ≡ (if a then Some v else (if b then Some w else rest))
put_other true true v w rest n = absurd (n refl refl)
put_other true false v w rest n = refl
put_other false true v w rest n = refl
put_other false false v w rest n = refl

apart : (s k e : List ℕ) → bytes_eq k e ≡ false → bytes_eq s k ≡ true → bytes_eq s e ≡ true → ⊥
apart s k e n p q = true≢false (sym ((bytes_eq-Decides k e).1 (sym ((bytes_eq-Decides s k).0 p) ∙ (bytes_eq-Decides s e).0 q)) ∙ n)

module _ {A : Type 0} where
  at_entry : (e : Vec ℕ A × ℕ) (es : List (Vec ℕ A × ℕ)) (k : Vec ℕ A) (v : ℕ) (s : List ℕ) (same : Bool) → bytes_eq k.items e.0.items ≡ same
      → known_as (insert_entry (λ k n. bytes_eq k.items n.items) es k v) s ≡ (if bytes_eq s k.items then Some v else known_as es s)
      → known_as (insert_entry (λ k n. bytes_eq k.items n.items) (e ∷ es) k v) s ≡ (if bytes_eq s k.items then Some v else known_as (e ∷ es) s)
  at_entry e es k v s true q h =
      rw q (put_same (bytes_eq s k.items) (bytes_eq s e.0.items) v e.1 (known_as es s) (ap (bytes_eq s) ((bytes_eq-Decides k.items e.0.items).0 q)))
  at_entry e es k v s false q h =
      rw (q, h) (put_other (bytes_eq s k.items) (bytes_eq s e.0.items) v e.1 (known_as es s) (apart s k.items e.0.items q))

  put_is : (es : List (Vec ℕ A × ℕ)) (k : Vec ℕ A) (v : ℕ) (s : List ℕ)
      → known_as (insert_entry (λ k n. bytes_eq k.items n.items) es k v) s ≡ (if bytes_eq s k.items then Some v else known_as es s)
  put_is [] k v s = refl
  put_is (e ∷ es) k v s = at_entry e es k v s (bytes_eq k.items e.0.items) refl (put_is es k v s)

  more_by : (es : List (Vec ℕ A × ℕ)) (sp s : List ℕ) (v : ℕ) (b : Bool) → bytes_eq s sp ≡ b → known_as es sp ≡ None
      → (if b then Some v else known_as es s) ≡ or_else (known_as es s) (if b then Some v else None)
  more_by es sp s v true e n = sym (ap (λ o. or_else o (Some v)) (ap (known_as es) ((bytes_eq-Decides s sp).0 e) ∙ n))
  more_by es sp s v false e n = or_none (known_as es s)

  -- a spelling that wasn't known
  pub more_is : (es new : List (Vec ℕ A × ℕ)) (k : Vec ℕ A) (v : ℕ) (sp : List ℕ)
      → new ≡ insert_entry (λ k n. bytes_eq k.items n.items) es k v → k.items ≡ sp → known_as es sp ≡ None
      → (s : List ℕ) → known_as new s ≡ or_else (known_as es s) (if bytes_eq s sp then Some v else None)
  more_is es new k v sp is key none s =
      ap (λ x. known_as x s) is ∙ put_is es k v s
      ∙ ap (λ x. if bytes_eq s x then Some v else known_as es s) key
      ∙ more_by es sp s v (bytes_eq s sp) refl none

  kept_by : (es : List (Vec ℕ A × ℕ)) (sp s : List ℕ) (v x : ℕ) (b : Bool) → bytes_eq s sp ≡ b → known_as es sp ≡ Some x
      → known_as es s ≡ or_else (known_as es s) (if b then Some v else None)
  kept_by es sp s v x true e h =
      let is : known_as es s ≡ Some x = ap (known_as es) ((bytes_eq-Decides s sp).0 e) ∙ h in is ∙ sym (ap (λ o. or_else o (Some v)) is)
  kept_by es sp s v x false e h = or_none (known_as es s)

  -- one that was
  pub kept_is : (es : List (Vec ℕ A × ℕ)) (sp : List ℕ) (v x : ℕ) → known_as es sp ≡ Some x
      → (s : List ℕ) → known_as es s ≡ or_else (known_as es s) (if bytes_eq s sp then Some v else None)
  kept_is es sp v x h s = kept_by es sp s v x (bytes_eq s sp) refl h

-- the names of the first tokens
pub record AreNamed (file : List ℕ) (tokens : List Token) (names : List ℕ) (k : ℕ) : Type 0 where
  pub count : length names ≡ k
  pub each : (t : ℕ) → t < k → slice_index_or names t t ≡ or_given (first_spelled file tokens (spelling_of file tokens t) t) t

pub one_named : (file : List ℕ) (tokens : List Token) (names : List ℕ) (k first : ℕ) → AreNamed file tokens names k
    → first ≡ or_given (first_spelled file tokens (spelling_of file tokens k) k) k → AreNamed file tokens (names ++ first ∷ []) (k + 1)
one_named file tokens names k first h is = record {
  count = let e = h.count in omega (arith, length-append names (first ∷ []));
  each = λ t low. elim (cases_lt t k) [
    | inl older ↦ get_or-append names (first ∷ []) t t (let e = h.count in omega (arith, older)) ∙ h.each t older
    | inr newest ↦
        let same : t ≡ k = omega arith in
        let e : length names ≡ k = h.count in
        rw same (subst (λ n. slice_index_or (names ++ first ∷ []) n n ≡ first) e (get_or-append_seam names first [] (length names)) ∙ is)
  ];
}

pub all_named : (file : List ℕ) (tokens : List Token) (names : List ℕ) (k : ℕ) → AreNamed file tokens names k → k ≡ length tokens
    → (t : ℕ) → name_in names t ≡ name_of file tokens t
all_named file tokens names k h all t = elim (cases_lt t (length tokens)) [
  | inl low ↦
      h.each t (omega (arith, low, all))
      ∙ sym (cond-true (nat_lt t (length tokens)) (or_given (first_spelled file tokens (spelling_of file tokens t) t) t) t (lt-ltb t (length tokens) low))
  | inr high ↦
      get_or_past names t t (let e = h.count in omega (arith, high, all, e))
      ∙ sym (cond-false (nat_lt t (length tokens)) (or_given (first_spelled file tokens (spelling_of file tokens t) t) t) t (le-ltb t (length tokens) high))
]

-- one token more is known
pub known_step : (file : List ℕ) (tokens : List Token) (old new : List ℕ → Option ℕ) (k number : ℕ) (sp : List ℕ)
    → ((s : List ℕ) → old s ≡ first_spelled file tokens s k)
    → ((s : List ℕ) → new s ≡ or_else (old s) (if bytes_eq s sp then Some number else None))
    → number ≡ k → sp ≡ spelling_of file tokens k → (s : List ℕ) → new s ≡ first_spelled file tokens s (k + 1)
known_step file tokens old new k number sp o n is at s =
    n s
    ∙ ap (λ x. or_else x (if bytes_eq s sp then Some number else None)) (o s)
    ∙ ap (λ x. or_else (first_spelled file tokens s k) (if bytes_eq s sp then Some x else None)) is
    ∙ ap (λ x. or_else (first_spelled file tokens s k) (if bytes_eq s x then Some k else None)) at
    ∙ ap (first_spelled file tokens s) (let e : suc k ≡ k + 1 = omega arith in e)

pub named_step : (file : List ℕ) (tokens : List Token) (old : List ℕ → Option ℕ) (names : List ℕ) (k number first : ℕ) (sp : List ℕ)
    → ((s : List ℕ) → old s ≡ first_spelled file tokens s k) → AreNamed file tokens names k
    → first ≡ or_given (old sp) number → number ≡ k → sp ≡ spelling_of file tokens k
    → AreNamed file tokens (names ++ first ∷ []) (k + 1)
named_step file tokens old names k number first sp o h f is at =
    one_named file tokens names k first h
    (f ∙ ap (λ x. or_given x number) (o sp) ∙ ap (or_given (first_spelled file tokens sp k)) is
    ∙ ap (λ x. or_given (first_spelled file tokens x k) k) at)

-- ---- spellings of one byte, by their bytes

and_false : (b : Bool) → (b && false) ≡ false
and_false true = refl
and_false false = refl

and_true : (b : Bool) → (b && true) ≡ b
and_true true = refl
and_true false = refl

-- a column without entries
none_in : (n b : ℕ) → slice_index_or {A = Option ℕ} (replicate {A = Option ℕ} n None) b None ≡ None
none_in n b = elim (cases_lt b n) [
  | inl low ↦ get_or-replicate {A = Option ℕ} n b None None low
  | inr high ↦ get_or_past {X = Option ℕ} (replicate {A = Option ℕ} n None) b None (omega (arith, high, length-replicate {A = Option ℕ} n None))
]

pub nothing_said : (known : Known) (n : ℕ) → known.bytes ≡ replicate {A = Option ℕ} n None → known.words.entries ≡ [] → (s : List ℕ) → said_in known s ≡ None
nothing_said known n bytes words [] = ap (λ es. known_as es []) words
nothing_said known n bytes words (b ∷ []) = ap (λ column. slice_index_or column b None) bytes ∙ none_in n b
nothing_said known n bytes words (b ∷ next ∷ rest) = ap (λ es. known_as es (b ∷ next ∷ rest)) words

-- a byte that wasn't known
pub byte_put : (old new : List (Option ℕ)) (byte number : ℕ) → new ≡ slice_set old byte (Some number) → byte < length old → slice_index_or old byte None ≡ None
    → (b : ℕ) → slice_index_or new b None ≡ or_else (slice_index_or old b None) (if b == byte then Some number else None)
byte_put old new byte number is low none b = ap (λ column. slice_index_or column b None) is ∙ by (b == byte) refl
  where
    by : (same : Bool) → (b == byte) ≡ same
        → slice_index_or (slice_set old byte (Some number)) b None ≡ or_else (slice_index_or old b None) (if b == byte then Some number else None)
    by true e =
        let at : b ≡ byte = eqb-true b byte e in
        rw (e, at) (get_or-set_same old byte (Some number) None low ∙ sym (ap (λ o. or_else o (Some number)) none))
    by false e =
        rw e (get_or-set_other old byte b (Some number) None (eqb-false b byte e) ∙ or_none (slice_index_or old b None))

-- one that was
pub byte_kept : (old : List (Option ℕ)) (byte number first : ℕ) → slice_index_or old byte None ≡ Some first
    → (b : ℕ) → slice_index_or old b None ≡ or_else (slice_index_or old b None) (if b == byte then Some number else None)
byte_kept old byte number first is b = by (b == byte) refl
  where
    by : (same : Bool) → (b == byte) ≡ same
        → slice_index_or old b None ≡ or_else (slice_index_or old b None) (if b == byte then Some number else None)
    by true e =
        let at : slice_index_or old b None ≡ Some first = ap (λ x. slice_index_or old x None) (eqb-true b byte e) ∙ is in
        rw e (at ∙ sym (ap (λ o. or_else o (Some number)) at))
    by false e = rw e (or_none (slice_index_or old b None))

-- what is known of a spelling of one byte, and of another
pub byte_said : (known : Known) (sp : List ℕ) → length sp ≡ 1 → said_in known sp ≡ slice_index_or known.bytes (slice_index sp 0) None
byte_said known [] one = absurd (omega (arith, one))
byte_said known (b ∷ []) one = refl
byte_said known (b ∷ next ∷ rest) one = absurd (omega (arith, one))

pub word_said : (known : Known) (sp : List ℕ) → length sp ≢ 1 → said_in known sp ≡ known_as known.words.entries sp
word_said known [] other = refl
word_said known (b ∷ []) other = absurd (other refl)
word_said known (b ∷ next ∷ rest) other = refl

byte_by : (old new : Known) (byte number : ℕ) → new.words.entries ≡ old.words.entries
    → ((b : ℕ) → slice_index_or new.bytes b None ≡ or_else (slice_index_or old.bytes b None) (if b == byte then Some number else None))
    → (s : List ℕ) → said_in new s ≡ or_else (said_in old s) (if bytes_eq s (byte ∷ []) then Some number else None)
byte_by old new byte number words h [] = ap (λ es. known_as es []) words ∙ or_none (known_as old.words.entries [])
byte_by old new byte number words h (b ∷ []) =
    h b ∙ ap (λ same. or_else (slice_index_or old.bytes b None) (if same then Some number else None)) (sym (and_true (b == byte)))
byte_by old new byte number words h (b ∷ next ∷ rest) =
    let was = known_as old.words.entries (b ∷ next ∷ rest) in
    ap (λ es. known_as es (b ∷ next ∷ rest)) words ∙ or_none was
    ∙ ap (λ same. or_else was (if same then Some number else None)) (sym (and_false (b == byte)))

-- a spelling of one byte more
pub byte_more : (old new : Known) (sp : List ℕ) (number : ℕ) → length sp ≡ 1 → new.words.entries ≡ old.words.entries
    → ((b : ℕ) → slice_index_or new.bytes b None ≡ or_else (slice_index_or old.bytes b None) (if b == slice_index sp 0 then Some number else None))
    → (s : List ℕ) → said_in new s ≡ or_else (said_in old s) (if bytes_eq s sp then Some number else None)
byte_more old new [] number one words h s = absurd (omega (arith, one))
byte_more old new (b ∷ []) number one words h s = byte_by old new b number words h s
byte_more old new (b ∷ next ∷ rest) number one words h s = absurd (omega (arith, one))

no_byte : (b : ℕ) (sp : List ℕ) → length sp ≢ 1 → bytes_eq (b ∷ []) sp ≡ false
no_byte b [] other = refl
no_byte b (x ∷ []) other = absurd (other refl)
no_byte b (x ∷ next ∷ rest) other = and_false (b == x)

-- another spelling more
pub word_more : (old new : Known) (sp : List ℕ) (number : ℕ) → length sp ≢ 1 → new.bytes ≡ old.bytes
    → ((s : List ℕ) → known_as new.words.entries s ≡ or_else (known_as old.words.entries s) (if bytes_eq s sp then Some number else None))
    → (s : List ℕ) → said_in new s ≡ or_else (said_in old s) (if bytes_eq s sp then Some number else None)
word_more old new sp number other bytes h [] = h []
word_more old new sp number other bytes h (b ∷ []) =
    let was = slice_index_or old.bytes b None in
    ap (λ column. slice_index_or column b None) bytes ∙ or_none was
    ∙ ap (λ same. or_else was (if same then Some number else None)) (sym (no_byte b sp other))
word_more old new sp number other bytes h (b ∷ next ∷ rest) = h (b ∷ next ∷ rest)
