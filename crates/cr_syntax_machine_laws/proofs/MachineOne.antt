-- A start has one reading.
use Rattle.std.proofs.Common.{◌≡◌, ℕ, false, ◌+◌, ◌<◌, ◌≤◌, List, length, Option, Some, refl, sym, ap, subst, ◌∙◌, arith, inl, inr}
use Rattle.std.proofs.lemmas.Bool.{cases_lt}
use Rattle.cr_syntax.specs.declared.word.Word.{Word}
use Rattle.cr_syntax.specs.Words.{Lexeme}
use Rattle.cr_syntax.specs.Trees.{Trees}
use Rattle.cr_syntax.specs.Context.{fresh}
use Rattle.cr_syntax.specs.Spells.{Limit, Free, AtMost, Upto, Spells, a}
use Rattle.cr_syntax.specs.Units.{most_levels, Refusal, Unexpected, Ended, TooDeep, OutsideSubset}
use Rattle.cr_syntax_machine_laws.specs.MachineLaws.{IsStart}
use Rattle.cr_syntax.specs.Expressions.{Start, Spelled, BeginsFrom, OutsideFrom, unused_keyword, compound_literal, called_expression, bit_field, IsTooDeepFrom, IsFineFrom, RunEnds, Outcome, Read, Refused, IsReading}
use Rattle.cr_syntax.specs.Expressions as expressions
use Rattle.cr_syntax.proofs.Tests.{some_one}
use Rattle.cr_syntax_machine_laws.proofs.MachineComplete as complete
use Rattle.cr_syntax_machine_laws.proofs.MachineReading.{not_both}
use Rattle.cr_syntax_machine_laws.proofs.MachineViable.{prefix, prefix_length, prefix_get}
use Rattle.cr_syntax_machine_laws.proofs.MachineOwn.{Lets, lets_itself, lets_all, lets_fewer, lets_upto, lets_leaving, same_tokens, carried, within_other, later}

-- a token is one word
pub one_word : {o : Option Word} {v w : Word} → o ≡ Some v → o ≡ Some w → v ≡ w
one_word q q' = some_one (sym q ∙ q')

-- At one token one row of an expression's refused forms.
one_row : {ts : List Lexeme} {s : Start} {k n n' : ℕ} → OutsideFrom ts s k n → OutsideFrom ts s k n' → n ≡ n'
one_row (unused_keyword q u) (unused_keyword q' u') = refl
one_row (unused_keyword q u) (compound_literal q' b) = absurd (not_both q u q' refl)
one_row (unused_keyword q u) (called_expression q' b) = absurd (not_both q u q' refl)
one_row (unused_keyword q u) (bit_field q' b) = absurd (not_both q u q' refl)
one_row (compound_literal q b) (unused_keyword q' u') = absurd (not_both q' u' q refl)
one_row (compound_literal q b) (compound_literal q' b') = refl
one_row (compound_literal q b) (called_expression q' b') = let e = one_word q q' in cc
one_row (compound_literal q b) (bit_field q' b') = let e = one_word q q' in cc
one_row (called_expression q b) (unused_keyword q' u') = absurd (not_both q' u' q refl)
one_row (called_expression q b) (compound_literal q' b') = let e = one_word q q' in cc
one_row (called_expression q b) (called_expression q' b') = refl
one_row (called_expression q b) (bit_field q' b') = let e = one_word q q' in cc
one_row (bit_field q b) (unused_keyword q' u') = absurd (not_both q' u' q refl)
one_row (bit_field q b) (compound_literal q' b') = let e = one_word q q' in cc
one_row (bit_field q b) (called_expression q' b') = let e = one_word q q' in cc
one_row (bit_field q b) (bit_field q' b') = refl

-- One number or the other is less, or they are one.
data Order (k n : ℕ) : Type 0 where
  less : k < n → Order k n
  alike : k ≡ n → Order k n
  more : n < k → Order k n

order : (k n : ℕ) → Order k n
order k n = elim (cases_lt k n) [
  | inl lt ↦ less lt
  | inr ge ↦ elim (cases_lt n k) [ inl lt ↦ more lt | inr ge' ↦ alike (omega arith) ]
]

-- A refusal at a token or at the end, by what is too deep, what a row names, and what goes on with no text. A token, and a
-- list whose tokens before it are no cause, has one.
module _ (size : ℕ) (Deep : ℕ → Type 0) (Row : ℕ → ℕ → Type 0) (Unfit None : ℕ → Type 0) where
  -- what makes token k a cause to refuse
  pub data IsCause (k : ℕ) : Type 0 where
    by_level : Deep k → IsCause k
    by_row : {n : ℕ} → Row k n → IsCause k
    by_end : Unfit k → IsCause k

  -- a refusal, and the token or the end that it names
  pub data Stops (k : ℕ) : Refusal → Type 0 where
    too_deep : k < size → Deep k → Stops k (TooDeep k)
    outside : {row : ℕ} → k < size → (Deep k → ⊥) → Row k row → Stops k (OutsideSubset k row)
    unexpected : k < size → (Deep k → ⊥) → ((row : ℕ) → Row k row → ⊥) → Unfit k → Stops k (Unexpected k)
    ended : k ≡ size → None k → Stops k Ended

  pub cause_of : {k : ℕ} {r : Refusal} → Stops k r → k < size → IsCause k
  cause_of (too_deep lt d) far = by_level d
  cause_of (outside lt n o) far = by_row o
  cause_of (unexpected lt n n' x) far = by_end x
  cause_of (ended e x) far = absurd (omega arith)

  -- rows that name one token are one
  abbrev pub OneRow : ℕ → Type 0
  OneRow k = (n n' : ℕ) → Row k n → Row k n' → n ≡ n'

  one_stop : {k : ℕ} {r r' : Refusal} → OneRow k → Stops k r → Stops k r' → r ≡ r'
  one_stop f (too_deep lt d) (too_deep lt' d') = refl
  one_stop f (too_deep lt d) (outside lt' n o) = absurd (n d)
  one_stop f (too_deep lt d) (unexpected lt' n n' x) = absurd (n d)
  one_stop f (too_deep lt d) (ended e x) = absurd (omega arith)
  one_stop f (outside lt n o) (too_deep lt' d) = absurd (n d)
  one_stop {k = k} f (outside {row = row} lt n o) (outside {row = row'} lt' n' o') = ap (OutsideSubset k) (f row row' o o')
  one_stop f (outside {row = row} lt n o) (unexpected lt' m m' x) = absurd (m' row o)
  one_stop f (outside lt n o) (ended e x) = absurd (omega arith)
  one_stop f (unexpected lt n n' x) (too_deep lt' d) = absurd (n d)
  one_stop f (unexpected lt n n' x) (outside {row = row} lt' m o) = absurd (n' row o)
  one_stop f (unexpected lt n n' x) (unexpected lt' m m' x') = refl
  one_stop f (unexpected lt n n' x) (ended e x') = absurd (omega arith)
  one_stop f (ended e x) (too_deep lt d) = absurd (omega arith)
  one_stop f (ended e x) (outside lt n o) = absurd (omega arith)
  one_stop f (ended e x) (unexpected lt n n' x') = absurd (omega arith)
  one_stop f (ended e x) (ended e' x') = refl

  pub two_stops : (fine : ℕ → Type 0) → ((k n : ℕ) → fine k → fine n → k < n → k < size → IsCause k → ⊥) →
      (k k' : ℕ) {r r' : Refusal} → OneRow k → k ≤ size → k' ≤ size → fine k → fine k' → Stops k r → Stops k' r' → r ≡ r'
  two_stops fine no_cause k k' {r = r} {r' = r'} o far far' f f' x x' = by (order k k')
    where
      by : Order k k' → r ≡ r'
      by (less lt) = absurd (no_cause k k' f f' lt (omega arith) (cause_of x (omega arith)))
      by (more lt) = absurd (no_cause k' k f' f lt (omega arith) (cause_of x' (omega arith)))
      by (alike e) = one_stop o x (subst (λ n. Stops n r') (sym e) x')

module _ (ts : List Lexeme) (s : Start) (z : IsStart s.part) where
  -- Texts.

  -- what is spelled in the middle is spelled at a text's end
  own_text : {limit top : Limit} {k : ℕ} {t : Trees} → Lets limit top k → k ≤ length ts → Spelled limit ts s k t → Spelled top (prefix k ts) s (length (prefix k ts)) t
  own_text {limit = limit} {top = top} {k = k} {t = t} l far x =
      record {
        after = x.after;
        spells = subst (λ j. Spells (prefix k ts) top (a s.part) fresh s.scopes x.after s.depth t s.at j) (prefix_length k ts far)
            (carried ts (prefix k ts) limit top 0 k false (same_tokens (λ n ge lt. prefix_get k ts n lt)) l tt (omega arith) (omega arith) x.spells);
      }

  -- and begins one
  spelled_begins : {limit top : Limit} {k : ℕ} {t : Trees} → Lets limit top k → k ≤ length ts → Spelled limit ts s k t → BeginsFrom top ts s k
  spelled_begins {k = k} {t = t} l far x = record {
    trees = t;
    continues = record {
      text = prefix k ts;
      alike = λ i x lt q. prefix_get k ts i lt ∙ q;
      reaches = let e = prefix_length k ts far in omega arith;
      spelled = own_text l far x;
    };
  }

  -- what begins a text within one limit does so within another, and so do fewer tokens
  fewer : {limit top : Limit} {k n : ℕ} → ((m : ℕ) → Lets limit top m) → n ≤ k → BeginsFrom limit ts s k → BeginsFrom top ts s n
  fewer l less' b = record {
    trees = b.trees;
    continues = record {
      text = b.continues.text;
      alike = λ i x lt q. b.continues.alike i x (omega arith) q;
      reaches = let n = b.continues.reaches in omega arith;
      spelled = record { after = b.continues.spelled.after; spells = within_other (l (length b.continues.text)) b.continues.spelled.spells };
    };
  }

  -- Causes.

  abbrev IsUnread : ℕ → Type 0
  IsUnread k = (t : Trees) → Spelled Free ts s k t → ⊥

  abbrev IsUnfit : ℕ → Type 0
  IsUnfit k = RunEnds ts s k × IsUnread k

  abbrev Causes : ℕ → Type 0
  Causes = IsCause (length ts) (IsTooDeepFrom ts s) (OutsideFrom ts s) IsUnfit IsUnread

  abbrev StopsAt : ℕ → Refusal → Type 0
  StopsAt = Stops (length ts) (IsTooDeepFrom ts s) (OutsideFrom ts s) IsUnfit IsUnread

  -- tokens before another one that are no cause hold none
  no_cause : (k n : ℕ) → IsFineFrom ts s k → IsFineFrom ts s n → k < n → k < length ts → Causes k → ⊥
  no_cause k n f' f lt far (by_level (expressions.expected o)) = o.too_deep (fewer (lets_fewer n (k + 1) most_levels (omega arith)) (omega arith) f.begins)
  no_cause k n f' f lt far (by_level (expressions.refused {row = row} q b o x d)) = f.inside k row f'.from lt o
  no_cause k n f' f lt far (by_level (expressions.unexpected q b x o y)) = x (fewer (lets_all (Upto n most_levels)) (omega arith) f.begins)
  no_cause k n f' f lt far (by_row {n = row} o) = f.inside k row f'.from lt o
  no_cause k n f' f lt far (by_end x) = x.0 far (fewer (lets_all (Upto n most_levels)) (omega arith) f.begins)

  -- a reading, by the token at which it ends
  data Reads : Outcome → Type 0 where
    whole : {k : ℕ} {t : Trees} → k ≤ length ts → Spelled (AtMost most_levels) ts s k t → RunEnds ts s k → ((i row : ℕ) → s.at ≤ i → i ≤ k → OutsideFrom ts s i row → ⊥) → Reads (Read t k)
    part : (k : ℕ) {r : Refusal} → k ≤ length ts → IsFineFrom ts s k → StopsAt k r → Reads (Refused r)

  reads : {o : Outcome} → IsReading ts s o → Reads o
  reads (expressions.read far x y n) = whole far x y n
  reads (expressions.too_deep {k = k} lt f d) = part k (omega arith) f (too_deep lt d)
  reads (expressions.outside {k = k} lt f n o) = part k (omega arith) f (outside lt n o)
  reads (expressions.unexpected_token {k = k} lt f n n' y x) = part k (omega arith) f (unexpected lt n n' (y, x))
  reads (expressions.end f x) = part (length ts) (omega arith) f (ended refl x)

  -- tokens that are read are no cause
  read_fine : {k : ℕ} {t : Trees} → k ≤ length ts → Spelled (AtMost most_levels) ts s k t → ((i row : ℕ) → s.at ≤ i → i ≤ k → OutsideFrom ts s i row → ⊥) → IsFineFrom ts s k
  read_fine {k = k} far x n = record {
    from = let lt = later tt x.spells in omega arith;
    begins = spelled_begins (lets_upto k most_levels k) far x;
    inside = λ i row ge lt o. n i row ge (omega arith) o;
  }

  -- and the token behind them is none where the run that spells the part ends
  read_stops : {k : ℕ} {t : Trees} {r : Refusal} → k ≤ length ts → Spelled (AtMost most_levels) ts s k t → RunEnds ts s k → ((i row : ℕ) → s.at ≤ i → i ≤ k → OutsideFrom ts s i row → ⊥) → StopsAt k r → ⊥
  read_stops {k = k} far x y n (too_deep lt (expressions.expected o)) = y lt (fewer (lets_all (Upto k most_levels)) (omega arith) o.begins)
  read_stops {k = k} far x y n (too_deep lt (expressions.refused {row = row} q b o v d)) = let lt' = later tt x.spells in n k row (omega arith) (omega arith) o
  read_stops {k = k} far x y n (too_deep lt (expressions.unexpected q b v o f)) = f (spelled_begins (lets_leaving k most_levels) far x)
  read_stops {k = k} far x y n (outside {row = row} lt n' o) = let lt' = later tt x.spells in n k row (omega arith) (omega arith) o
  read_stops {k = k} {t = t} far x y n (unexpected lt n' n'' x') = x'.1 t (record { after = x.after; spells = within_other (lets_all (AtMost most_levels) k) x.spells })
  read_stops {k = k} {t = t} far x y n (ended e f) = f t (record { after = x.after; spells = within_other (lets_all (AtMost most_levels) k) x.spells })

  -- Two readings.

  same_trees : {k : ℕ} {t t' : Trees} → k ≤ length ts → Spelled (AtMost most_levels) ts s k t → Spelled (AtMost most_levels) ts s k t' → t ≡ t'
  same_trees {k = k} far x x' =
      let l = lets_itself (AtMost most_levels) k in
      (complete.one_tree z (own_text l far x).spells (own_text l far x').spells).0

  no_longer : {k n : ℕ} {t' : Trees} → k < n → n ≤ length ts → RunEnds ts s k → Spelled (AtMost most_levels) ts s n t' → ⊥
  no_longer {n = n} lt far y x = y (omega arith) (fewer (lets_all (AtMost most_levels)) (omega arith) (spelled_begins (lets_itself (AtMost most_levels) n) far x))

  two_reads : {k k' : ℕ} {t t' : Trees} → k ≤ length ts → k' ≤ length ts → Spelled (AtMost most_levels) ts s k t → Spelled (AtMost most_levels) ts s k' t' → RunEnds ts s k → RunEnds ts s k' → Read t k ≡ Read t' k'
  two_reads {k = k} {k' = k'} {t = t} {t' = t'} far far' x x' y y' = by (order k k')
    where
      by : Order k k' → Read t k ≡ Read t' k'
      by (less lt) = absurd (no_longer lt far' y x')
      by (more lt) = absurd (no_longer lt far y' x)
      by (alike e) = let q = same_trees far x (subst (λ n. Spelled (AtMost most_levels) ts s n t') (sym e) x') in cc

  read_or_refused : {k k' : ℕ} {t : Trees} {r : Refusal} → k ≤ length ts → k' ≤ length ts → Spelled (AtMost most_levels) ts s k t → RunEnds ts s k → ((i row : ℕ) → s.at ≤ i → i ≤ k → OutsideFrom ts s i row → ⊥) → IsFineFrom ts s k' → StopsAt k' r → ⊥
  read_or_refused {k = k} {k' = k'} {r = r} far far' x y n f v = by (order k k')
    where
      by : Order k k' → ⊥
      by (less lt) = y (omega arith) (fewer (lets_all (Upto k' most_levels)) (omega arith) f.begins)
      by (more lt) = no_cause k' k f (read_fine far x n) lt (omega arith) (cause_of (length ts) (IsTooDeepFrom ts s) (OutsideFrom ts s) IsUnfit IsUnread v (omega arith))
      by (alike e) = read_stops far x y n (subst (λ i. StopsAt i r) (sym e) v)

  two : {o o' : Outcome} → Reads o → Reads o' → o ≡ o'
  two (whole far x y n) (whole far' x' y' n') = two_reads far far' x x' y y'
  two (whole far x y n) (part k far' f v) = absurd (read_or_refused far far' x y n f v)
  two (part k far f v) (whole far' x y n) = absurd (read_or_refused far' far x y n f v)
  two (part k far f v) (part k' far' f' v') = ap Refused (two_stops (length ts) (IsTooDeepFrom ts s) (OutsideFrom ts s) IsUnfit IsUnread (IsFineFrom ts s) no_cause k k' (λ n n' o o'. one_row o o') far far' f f' v v')

  pub one_reading : {o o' : Outcome} → IsReading ts s o → IsReading ts s o' → o ≡ o'
  one_reading h h' = two (reads h) (reads h')
