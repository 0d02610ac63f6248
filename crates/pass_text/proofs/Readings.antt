-- What the reading of signs from the last to the first finds is their nesting.
use native.Mathlib.Omega.{arith}
use Rattle.std.proofs.Common.{◌≡◌, ◌≢◌, ◌<◌, ◌≤◌, ◌+◌, ◌==◌, ℕ, zero, suc, List, [], ◌∷◌, ◌++◌, length, drop, ◌-◌, MatchOption, Option, Some, None, is_some, Bool, true, false, if◌then◌else◌, refl, sym, ap, subst, ◌∙◌, true≢false}
use Rattle.std.proofs.lemmas.List.{append_assoc, append-nil, drop_more, length-append}
use Rattle.std.proofs.lemmas.Bool.Decides.{nat_tests}
use Rattle.std.specs.Prelude.{slice_index}
use Rattle.pass_text.specs.declared.pair.Pair.{Pair}
use Rattle.pass_text.specs.declared.reading.Closing.{Closing}
use Rattle.pass_text.specs.Nesting.{Nests, NestsNot, closer, is_close, is_open}
use Rattle.pass_text.specs.Nesting.Nests.{nothing, other, pair}
use Rattle.pass_text.specs.Reading.{State, after, empty, opened, reads, step}

abbrev pub the : Option State → State
the None = empty
the (Some state) = state

-- Signs are read in two parts, the later one first.
pub reads_append : (at : ℕ) (xs ys : List ℕ) (state : Option State) → reads at (xs ++ ys) state ≡ reads at xs (reads (at + length xs) ys state)
reads_append at [] ys state = ap {B = Option State} (λ (n : ℕ). reads n ys state) (let e : at ≡ at + 0 = omega arith in e)
reads_append at (x ∷ xs) ys state = ap {B = Option State} (after at x)
    (reads_append (at + 1) xs ys state
    ∙ ap {B = Option State} (λ (n : ℕ). reads (at + 1) xs (reads n ys state)) (let e : at + 1 + length xs ≡ at + length (x ∷ xs) = omega arith in e))

step_other : (at sign : ℕ) (state : State) → is_open sign ≡ false → is_close sign ≡ false → step at sign state ≡ Some state
step_other at sign state opens_not closes_not = rw closes_not (rw opens_not refl)

step_close : (at sign : ℕ) (state : State) → is_close sign ≡ true
    → step at sign state ≡ Some (record { waiting = record { sign = sign; at = at } ∷ state.waiting; pairs = state.pairs })
step_close at sign state is = rw is refl

closes : (sign : ℕ) → is_open sign ≡ true → is_close (closer sign) ≡ true
closes sign is = grind (arith, nat_tests, is)

not_both : (sign : ℕ) → is_open sign ≡ true → is_close sign ≡ false
not_both sign is = grind (arith, nat_tests, is)

itself : (n : ℕ) → (n == n) ≡ true
itself n = grind (arith, nat_tests)

step_open : (at sign to : ℕ) (waiting : List Closing) (pairs : List Pair) → is_open sign ≡ true
    → step at sign (record { waiting = record { sign = closer sign; at = to } ∷ waiting; pairs = pairs })
    ≡ Some (record { waiting = waiting; pairs = record { from = at; to = to } ∷ pairs })
step_open at sign to waiting pairs is = rw (not_both sign is) (rw is (rw (itself (closer sign)) refl))

-- What nests is read so, whatever stands behind it.
pub nests_reads : (at : ℕ) (signs : List ℕ) (pairs : List Pair) → Nests at signs pairs → (waiting : List Closing) (behind : List Pair)
    → reads at signs (Some (record { waiting = waiting; pairs = behind })) ≡ Some (record { waiting = waiting; pairs = pairs ++ behind })
nests_reads at signs pairs nothing waiting behind = refl
nests_reads at signs pairs (other {rest = rest} {pairs = within} sign opens_not closes_not nests) waiting behind =
    ap {B = Option State} (after at sign) (nests_reads (at + 1) rest within nests waiting behind)
    ∙ step_other at sign (record { waiting = waiting; pairs = within ++ behind }) opens_not closes_not
nests_reads at signs pairs (pair {between = between} {behind = rest} {inner = inner} {outer = outer} sign to is first place second) waiting behind =
    let last : State = record { waiting = record { sign = closer sign; at = to } ∷ waiting; pairs = outer ++ behind } in
    let start : Option State = Some (record { waiting = waiting; pairs = behind }) in
    let closed : reads to (closer sign ∷ rest) start ≡ Some last =
    ap {B = Option State} (after to (closer sign)) (nests_reads (to + 1) rest outer second waiting behind)
    ∙ step_close to (closer sign) (record { waiting = waiting; pairs = outer ++ behind }) (closes sign is) in
    let there : reads (at + 1 + length between) (closer sign ∷ rest) start ≡ Some last =
    ap {B = Option State} (λ (n : ℕ). reads n (closer sign ∷ rest) start) (sym place) ∙ closed in
    let whole : reads (at + 1) (between ++ closer sign ∷ rest) start ≡ Some (record { waiting = record { sign = closer sign; at = to } ∷ waiting; pairs = inner ++ (outer ++ behind) }) =
    reads_append (at + 1) between (closer sign ∷ rest) start
    ∙ ap {B = Option State} (reads (at + 1) between) there
    ∙ nests_reads (at + 1) between inner first (record { sign = closer sign; at = to } ∷ waiting) (outer ++ behind) in
    ap {B = Option State} (after at sign) whole
    ∙ step_open at sign to waiting (inner ++ (outer ++ behind)) is
    ∙ ap {B = Option State} (λ (ps : List Pair). Some (record { waiting = waiting; pairs = record { from = at; to = to } ∷ ps })) (sym (append_assoc inner outer behind))

-- All that was read: what nests before the first waiting bracket, and what stands behind that.
pub record Part (at : ℕ) (signs : List ℕ) (closing : Closing) (pairs : List Pair) (Behind : List ℕ → List Pair → Type 0) : Type 0 where
  pub within : List ℕ
  pub rest : List ℕ
  pub first : List Pair
  pub later : List Pair
  pub word : signs ≡ within ++ closing.sign ∷ rest
  pub place : closing.at ≡ at + length within
  pub parts : pairs ≡ first ++ later
  pub nests : Nests at within first
  pub behind : Behind rest later

abbrev pub Splits : ℕ → List ℕ → List Closing → List Pair → Type 0
Splits at signs [] pairs = Nests at signs pairs
Splits at signs (closing ∷ waiting) pairs = Part at signs closing pairs (λ rest later. Splits (closing.at + 1) rest waiting later)

split_other : (at sign : ℕ) (signs : List ℕ) (waiting : List Closing) (pairs : List Pair) → is_open sign ≡ false → is_close sign ≡ false
    → Splits (at + 1) signs waiting pairs → Splits at (sign ∷ signs) waiting pairs
split_other at sign signs [] pairs opens_not closes_not it = other sign opens_not closes_not it
split_other at sign signs (closing ∷ waiting) pairs opens_not closes_not it = record {
  within = sign ∷ it.within;
  rest = it.rest;
  first = it.first;
  later = it.later;
  word = ap {B = List ℕ} (λ ss. sign ∷ ss) it.word;
  place = (let e = it.place in omega (arith, e));
  parts = it.parts;
  nests = other sign opens_not closes_not it.nests;
  behind = it.behind;
}

split_close : (at sign : ℕ) (signs : List ℕ) (waiting : List Closing) (pairs : List Pair)
    → Splits (at + 1) signs waiting pairs → Splits at (sign ∷ signs) (record { sign = sign; at = at } ∷ waiting) pairs
split_close at sign signs waiting pairs it = record {
  within = [];
  rest = signs;
  first = [];
  later = pairs;
  word = refl;
  place = omega arith;
  parts = refl;
  nests = nothing;
  behind = it;
}

-- The place of what stands behind a pair.
paired : (at sign : ℕ) (closing : Closing) (within rest : List ℕ) (first later : List Pair) → is_open sign ≡ true → closing.sign ≡ closer sign
    → closing.at ≡ at + 1 + length within → Nests (at + 1) within first → Nests (closing.at + 1) rest later
    → Nests at (sign ∷ (within ++ closing.sign ∷ rest)) (record { from = at; to = closing.at } ∷ (first ++ later))
paired at sign closing within rest first later is same place inner outer =
    subst (λ s. Nests at (sign ∷ (within ++ s ∷ rest)) (record { from = at; to = closing.at } ∷ (first ++ later))) (sym same)
    (pair sign closing.at is inner place outer)

split_open : (at sign : ℕ) (closing : Closing) (signs : List ℕ) (waiting : List Closing) (pairs : List Pair) → is_open sign ≡ true → closing.sign ≡ closer sign
    → Splits (at + 1) signs (closing ∷ waiting) pairs → Splits at (sign ∷ signs) waiting (record { from = at; to = closing.at } ∷ pairs)
split_open at sign closing signs [] pairs is same it =
    subst (λ ss. Nests at (sign ∷ ss) (record { from = at; to = closing.at } ∷ pairs)) (sym it.word)
    (subst (λ ps. Nests at (sign ∷ (it.within ++ closing.sign ∷ it.rest)) (record { from = at; to = closing.at } ∷ ps)) (sym it.parts)
    (paired at sign closing it.within it.rest it.first it.later is same it.place it.nests it.behind))
split_open at sign closing signs (next ∷ waiting) pairs is same it = record {
  within = sign ∷ (it.within ++ closing.sign ∷ it.behind.within);
  rest = it.behind.rest;
  first = record { from = at; to = closing.at } ∷ (it.first ++ it.behind.first);
  later = it.behind.later;
  word = ap {B = List ℕ} (λ ss. sign ∷ ss)
      (it.word ∙ ap {B = List ℕ} (λ ss. it.within ++ closing.sign ∷ ss) it.behind.word
      ∙ sym (append_assoc it.within (closing.sign ∷ it.behind.within) (next.sign ∷ it.behind.rest)));
  place = (let far = it.behind.place in let near = it.place in let e = length-append it.within (closing.sign ∷ it.behind.within) in omega (arith, far, near, e));
  parts = ap {B = List Pair} (λ ps. record { from = at; to = closing.at } ∷ ps)
      (it.parts ∙ ap {B = List Pair} (λ ps. it.first ++ ps) it.behind.parts ∙ sym (append_assoc it.first it.behind.first it.behind.later));
  nests = paired at sign closing it.within it.behind.within it.first it.behind.first is same it.place it.nests it.behind.nests;
  behind = it.behind.behind;
}

-- One step more.
opened_by : (at sign : ℕ) (signs : List ℕ) (closing : Closing) (waiting : List Closing) (pairs : List Pair) (state : State) (b : Bool)
    → (closing.sign == closer sign) ≡ b → is_open sign ≡ true → Splits (at + 1) signs (closing ∷ waiting) pairs
    → (if b then Some (record { waiting = waiting; pairs = record { from = at; to = closing.at } ∷ pairs }) else None) ≡ Some state
    → Splits at (sign ∷ signs) state.waiting state.pairs
opened_by at sign signs closing waiting pairs state true same is it found =
    subst (λ s. Splits at (sign ∷ signs) s.waiting s.pairs) (ap the found)
    (split_open at sign closing signs waiting pairs is (grind (arith, nat_tests, same)) it)
opened_by at sign signs closing waiting pairs state false same is it found = absurd (true≢false (sym (ap is_some found)))

split_opened : (at sign : ℕ) (signs : List ℕ) (waiting : List Closing) (pairs : List Pair) (state : State)
    → is_open sign ≡ true → Splits (at + 1) signs waiting pairs → opened at sign waiting pairs ≡ Some state → Splits at (sign ∷ signs) state.waiting state.pairs
split_opened at sign signs [] pairs state is it found = absurd (true≢false (sym (ap is_some found)))
split_opened at sign signs (closing ∷ waiting) pairs state is it found =
    opened_by at sign signs closing waiting pairs state (closing.sign == closer sign) refl is it found

step_by_open : (at sign : ℕ) (signs : List ℕ) (before state : State) (b : Bool) → is_open sign ≡ b → is_close sign ≡ false
    → Splits (at + 1) signs before.waiting before.pairs
    → (if b then opened at sign before.waiting before.pairs else Some before) ≡ Some state → Splits at (sign ∷ signs) state.waiting state.pairs
step_by_open at sign signs before state true is closes_not it found = split_opened at sign signs before.waiting before.pairs state is it found
step_by_open at sign signs before state false opens_not closes_not it found =
    subst (λ s. Splits at (sign ∷ signs) s.waiting s.pairs) (ap the found) (split_other at sign signs before.waiting before.pairs opens_not closes_not it)

step_by_close : (at sign : ℕ) (signs : List ℕ) (before state : State) (b : Bool) → is_close sign ≡ b
    → Splits (at + 1) signs before.waiting before.pairs
    → (if b then Some (record { waiting = record { sign = sign; at = at } ∷ before.waiting; pairs = before.pairs })
    else if is_open sign then opened at sign before.waiting before.pairs else Some before) ≡ Some state
    → Splits at (sign ∷ signs) state.waiting state.pairs
step_by_close at sign signs before state true is it found =
    subst (λ s. Splits at (sign ∷ signs) s.waiting s.pairs) (ap the found) (split_close at sign signs before.waiting before.pairs it)
step_by_close at sign signs before state false closes_not it found = step_by_open at sign signs before state (is_open sign) refl closes_not it found

step_after : (at sign : ℕ) (signs : List ℕ) (read : Option State) (state : State)
    → ((before : State) → read ≡ Some before → Splits (at + 1) signs before.waiting before.pairs)
    → after at sign read ≡ Some state → Splits at (sign ∷ signs) state.waiting state.pairs
step_after at sign signs None state it found = absurd (true≢false (sym (ap is_some found)))
step_after at sign signs (Some before) state it found = step_by_close at sign signs before state (is_close sign) refl (it before refl) found

-- What was read nests so, up to the brackets that wait.
pub read_splits : (at : ℕ) (signs : List ℕ) (state : State) → reads at signs (Some empty) ≡ Some state → Splits at signs state.waiting state.pairs
read_splits at [] state found = subst (λ s. Splits at [] s.waiting s.pairs) (ap the found) nothing
read_splits at (sign ∷ signs) state found =
    step_after at sign signs (reads (at + 1) signs (Some empty)) state (λ before is. read_splits (at + 1) signs before is) found

-- The reading at a place of the signs.
pub goes_on : (signs : List ℕ) (at : ℕ) (state : State) → at < length signs → reads (at + 1) (drop (at + 1) signs) (Some empty) ≡ Some state
    → reads at (drop at signs) (Some empty) ≡ step at (slice_index signs at) state
goes_on signs at state below is =
    ap {B = Option State} (λ (ss : List ℕ). reads at ss (Some empty)) (drop_more signs at 0 below)
    ∙ ap {B = Option State} (after at (slice_index signs at)) is

-- Where the reading failed, it fails to the front.
pub fails : (first at : ℕ) (signs : List ℕ) → reads (first + at) (drop at signs) (Some empty) ≡ None → reads first signs (Some empty) ≡ None
fails first zero signs is = ap {B = Option State} (λ (n : ℕ). reads n signs (Some empty)) (let e : first ≡ first + 0 = omega arith in e) ∙ is
fails first (suc at) [] is = absurd (true≢false (ap is_some is))
fails first (suc at) (sign ∷ signs) is = ap {B = Option State} (after first sign)
    (fails (first + 1) at signs (ap {B = Option State} (λ (n : ℕ). reads n (drop at signs) (Some empty)) (let e : first + 1 + at ≡ first + suc at = omega arith in e) ∙ is))

whole : (signs : List ℕ) (pairs : List Pair) → Nests 0 signs pairs → reads 0 signs (Some empty) ≡ Some (record { waiting = []; pairs = pairs })
whole signs pairs nests = nests_reads 0 signs pairs nests [] [] ∙ ap {B = Option State} (λ (ps : List Pair). Some (record { waiting = []; pairs = ps })) (append-nil pairs)

-- Where a sign didn't fit, nothing nests.
pub fails_not : (signs : List ℕ) (at : ℕ) → reads at (drop at signs) (Some empty) ≡ None → NestsNot signs
fails_not signs at is pairs nests =
    absurd (true≢false (ap is_some (sym (whole signs pairs nests)
    ∙ fails 0 at signs (ap {B = Option State} (λ (n : ℕ). reads n (drop at signs) (Some empty)) (let e : 0 + at ≡ at = omega arith in e) ∙ is))))

-- Where a bracket still waits, nothing nests.
pub waits_not : (signs : List ℕ) (state : State) → reads 0 signs (Some empty) ≡ Some state → state.waiting ≢ [] → NestsNot signs
waits_not signs state is waits pairs nests = absurd (waits (ap (λ s. (the s).waiting) (sym is ∙ whole signs pairs nests)))

pub nests_all : (signs : List ℕ) (state : State) (pairs : List Pair) → reads 0 signs (Some empty) ≡ Some state → state.waiting ≡ [] → pairs ≡ state.pairs → Nests 0 signs pairs
nests_all signs state pairs is none same =
    subst (λ ps. Nests 0 signs ps) (sym same)
    (subst (λ ws. Splits 0 signs ws state.pairs) none (read_splits 0 signs state is))

pub one : (signs : List ℕ) (pairs others : List Pair) → Nests 0 signs pairs → Nests 0 signs others → pairs ≡ others
one signs pairs others nests also = ap (λ s. (the s).pairs) (sym (whole signs pairs nests) ∙ whole signs others also)

pub few : (at : ℕ) (signs : List ℕ) (pairs : List Pair) → Nests at signs pairs → length pairs ≤ length signs
few at signs pairs nothing = omega arith
few at signs pairs (other {rest = rest} {pairs = within} sign opens_not closes_not nests) = let e = few (at + 1) rest within nests in omega (arith, e)
few at signs pairs (pair {between = between} {behind = behind} {inner = inner} {outer = outer} sign to is first place second) =
    let front = few (at + 1) between inner first in
    let back = few (to + 1) behind outer second in
    let count = length-append inner outer in
    let size = length-append between (closer sign ∷ behind) in
    omega (arith, front, back, count, size)

-- What the loop over the signs ends with.
pub stops : (signs : List ℕ) (at : ℕ) (state behind : State) (fits : Bool) → 0 < at → at ≤ length signs → reads at (drop at signs) (Some empty) ≡ Some state
    → step (at - 1) (slice_index signs (at - 1)) state ≡ (if fits then Some behind else None) → fits ≡ false → NestsNot signs
stops signs zero state behind fits some within is stepped fails = absurd (omega arith)
stops signs (suc at) state behind fits some within is stepped fits_not =
    let less : suc at - 1 ≡ at = omega arith in
    let more : suc at ≡ at + 1 = omega arith in
    fails_not signs at
    (goes_on signs at state (omega arith) (ap {B = Option State} (λ (n : ℕ). reads n (drop n signs) (Some empty)) (sym more) ∙ is)
    ∙ ap {B = Option State} (λ (n : ℕ). step n (slice_index signs n) state) (sym less)
    ∙ stepped
    ∙ ap {B = Option State} (λ (b : Bool). if b then Some behind else None) fits_not)

pub ended : {X : Type 0} (items : X → List Pair) (signs : List ℕ) (state : State) (at : ℕ) (found : Option X) → at ≤ 0 → reads at (drop at signs) (Some empty) ≡ Some state
    → MatchOption found (state.waiting ≢ []) (λ x. (state.waiting ≡ []) × (items x ≡ state.pairs))
    → MatchOption found (NestsNot signs) (λ x. Nests 0 signs (items x))
ended items signs state (suc at) found front is it = absurd (omega arith)
ended items signs state zero None front is it = waits_not signs state is it
ended items signs state zero (Some x) front is it = nests_all signs state (items x) is it.0 it.1
