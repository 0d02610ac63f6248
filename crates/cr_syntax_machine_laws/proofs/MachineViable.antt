-- The tokens before a refused one begin a text, and by the way in which it is refused more is known of that text: where the
-- program stops, it leaves room for so many levels; where a row of the refused forms refuses, it shows the row's node, and
-- the word that stands in can come next; where a level finds no room, the opening token itself can.
use Rattle.std.proofs.Common.{◌≡◌, ℕ, zero, suc, ◌+◌, ◌<◌, ◌≤◌, Bool, true, false, ◌||◌, List, [], ◌∷◌, length, Option, None, Some, refl, sym, ap, subst, ◌∙◌, inl, inr, arith}
use Rattle.std.specs.Prelude.{slice_get, ◌==◌, ◌++◌}
use Rattle.std.proofs.Math.Nat.{eq-or-lt_of_le}
use Rattle.std.proofs.lemmas.Bool.{cases_lt}
use Rattle.std.proofs.lemmas.Option.{slice_get_past}
use Rattle.cr_syntax.specs.declared.word.Word.{Word}
use Rattle.cr_syntax.specs.declared.word.Word.TheVariants as word
use Rattle.cr_syntax.specs.declared.part.Part.{Part}
use Rattle.cr_syntax.specs.Words.{Lexeme, word_at, spelling_at}
use Rattle.cr_syntax.specs.Scopes.{Scopes}
use Rattle.cr_syntax.specs.Trees.{Trees}
use Rattle.cr_syntax.specs.Context.{fresh}
use Rattle.cr_syntax.specs.Spells.{Limit, AtMost, Upto, Leaving, Is, Spells, a}
use Rattle.cr_syntax.specs.Units.{most_levels, with_word, StandsIn, list_for_designator, group_for_literal, subscript_for_call, block_for_body}
use Rattle.cr_syntax_machine.specs.Machine.{Goal, Prog, Test, Manner, plain, opens, reopens, Allows, levels_at, has, passes, Cause, Failed, Runs}
use Rattle.cr_syntax_machine.specs.Machine as m
use Rattle.cr_syntax_machine.specs.MachineBody.{body, start_goal}
use Rattle.cr_syntax_machine_laws.specs.MachineLaws.{IsStart, start_expression, start_assignment, start_conditional}
use Rattle.cr_syntax.specs.Expressions.{Start, Spelled, Continues, BeginsFrom, OutsideFrom, compound_literal, called_expression, bit_field}
use Rattle.cr_syntax.proofs.Tests.{is_of, some_one}
use Rattle.cr_syntax_machine_laws.proofs.MachineKept.{Kept, runs_kept}
use Rattle.cr_syntax_machine_laws.proofs.MachineMeans.{Means, start_part}
use Rattle.cr_syntax_machine_laws.proofs.MachineSound.{each}
use Rattle.cr_syntax_machine_laws.proofs.MachineComplete.{allows_upto}
use Rattle.cr_syntax_machine_laws.proofs.MachineEnds.{Way, stopped, barring, crowded, naming, Ends, end_stop, end_refuse, end_take, end_crowded, end_pass, end_bar, end_free, end_seen, end_unseen, end_yes, end_no, end_here, end_look, end_set, end_bring, end_behind, end_inside, ends_so}
use Rattle.cr_syntax_machine_laws.proofs.MachineExtend.{Front}
use Rattle.cr_syntax_machine_laws.proofs.MachineRuns.{passes_same, word_in}
use Rattle.cr_syntax_machine_laws.proofs.MachineShown.{Next, next_designator, next_literal, next_call, next_body, Shown, shown_literal, shown_call, shown_field, by_stop, by_level, Barred, Labelled}
use Rattle.cr_syntax_machine_laws.proofs.MachineFails.{AtRefusal, viable}
use Rattle.cr_syntax_machine_laws.proofs.MachineGrows.{Grown, Via, Stops, Bars, BarsBy, Refuses, Crowds, start_via}
use Rattle.cr_syntax_machine_laws.proofs.MachineUnitGrows.{owes}
use Rattle.cr_syntax_machine_laws.proofs.MachineOwn.{set_other, set_there}
use Rattle.cr_syntax_machine_laws.proofs.MachineFirst.{some_word_of}
use Rattle.cr_syntax_machine_laws.proofs.MachineRows.{knows}
use Rattle.cr_syntax_machine_laws.proofs.MachineSteady.{levels_in, levels_out, start_levels, Goes, steady}

-- the first k tokens
abbrev pub prefix : ℕ → List Lexeme → List Lexeme
prefix zero ts = []
prefix (suc k) [] = []
prefix (suc k) (x ∷ ts) = x ∷ prefix k ts

pub prefix_length : (k : ℕ) (ts : List Lexeme) → k ≤ length ts → k ≡ length (prefix k ts)
prefix_length zero ts le = refl
prefix_length (suc k) [] le = absurd (omega arith)
prefix_length (suc k) (x ∷ ts) le = ap suc (prefix_length k ts (omega arith))

pub prefix_get : (k : ℕ) (ts : List Lexeme) (n : ℕ) → n < k → slice_get (prefix k ts) n ≡ slice_get ts n
prefix_get zero ts n lt = absurd (omega arith)
prefix_get (suc k) [] n lt = refl
prefix_get (suc k) (x ∷ ts) zero lt = refl
prefix_get (suc k) (x ∷ ts) (suc n) lt = prefix_get k ts n (omega arith)

-- a token is its word and its spelling
pub token_is : (ts : List Lexeme) (i : ℕ) (x : Lexeme) → word_at ts i ≡ Some x.word → spelling_at ts i ≡ x.spelling → slice_get ts i ≡ Some x
token_is ts i x = by (slice_get ts i)
  where
    by : (o : Option Lexeme) → elim o as (λ _. Option Word) [ None ↦ None | Some t ↦ Some t.word ] ≡ Some x.word → elim o as (λ _. List ℕ) [ None ↦ [] | Some t ↦ t.spelling ] ≡ x.spelling → o ≡ Some x
    by None q r = cc
    by (Some y) q r = ap (λ w. Some (record { word = w; spelling = y.spelling })) (some_one q) ∙ ap (λ s. Some (record { word = x.word; spelling = s })) r

start_is : {p : Part} → IsStart p → start_part p ≡ p
start_is start_expression = refl
start_is start_assignment = refl
start_is start_conditional = refl

-- What the limits let stand at token k and behind it.

pub upto_behind : (k most : ℕ) (g : Manner) (i d : ℕ) → k ≤ i → Allows (Upto k most) g i d
upto_behind k most plain i d far = tt
upto_behind k most opens i d far = λ lt. absurd (omega arith)
upto_behind k most reopens i d far = (tt, λ lt. absurd (omega arith))

pub upto_fits : (k most m : ℕ) → m < most → (g : Manner) (i d : ℕ) → levels_at g d ≤ m → Allows (Upto k most) g i d
upto_fits k most m y plain i d le = tt
upto_fits k most m y opens i d le = λ lt. omega arith
upto_fits k most m y reopens i d le = (tt, λ lt. omega arith)

pub leaving_behind : (k most : ℕ) (g : Manner) (i d : ℕ) → k < i → Allows (Leaving k most) g i d
leaving_behind k most plain i d far = λ e. absurd (omega arith)
leaving_behind k most opens i d far = λ lt. absurd (omega arith)
leaving_behind k most reopens i d far = (λ e. absurd (omega arith), λ lt. absurd (omega arith))

pub leaving_fits : (k most m : ℕ) → m < most → (g : Manner) (i d : ℕ) → levels_at g d ≤ m → Allows (Leaving k most) g i d
leaving_fits k most m y plain i d le = λ e. omega arith
leaving_fits k most m y opens i d le = λ lt. omega arith
leaving_fits k most m y reopens i d le = (λ e. omega arith, λ lt. omega arith)

pub leaving_before : (k most : ℕ) (g : Manner) (i d : ℕ) → i < k → Allows (AtMost most) g i d → Allows (Leaving k most) g i d
leaving_before k most plain i d lt w = λ e. absurd (omega arith)
leaving_before k most opens i d lt w = λ lt'. w
leaving_before k most reopens i d lt w = (λ e. absurd (omega arith), λ lt'. w.1)

-- a token that a row or a level refuses passes a test
abbrev pub Tested : List Lexeme → ℕ → Way → Type 0
Tested ts k (stopped d) = Unit {0}
Tested ts k (barring x n d) = (e : Scopes) × (passes ts e k x ≡ true)
Tested ts k crowded = (x : Test) × (e : Scopes) × (passes ts e k x ≡ true)
Tested ts k (naming n r) = Unit {0}

pub tested : {ts : List Lexeme} {limit : Limit} {p : Prog} {c : Scopes} {i k : ℕ} {w : Way} → Ends body ts limit p c i w k → Tested ts k w
tested end_stop = tt
tested end_refuse = tt
tested (end_take v w h) = tested h
tested {c = c} (end_crowded {x = x} v w) = (x, c, v)
tested (end_pass v h) = tested h
tested {c = c} (end_bar v) = (c, v)
tested (end_free v h) = tested h
tested (end_seen v h) = tested h
tested (end_unseen v h) = tested h
tested (end_yes v h) = tested h
tested (end_no v h) = tested h
tested (end_here h) = tested h
tested (end_look h) = tested h
tested (end_set h) = tested h
tested (end_bring h) = tested h
tested (end_behind h h') = tested h'
tested (end_inside h) = tested h

-- the end passes none
none_passes : (c : Scopes) (i : ℕ) (x : Test) → passes [] c i x ≡ false
none_passes c i (m.the w) = refl
none_passes c i (m.has f) = refl
none_passes c i m.ordinary = refl
none_passes c i (m.type_identifier typed) = refl
none_passes c i (m.declared typed) = refl
none_passes c i (m.or x y) = subst (λ b. (b || passes [] c i y) ≡ false) (sym (none_passes c i x)) (none_passes c i y)

pub passes_inside : (ts : List Lexeme) (c : Scopes) (i : ℕ) (x : Test) → passes ts c i x ≡ true → i < length ts
passes_inside ts c i x v = elim (cases_lt i (length ts)) [
  | inl y ↦ y
  | inr y ↦ absurd (by (sym v ∙ (sym (passes_same ts [] i (sym (slice_get_past ts i y)) c x) ∙ none_passes c i x)))
]
  where
    by : true ≡ false → ⊥
    by q = cc

-- so it is none behind the end
pub barred_inside : {ts : List Lexeme} {limit : Limit} {p : Prog} {c : Scopes} {i k n d : ℕ} {x : Test} → Ends body ts limit p c i (barring x n d) k → k < length ts
barred_inside {ts = ts} {k = k} {x = x} h = let t = tested h in passes_inside ts t.0 k x t.1

pub crowded_inside : {ts : List Lexeme} {limit : Limit} {p : Prog} {c : Scopes} {i k : ℕ} → Ends body ts limit p c i crowded k → k < length ts
crowded_inside {ts = ts} {k = k} h = let t = tested h in passes_inside ts t.1 k t.0 t.2

-- the word that stands in for a refused one comes next
pub stands_next : {all : List Lexeme} {k n d : ℕ} {x : Test} {v : Word} → StandsIn n v → Next all k (barring x n d) → Is all k v
stands_next group_for_literal (next_literal q) = q
stands_next subscript_for_call (next_call q) = q
stands_next list_for_designator (next_designator q) = q
stands_next block_for_body (next_body q) = q

-- a row that refuses a label that stands too deep
abbrev pub is_labels : Test → ℕ → Bool
is_labels (has f) n = n == 6
is_labels _ n = false

-- What a goal owes, where its program is refused.
module _ (ts : List Lexeme) (most : ℕ) (us : List Lexeme) (top : Limit) (way : Way) (late : (g : Manner) (i d : ℕ) → length us < i → Allows top g i d) where
  pub grows_in : (g : Goal) (c : Scopes) (i k : ℕ) → Ends body ts (AtMost most) (body g) c i way k → k ≤ length us → ((n : ℕ) → n < k → slice_get us n ≡ slice_get ts n) →
      ((e : Scopes) (n : ℕ) (x : Test) → n < length us → passes ts e n x ≡ true → passes us e n x ≡ true) →
      AtRefusal us top Kept (Means us top) (Via us top way late) (Stops us top way late) (Bars us top way late) (Refuses us top way late) (Crowds us top way late) way k →
      ((g : Manner) (i d : ℕ) → i < k → Allows (AtMost most) g i d → Allows top g i d) → Via us top way late g c i
  grows_in g c i k h far al see r lim = viable body ts us (AtMost most) top Kept (Means us top) (Via us top way late) (Stops us top way late) (Bars us top way late) (Refuses us top way late) (Crowds us top way late)
      runs_kept (each us top) (λ i d. tt) (owes us top way late) h (Via us top way late g c i) r far al see lim (owes us top way late g c i)

-- a text that goes on with one token more
abbrev pub further : List Lexeme → List Lexeme
further ts = ts ++ record { word = word.Semicolon; spelling = [] } ∷ []

further_get : (ts : List Lexeme) (n : ℕ) → n < length ts → slice_get (further ts) n ≡ slice_get ts n
further_get [] n lt = absurd (omega arith)
further_get (x ∷ ts) zero lt = refl
further_get (x ∷ ts) (suc n) lt = further_get ts n (omega arith)

pub further_last : (ts : List Lexeme) → Is (further ts) (length ts) word.Semicolon
further_last [] = refl
further_last (x ∷ ts) = further_last ts

pub further_length : (ts : List Lexeme) → length ts + 1 ≡ length (further ts)
further_length [] = refl
further_length (x ∷ ts) = let n = further_length ts in omega arith

-- The end where a token before is refused: then any token might stand there.
module _ (ts : List Lexeme) (most n r : ℕ) where
  pub further_late : (g : Manner) (i d : ℕ) → length (further ts) < i → Allows (Upto (length ts) most) g i d
  further_late g i d far = let e = further_length ts in upto_behind (length ts) most g i d (omega arith)

  pub further_grows : (g : Goal) (c : Scopes) (i : ℕ) → Ends body ts (AtMost most) (body g) c i (naming n r) (length ts) → Via (further ts) (Upto (length ts) most) (naming n r) further_late g c i
  further_grows g c i h =
      let e = further_length ts in
      grows_in ts most (further ts) (Upto (length ts) most) (naming n r) further_late g c i (length ts) h (omega arith) (λ i lt. further_get ts i lt)
      (λ c i x lt v. passes_same ts (further ts) i (further_get ts i (passes_inside ts c i x v)) c x ∙ v)
      (record { here = e; fits = λ g j d le. upto_behind (length ts) most g j d le; so = refl }) (λ g i d lt w. allows_upto (length ts) most g i d w)

-- The first n tokens go on to a text, within a limit that lets stand what the run met and what is put behind them.
module _ (ts : List Lexeme) (most n : ℕ) (le : n ≤ length ts) (top : Limit) (way : Way)
    (late : (g : Manner) (i d : ℕ) → length (prefix n ts) < i → Allows top g i d) where
  abbrev pub us : List Lexeme
  us = prefix n ts

  -- what is known where another row refuses, and where that of labels does
  pub bars_other : (x : Test) (m i d : ℕ) → is_labels x m ≡ false → Barred us top way x m i d → Bars us top way late x m i d
  bars_other (has f) m i d q b = subst (λ z. BarsBy us top way late z f m i d) (sym q) b
  bars_other _ m i d q b = b

  pub bars_label : (f : Word → Bool) (m i d : ℕ) → is_labels (has f) m ≡ true → Labelled us top way f m i d → Bars us top way late (has f) m i d
  bars_label f m i d q b = subst (λ z. BarsBy us top way late z f m i d) (sym q) b

  -- what a goal owes, where its program is refused
  pub grows : (g : Goal) (c : Scopes) (i k : ℕ) → Ends body ts (AtMost most) (body g) c i way k → k ≤ n →
      AtRefusal us top Kept (Means us top) (Via us top way late) (Stops us top way late) (Bars us top way late) (Refuses us top way late) (Crowds us top way late) way k →
      ((g : Manner) (i d : ℕ) → i < k → Allows (AtMost most) g i d → Allows top g i d) → Via us top way late g c i
  grows g c i k h far r lim =
      let e = prefix_length n ts le in
      grows_in ts most us top way late g c i k h (omega arith) (λ i lt. prefix_get n ts i (omega arith)) (λ c i x lt v. passes_same ts us i (prefix_get n ts i (omega arith)) c x ∙ v) r lim

  goes_on : (s : Start) (k : ℕ) → IsStart s.part → Ends body ts (AtMost most) (body (start_goal s.part s.depth)) s.scopes s.at way k → k ≤ n →
      AtRefusal us top Kept (Means us top) (Via us top way late) (Stops us top way late) (Bars us top way late) (Refuses us top way late) (Crowds us top way late) way k →
      ((g : Manner) (i d : ℕ) → i < k → Allows (AtMost most) g i d → Allows top g i d) → Grown us top way (a s.part) fresh s.scopes s.depth s.at
  goes_on s k z h far r lim = subst (λ p. Grown us top way (a p) fresh s.scopes s.depth s.at) (start_is z)
      (start_via us top way late s.part s.depth s.scopes s.at (grows (start_goal s.part s.depth) s.scopes s.at k h far r lim) fresh)

  -- the text has the same tokens before token n
  pub alike : (all : List Lexeme) → Front us all → (i : ℕ) (x : Lexeme) → i < n → slice_get ts i ≡ Some x → slice_get all i ≡ Some x
  alike all f i x lt q =
      let q' : slice_get us i ≡ Some x = prefix_get n ts i lt ∙ q in
      token_is all i x (f.words i x.word (ap word_in q'))
      (f.names i ∙ ap (λ o. elim o as (λ _. List ℕ) [ None ↦ [] | Some t ↦ t.spelling ]) q')

  spelled : (s : Start) → (g : Grown us top way (a s.part) fresh s.scopes s.depth s.at) → Spelled top g.all s (length g.all) g.built.0
  spelled s g = record { after = g.built.1; spells = subst (λ j. Spells g.all top (a s.part) fresh s.scopes g.built.1 s.depth g.built.0 s.at j) g.size g.built.2 }

  continues : (s : Start) → (g : Grown us top way (a s.part) fresh s.scopes s.depth s.at) → Continues top ts s n g.built.0
  continues s g = record {
    text = g.all;
    alike = alike g.all g.front;
    reaches = let e = prefix_length n ts le in let l = g.late in let z = g.size in omega arith;
    spelled = spelled s g;
  }

  -- and a word that has no spelling there
  pub alike_with : (all : List Lexeme) → Front us all → n < length ts → (v : Word) → Is all n v → (i : ℕ) (x : Lexeme) → i < n + 1 → slice_get (with_word ts n v) i ≡ Some x → slice_get all i ≡ Some x
  alike_with all f lt v q i x l r = elim (eq-or-lt_of_le {n = i} {m = n} (omega arith)) [
    | inl e ↦ subst (λ j. slice_get all j ≡ Some x) (sym e) (there (subst (λ j. slice_get (with_word ts n v) j ≡ Some x) e r))
    | inr y ↦ alike all f i x y (sym (set_other ts n i (record { word = v; spelling = [] }) (λ e. omega arith)) ∙ r)
  ]
    where
      there : slice_get (with_word ts n v) n ≡ Some x → slice_get all n ≡ Some x
      there r =
          let e = prefix_length n ts le in
          let y : Some (record { word = v; spelling = [] }) ≡ Some x = sym (set_there ts n (record { word = v; spelling = [] }) lt) ∙ r in
          token_is all n (record { word = v; spelling = [] }) q
          (f.names n ∙ ap (λ o. elim o as (λ _. List ℕ) [ None ↦ [] | Some t ↦ t.spelling ]) (slice_get_past us n (omega arith))) ∙ y

  continues_with : (s : Start) → (g : Grown us top way (a s.part) fresh s.scopes s.depth s.at) → n < length ts → (v : Word) → Is g.all n v → Continues top (with_word ts n v) s (n + 1) g.built.0
  continues_with s g lt v q = record {
    text = g.all;
    alike = alike_with g.all g.front lt v q;
    reaches = let e = prefix_length n ts le in let l = g.late in let z = g.size in omega arith;
    spelled = spelled s g;
  }

-- what is known where the row of labels refuses token k
pub at_label : (ts : List Lexeme) (most k : ℕ) → k < length ts → (f : Word → Bool) (n m : ℕ) (e : Scopes) → passes ts e k (has f) ≡ true →
    Labelled (prefix (k + 1) ts) (Upto k most) (barring (has f) n m) f n k m
at_label ts most k lt f n m e q =
    let w = some_word_of ts k f q in
    record {
      here = prefix_length (k + 1) ts (omega arith);
      fits = λ g j d le. upto_behind k most g j d le;
      word = w.0;
      is = ap word_in (prefix_get (k + 1) ts k (omega arith)) ∙ w.1;
      passes = w.2;
      so = refl;
    }

-- fewer tokens begin it too
begins_less : {limit : Limit} {ts : List Lexeme} {s : Start} {k : ℕ} → BeginsFrom limit ts s (k + 1) → BeginsFrom limit ts s k
begins_less b = record {
  trees = b.trees;
  continues = record { text = b.continues.text; alike = λ i x lt q. b.continues.alike i x (omega arith) q; reaches = let n = b.continues.reaches in omega arith; spelled = b.continues.spelled };
}

pub no_labels : (x : Test) {n : ℕ} {v : Word} → StandsIn n v → is_labels x n ≡ false
no_labels (has f) list_for_designator = refl
no_labels (has f) group_for_literal = refl
no_labels (has f) subscript_for_call = refl
no_labels (has f) block_for_body = refl
no_labels _ y = refl

-- What is put behind token k may stand there.
module _ (ts : List Lexeme) (most k : ℕ) (le : k ≤ length ts) where
  pub upto_late : (n : ℕ) → n ≤ k + 1 → (g : Manner) (i d : ℕ) → length (prefix k ts) < i → Allows (Upto n most) g i d
  upto_late n y g i d lt = let e = prefix_length k ts le in upto_behind n most g i d (omega arith)

  pub leaving_late : (g : Manner) (i d : ℕ) → length (prefix k ts) < i → Allows (Leaving k most) g i d
  leaving_late g i d lt = let e = prefix_length k ts le in leaving_behind k most g i d (omega arith)

  pub behind_late : (m : ℕ) → m ≤ k → (g : Manner) (i d : ℕ) → length (prefix (k + 1) ts) < i → k < length ts → Allows (Upto m most) g i d
  behind_late m y g i d far lt = let e = prefix_length (k + 1) ts (omega arith) in upto_behind m most g i d (omega arith)

module _ (ts : List Lexeme) (most k : ℕ) (le : k ≤ length ts) (s : Start) (z : IsStart s.part) where
  abbrev EndsBy : Way → Type 0
  EndsBy w = Ends body ts (AtMost most) (body (start_goal s.part s.depth)) s.scopes s.at w k

  stop_grown : (m : ℕ) → EndsBy (stopped m) → Grown (prefix k ts) (Upto k most) (stopped m) (a s.part) fresh s.scopes s.depth s.at
  stop_grown m h = goes_on ts most k le (Upto k most) (stopped m) (upto_late ts most k le k (omega arith)) s k z h (omega arith)
      (record { here = prefix_length k ts le; fits = λ g d y. upto_behind k most g k d (omega arith); free = by_stop }) (λ g i d lt w. allows_upto k most g i d w)

  -- where the program stops: a text goes on, with as many levels as it says
  pub stopped_begins : (m : ℕ) → EndsBy (stopped m) → BeginsFrom (Upto k most) ts s k
  stopped_begins m h = let g = stop_grown m h in record { trees = g.built.0; continues = continues ts most k le (Upto k most) (stopped m) (upto_late ts most k le k (omega arith)) s g }

  pub stopped_leaves : (m : ℕ) → EndsBy (stopped m) → m < most → BeginsFrom (Leaving k most) ts s k
  stopped_leaves m h y =
      let g = goes_on ts most k le (Leaving k most) (stopped m) (leaving_late ts most k le) s k z h (omega arith)
      (record { here = prefix_length k ts le; fits = λ g d l. leaving_fits k most m y g k d l; free = by_stop }) (leaving_before k most) in
      record { trees = g.built.0; continues = continues ts most k le (Leaving k most) (stopped m) (leaving_late ts most k le) s g }

  bar_grown : (x : Test) (n m : ℕ) → is_labels x n ≡ false → EndsBy (barring x n m) → Grown (prefix k ts) (Upto k most) (barring x n m) (a s.part) fresh s.scopes s.depth s.at
  bar_grown x n m o h = goes_on ts most k le (Upto k most) (barring x n m) (upto_late ts most k le k (omega arith)) s k z h (omega arith)
      (bars_other ts most k le (Upto k most) (barring x n m) (upto_late ts most k le k (omega arith)) x n k m o
      (record { here = prefix_length k ts le; fits = λ g d y. upto_behind k most g k d (omega arith); so = refl })) (λ g i d lt w. allows_upto k most g i d w)

  label_grown : (f : Word → Bool) (n m : ℕ) → is_labels (has f) n ≡ true → EndsBy (barring (has f) n m) → k < length ts → Grown (prefix (k + 1) ts) (Upto k most) (barring (has f) n m) (a s.part) fresh s.scopes s.depth s.at
  label_grown f n m o h lt = let t = tested h in goes_on ts most (k + 1) (omega arith) (Upto k most) (barring (has f) n m) (λ g i d far. behind_late ts most k le k (omega arith) g i d far lt) s k z h (omega arith)
      (bars_label ts most (k + 1) (omega arith) (Upto k most) (barring (has f) n m) (λ g i d far. behind_late ts most k le k (omega arith) g i d far lt) f n k m o (at_label ts most k lt f n m t.0 t.1)) (λ g i d lt w. allows_upto k most g i d w)

  -- where a row of the refused forms refuses a token: a text goes on, and with the word that stands in
  pub barred_begins : (x : Test) (n m : ℕ) → EndsBy (barring x n m) → BeginsFrom (Upto k most) ts s k
  barred_begins x n m h = by x (is_labels x n) refl h
    where
      by : (x : Test) (b : Bool) → is_labels x n ≡ b → EndsBy (barring x n m) → BeginsFrom (Upto k most) ts s k
      by x false o h = let g = bar_grown x n m o h in record { trees = g.built.0; continues = continues ts most k le (Upto k most) (barring x n m) (upto_late ts most k le k (omega arith)) s g }
      by (has f) true o h =
          let lt = barred_inside h in
          let g = label_grown f n m o h lt in
          begins_less (record { trees = g.built.0; continues = continues ts most (k + 1) (omega arith) (Upto k most) (barring (has f) n m) (λ g i d far. behind_late ts most k le k (omega arith) g i d far lt) s g })
      by _ true o h = cc

  pub barred_stands : (x : Test) (n m : ℕ) → EndsBy (barring x n m) → k < length ts → {v : Word} → StandsIn n v → BeginsFrom (Upto k most) (with_word ts k v) s (k + 1)
  barred_stands x n m h lt {v = v} y =
      let g = bar_grown x n m (no_labels x y) h in
      let e = prefix_length k ts le in
      record {
        trees = g.built.0;
        continues = continues_with ts most k le (Upto k most) (barring x n m) (upto_late ts most k le k (omega arith)) s g lt v (subst (λ j. Is g.all j v) (sym e) (stands_next y g.next));
      }

  pub barred_leaves : (x : Test) (n m : ℕ) → EndsBy (barring x n m) → k < length ts → {v : Word} → StandsIn n v → m < most → BeginsFrom (Upto (k + 1) most) (with_word ts k v) s (k + 1)
  barred_leaves x n m h lt {v = v} y below =
      let g = goes_on ts most k le (Upto (k + 1) most) (barring x n m) (upto_late ts most k le (k + 1) (omega arith)) s k z h (omega arith)
      (bars_other ts most k le (Upto (k + 1) most) (barring x n m) (upto_late ts most k le (k + 1) (omega arith)) x n k m (no_labels x y)
      (record { here = prefix_length k ts le; fits = λ g d l. upto_fits (k + 1) most m below g k d l; so = refl })) (λ g i d lt w. allows_upto (k + 1) most g i d w) in
      let e = prefix_length k ts le in
      record {
        trees = g.built.0;
        continues = continues_with ts most k le (Upto (k + 1) most) (barring x n m) (upto_late ts most k le (k + 1) (omega arith)) s g lt v (subst (λ j. Is g.all j v) (sym e) (stands_next y g.next));
      }

  -- where a level finds no room: a text goes on behind the opening token
  pub crowded_begins : EndsBy crowded → k < length ts → BeginsFrom (Upto k most) ts s (k + 1)
  crowded_begins h lt =
      let e = prefix_length (k + 1) ts (omega arith) in
      let g = goes_on ts most (k + 1) (omega arith) (Upto k most) crowded (λ g i d far. behind_late ts most k le k (omega arith) g i d far lt) s k z h (omega arith) (
        sym e,
        λ g d. upto_behind k most g k d (omega arith),
        λ d. record { here = e; fits = λ g m y. upto_behind k most g (k + 1) m (omega arith); free = by_level },
      ) (λ g i d lt w. allows_upto k most g i d w) in
      record { trees = g.built.0; continues = continues ts most (k + 1) (omega arith) (Upto k most) crowded (λ g i d far. behind_late ts most k le k (omega arith) g i d far lt) s g }

module _ (ts : List Lexeme) (k : ℕ) (le : k ≤ length ts) (s : Start) (z : IsStart s.part) where
  shows : {x : Test} {n m : ℕ} {t : Trees} → (e : Scopes) × (passes ts e k x ≡ true) → Shown k t (barring x n m) → Continues (Upto k most_levels) ts s k t → OutsideFrom ts s k n
  shows {t = t} q (shown_literal y) c = compound_literal (is_of ts k word.LeftBrace q.1) (record { trees = t; continues = c; has = y })
  shows {t = t} q (shown_call y) c = called_expression (is_of ts k word.LeftParen q.1) (record { trees = t; continues = c; has = y })
  shows {t = t} q (shown_field y) c = bit_field (is_of ts k word.Colon q.1) (record { trees = t; continues = c; has = y })

  -- the token is what the row names
  pub barred_outside : (x : Test) (n m : ℕ) → Ends body ts (AtMost most_levels) (body (start_goal s.part s.depth)) s.scopes s.at (barring x n m) k → OutsideFrom ts s k n
  barred_outside x n m h = by x (is_labels x n) refl h
    where
      no_label : {f : Word → Bool} {t : Trees} {j : ℕ} → Shown j t (barring (has f) n m) → OutsideFrom ts s k n
      no_label y = elim y [ ]

      by : (x : Test) (b : Bool) → is_labels x n ≡ b → Ends body ts (AtMost most_levels) (body (start_goal s.part s.depth)) s.scopes s.at (barring x n m) k → OutsideFrom ts s k n
      by x false o h =
          let g = bar_grown ts most_levels k le s z x n m o h in
          let e = prefix_length k ts le in
          shows (tested h) (subst (λ j. Shown j g.built.0 (barring x n m)) (sym e) g.built.3)
          (continues ts most_levels k le (Upto k most_levels) (barring x n m) (upto_late ts most_levels k le k (omega arith)) s g)
      by (has f) true o h = let g = label_grown ts most_levels k le s z f n m o h (barred_inside h) in no_label g.built.3
      by _ true o h = cc

-- The bare grammar's machine refuses no token before the one that it comes to.
names_none_earlier : {ts : List Lexeme} {limit : Limit} (l b : ℕ) (o : Bool) {p : Prog} {c : Scopes} {i k m r : ℕ} → Ends body ts limit p c i (naming m r) k → Goes ts 0 p l b o c i → ⊥
names_none_earlier l b o end_refuse y = absurd y
names_none_earlier l b o (end_take x w z) y = names_none_earlier l _ _ z y.2
names_none_earlier l b o (end_pass x z) y = names_none_earlier l _ _ z y.3
names_none_earlier l b o (end_free x z) y = names_none_earlier l _ _ z y.2
names_none_earlier l b o (end_seen x z) y = names_none_earlier l _ _ z y.2
names_none_earlier l b o (end_unseen x z) y = names_none_earlier l _ _ z y.3
names_none_earlier l b o (end_yes x z) y = names_none_earlier l _ _ z (y.0 x)
names_none_earlier l b o (end_no x z) y = names_none_earlier l _ _ z (y.1 x)
names_none_earlier l b o (end_here z) y = names_none_earlier l _ _ z y
names_none_earlier l b o (end_look z) y = names_none_earlier l _ _ z y
names_none_earlier l b o (end_set z) y = names_none_earlier l _ _ z y
names_none_earlier l b o (end_bring z) y = names_none_earlier l _ _ z y
names_none_earlier l b o {c = c} {i = i} (end_behind {g = g} h z) y = names_none_earlier l _ _ z (y.1 _ _ _ (knows g c _ i _ _ h))
names_none_earlier {ts = ts} l b o {c = c} {i = i} (end_inside {g = g} z) y = names_none_earlier (levels_out g) (levels_in g) false z (steady ts 0 g c i b y.0)

pub start_names_none : {ts : List Lexeme} {limit : Limit} (p : Part) (d : ℕ) {c : Scopes} {i k m r : ℕ} → Ends body ts limit (body (start_goal p d)) c i (naming m r) k → ⊥
start_names_none {ts = ts} p d {c = c} {i = i} z = names_none_earlier (levels_out (start_goal p d)) (levels_in (start_goal p d)) false z (steady ts 0 (start_goal p d) c i d (start_levels 0 p d).0)

-- whatever the cause
pub begins_before : (ts : List Lexeme) (most k : ℕ) → k ≤ length ts → (s : Start) (x : Cause) → IsStart s.part → Runs body ts (AtMost most) (body (start_goal s.part s.depth)) s.scopes s.at (Failed x k) → BeginsFrom (Upto k most) ts s k
begins_before ts most k le s x z h = let y = ends_so h in by y.way y.ends
  where
    by : (w : Way) → Ends body ts (AtMost most) (body (start_goal s.part s.depth)) s.scopes s.at w k → BeginsFrom (Upto k most) ts s k
    by (stopped d) y = stopped_begins ts most k le s z d y
    by (barring t n d) y = barred_begins ts most k le s z t n d y
    by crowded y = begins_less (crowded_begins ts most k le s z y (crowded_inside y))
    by (naming n r) y = absurd (start_names_none s.part s.depth y)
