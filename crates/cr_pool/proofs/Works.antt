-- What a worker has done, one position further.
use Rattle.std.proofs.Common.{◌≡◌, ◌≢◌, ◌⊎◌, inl, inr, ℕ, ◌+◌, ◌-◌, ◌<◌, ◌≤◌, List, [], ◌∷◌, ◌++◌, Option, Some, None, length, set, slice_index_or, refl, sym, ap, subst, ◌∙◌, arith, append_assoc}
use Prim.Native.Nat.{zero, suc}
use Rattle.cr_core.specs.declared.marks.HitKind.{HitKind}
use Rattle.cr_core.specs.declared.marks.HitKind.TheVariants.{Yes, Failed, Starved}
use Rattle.cr_core.specs.declared.marks.Mark.{Mark}
use Rattle.cr_core.specs.declared.marks.Mark.TheVariants.{Open, No, Hit, Skipped}
use Rattle.cr_core.specs.declared.marks.Entry.{Entry}
use Rattle.cr_core.specs.Row.{Row, apart, kind_no, mark_no, marked, under}
use Rattle.cr_claims.specs.Plays.{RisesAbove}
use Rattle.cr_core.proofs.Rows.{placed-append, marked-append, settled_no}
use Rattle.cr_outside.specs.declared.judge.Answer.{Answer}
use Rattle.cr_outside.specs.declared.judge.Answer.TheVariants.{Yes as AnswerYes, No as AnswerNo, Failed as AnswerFailed}
use Rattle.cr_outside.specs.Judge.{Call}
use Rattle.cr_pool.specs.declared.trial.Trial.TheVariants as trial
use Rattle.cr_pool.specs.declared.verdict.Verdict.{Verdict}
use Rattle.cr_pool.specs.declared.verdict.Verdict.TheVariants as verdict
use Rattle.cr_pool.specs.Epoch.{Epoch, AreAbout, AsksAt, Known, times, variant_of}
use Rattle.cr_pool.specs.Epoch.Known.{by_judge, by_kept}
use Rattle.cr_pool.specs.Sizes.{IsSmaller}
use Rattle.cr_pool.specs.Tally.{Tally}
use Rattle.cr_pool.specs.Trials.{GoesOn}
use Rattle.cr_pool.specs.Trials.IsRejected.{not_smaller, unlawful, answered_no}
use Rattle.cr_pool.specs.Works.{Works, Tries, IsBlank, IsBlankAbove, IsVerdict, MayNoteNothing, NoteIsSo, NotesAreSo, NotesTell, RejectsAt, HitSays, VerdictIsSo}
use Rattle.cr_pool.proofs.Lists.{append-some, open_at}
use Rattle.cr_pool.proofs.Runs.{answer_in_run-later, answer_in_run-earlier}
use Rattle.cr_pool.proofs.Sums.{set_above, set_cases, set_here}
use Rattle.cr_pool.proofs.Tries.{asks_none}

abbrev entry : ℕ → Mark → Entry
entry at m = record { position = at; mark = m }

under-append : (len : ℕ) (a b : Row) → under len (a ++ b) ≡ under len a + under len b
under-append len [] b = omega arith
under-append len (e ∷ a) b = omega (arith, under-append len a b)

times-append : (n : ℕ) (a b : List ℕ) → times n (a ++ b) ≡ times n a + times n b
times-append n [] b = omega arith
times-append n (m ∷ a) b = omega (arith, times-append n a b)

are_about-append : (e : Epoch) (a b : List ℕ) (cs ds : List Call) → AreAbout e a cs → AreAbout e b ds → AreAbout e (a ++ b) (cs ++ ds)
are_about-append e [] b [] ds first second = second
are_about-append e [] b (c ∷ cs) ds first second = absurd first
are_about-append e (i ∷ a) b [] ds first second = absurd first
are_about-append e (i ∷ a) b (c ∷ cs) ds first second = (first.0, are_about-append e a b cs ds first.1 second)

pub asks_goes_on : (e : Epoch) (positions : List ℕ) (before now : Option (List Call)) → AsksAt e positions before now → GoesOn before now
asks_goes_on e positions None now asks = asks
asks_goes_on e positions (Some list) now asks = (asks.0, asks.1)

asks_more : (e : Epoch) (a b : List ℕ) (before middle now : Option (List Call)) → AsksAt e a before middle → AsksAt e b middle now → AsksAt e (a ++ b) before now
asks_more e a b None middle now first second = subst (λ m. AsksAt e b m now) first second
asks_more e a b (Some list) middle now first second =
    let next : AsksAt e b (Some (list ++ first.0)) now = subst (λ m. AsksAt e b m now) first.1 second in
    (first.0 ++ next.0, next.1 ∙ ap Some (append_assoc list first.0 next.0), are_about-append e a b first.0 next.0 first.2 next.2)

-- An answer stays known, and one known from a later moment on is known from an earlier one on.
known_later : (e : Epoch) (before middle now : Tally) (variant : List ℕ) (answer : Answer) → GoesOn middle.calls now.calls → Known e before middle variant answer → Known e before now variant answer
known_later e before middle now variant answer on (by_judge it) = by_judge (answer_in_run-later e.asks e.Tells e.name before.calls middle.calls now.calls variant answer it on)
known_later e before middle now variant answer on (by_kept kept told) = by_kept kept told

known_earlier : (e : Epoch) (before middle now : Tally) (variant : List ℕ) (answer : Answer) → GoesOn before.calls middle.calls → Known e middle now variant answer → Known e before now variant answer
known_earlier e before middle now variant answer on (by_judge it) = by_judge (answer_in_run-earlier e.asks e.Tells e.name before.calls middle.calls now.calls variant answer on it)
known_earlier e before middle now variant answer on (by_kept kept told) = by_kept kept told

rejects_later : (e : Epoch) (before middle now : Tally) (i : ℕ) → GoesOn middle.calls now.calls → RejectsAt e before middle i → RejectsAt e before now i
rejects_later e before middle now i on (not_smaller large) = not_smaller large
rejects_later e before middle now i on (unlawful bad) = unlawful bad
rejects_later e before middle now i on (answered_no it) = answered_no (known_later e before middle now (variant_of e i) AnswerNo on it)

rejects_earlier : (e : Epoch) (before middle now : Tally) (i : ℕ) → GoesOn before.calls middle.calls → RejectsAt e middle now i → RejectsAt e before now i
rejects_earlier e before middle now i on (not_smaller large) = not_smaller large
rejects_earlier e before middle now i on (unlawful bad) = unlawful bad
rejects_earlier e before middle now i on (answered_no it) = answered_no (known_earlier e before middle now (variant_of e i) AnswerNo on it)

-- What a hit says is so from an earlier moment on.
pub says_earlier : (e : Epoch) (before middle now : Tally) (buffer : List ℕ) (i : ℕ) (k : HitKind) → GoesOn before.calls middle.calls → before.faults ≤ middle.faults
    → HitSays e middle now buffer i k → HitSays e before now buffer i k
says_earlier e before middle now buffer i Yes on later says = (
  says.0,
  record {
    smaller = says.1.smaller;
    lawful = says.1.lawful;
    answered = known_earlier e before middle now buffer AnswerYes on says.1.answered;
  },
)
says_earlier e before middle now buffer i Failed on later says = (
  says.0,
  record {
    smaller = says.1.smaller;
    lawful = says.1.lawful;
    answered = answer_in_run-earlier e.asks e.Tells e.name before.calls middle.calls now.calls (variant_of e i) AnswerFailed on says.1.answered;
  },
  omega (arith, says.2),
)
says_earlier e before middle now buffer i Starved on later says = tt

verdict_later : (e : Epoch) (before middle now : Tally) (file : List ℕ) (v : Verdict) → GoesOn middle.calls now.calls → VerdictIsSo e before middle file v → VerdictIsSo e before now file v
verdict_later e before middle now file verdict.Unlawful on so = so
verdict_later e before middle now file verdict.Yes on so = (so.0, known_later e before middle now file AnswerYes on so.1)
verdict_later e before middle now file verdict.No on so = (so.0, known_later e before middle now file AnswerNo on so.1)

verdict_earlier : (e : Epoch) (before middle now : Tally) (file : List ℕ) (v : Verdict) → GoesOn before.calls middle.calls → VerdictIsSo e middle now file v → VerdictIsSo e before now file v
verdict_earlier e before middle now file verdict.Unlawful on so = so
verdict_earlier e before middle now file verdict.Yes on so = (so.0, known_earlier e before middle now file AnswerYes on so.1)
verdict_earlier e before middle now file verdict.No on so = (so.0, known_earlier e before middle now file AnswerNo on so.1)

-- Nothing is noted.
pub notes_none : (e : Epoch) (before now : Tally) (len : ℕ) (notes : List (Option Verdict)) → IsBlank len notes → NotesAreSo e before now notes
notes_none e before now len notes blank i v is = let none = blank.1 i in cc

is_verdict_later : (e : Epoch) (before middle now : Tally) (file : List ℕ) (v : Verdict) → GoesOn middle.calls now.calls → IsVerdict e before middle file v → IsVerdict e before now file v
is_verdict_later e before middle now file v on (inl was) = inl was
is_verdict_later e before middle now file v on (inr it) = inr (it.0, verdict_later e before middle now file v on it.1)

is_verdict_earlier : (e : Epoch) (before middle now : Tally) (file : List ℕ) (v : Verdict) → GoesOn before.calls middle.calls → IsVerdict e middle now file v → IsVerdict e before now file v
is_verdict_earlier e before middle now file v on (inl was) = inl was
is_verdict_earlier e before middle now file v on (inr it) = inr (it.0, verdict_earlier e before middle now file v on it.1)

note_at : (e : Epoch) (before middle now : Tally) (notes : List (Option Verdict)) (at : ℕ) (said : Option Verdict) → GoesOn before.calls middle.calls → GoesOn middle.calls now.calls
    → NotesAreSo e before middle notes → NoteIsSo e middle now at said → (i : ℕ) (v : Verdict)
    → (slice_index_or (set notes at said) i None ≡ slice_index_or notes i None) ⊎ ((i ≡ at) × (slice_index_or (set notes at said) i None ≡ said))
    → slice_index_or (set notes at said) i None ≡ Some v → IsSmaller (variant_of e i) e.file × IsVerdict e before now (variant_of e i) v
note_at e before middle now notes at said earlier later old new i v (inl same) is =
    let it = old i v (sym same ∙ is) in
    (it.0, is_verdict_later e before middle now (variant_of e i) v later it.1)
note_at e before middle now notes at said earlier later old new i v (inr here) is =
    let it = new v (sym here.1 ∙ is) in
    subst (λ j. IsSmaller (variant_of e j) e.file × IsVerdict e before now (variant_of e j) v) (sym here.0) (it.0, is_verdict_earlier e before middle now (variant_of e at) v earlier it.1)

-- The next position was tried, and what it came to is noted.
pub notes_more : (e : Epoch) (before middle now : Tally) (notes : List (Option Verdict)) (at : ℕ) (said : Option Verdict) → GoesOn before.calls middle.calls → GoesOn middle.calls now.calls
    → NotesAreSo e before middle notes → NoteIsSo e middle now at said → NotesAreSo e before now (set notes at said)
notes_more e before middle now notes at said earlier later old new i v is =
    note_at e before middle now notes at said earlier later old new i v (set_cases notes at i said None) is

pub one_of : (a b : ℕ) → 0 < a + b → (0 < a) ⊎ (0 < b)
one_of zero b h = inr (omega arith)
one_of (suc a) b h = inl (omega arith)

is_no : (m : Mark) → mark_no m ≡ 1 → m ≡ No
is_no Open h = absurd (omega arith)
is_no No h = refl
is_no Skipped h = absurd (omega arith)
is_no (Hit k) h = absurd (omega arith)

same_kind : (k j : HitKind) → kind_no k ≡ kind_no j → k ≡ j
same_kind Yes Yes h = refl
same_kind Yes Failed h = absurd (omega arith)
same_kind Yes Starved h = absurd (omega arith)
same_kind Failed Yes h = absurd (omega arith)
same_kind Failed Failed h = refl
same_kind Failed Starved h = absurd (omega arith)
same_kind Starved Yes h = absurd (omega arith)
same_kind Starved Failed h = absurd (omega arith)
same_kind Starved Starved h = refl

is_hit : (k : HitKind) (m : Mark) → mark_no m ≡ 3 + kind_no k → m ≡ Hit k
is_hit k Open h = absurd (omega arith)
is_hit k No h = absurd (omega arith)
is_hit k Skipped h = absurd (omega arith)
is_hit k (Hit j) h = ap Hit (same_kind j k (omega arith))

pub same_hit : (k j : HitKind) → Hit k ≡ Hit j → k ≡ j
same_hit k j h = same_kind k j (omega (arith, ap mark_no h))

-- Nothing is done.
pub works_none : (e : Epoch) (t : Tally) → Works e t t None []
works_none e t = record {
  closed = λ i. refl;
  rejects = λ i h. absurd (omega arith);
  hits = λ i k h. absurd (omega arith);
  positions = [];
  calls = asks_none e t.calls;
  once = λ i. omega arith;
  few = omega arith;
  later = omega arith;
}

-- The next position is skipped.
pub works_skips : (e : Epoch) (before now : Tally) (hit : Option (ℕ × HitKind)) (l : Row) (at : ℕ) → Works e before now hit l → Works e before now hit (l ++ entry at Skipped ∷ [])
works_skips e before now hit l at w = record {
  closed = λ i. omega (arith, marked-append i Open l (entry at Skipped ∷ []), w.closed i);
  rejects = λ i h. w.rejects i (omega (arith, marked-append i No l (entry at Skipped ∷ [])));
  hits = λ i k h. w.hits i k (omega (arith, marked-append i (Hit k) l (entry at Skipped ∷ [])));
  positions = w.positions;
  calls = w.calls;
  once = λ i. omega (arith, placed-append i l (entry at Skipped ∷ []), w.once i);
  few = omega (arith, under-append e.len l (entry at Skipped ∷ []), w.few);
  later = w.later;
}

-- The next position is tried, and settled by what the trial came to.
module _ (e : Epoch) (before middle now : Tally) (hit : Option (ℕ × HitKind)) (l : Row) (at : ℕ) (m : Mark) (within : at < e.len) (settled : m ≢ Open)
    (no : m ≡ No → RejectsAt e middle now at) (yes : (k : HitKind) → m ≡ Hit k → hit ≡ Some (at, k)) (w : Works e before middle None l) (t : Tries e middle now at) where
  rejects_more : (i : ℕ) → ((0 < marked i No l) ⊎ (0 < 1 - (apart i at + apart 1 (mark_no m)))) → RejectsAt e before now i
  rejects_more i (inl h) = rejects_later e before middle now i (asks_goes_on e t.positions middle.calls now.calls t.calls) (w.rejects i h)
  rejects_more i (inr h) =
      let there : at ≡ i = omega arith in
      let here = rejects_earlier e before middle now at (asks_goes_on e w.positions before.calls middle.calls w.calls) (no (is_no m (omega arith))) in
      subst (RejectsAt e before now) there here

  hits_more : (i : ℕ) (k : HitKind) → ((0 < marked i (Hit k) l) ⊎ (0 < 1 - (apart i at + apart (3 + kind_no k) (mark_no m)))) → hit ≡ Some (i, k)
  hits_more i k (inl h) = let none = w.hits i k h in cc
  hits_more i k (inr h) =
      let there : at ≡ i = omega arith in
      yes k (is_hit k m (omega arith)) ∙ ap (λ (p : ℕ). Some (p, k)) there

  pub works_more : Works e before now hit (l ++ entry at m ∷ [])
  works_more = record {
    closed = λ i. omega (arith, marked-append i Open l (entry at m ∷ []), w.closed i, settled_no m settled);
    rejects = λ i h. rejects_more i (one_of (marked i No l) (1 - (apart i at + apart 1 (mark_no m))) (omega (arith, marked-append i No l (entry at m ∷ []))));
    hits = λ i k h. hits_more i k (one_of (marked i (Hit k) l) (1 - (apart i at + apart (3 + kind_no k) (mark_no m))) (omega (arith, marked-append i (Hit k) l (entry at m ∷ []))));
    positions = w.positions ++ t.positions;
    calls = asks_more e w.positions t.positions before.calls middle.calls now.calls w.calls t.calls;
    once = λ i. omega (arith, times-append i w.positions t.positions, placed-append i l (entry at m ∷ []), w.once i, t.once i);
    few = omega (arith, under-append e.len l (entry at m ∷ []), w.few, t.few);
    later = omega (arith, w.later, t.later);
  }

-- Nothing is marked.
pub tells_none : (e : Epoch) (notes : List (Option Verdict)) → NotesTell e [] notes
tells_none e notes i (inl h) = absurd (omega arith)
tells_none e notes i (inr h) = absurd (omega arith)

-- The next position is skipped.
pub tells_skips : (e : Epoch) (l : Row) (notes : List (Option Verdict)) (at : ℕ) → NotesTell e l notes → NotesTell e (l ++ entry at Skipped ∷ []) notes
tells_skips e l notes at tells i (inl h) = tells i (inl (omega (arith, marked-append i No l (entry at Skipped ∷ []))))
tells_skips e l notes at tells i (inr h) = tells i (inr (omega (arith, marked-append i (Hit Yes) l (entry at Skipped ∷ []))))

-- The next position, of which nothing was noted yet, is marked, and what its trial came to is noted.
module _ (e : Epoch) (l : Row) (notes : List (Option Verdict)) (at : ℕ) (m : Mark) (note : Option Verdict) (within : at < length notes) (blank : slice_index_or notes at None ≡ None)
    (tells : NotesTell e l notes) (told : (m ≡ No) ⊎ (m ≡ Hit Yes) → note ≡ None → IsSmaller (variant_of e at) e.file → ⊥) where
  tells_still : (i : ℕ) → (0 < marked i No l) ⊎ (0 < marked i (Hit Yes) l)
      → (slice_index_or (set notes at note) i None ≡ slice_index_or notes i None) ⊎ ((i ≡ at) × (slice_index_or (set notes at note) i None ≡ note))
      → slice_index_or (set notes at note) i None ≡ None → IsSmaller (variant_of e i) e.file → ⊥
  tells_still i marks (inl same) none = tells i marks (sym same ∙ none)
  tells_still i marks (inr here) none = tells i marks (subst (λ j. slice_index_or notes j None ≡ None) (sym here.0) blank)

  tells_here : (i : ℕ) → at ≡ i → (m ≡ No) ⊎ (m ≡ Hit Yes) → slice_index_or (set notes at note) i None ≡ None → IsSmaller (variant_of e i) e.file → ⊥
  tells_here i there marks none =
      let here = subst (λ j. slice_index_or (set notes at note) j None ≡ None) (sym there) none in
      subst (λ j. IsSmaller (variant_of e j) e.file → ⊥) there (told marks (sym (set_here notes at note None within) ∙ here))

  tells_no : (i : ℕ) → ((0 < marked i No l) ⊎ (0 < 1 - (apart i at + apart 1 (mark_no m)))) → slice_index_or (set notes at note) i None ≡ None → IsSmaller (variant_of e i) e.file → ⊥
  tells_no i (inl h) none = tells_still i (inl h) (set_cases notes at i note None) none
  tells_no i (inr h) none = tells_here i (omega arith) (inl (is_no m (omega arith))) none

  tells_yes : (i : ℕ) → ((0 < marked i (Hit Yes) l) ⊎ (0 < 1 - (apart i at + apart 3 (mark_no m)))) → slice_index_or (set notes at note) i None ≡ None → IsSmaller (variant_of e i) e.file → ⊥
  tells_yes i (inl h) none = tells_still i (inr h) (set_cases notes at i note None) none
  tells_yes i (inr h) none = tells_here i (omega arith) (inr (is_hit Yes m (omega arith))) none

  pub tells_more : NotesTell e (l ++ entry at m ∷ []) (set notes at note)
  tells_more i (inl h) = tells_no i (one_of (marked i No l) (1 - (apart i at + apart 1 (mark_no m))) (omega (arith, marked-append i No l (entry at m ∷ []))))
  tells_more i (inr h) = tells_yes i (one_of (marked i (Hit Yes) l) (1 - (apart i at + apart 3 (mark_no m))) (omega (arith, marked-append i (Hit Yes) l (entry at m ∷ []))))

pub skips_neither : (Skipped ≡ No) ⊎ (Skipped ≡ Hit Yes) → ⊥
skips_neither (inl is) = cc
skips_neither (inr is) = cc

-- A hit that is answered yes is noted.
pub yes_is_noted : (e : Epoch) (i : ℕ) (k : HitKind) → (Hit k ≡ No) ⊎ (Hit k ≡ Hit Yes) → MayNoteNothing e i (trial.Hit k) → ⊥
yes_is_noted e i k (inl is) may = cc
yes_is_noted e i k (inr is) may = subst (λ j. MayNoteNothing e i (trial.Hit j)) (same_hit k Yes is) may

rises_more : (old : Row) (at i : ℕ) → at < i → RisesAbove at old → RisesAbove i old
rises_more old at i up (inl none) = inl none
rises_more old at i up (inr low) = inr (omega arith)

-- Above the position that was claimed last nothing is noted.
pub blank_above : (l old own : Row) (notes : List (Option Verdict)) (at : ℕ) (said : Option Verdict) → own ≡ l ++ entry at Open ∷ [] → RisesAbove at old → IsBlankAbove old notes
    → IsBlankAbove own (set notes at said)
blank_above l old own notes at said is rises blank i (inl none) = absurd (append-some l (entry at Open) (sym is ∙ none))
blank_above l old own notes at said is rises blank i (inr up) =
    let above : at < i = omega (arith, (open_at own l at is).1, up) in
    set_above notes at i said None above ∙ blank i (rises_more old at i above rises)
