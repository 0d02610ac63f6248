-- The workers of an epoch, from what each did to what all did.
use Rattle.std.proofs.Common.{◌≡◌, ◌⊎◌, inl, inr, ℕ, ◌+◌, ◌<◌, ◌≤◌, List, [], ◌∷◌, Option, Some, None, length, map, slice_index_or, refl, sym, ap, subst, ◌∙◌, arith}
use Prim.Native.Nat.{zero, suc}
use Rattle.std.proofs.lemmas.List.{get_or-map, length-map}
use Rattle.cr_claims.specs.declared.seats.Claims.{Claims}
use Rattle.cr_core.specs.declared.events.First.{First}
use Rattle.cr_core.specs.declared.events.First.TheVariants as first
use Rattle.cr_core.specs.declared.marks.HitKind.{HitKind}
use Rattle.cr_core.specs.declared.marks.HitKind.TheVariants.{Yes, Failed, Starved}
use Rattle.cr_core.specs.declared.marks.Mark.TheVariants.{Open, No, Hit}
use Rattle.cr_core.specs.Row.{Row, marked, placed, under}
use Rattle.cr_core.specs.Sound.{Sum, total}
use Rattle.cr_core.specs.State.{IsFirst}
use Rattle.cr_cursor.specs.declared.law.Law.{Ghosts as LawGhosts}
use Rattle.cr_cursor.specs.declared.passes.Passes.{Ghosts as PassesGhosts}
use Rattle.cr_outside.specs.declared.judge.Judge.{Ghosts as JudgeGhosts}
use Rattle.cr_outside.specs.declared.question.Question.{Ghosts as QuestionGhosts}
use Rattle.cr_outside.specs.Question.{Says}
use Rattle.cr_pool.specs.declared.crew.Worker.{Worker}
use Rattle.cr_pool.specs.declared.job.EpochEnd.{EpochEnd}
use Rattle.cr_pool.specs.declared.job.EpochEnd.TheVariants as ending
use Rattle.cr_pool.specs.declared.job.Job.{Job}
use Rattle.cr_pool.specs.Crew.{HaveSameJudges, IsSameButPass, IsWorked, judges_in, row_of, rows_of}
use Rattle.cr_pool.specs.declared.verdict.Verdict.{Verdict}
use Rattle.cr_pool.specs.Endings.{IsEnd, IsEndAt, IsHitter, IsNote, IsNoted, NoneNoted, TakesNotes, decided_at}
use Rattle.cr_pool.specs.Epoch.{ArePut, AsksAt, AsksOnce, CameTo, EndsBy, Epoch, HaveDecided, IsFound, Remembers, times, variant_of}
use Rattle.cr_pool.specs.Jobs.{IsJudged, epoch_of}
use Rattle.cr_pool.specs.Kept.{Kept}
use Rattle.cr_pool.specs.Sizes.{IsSmaller}
use Rattle.cr_pool.specs.Tally.{HaveOneKey, Tally, first_says, no_tally, tallies_of, tally_at, tally_of}
use Rattle.cr_pool.specs.Works.{HitIsSo, NotesAreSo, NotesTell, Works}
use Rattle.cr_pool.proofs.Ends.{asks_once, fault, found, hit_by, rejected_below, row_at, some_of, was_verdict, within}
use Rattle.cr_pool.proofs.Sums.{low_or_high}
use Rattle.cr_pool.proofs.Tries.{asks_none}

-- an element by its place, whatever stands behind the end
pub element : {A : Type 0} (xs : List A) (k : ℕ) → k < length xs → (a : A) × ((d : A) → slice_index_or xs k d ≡ a)
element [] k h = absurd (omega arith)
element (x ∷ xs) zero h = (x, λ d. refl)
element (x ∷ xs) (suc k) h = element xs k (omega arith)

-- Two lists of workers with the same judges at each place.
pub same_judges : {J : Type 0} (old new : List (Worker J)) → length new ≡ length old → HaveSameJudges old new → judges_in new ≡ judges_in old
same_judges [] [] same each = refl
same_judges [] (w ∷ ws) same each = absurd (omega arith)
same_judges (v ∷ vs) [] same each = absurd (omega arith)
same_judges {J} (v ∷ vs) (w ∷ ws) same each =
    let rest = same_judges vs ws (omega arith) (λ k d below. each (suc k) d (omega arith)) in
    ap {B = List J} (λ (j : J). j ∷ judges_in ws) (each zero v (omega arith)) ∙ ap {B = List J} (λ (js : List J). v.judge ∷ js) rest

tally_of_judge : {J K : Type 0} (judge : JudgeGhosts J K) (judges : List J) (k : ℕ) (d : J) → k < length judges → tally_at (tallies_of judge judges) k ≡ tally_of judge (slice_index_or judges k d)
tally_of_judge judge judges k d below = get_or-map (tally_of judge) judges k d no_tally below

-- The first judge says at its key what each says.
same_says : {J K : Type 0} (key : J → K) (says : K → Says) (judges : List J) (k : ℕ) (d : J) → HaveOneKey key judges → k < length judges
    → says (key (slice_index_or judges k d)) ≡ first_says key says judges
same_says key says [] k d one below = absurd (omega arith)
same_says key says (j ∷ js) k d one below = ap says (one k 0 d below (omega arith))

-- so does each worker's
pub says_each : {J K : Type 0} (judge : JudgeGhosts J K) (workers : List (Worker J)) (k : ℕ) (d : Worker J) → HaveOneKey judge.key (judges_in workers) → k < length workers
    → judge.says (judge.key (slice_index_or workers k d).judge) ≡ first_says judge.key judge.says (judges_in workers)
says_each {J} judge workers k d one_key h =
    let there = get_or-map (λ (w : Worker J). w.judge) workers k d d.judge h in
    ap (λ (j : J). judge.says (judge.key j)) (sym there) ∙ same_says judge.key judge.says (judges_in workers) k d.judge one_key (omega (arith, length-map workers (λ (w : Worker J). w.judge)))

nowhere : (f : Row → ℕ) (rows : List Row) → ((k : ℕ) → k < length rows → f (row_at rows k) ≡ 0) → total f rows ≡ 0
nowhere f [] each = refl
nowhere f (row ∷ rows) each =
    let first = each zero (omega arith) in
    omega (arith, first, nowhere f rows (λ k below. each (suc k) (omega arith)))

abbrev pub nothing : List ℕ
nothing = []

abbrev hit_at : {J : Type 0} → List (Worker J) → ℕ → Option (ℕ × HitKind)
hit_at {J} workers k = slice_index_or (map (λ (w : Worker J). w.hit) workers) k None

abbrev notes_at : {J : Type 0} → List (Worker J) → ℕ → List (Option Verdict)
notes_at {J} workers k = slice_index_or (map (λ (w : Worker J). w.notes.items) workers) k []

abbrev buffer_at : {J : Type 0} → List (Worker J) → ℕ → List ℕ
buffer_at {J} workers k = slice_index_or (map (λ (w : Worker J). w.variant.items) workers) k []

pub no_positions : (k : ℕ) (tallies : List Tally) → slice_index_or (map (λ (t : Tally). nothing) tallies) k [] ≡ []
no_positions k [] = refl
no_positions zero (t ∷ ts) = refl
no_positions (suc k) (t ∷ ts) = no_positions k ts

pub no_times : (i : ℕ) (tallies : List Tally) → total (times i) (map (λ (t : Tally). nothing) tallies) ≡ 0
no_times i [] = refl
no_times i (t ∷ ts) = omega (arith, no_times i ts)

pub asks_nobody : (e : Epoch) (tallies : List Tally) → AsksOnce e tallies tallies
asks_nobody e tallies = record {
  positions = map (λ (t : Tally). nothing) tallies;
  each = length-map tallies (λ (t : Tally). nothing);
  calls = λ k below. subst (λ positions. AsksAt e positions (tally_at tallies k).calls (tally_at tallies k).calls) (sym (no_positions k tallies)) (asks_none e (tally_at tallies k).calls);
  once = λ i. omega (arith, no_times i tallies);
  few = omega arith;
}

-- All workers, before and after they ran, and with their passes taken.
module _ {P I L Q J K : Type 0} (passes : PassesGhosts P I) (law : LawGhosts L) (question : QuestionGhosts Q) (judge : JudgeGhosts J K) (job : Job P L Q I) (claims : Claims) (kept : List Kept)
    (old new after : List (Worker J)) (count : length new ≡ length old) (count_after : length after ≡ length old) (one_key : HaveOneKey judge.key (judges_in old))
    (worked : (k : ℕ) (d : Worker J) → k < length old → IsWorked passes law question judge job claims kept (slice_index_or old k d) (slice_index_or new k d))
    (taken : (k : ℕ) (d : Worker J) → k < length old → IsSameButPass (slice_index_or new k d) (slice_index_or after k d)) where
  abbrev says_all : Says
  says_all = first_says judge.key judge.says (judges_in old)

  abbrev epoch : Epoch
  epoch = epoch_of passes law question job says_all kept

  abbrev before : List Tally
  before = tallies_of judge (judges_in old)

  abbrev now : List Tally
  now = tallies_of judge (judges_in new)

  below_old : (k : ℕ) → k < length before → k < length old
  below_old k h = omega (arith, h, length-map (judges_in old) (tally_of judge), length-map old (λ (w : Worker J). w.judge))

  tally_then : (k : ℕ) (d : Worker J) → k < length old → tally_of judge (slice_index_or old k d).judge ≡ tally_at before k
  tally_then k d h =
      let there = get_or-map (λ (w : Worker J). w.judge) old k d d.judge h in
      sym (tally_of_judge judge (judges_in old) k d.judge (omega (arith, length-map old (λ (w : Worker J). w.judge))) ∙ ap (tally_of judge) there)

  tally_now : (k : ℕ) (d : Worker J) → k < length old → tally_of judge (slice_index_or new k d).judge ≡ tally_at now k
  tally_now k d h =
      let h' : k < length new = omega arith in
      let there = get_or-map (λ (w : Worker J). w.judge) new k d d.judge h' in
      sym (tally_of_judge judge (judges_in new) k d.judge (omega (arith, length-map new (λ (w : Worker J). w.judge))) ∙ ap (tally_of judge) there)

  says_it : (k : ℕ) (d : Worker J) → k < length old → judge.says (judge.key (slice_index_or old k d).judge) ≡ says_all
  says_it k d h = says_each judge old k d one_key h

  hit_there : (k : ℕ) (d : Worker J) → k < length old → (slice_index_or new k d).hit ≡ hit_at after k
  hit_there k d h = sym (get_or-map (λ (w : Worker J). w.hit) after k d None (omega arith) ∙ (taken k d h).hit)

  buffer_there : (k : ℕ) (d : Worker J) → k < length old → (slice_index_or new k d).variant.items ≡ buffer_at after k
  buffer_there k d h = sym (get_or-map (λ (w : Worker J). w.variant.items) after k d [] (omega arith) ∙ ap (λ v. v.items) (taken k d h).variant)

  row_there : (k : ℕ) (d : Worker J) → k < length old → row_of (slice_index_or new k d).pass ≡ row_at (rows_of new) k
  row_there k d h = sym (get_or-map (λ (w : Worker J). row_of w.pass) new k d [] (omega arith))

  works_at : (k : ℕ) → k < length before → Works epoch (tally_at before k) (tally_at now k) (hit_at after k) (row_at (rows_of new) k)
  works_at k h =
      let h' = below_old k h in
      let d = (element old k h').0 in
      let it = (worked k d h').works in
      let e : Says → Epoch = λ says. epoch_of passes law question job says kept in
      let t = tally_at before k in
      let n = tally_at now k in
      let v = (slice_index_or old k d).judge in
      let u = slice_index_or new k d in
      subst (λ r. Works epoch t n (hit_at after k) r) (row_there k d h')
      (subst (λ hit. Works epoch t n hit (row_of u.pass)) (hit_there k d h')
      (subst (λ m. Works epoch t m u.hit (row_of u.pass)) (tally_now k d h')
      (subst (λ m. Works epoch m (tally_of judge u.judge) u.hit (row_of u.pass)) (tally_then k d h')
      (subst (λ s. Works (e s) (tally_of judge v) (tally_of judge u.judge) u.hit (row_of u.pass)) (says_it k d h') it))))

  says_at : (k : ℕ) → k < length before → HitIsSo epoch (tally_at before k) (tally_at now k) (buffer_at after k) (hit_at after k)
  says_at k h =
      let h' = below_old k h in
      let d = (element old k h').0 in
      let it = (worked k d h').hit in
      let e : Says → Epoch = λ says. epoch_of passes law question job says kept in
      let t = tally_at before k in
      let n = tally_at now k in
      let v = (slice_index_or old k d).judge in
      let u = slice_index_or new k d in
      subst (λ hit. HitIsSo epoch t n (buffer_at after k) hit) (hit_there k d h')
      (subst (λ b. HitIsSo epoch t n b u.hit) (buffer_there k d h')
      (subst (λ m. HitIsSo epoch t m u.variant.items u.hit) (tally_now k d h')
      (subst (λ m. HitIsSo epoch m (tally_of judge u.judge) u.variant.items u.hit) (tally_then k d h')
      (subst (λ s. HitIsSo (e s) (tally_of judge v) (tally_of judge u.judge) u.variant.items u.hit) (says_it k d h') it))))

  notes_there : (k : ℕ) (d : Worker J) → k < length old → (slice_index_or new k d).notes.items ≡ notes_at after k
  notes_there k d h = sym (get_or-map (λ (w : Worker J). w.notes.items) after k d [] (omega arith) ∙ ap (λ v. v.items) (taken k d h).notes)

  noted_at : (k : ℕ) → k < length before → NotesAreSo epoch (tally_at before k) (tally_at now k) (notes_at after k)
  noted_at k h =
      let h' = below_old k h in
      let d = (element old k h').0 in
      let it = (worked k d h').notes in
      let e : Says → Epoch = λ says. epoch_of passes law question job says kept in
      let t = tally_at before k in
      let n = tally_at now k in
      let v = (slice_index_or old k d).judge in
      let u = slice_index_or new k d in
      subst (λ notes. NotesAreSo epoch t n notes) (notes_there k d h')
      (subst (λ m. NotesAreSo epoch t m u.notes.items) (tally_now k d h')
      (subst (λ m. NotesAreSo epoch m (tally_of judge u.judge) u.notes.items) (tally_then k d h')
      (subst (λ s. NotesAreSo (e s) (tally_of judge v) (tally_of judge u.judge) u.notes.items) (says_it k d h') it)))

  tells_at : (k : ℕ) → k < length before → NotesTell epoch (row_at (rows_of new) k) (notes_at after k)
  tells_at k h =
      let h' = below_old k h in
      let d = (element old k h').0 in
      let it = (worked k d h').tell in
      let e : Says → Epoch = λ says. epoch_of passes law question job says kept in
      let u = slice_index_or new k d in
      subst (λ notes. NotesTell epoch (row_at (rows_of new) k) notes) (notes_there k d h')
      (subst (λ r. NotesTell epoch r u.notes.items) (row_there k d h')
      (subst (λ s. NotesTell (e s) (row_of u.pass) u.notes.items) (says_it k d h') it))

  same_count : length now ≡ length before
  same_count = omega (arith, length-map (judges_in old) (tally_of judge), length-map old (λ (w : Worker J). w.judge), length-map (judges_in new) (tally_of judge), length-map new (λ (w : Worker J). w.judge))

  row_count : length (rows_of new) ≡ length before
  row_count = omega (arith, length-map (judges_in old) (tally_of judge), length-map old (λ (w : Worker J). w.judge), length-map new (λ (w : Worker J). row_of w.pass))

  module _ (sum : Sum) (sums : (f : Row → ℕ) → sum f ≡ f [] + total f (rows_of new)) where
    -- a hit is one worker's
    pub hitter : (i : ℕ) (kind : HitKind) (r : First) → IsFirst epoch.len sum r → r ≡ first.At i kind → (i < epoch.len) × ((k : ℕ) × IsHitter after i kind k)
    hitter i kind r is at =
        let it = hit_by epoch before now (rows_of new) (hit_at after) (buffer_at after) same_count row_count works_at says_at sum sums i kind ((is.at i kind).0 at).0 in
        let here = below_old it.0 it.1 in (
          within epoch before now (rows_of new) (hit_at after) (buffer_at after) same_count row_count works_at says_at sum sums it.0 i kind it.1 it.2,
          (it.0, (omega arith, λ d. sym (get_or-map (λ (w : Worker J). w.hit) after it.0 d None (omega arith)) ∙ it.2)),
        )

    hit_is : (i k : ℕ) (kind : HitKind) → IsHitter after i kind k → (k < length before) × (hit_at after k ≡ Some (i, kind))
    hit_is i k kind it =
        let d = (element after k it.0).0 in (
          omega (arith, length-map (judges_in old) (tally_of judge), length-map old (λ (w : Worker J). w.judge)),
          get_or-map (λ (w : Worker J). w.hit) after k d None it.0 ∙ it.1 d,
        )

    ends_at : (i : ℕ) (kind : HitKind) (end : EpochEnd) → IsFirst epoch.len sum (first.At i kind) → IsEndAt job.start after i kind end → EndsBy epoch before now end
    ends_at i Yes (ending.NoneOf n) is it = absurd it
    ends_at i Yes (ending.Found position bytes) is it =
        let hit = hit_is i it.1.0 Yes it.1.1 in
        let d = (element after it.1.0 it.1.1.0).0 in
        let buffer = get_or-map (λ (w : Worker J). w.variant.items) after it.1.0 d [] it.1.1.0 ∙ it.1.2 d in (
          i,
          it.0,
          subst (IsFound epoch before now i) buffer
              (found epoch before now (rows_of new) (hit_at after) (buffer_at after) same_count row_count works_at says_at sum sums it.1.0 i hit.0 hit.1 ((is.at i Yes).0 refl).1),
        )
    ends_at i Yes (ending.Fault position worker) is it = absurd it
    ends_at i Yes ending.NoMemory is it = absurd it
    ends_at i Failed (ending.NoneOf n) is it = absurd it
    ends_at i Failed (ending.Found position bytes) is it = absurd it
    ends_at i Failed (ending.Fault position worker) is it =
        let hit = hit_is i worker Failed it.1 in
        (i, it.0, fault epoch before now (rows_of new) (hit_at after) (buffer_at after) same_count row_count works_at says_at sum sums worker i hit.0 hit.1 ((is.at i Failed).0 refl).1)
    ends_at i Failed ending.NoMemory is it = absurd it
    ends_at i Starved (ending.NoneOf n) is it = absurd it
    ends_at i Starved (ending.Found position bytes) is it = absurd it
    ends_at i Starved (ending.Fault position worker) is it = absurd it
    ends_at i Starved ending.NoMemory is it = tt

    pub ends : (r : First) (end : EpochEnd) → IsFirst epoch.len sum r → IsEnd job.start job.len after r end → EndsBy epoch before now end
    ends first.None (ending.NoneOf n) is it =
        (it, rejected_below epoch before now (rows_of new) (hit_at after) (buffer_at after) same_count row_count works_at says_at sum sums epoch.len (is.none.0 refl))
    ends first.None (ending.Found position bytes) is it = absurd it
    ends first.None (ending.Fault position worker) is it = absurd it
    ends first.None ending.NoMemory is it = absurd it
    ends (first.At i kind) end is it = ends_at i kind end is it

    came_some : (i : ℕ) (said : Verdict) → IsNoted after i said → CameTo epoch before now (variant_of epoch i) (Some said)
    came_some i said it =
        let d = (element after it.0 it.1.0).0 in
        let below : it.0 < length before = omega (arith, it.1.0, length-map (judges_in old) (tally_of judge), length-map old (λ (w : Worker J). w.judge)) in
        let there : notes_at after it.0 ≡ (slice_index_or after it.0 d).notes.items = get_or-map (λ (w : Worker J). w.notes.items) after it.0 d [] it.1.0 in
        let note = ap (λ (notes : List (Option Verdict)). slice_index_or notes i None) there ∙ it.1.1 d in
        let so = noted_at it.0 below i said note in
        (so.0, was_verdict epoch before now (rows_of new) (hit_at after) (buffer_at after) same_count row_count works_at says_at sum sums it.0 below (variant_of epoch i) said so.1)

    nothing_there : (i k : ℕ) → k < length before → NoneNoted after (length after) i → slice_index_or (notes_at after k) i None ≡ None
    nothing_there i k below none =
        let here = below_old k below in
        let h : k < length after = omega (arith, here) in
        let d = (element after k h).0 in
        let there : notes_at after k ≡ (slice_index_or after k d).notes.items = get_or-map (λ (w : Worker J). w.notes.items) after k d [] h in
        ap (λ (notes : List (Option Verdict)). slice_index_or notes i None) there ∙ none k d h

    none_no : (i : ℕ) → 0 < sum (marked i No) → NoneNoted after (length after) i → IsSmaller (variant_of epoch i) epoch.file → ⊥
    none_no i some none =
        let it = some_of (marked i No) (rows_of new) (omega (arith, sums (marked i No), some)) in
        let below : it.0 < length before = omega (arith, it.1, row_count) in
        tells_at it.0 below i (inl it.2) (nothing_there i it.0 below none)

    none_yes : (i : ℕ) → 0 < sum (marked i (Hit Yes)) → NoneNoted after (length after) i → IsSmaller (variant_of epoch i) epoch.file → ⊥
    none_yes i some none =
        let it = some_of (marked i (Hit Yes)) (rows_of new) (omega (arith, sums (marked i (Hit Yes)), some)) in
        let below : it.0 < length before = omega (arith, it.1, row_count) in
        tells_at it.0 below i (inr it.2) (nothing_there i it.0 below none)

    -- what they noted of a position that was rejected, or is a hit that was answered yes, is what the epoch came to there
    came_at : (i : ℕ) → (0 < sum (marked i No)) ⊎ (0 < sum (marked i (Hit Yes))) → (note : Option Verdict) → IsNote after i note → CameTo epoch before now (variant_of epoch i) note
    came_at i marks (Some said) it = came_some i said it
    came_at i (inl h) None it = none_no i h it
    came_at i (inr h) None it = none_yes i h it

    yes_marks : (i at : ℕ) → i < at + 1 → IsFirst epoch.len sum (first.At at Yes) → (at ≤ i) ⊎ (i < at) → (0 < sum (marked i No)) ⊎ (0 < sum (marked i (Hit Yes)))
    yes_marks i at low is (inl up) = let there : at ≡ i = omega arith in inr (subst (λ (p : ℕ). 0 < sum (marked p (Hit Yes))) there ((is.at at Yes).0 refl).0)
    yes_marks i at low is (inr less) = inl (((is.at at Yes).0 refl).1 i less)

    decided_marks : (r : First) → IsFirst epoch.len sum r → (i : ℕ) → i < decided_at epoch.len r → (0 < sum (marked i No)) ⊎ (0 < sum (marked i (Hit Yes)))
    decided_marks first.None is i low = inl (is.none.0 refl i low)
    decided_marks (first.At at Yes) is i low = yes_marks i at low is (low_or_high at i)
    decided_marks (first.At at Failed) is i low = inl (((is.at at Failed).0 refl).1 i low)
    decided_marks (first.At at Starved) is i low = inl (((is.at at Starved).0 refl).1 i low)

    put_by_notes : (r : First) → IsFirst epoch.len sum r → (n : ℕ) → n ≤ decided_at epoch.len r → (kept_now : List Kept) (lost : ℕ) → TakesNotes epoch.offer epoch.start n after kept kept_now lost
        → ArePut epoch before now n kept_now lost
    put_by_notes r is zero fits kept_now lost takes = takes
    put_by_notes r is (suc n) fits kept_now lost takes =
        let note = takes.3 in
        (takes.0, takes.1, put_by_notes r is n (omega arith) takes.0 takes.1 takes.2, (note.0, came_at n (decided_marks r is n (omega arith)) note.0 note.1, note.2))

    -- what is kept of their notes is what the epoch came to
    pub remembered : (r : First) → IsFirst epoch.len sum r → (end : EpochEnd) → HaveDecided epoch end (decided_at epoch.len r) → (kept_now : List Kept) (lost : ℕ)
        → TakesNotes epoch.offer epoch.start (decided_at epoch.len r) after kept kept_now lost → Remembers epoch before now end kept_now lost
    remembered r is end decided kept_now lost takes = (decided_at epoch.len r, decided, put_by_notes r is (decided_at epoch.len r) (omega arith) kept_now lost takes)

    -- no trial is open
    pub nothing_open : (i : ℕ) → sum (marked i Open) ≡ 0
    nothing_open i = omega (arith, sums (marked i Open), nowhere (marked i Open) (rows_of new) (λ k below. (works_at k (omega (arith, row_count))).closed i))

    pub judged : ((i : ℕ) → sum (placed i) ≤ 1) → sum (under epoch.len) ≤ epoch.len → IsJudged judge epoch (judges_in old) (judges_in new)
    judged once few = record {
      asks = asks_once epoch before now (rows_of new) (hit_at after) (buffer_at after) same_count row_count works_at says_at sum sums once few;
      count = omega (arith, length-map old (λ (w : Worker J). w.judge), length-map new (λ (w : Worker J). w.judge));
      keys = λ k d below.
          let h : k < length old = omega (arith, length-map old (λ (w : Worker J). w.judge)) in
          let w = (element old k h).0 in
          ap judge.key (get_or-map (λ (w : Worker J). w.judge) new k w d (omega arith)) ∙ (worked k w h).key ∙ sym (ap judge.key (get_or-map (λ (w : Worker J). w.judge) old k w d h));
      later = λ k d below.
          let then = ap (λ (t : Tally). t.faults) (tally_of_judge judge (judges_in old) k d below) in
          let h : k < length (judges_in new) = omega (arith, length-map old (λ (w : Worker J). w.judge), length-map new (λ (w : Worker J). w.judge)) in
          let later = ap (λ (t : Tally). t.faults) (tally_of_judge judge (judges_in new) k d h) in
          omega (arith, then, later, (works_at k (omega (arith, length-map (judges_in old) (tally_of judge)))).later);
      silent = λ quiet. same_judges old new count (λ k d below. (worked k d below).silent quiet);
    }

-- Nothing was done.
pub nothing_judged : {J K : Type 0} (judge : JudgeGhosts J K) (e : Epoch) (judges : List J) → IsJudged judge e judges judges
nothing_judged judge e judges = record {
  asks = asks_nobody e (tallies_of judge judges);
  count = refl;
  keys = λ i d below. refl;
  later = λ i d below. omega arith;
  silent = λ quiet. refl;
}

-- the first hit decides as many positions as the end says
decided_with : {J : Type 0} (e : Epoch) (workers : List (Worker J)) (at : ℕ) (kind : HitKind) (end : EpochEnd) → at < e.len → IsEndAt e.start workers at kind end
    → HaveDecided e end (decided_at e.len (first.At at kind))
decided_with e workers at Yes (ending.NoneOf n) within it = absurd it
decided_with e workers at Yes (ending.Found position bytes) within it = omega (arith, it.0)
decided_with e workers at Yes (ending.Fault position worker) within it = absurd it
decided_with e workers at Yes ending.NoMemory within it = absurd it
decided_with e workers at Failed (ending.NoneOf n) within it = absurd it
decided_with e workers at Failed (ending.Found position bytes) within it = absurd it
decided_with e workers at Failed (ending.Fault position worker) within it = omega (arith, it.0)
decided_with e workers at Failed ending.NoMemory within it = absurd it
decided_with e workers at Starved (ending.NoneOf n) within it = absurd it
decided_with e workers at Starved (ending.Found position bytes) within it = absurd it
decided_with e workers at Starved (ending.Fault position worker) within it = absurd it
decided_with e workers at Starved ending.NoMemory within it = omega (arith, within)

pub have_decided : {J : Type 0} (e : Epoch) (workers : List (Worker J)) (r : First) (end : EpochEnd) → ((at : ℕ) (kind : HitKind) → r ≡ first.At at kind → at < e.len)
    → IsEnd e.start e.len workers r end → HaveDecided e end (decided_at e.len r)
have_decided e workers first.None (ending.NoneOf n) within it = refl
have_decided e workers first.None (ending.Found position bytes) within it = absurd it
have_decided e workers first.None (ending.Fault position worker) within it = absurd it
have_decided e workers first.None ending.NoMemory within it = absurd it
have_decided e workers (first.At at kind) end within it = decided_with e workers at kind end (within at kind refl) it
