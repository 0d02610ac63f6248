-- Completeness of a run that goes on with what a stopped one has left.
use Rattle.std.proofs.Common.{◌≡◌, inl, inr, ℕ, zero, suc, ◌<◌, ◌^◌, Bool, true, false, List, [], ◌∷◌, ◌++◌, All, map, length, get_or, Option, Some, None, Err, refl, sym, ap, subst, ◌∙◌, arith, length-append}
use Rattle.std.proofs.lemmas.List.{append-nil}
use Rattle.cr_journal.specs.Keeping.{IsReductionOn}
use Rattle.cr_journal.specs.Laws.{chain_in, most_turns}
use Rattle.cr_journal.proofs.Led.{accepted_follows}
use Rattle.cr_journal_records.specs.Records.{AtRest, Body, IsFront}
use Rattle.cr_journal_rows.specs.Forms.{AllFit, HasForm, HasRowForm, IsFirstBad, RecoversTold, RowFits, bodies_of, header_body, row_body}
use Rattle.cr_journal_rows.specs.declared.fault.JournalFault.{JournalFault}
use Rattle.cr_journal_rows.specs.declared.fault.JournalFault.TheVariants as journal_fault
use Rattle.cr_journal_rows.specs.declared.header.Header.{Header}
use Rattle.cr_journal_rows.proofs.Codec.{one_header}
use Rattle.cr_journal_stops.specs.Stops.{SafeTold}
use Rattle.cr_outside.specs.Story.{Story, changes_of, files_told}
use Rattle.cr_outside.specs.declared.story.Outcome.TheVariants as called
use Rattle.cr_outside_disk.specs.Moments.{EveryTold, seen}
use Rattle.cr_outside_disk.proofs.Images.{seen_is_image}
use Rattle.cr_reduce.specs.Bench.{Judging}
use Rattle.cr_reduce.specs.Bound.{HasLevels}
use Rattle.cr_reduce.specs.Ends.{EndsToldAt, outcome_of}
use Rattle.cr_reduce.specs.Keeping.{Front, IsAsKept, ReducesOnAsTold}
use Rattle.cr_reduce.specs.Laws.{ExcludeEachOther}
use Rattle.cr_reduce.specs.Reduction.{Outcome, none_fails, start_of}
use Rattle.cr_reduce.specs.Search.{AcceptsAsTold, RejectsAsTold}
use Rattle.cr_reduce.specs.declared.end.Accepted.{Accepted}
use Rattle.cr_reduce.specs.declared.end.End.{End}
use Rattle.cr_reduce.specs.declared.end.Kept.{Kept}
use Rattle.cr_reduce.specs.declared.end.Why.{Why}
use Rattle.cr_reduce.specs.declared.end.Why.TheVariants.{Fixed, Limit, Fault, NoMemory}
use Rattle.cr_reduce.proofs.Bounds.{ends_in_time}
use Rattle.cr_reduce.proofs.OneOutcome.{OffersOne, told_apart}
use Rattle.cr_reduce.proofs.Sizes.{one_size, size_by_length}
use Rattle.cr_replay.specs.Chains.{BreaksAt}
use Rattle.cr_replay.proofs.Apart.{never_both}
use Rattle.cr_main_kept.specs.Completing.{CompletesFirst, CompletesOn, HasAllOn}
use Rattle.cr_main_kept.specs.Header.{Fits, MarksFit, header_of}
use Rattle.cr_main_kept.specs.Kept.{FileBegins, FollowsOn, RunsFurther, RunsJournal, RunsResume, Stops}
use Rattle.cr_main_kept.specs.Kept.FollowsOn.{closed, differs, followed, stopped}
use Rattle.cr_main_kept.specs.Kept.LacksCopy.{not_there, unread, wanting}
use Rattle.cr_main_kept.specs.Kept.RunsFurther.{foreign, lawful, ruled_out, starved, uncopied}
use Rattle.cr_main_kept.specs.Kept.RunsResume.{anew, further, unrecovered}
use Rattle.cr_main_kept.specs.KeptTask.{KeptTask, at}
use Rattle.cr_main_kept.specs.Lines.{fault_line}
use Rattle.cr_main_kept.specs.Surviving.{IsSafeFor, IsWhole, records_of}
use Rattle.cr_main_kept.specs.declared.header.Marks.{Marks}
use Rattle.cr_main_kept.proofs.Completing.{IsSpared, by_disk, by_fault, ended_spared, fault_spared, first_spared, journal_free, spared_free, stops_spared, within_time}
use Rattle.cr_main_kept.proofs.Promises.{kept_promises}
use Rattle.cr_main_kept.proofs.Stories.{every_read}
use Rattle.cr_main_kept.proofs.Surviving.{FitAll, IsStory, begins_whole, come_first, copy_there, file_there, first_everywhere, front_of_kept, goes_from, now_safe, one_content, read_stays, recovered_stays, rest_first, rows_fit, rows_front, same_outcome, still_story}
use Rattle.cr_main_task.specs.Messages.{copy_name}
use Rattle.cr_main_task.specs.Outside.{Outside}
use Rattle.cr_main_task.specs.Task.{FileHas, FileLacks, IsOfPrograms, Task, most_read}
use Rattle.cr_main_task.proofs.Completing.{IsFree}
use Rattle.cr_main_task.proofs.Outcomes.{InPasses, out_passes}
use Rattle.cr_main_task.proofs.Statuses.{put_status}

-- where it ended by the limit, it is a told reduction that did
told_limit : (reduction : Option ℕ → Outcome → Type 0) (untouched : Type 0) (limit : Option ℕ) (end : End) (why : Why) → why ≡ Limit → EndsToldAt reduction untouched limit end why → reduction limit (outcome_of end Limit)
told_limit reduction untouched limit end Fixed is run = cc
told_limit reduction untouched limit end Limit is run = run
told_limit reduction untouched limit end (Fault turn worker) is run = cc
told_limit reduction untouched limit end NoMemory is run = cc

fit_all : (rows : List Accepted) → All RowFits rows → FitAll rows
fit_all [] fits = tt
fit_all (row ∷ more) fits = (fits 0 row (omega arith), fit_all more (λ k d within. fits (suc k) d (omega (arith, within))))

-- each row of passes within `pass_count` is in the form
rows_form : (rows : List Accepted) → InPasses rows → (j : ℕ) → j < length (map row_body rows) → HasRowForm (get_or (map row_body rows) j [])
rows_form [] low j short = absurd (omega (arith, short))
rows_form (row ∷ more) low zero short = (refl, low 0 row (omega arith))
rows_form (row ∷ more) low (suc j) short = rows_form more (λ k d within. low (suc k) d (omega (arith, within))) j (omega (arith, short))

all_form : (header : Header) (rows : List Accepted) → InPasses rows → (j : ℕ) → j < length (bodies_of header rows) → HasForm j (get_or (bodies_of header rows) j [])
all_form header rows low zero short = refl
all_form header rows low (suc j) short = rows_form rows low j (omega (arith, short))

get_front : (front more : List Body) (j : ℕ) → j < length front → get_or (front ++ more) j [] ≡ get_or front j []
get_front [] more j short = absurd (omega (arith, short))
get_front (body ∷ rest) more zero short = refl
get_front (body ∷ rest) more (suc j) short = get_front rest more j (omega (arith, short))

-- no record of a front of records in the form is bad
none_bad : (header : Header) (rows : List Accepted) (bodies : List Body) (i : ℕ) → InPasses rows → IsFront bodies (bodies_of header rows) → IsFirstBad bodies i → ⊥
none_bad header rows bodies i low (more, is) first =
    let short : i < length (bodies_of header rows) = omega (arith, first.within, ap length is, length-append bodies more) in
    first.bad (subst (HasForm i) (ap (λ (l : List Body). get_or l i []) is ∙ get_front bodies more i first.within) (all_form header rows low i short))

module _ (k : KeptTask) (marks : Marks) (bytes : List ℕ) (size : ℕ) (out : Outcome) (whole : IsWhole (at k bytes) bytes size out) (saves : k.saves ≡ true)
    (of_programs : IsOfPrograms k.law.Lawful k.law.Against) (one : OffersOne k.Offers)
    (excluded : ExcludeEachOther (AcceptsAsTold (at k bytes).search) (RejectsAsTold (at k bytes).search)) (sixteen : HasLevels k.Offers (λ pass. 16))
    (old new : Outside) (before after : Judging) (has_failed : Bool) (levels : ℕ → ℕ)
    (all : HasAllOn levels k bytes old new before after has_failed) (has : HasLevels k.Offers levels)
    (apart : (file : List ℕ) → k.Tells bytes file true → k.Tells bytes file false → ⊥) where
  abbrev t : Task
  t = at k bytes

  abbrev Safe : Option Story → Type 0
  Safe told = SafeTold (copy_name k.name) k.name bytes (records_of t marks size out) told

  -- ---- the limit

  whole_in_time : out.why ≡ Limit → ⊥
  whole_in_time is =
      let (offer, offered, run) = whole.reduction in
      ends_in_time k.Offers (AcceptsAsTold t.search) (RejectsAsTold t.search) none_fails levels size k.limit has (λ f v it. it.smaller) bytes offer out offered whole.sized
      (within_time k bytes old new before after has_failed levels all has apart size whole.sized) run is

  on_in_time : (since : Judging) (kept : Kept) (end : End) → ReducesOnAsTold t.search kept k.limit out → IsReductionOn t.search since after k.window k.limit kept end → end.why ≡ Limit → ⊥
  on_in_time since kept end goes reduction is_limit =
      let told = told_limit (ReducesOnAsTold t.search kept) (IsAsKept kept end) k.limit end end.why is_limit (reduction.reduction whole.told) in
      let same = same_outcome k marks bytes size out whole saves of_programs one excluded sixteen kept (outcome_of end Limit) goes told in
      whole_in_time (ap (λ (o : Outcome). o.why) (sym same))

  -- ---- the rows

  tokenized_fits : size < 2 ^ 64
  tokenized_fits = omega (arith, size_by_length bytes size whole.sized, (of_programs.tokenizes bytes whole.lawful).tokenizes.short)

  rows_come_first : (header : Header) (rows : List Accepted) (told : Option Story) → IsStory told → Safe told → EveryTold (AtRest (bodies_of header rows)) told → AllFit header rows → most_turns k.limit < 2 ^ 64
      → Front rows out.accepted
  rows_come_first header rows told is safe rests fits below =
      let (more, all_is) = come_first k marks bytes size out whole saves of_programs one excluded sixteen (bodies_of header rows) told is safe rests in
      let records : records_of t marks size out ≡ header_body header ∷ (map row_body rows ++ more) = all_is in
      let rest_is : map row_body out.accepted ≡ map row_body rows ++ more = cc records in
      let (last, turns, follows) = accepted_follows t.search sixteen k.limit bytes out out.accepted (of_programs.tokenizes bytes whole.lawful) whole.reduction ([], sym (append-nil out.accepted)) in
      rows_front rows out.accepted (fit_all rows fits.1) (rows_fit t.search k.limit sixteen below bytes last 0 turns out.accepted follows) (more, rest_is)

  never_breaks : (header : Header) (rows : List Accepted) (i : ℕ) (told : Option Story) → IsStory told → Safe told → EveryTold (AtRest (bodies_of header rows)) told → AllFit header rows
      → most_turns k.limit < 2 ^ 64 → BreaksAt (chain_in t.search k.limit) bytes 0 rows i → ⊥
  never_breaks header rows i told is safe rests fits below breaks =
      let (last, turns, follows) = accepted_follows t.search sixteen k.limit bytes out rows (of_programs.tokenizes bytes whole.lawful) whole.reduction (rows_come_first header rows told is safe rests fits below) in
      never_both (chain_in t.search k.limit) one rows bytes last 0 turns i follows breaks

  -- the header is that of these settings and of these bytes
  is_own : (header : Header) (rows : List Accepted) (told : Option Story) → IsStory told → Safe told → EveryTold (AtRest (bodies_of header rows)) told → AllFit header rows → MarksFit marks k.limit
      → Fits marks k.limit header bytes
  is_own header rows told is safe rests fits marks_fit =
      let (more, all_is) = come_first k marks bytes size out whole saves of_programs one excluded sixteen (bodies_of header rows) told is safe rests in
      let records : records_of t marks size out ≡ header_body header ∷ (map row_body rows ++ more) = all_is in
      let body : header_body header ≡ header_body (header_of marks k.limit size) = cc (sym records) in
      let same : header ≡ header_of marks k.limit size = one_header header (header_of marks k.limit size) fits.0 (marks_fit size tokenized_fits) body in
      let size_is : header.size ≡ size = ap (λ (h : Header). h.size) same in
      record {
        settings = same ∙ ap (header_of marks k.limit) (sym size_is);
        size = λ n sized. size_is ∙ one_size bytes size n whole.sized sized;
      }

  -- ---- the run

  follows_spared : (header : Header) (rows : List Accepted) (read : Outside) (status : ℕ) → read.output_faults ≡ old.output_faults → IsStory read.story → Safe read.story → EveryTold (AtRest (bodies_of header rows)) read.story
      → AllFit header rows → FollowsOn t bytes rows read new before after has_failed status → IsSpared status
  follows_spared header rows read status same told safe rests fits (stopped stops) =
      stops_spared k bytes old new before after has_failed levels all has apart false read status stops
  follows_spared header rows read status same told safe rests fits (differs asked old_size i begins breaks below unmoved said) = absurd (never_breaks header rows i read.story told safe rests fits below breaks)
  follows_spared header rows read status same told safe rests fits (closed asked old_size why begins unmoved cause stops) =
      fault_spared k bytes old new before after has_failed levels all has apart asked why status cause stops
  follows_spared header rows read status same told safe rests fits (followed asked started since old_size kept begins replayed below reopened ends) =
      let front : Front kept.accepted.items out.accepted = subst (λ (l : List Accepted). Front l out.accepted) (sym replayed.same) (rows_come_first header rows read.story told safe rests fits below) in
      let goes = goes_from k marks bytes size out whole saves of_programs one excluded sixteen kept replayed.is_kept front in
      ended_spared k bytes old new before after has_failed levels all has apart started since kept old_size status (reopened.output_faults ∙ begins.copied.output_faults ∙ same) begins.answered.asked.goes_on
      (λ end. on_in_time since kept end goes) ends

  -- what is read of the copy of this name
  copy_lacks : (told : Option Story) → IsStory told → FileHas (files_told told) (copy_name k.name) bytes → FileLacks (files_told told) (copy_name k.name) → ⊥
  copy_lacks None is has_it lacks = absurd is
  copy_lacks (Some s) is has_it lacks = cc (sym has_it ∙ lacks)

  copy_now : (header : Header) (rows : List Accepted) (told : Option Story) → Safe told → EveryTold (AtRest (bodies_of header rows)) told → FileHas (files_told told) (copy_name k.name) bytes
  copy_now header rows told safe rests =
      copy_there k marks bytes size out whole saves of_programs one excluded sixteen told safe (first_everywhere k marks bytes size out whole saves of_programs one excluded sixteen (header_body header) told (rest_first k marks bytes size out whole saves of_programs one excluded sixteen (header_body header) (map row_body rows) told rests))

  is_copy : (header : Header) (rows : List Accepted) (told : Option Story) (other : List ℕ) → IsStory told → Safe told → EveryTold (AtRest (bodies_of header rows)) told → FileBegins (files_told told) (copy_name k.name) other
      → other ≡ bytes
  is_copy header rows told other is safe rests begins =
      begins_whole told (copy_name k.name) bytes other is (copy_now header rows told safe rests) (omega (arith, (of_programs.tokenizes bytes whole.lawful).tokenizes.short)) begins

  further_spared : (header : Header) (rows : List Accepted) (from : Outside) (status : ℕ) → from.output_faults ≡ old.output_faults → IsStory from.story → Safe from.story
      → EveryTold (AtRest (bodies_of header rows)) from.story → AllFit header rows → RunsFurther k marks header rows from new before after has_failed status → IsSpared status
  further_spared header rows from status same told safe rests fits (uncopied (not_there gone calls said) quiet) = absurd (copy_lacks from.story told (copy_now header rows from.story safe rests) gone)
  further_spared header rows from status same told safe rests fits (uncopied (unread rose calls said) quiet) = by_fault status (put_status from new _ 9 status said)
  further_spared header rows from status same told safe rests fits (uncopied (wanting calls silent is) quiet) = inl (inr is)
  further_spared header rows from status same told safe rests fits (foreign other read copy another fit unmoved quiet said) =
      absurd (another (subst (Fits marks k.limit header) (sym (is_copy header rows from.story other told safe rests copy.begins)) (is_own header rows from.story told safe rests fits fit)))
  further_spared header rows from status same told safe rests fits (ruled_out other read reason copy own unlawful against unmoved quiet said) =
      absurd (unlawful (subst k.law.Lawful (sym (is_copy header rows from.story other told safe rests copy.begins)) all.lawful))
  further_spared header rows from status same told safe rests fits (starved other read copy unmoved quiet is) = inl (inr is)
  further_spared header rows from status same told safe rests fits (lawful other read copy own is_lawful follows) =
      let to_read = read_stays k marks bytes size out whole saves of_programs one excluded sixteen (copy_name k.name) called.Done from.story read.story copy.calls safe in
      let read_rests : EveryTold (AtRest (bodies_of header rows)) read.story =
      subst (λ (m : Option Story). EveryTold (AtRest (bodies_of header rows)) m) (sym copy.calls) (every_read (AtRest (bodies_of header rows)) from.story (copy_name k.name) most_read called.Done rests) in
      follows_spared header rows read status (copy.same.output_faults ∙ same) (still_story k marks bytes size out whole saves of_programs one excluded sixteen from.story read.story to_read told) (now_safe k marks bytes size out whole saves of_programs one excluded sixteen from.story read.story to_read) read_rests fits
      (subst (λ (b : List ℕ). FollowsOn (at k b) b rows read new before after has_failed status) (is_copy header rows from.story other told safe rests copy.begins) follows)

  low_passes : InPasses out.accepted
  low_passes =
      let (offer, offered, run) = whole.reduction in
      out_passes k.Offers (AcceptsAsTold t.search) (RejectsAsTold t.search) none_fails k.limit (start_of bytes offer) out (λ n d within. absurd (omega (arith, within))) run

  -- a record that isn't in the form
  never_bad : (told : Option Story) (i : ℕ) → IsStory told → Safe told → RecoversTold told (Err (journal_fault.Bad i)) → ⊥
  never_bad None i is safe recovers = absurd is
  never_bad (Some s) i is safe (bodies, rest, reads, first) =
      none_bad (header_of marks k.limit size) out.accepted bodies i low_passes
      (front_of_kept k marks bytes size out whole saves of_programs one excluded sixteen bodies (records_of t marks size out) (seen s) rest (safe.kept (seen s) (seen_is_image s.journal (changes_of s.events))) reads) first

  unrecovered_spared : (why : JournalFault) (status : ℕ) → IsStory old.story → Safe old.story → RecoversTold old.story (Err why) → ((i : ℕ) → why ≡ journal_fault.Differs i → ⊥) → Stops old new k.name why status → IsSpared status
  unrecovered_spared journal_fault.NoMemory status told safe recovers never stops = inl (inr stops.1)
  unrecovered_spared journal_fault.Disk status told safe recovers never stops = by_disk status (put_status old new (fault_line k.name) 12 status stops)
  unrecovered_spared (journal_fault.Bad i) status told safe recovers never stops = absurd (never_bad old.story i told safe recovers)
  unrecovered_spared (journal_fault.Differs i) status told safe recovers never stops = absurd (never i refl)

  file_lacks : (told : Option Story) → IsStory told → FileHas (files_told told) k.name bytes → FileLacks (files_told told) k.name → ⊥
  file_lacks None is has_it lacks = absurd is
  file_lacks (Some s) is has_it lacks = cc (sym has_it ∙ lacks)

  resume_spared : (status : ℕ) → IsStory old.story → Safe old.story → RunsResume k marks old new before after has_failed status → IsSpared status
  resume_spared status told safe (unrecovered why recovers never cause journal quiet stops) = unrecovered_spared why status told safe recovers never stops
  resume_spared status told safe (anew started recovers journalled none runs) =
      let stays = recovered_stays k marks bytes size out whole saves of_programs one excluded sixteen old.story started.story safe journalled.journal in
      let is_told = still_story k marks bytes size out whole saves of_programs one excluded sixteen old.story started.story stays told in
      let file_is = file_there k marks bytes size out whole saves of_programs one excluded sixteen started.story (now_safe k marks bytes size out whole saves of_programs one excluded sixteen old.story started.story stays) none in
      first_spared k bytes old new before after has_failed levels all has apart marks started status journalled.output_faults
      (λ other it. one_content started.story k.name other bytes is_told it file_is) (file_lacks started.story is_told file_is) runs
  resume_spared status told safe (further started header rows recovers journalled rests fits runs) =
      let stays = recovered_stays k marks bytes size out whole saves of_programs one excluded sixteen old.story started.story safe journalled.journal in
      further_spared header rows.items started status journalled.output_faults (still_story k marks bytes size out whole saves of_programs one excluded sixteen old.story started.story stays told)
      (now_safe k marks bytes size out whole saves of_programs one excluded sixteen old.story started.story stays) rests fits runs

  pub resume_free : (status : ℕ) (first : Story) → old.story ≡ Some first → IsSafeFor t marks bytes size out first → RunsResume k marks old new before after has_failed status → IsFree status
  resume_free status first is safe runs =
      let promises = kept_promises k marks old new before after has_failed status saves (inr runs) in
      let told : IsStory old.story = subst IsStory (sym is) tt in
      let safe_now : Safe old.story = subst (λ (m : Option Story). Safe m) (sym is) safe in
      spared_free k bytes old new before after has_failed levels all has apart status (λ nine. all.no_file_fault (promises.fault_last nine))
      (λ twelve. let failed = (promises.failed twelve).0 in let fine = all.no_disk_fault in cc (sym failed ∙ fine)) (resume_spared status told safe_now runs)

-- Completeness of the two runs, where the passes have these levels, and the question doesn't tell both answers.
module _ (k : KeptTask) (marks : Marks) (old new : Outside) (before after : Judging) (has_failed : Bool) (status : ℕ) (saves : k.saves ≡ true)
    (levels : ℕ → ℕ) (has : HasLevels k.Offers levels)
    (apart : (bytes file : List ℕ) → k.Tells bytes file true → k.Tells bytes file false → ⊥) where
  pub journal_completes : RunsJournal k marks old new before after has_failed status → CompletesFirst levels k old new before after has_failed status
  journal_completes runs = λ bytes unbegun all. journal_free k bytes old new before after has_failed levels all has (apart bytes) marks status saves unbegun runs

  pub resume_completes : IsOfPrograms k.law.Lawful k.law.Against → OffersOne k.Offers → HasLevels k.Offers (λ pass. 16) → RunsResume k marks old new before after has_failed status
      → CompletesOn levels k marks old new before after has_failed status
  resume_completes of_programs one sixteen runs = λ bytes size out first whole is safe all.
      resume_free k marks bytes size out whole saves of_programs one (told_apart k.law.Lawful (k.Tells bytes) (apart bytes)) sixteen old new before after has_failed levels all has (apart bytes) status first is safe runs
