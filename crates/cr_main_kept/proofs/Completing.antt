-- Completeness, from what a kept run comes to.
use Rattle.std.proofs.Common.{◌≡◌, ◌⊎◌, inl, inr, ℕ, Bool, true, false, List, length, Option, Some, None, refl, sym, ap, subst, ◌∙◌}
use Rattle.cr_cursor.specs.Variants.{Offer, place_of}
use Rattle.cr_journal.specs.Keeping.{IsReductionOn}
use Rattle.cr_journal_rows.specs.declared.fault.JournalFault.{JournalFault}
use Rattle.cr_journal_rows.specs.declared.fault.JournalFault.TheVariants as journal_fault
use Rattle.cr_outside.specs.Faults.{Rose}
use Rattle.cr_outside.specs.Files.{Names, content_of}
use Rattle.cr_outside.specs.Story.{Story, files_now, files_told}
use Rattle.cr_outside_disk.specs.Moments.{HasLength, seen}
use Rattle.cr_reduce.specs.Bench.{GoesOn, Judging}
use Rattle.cr_reduce.specs.Bound.{HasLevels, enough_turns}
use Rattle.cr_reduce.specs.Ends.{EndsAt, FaultsWithCause, outcome_of}
use Rattle.cr_reduce.specs.Keeping.{IsAsKept, ReducesOnInRun, goes_on_at, has_some}
use Rattle.cr_reduce.specs.Reduction.{Outcome, Reduces, State, Within, start_of}
use Rattle.cr_reduce.specs.Search.{AcceptsInRun, FailsInRun, RejectsInRun}
use Rattle.cr_reduce.specs.Sizes.{HasSize}
use Rattle.cr_reduce.specs.declared.end.End.{End}
use Rattle.cr_reduce.specs.declared.end.Kept.{Kept}
use Rattle.cr_reduce.specs.declared.end.Why.{Why}
use Rattle.cr_reduce.specs.declared.end.Why.TheVariants.{Fixed, Limit, Fault, NoMemory}
use Rattle.cr_reduce.proofs.Bounds.{ends_in_time}
use Rattle.cr_reduce.proofs.Keepings.{first_place}
use Rattle.cr_reduce.proofs.Runs.{rose_at-earlier}
use Rattle.cr_reduce.proofs.Sizes.{size_by_length}
use Rattle.cr_reduce.proofs.Walks.{within_less}
use Rattle.cr_main_kept.specs.Completing.{HasAllOn, IsUnbegun}
use Rattle.cr_main_kept.specs.Kept.{EndsKept, IsFirst, RunsFirst, RunsJournal, StartsOn, Stops}
use Rattle.cr_main_kept.specs.Kept.EndsKept.{concluded, cut_off}
use Rattle.cr_main_kept.specs.Kept.RunsFirst.{opened, unopened}
use Rattle.cr_main_kept.specs.Kept.RunsJournal.{found, fresh, unstarted}
use Rattle.cr_main_kept.specs.Kept.StartsOn.{begun, stopped, unbegun}
use Rattle.cr_main_kept.specs.KeptTask.{KeptTask, at}
use Rattle.cr_main_kept.specs.Lines.{IsDiskFault, fault_line}
use Rattle.cr_main_kept.specs.declared.header.Marks.{Marks}
use Rattle.cr_main_kept.proofs.Promises.{journal_leaves, kept_promises}
use Rattle.cr_main_task.specs.Beginning.{StopsEarly}
use Rattle.cr_main_task.specs.Beginning.StopsEarly.{not_copied, refused, wanting}
use Rattle.cr_main_task.specs.Headline.{enough_for}
use Rattle.cr_main_task.specs.Messages.{copy_name, log_name}
use Rattle.cr_main_task.specs.Opening.Unopened.{not_there, ruled_out, unopened as file_unopened, unread}
use Rattle.cr_main_task.specs.Outside.{Outside, Puts, Refuses}
use Rattle.cr_main_task.specs.Outside.Says.{said_whole, said_cut, said_starved}
use Rattle.cr_main_task.specs.Run.{Causes, Concludes, end_status}
use Rattle.cr_main_task.specs.Run.Concludes.{summed_up, unfinished, unlogged, unwritten}
use Rattle.cr_main_task.specs.Task.{FileHas, FileLacks, given}
use Rattle.cr_main_task.specs.declared.messages.Refusal.{Refusal}
use Rattle.cr_main_task.specs.declared.messages.Refusal.TheVariants as refusal
use Rattle.cr_main_task.proofs.Completing.{IsFree, bytes_enough}
use Rattle.cr_main_task.proofs.Statuses.{fails_status, put_status}

-- 0, want of memory, or a fault of the files or of the disk
abbrev pub IsSpared : ℕ → Type 0
IsSpared status = IsFree status ⊎ ((status ≡ 9) ⊎ (status ≡ 12))

pub by_fault : (status : ℕ) → (status ≡ 9) ⊎ (status ≡ 11) → IsSpared status
by_fault status (inl is) = inr (inl is)
by_fault status (inr is) = inl (inr is)

pub by_disk : (status : ℕ) → (status ≡ 12) ⊎ (status ≡ 11) → IsSpared status
by_disk status (inl is) = inr (inr is)
by_disk status (inr is) = inl (inr is)

-- where it ended by the limit, it is a reduction that did
by_limit : (reduction : Option ℕ → Outcome → Type 0) (untouched : Type 0) (limit : Option ℕ) (end : End) (why : Why) → why ≡ Limit → EndsAt reduction untouched limit end why → reduction limit (outcome_of end Limit)
by_limit reduction untouched limit end Fixed is run = cc
by_limit reduction untouched limit end Limit is run = run
by_limit reduction untouched limit end (Fault turn worker) is run = cc
by_limit reduction untouched limit end NoMemory is run = cc

-- where nothing is kept yet, it goes on from the start
from_start : (bytes : List ℕ) (kept : Kept) (offer : Offer) → IsFirst bytes kept → goes_on_at kept offer ≡ start_of bytes offer
from_start bytes kept offer is =
    let place : place_of offer.widths kept.at ≡ 0 = ap (place_of offer.widths) is.at ∙ first_place offer in
    λ i. record { file = is.file i; offer = offer; position = place i; changed = has_some (is.none i); accepted = is.none i; turns = is.unturned i }

module _ (k : KeptTask) (bytes : List ℕ) (old new : Outside) (before after : Judging) (has_failed : Bool) (levels : ℕ → ℕ)
    (all : HasAllOn levels k bytes old new before after has_failed) (has : HasLevels k.Offers levels)
    (apart : (file : List ℕ) → k.Tells bytes file true → k.Tells bytes file false → ⊥) where
  -- ---- the end of a kept reduction

  pub within_time : (size : ℕ) → HasSize bytes size → Within k.limit (enough_turns levels size)
  within_time size sized = within_less k.limit (enough_turns levels size) (enough_for levels (length bytes)) (bytes_enough levels (length bytes) size (size_by_length bytes size sized)) all.enough

  end_spared : (since : Judging) (why : Why) → GoesOn before since → (why ≡ Limit → ⊥) → FaultsWithCause (at k bytes).search since after why → IsFree (end_status why)
  end_spared since Fixed on limit cause = inl refl
  end_spared since Limit on limit cause = absurd (limit refl)
  end_spared since (Fault turn worker) on limit cause = absurd (all.no_judge_fault worker (rose_at-earlier worker before.faults since.faults after.faults on.faults cause.1))
  end_spared since NoMemory on limit cause = inr refl

  put_spared : (reduced : Outside) (line : List ℕ) (whole status : ℕ) → reduced.output_faults ≡ old.output_faults → IsFree whole → Puts reduced new line whole 10 status → IsSpared status
  put_spared reduced line whole status same free (said_whole put is) = inl (subst IsFree (sym is) free)
  put_spared reduced line whole status same free (said_cut n put rose is) = absurd (all.no_output_fault (subst (λ (n : ℕ). Rose n new.output_faults) same rose))
  put_spared reduced line whole status same free (said_starved n put is) = inl (inr is)

  concluded_spared : (reduced : Outside) (end : End) (old_size size status : ℕ) → reduced.output_faults ≡ old.output_faults → IsFree (end_status end.why)
      → Concludes k.saves k.name reduced new end old_size size status → IsSpared status
  concluded_spared reduced end old_size size status same free (unfinished unmoved is) = inl (inr is)
  concluded_spared reduced end old_size size status same free (unwritten ended wrong) = by_fault status (fails_status k.saves reduced new k.name status wrong.fails)
  concluded_spared reduced end old_size size status same free (unlogged written ended once wrong) = by_fault status (fails_status k.saves written new (log_name k.name) status wrong.fails)
  concluded_spared reduced end old_size size status same free (summed_up ended files calls said) = put_spared reduced _ (end_status end.why) status same free said

  pub ended_spared : (started : Outside) (since : Judging) (kept : Kept) (old_size status : ℕ) → started.output_faults ≡ old.output_faults → GoesOn before since
      → ((end : End) → IsReductionOn (at k bytes).search since after k.window k.limit kept end → end.why ≡ Limit → ⊥)
      → EndsKept (at k bytes) kept old_size started new since after has_failed status → IsSpared status
  ended_spared started since kept old_size status same on limit (cut_off end is_short reduction journal failed said) = by_disk status (put_status started new _ 12 status said)
  ended_spared started since kept old_size status same on limit (concluded end reduced size reduction journalled all sized ends) =
      concluded_spared reduced end old_size size status (journalled.output_faults ∙ same) (end_spared since end.why on (limit end reduction) reduction.cause) ends

  -- ---- what ends a run early

  refusal_spared : (saves : Bool) (read : Outside) (r : Refusal) (status : ℕ) → Causes (record (at k bytes) { saves = saves }) (given bytes) read new before after r → Refuses read new k.name r status → IsSpared status
  refusal_spared saves read refusal.NoFile status lacks said = absurd lacks
  refusal_spared saves read (refusal.Against reason) status cause said = absurd (cause.unlawful (subst k.law.Lawful (sym cause.has) all.lawful))
  refusal_spared saves read refusal.SaysNo status (b, answered) said =
      absurd (apart bytes all.yes (subst (λ (f : List ℕ). k.Tells bytes f false) answered.asked.has (answered.answered.told (all.all_told b))))
  refusal_spared saves read refusal.TestFailed status (b, answered, asks, rose) said = absurd (all.no_judge_fault 0 rose)
  refusal_spared saves read refusal.FileFault status rose said = by_fault status (put_status read new _ 9 status said)

  pub stops_spared : (saves : Bool) (read : Outside) (status : ℕ) → StopsEarly (record (at k bytes) { saves = saves }) bytes read new before after status → IsSpared status
  stops_spared saves read status (refused r cause asked files calls said) = refusal_spared saves read r status cause said
  stops_spared saves read status (wanting asked files told silent is) = inl (inr is)
  stops_spared saves read status (not_copied answered wrong) = by_fault status (fails_status saves read new (copy_name k.name) status wrong.fails)

  pub fault_spared : (from : Outside) (why : JournalFault) (status : ℕ) → IsDiskFault why has_failed → Stops from new k.name why status → IsSpared status
  fault_spared from journal_fault.NoMemory status cause stops = inl (inr stops.1)
  fault_spared from journal_fault.Disk status cause stops = by_disk status (put_status from new (fault_line k.name) 12 status stops)
  fault_spared from (journal_fault.Bad n) status cause stops = absurd cause
  fault_spared from (journal_fault.Differs n) status cause stops = absurd cause

  -- ---- a run that begins a journal

  first_in_time : (since : Judging) (kept : Kept) (size : ℕ) (end : End) → HasSize bytes size → IsFirst bytes kept → IsReductionOn (at k bytes).search since after k.window k.limit kept end → end.why ≡ Limit → ⊥
  first_in_time since kept size end sized is_first reduction is_limit =
      let s = (at k bytes).search in
      let (offer, offered, run) = by_limit (ReducesOnInRun s since after kept) (IsAsKept kept end) k.limit end end.why is_limit reduction.chain in
      ends_in_time k.Offers (AcceptsInRun s since after) (RejectsInRun s since after) (FailsInRun s since after) levels size k.limit has (λ f v it. it.smaller) bytes offer (outcome_of end Limit)
      (subst (λ (f : List ℕ). k.Offers f offer) is_first.file offered) sized (within_time size sized)
      (subst (λ (st : State). Reduces k.Offers (AcceptsInRun s since after) (RejectsInRun s since after) (FailsInRun s since after) k.limit st (outcome_of end Limit)) (from_start bytes kept offer is_first) run) refl

  starts_spared : (marks : Marks) (read : Outside) (status : ℕ) → read.output_faults ≡ old.output_faults → StartsOn (at k bytes) marks bytes read new before after has_failed status → IsSpared status
  starts_spared marks read status same (stopped stops) = stops_spared k.saves read status stops
  starts_spared marks read status same (unbegun copied size why begins journal cause stops) = fault_spared copied why status cause stops
  starts_spared marks read status same (begun copied started since size kept begins journalled rests is_first ends) =
      ended_spared started since kept size status (journalled.output_faults ∙ begins.copied.output_faults ∙ same) begins.answered.asked.goes_on
      (λ end. first_in_time since kept size end begins.sized is_first) ends

  pub first_spared : (marks : Marks) (from : Outside) (status : ℕ) → from.output_faults ≡ old.output_faults → ((other : List ℕ) → FileHas (files_told from.story) k.name other → other ≡ bytes)
      → (FileLacks (files_told from.story) k.name → ⊥) → RunsFirst k marks from new before after has_failed status → IsSpared status
  first_spared marks from status same there here (unopened (not_there lacks files calls said) quiet) = absurd (here lacks)
  first_spared marks from status same there here (unopened (ruled_out reason other is unlawful against files calls said) quiet) = absurd (unlawful (subst k.law.Lawful (sym (there other is)) all.lawful))
  first_spared marks from status same there here (unopened (unread rose files calls said) quiet) = by_fault status (put_status from new _ 9 status said)
  first_spared marks from status same there here (unopened (file_unopened files calls silent is) quiet) = inl (inr is)
  first_spared marks from status same there here (opened other read opens starts) =
      starts_spared marks read status (opens.same.output_faults ∙ same)
      (subst (λ (b : List ℕ). StartsOn (at k b) marks b read new before after has_failed status) (there other opens.has) starts)

  -- the file, told
  there_by : (told : Option Names) (files : Names) → told ≡ Some files → content_of files k.name ≡ Some bytes → (other : List ℕ) → FileHas told k.name other → other ≡ bytes
  there_by None files is has_it other it = cc
  there_by (Some these) files is has_it other it = let same : these ≡ files = cc is in cc (sym it ∙ ap (λ (f : Names). content_of f k.name) same ∙ has_it)

  here_by : (told : Option Names) (files : Names) → told ≡ Some files → content_of files k.name ≡ Some bytes → FileLacks told k.name → ⊥
  here_by None files is has_it lacks = cc
  here_by (Some these) files is has_it lacks = let same : these ≡ files = cc is in cc (sym lacks ∙ ap (λ (f : Names). content_of f k.name) same ∙ has_it)

  long_by : (told : Option Story) (s : Story) (len : ℕ) → told ≡ Some s → HasLength told len → length (seen s) ≡ len
  long_by None s len is length_is = cc
  long_by (Some this) s len is length_is = let same : this ≡ s = cc is in ap (λ (m : Story). length (seen m)) (sym same) ∙ length_is

  journal_spared : (marks : Marks) (status : ℕ) → IsUnbegun k.name bytes old.story → RunsJournal k marks old new before after has_failed status → IsSpared status
  journal_spared marks status fresh_file (unstarted why cause same quiet stops) = fault_spared old why status cause stops
  journal_spared marks status fresh_file (found len length_is not_0 same quiet said) = absurd (not_0 (sym (long_by old.story fresh_file.story len fresh_file.is length_is) ∙ fresh_file.empty))
  journal_spared marks status fresh_file (fresh started empty journalled none runs) =
      let files_are : files_told started.story ≡ Some (files_now fresh_file.story) = journal_leaves _ old.story started.story journalled.journal ∙ ap files_told fresh_file.is in
      first_spared marks started status journalled.output_faults (there_by (files_told started.story) (files_now fresh_file.story) files_are fresh_file.has)
      (here_by (files_told started.story) (files_now fresh_file.story) files_are fresh_file.has) runs

  -- neither the files nor the disk failed
  pub spared_free : (status : ℕ) → (status ≡ 9 → ⊥) → (status ≡ 12 → ⊥) → IsSpared status → IsFree status
  spared_free status not_9 not_12 (inl free) = free
  spared_free status not_9 not_12 (inr (inl nine)) = absurd (not_9 nine)
  spared_free status not_9 not_12 (inr (inr twelve)) = absurd (not_12 twelve)

  pub journal_free : (marks : Marks) (status : ℕ) → k.saves ≡ true → IsUnbegun k.name bytes old.story → RunsJournal k marks old new before after has_failed status → IsFree status
  journal_free marks status saves fresh_file runs =
      let promises = kept_promises k marks old new before after has_failed status saves (inl runs) in
      spared_free status (λ nine. all.no_file_fault (promises.fault_last nine)) (λ twelve. let failed = (promises.failed twelve).0 in let fine = all.no_disk_fault in cc (sym failed ∙ fine))
      (journal_spared marks status fresh_file runs)
