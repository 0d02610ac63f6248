-- What is answered to the bytes read is answered to the files' own: where more bytes were read than a file may have, the file
-- has more too, and is as good as what was read.
use Rattle.std.proofs.Common.{◌≡◌, ◌⊎◌, inl, inr, ◌<◌, ℕ, List, [], ◌∷◌, length, Option, Some, None, refl, sym, subst, ◌∙◌, arith}
use Rattle.std.specs.Global.{Vec}
use Rattle.cr_log.specs.declared.reader.Log.{Log}
use Rattle.cr_outside.specs.Files.{Names, Reads}
use Rattle.cr_outside.specs.declared.files.ReadAnswer.TheVariants.{Bytes}
use Rattle.cr_reduce.specs.Sizes.{HasSize}
use Rattle.cr_replay.specs.Chains.{Chain}
use Rattle.cr_replay.specs.Checks.{FailsAt, IsEnd, Leads}
use Rattle.cr_replay.specs.Checks.FailsAt.{a_row, the_end}
use Rattle.cr_main_task.specs.Messages.{copy_name}
use Rattle.cr_main_task.specs.Task.{FileHas, IsOfPrograms}
use Rattle.cr_main_task.proofs.Files.{longer_there, read_whole, sides}
use Rattle.cr_main_task.specs.Outside.{Outside}
use Rattle.cr_main_replay.specs.Replay.{Answers, FailsFirst, FileBegins, HasRead, HasTexts, Replaying, RunsReplay, Texts, Unread, readings_of, texts_of}
use Rattle.cr_main_replay.specs.Replay.RunsReplay.{answers, unread}
use Rattle.cr_main_replay.specs.Replay.StopsAt.{no_memory}
use Rattle.cr_main_replay.proofs.Readings.{unread_files, unread_first}
use Rattle.cr_main_replay.specs.Replay.Answers.{breaks, leads, ruled_out, wants}
use Rattle.cr_main_replay.specs.Replay.FailsFirst.{leads_nowhere, out_of_form}
use Rattle.cr_main_replay.specs.declared.reading.Texts.{Texts as Taken}

reads_of : (told : Option Names) (name : List ℕ) (v : Vec ℕ) → FileBegins told name 1048577 v.items → Reads told name 1048577 (Bytes v)
reads_of None name v begins = tt
reads_of (Some files) name v begins = begins

-- the file's own bytes, and how they are to those that were read
pub record Own (told : Option Names) (name read : List ℕ) : Type 0 where
  pub whole : List ℕ
  pub has : FileHas told name whole
  pub is : (whole ≡ read) ⊎ ((1048576 < length read) × (1048576 < length whole))

pub own_bytes : (told : Option Names) (name : List ℕ) (v : Vec ℕ) → FileBegins told name 1048577 v.items → Own told name v.items
own_bytes told name v begins = elim (sides (length v.items)) [
  | inl short ↦ record { whole = v.items; has = read_whole told name v (reads_of told name v begins) short; is = inl refl }
  | inr long ↦ let far = longer_there told name v (reads_of told name v begins) long in record { whole = far.0; has = far.1; is = inr (long, far.2) }
]

not_long : (file : List ℕ) (size : ℕ) → HasSize file size → 1048576 < length file → ⊥
not_long file size sized long = absurd (omega (arith, sized.tokenizes.short, long))

module _ (c : Chain) (from : List ℕ) (log : Log) (read whole : List ℕ) where
  no_end : 1048576 < length whole → (last : List ℕ) (turns : ℕ) → IsEnd log whole last turns → ⊥
  no_end long last turns end = not_long last log.size end.size (subst (λ f. 1048576 < length f) (sym end.is) long)

  fails_too : (n : ℕ) → (whole ≡ read) ⊎ ((1048576 < length read) × (1048576 < length whole)) → FailsAt c from log read n → FailsAt c from log whole n
  fails_too n (inl same) fails = subst (λ f. FailsAt c from log f n) (sym same) fails
  fails_too n (inr long) (a_row row) = a_row row
  fails_too n (inr long) (the_end last turns follows not_end is) = the_end last turns follows (no_end long.1 last turns) is

  leads_too : (whole ≡ read) ⊎ ((1048576 < length read) × (1048576 < length whole)) → Leads c from log read → Leads c from log whole
  leads_too (inl same) it = subst (Leads c from log) (sym same) it
  leads_too (inr long) it = absurd (not_long it.last log.size it.ends.size (subst (λ f. 1048576 < length f) (sym it.ends.is) long.0))

module _ (r : Replaying) (kept : IsOfPrograms r.chain.Lawful r.Against) (told : Option Names) (t : Taken)
    (copy_begins : FileBegins told (copy_name r.file) 1048577 t.copy.items) (log_begins : FileBegins told r.log 1073741824 t.log.items)
    (file_begins : FileBegins told r.file 1048577 t.file.items) where
  abbrev own_copy : Own told (copy_name r.file) t.copy.items
  own_copy = own_bytes told (copy_name r.file) t.copy copy_begins

  abbrev own_file : Own told r.file t.file.items
  own_file = own_bytes told r.file t.file file_begins

  abbrev pub own : Texts
  own = record { copy = own_copy.whole; log = t.log.items; file = own_file.whole }

  pub has_own : HasTexts r told own
  has_own = record { copy = own_copy.has; log = log_begins; file = own_file.has }

  same_copy : r.chain.Lawful t.copy.items → own_copy.whole ≡ t.copy.items
  same_copy lawful = elim own_copy.is [
    | inl same ↦ same
    | inr long ↦ absurd (omega (arith, (kept.tokenizes t.copy.items lawful).tokenizes.short, long.0))
  ]

  lawful_own : r.chain.Lawful t.copy.items → r.chain.Lawful own_copy.whole
  lawful_own lawful = subst r.chain.Lawful (sym (same_copy lawful)) lawful

  fails_own : (n : ℕ) → r.chain.Lawful t.copy.items → FailsFirst r (texts_of t) n → FailsFirst r own n
  fails_own n lawful (out_of_form bad) = out_of_form bad
  fails_own n lawful (leads_nowhere log spells fails) =
      leads_nowhere log spells (subst (λ f. FailsAt r.chain f log own_file.whole n) (sym (same_copy lawful)) (fails_too r.chain t.copy.items log t.file.items own_file.whole n own_file.is fails))

  pub answers_own : (old new : Option (List ℕ)) (faults faults_now status : ℕ) → Answers r (texts_of t) old new faults faults_now status → Answers r own old new faults faults_now status
  answers_own old new faults faults_now status (ruled_out reason unlawful against said) = elim own_copy.is [
    | inl same ↦ ruled_out reason (λ lawful. unlawful (subst r.chain.Lawful same lawful)) (subst (λ f. r.Against f reason) (sym same) against) said
    | inr long ↦ ruled_out reason (λ lawful. absurd (omega (arith, (kept.tokenizes own_copy.whole lawful).tokenizes.short, long.1)))
        (kept.too_long t.copy.items own_copy.whole reason long.0 long.1 against) said
  ]
  answers_own old new faults faults_now status (breaks n lawful fails said) = breaks n (lawful_own lawful) (fails_own n lawful fails) said
  answers_own old new faults faults_now status (leads log lawful spells led said) =
      leads log (lawful_own lawful) spells (subst (λ f. Leads r.chain f log own_file.whole) (sym (same_copy lawful)) (leads_too r.chain t.copy.items log t.file.items own_file.whole own_file.is led)) said
  answers_own old new faults faults_now status (wants silent is) = wants silent is

-- ---- a replay, from its parts

pub starves : (r : Replaying) (old : Outside) → RunsReplay r old old 11
starves r old =
    unread (unread_first (record { name = copy_name r.file; most = 1048577 }) (record { name = r.log; most = 1073741824 } ∷ record { name = r.file; most = 1048577 } ∷ []) old old 11
    (no_memory refl (inl refl) refl refl)) refl

pub runs_answered : (r : Replaying) → IsOfPrograms r.chain.Lawful r.Against → (copy : List ℕ) → copy ≡ copy_name r.file → (t : Taken) (old read new : Outside) (status : ℕ)
    → HasRead (readings_of copy r.log r.file) old read → FileBegins old.files copy 1048577 t.copy.items → FileBegins old.files r.log 1073741824 t.log.items
    → FileBegins old.files r.file 1048577 t.file.items → new.story ≡ read.story → new.files ≡ read.files
    → Answers r (texts_of t) read.output new.output read.output_faults new.output_faults status → RunsReplay r old new status
runs_answered r kept copy named t old read new status has copy_begins log_begins file_begins calls files it =
    let begins = subst (λ n. FileBegins old.files n 1048577 t.copy.items) named copy_begins in
    answers (own r kept old.files t begins log_begins file_begins) read (subst (λ n. HasRead (readings_of n r.log r.file) old read) named has)
    (has_own r kept old.files t begins log_begins file_begins) calls (files ∙ has.same.files)
    (answers_own r kept old.files t begins log_begins file_begins read.output new.output read.output_faults new.output_faults status it)
