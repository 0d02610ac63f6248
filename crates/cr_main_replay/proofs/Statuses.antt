-- What stands at 0 and 10.
use Rattle.std.proofs.Common.{◌≡◌, ◌⊎◌, inl, inr, ℕ, Option, refl, arith}
use Rattle.cr_outside.specs.Files.{Names}
use Rattle.cr_main_task.specs.Messages.{copy_name}
use Rattle.cr_main_task.specs.Outside.{Outside}
use Rattle.cr_main_task.specs.declared.messages.Refusal.TheVariants as refusal
use Rattle.cr_main_task.proofs.Statuses.{put_status, refused_is, starved_is}
use Rattle.cr_main_replay.specs.Replay.{Answers, HasTexts, IsReplayed, Reading, Replaying, RunsReplay, StopsAt, Texts, breaks_line}
use Rattle.cr_main_replay.specs.Replay.Answers.{breaks, leads, ruled_out, wants}
use Rattle.cr_main_replay.specs.Replay.RunsReplay.{answers, unread}
use Rattle.cr_main_replay.specs.Replay.StopsAt.{no_memory, not_there, unreadable}

of_ends : (status : ℕ) → (status ≡ 0) ⊎ (status ≡ 10) → (status ≡ 0) ⊎ (status ≡ 7) ⊎ (status ≡ 10)
of_ends status (inl zero) = inl zero
of_ends status (inr ten) = inr (inr ten)

stops_is : (one : Reading) (old new : Outside) (status : ℕ) → StopsAt one old new status → (status ≡ 0) ⊎ (status ≡ 10) → ⊥
stops_is one old new status (not_there lacks files calls said) ends = refused_is old new one.name refusal.NoFile status said (of_ends status ends)
stops_is one old new status (unreadable rose files calls said) ends = refused_is old new one.name refusal.FileFault status said (of_ends status ends)
stops_is one old new status (no_memory files calls silent is) ends = starved_is status is (of_ends status ends)

breaks_is : (n status : ℕ) → (status ≡ n) ⊎ (status ≡ 11) → n ≡ 14 → (status ≡ 0) ⊎ (status ≡ 10) → ⊥
breaks_is n status (inl is) fourteen (inl zero) = absurd (omega (arith, is, fourteen, zero))
breaks_is n status (inl is) fourteen (inr ten) = absurd (omega (arith, is, fourteen, ten))
breaks_is n status (inr is) fourteen (inl zero) = absurd (omega (arith, is, zero))
breaks_is n status (inr is) fourteen (inr ten) = absurd (omega (arith, is, ten))

answered : (r : Replaying) (files : Option Names) (t : Texts) (old new : Outside) (status : ℕ) → HasTexts r files t
    → Answers r t old.output new.output old.output_faults new.output_faults status → (status ≡ 0) ⊎ (status ≡ 10) → IsReplayed r files
answered r files t old new status has (ruled_out reason unlawful against said) ends =
    absurd (refused_is old new (copy_name r.file) (refusal.Against reason) status said (of_ends status ends))
answered r files t old new status has (breaks n lawful fails said) ends = absurd (breaks_is 14 status (put_status old new (breaks_line n) 14 status said) refl ends)
answered r files t old new status has (leads log lawful spells led said) ends = record { t = t; log = log; has = has; lawful = lawful; spells = spells; leads = led }
answered r files t old new status has (wants silent is) ends = absurd (starved_is status is (of_ends status ends))

-- the log leads from the copy to the file
pub replayed : (r : Replaying) (old new : Outside) (status : ℕ) → RunsReplay r old new status → (status ≡ 0) ⊎ (status ≡ 10) → IsReplayed r old.files
replayed r old new status (unread it files) ends = absurd (stops_is it.one it.read new status it.stops ends)
replayed r old new status (answers t read has_read has calls files it) ends = answered r old.files t read new status has it ends
