-- A file that was read whole or to one byte more, and ruled on.
use Rattle.std.proofs.Common.{◌≡◌, inl, inr, ℕ, List, length, Option, ◌∙◌, arith}
use Rattle.std.specs.Global.{Vec}
use Rattle.cr_cursor.specs.declared.law.Reason.{Reason}
use Rattle.cr_outside.specs.Files.{Names, Reads}
use Rattle.cr_outside.specs.declared.files.ReadAnswer.TheVariants.{Bytes}
use Rattle.cr_outside.specs.declared.story.Outcome.TheVariants.{Done}
use Rattle.cr_main_task.specs.Opening.{IsOpened, Ruled, Unopened}
use Rattle.cr_main_task.specs.Opening.Unopened.{ruled_out}
use Rattle.cr_main_task.specs.Outside.{IsUnchanged, Outside, Refuses}
use Rattle.cr_main_task.specs.Task.{IsOfPrograms, IsRead, stored}
use Rattle.cr_main_task.specs.declared.messages.Refusal.TheVariants as refusal
use Rattle.cr_main_task.proofs.Earlier.{refuses_earlier}
use Rattle.cr_main_task.proofs.Files.{longer_there, read_whole, sides}

module _ (law : Ruled) (kept : IsOfPrograms law.Lawful law.Against) (name : List ℕ) (told : Option Names) (v : Vec ℕ) (reads : Reads told name 1048577 (Bytes v)) where
  pub opened_there : (old new : Outside) → law.Lawful v.items → IsUnchanged old new → IsRead name Done old.story new.story → IsOpened law (stored told name) old new v.items
  opened_there old new lawful same calls = record { calls = calls; has = read_whole told name v reads (kept.tokenizes v.items lawful).tokenizes.short; lawful = lawful; same = same }

  -- what was read breaks the law, and so does the file, for the same reason
  pub unopened_there : (old read new : Outside) (reason : Reason) (status : ℕ) → (law.Lawful v.items → ⊥) → law.Against v.items reason → IsUnchanged old read → new.files ≡ read.files
      → IsRead name Done old.story new.story → Refuses read new name (refusal.Against reason) status → Unopened law name (stored told name) old new status
  unopened_there old read new reason status unlawful against same files calls said =
      let so = refuses_earlier old read new same name (refusal.Against reason) status said in
      elim (sides (length v.items)) [
        | inl short ↦ ruled_out reason v.items (read_whole told name v reads short) unlawful against (files ∙ same.files) calls so
        | inr long ↦ let far = longer_there told name v reads long in
            ruled_out reason far.0 far.1 (λ lawful. absurd (omega (arith, (kept.tokenizes far.0 lawful).tokenizes.short, far.2))) (kept.too_long v.items far.0 reason long far.2 against) (files ∙ same.files) calls so
      ]
