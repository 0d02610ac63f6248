-- What a run comes to since the file was read, it comes to since before.
use Rattle.std.proofs.Common.{ℕ, List, subst, ap, ◌∙◌}
use Rattle.cr_log.specs.Texts.{summary_text_of}
use Rattle.cr_outside.specs.Sink.{appended}
use Rattle.cr_reduce.specs.Bench.{Judging}
use Rattle.cr_main_task.specs.Headline.{HasReduced, three_files}
use Rattle.cr_main_task.specs.Messages.{refusal_line, refusal_status}
use Rattle.cr_main_task.specs.Outside.{IsUnchanged, Outside, Refuses, Says}
use Rattle.cr_main_task.specs.Run.{Claiming}
use Rattle.cr_main_task.specs.Task.{Task, Text}
use Rattle.cr_main_task.specs.declared.messages.Refusal.{Refusal}

module _ (old read new : Outside) (same : IsUnchanged old read) where
  pub refuses_earlier : (name : List ℕ) (r : Refusal) (status : ℕ) → Refuses read new name r status → Refuses old new name r status
  refuses_earlier name r status said =
      subst (λ o. Says o new.output old.output_faults new.output_faults (refusal_line name r) (refusal_status r) (refusal_status r) status) same.output
      (subst (λ f. Says read.output new.output f new.output_faults (refusal_line name r) (refusal_status r) (refusal_status r) status) same.output_faults said)
