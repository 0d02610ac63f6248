-- How a run ends once it has reduced, put together from what its calls did.
use Rattle.std.proofs.Common.{◌≡◌, ◌≢◌, ℕ, Bool, List, ap, subst, ◌∙◌}
use Rattle.cr_log.specs.Texts.{log_text_of, summary_text_of}
use Rattle.cr_reduce.specs.declared.end.End.{End}
use Rattle.cr_reduce.specs.declared.end.Why.TheVariants.{NoMemory}
use Rattle.cr_reduce.specs.Sizes.{HasSize}
use Rattle.cr_main_task.specs.Messages.{log_name}
use Rattle.cr_main_task.specs.Outside.{IsSaved, Outside, SaveFails, Says, saved, story_saved}
use Rattle.cr_main_task.specs.Run.{Concludes, end_status}
use Rattle.cr_main_task.specs.Run.Concludes.{unwritten, unlogged, summed_up}

-- it ends with this status, and the result has a size
abbrev pub EndsSo : Bool → List ℕ → Outside → Outside → End → ℕ → ℕ → Type 0
EndsSo saves name old new end old_size status = (n : ℕ) × HasSize end.file.items n × Concludes saves name old new end old_size n status

module _ (saves : Bool) (name : List ℕ) (end : End) (old_size n : ℕ) (has : HasSize end.file.items n) (ended : end.why ≢ NoMemory) where
  pub ends_unwritten : (old new : Outside) (bytes : List ℕ) (status : ℕ) → bytes ≡ end.file.items → SaveFails saves old new name bytes status → EndsSo saves name old new end old_size status
  ends_unwritten old new bytes status same fails = (n, has, unwritten ended (subst (λ b. SaveFails saves old new name b status) same fails))

  pub ends_unlogged : (old written new : Outside) (bytes log : List ℕ) (status : ℕ) → bytes ≡ end.file.items → log ≡ log_text_of end n → IsSaved saves old written name bytes
      → SaveFails saves written new (log_name name) log status → EndsSo saves name old new end old_size status
  ends_unlogged old written new bytes log status same logged first fails =
      (n, has, unlogged written ended (subst (λ b. IsSaved saves old written name b) same first) (subst (λ b. SaveFails saves written new (log_name name) b status) logged fails))

  pub ends_summed : (old written logged new : Outside) (bytes log summary : List ℕ) (whole status : ℕ) → bytes ≡ end.file.items → log ≡ log_text_of end n → summary ≡ summary_text_of name old_size n end
      → whole ≡ end_status end.why → IsSaved saves old written name bytes → IsSaved saves written logged (log_name name) log → new.files ≡ logged.files → new.story ≡ logged.story
      → Says logged.output new.output logged.output_faults new.output_faults summary whole 10 status → EndsSo saves name old new end old_size status
  ends_summed old written logged new bytes log summary whole status same is_log summed is_status first second kept told said = (
    n,
    has,
    summed_up ended
        (kept ∙ second.files ∙ ap (λ l. saved saves (log_name name) l written.files) is_log ∙ ap (λ m. saved saves (log_name name) (log_text_of end n) m) (first.files ∙ ap (λ b. saved saves name b old.files) same))
        (told ∙ second.story ∙ ap (λ l. story_saved saves (log_name name) l written.story) is_log ∙ ap (λ s. story_saved saves (log_name name) (log_text_of end n) s) (first.story ∙ ap (λ b. story_saved saves name b old.story) same))
        (subst (λ w. Says old.output new.output old.output_faults new.output_faults (summary_text_of name old_size n end) w 10 status) is_status
        (subst (λ s. Says old.output new.output old.output_faults new.output_faults s whole 10 status) summed
        (subst (λ o. Says o new.output old.output_faults new.output_faults summary whole 10 status) (second.output ∙ first.output)
        (subst (λ f. Says logged.output new.output f new.output_faults summary whole 10 status) (second.output_faults ∙ first.output_faults) said)))),
  )
