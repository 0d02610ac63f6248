-- What calls add to a story.
use Rattle.std.proofs.Common.{◌≡◌, ◌⊎◌, inl, inr, ℕ, Bool, true, false, List, [], ◌∷◌, ◌++◌, append_assoc, Option, Some, None, Result, Ok, Err, refl, sym, ap, subst, ◌∙◌}
use Rattle.cr_outside.specs.Calls.{TellsRead, TellsWrite, Writes}
use Rattle.cr_outside.specs.Files.{put_told}
use Rattle.cr_outside.specs.Story.{EndsWithFault, Event, GoesOn, IsFault, Story, files_told, with_event}
use Rattle.cr_outside.specs.Story.Event.{Read, Wrote}
use Rattle.cr_outside.specs.declared.files.FileFault.{FileFault}
use Rattle.cr_outside.specs.declared.files.FileFault.TheVariants as fault
use Rattle.cr_outside.specs.declared.files.ReadAnswer.{ReadAnswer}
use Rattle.cr_outside.specs.declared.files.ReadAnswer.TheVariants.{Bytes, Absent, Failed, NoMemory}
use Rattle.cr_outside.specs.declared.story.Outcome.{Outcome}
use Rattle.cr_outside.specs.declared.story.Outcome.TheVariants as outcome

-- a read leaves the files, a write puts its pair or leaves them
after_read : (told : Option Story) (name : List ℕ) (most : ℕ) (end : Outcome) → files_told (with_event (Read name most end) told) ≡ files_told told
after_read None name most end = refl
after_read (Some s) name most end = refl

after_write : (told : Option Story) (name bytes : List ℕ) (end : Outcome) → files_told (with_event (Wrote name bytes end true) told) ≡ put_told name bytes (files_told told)
after_write None name bytes end = refl
after_write (Some s) name bytes end = refl

after_lost : (told : Option Story) (name bytes : List ℕ) (end : Outcome) → files_told (with_event (Wrote name bytes end false) told) ≡ files_told told
after_lost None name bytes end = refl
after_lost (Some s) name bytes end = refl

pub read_keeps : (old new : Option Story) (name : List ℕ) (most : ℕ) (answer : ReadAnswer) → TellsRead old new name most answer → files_told new ≡ files_told old
read_keeps old new name most (Bytes bytes) tells = ap files_told tells ∙ after_read old name most outcome.Done
read_keeps old new name most Absent tells = ap files_told tells ∙ after_read old name most outcome.Absent
read_keeps old new name most Failed tells = ap files_told tells ∙ after_read old name most outcome.Failed
read_keeps old new name most NoMemory (inl same) = ap files_told same
read_keeps old new name most NoMemory (inr tells) = ap files_told tells ∙ after_read old name most outcome.NoMemory

refused_leaves : (old new : Option Story) (name bytes : List ℕ) (end : Outcome) (is_put : Bool) → new ≡ with_event (Wrote name bytes end is_put) old
    → (files_told new ≡ files_told old) ⊎ (files_told new ≡ put_told name bytes (files_told old))
refused_leaves old new name bytes end true tells = inr (ap files_told tells ∙ after_write old name bytes end)
refused_leaves old new name bytes end false tells = inl (ap files_told tells ∙ after_lost old name bytes end)

pub write_leaves : (old new : Option Story) (name bytes : List ℕ) (result : Result (Unit {0}) FileFault) → TellsWrite old new name bytes result
    → Writes (files_told old) (files_told new) name bytes result
write_leaves old new name bytes (Ok done) tells = ap files_told tells ∙ after_write old name bytes outcome.Done
write_leaves old new name bytes (Err fault.Failed) tells = refused_leaves old new name bytes outcome.Failed tells.0 tells.1
write_leaves old new name bytes (Err fault.NoMemory) (inl same) = inl (ap files_told same)
write_leaves old new name bytes (Err fault.NoMemory) (inr tells) = refused_leaves old new name bytes outcome.NoMemory tells.0 tells.1

-- how stories go on
pub goes_nowhere : (told : Option Story) → GoesOn told told
goes_nowhere None = tt
goes_nowhere (Some s) = ([], refl, refl, refl)

pub goes_event : (told : Option Story) (event : Event) → GoesOn told (with_event event told)
goes_event None event = tt
goes_event (Some s) event = (event ∷ [], refl, refl, refl)

pub goes_further : (old mid new : Option Story) → GoesOn old mid → GoesOn mid new → GoesOn old new
goes_further None None None first then = tt
goes_further None None (Some c) first then = absurd then
goes_further None (Some b) new first then = absurd first
goes_further (Some a) None new first then = absurd first
goes_further (Some a) (Some b) None first then = absurd then
goes_further (Some a) (Some b) (Some c) first then =
    (then.0 ++ first.0, then.1 ∙ first.1, then.2 ∙ first.2, then.3 ∙ ap (λ events. then.0 ++ events) first.3 ∙ sym (append_assoc then.0 first.0 a.events))

-- a call that failed, after whatever else
pub fault_last : (old mid new : Option Story) (event : Event) → GoesOn old mid → IsFault event → new ≡ with_event event mid → EndsWithFault old new
fault_last old mid new event so_far failed tells = subst (EndsWithFault old) (sym tells) (fault_after old mid event so_far failed)
  where
    fault_after : (old mid : Option Story) (event : Event) → GoesOn old mid → IsFault event → EndsWithFault old (with_event event mid)
    fault_after None None event so_far failed = tt
    fault_after None (Some b) event so_far failed = absurd so_far
    fault_after (Some a) None event so_far failed = absurd so_far
    fault_after (Some a) (Some b) event so_far failed = (event, so_far.0, failed, ap (λ events. event ∷ events) so_far.3)
