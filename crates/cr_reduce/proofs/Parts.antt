-- A part of a run, seen from the run's beginning.
use Rattle.std.proofs.Common.{List, ℕ}
use Rattle.cr_outside.specs.declared.judge.Answer.{Answer}
use Rattle.cr_outside.specs.declared.judge.Answer.TheVariants.{Yes, No, Failed, NoMemory}
use Rattle.cr_outside.specs.Question.{AnswersAsTold}
use Rattle.cr_cursor.specs.Variants.{Offer}
use Rattle.cr_pool.specs.declared.verdict.Verdict.{Verdict}
use Rattle.cr_pool.specs.declared.verdict.Verdict.TheVariants as verdict
use Rattle.cr_pool.specs.Kept.{Kept, KeptAnswer}
use Rattle.cr_pool.specs.Trials.IsRejected.{not_smaller, unlawful, answered_no}
use Rattle.cr_reduce.specs.Bench.{GoesOn, Judging}
use Rattle.cr_reduce.specs.Reduction.{AllRejected}
use Rattle.cr_reduce.specs.Search.{AcceptsInRun, AnsweredInRun, AreMade, AreRightBy, IsMade, RejectsInRun, Search}
use Rattle.cr_reduce.specs.Search.AnsweredInRun.{given, was_kept}
use Rattle.cr_reduce.proofs.Runs.{answer_in_run-later, answer_in_run-earlier, goes_on-refl, goes_on-trans}

-- the search that begins with these verdicts
abbrev pub with_kept : Search → List Kept → Search
with_kept s kept = record s { kept = kept }

-- A part of a run: it comes after the run's beginning, and the verdicts that are kept when it begins were made since then.
pub record IsPart (s : Search) (kept : List Kept) (before middle now : Judging) : Type 0 where
  pub earlier : GoesOn before middle
  pub on : GoesOn middle now
  pub made : AreMade s before middle kept

pub answered_told : (s : Search) (before now : Judging) (variant : List ℕ) (answer : Answer) → AnsweredInRun s before now variant answer → AnswersAsTold s.asks (s.Tells variant) answer
answered_told s before now variant answer (given it) = it.told
answered_told s before now variant answer (was_kept kept told) = told

-- An answer stays given.
answered-later : (s : Search) (before now later : Judging) (variant : List ℕ) (answer : Answer) → AnsweredInRun s before now variant answer → GoesOn now later
    → AnsweredInRun s before later variant answer
answered-later s before now later variant answer (given it) on = given (answer_in_run-later s.asks s.Tells s.name before.calls now.calls later.calls variant answer it on.calls)
answered-later s before now later variant answer (was_kept kept told) on = was_kept kept told

-- What is kept at the beginning was made.
pub made_before : (s : Search) (now : Judging) → AreRightBy s s.kept → AreMade s now now s.kept
made_before s now right file verdict.Unlawful keeps = right file verdict.Unlawful keeps
made_before s now right file verdict.Yes keeps = let it = right file verdict.Yes keeps in (it.0, was_kept keeps it.1)
made_before s now right file verdict.No keeps = let it = right file verdict.No keeps in (it.0, was_kept keeps it.1)

-- What was made is right.
pub right_by_made : (s : Search) (before now : Judging) (kept : List Kept) → AreMade s before now kept → AreRightBy s kept
right_by_made s before now kept made file verdict.Unlawful keeps = made file verdict.Unlawful keeps
right_by_made s before now kept made file verdict.Yes keeps = let it = made file verdict.Yes keeps in (it.0, answered_told s before now file Yes it.1)
right_by_made s before now kept made file verdict.No keeps = let it = made file verdict.No keeps in (it.0, answered_told s before now file No it.1)

module _ (s : Search) (kept : List Kept) (before middle now : Judging) (part : IsPart s kept before middle now) where
  answered_by_kept : (variant : List ℕ) (answer : Answer) → KeptAnswer kept variant answer → AnsweredInRun s before middle variant answer
  answered_by_kept variant Yes keeps = (part.made variant verdict.Yes keeps).1
  answered_by_kept variant No keeps = (part.made variant verdict.No keeps).1
  answered_by_kept variant Failed keeps = absurd keeps
  answered_by_kept variant NoMemory keeps = absurd keeps

  answered_within : (after : Judging) (variant : List ℕ) (answer : Answer) → GoesOn now after → AnsweredInRun (with_kept s kept) middle now variant answer → AnsweredInRun s before after variant answer
  answered_within after variant answer later (given it) =
      given (answer_in_run-earlier s.asks s.Tells s.name before.calls middle.calls after.calls variant answer part.earlier.calls
      (answer_in_run-later s.asks s.Tells s.name middle.calls now.calls after.calls variant answer it later.calls))
  answered_within after variant answer later (was_kept keeps told) =
      answered-later s before middle after variant answer (answered_by_kept variant answer keeps) (goes_on-trans middle now after part.on later)

  pub accepts_within : (after : Judging) (file variant : List ℕ) → GoesOn now after → AcceptsInRun (with_kept s kept) middle now file variant → AcceptsInRun s before after file variant
  accepts_within after file variant later it = record { smaller = it.smaller; lawful = it.lawful; answered = answered_within after variant Yes later it.answered }

  rejects_within : (after : Judging) (file variant : List ℕ) → GoesOn now after → RejectsInRun (with_kept s kept) middle now file variant → RejectsInRun s before after file variant
  rejects_within after file variant later (not_smaller big) = not_smaller big
  rejects_within after file variant later (unlawful against) = unlawful against
  rejects_within after file variant later (answered_no answer) = answered_no (answered_within after variant No later answer)

  pub all_within : (after : Judging) (o : Offer) (file : List ℕ) (from to : ℕ) → GoesOn now after → AllRejected o (RejectsInRun (with_kept s kept) middle now) file from to
      → AllRejected o (RejectsInRun s before after) file from to
  all_within after o file from to later all i at low high there = rejects_within after file (o.bytes at) later (all i at low high there)

  is_made_within : (file : List ℕ) (said : Verdict) → IsMade (with_kept s kept) middle now file said → IsMade s before now file said
  is_made_within file verdict.Unlawful it = it
  is_made_within file verdict.Yes it = (it.0, answered_within now file Yes (goes_on-refl now) it.1)
  is_made_within file verdict.No it = (it.0, answered_within now file No (goes_on-refl now) it.1)

  -- What the part made was made in the run.
  pub made_within : (new : List Kept) → AreMade (with_kept s kept) middle now new → AreMade s before now new
  made_within new made file said keeps = is_made_within file said (made file said keeps)
