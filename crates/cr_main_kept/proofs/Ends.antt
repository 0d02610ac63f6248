-- What the end of a kept reduction has.
use Rattle.std.proofs.Common.{◌⊎◌, inl, inr, ℕ, Option, Some, sym, subst}
use Rattle.cr_reduce.specs.Bench.{Judging}
use Rattle.cr_reduce.specs.declared.end.End.{End}
use Rattle.cr_reduce.specs.declared.end.Kept.{Kept}
use Rattle.cr_reduce.specs.declared.end.Why.{Why}
use Rattle.cr_reduce.specs.declared.end.Why.TheVariants.{Fixed, Limit, Fault, NoMemory}
use Rattle.cr_reduce.specs.Ends.{EndsAt, outcome_of}
use Rattle.cr_reduce.specs.Keeping.{EndsOnInRun, IsAsKept, ReducesOnInRun, goes_on_at}
use Rattle.cr_reduce.specs.Reduction.{Outcome}
use Rattle.cr_reduce.specs.Search.{AcceptsInRun, FailsInRun, RejectsInRun, Search}
use Rattle.cr_main_task.proofs.Outcomes.{InPasses, Sized, out_passes, out_sized}

-- the end is what the reduction comes to under some limit, or nothing was done
some_end : (reduction : Option ℕ → Outcome → Type 0) (untouched : Type 0) (limit : Option ℕ) (end : End) (why : Why) → EndsAt reduction untouched limit end why
    → untouched ⊎ ((most : Option ℕ) × (other : Why) × reduction most (outcome_of end other))
some_end reduction untouched limit end Fixed it = inr (limit, Fixed, it)
some_end reduction untouched limit end Limit it = inr (limit, Limit, it)
some_end reduction untouched limit end (Fault turn worker) it = inr (limit, Fault turn worker, it)
some_end reduction untouched limit end NoMemory it = elim it.1 [ inl same ↦ inl same | inr at ↦ inr (Some end.turns, at.0, at.1) ]

module _ (s : Search) (before now : Judging) (limit : Option ℕ) (kept : Kept) (end : End) (chain : EndsOnInRun s before now limit kept end) where
  pub kept_sized : Sized kept.file.items → Sized end.file.items
  kept_sized sized = elim (some_end (ReducesOnInRun s before now kept) (IsAsKept kept end) limit end end.why chain) [
    | inl as_kept ↦ subst Sized (sym as_kept.same) sized
    | inr some ↦ out_sized s.Offers (AcceptsInRun s before now) (RejectsInRun s before now) (FailsInRun s before now) some.0 (goes_on_at kept some.2.0) (outcome_of end some.1) sized some.2.2
  ]

  pub kept_passes : InPasses kept.accepted.items → InPasses end.accepted.items
  kept_passes known = elim (some_end (ReducesOnInRun s before now kept) (IsAsKept kept end) limit end end.why chain) [
    | inl as_kept ↦ subst InPasses (sym as_kept.accepted) known
    | inr some ↦ out_passes s.Offers (AcceptsInRun s before now) (RejectsInRun s before now) (FailsInRun s before now) some.0 (goes_on_at kept some.2.0) (outcome_of end some.1) known some.2.2
  ]
