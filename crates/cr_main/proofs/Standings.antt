-- What every end of a reduction by standing workers has.
use Rattle.std.proofs.Common.{inl, inr, ℕ, List, [], Option, arith, sym, subst}
use Rattle.cr_reduce.specs.Bench.{Judging}
use Rattle.cr_reduce.specs.declared.end.End.{End}
use Rattle.cr_reduce.specs.Ends.{outcome_of}
use Rattle.cr_reduce.specs.Reduction.{start_of}
use Rattle.cr_reduce.specs.Search.{FailsInRun, Search}
use Rattle.cr_main_task.proofs.Outcomes.{InPasses, Sized, out_passes, out_sized, some_reduction}
use Rattle.cr_standing_workers.specs.Told.{AcceptsIfTold, EndsIfTold, ReducesFileIfTold, RejectsIfTold}

no_passes : InPasses []
no_passes = λ k d below. absurd (omega arith)

module _ (s : Search) (before now : Judging) (limit : Option ℕ) (file : List ℕ) (end : End) (chain : EndsIfTold s before now limit file end) where
  pub end_sized : Sized file → Sized end.file.items
  end_sized sized = elim (some_reduction (ReducesFileIfTold s before now file) file limit end end.why chain) [
    | inl untouched ↦ subst Sized (sym untouched.same) sized
    | inr some ↦ out_sized s.Offers (AcceptsIfTold s) (RejectsIfTold s) (FailsInRun s before now) some.0 (start_of file some.2.0) (outcome_of end some.1) sized some.2.2
  ]

  pub end_passes : InPasses end.accepted.items
  end_passes = elim (some_reduction (ReducesFileIfTold s before now file) file limit end end.why chain) [
    | inl untouched ↦ subst InPasses (sym untouched.none) no_passes
    | inr some ↦ out_passes s.Offers (AcceptsIfTold s) (RejectsIfTold s) (FailsInRun s before now) some.0 (start_of file some.2.0) (outcome_of end some.1) no_passes some.2.2
  ]
