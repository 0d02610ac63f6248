-- Beginning a journal, disk call by disk call.
use Rattle.std.proofs.Common.{◌≡◌, ◌≢◌, ℕ, ◌+◌, ◌≤◌, max, List, [], ◌∷◌, ◌++◌, length, take, Option, Some, None, Result, refl, sym, ◌∙◌, ap, subst, arith}
use Rattle.cr_outside_disk.specs.declared.disk.DiskFault.{DiskFault}
use Rattle.cr_journal_records.specs.Records.{Body, blocks, StandsFirst, IsFront, IsKept, AtRest}
use Rattle.cr_journal_records.specs.Records.IsKept.{kept}
use Rattle.cr_outside.specs.Story.{Story}
use Rattle.cr_outside_disk.specs.Images.{Torn, put}
use Rattle.cr_outside_disk.specs.Moments.{AlwaysTold, EveryTold, Makes, with_change}
use Rattle.cr_outside.specs.Story.Change.{Written, Cut, Synced}
use Rattle.cr_outside_disk.proofs.Moments.{begun, makes, written, cut_off, settled, settled_cut}
use Rattle.cr_journal_records.proofs.Blocks.{at_rest}
use Rattle.cr_journal_records.proofs.Cuts.{kept_cut}

-- no byte, and one alone
module _ (all : List Body) where
  pub none_kept : IsKept all []
  none_kept = kept [] [] (refl, λ stands. stands) (all, refl) (λ gate more is torn shut. absurd (cc is))

  lone : (gate : ℕ) → StandsFirst (gate ∷ []) → ⊥
  lone gate (opens, long) = omega (arith, long)

  open_kept : IsKept all (1 ∷ [])
  open_kept = kept [] (1 ∷ []) (refl, lone 1) (all, refl) (λ gate more is torn shut. absurd (shut (sym (cc is))))

  one_kept : (gate : ℕ) → IsKept all (gate ∷ [])
  one_kept gate = kept [] (gate ∷ []) (refl, lone gate) (all, refl) (λ g more is torn shut. subst (λ (l : List ℕ). IsKept all (1 ∷ l)) (cc is) open_kept)

  pub short_kept : (image : List ℕ) → length image ≤ 1 → IsKept all image
  short_kept [] short = none_kept
  short_kept (gate ∷ []) short = one_kept gate
  short_kept (gate ∷ b ∷ more) short = absurd (omega (arith, short))

  module _ (old : Option Story) (keeps : EveryTold (IsKept all) old) where
    pub after_cut : (new : Option Story) (result : Result (Unit {0}) DiskFault) → Makes old new (Cut 0) result → AlwaysTold (IsKept all) old new
    after_cut new result made = makes (IsKept all) old old new (Cut 0) result (begun (IsKept all) old keeps) made (cut_off (IsKept all) (IsKept all) old 0 keeps (kept_cut all 0))

    pub is_empty : EveryTold (λ image. image ≡ []) (with_change Synced (with_change (Cut 0) old))
    is_empty = settled_cut (IsKept all) (λ image. image ≡ []) old 0 keeps (λ before was. refl)

    pub after_gate : (mid new : Option Story) (result : Result (Unit {0}) DiskFault) → AlwaysTold (IsKept all) old mid → EveryTold (λ image. image ≡ []) mid
        → Makes mid new (Written 0 (0 ∷ [])) result → AlwaysTold (IsKept all) old new
    after_gate mid new result so_far empty made = makes (IsKept all) old mid new (Written 0 (0 ∷ [])) result so_far made
        (written (λ image. image ≡ []) (IsKept all) mid 0 (0 ∷ []) empty (λ before image is torn. short_kept image (omega (arith, ap length is, torn.no_longer))))
