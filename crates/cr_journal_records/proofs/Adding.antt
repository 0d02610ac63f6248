-- Adding a record, disk call by disk call.
use Rattle.std.proofs.Common.{◌≡◌, ℕ, ◌+◌, ◌*◌, ◌-◌, List, [], ◌∷◌, ◌++◌, length, take, drop, Option, Some, None, Result, sym, ◌∙◌, ap, subst, arith}
use Rattle.std.proofs.lemmas.List.{take_all}
use Rattle.cr_outside_disk.specs.declared.disk.DiskFault.{DiskFault}
use Rattle.cr_journal_records.specs.Records.{Body, IsFront, IsKept, AtRest, Staged}
use Rattle.cr_outside.specs.Story.{Story}
use Rattle.cr_outside_disk.specs.Images.{Torn, put}
use Rattle.cr_outside_disk.specs.Moments.{AlwaysTold, EveryTold, Makes, Syncs, with_change}
use Rattle.cr_outside.specs.Story.Change.{Written, Cut, Synced}
use Rattle.cr_outside_disk.proofs.Moments.{begun, makes, syncs, written, settled}
use Rattle.cr_journal_records.proofs.Steps.{rest_is_kept, torn_behind, put_behind, torn_gate, put_gate}

pub tail_is : (l xs : List ℕ) → l ≡ 1 ∷ xs → take (length l - 1) (drop 1 l) ≡ xs
tail_is l xs is = ap (λ (m : List ℕ). take (length m - 1) (drop 1 m)) is ∙ take_all (length (1 ∷ xs) - 1) xs (omega arith)

pub weaker : (Q P : List ℕ → Type 0) (told : Option Story) → ((image : List ℕ) → Q image → P image) → EveryTold Q told → EveryTold P told
weaker Q P None each was = was
weaker Q P (Some s) each was = λ image left. each image (was image left)

module _ (bodies all : List Body) (body : Body) (index : ℕ) (counts : length bodies ≡ index) (size : length body ≡ 31) (is_front : IsFront (bodies ++ body ∷ []) all)
    (bytes : List ℕ) (is : bytes ≡ body ++ 0 ∷ []) (old : Option Story) (rests : EveryTold (AtRest bodies) old) where
  pub at_start : AlwaysTold (IsKept all) old old
  at_start = begun (IsKept all) old (weaker (AtRest bodies) (IsKept all) old (rest_is_kept bodies all body index counts size is_front) rests)

  pub behind_written : (new : Option Story) (result : Result (Unit {0}) DiskFault) → Makes old new (Written (32 * index + 1) bytes) result → AlwaysTold (IsKept all) old new
  behind_written new result made = makes (IsKept all) old old new (Written (32 * index + 1) bytes) result at_start made
      (written (AtRest bodies) (IsKept all) old (32 * index + 1) bytes rests
      (λ before image rest torn. rest_is_kept bodies all body index counts size is_front image
      (torn_behind bodies all body index counts size is_front before image rest (subst (λ (l : List ℕ). Torn (32 * index + 1) (length l) before image) is torn))))

  pub staged : EveryTold (Staged bodies body) (with_change Synced (with_change (Written (32 * index + 1) bytes) old))
  staged = settled (AtRest bodies) (Staged bodies body) old (32 * index + 1) bytes rests
      (λ before rest. subst (λ (l : List ℕ). Staged bodies body (put (32 * index + 1) l before)) (sym is) (put_behind bodies all body index counts size is_front before rest))

  module _ (one : List ℕ) (opens : one ≡ 1 ∷ []) where
    pub gate_written : (mid new : Option Story) (result : Result (Unit {0}) DiskFault) → AlwaysTold (IsKept all) old mid → EveryTold (Staged bodies body) mid
        → Makes mid new (Written (32 * index) one) result → AlwaysTold (IsKept all) old new
    gate_written mid new result so_far stands made = makes (IsKept all) old mid new (Written (32 * index) one) result so_far made
        (written (Staged bodies body) (IsKept all) mid (32 * index) one stands
        (λ before image staged torn. torn_gate bodies all body index counts size is_front before image staged (subst (λ (l : List ℕ). Torn (32 * index) (length l) before image) opens torn)))

    pub stands_then : (mid : Option Story) → EveryTold (Staged bodies body) mid
        → EveryTold (AtRest (bodies ++ body ∷ [])) (with_change Synced (with_change (Written (32 * index) one) mid))
    stands_then mid stands = settled (Staged bodies body) (AtRest (bodies ++ body ∷ [])) mid (32 * index) one stands
        (λ before staged. subst (λ (l : List ℕ). AtRest (bodies ++ body ∷ []) (put (32 * index) l before)) (sym opens) (put_gate bodies all body index counts size is_front before staged))
