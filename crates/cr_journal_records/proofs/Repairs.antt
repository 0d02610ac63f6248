-- What a torn gate leaves once it is written over.
use Rattle.std.proofs.Common.{◌≡◌, ◌≢◌, ◌⊎◌, inl, inr, ℕ, ◌+◌, ◌*◌, ◌<◌, ◌≤◌, min, List, [], ◌∷◌, ◌++◌, length, Option, Result, get_or, take, drop, refl, sym, ◌∙◌, ap, subst, arith, append_assoc, length-append, take-append-drop}
use Rattle.std.proofs.lemmas.Bool.{cases_eq}
use Rattle.std.proofs.lemmas.List.{take_at, drop_at, drop_more}
use Rattle.cr_journal_records.specs.Records.{Body, blocks, StandsFirst, Reads, IsFront, IsKept, AtRest, HasGate}
use Rattle.cr_journal_records.specs.Records.IsKept.{kept}
use Rattle.cr_outside_disk.specs.declared.disk.DiskFault.{DiskFault}
use Rattle.cr_outside.specs.Story.{Story}
use Rattle.cr_outside_disk.specs.Images.{Torn, put}
use Rattle.cr_outside_disk.specs.Moments.{AlwaysTold, EveryTold, Makes, with_change}
use Rattle.cr_outside.specs.Story.Change.{Written, Synced}
use Rattle.cr_outside_disk.proofs.Moments.{begun, makes, written, settled}
use Rattle.cr_journal_records.proofs.Adding.{weaker}
use Rattle.cr_journal_records.proofs.Blocks.{Sized, length_blocks, split, sized, reads_on, shut_gate, at_rest, torn_shape, put_shape}

-- The records that stand are determined.
pub reads_once : (image : List ℕ) (some other : List Body) (rest last : List ℕ) → Reads image some rest → Reads image other last → (some ≡ other) × (rest ≡ last)
reads_once image [] [] rest last (is, shut) (same, closed) = (refl, sym is ∙ same)
reads_once image [] (body ∷ more) rest last (is, shut) (behind, same, size, some, inner) =
    absurd (shut (subst StandsFirst (sym same ∙ is) (refl, omega (arith, length-append body behind, size, some))))
reads_once image (body ∷ more) [] rest last (behind, same, size, some, inner) (is, shut) =
    absurd (shut (subst StandsFirst (sym same ∙ is) (refl, omega (arith, length-append body behind, size, some))))
reads_once image (body ∷ more) (other ∷ others) rest last (behind, is, size, some, inner) (after, same, size_too, some_too, inner_too) =
    let whole : body ++ behind ≡ other ++ after = cc (sym is ∙ same) in
    let one : body ≡ other = sym (take_at body behind 31 size) ∙ ap (take 31) whole ∙ take_at other after 31 size_too in
    let rest_is : behind ≡ after = sym (drop_at body behind 31 size) ∙ ap (drop 31) whole ∙ drop_at other after 31 size_too in
    let next = reads_once after more others rest last (subst (λ (l : List ℕ). Reads l more rest) rest_is inner) inner_too in
    ((λ i. one i ∷ next.0 i), next.1)

module _ (bodies all : List Body) where
  -- a kept image's records, as read
  front_of : (before rest : List ℕ) → IsKept all before → Reads before bodies rest → IsFront bodies all
  front_of before rest (kept some left reads front torn) as_read = subst (λ (l : List Body). IsFront l all) (reads_once before some bodies left rest reads as_read).0 front

  opened : (before : List ℕ) (gate : ℕ) (behind : List ℕ) → IsKept all before → Reads before bodies (gate ∷ behind) → gate ≢ 0 → (gate ≡ 1) ⊎ (gate ≢ 1) → IsKept all (blocks bodies ++ (1 ∷ behind))
  opened before gate behind keeps as_read not_shut (inl is_open) =
      subst (IsKept all) (split before bodies (gate ∷ behind) as_read ∙ ap (λ (n : ℕ). blocks bodies ++ (n ∷ behind)) is_open) keeps
  opened before gate behind (kept some left reads front torn) as_read not_shut (inr not_open) =
      let same = reads_once before some bodies left (gate ∷ behind) reads as_read in
      subst (λ (l : List Body). IsKept all (blocks l ++ (1 ∷ behind))) same.0 (torn gate behind same.1 not_shut not_open)

  any_gate : (before : List ℕ) (gate : ℕ) (behind : List ℕ) → IsKept all before → Reads before bodies (gate ∷ behind) → gate ≢ 0 → (g : ℕ) → (g ≡ 1) ⊎ (g ≢ 1) → IsKept all (blocks bodies ++ (g ∷ behind))
  any_gate before gate behind keeps as_read not_shut g (inl is_open) =
      subst (λ (n : ℕ). IsKept all (blocks bodies ++ (n ∷ behind))) (sym is_open) (opened before gate behind keeps as_read not_shut (cases_eq gate 1))
  any_gate before gate behind keeps as_read not_shut g (inr shut) =
      kept bodies (g ∷ behind) (reads_on bodies (g ∷ behind) (sized before bodies (gate ∷ behind) as_read) (omega arith) (shut_gate g behind shut)) (front_of before (gate ∷ behind) keeps as_read)
      (λ other more is torn closed. subst (λ (l : List ℕ). IsKept all (blocks bodies ++ (1 ∷ l))) (cc is) (opened before gate behind keeps as_read not_shut (cases_eq gate 1)))

  pub torn_close : (before image : List ℕ) → IsKept all before → HasGate bodies before → Torn (32 * length bodies) 1 before image → IsKept all image
  torn_close before image keeps (gate, behind, as_read, not_shut) torn =
      let sizes = sized before bodies (gate ∷ behind) as_read in
      let shape = torn_shape bodies gate behind before sizes (split before bodies (gate ∷ behind) as_read) image torn in
      subst (IsKept all) (sym shape.is) (any_gate before gate behind keeps as_read not_shut shape.gate (cases_eq shape.gate 1))

pub put_close : (bodies : List Body) (before : List ℕ) → HasGate bodies before → AtRest bodies (put (32 * length bodies) (0 ∷ []) before)
put_close bodies before (gate, behind, as_read, not_shut) =
    let sizes = sized before bodies (gate ∷ behind) as_read in
    subst (AtRest bodies) (sym (put_shape bodies gate behind before sizes (split before bodies (gate ∷ behind) as_read) 0)) (at_rest bodies behind sizes)

pub closes : (all bodies : List Body) → (before image : List ℕ) → IsKept all before × HasGate bodies before → Torn (32 * length bodies) 1 before image → IsKept all image
closes all bodies before image (keeps, gate) torn = torn_close bodies all before image keeps gate torn

module _ (bodies all : List Body) (count : ℕ) (counts : length bodies ≡ count) (old : Option Story) where
  pub gate_closed : EveryTold (λ image. IsKept all image × HasGate bodies image) old → (new : Option Story) (result : Result (Unit {0}) DiskFault)
      → Makes old new (Written (32 * count) (0 ∷ [])) result → AlwaysTold (IsKept all) old new
  gate_closed was new result made =
      makes (IsKept all) old old new (Written (32 * count) (0 ∷ [])) result
      (begun (IsKept all) old (weaker (λ image. IsKept all image × HasGate bodies image) (IsKept all) old (λ image both. both.0) was)) made
      (written (λ image. IsKept all image × HasGate bodies image) (IsKept all) old (32 * count) (0 ∷ []) was
      (λ before image both torn. closes all bodies before image both (subst (λ (n : ℕ). Torn (32 * n) 1 before image) (sym counts) torn)))

  pub closed_then : EveryTold (HasGate bodies) old → EveryTold (AtRest bodies) (with_change Synced (with_change (Written (32 * count) (0 ∷ [])) old))
  closed_then was = settled (HasGate bodies) (AtRest bodies) old (32 * count) (0 ∷ []) was
      (λ before gate. subst (λ (n : ℕ). AtRest bodies (put (32 * n) (0 ∷ []) before)) counts (put_close bodies before gate))
