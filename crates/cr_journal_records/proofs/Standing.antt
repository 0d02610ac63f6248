-- What stands keeps standing, disk call by disk call.
use Rattle.std.proofs.Common.{◌≡◌, ◌≢◌, ℕ, ◌+◌, ◌*◌, ◌<◌, ◌≤◌, List, [], ◌∷◌, ◌++◌, length, take, drop, Option, Some, None, Result, refl, sym, ◌∙◌, ap, subst, arith, append_assoc, length-append}
use Rattle.std.proofs.lemmas.List.{take_at, drop_at, append-nil}
use Rattle.cr_outside.specs.Story.{Change, Story, changes_of}
use Rattle.cr_outside.specs.Story.Change.{Written, Cut, Synced}
use Rattle.cr_outside_disk.specs.declared.disk.DiskFault.{DiskFault}
use Rattle.cr_outside_disk.specs.Images.{Torn}
use Rattle.cr_outside_disk.specs.Moments.{EveryTold, LastsTold, Makes, seen, with_change}
use Rattle.cr_outside_disk.proofs.Images.{seen_is_image}
use Rattle.cr_outside_disk.proofs.Moments.{written}
use Rattle.cr_outside_disk.proofs.Lasting.{lasts_makes, lasts_same}
use Rattle.cr_journal_records.specs.Records.{Body, blocks, StandsFirst, Reads, IsFront, AtRest, Staged, HasGate, Stands, StandsNone}
use Rattle.cr_journal_records.proofs.Adding.{weaker}
use Rattle.cr_journal_records.proofs.Blocks.{Sized, split, sized, torn_shape}
use Rattle.cr_journal_records.proofs.Steps.{torn_behind}

-- what stands is a front of all that stand
front_of_all : (image : List ℕ) (some bodies : List Body) (rest : List ℕ) → Stands some image → Reads image bodies rest → IsFront some bodies
front_of_all image [] bodies rest stands reads = (bodies, refl)
front_of_all image (body ∷ more) [] rest (behind, is, size, long, inner) (same, shut) =
    absurd (shut (subst StandsFirst (sym is ∙ same) (refl, omega (arith, length-append body behind, size, long))))
front_of_all image (body ∷ more) (other ∷ others) rest (behind, is, size, long, inner) (after, same, size_too, long_too, inner_too) =
    let whole : body ++ behind ≡ other ++ after = cc (sym is ∙ same) in
    let one : body ≡ other = sym (take_at body behind 31 size) ∙ ap (take 31) whole ∙ take_at other after 31 size_too in
    let rest_is : behind ≡ after = sym (drop_at body behind 31 size) ∙ ap (drop 31) whole ∙ drop_at other after 31 size_too in
    let next = front_of_all after more others rest (subst (λ (l : List ℕ). Stands more l) rest_is inner) inner_too in
    (next.0, λ i. sym one i ∷ next.1 i)

-- and each front of what stands stands
front_stands : (image : List ℕ) (some bodies : List Body) → IsFront some bodies → Stands bodies image → Stands some image
front_stands image [] bodies front stands = tt
front_stands image (body ∷ more) [] (tail, is) stands = absurd (cc is)
front_stands image (body ∷ more) (other ∷ others) (tail, is) (behind, same, size, long, inner) =
    let one : other ≡ body = cc is in
    (behind, same ∙ ap (λ (b : Body). 1 ∷ (b ++ behind)) one, sym (ap length one) ∙ size, long, front_stands behind more others (tail, cc is) inner)

pub blocks_stand : (bodies : List Body) (rest : List ℕ) → Sized bodies → 0 < length rest → Stands bodies (blocks bodies ++ rest)
blocks_stand [] rest sizes some = tt
blocks_stand (body ∷ more) rest (size, sizes) some = (
  blocks more ++ rest,
  ap (λ (l : List ℕ). 1 ∷ l) (append_assoc body (blocks more) rest),
  size,
  omega (arith, some, length-append (blocks more) rest),
  blocks_stand more rest sizes some,
)

all_stand : (image : List ℕ) (bodies : List Body) (rest : List ℕ) → Reads image bodies rest → Stands bodies image
all_stand image [] rest reads = tt
all_stand image (body ∷ more) rest (behind, is, size, long, inner) = (behind, is, size, long, all_stand behind more rest inner)

-- These stand and no others.
abbrev pub Exactly : List Body → List ℕ → Type 0
Exactly bodies image = (rest : List ℕ) × Reads image bodies rest

-- a change after which those that stood still do
pub stands_on : (some bodies : List Body) (change : Change) (told : Option Story) → EveryTold (Exactly bodies) told → EveryTold (Stands bodies) (with_change change told)
    → EveryTold (Stands some) told → EveryTold (Stands some) (with_change change told)
stands_on some bodies change None exactly then was = tt
stands_on some bodies change (Some s) exactly then was = λ image left.
    let now = seen_is_image s.journal (changes_of s.events) in
    let (rest, reads) = exactly (seen s) now in
    front_stands image some bodies (front_of_all (seen s) some bodies rest (was (seen s) now) reads) (then image left)

-- where none stood, any change leaves as many
pub none_stood : (some : List Body) (change : Change) (told : Option Story) → StandsNone told → EveryTold (Stands some) told → EveryTold (Stands some) (with_change change told)
none_stood some change None none was = tt
none_stood [] change (Some s) none was = λ image left. tt
none_stood (body ∷ more) change (Some s) none was =
    let (behind, is, size, long, inner) = was (seen s) (seen_is_image s.journal (changes_of s.events)) in
    absurd (none (subst StandsFirst (sym is) (refl, omega (arith, length-append body behind, size, long))))

pub none_after_cut : (told : Option Story) → StandsNone (with_change (Cut 0) told)
none_after_cut None = tt
none_after_cut (Some s) = λ stands. stands

pub none_after_sync : (told : Option Story) → StandsNone told → StandsNone (with_change Synced told)
none_after_sync None none = tt
none_after_sync (Some s) none = none

-- behind the records that stand a gate is torn
gate_torn : (bodies : List Body) (gate : ℕ) (tail before image : List ℕ) → Reads before bodies (gate ∷ tail) → Torn (32 * length bodies) 1 before image → Stands bodies image
gate_torn bodies gate tail before image reads torn =
    let sizes = sized before bodies (gate ∷ tail) reads in
    let shape = torn_shape bodies gate tail before sizes (split before bodies (gate ∷ tail) reads) image torn in
    subst (Stands bodies) (sym shape.is) (blocks_stand bodies (shape.gate ∷ tail) sizes (omega arith))

module _ (some bodies : List Body) (body : Body) (index : ℕ) (counts : length bodies ≡ index) (size : length body ≡ 31) where
  pub behind_lasts : (bytes : List ℕ) → bytes ≡ body ++ 0 ∷ [] → (old new : Option Story) (result : Result (Unit {0}) DiskFault) → EveryTold (AtRest bodies) old
      → Makes old new (Written (32 * index + 1) bytes) result → LastsTold (Stands some) old new
  behind_lasts bytes is old new result rests made =
      lasts_makes (Stands some) old old new (Written (32 * index + 1) bytes) result (lasts_same (Stands some) old) made
      (stands_on some bodies (Written (32 * index + 1) bytes) old (weaker (AtRest bodies) (Exactly bodies) old (λ image (behind, reads). (0 ∷ behind, reads)) rests)
      (written (AtRest bodies) (Stands bodies) old (32 * index + 1) bytes rests (λ before image rest torn.
      let (behind, reads) = torn_behind bodies (bodies ++ body ∷ []) body index counts size ([], sym (append-nil (bodies ++ body ∷ []))) before image rest
      (subst (λ (l : List ℕ). Torn (32 * index + 1) (length l) before image) is torn) in
      all_stand image bodies (0 ∷ behind) reads)))

  pub gate_lasts : (one : List ℕ) → one ≡ 1 ∷ [] → (old mid new : Option Story) (result : Result (Unit {0}) DiskFault) → LastsTold (Stands some) old mid
      → EveryTold (Staged bodies body) mid → Makes mid new (Written (32 * index) one) result → LastsTold (Stands some) old new
  gate_lasts one opens old mid new result so_far staged made =
      lasts_makes (Stands some) old mid new (Written (32 * index) one) result so_far made
      (stands_on some bodies (Written (32 * index) one) mid (weaker (Staged bodies body) (Exactly bodies) mid (λ image (behind, reads). (0 ∷ (body ++ (0 ∷ behind)), reads)) staged)
      (written (Staged bodies body) (Stands bodies) mid (32 * index) one staged (λ before image (behind, reads) torn.
      gate_torn bodies 0 (body ++ (0 ∷ behind)) before image reads (subst (λ (n : ℕ). Torn (32 * n) 1 before image) (sym counts)
      (subst (λ (l : List ℕ). Torn (32 * index) (length l) before image) opens torn)))))

pub close_lasts : (some bodies : List Body) (count : ℕ) → length bodies ≡ count → (old new : Option Story) (result : Result (Unit {0}) DiskFault) → EveryTold (HasGate bodies) old
    → Makes old new (Written (32 * count) (0 ∷ [])) result → LastsTold (Stands some) old new
close_lasts some bodies count counts old new result gates made =
    lasts_makes (Stands some) old old new (Written (32 * count) (0 ∷ [])) result (lasts_same (Stands some) old) made
    (stands_on some bodies (Written (32 * count) (0 ∷ [])) old
    (weaker (HasGate bodies) (Exactly bodies) old (λ image (gate, behind, reads, not_shut). (gate ∷ behind, reads)) gates)
    (written (HasGate bodies) (Stands bodies) old (32 * count) (0 ∷ []) gates (λ before image (gate, behind, reads, not_shut) torn.
    gate_torn bodies gate behind before image reads (subst (λ (n : ℕ). Torn (32 * n) 1 before image) (sym counts) torn))))
