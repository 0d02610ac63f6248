-- How a story goes on, call by call.
use Rattle.std.proofs.Common.{◌≡◌, ◌⊎◌, inl, inr, ℕ, ◌+◌, List, [], ◌∷◌, ◌++◌, length, take, drop, Option, Some, None, Result, Ok, Err, refl, sym, ◌∙◌, ap, subst, arith}
use Rattle.cr_outside.specs.Story.{Change, Story, changes_of, gone_on}
use Rattle.cr_outside.specs.Story.Change.{Written, Cut, Synced}
use Rattle.cr_outside.specs.Story.Event.{Changed}
use Rattle.cr_outside_disk.specs.declared.disk.DiskFault.{DiskFault}
use Rattle.cr_outside_disk.specs.Images.{Torn, CutShort, put}
use Rattle.cr_outside_disk.specs.Moments.{Later, Always, AlwaysTold, Every, EveryTold, Makes, Syncs, after_changes, seen, with_change}
use Rattle.cr_outside_disk.proofs.Images.{seen_is_image}

-- the story before its newest event
abbrev pub back : Story → Story
back s = record { files = s.files; journal = s.journal; events = drop 1 s.events }

pub longer : (changes : List Change) (s : Story) → length (after_changes changes s).events ≡ length changes + length s.events
longer [] s = omega arith
longer (change ∷ older) s = omega (arith, longer older s)

pub one_after_another : (newer older : List Change) (s : Story) → after_changes newer (after_changes older s) ≡ after_changes (newer ++ older) s
one_after_another [] older s = refl
one_after_another (change ∷ newer) older s = ap (gone_on (Changed change)) (one_after_another newer older s)

pub later_same : (s : Story) → Later s s
later_same s = ([], refl)

pub later_more : (old new : Story) (change : Change) → Later old new → Later old (gone_on (Changed change) new)
later_more old new change (more, is) = (change ∷ more, ap (gone_on (Changed change)) is)

always_more : (P : List ℕ → Type 0) (old new : Story) (change : Change) → Always P old new → Every P (gone_on (Changed change) new) → Always P old (gone_on (Changed change) new)
always_more P old new change so_far now moment after ([], is) = subst (λ (s : Story). Every P s) is now
always_more P old new change so_far now moment after (c ∷ more, is) = so_far moment after (more, ap back is)

pub later_on : (old mid new : Story) → Later old mid → Later mid new → Later old new
later_on old mid new (more, is) (most, goes) = (most ++ more, goes ∙ ap (after_changes most) is ∙ one_after_another most more old)

always_same : (P : List ℕ → Type 0) (s : Story) → Every P s → Always P s s
always_same P s now moment ([], is) further = subst (λ (m : Story). Every P m) (sym is) now
always_same P s now moment (c ∷ more, is) (most, goes) =
    absurd (omega (arith, ap (λ (m : Story). length m.events) is, ap (λ (m : Story). length m.events) goes, longer (c ∷ more) s, longer most moment))

-- no call yet
pub begun : (P : List ℕ → Type 0) (told : Option Story) → EveryTold P told → AlwaysTold P told told
begun P None now = now
begun P (Some s) now = (later_same s, always_same P s now)

-- what holds always holds now
pub holds_now : (P : List ℕ → Type 0) (old new : Option Story) → AlwaysTold P old new → EveryTold P new
holds_now P None None so_far = so_far
holds_now P None (Some s) so_far = elim so_far [ ]
holds_now P (Some old) None so_far = elim so_far [ ]
holds_now P (Some old) (Some new) (later, always) = always new later (later_same new)

-- one change more
pub goes_on : (P : List ℕ → Type 0) (old mid : Option Story) (change : Change) → AlwaysTold P old mid → EveryTold P (with_change change mid)
    → AlwaysTold P old (with_change change mid)
goes_on P None None change so_far now = so_far
goes_on P None (Some s) change so_far now = elim so_far [ ]
goes_on P (Some old) None change so_far now = elim so_far [ ]
goes_on P (Some old) (Some mid) change (later, always) now = (later_more old mid change later, always_more P old mid change always now)

-- a change is made, or refused and made or not
pub makes : (P : List ℕ → Type 0) (old mid new : Option Story) (change : Change) (result : Result (Unit {0}) DiskFault) → AlwaysTold P old mid
    → Makes mid new change result → EveryTold P (with_change change mid) → AlwaysTold P old new
makes P old mid new change (Ok done) so_far made now = subst (AlwaysTold P old) (sym made) (goes_on P old mid change so_far now)
makes P old mid new change (Err fault) so_far (inl same) now = subst (AlwaysTold P old) (sym same) so_far
makes P old mid new change (Err fault) so_far (inr made) now = subst (AlwaysTold P old) (sym made) (goes_on P old mid change so_far now)

-- what is seen is one of the images
pub synced_now : (P : List ℕ → Type 0) (told : Option Story) → EveryTold P told → EveryTold P (with_change Synced told)
synced_now P None now = now
synced_now P (Some s) now = λ image is. subst P (sym is) (now (seen s) (seen_is_image s.journal (changes_of s.events)))

pub syncs : (P : List ℕ → Type 0) (old mid new : Option Story) (result : Result (Unit {0}) DiskFault) → AlwaysTold P old mid → Syncs mid new result → AlwaysTold P old new
syncs P old mid new (Ok done) so_far made =
    subst (AlwaysTold P old) (sym made) (goes_on P old mid Synced so_far (synced_now P mid (holds_now P old mid so_far)))
syncs P old mid new (Err fault) so_far same = subst (AlwaysTold P old) (sym same) so_far

-- what an unsynced write leaves of each image
pub written : (Q P : List ℕ → Type 0) (told : Option Story) (at : ℕ) (bytes : List ℕ) → EveryTold Q told
    → ((before image : List ℕ) → Q before → Torn at (length bytes) before image → P image) → EveryTold P (with_change (Written at bytes) told)
written Q P None at bytes was each = was
written Q P (Some s) at bytes was each = λ image left. each left.0 image (was left.0 left.1) left.2

pub cut_off : (Q P : List ℕ → Type 0) (told : Option Story) (len : ℕ) → EveryTold Q told
    → ((before image : List ℕ) → Q before → CutShort len before image → P image) → EveryTold P (with_change (Cut len) told)
cut_off Q P None len was each = was
cut_off Q P (Some s) len was each = λ image left. each left.0 image (was left.0 left.1) left.2

-- once a write is on the disk, there is one image
pub settled : (Q P : List ℕ → Type 0) (told : Option Story) (at : ℕ) (bytes : List ℕ) → EveryTold Q told
    → ((before : List ℕ) → Q before → P (put at bytes before)) → EveryTold P (with_change Synced (with_change (Written at bytes) told))
settled Q P None at bytes was each = was
settled Q P (Some s) at bytes was each = λ image is. subst P (sym is) (each (seen s) (was (seen s) (seen_is_image s.journal (changes_of s.events))))

pub settled_cut : (Q P : List ℕ → Type 0) (told : Option Story) (len : ℕ) → EveryTold Q told
    → ((before : List ℕ) → Q before → P (take len before)) → EveryTold P (with_change Synced (with_change (Cut len) told))
settled_cut Q P None len was each = was
settled_cut Q P (Some s) len was each = λ image is. subst P (sym is) (each (seen s) (was (seen s) (seen_is_image s.journal (changes_of s.events))))

-- Of two stories that go on to one, one goes on to the other.
pub ends_of : (xs ys : List Change) (a b : Story) → after_changes xs a ≡ after_changes ys b → Later b a ⊎ Later a b
ends_of [] ys a b is = inl (ys, is)
ends_of (x ∷ xs) [] a b is = inr (x ∷ xs, sym is)
ends_of (x ∷ xs) (y ∷ ys) a b is = ends_of xs ys a b (ap back is)

always_on : (P : List ℕ → Type 0) (old mid new : Story) → Always P old mid → Always P mid new → Later mid new → Always P old new
always_on P old mid new first then (more, is) moment after (most, goes) = elim (ends_of most more moment mid (sym goes ∙ is)) [
  | inl behind ↦ then moment behind (most, goes)
  | inr front ↦ first moment after front
]

-- one run of calls after another
pub goes_further : (P : List ℕ → Type 0) (old mid new : Option Story) → AlwaysTold P old mid → AlwaysTold P mid new → AlwaysTold P old new
goes_further P None None None first then = first
goes_further P None None (Some new) first then = elim then [ ]
goes_further P None (Some mid) new first then = elim first [ ]
goes_further P (Some old) None new first then = elim first [ ]
goes_further P (Some old) (Some mid) None first then = elim then [ ]
goes_further P (Some old) (Some mid) (Some new) (later, always) (further, still) =
    (later_on old mid new later further, always_on P old mid new always still further)
