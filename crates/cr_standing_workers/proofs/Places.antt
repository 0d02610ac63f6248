-- Trials of the position of an order.
use Rattle.std.proofs.Common.{◌≡◌, ℕ, ◌+◌, ◌-◌, ◌<◌, ◌≤◌, List, Some, get_or, sym, subst, arith}
use native.Mathlib.Decide.{ℕ_discrete}
use Rattle.std.proofs.lemmas.Option.{slice_get-get_or}
use Rattle.std.specs.List.{slice_get}
use Rattle.cr_cursor.specs.Variants.{Offer, cursor}
use Rattle.cr_pool.specs.declared.verdict.Verdict.{Verdict}
use Rattle.cr_reduce.specs.Bench.{Judging}
use Rattle.cr_reduce.specs.Reduction.{cursors_of}
use Rattle.cr_reduce.specs.Search.{FailsInRun, Search}
use Rattle.cr_standing_workers.specs.declared.orders.Trial.{Trial}
use Rattle.cr_standing_workers.specs.declared.orders.Trial.TheVariants.{No, Yes, Skipped, Asked}
use Rattle.cr_standing_workers.specs.declared.trial.Tried.{Tried}
use Rattle.cr_standing_workers.specs.declared.trial.Tried.TheVariants as tried
use Rattle.cr_standing_workers.specs.declared.trial.Weighed.{Weighed}
use Rattle.cr_standing_workers.specs.declared.trial.Weighed.TheVariants as weighed
use Rattle.cr_standing_workers.specs.Channels.{AllNo}
use Rattle.cr_standing_workers.specs.Told.{AcceptsIfTold, AtPosition, IsAbout, IsCandidate, RejectsIfTold, SaysAt, SaysOf, TriedAt, TriedSays, WeighedAt, WeighedSays, replied_as}

-- of a file's one offer

pub says_at : (s : Search) (one : (file : List ℕ) (o other : Offer) → s.Offers file o → s.Offers file other → o ≡ other) (file : List ℕ) (offer : Offer) (position : ℕ) (trial : Trial) → s.Offers file offer
    → AtPosition offer position (SaysOf s trial file) → SaysAt s file position trial
says_at s one file offer position trial offered it other is = subst (λ o. AtPosition o position (SaysOf s trial file)) (one file offer other offered is) it

module _ {T : Type 0} (s : Search) (make : T → List ℕ → Offer) (Orders : T → List ℕ → ℕ → ℕ → Type 0) (Replies : List ℕ → ℕ → Trial → Type 0) (Verdicts : List ℕ → Verdict → Type 0) (about : IsAbout s make Orders Replies Verdicts) where
  -- nothing is said of a position
  pub skipped : (file : List ℕ) (position : ℕ) → Replies file position Skipped
  skipped file position = about.reply_in file position Skipped (λ offer offered at there. tt)

  pub asked : (file : List ℕ) (position : ℕ) → Replies file position Asked
  asked file position = about.reply_in file position Asked (λ offer offered at there. tt)

  module _ (one : (file : List ℕ) (o other : Offer) → s.Offers file o → s.Offers file other → o ≡ other) where
    -- of the variant at a position
    reply_rejected : (file : List ℕ) (offer : Offer) (position : ℕ) (variant : List ℕ) → s.Offers file offer → AtPosition offer position (λ bytes. variant ≡ bytes) → RejectsIfTold s file variant → Replies file position No
    reply_rejected file offer position variant offered made says = about.reply_in file position No (says_at s one file offer position No offered (λ c is. subst (RejectsIfTold s file) (made c is) says))

    reply_accepted : (file : List ℕ) (offer : Offer) (position : ℕ) (variant : List ℕ) → s.Offers file offer → AtPosition offer position (λ bytes. variant ≡ bytes) → AcceptsIfTold s file variant → Replies file position Yes
    reply_accepted file offer position variant offered made says = about.reply_in file position Yes (says_at s one file offer position Yes offered (λ c is. subst (AcceptsIfTold s file) (made c is) says))

    -- what is known before anything is asked
    pub weighed_at : (prep : T) (file : List ℕ) (size position : ℕ) (variant : List ℕ) (it : Weighed) → Orders prep file size position → AtPosition (make prep file) position (λ bytes. variant ≡ bytes) → WeighedSays s file variant it
        → WeighedAt s Replies file (make prep file) position variant it
    weighed_at prep file size position variant weighed.No may made says = reply_rejected file (make prep file) position variant (about.order_out prep file size position may).offered made says
    weighed_at prep file size position variant weighed.Yes may made says = reply_accepted file (make prep file) position variant (about.order_out prep file size position may).offered made says
    weighed_at prep file size position variant weighed.Lawful may made says =
        let place = about.order_out prep file size position may in
        record { offered = place.offered; below = place.below; made = made; smaller = says.0; lawful = says.1 }
    weighed_at prep file size position variant weighed.Stopped may made says = tt
    weighed_at prep file size position variant weighed.NoMemory may made says = tt

    -- and once it was asked
    pub tried_at : (before now : Judging) (file : List ℕ) (offer : Offer) (position : ℕ) (variant : List ℕ) (it : Tried) → IsCandidate s file offer position variant → TriedSays s before now file variant it
        → TriedAt s before now Replies file offer position it
    tried_at before now file offer position variant tried.No it says = reply_rejected file offer position variant it.offered it.made says
    tried_at before now file offer position variant tried.Yes it says = reply_accepted file offer position variant it.offered it.made says
    tried_at before now file offer position variant tried.Failed it says =
        let at = get_or (cursors_of offer) position (cursor 0 0 0) in
        let there : slice_get (cursors_of offer) position ≡ Some at = slice_get-get_or (cursors_of offer) position (cursor 0 0 0) it.below in
        (at, there, subst (FailsInRun s before now 0 file) (it.made at there) says)
    tried_at before now file offer position variant tried.Stopped it says = tt
    tried_at before now file offer position variant tried.NoMemory it says = tt

    -- and what is replied then
    pub replied_at : (before now : Judging) (file : List ℕ) (offer : Offer) (position : ℕ) (it : Tried) → TriedAt s before now Replies file offer position it → Replies file position (replied_as it)
    replied_at before now file offer position tried.No says = says
    replied_at before now file offer position tried.Yes says = says
    replied_at before now file offer position tried.Failed says = skipped file position
    replied_at before now file offer position tried.Stopped says = skipped file position
    replied_at before now file offer position tried.NoMemory says = skipped file position

-- a position more is rejected
pub no_more : (Replies : List ℕ → ℕ → Trial → Type 0) (file : List ℕ) (from at to : ℕ) → AllNo Replies file from at → Replies file at No → to ≡ at + 1 → AllNo Replies file from to
no_more Replies file from at to before here is position low high = elim (ℕ_discrete position at) [ yes e ↦ subst (λ p. Replies file p No) (sym e) here | no ne ↦ before position low (omega (arith, is, high, ne)) ]

-- and up to the last one before an end
pub up_to_last : (Replies : List ℕ → ℕ → Trial → Type 0) (file : List ℕ) (from at last to : ℕ) → AllNo Replies file from at → to ≤ at → from < to → last ≡ to - 1 → AllNo Replies file from last × Replies file last No
up_to_last Replies file from at last to all reached some is = (λ position low high. all position low (omega (arith, is, high, reached)), all last (omega (arith, is, some)) (omega (arith, is, some, reached)))
