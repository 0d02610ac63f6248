-- What is known of positions.
use Rattle.cr_standing_workers.specs.Channels.{AllNo, AreOpen}
use Rattle.std.proofs.Common.{◌≡◌, ◌≢◌, ℕ, zero, suc, ◌+◌, ◌<◌, ◌≤◌, List, length, slice_index_or, replicate, Option, Some, None, Result, Ok, Err, OnOk, get_or, refl, sym, ap, subst, arith}
use Rattle.std.proofs.lemmas.Option.{slice_get-get_or}
use Rattle.std.specs.List.{slice_get}
use native.Mathlib.Decide.{ℕ_discrete, dec_lt}
use Rattle.cr_cursor.specs.declared.passes.Cursor.{Cursor}
use Rattle.cr_cursor.specs.Variants.{Offer, cursor}
use Rattle.cr_pool.specs.declared.verdict.Verdict.{Verdict}
use Rattle.cr_pool.specs.Sizes.{IsSmaller}
use Rattle.cr_reduce.specs.Bench.{GoesOn, Judging}
use Rattle.cr_reduce.specs.declared.end.Why.{Why}
use Rattle.cr_reduce.specs.declared.end.Why.TheVariants as why
use Rattle.cr_reduce.specs.Reduction.{AllRejected, IsFirstAccepted, State, cursors_of}
use Rattle.cr_reduce.specs.Search.{Search}
use Rattle.cr_reduce.specs.Walk.{EndsHere}
use Rattle.cr_reduce.proofs.Runs.{has_failed-earlier}
use Rattle.cr_standing_workers.specs.declared.orders.Trial.{Trial}
use Rattle.cr_standing_workers.specs.declared.orders.Trial.TheVariants.{No, Yes}
use Rattle.cr_standing.specs.declared.walk.Walk.{Walk}
use Rattle.cr_standing.specs.Walk.{IsShared, IsSound}
use Rattle.cr_standing_workers.specs.declared.orders.Shared.{Shared}
use Rattle.cr_pool.specs.Sizes.{HasSize}
use Rattle.std.specs.Arc.{arc_value}
use Rattle.cr_standing_workers.specs.Told.{AcceptsIfTold, AtPosition, FailsAt, IsAbout, RejectsIfTold}

-- positions that are rejected

pub none_no : (R : List ℕ → ℕ → Trial → Type 0) (file : List ℕ) (a : ℕ) → AllNo R file a a
none_no R file a position low high = absurd (omega arith)

pub no_fewer : (R : List ℕ → ℕ → Trial → Type 0) (file : List ℕ) (a b c : ℕ) → AllNo R file a b → c ≤ b → AllNo R file a c
no_fewer R file a b c all less position low high = all position low (omega (arith, high, less))

pub rejected : {T : Type 0} (s : Search) (make : T → List ℕ → Offer) (Orders : T → List ℕ → ℕ → ℕ → Type 0) (Replies : List ℕ → ℕ → Trial → Type 0) (Verdicts : List ℕ → Verdict → Type 0) → IsAbout s make Orders Replies Verdicts
    → (file : List ℕ) (offer : Offer) (from to : ℕ) → s.Offers file offer → AllNo Replies file from to → AllRejected offer (RejectsIfTold s) file from to
rejected s make Orders Replies Verdicts about file offer from to offered each position at low high there = about.reply_out file position No (each position low high) offer offered at there

pub first_found : {T : Type 0} (s : Search) (make : T → List ℕ → Offer) (Orders : T → List ℕ → ℕ → ℕ → Type 0) (Replies : List ℕ → ℕ → Trial → Type 0) (Verdicts : List ℕ → Verdict → Type 0) → IsAbout s make Orders Replies Verdicts
    → (file : List ℕ) (offer : Offer) (from position : ℕ) (at : Cursor) → s.Offers file offer → from ≤ position → slice_get (cursors_of offer) position ≡ Some at → AllNo Replies file from position → Replies file position Yes
    → IsFirstAccepted offer (AcceptsIfTold s) (RejectsIfTold s) file from position at
first_found s make Orders Replies Verdicts about file offer from position at offered low there each said = record {
  after = low;
  there = there;
  accepted = about.reply_out file position Yes said offer offered at there;
  before = rejected s make Orders Replies Verdicts about file offer from position offered each;
}

-- an accepted variant is smaller
pub found_smaller : {T : Type 0} (s : Search) (make : T → List ℕ → Offer) (Orders : T → List ℕ → ℕ → ℕ → Type 0) (Replies : List ℕ → ℕ → Trial → Type 0) (Verdicts : List ℕ → Verdict → Type 0) → IsAbout s make Orders Replies Verdicts
    → (file : List ℕ) (offer : Offer) (position : ℕ) (variant : List ℕ) → s.Offers file offer → position < length (cursors_of offer) → Replies file position Yes → AtPosition offer position (λ bytes. variant ≡ bytes) → IsSmaller variant file
found_smaller s make Orders Replies Verdicts about file offer position variant offered below said made =
    let at = get_or (cursors_of offer) position (cursor 0 0 0) in
    let there : slice_get (cursors_of offer) position ≡ Some at = slice_get-get_or (cursors_of offer) position (cursor 0 0 0) below in
    subst (λ v. IsSmaller v file) (sym (made at there)) (about.reply_out file position Yes said offer offered at there).smaller

-- what follows of success
pub on_ok : {A E : Type 0} (r : Result A E) (P Q : Type 0) → (P → Q) → OnOk r P → OnOk r Q
on_ok (Ok a) P Q f it = f it
on_ok (Err e) P Q f it = tt

-- a fault since a later moment is one since an earlier one

pub ends_earlier : (s : Search) (before middle now : Judging) (limit : Option ℕ) (st : State) (end : Why) → GoesOn before middle → EndsHere s middle now limit st end → EndsHere s before now limit st end
ends_earlier s before middle now limit st why.Fixed on ended = ended
ends_earlier s before middle now limit st why.Limit on ended = ended
ends_earlier s before middle now limit st (why.Fault turn worker) on ended =
    let here = ended.2 in
    let f = here.failed in
    (ended.0, ended.1, record { at = here.at; there = here.there; failed = record { smaller = f.smaller; lawful = f.lawful; failed = has_failed-earlier s.asks s.name before middle now worker (st.offer.bytes here.at) on f.failed } })
ends_earlier s before middle now limit st why.NoMemory on ended = ended

-- where the first judge failed on the next position
pub fails_here : (s : Search) (before now : Judging) (limit : Option ℕ) (st : State) → limit ≢ Some st.turns → FailsAt s before now st.file st.offer st.position → EndsHere s before now limit st (why.Fault (st.turns + 1) 0)
fails_here s before now limit st more it = (refl, more, record { at = it.0; there = it.1; failed = it.2 })

-- positions that may be ordered

module _ {T : Type 0} (s : Search) (make : T → List ℕ → Offer) (Orders : T → List ℕ → ℕ → ℕ → Type 0) (Replies : List ℕ → ℕ → Trial → Type 0) (Verdicts : List ℕ → Verdict → Type 0) (about : IsAbout s make Orders Replies Verdicts) where
  pub all_open : (shared : Shared T) (count : ℕ) → IsShared s.Offers make shared.bytes.items shared → count ≡ length (cursors_of (make shared.prep shared.bytes.items)) → AreOpen Orders shared count
  all_open shared count it counted i low = about.order_in shared.prep shared.bytes.items shared.size i (record { offered = it.offered; sized = it.sized.has; below = omega (arith, counted, low) })

  -- those of the walk's file
  pub walk_open : (w : Walk T) → IsSound s.Offers make w → AreOpen Orders (arc_value w.shared) w.count
  walk_open w sound i low =
      let sized = subst (λ f. HasSize f (arc_value w.shared).size) (sym sound.same) sound.as_plain.sized in
      let offered = subst (λ f. s.Offers f (make (arc_value w.shared).prep f)) (sym sound.same) sound.as_plain.offered in
      let counted = subst (λ f. w.count ≡ length (cursors_of (make (arc_value w.shared).prep f))) (sym sound.same) sound.as_plain.counted in
      about.order_in (arc_value w.shared).prep (arc_value w.shared).bytes.items (arc_value w.shared).size i (record { offered = offered; sized = sized; below = omega (arith, counted, low) })

  -- and a position that may be ordered is one of its file
  pub open_below : (shared : Shared T) (count position : ℕ) → AreOpen Orders shared count → position < count → position < length (cursors_of (make shared.prep shared.bytes.items))
  open_below shared count position may low = (about.order_out shared.prep shared.bytes.items shared.size position (may position low)).below
