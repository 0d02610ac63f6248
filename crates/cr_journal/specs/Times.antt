-- What a keeper on a disk has kept, over time.
use Rattle.std.proofs.Common.{◌≡◌, ℕ, Bool, true, false, List, [], ◌∷◌, ◌++◌, map, take, Option, Some, None, sym, ◌∙◌, ap, subst, append_assoc, arith}
use Rattle.std.proofs.lemmas.List.{map-append, append-nil, take_at}
use Rattle.cr_outside.specs.Story.{Story}
use Rattle.cr_outside_disk.specs.Moments.{AlwaysTold, EveryTold, LastsTold}
use Rattle.cr_outside_disk.proofs.Lasting.{lasts_further, lasts_same}
use Rattle.cr_outside_disk.proofs.Moments.{begun, goes_further, later_same}
use Rattle.cr_journal_records.specs.Records.{AtRest, Body, IsFront, IsKept, Stands}
use Rattle.cr_journal_records.specs.Records.IsKept.{kept}
use Rattle.cr_journal_records.proofs.Adding.{weaker}
use Rattle.cr_journal_rows.specs.Forms.{row_body}
use Rattle.cr_journal.specs.Keeping.{HasKept, KeptOn, journal_of}
use Rattle.cr_reduce.specs.Keeping.{Front}
use Rattle.cr_reduce.specs.declared.end.Accepted.{Accepted}

-- kept for a list, kept for a longer one
more_kept : (some all : List Body) (image : List ℕ) → IsFront some all → IsKept some image → IsKept all image
more_kept some all image front (kept bodies rest reads is_front torn) =
    kept bodies rest reads (is_front.0 ++ front.0, front.1 ∙ ap (λ (l : List Body). l ++ front.0) is_front.1 ∙ append_assoc bodies is_front.0 front.0)
    (λ gate behind is not_shut not_open. more_kept some all _ front (torn gate behind is not_shut not_open))

stands_kept : (all : List Body) (image : List ℕ) → AtRest all image → IsKept all image
stands_kept all image (behind, reads) = kept all (0 ∷ behind) reads ([], sym (append-nil all)) (λ gate more is torn shut. absurd (torn (sym (cc is))))

fronts : (header : Body) (some all : List Accepted) → Front some all → IsFront (journal_of header some) (journal_of header all)
fronts header some all (more, is) = (map row_body more, ap (λ (l : List Body). header ∷ l) (ap (map row_body) is ∙ map-append row_body some more))

always_weaker : (P Q : List ℕ → Type 0) → ((image : List ℕ) → P image → Q image) → (old new : Option Story) → AlwaysTold P old new → AlwaysTold Q old new
always_weaker P Q each None None first = first
always_weaker P Q each None (Some new) first = elim first [ ]
always_weaker P Q each (Some old) None first = elim first [ ]
always_weaker P Q each (Some old) (Some new) (later, always) = (later, λ moment after before image left. each image (always moment after before image left))

-- what is always kept of rows is always kept of more
pub always_kept : (header : Body) (some all : List Accepted) → Front some all → (old new : Option Story) → AlwaysTold (IsKept (journal_of header some)) old new → AlwaysTold (IsKept (journal_of header all)) old new
always_kept header some all front =
    always_weaker (IsKept (journal_of header some)) (IsKept (journal_of header all)) (λ image. more_kept (journal_of header some) (journal_of header all) image (fronts header some all front))

pub lasts_now : (P : List ℕ → Type 0) (old new : Option Story) → LastsTold P old new → EveryTold P old → EveryTold P new
lasts_now P None None lasts was = was
lasts_now P None (Some new) lasts was = elim lasts [ ]
lasts_now P (Some old) None lasts was = elim lasts [ ]
lasts_now P (Some old) (Some new) (later, lasts) was = lasts old new (later_same old) later (later_same new) was

-- a journal has one header
pub one_header : (header other : Body) (rows : List Body) (told : Option Story) → EveryTold (AtRest (other ∷ rows)) told → EveryTold (Stands (header ∷ [])) told → EveryTold (AtRest (header ∷ rows)) told
one_header header other rows None rests stands = tt
one_header header other rows (Some s) rests stands = λ image left.
    let (behind, (after, is, size, long, inner)) = rests image left in
    let (tail, same, size_too, long_too, rest) = stands image left in
    let whole : other ++ after ≡ header ++ tail = cc (sym is ∙ same) in
    let one : other ≡ header = sym (take_at other after 31 size) ∙ ap (take 31) whole ∙ take_at header tail 31 size_too in
    subst (λ (h : Body). AtRest (h ∷ rows) image) one (rests image left)

pub first_stands : (header : Body) (rows : List Body) (told : Option Story) → EveryTold (AtRest (header ∷ rows)) told → EveryTold (Stands (header ∷ [])) told
first_stands header rows told = weaker (AtRest (header ∷ rows)) (Stands (header ∷ [])) told (λ image (behind, (after, is, size, long, inner)). (after, is, size, long, tt))

kept_now : (header : Body) (rows : List Accepted) (told : Option Story) → EveryTold (AtRest (journal_of header rows)) told → AlwaysTold (IsKept (journal_of header rows)) told told
kept_now header rows told rests = begun (IsKept (journal_of header rows)) told (weaker (AtRest (journal_of header rows)) (IsKept (journal_of header rows)) told (stands_kept (journal_of header rows)) rests)

pub at_once : (told : Option Story) (rows : List Accepted) (is_ready : Bool) (size faults : ℕ) (disk_failed has_failed : Bool) → HasKept told is_ready size has_failed rows
    → KeptOn told told rows faults faults disk_failed has_failed
at_once told rows is_ready size faults disk_failed has_failed keeps = record {
  any_moment = λ header stands. kept_now header rows told (one_header header keeps.rests.0 (map row_body rows) told keeps.rests.1 stands);
  lasts = λ some. lasts_same (Stands some) told;
  later = omega arith;
  failed = λ failed. let bad : false ≡ true = sym keeps.fine ∙ failed in cc;
}

pub one_after : (some all : List Accepted) (a b c : Option Story) (x y z : ℕ) (b_failed c_failed b_has c_has : Bool) → Front some all
    → KeptOn a b some x y b_failed b_has → KeptOn b c all y z c_failed c_has → KeptOn a c all x z c_failed c_has
one_after some all a b c x y z b_failed c_failed b_has c_has front first second = record {
  any_moment = λ header stands. goes_further (IsKept (journal_of header all)) a b c (always_kept header some all front a b (first.any_moment header stands))
      (second.any_moment header (lasts_now (Stands (header ∷ [])) a b (first.lasts (header ∷ [])) stands));
  lasts = λ any. lasts_further (Stands any) a b c (first.lasts any) (second.lasts any);
  later = omega (arith, first.later, second.later);
  failed = λ failed. let (rose, is) = second.failed failed in (omega (arith, rose, first.later), is);
}
