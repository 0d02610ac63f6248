-- One row more.
use Rattle.std.proofs.Common.{◌≡◌, ℕ, ◌+◌, ◌<◌, ◌≤◌, List, [], ◌∷◌, ◌++◌, Some, length, slice_get, slice_index_or, inl, inr, sym, ap, subst, ◌∙◌, arith, length-append}
use Rattle.std.proofs.Math.ListN.{get_or-append}
use Rattle.std.proofs.Math.Seq.{get_or-append_seam}
use Rattle.std.proofs.lemmas.Bool.{cases_lt}
use Rattle.std.proofs.lemmas.Option.{slice_get_within}
use Rattle.cr_check_types.specs.declared.layout.Layout.{Layout}
use Rattle.cr_check_types.specs.declared.shape.Shape.{Shape}
use Rattle.cr_rows.proofs.Columns.{one_more}
use Rattle.cr_check_types.specs.Types.{type_at}
use Rattle.cr_typed_fit.specs.declared.extents.Extent.{Extent}
use Rattle.cr_typed_fit.specs.Fits.{AreExtents, AreMembers, AreSuited, extent_of, no_extent}

pub extents_more : (shapes : List Shape) (layouts : List Layout) (at : ℕ) (extents : List Extent) (x : Extent) → AreExtents shapes layouts at extents
    → x ≡ extent_of layouts (type_at shapes at) → AreExtents shapes layouts (at + 1) (extents ++ x ∷ [])
extents_more shapes layouts at extents x h is =
    let more = one_more (λ row. extent_of layouts (type_at shapes row)) no_extent extents at x (record { count = h.count; each = h.each }) is in
    record { count = more.count; each = more.each }

-- the members of one node more
pub members_more : (extents : List Extent) (members : List (List ℕ)) (at : ℕ) (rows : List ℕ)
    → ((node : ℕ) (own : List ℕ) → node < at → slice_get members node ≡ Some own → AreSuited extents node own)
    → slice_get members at ≡ Some rows → AreSuited extents at rows → (node : ℕ) (own : List ℕ) → node < at + 1 → slice_get members node ≡ Some own
    → AreSuited extents node own
members_more extents members at rows before is here node own low e = elim (cases_lt node at) [
  | inl older ↦ before node own older e
  | inr newest ↦
      let same : at ≡ node = omega (arith, low, newest) in
      let one : rows ≡ own = cc (sym is ∙ ap (slice_get members) same ∙ e) in
      subst (λ n. AreSuited extents n own) same (subst (AreSuited extents at) one here)
]

pub members_all : (extents : List Extent) (members : List (List ℕ)) (at : ℕ) → length members ≤ at
    → ((node : ℕ) (own : List ℕ) → node < at → slice_get members node ≡ Some own → AreSuited extents node own) → AreMembers extents members
members_all extents members at past before node own e =
    let low = slice_get_within members node own e in before node own (omega (arith, low, past)) e
