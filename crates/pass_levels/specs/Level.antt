-- A level whose edits are counted in the order of their places.
use Rattle.std.specs.Prelude.{ℕ, List, [], ◌∷◌, length, map, slice_index_or}
use Rattle.std.specs.Ordering.{nat_cmp, ordering_then}
use Rattle.std.specs.declared.cmp.Ordering.{Ordering}
use Rattle.std.specs.declared.cmp.Reverse.{Reverse}
use Rattle.pass_edit.specs.declared.change.Change.{Change}
use Rattle.pass_levels.specs.declared.counted.Counted.{Counted}
use Rattle.pass_levels.specs.Gathered.{gathered}
use Rattle.pass_levels.specs.Order.{in_order}

-- a counted edit; one that isn't there has no change
abbrev pub counted_at : List Counted → ℕ → Counted
counted_at all at = slice_index_or all at (record { first = 0; last = 0; edit = [] })

-- where an edit is counted: by its first token, then the one whose last token comes later, then as they were given
abbrev pub Place : Type 0
Place = ℕ × Reverse ℕ × ℕ

abbrev pub place_cmp : Place → Place → Ordering
place_cmp x y = ordering_then (ordering_then (nat_cmp x.0 y.0) (nat_cmp y.1.0 x.1.0)) (nat_cmp x.2 y.2)

abbrev pub place_of : List Counted → ℕ → Place
place_of all at = ((counted_at all at).first, record { 0 = (counted_at all at).last }, at)

-- the edits in the order of their places
abbrev pub in_place_order : List Counted → List (List Change)
in_place_order all = map (λ place. (counted_at all place.2).edit) (in_order place_cmp (gathered (λ at. place_of all at ∷ []) (length all)))

-- the edits that the nodes below n give, in the order of their places
abbrev pub level_of : (ℕ → List Counted) → ℕ → List (List Change)
level_of gives n = in_place_order (gathered gives n)
