-- Changes in the order of their places.
use Rattle.std.specs.Prelude.{ℕ, List, [], ◌∷◌, length, map, slice_index_or}
use Rattle.std.specs.declared.cmp.Reverse.{Reverse}
use Rattle.pass_edit.specs.declared.change.Change.{Change}
use Rattle.pass_edit.specs.declared.change.Text.TheVariants.{Nothing}
use Rattle.pass_levels.specs.Gathered.{gathered}
use Rattle.pass_levels.specs.Level.{Place, place_cmp}
use Rattle.pass_levels.specs.Order.{in_order}

abbrev pub change_at : List Change → ℕ → Change
change_at changes at = slice_index_or changes at (record { start = 0; end = 0; text = Nothing })

-- by the first byte, then the one that ends later, then as they were given
abbrev pub place_of : List Change → ℕ → Place
place_of changes at = ((change_at changes at).start, record { 0 = (change_at changes at).end }, at)

abbrev pub ordered : List Change → List Change
ordered changes = map (λ place. change_at changes place.2) (in_order place_cmp (gathered (λ at. place_of changes at ∷ []) (length changes)))
