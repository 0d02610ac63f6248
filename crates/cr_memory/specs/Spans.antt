-- How the store keeps the spans: those of live objects alone, in the rising order of the objects' numbers.
use Rattle.std.specs.Prelude.{◌≡◌, ℕ, ◌==◌, ◌<◌, ◌≤◌, List, [], ◌∷◌, map, length, slice_index_or, if◌then◌else◌}
use Rattle.std.specs.List.{range_with_len}
use Rattle.cr_memory.specs.declared.span.Span.{Span}
use Rattle.cr_memory.specs.declared.spans.Living.{Living}
use Rattle.cr_memory.specs.Flat.{span_of, ended_span}

abbrev pub living_at : List Living → ℕ → Living
living_at living index = slice_index_or living index (record { first = 0; number = 0; count = 0 })

-- the span of the live object of a number, if there is one
abbrev pub span_in : List Living → ℕ → Span
span_in [] number = ended_span
span_in (own ∷ rest) number = if own.number == number then span_of own.first own.count else span_in rest number

-- the spans of all objects that were entered, live or not
abbrev pub spans_of : ℕ → List Living → List Span
spans_of entered living = map (span_in living) (range_with_len 0 entered)

abbrev pub IsRising : List Living → Type 0
IsRising living = (left right : ℕ) → left < right → right < length living → (living_at living left).number < (living_at living right).number

-- the numbers rise, and each is one of an object that was entered, of which there are as many as numbers at most
pub record IsKept (entered : ℕ) (living : List Living) : Type 0 where
  pub rising : IsRising living
  pub below : (index : ℕ) → index < length living → (living_at living index).number < entered
  pub few : entered < 4294967296

-- a live object's place among them
pub record IsPlaceOf (living : List Living) (number index : ℕ) : Type 0 where
  pub within : index < length living
  pub same : (living_at living index).number ≡ number

-- the live objects before a place have smaller numbers, and those from there on haven't
pub record Parts (living : List Living) (number index : ℕ) : Type 0 where
  pub within : index ≤ length living
  pub smaller : (before : ℕ) → before < index → (living_at living before).number < number
  pub others : (after : ℕ) → index ≤ after → after < length living → number ≤ (living_at living after).number
