-- What a pass offers for one file: edits by levels.
use Rattle.std.specs.Prelude.{ℕ, ◌≤◌, List, [], slice_index_or, slice_range}
use Rattle.pass_edit.specs.declared.change.Change.{Change}
use Rattle.pass_edit.specs.declared.edits.Span.{Span}
use Rattle.pass_edit.specs.declared.form.Kept.{Kept}
use Rattle.pass_edit.specs.Edit.{edited}

-- the changes of one edit among all
abbrev pub cut : List Change → Span → List Change
cut changes span = slice_range changes span.from span.to

-- a span of a list of so many changes
abbrev pub LiesIn : ℕ → Span → Type 0
LiesIn count span = (span.from ≤ span.to) × (span.to ≤ count)

-- edits by levels, and what their texts keep
pub record Offering : Type 0 where
  pub levels : List (List (List Change))
  pub kept : Kept

-- the edits of a level; one that isn't there has none
abbrev pub level_of : Offering → ℕ → List (List Change)
level_of offering level = slice_index_or offering.levels level []

-- the file after one edit of a level
abbrev pub entry_of : List ℕ → Offering → ℕ → ℕ → List ℕ
entry_of file offering level at = edited file offering.kept (slice_index_or (level_of offering level) at [])
