-- What a story tells of the journal.
use Rattle.std.specs.Prelude.{◌≡◌, ℕ, List, Option}
use Rattle.std.specs.Option.{option_map}
use Rattle.cr_outside.specs.Story.{Change, Story, changes_of}

-- what the journal was at first, and its changes since
abbrev pub journal_told : Option Story → Option (List ℕ × List Change)
journal_told told = option_map (λ s. (s.journal, changes_of s.events)) told

-- The journal is as it was, and no change of it was made.
abbrev pub KeepsJournal : Option Story → Option Story → Type 0
KeepsJournal old new = journal_told new ≡ journal_told old
