-- A worker's list of entries, the last claim last, and what is counted in it.
use Rattle.std.specs.Prelude.{◌≡◌, ◌≢◌, ℕ, ◌+◌, ◌-◌, ◌*◌, List, [], ◌∷◌}
use Rattle.cr_core.specs.declared.marks.HitKind.{HitKind}
use Rattle.cr_core.specs.declared.marks.HitKind.TheVariants.{Yes, Failed, Starved}
use Rattle.cr_core.specs.declared.marks.Mark.{Mark}
use Rattle.cr_core.specs.declared.marks.Mark.TheVariants.{Open, No, Hit, Skipped}
use Rattle.cr_core.specs.declared.marks.Entry.{Entry}

abbrev pub Row : Type 0
Row = List Entry

-- the kinds by number: where two hits meet at a position, which they never do, the lower number would count
abbrev pub kind_no : HitKind → ℕ
kind_no Yes = 0
kind_no Failed = 1
kind_no Starved = 2

-- a number for each mark, so that marks can be counted
abbrev pub mark_no : Mark → ℕ
mark_no Open = 0
mark_no No = 1
mark_no Skipped = 2
mark_no (Hit k) = 3 + kind_no k

-- the word of a hit: hits are ordered by it
abbrev pub word : ℕ → HitKind → ℕ
word p k = 4 * p + kind_no k

-- the least word before any hit, above the word of each position below the length
abbrev pub opening : ℕ → ℕ
opening len = 4 * len + 3

-- 0 exactly where two numbers are equal
abbrev pub apart : ℕ → ℕ → ℕ
apart a b = (a - b) + (b - a)

-- 1 where a is below b, else 0
abbrev pub below : ℕ → ℕ → ℕ
below a b = 1 - ((a + 1) - b)

-- how often a position stands in a list
abbrev pub placed : ℕ → Row → ℕ
placed p [] = 0
placed p (e ∷ es) = (1 - apart p e.position) + placed p es

-- how many entries of a list are below the length
abbrev pub under : ℕ → Row → ℕ
under len [] = 0
under len (e ∷ es) = below e.position len + under len es

-- how often it stands there with a mark
abbrev pub marked : ℕ → Mark → Row → ℕ
marked p m [] = 0
marked p m (e ∷ es) = (1 - (apart p e.position + apart (mark_no m) (mark_no e.mark))) + marked p m es

-- how often it stands with any mark, in whatever lists a sum counts
abbrev pub with_any_mark : ((Row → ℕ) → ℕ) → ℕ → ℕ
with_any_mark sum p = sum (marked p Open) + sum (marked p No) + sum (marked p Skipped)
    + sum (marked p (Hit Yes)) + sum (marked p (Hit Failed)) + sum (marked p (Hit Starved))

-- how many entries are out of order: at a position not above the one before (the first: below `low`), or open and not the last
abbrev pub disorder : ℕ → Row → ℕ
disorder low [] = 0
disorder low (e ∷ []) = low - e.position
disorder low (e ∷ f ∷ es) = ((low - e.position) + (1 - mark_no e.mark)) + disorder (e.position + 1) (f ∷ es)

-- how many entries, the last not among them, are at or past the length
abbrev pub early : ℕ → Row → ℕ
early len [] = 0
early len (e ∷ []) = 0
early len (e ∷ f ∷ es) = (1 - (len - e.position)) + early len (f ∷ es)

-- 1 where the last entry is at or past the length, else 0
abbrev pub past : ℕ → Row → ℕ
past len [] = 0
past len (e ∷ []) = 1 - (len - e.position)
past len (e ∷ f ∷ es) = past len (f ∷ es)

-- the position of the last entry; 0 where there is none
abbrev pub last_position : Row → ℕ
last_position [] = 0
last_position (e ∷ []) = e.position
last_position (e ∷ f ∷ es) = last_position (f ∷ es)

-- the mark of the last entry; a list with no entry has nothing open
abbrev pub last_mark : Row → Mark
last_mark [] = No
last_mark (e ∷ []) = e.mark
last_mark (e ∷ f ∷ es) = last_mark (f ∷ es)

-- the entry is the last one
abbrev pub IsLast : Row → Entry → Type 0
IsLast l e = (l ≢ []) × (last_position l ≡ e.position) × (last_mark l ≡ e.mark)

-- the list with another mark at its last entry
abbrev pub with_last : Mark → Row → Row
with_last m [] = []
with_last m (e ∷ []) = record { position = e.position; mark = m } ∷ []
with_last m (e ∷ f ∷ es) = e ∷ with_last m (f ∷ es)
