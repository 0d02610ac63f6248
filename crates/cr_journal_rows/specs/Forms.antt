-- The form of a journal's records, and what is read of one.
use Rattle.std.specs.Prelude.{◌≡◌, ℕ, zero, suc, ◌+◌, ◌<◌, ◌≤◌, ◌^◌, List, [], ◌∷◌, ◌++◌, All, map, length, take, drop, get_or, Option, Some, None, Result, Ok, Err}
use Rattle.std.specs.Global.{Vec}
use Rattle.std.specs.Int.{to_le_bytes, w16, w64}
use Rattle.cr_outside.specs.Story.{Story}
use Rattle.cr_outside_disk.specs.Moments.{seen}
use Rattle.cr_reduce.specs.declared.end.Accepted.{Accepted}
use Rattle.cr_journal_records.specs.Reading as reading
use Rattle.cr_journal_records.specs.Records.{Body, Reads, StandsFirst}
use Rattle.cr_journal_rows.specs.declared.fault.JournalFault.{JournalFault}
use Rattle.cr_journal_rows.specs.declared.fault.JournalFault.TheVariants.{NoMemory, Disk, Bad, Differs}
use Rattle.cr_journal_rows.specs.declared.header.Header.{Header}
use Rattle.cr_cursor.specs.Variants.{pass_count}

-- the last five bytes of a body
abbrev pub ending : List ℕ
ending = 0 ∷ 0 ∷ 0 ∷ 0 ∷ 0 ∷ []

-- passes, steps, limit, size
abbrev pub header_body : Header → Body
header_body h = to_le_bytes w16 h.passes ++ to_le_bytes w64 h.steps ++ to_le_bytes w64 h.limit ++ to_le_bytes w64 h.size ++ ending

-- pass, level, index, size, turn
abbrev pub row_body : Accepted → Body
row_body row = (row.at.pass ∷ row.at.level ∷ []) ++ to_le_bytes w64 row.at.index ++ to_le_bytes w64 row.size ++ to_le_bytes w64 row.turn ++ ending

-- the bodies of a journal's records
abbrev pub bodies_of : Header → List Accepted → List Body
bodies_of header rows = header_body header ∷ map row_body rows

-- the numbers of a row fit their bytes
pub record RowFits (row : Accepted) : Type 0 where
  pub index : row.at.index < 2 ^ 64
  pub size : row.size < 2 ^ 64
  pub turn : row.turn < 2 ^ 64

pub record HeaderFits (h : Header) : Type 0 where
  pub passes : h.passes < 2 ^ 16
  pub steps : h.steps < 2 ^ 64
  pub limit : h.limit < 2 ^ 64
  pub size : h.size < 2 ^ 64

abbrev pub HasEnding : Body → Type 0
HasEnding body = drop 26 body ≡ ending

-- A body of a row ends with five zero bytes, and its pass is one of ten.
abbrev pub HasRowForm : Body → Type 0
HasRowForm body = HasEnding body × (get_or body 0 0 < pass_count)

abbrev pub IsRowBody : Body → Accepted → Type 0
IsRowBody body row = (body ≡ row_body row) × (row.at.pass < pass_count) × RowFits row

-- the numbers of a header and of rows fit their bytes
abbrev pub AllFit : Header → List Accepted → Type 0
AllFit header rows = HeaderFits header × All RowFits rows

-- the form of the record of this number
abbrev pub HasForm : ℕ → Body → Type 0
HasForm zero body = HasEnding body
HasForm (suc i) body = HasRowForm body

-- Record i is the first of these that isn't in the form.
pub record IsFirstBad (bodies : List Body) (i : ℕ) : Type 0 where
  pub within : i < length bodies
  pub bad : HasForm i (get_or bodies i []) → ⊥
  pub before : (j : ℕ) → j < i → HasForm j (get_or bodies j [])

-- What recovery answers of an image: nothing where no header stands; the header and the rows that stand; the first record that
-- isn't in the form.
abbrev pub Recovers : List ℕ → Result (Option (Header × Vec Accepted)) JournalFault → Type 0
Recovers image (Ok None) = StandsFirst image → ⊥
Recovers image (Ok (Some (header, rows))) = (rest : List ℕ) × Reads image (bodies_of header rows.items) rest × All (λ row. row.at.pass < pass_count) rows.items
Recovers image (Err (Bad i)) = (bodies : List Body) × (rest : List ℕ) × Reads image bodies rest × IsFirstBad bodies i
Recovers image (Err _) = Unit {0}

-- of what a read of the disk gives, where it is told
abbrev pub RecoversTold : Option Story → Result (Option (Header × Vec Accepted)) JournalFault → Type 0
RecoversTold None result = Unit {0}
RecoversTold (Some s) result = Recovers (seen s) result

-- what is read of bodies
abbrev pub ReadsBodies : List (Vec ℕ) → Result (Option (Header × Vec Accepted)) JournalFault → Type 0
ReadsBodies bodies (Ok None) = bodies ≡ []
ReadsBodies bodies (Ok (Some (header, rows))) = (reading.bodies_of bodies ≡ bodies_of header rows.items) × All (λ row. row.at.pass < pass_count) rows.items × AllFit header rows.items
ReadsBodies bodies (Err (Bad i)) = All (λ body. length body ≡ 31) (reading.bodies_of bodies) → IsFirstBad (reading.bodies_of bodies) i
ReadsBodies bodies (Err (Differs i)) = ⊥
ReadsBodies bodies (Err Disk) = ⊥
ReadsBodies bodies (Err NoMemory) = Unit {0}

-- Of the bodies behind the header's, row i, from 1, is the first that isn't in the form.
pub record IsFirstBadRow (bodies : List Body) (i : ℕ) : Type 0 where
  pub row : ℕ
  pub is : i ≡ row + 1
  pub within : row < length bodies
  pub bad : HasRowForm (get_or bodies row []) → ⊥
  pub before : (j : ℕ) → j < row → HasRowForm (get_or bodies j [])

abbrev pub ReadsRows : List (Vec ℕ) → Result (Vec Accepted) JournalFault → Type 0
ReadsRows bodies (Ok rows) = (reading.bodies_of bodies ≡ map row_body rows.items) × All (λ row. row.at.pass < pass_count) rows.items × All RowFits rows.items
ReadsRows bodies (Err (Bad i)) = All (λ body. length body ≡ 31) (reading.bodies_of bodies) → IsFirstBadRow (reading.bodies_of bodies) i
ReadsRows bodies (Err (Differs i)) = ⊥
ReadsRows bodies (Err Disk) = ⊥
ReadsRows bodies (Err NoMemory) = Unit {0}

-- two rows with one body are one
abbrev pub OneRow : Type 0
OneRow = (a b : Accepted) → RowFits a → RowFits b → row_body a ≡ row_body b → a ≡ b

-- and two headers
abbrev pub OneHeader : Type 0
OneHeader = (a b : Header) → HeaderFits a → HeaderFits b → header_body a ≡ header_body b → a ≡ b
