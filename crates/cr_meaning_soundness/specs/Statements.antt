-- Where statements stand, and what initialisers set (C11 6.7.9, 6.8).
use Rattle.std.specs.Prelude.{◌≡◌, ℕ, suc, true, false, Option, Some, List, [], ◌∷◌, ◌++◌, map, take, drop, slice_get}
use Rattle.std.specs.List.{AllByRecursion}
use Rattle.cr_ints.specs.declared.kind.IntKind.TheVariants.{Char as CharKind, SChar as SCharKind, UChar as UCharKind}
use Rattle.cr_meaning.specs.World.{Program}
use Rattle.cr_meaning.specs.Values.{kinds_in, cells_in}
use Rattle.cr_meaning.specs.declared.op.Op.{Op}
use Rattle.cr_meaning.specs.declared.op.Form.{Form}
use Rattle.cr_meaning.specs.declared.op.Form.TheVariants as form
use Rattle.cr_meaning.specs.declared.op.Line.{Line}
use Rattle.cr_meaning.specs.declared.op.Target.{Target}
use Rattle.cr_meaning_soundness.specs.Sorts.{Exits, Sort, void, number, place, cells, chars, statement, sort_of_scalar, sorts_in}

-- ---- parts

-- the part in the k-th place has such a sort, if it has one
abbrev pub Has : (ℕ → Option Sort) → Op → ℕ → (Sort → Type 0) → Type 0
Has sorts op k P = (node : ℕ) (sort : Sort) → slice_get op.parts k ≡ Some node → sorts node ≡ Some sort → P sort

abbrev pub HasSort : (ℕ → Option Sort) → ℕ → Type 0
HasSort sorts node = (sort : Sort) × (sorts node ≡ Some sort)

-- a part that need not be there
abbrev pub MayHaveSort : (ℕ → Option Sort) → Option ℕ → Type 0
MayHaveSort sorts part = (node : ℕ) → part ≡ Some node → HasSort sorts node

-- ---- where a statement stands (6.8.6)

-- the body of a function: in no loop, no `switch` and no block
abbrev pub of_function : Form → Exits
of_function result = record { breaks = false; continues = false; labels = []; result = result }

-- the body of a loop may be left by `break` and `continue` (6.8.6.2p1, 6.8.6.3p1)
abbrev pub in_loop : Exits → Exits
in_loop exits = record exits { breaks = true; continues = true }

-- the items of a block may be left for its labels (6.8.6.1p1)
abbrev pub labelled_by : List Target → List ℕ → List ℕ
labelled_by targets labels = map (λ target. target.label) targets ++ labels

abbrev pub in_block : List Target → Exits → Exits
in_block targets exits = record exits { labels = labelled_by targets exits.labels }

-- those of a `switch` by `break` too
abbrev pub in_switch : List Target → Exits → Exits
in_switch targets exits = record (in_block targets exits) { breaks = true }

-- a statement's or a declaration's own sort, and what holds of its exits
abbrev pub IsStatement : Sort → (Exits → Type 0) → Type 0
IsStatement (statement exits) P = P exits
IsStatement sort P = ⊥

-- the body of a function without a value has no `return` with one, and any other `return` has one (6.8.6.4p1)
abbrev pub HasResult : List ℕ → Form → Type 0
HasResult [] form.Void = Unit {0}
HasResult [] form = ⊥
HasResult (first ∷ rest) form = Unit {0}

-- ---- conversions

-- a value of this sort may be converted to the type as if by assignment: a structure has the structure's cells (6.5.16.1p1)
abbrev pub Converts : Program → Form → Sort → Type 0
Converts p form.Void sort = sort ≡ void
Converts p (form.Cells row) sort = sort ≡ cells (p.kinds row)
Converts p other sort = Unit {0}

-- ---- initialisers (6.7.9)

-- the sorts of a type's cells
abbrev pub sorts_of : Program → Form → List Sort
sorts_of p form = map sort_of_scalar (kinds_in p form)

-- the sort of a character type (6.2.5p15)
abbrev pub IsCharacter : Sort → Type 0
IsCharacter (number CharKind) = Unit {0}
IsCharacter (number SCharKind) = Unit {0}
IsCharacter (number UCharKind) = Unit {0}
IsCharacter sort = ⊥

-- a literal initialises an array of a character type (6.7.9p14), and any other value is converted as if by assignment (6.7.9p11, p13)
abbrev pub Initialises : Program → Form → Sort → Type 0
Initialises p form chars = AllByRecursion IsCharacter (sorts_of p form)
Initialises p form (place count) = ⊥
Initialises p form sort = Converts p form sort

-- the part of the object has the cells of the initialiser's type
abbrev pub HasCells : Program → ℕ → Line → Type 0
HasCells p declared line = take (cells_in p line.form) (drop line.cell (sorts_in (p.shape declared))) ≡ sorts_of p line.form

abbrev pub AreLines : Program → (ℕ → Option Sort) → Op → ℕ → ℕ → List Line → Type 0
AreLines p sorts op declared k [] = Unit {0}
AreLines p sorts op declared k (line ∷ lines) =
    (HasCells p declared line × Has sorts op k (Initialises p line.form)) × AreLines p sorts op declared (suc k) lines
