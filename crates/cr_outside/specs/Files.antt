-- Files: an optional map from names to bytes. A name and a file are lists of bytes.
use Rattle.std.specs.Prelude.{◌≡◌, ℕ, List, take, Option, Some, None}
use Rattle.std.specs.Ordering.{nat_cmp}
use Rattle.std.specs.Cmp.Lexicographic.{slice_cmp}
use Rattle.std.specs.FinMap as map
use Rattle.std.specs.FinMap.{FinMap}
use Rattle.std.specs.Option.{option_map}
use Rattle.cr_outside.specs.declared.files.ReadAnswer.{ReadAnswer}
use Rattle.cr_outside.specs.declared.files.ReadAnswer.TheVariants.{Bytes, Absent}

abbrev pub Names : Type 0
Names = FinMap (slice_cmp nat_cmp) (List ℕ)

abbrev pub content_of : Names → List ℕ → Option (List ℕ)
content_of files name = map.get files name

abbrev pub with_file : List ℕ → List ℕ → Names → Names
with_file name bytes files = map.insert files name bytes

-- the map where it is told, with this file put
abbrev pub put_told : List ℕ → List ℕ → Option Names → Option Names
put_told name bytes told = option_map (with_file name bytes) told

-- Of a file that is there, the first bytes, as many as asked for.
abbrev pub Shows : Option (List ℕ) → ℕ → List ℕ → Type 0
Shows None most bytes = ⊥
Shows (Some whole) most bytes = bytes ≡ take most whole

-- What a read answers where the map is told.
abbrev pub Reads : Option Names → List ℕ → ℕ → ReadAnswer → Type 0
Reads (Some files) name most (Bytes bytes) = Shows (content_of files name) most bytes.items
Reads (Some files) name most Absent = content_of files name ≡ None
Reads _ _ _ _ = Unit {0}
