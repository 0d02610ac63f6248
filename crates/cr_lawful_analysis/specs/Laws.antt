-- Laws of what is read of a file.
use Rattle.std.specs.Prelude.{◌≡◌, ℕ, List}
use Rattle.cr_lawful_analysis.specs.Analysis.{IsRead, Read}

-- a file is read in one way at most
abbrev pub IsReadOnce : Type 0
IsReadOnce = (file : List ℕ) (read other : Read) → IsRead file read → IsRead file other → read ≡ other
