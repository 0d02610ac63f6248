-- What a reader expects of typed units.
use Rattle.std.specs.Prelude.{◌≡◌, ℕ, List}
use Rattle.cr_typed_columns.specs.Reading.{Parsed}
use Rattle.cr_typed.specs.declared.typed.Typed.{Typed}
use Rattle.cr_typed_columns.specs.declared.checked.CheckedColumns.{CheckedColumns}
use Rattle.cr_typed_columns.specs.Names.{ref_of, duration_of, named_of}
use Rattle.cr_typed_columns.specs.Expressions.{type_of_node, constant_of, valued_of, chosen_of}
use Rattle.cr_typed_columns.specs.Functions.{parameters_of}
use Rattle.cr_typed_columns.specs.Columns.{member_types, layout_at, plan_entries, IsElaborated}

-- the same was checked of each node, whatever tables the types stand in
pub record AreAlike (u : Parsed) (j k : CheckedColumns) : Type 0 where
  pub types : (i : ℕ) → type_of_node j i ≡ type_of_node k i
  pub refs : (i : ℕ) → ref_of u j i ≡ ref_of u k i
  pub valued : (i : ℕ) → valued_of u.nodes j i ≡ valued_of u.nodes k i
  pub named : (i : ℕ) → named_of u j i ≡ named_of u k i
  pub durations : (i : ℕ) → duration_of u.nodes j i ≡ duration_of u.nodes k i
  pub constants : (i : ℕ) → constant_of j i ≡ constant_of k i
  pub layouts : (i : ℕ) → layout_at j i ≡ layout_at k i
  pub members : (i : ℕ) → member_types u.nodes j i ≡ member_types u.nodes k i
  pub chosen : (i : ℕ) → chosen_of u.nodes j i ≡ chosen_of u.nodes k i
  pub parameters : (i : ℕ) → parameters_of u j i ≡ parameters_of u k i
  pub plans : (i : ℕ) → plan_entries j i ≡ plan_entries k i

-- of two checks that are alike the typed units are the same
abbrev pub OneTyped : Type 0
OneTyped = (file : List ℕ) (u : Parsed) (texts : List (List ℕ)) (j k : CheckedColumns) (s t : Typed)
    → AreAlike u j k → IsElaborated file u texts j s → IsElaborated file u texts k t → s ≡ t
