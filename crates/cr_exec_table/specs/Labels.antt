-- What a label adds to those of a block.
use Rattle.std.specs.Prelude.{◌≡◌, ℕ, Bool, true, false, ◌||◌, Option, Some, None, List, [], ◌∷◌, ◌++◌, slice_index_or, if◌then◌else◌}
use Rattle.cr_meaning.specs.declared.op.Case.{Case}
use Rattle.cr_meaning.specs.declared.op.Target.{Target}
use Rattle.cr_syntax.specs.declared.node.Kind.{Kind}
use Rattle.cr_typed.specs.declared.typed.Typed.{Typed}
use Rattle.cr_meaning_operations.specs.Operations.{kind_at, part_at, is_case, is_default, is_mark, value_or, case_of, target_of}
use Rattle.cr_exec_table.specs.declared.labels.Labels.{Labels}

-- the first item with `default`, once one more item is looked at
abbrev pub default_after : Option ℕ → Bool → ℕ → Option ℕ
default_after (Some first) has number = Some first
default_after None true number = Some number
default_after None false number = None

abbrev pub is_label : Kind → Bool
is_label kind = is_case kind || (is_default kind || is_mark kind)

abbrev pub own_case : Typed → ℕ → ℕ → List Case
own_case t number node =
    if is_case (kind_at t node) then case_of number (value_or (slice_index_or t.constants (part_at t node 0) None)) ∷ [] else []

abbrev pub own_target : Typed → ℕ → ℕ → List Target
own_target t number node = if is_mark (kind_at t node) then target_of number node ∷ [] else []

-- whether a node is a label, and what it adds as one of an item
pub record IsAdded (t : Typed) (number node : ℕ) (old new : Labels) (label : Bool) : Type 0 where
  pub told : label ≡ is_label (kind_at t node)
  pub cases : new.cases.items ≡ old.cases.items ++ own_case t number node
  pub default : new.default ≡ default_after old.default (is_default (kind_at t node)) number
  pub targets : new.targets.items ≡ old.targets.items ++ own_target t number node
