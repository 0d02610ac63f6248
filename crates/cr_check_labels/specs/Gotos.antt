-- The label that a `goto` names (6.8.6.1p1): one on an item of a compound statement around it.
use Rattle.std.specs.Prelude.{◌+◌, ℕ, zero, suc, Bool, false, List, Option, None, Some, length, slice_get, if◌then◌else◌}
use Rattle.cr_syntax.specs.declared.node.Kind.{Kind}
use Rattle.cr_syntax.specs.declared.node.Kind.TheVariants as kind
use Rattle.cr_syntax.specs.declared.node.Node.{Node}
use Rattle.cr_rows.specs.Columns.{AreOf}
use Rattle.cr_check_labels.specs.Labelled.{Scene}
use Rattle.cr_check_labels.specs.Marks.{label_if}
use Rattle.cr_check_labels.specs.Again.{same_name}

-- a label by the compound statement that it is on an item of, and its name
abbrev pub item_label : Scene → ℕ → Option (ℕ × ℕ)
item_label s i = label_if (slice_get s.nodes i) s (s.around i).block

abbrev pub is_key : Option (ℕ × ℕ) → ℕ × ℕ → Bool
is_key None q = false
is_key (Some key) q = same_name key q

-- of so many nodes the last one that is such a label. The labels of a function differ, so there is one at the most
abbrev pub last_labelled : Scene → ℕ → ℕ × ℕ → Option ℕ
last_labelled s zero q = None
last_labelled s (suc i) q = if is_key (item_label s i) q then Some i else last_labelled s i q

abbrev pub else_by : Option ℕ → Option ℕ → Option ℕ
else_by None outer = outer
else_by (Some label) outer = Some label

-- from a compound statement outwards, over so many of them, the first label of a name
abbrev pub found_from : Scene → ℕ → Option ℕ → ℕ → Option ℕ
found_from s zero block name = None
found_from s (suc more) None name = None
found_from s (suc more) (Some block) name = else_by (last_labelled s (length s.nodes) (block, name)) (found_from s more (s.around block).block name)

-- the name stands behind the word `goto`
abbrev pub goto_by : Kind → Scene → ℕ → Node → Option ℕ
goto_by kind.Goto s i n = found_from s (length s.nodes) (s.around i).block (s.name (n.first + 1))
goto_by k s i n = None

abbrev pub goto_if : Option Node → Scene → ℕ → Option ℕ
goto_if None s i = None
goto_if (Some n) s i = goto_by n.kind s i n

abbrev pub goto_at : Scene → ℕ → Option ℕ
goto_at s i = goto_if (slice_get s.nodes i) s i

abbrev pub AreLabels : Scene → List (Option ℕ) → Type 0
AreLabels s labels = AreOf (goto_at s) None (length s.nodes) labels
