-- Files whose run doesn't hang on the order of operands, and why others do.
use Rattle.std.specs.Prelude.{◌≡◌, ℕ, suc, Bool, true, false, List, [], ◌∷◌, Option, None, Some, length, slice_get, if◌then◌else◌}
use Rattle.cr_check_enclosing.specs.Above.{above_of}
use Rattle.cr_syntax.specs.declared.node.Kind.{Kind}
use Rattle.cr_syntax.specs.declared.node.Kind.TheVariants as kind
use Rattle.cr_syntax.specs.declared.node.Node.{Node}
use Rattle.cr_typed.specs.declared.typed.Typed.{Typed}
use Rattle.cr_meaning.specs.Language.{Reply}
use Rattle.cr_meaning.specs.World.{Program, World, Answer, Halt}
use Rattle.cr_meaning.specs.Meaning.{start_of, run_of}
use Rattle.cr_meaning.specs.declared.run.Limits.{Limits}
use Rattle.cr_meaning.specs.declared.run.Run.{Run}
use Rattle.cr_meaning.specs.declared.run.Run.TheVariants as run
use Rattle.cr_meaning_operations.specs.Operations.{program_of}
use Rattle.cr_meaning_seen.specs.Seen.{Forest, Sees}
use Rattle.cr_meaning_orders.specs.AnyOrder.{whole_of}
use Rattle.cr_meaning_orders.specs.Fixed.{IsOrderFixed}
use Rattle.cr_meaning_loose.specs.Lists.{Lists, around}
use Rattle.cr_meaning_loose.specs.Loose.{Judged}
use Rattle.cr_cursor.specs.declared.law.Reason.{Reason}
use Rattle.cr_cursor.specs.declared.law.Reason.TheVariants as reason
use Rattle.cr_cursor.specs.declared.law.Ruling.{Ruling}
use Rattle.cr_cursor.specs.declared.law.Ruling.TheVariants as ruling
use Rattle.cr_lawful.specs.Lawful.{IsLawful, IsReason, IsTypedUnit, node_line}

-- The file is lawful, and in its program's run no operand, argument or initialiser sees what another one of the same evaluation does (C11 6.5p3,
-- 6.5.2.2p10, 6.7.9p23).
pub record IsLawfulInOrder (limits : Limits) (file : List ℕ) : Type 0 where
  pub lawful : IsLawful limits file
  pub fixed : IsOrderFixed (program_of lawful.typed limits)

-- ---- initialiser lists (6.7.9)

abbrev pub is_list_kind : Kind → Bool
is_list_kind kind.InitializerList = true
is_list_kind other = false

abbrev pub is_list : Option Node → Bool
is_list None = false
is_list (Some node) = is_list_kind node.kind

-- the list of which a node is an initialiser, by the node above it
abbrev pub only_list : List Node → Option ℕ → Option ℕ
only_list nodes None = None
only_list nodes (Some above) = if is_list (slice_get nodes above) then Some above else None

abbrev pub outer_from : List Node → ℕ → List Node → List (Option ℕ)
outer_from nodes number [] = []
outer_from nodes number (node ∷ rest) = only_list nodes (above_of nodes (length nodes) number) ∷ outer_from nodes (suc number) rest

-- for each node that list, where it is one
abbrev pub outer_of : Typed → List (Option ℕ)
outer_of t = outer_from t.nodes 0 t.nodes

-- The program's run from left to right ends (5.1.2.2.3), and of the evaluations of nodes in it, and of initialiser lists, this one is the first whose
-- operands see one another: the first to end, or of those that `exit` or `abort` cut off the innermost. A list ends behind its last initialiser.
pub record IsLooseFirst (p : Program) (lists : Lists) (loose : ℕ) : Type 0 where
  pub reply : Reply Answer World Halt
  pub forest : Forest
  pub status : ℕ
  pub output : List ℕ
  pub steps : ℕ
  pub seen : Sees p (whole_of p) (start_of p.limits) reply forest
  pub ends : run_of p.limits reply ≡ Some (run.Ended status output steps)
  pub first : Judged p lists forest (Some loose)

-- The reason against a file: that of the law of programs; or, where it is lawful by that, N8, on the line of the first node whose operands see one
-- another. Of initialisers it is the innermost list that has both, at its brace.
pub data IsOrderReason (limits : Limits) (file : List ℕ) : Reason → Type 0 where
  of_law : {why : Reason} → IsReason limits file why → IsOrderReason limits file why
  of_order : (typed : Typed) (loose : ℕ) {why : Reason} → IsTypedUnit file typed → IsLooseFirst (program_of typed limits) (around (outer_of typed)) loose
      → why ≡ reason.Left 8 (node_line file typed loose) → IsOrderReason limits file why

-- what a run comes to by this law: one that ended leaves the profile where this node's operands see one another
abbrev pub ended_in_order : Run → Option ℕ → Run
ended_in_order (run.Ended status output steps) (Some loose) = run.Left 8 loose
ended_in_order other loose = other

-- what a ruling says of a file within limits; Stopped, that the stop was raised
abbrev pub OrderRules : Limits → List ℕ → Bool → Ruling → Type 0
OrderRules limits file raised ruling.Lawful = IsLawfulInOrder limits file
OrderRules limits file raised (ruling.Unlawful why) = IsOrderReason limits file why
OrderRules limits file raised ruling.Stopped = raised ≡ true
OrderRules limits file raised ruling.NoMemory = Unit {0}
