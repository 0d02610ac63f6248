-- Expressions without a side effect (C11 5.1.2.3p2): no assignment, `++`, `--`, call or read of a volatile object in them.
use Rattle.std.specs.Prelude.{◌≡◌, ℕ, Bool, true, false, not, Some, List, slice_get}
use Rattle.std.specs.List.{list_any}
use Rattle.cr_meaning.specs.Events.{Event, is_side_effect}
use Rattle.cr_meaning.specs.World.{Program}
use Rattle.cr_meaning.specs.declared.op.Op.{Op}
use Rattle.cr_meaning.specs.declared.op.Access.{Access}
use Rattle.cr_meaning.specs.declared.op.Access.TheVariants as access
use Rattle.cr_meaning.specs.declared.op.Work.{Work}
use Rattle.cr_meaning.specs.declared.op.Work.TheVariants as work

abbrev pub is_quiet_work : Work → Bool
is_quiet_work (work.Constant kind value) = true
is_quiet_work (work.Object node of) = true
is_quiet_work work.Pass = true
is_quiet_work work.Comma = true
is_quiet_work (work.Conditional form) = true
is_quiet_work work.LogicalAnd = true
is_quiet_work work.LogicalOr = true
is_quiet_work (work.Binary change) = true
is_quiet_work (work.Compare relation kind) = true
is_quiet_work (work.ComparePointers relation) = true
is_quiet_work (work.Distance cells) = true
is_quiet_work (work.Unary sign kind) = true
is_quiet_work work.Not = true
is_quiet_work (work.Cast form) = true
is_quiet_work work.AddressOf = true
is_quiet_work (work.Dereference cells) = true
is_quiet_work (work.Subscript cells) = true
is_quiet_work (work.Member whole before count form) = true
is_quiet_work (work.PointerMember whole before count) = true
is_quiet_work other = false

abbrev pub is_quiet_access : Access → Bool
is_quiet_access (access.Scalar kind volatile) = not volatile
is_quiet_access other = true

-- a node's operation has no side effect, and its operands are such nodes
pub record IsQuiet (q : ℕ → Bool) (op : Op) : Type 0 where
  pub work : is_quiet_work op.work ≡ true
  pub access : is_quiet_access op.access ≡ true
  pub parts : (k m : ℕ) → slice_get op.parts k ≡ Some m → q m ≡ true

-- a mark of nodes that only such nodes have
abbrev pub AreQuiet : Program → (ℕ → Bool) → Type 0
AreQuiet p q = (node : ℕ) (op : Op) → q node ≡ true → slice_get p.ops node ≡ Some op → IsQuiet q op

-- all events are reads
abbrev pub is_noisy : Event → Bool
is_noisy event = is_side_effect event.deed

abbrev pub AreReads : List Event → Type 0
AreReads events = list_any is_noisy events ≡ false
