-- Files whose run reaches a statement with a label and evaluates its own expression whole, and why others don't.
use Rattle.std.specs.Prelude.{◌≡◌, ℕ, Bool, true, false, ◌&&◌, List, Option, None, Some, slice_get}
use Rattle.std.specs.List.{position_or_len}
use Rattle.std.specs.Str.{bytes_eq}
use Rattle.cr_syntax.specs.declared.node.Node.{Node}
use Rattle.cr_typed.specs.declared.typed.Typed.{Typed}
use Rattle.cr_meaning.specs.Language.{Reply}
use Rattle.cr_meaning.specs.World.{Program, World, Answer, Halt}
use Rattle.cr_meaning.specs.Meaning.{start_of}
use Rattle.cr_meaning.specs.declared.run.Limits.{Limits}
use Rattle.cr_meaning.specs.declared.run.Run.{Run}
use Rattle.cr_meaning.specs.declared.run.Run.TheVariants as run
use Rattle.cr_meaning_operations.specs.Operations.{is_mark, program_of, spelling_if}
use Rattle.cr_meaning_seen.specs.Seen.{Forest, Sees}
use Rattle.cr_meaning_orders.specs.AnyOrder.{whole_of}
use Rattle.cr_meaning_loose.specs.Lists.{Lists}
use Rattle.cr_cursor.specs.declared.law.Reason.{Reason}
use Rattle.cr_cursor.specs.declared.law.Reason.TheVariants as reason
use Rattle.cr_cursor.specs.declared.law.Ruling.{Ruling}
use Rattle.cr_cursor.specs.declared.law.Ruling.TheVariants as ruling
use Rattle.cr_lawful.specs.Lawful.{IsLawful, IsReason, IsTypedUnit, node_line}
use Rattle.cr_order.specs.Orders.{IsLawfulInOrder, IsOrderReason}
use Rattle.cr_order_watch.specs.Judged.{IsJudged}
use Rattle.cr_reached.specs.Evaluated.{IsEvaluated}
use Rattle.cr_reached.specs.Own.{IsOwn}

-- ---- labels (C11 6.8.1)

-- the node is a label of this name
abbrev pub is_named : Typed → List ℕ → Node → Bool
is_named t name node = is_mark node.kind && bytes_eq (spelling_if t.file (slice_get t.tokens node.first)) name

abbrev pub is_named_if : Typed → List ℕ → Option Node → Bool
is_named_if t name None = false
is_named_if t name (Some node) = is_named t name node

abbrev pub IsLabel : Typed → List ℕ → ℕ → Type 0
IsLabel t name node = is_named_if t name (slice_get t.nodes node) ≡ true

-- the first label of the name, or no node
abbrev pub first_label : Typed → List ℕ → ℕ
first_label t name = position_or_len (is_named t name) t.nodes

-- ---- what is asked of a run

-- Some statement with this label is reached in the unit's run from left to right, and whatever its own expression has is evaluated in it, not all of it
-- at one time (5.1.2.3p2): no operand of `&&`, `||` and `?:` is left out (6.5.13p4, 6.5.14p4, 6.5.15p4).
pub record IsReachedIn (limits : Limits) (name : List ℕ) (typed : Typed) : Type 0 where
  pub label : ℕ
  pub named : IsLabel typed name label
  pub reply : Reply Answer World Halt
  pub forest : Forest
  pub seen : Sees (program_of typed limits) (whole_of (program_of typed limits)) (start_of (program_of typed limits).limits) reply forest
  pub whole : (own : ℕ) → IsOwn (program_of typed limits) label own → IsEvaluated forest own

-- an answer on it
pub record TellsReached (limits : Limits) (name : List ℕ) (typed : Typed) (answer : Bool) : Type 0 where
  pub yes : answer ≡ true → IsReachedIn limits name typed
  pub no : answer ≡ false → IsReachedIn limits name typed → ⊥

-- ---- beside another law

-- the file is lawful by the other one, and its run is such
pub record IsLawfulAndReached (Lawful : List ℕ → Type 0) (limits : Limits) (name file : List ℕ) : Type 0 where
  pub lawful : Lawful file
  pub typed : Typed
  pub of_file : IsTypedUnit file typed
  pub reached : IsReachedIn limits name typed

-- The reason against a file: that of the other law; or, where it is lawful by that, N9, on the line of the first label of the name, or line 1 where there
-- is none.
pub data IsReasonOrUnreached (Lawful : List ℕ → Type 0) (Against : List ℕ → Reason → Type 0) (limits : Limits) (name file : List ℕ) : Reason → Type 0 where
  of_law : {why : Reason} → Against file why → IsReasonOrUnreached Lawful Against limits name file why
  of_label : (typed : Typed) {why : Reason} → Lawful file → IsTypedUnit file typed → (IsReachedIn limits name typed → ⊥)
      → why ≡ reason.Left 9 (node_line file typed (first_label typed name)) → IsReasonOrUnreached Lawful Against limits name file why

-- ---- the laws that it stands beside: that of programs, and of programs whose run hangs on no order of operands

abbrev pub lawful_in : Bool → Limits → List ℕ → Type 0
lawful_in false limits file = IsLawful limits file
lawful_in true limits file = IsLawfulInOrder limits file

abbrev pub against_in : Bool → Limits → List ℕ → Reason → Type 0
against_in false limits file why = IsReason limits file why
against_in true limits file why = IsOrderReason limits file why

abbrev pub IsLawfulReached : Bool → Limits → List ℕ → List ℕ → Type 0
IsLawfulReached any_order limits name file = IsLawfulAndReached (lawful_in any_order limits) limits name file

abbrev pub IsReachReason : Bool → Limits → List ℕ → List ℕ → Reason → Type 0
IsReachReason any_order limits name file why = IsReasonOrUnreached (lawful_in any_order limits) (against_in any_order limits) limits name file why

-- the law on orders has looked for the first node or list whose operands see one another, where it is asked for
abbrev pub IsJudgedIf : Bool → Program → Lists → Run → Option ℕ → Type 0
IsJudgedIf false p lists outcome loose = loose ≡ None
IsJudgedIf true p lists outcome loose = IsJudged p lists outcome loose

-- what a run comes to by this law: one that ended leaves the profile at this label, where that wasn't reached
abbrev pub ended_reached : Run → Bool → ℕ → Run
ended_reached (run.Ended status output steps) false label = run.Left 9 label
ended_reached other reached label = other

-- what a ruling says of a file within limits; Stopped, that the stop was raised
abbrev pub ReachRules : Bool → Limits → List ℕ → List ℕ → Bool → Ruling → Type 0
ReachRules any_order limits name file raised ruling.Lawful = IsLawfulReached any_order limits name file
ReachRules any_order limits name file raised (ruling.Unlawful why) = IsReachReason any_order limits name file why
ReachRules any_order limits name file raised ruling.Stopped = raised ≡ true
ReachRules any_order limits name file raised ruling.NoMemory = Unit {0}
