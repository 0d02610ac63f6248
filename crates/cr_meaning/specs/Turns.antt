-- Which part of a node comes next (C11 6.5, 6.8), by the answers of its parts so far.
use Rattle.std.specs.Prelude.{ℕ, suc, ◌==◌, ℤ, int_le, ◌&&◌, Bool, true, false, Option, Some, None, List, [], ◌∷◌, ◌++◌, length, drop, replicate, slice_get, if◌then◌else◌}
use Rattle.cr_ints.specs.declared.kind.IntKind.{IntKind}
use Rattle.cr_ints.specs.Conversions.{convert_of}
use Rattle.cr_meaning.specs.World.{Answer, part, next, continued, jumped}
use Rattle.cr_meaning.specs.Values.{truth, truth_of}
use Rattle.cr_meaning.specs.declared.op.Op.{Op}
use Rattle.cr_meaning.specs.declared.op.Case.{Case}
use Rattle.cr_meaning.specs.declared.op.Target.{Target}
use Rattle.cr_meaning.specs.declared.op.Callee.{Callee}
use Rattle.cr_meaning.specs.declared.op.Callee.TheVariants.{Function}
use Rattle.cr_meaning.specs.declared.op.Work.{Work}
use Rattle.cr_meaning.specs.declared.op.Work.TheVariants as work
use Rattle.cr_meaning.specs.declared.value.Value.TheVariants.{Number}

-- how a node goes on
pub data Way : Type 0 where
  -- with a part
  Operand : ℕ → Way
  -- with a part, after work on the world
  Enter : ℕ → Way
  -- as if its parts had answered so, after work on the world
  Resume : List Answer → Way
  -- with its own work: no part is left
  Ready : Way

abbrev pub operand : Option ℕ → Way
operand None = Ready
operand (Some node) = Operand node

abbrev pub entering : Option ℕ → Way
entering None = Ready
entering (Some node) = Enter node

-- the next part in turn
abbrev pub in_turn : List ℕ → List Answer → Way
in_turn parts done = operand (slice_get parts (length done))

-- the value of an expression compares unequal to 0; nothing where there is no value
abbrev pub answer_truth : Answer → Option Bool
answer_truth (part value events) = truth_of value
answer_truth other = None

-- the one way for a true value, the other for a false one; a node without a value to go by is ready, and U15 is in its work
abbrev pub choose : Option Bool → Way → Way → Way
choose None one other = Ready
choose (Some true) one other = one
choose (Some false) one other = other

-- ---- expressions

-- `&&` (6.5.13p4), `||` (6.5.14p4), `?:` (6.5.15p4)
abbrev pub and_next : List ℕ → List Answer → Way
and_next parts (left ∷ []) = choose (answer_truth left) (operand (slice_get parts 1)) Ready
and_next parts done = in_turn parts done

abbrev pub or_next : List ℕ → List Answer → Way
or_next parts (left ∷ []) = choose (answer_truth left) Ready (operand (slice_get parts 1))
or_next parts done = in_turn parts done

abbrev pub conditional_next : List ℕ → List Answer → Way
conditional_next parts [] = operand (slice_get parts 0)
conditional_next parts (first ∷ []) = choose (answer_truth first) (operand (slice_get parts 1)) (operand (slice_get parts 2))
conditional_next parts done = Ready

-- after the arguments the body of a function of the program (6.5.2.2p10)
abbrev pub body_next : List ℕ → ℕ → List Answer → Way
body_next parts body done =
    if length done == length parts then Enter body else in_turn parts done

abbrev pub call_next : Callee → List ℕ → List Answer → Way
call_next (Function parameters body is_main) parts done = body_next parts body done
call_next other parts done = in_turn parts done

-- ---- blocks (6.8.2, 6.8.6.1)

abbrev pub last_of : Answer → List Answer → Answer
last_of answer [] = answer
last_of answer (later ∷ rest) = last_of later rest

-- the item that a label stands on
abbrev pub item_at : List Target → ℕ → Option ℕ
item_at [] label = None
item_at (target ∷ rest) label = if target.label == label then Some target.item else item_at rest label

-- the answers of a block that begins with this item: a first one for its entry, then as if all items before had been executed
abbrev pub from_item : ℕ → List Answer
from_item item = replicate (suc item) next

abbrev pub resume_at : List Answer → Option ℕ → Way
resume_at before None = Ready
resume_at before (Some item) = Resume (before ++ from_item item)

-- after an item the next one, and after a jump to a label of this block the item with the label; everything else leaves
abbrev pub after_item : List Answer → List ℕ → List Target → ℕ → Answer → Way
after_item before items labels at next = operand (slice_get items at)
after_item before items labels at (jumped label) = resume_at before (item_at labels label)
after_item before items labels at other = Ready

abbrev pub block_next : List ℕ → List Target → List Answer → Way
block_next items labels [] = Resume (from_item 0)
block_next items labels (entry ∷ done) = after_item [] items labels (length done) (last_of entry done)

-- the item of the case with the value, or that of `default` (6.8.4.2p5)
abbrev pub case_at : IntKind → List Case → Option ℕ → ℤ → Option ℕ
case_at kind [] other value = other
case_at kind (case ∷ cases) other value =
    if int_le (convert_of case.constant kind) value && int_le value (convert_of case.constant kind) then Some case.item else case_at kind cases other value

abbrev pub case_for : IntKind → List Case → Option ℕ → Answer → Option ℕ
case_for kind cases other (part (Number from value) events) = case_at kind cases other (convert_of value kind)
case_for kind cases other answer = None

abbrev pub switch_next : IntKind → List ℕ → List Case → Option ℕ → List Target → List Answer → Way
switch_next kind parts cases other labels [] = operand (slice_get parts 0)
switch_next kind parts cases other labels (control ∷ []) = resume_at (control ∷ []) (case_for kind cases other control)
switch_next kind parts cases other labels (control ∷ entry ∷ done) =
    after_item (control ∷ []) (drop 1 parts) labels (length done) (last_of entry done)

-- ---- selection and iteration (6.8.4, 6.8.5)

-- `continue` goes on as the end of the body does (6.8.6.2p2)
abbrev pub goes_on : Answer → Bool
goes_on next = true
goes_on continued = true
goes_on other = false

abbrev pub if_next : List ℕ → List Answer → Way
if_next parts [] = operand (slice_get parts 0)
if_next parts (control ∷ []) = choose (answer_truth control) (entering (slice_get parts 1)) (entering (slice_get parts 2))
if_next parts done = Ready

abbrev pub while_next : List ℕ → List Answer → Way
while_next parts [] = operand (slice_get parts 0)
while_next parts (control ∷ []) = choose (answer_truth control) (entering (slice_get parts 1)) Ready
while_next parts (control ∷ body ∷ more) = if goes_on body then Resume [] else Ready

-- its parts are the body and the controlling expression
abbrev pub do_next : List ℕ → List Answer → Way
do_next parts [] = operand (slice_get parts 0)
do_next parts (body ∷ []) = if goes_on body then operand (slice_get parts 1) else Ready
do_next parts (body ∷ control ∷ more) = choose (answer_truth control) (Resume []) Ready

-- an expression that isn't there is a constant other than 0 (6.8.5.3p2)
abbrev pub absent : Answer
absent = part (truth true) []

abbrev pub operand_or : Option ℕ → List Answer → Way
operand_or None done = Resume done
operand_or (Some node) done = Operand node

abbrev pub for_next : Option ℕ → Option ℕ → Option ℕ → ℕ → List Answer → Way
for_next (Some first) control step body [] = Enter first
for_next None control step body [] = Resume (absent ∷ [])
for_next first control step body (begun ∷ []) = operand_or control (begun ∷ absent ∷ [])
for_next first control step body (begun ∷ asked ∷ []) = choose (answer_truth asked) (Enter body) Ready
for_next first control step body (begun ∷ asked ∷ done ∷ []) = if goes_on done then operand_or step (begun ∷ []) else Ready
for_next first control step body (begun ∷ asked ∷ done ∷ stepped ∷ more) = Resume (begun ∷ [])

-- ---- the whole program: its objects, the initialisers of static objects, main (5.1.2, 5.1.2.2.1)

abbrev pub program_next : List ℕ → ℕ → List Answer → Way
program_next parts body [] = Resume (next ∷ [])
program_next parts body (entry ∷ done) = body_next parts body done

-- ---- all nodes

abbrev pub next_by : Work → List ℕ → List Answer → Way
next_by work.LogicalAnd parts done = and_next parts done
next_by work.LogicalOr parts done = or_next parts done
next_by (work.Conditional form) parts done = conditional_next parts done
next_by (work.Call callee) parts done = call_next callee parts done
next_by work.If parts done = if_next parts done
next_by work.While parts done = while_next parts done
next_by work.Do parts done = do_next parts done
next_by (work.For objects first control step body) parts done = for_next first control step body done
next_by (work.Switch kind body objects cases other labels) parts done = switch_next kind parts cases other labels done
next_by (work.Block objects labels) parts done = block_next parts labels done
next_by (work.Program objects parameters strings body) parts done = program_next parts body done
next_by other parts done = in_turn parts done

abbrev pub next_of : Op → List Answer → Way
next_of op done = next_by op.work op.parts done
