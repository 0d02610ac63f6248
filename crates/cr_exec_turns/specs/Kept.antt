-- The way on of a statement's node by the answers that are kept. It is the meaning's: see the law in the proofs of `next`.
use Rattle.std.specs.Prelude.{◌≡◌, ℕ, suc, ◌==◌, int_le, ◌&&◌, Bool, true, false, Option, Some, None, List, [], ◌∷◌, length, drop, slice_get, if◌then◌else◌}
use Rattle.cr_ints.specs.declared.kind.IntKind.{IntKind}
use Rattle.cr_ints.specs.Conversions.{convert_of}
use Rattle.cr_meaning.specs.Values.{truth_of}
use Rattle.cr_meaning.specs.Turns.{item_at, case_at}
use Rattle.cr_meaning.specs.declared.op.Case.{Case}
use Rattle.cr_meaning.specs.declared.op.Target.{Target}
use Rattle.cr_meaning.specs.declared.op.Work.{Work}
use Rattle.cr_meaning.specs.declared.op.Work.TheVariants as work
use Rattle.cr_meaning.specs.declared.value.Value.{Value}
use Rattle.cr_meaning.specs.declared.value.Value.TheVariants.{Number}
use Rattle.cr_eval_join.specs.declared.way.Next.{Next}
use Rattle.cr_eval_join.specs.declared.way.Next.TheVariants as ahead
use Rattle.cr_exec_slices.specs.declared.nodes.Way.{Way}
use Rattle.cr_exec_slices.specs.declared.nodes.Way.TheVariants.{Operand, Enter, Resume, Ready, Unknown}
use Rattle.cr_exec_slices.specs.declared.nodes.Fresh.{Fresh}
use Rattle.cr_exec_slices.specs.declared.nodes.Fresh.TheVariants.{Nothing, Absent, Before}
use Rattle.cr_exec_turns.specs.declared.held.Held.{Held}
use Rattle.cr_exec_turns.specs.declared.held.Held.TheVariants as held

abbrev pub operand : Option ℕ → Way
operand None = Ready
operand (Some node) = Operand node

abbrev pub entering : Option ℕ → Way
entering None = Ready
entering (Some node) = Enter node

abbrev pub operand_or : Option ℕ → ℕ → Fresh → Way
operand_or None count fresh = Resume count fresh
operand_or (Some node) count fresh = Operand node

abbrev pub choose : Option Bool → Way → Way → Way
choose None one other = Ready
choose (Some true) one other = one
choose (Some false) one other = other

abbrev pub truth_in : Held → Option Bool
truth_in (held.Part given) = truth_of given.value
truth_in other = None

abbrev pub goes_on : Held → Bool
goes_on held.Next = true
goes_on held.Continued = true
goes_on other = false

abbrev pub on : Bool → Way → Way
on goes way = if goes then way else Ready

-- ---- lists of items

abbrev pub last_of : Held → List Held → Held
last_of first [] = first
last_of first (later ∷ rest) = last_of later rest

-- the answer of a part that the next item follows
abbrev pub is_passed : Option Held → Bool
is_passed (Some held.Next) = true
is_passed other = false

-- At an item, behind so many answers: those of items that the next one follows stay, and only as many fewer come anew.
abbrev pub resume_behind : ℕ → List Held → ℕ → Way
resume_behind count (held.Next ∷ behind) (suc item) = resume_behind (suc count) behind item
resume_behind count behind item = Resume count (Before item)

abbrev pub resume_at : ℕ → List Held → Option ℕ → Way
resume_at count done None = Ready
resume_at count done (Some item) = resume_behind count (drop count done) item

abbrev pub after_item : ℕ → List ℕ → List Target → List Held → ℕ → Held → Way
after_item count items labels done at held.Next = operand (slice_get items at)
after_item count items labels done at (held.Jumped label) = resume_at count done (item_at labels label)
after_item count items labels done at other = Ready

abbrev pub block_way : List ℕ → List Target → List Held → Way
block_way items labels [] = Resume 0 (Before 0)
block_way items labels (entry ∷ done) = after_item 0 items labels (entry ∷ done) (length done) (last_of entry done)

-- a case has this number
abbrev pub is_case : IntKind → Case → Value → Bool
is_case kind case (Number from value) =
    int_le (convert_of case.constant kind) (convert_of value kind) && int_le (convert_of value kind) (convert_of case.constant kind)
is_case kind case other = false

abbrev pub value_case : IntKind → List Case → Option ℕ → Value → Option ℕ
value_case kind cases other (Number from value) = case_at kind cases other (convert_of value kind)
value_case kind cases other value = None

abbrev pub case_for : IntKind → List Case → Option ℕ → Held → Option ℕ
case_for kind cases other (held.Part given) = value_case kind cases other given.value
case_for kind cases other answer = None

abbrev pub switch_way : IntKind → List ℕ → List Case → Option ℕ → List Target → List Held → Way
switch_way kind parts cases other labels [] = operand (slice_get parts 0)
switch_way kind parts cases other labels (control ∷ []) = resume_at 1 (control ∷ []) (case_for kind cases other control)
switch_way kind parts cases other labels (control ∷ entry ∷ done) =
    after_item 1 (drop 1 parts) labels (control ∷ entry ∷ done) (length done) (last_of entry done)

abbrev pub body_way : List ℕ → ℕ → ℕ → Way
body_way parts body count = if count == length parts then Enter body else operand (slice_get parts count)

abbrev pub program_way : List ℕ → ℕ → List Held → Way
program_way parts body [] = Resume 0 (Before 0)
program_way parts body (entry ∷ done) = body_way parts body (length done)

-- ---- selection and iteration

abbrev pub if_way : List ℕ → List Held → Way
if_way parts [] = operand (slice_get parts 0)
if_way parts (control ∷ []) = choose (truth_in control) (entering (slice_get parts 1)) (entering (slice_get parts 2))
if_way parts done = Ready

abbrev pub while_way : List ℕ → List Held → Way
while_way parts [] = operand (slice_get parts 0)
while_way parts (control ∷ []) = choose (truth_in control) (entering (slice_get parts 1)) Ready
while_way parts (control ∷ body ∷ more) = on (goes_on body) (Resume 0 Nothing)

abbrev pub do_way : List ℕ → List Held → Way
do_way parts [] = operand (slice_get parts 0)
do_way parts (body ∷ []) = on (goes_on body) (operand (slice_get parts 1))
do_way parts (body ∷ control ∷ more) = choose (truth_in control) (Resume 0 Nothing) Ready

abbrev pub begin_way : Option ℕ → Way
begin_way None = Resume 0 Absent
begin_way (Some first) = Enter first

abbrev pub for_way : Option ℕ → Option ℕ → Option ℕ → ℕ → List Held → Way
for_way first control step body [] = begin_way first
for_way first control step body (begun ∷ []) = operand_or control 1 Absent
for_way first control step body (begun ∷ asked ∷ []) = choose (truth_in asked) (Enter body) Ready
for_way first control step body (begun ∷ asked ∷ done ∷ []) = on (goes_on done) (operand_or step 1 Nothing)
for_way first control step body (begun ∷ asked ∷ done ∷ stepped ∷ more) = Resume 1 Nothing

-- ---- all nodes that are no expressions

abbrev pub way_by : Work → List ℕ → List Held → Way
way_by work.If parts done = if_way parts done
way_by work.While parts done = while_way parts done
way_by work.Do parts done = do_way parts done
way_by (work.For objects first control step body) parts done = for_way first control step body done
way_by (work.Switch kind body objects cases other labels) parts done = switch_way kind parts cases other labels done
way_by (work.Block objects labels) parts done = block_way parts labels done
way_by (work.Program objects parameters strings body) parts done = program_way parts body done
way_by other parts done = operand (slice_get parts (length done))

-- the way is this one, if it is known
abbrev pub Known : Way → Way → Type 0
Known want Unknown = Unit {0}
Known want (Operand node) = want ≡ Operand node
Known want (Enter node) = want ≡ Enter node
Known want (Resume count fresh) = want ≡ Resume count fresh
Known want Ready = want ≡ Ready

-- ---- expressions

-- the truth of the first operand's value
abbrev pub first_truth : List Held → Option Bool
first_truth [] = None
first_truth (first ∷ rest) = truth_in first

abbrev pub turned : Next → Way
turned (ahead.Operand node) = Operand node
turned (ahead.Call body) = Enter body
turned ahead.Ready = Ready
