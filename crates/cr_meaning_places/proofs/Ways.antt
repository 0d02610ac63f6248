-- How nodes go on: with which part, and with which answers.
use Rattle.std.proofs.Common.{◌≡◌, ℕ, zero, suc, Bool, Option, Some, None, List, [], ◌∷◌, ◌++◌, length, drop, replicate, slice_get}
use Rattle.cr_ints.specs.declared.kind.IntKind.{IntKind}
use Rattle.cr_memory.specs.Memory.{Memory}
use Rattle.cr_meaning.specs.World.{Program, Answer, next, jumped}
use Rattle.cr_meaning.specs.Turns.{Way, Operand, Enter, Resume, Ready, operand, entering, in_turn, choose, answer_truth, and_next, or_next, conditional_next, body_next, call_next, last_of, item_at, from_item, resume_at, after_item, block_next, case_for, switch_next, goes_on, if_next, while_next, do_next, absent, operand_or, for_next, program_next, next_by}
use Rattle.cr_meaning.specs.Nodes.{value_of, values}
use Rattle.cr_meaning.specs.declared.op.Callee.{Callee}
use Rattle.cr_meaning.specs.declared.op.Callee.TheVariants.{Function}
use Rattle.cr_meaning.specs.declared.op.Case.{Case}
use Rattle.cr_meaning.specs.declared.op.Target.{Target}
use Rattle.cr_meaning.specs.declared.op.Work.{Work}
use Rattle.cr_meaning.specs.declared.op.Work.TheVariants as work
use Rattle.cr_meaning_soundness.proofs.Loops.{by_choice, by_test}
use Rattle.cr_meaning_places.proofs.Good.{GoodAnswers}
use Rattle.cr_meaning_places.proofs.Working.{IsGiven, Before}

-- ---- answers

pub good_more : (p : Program) (memory : Memory) (done rest : List Answer) → GoodAnswers p memory done → GoodAnswers p memory rest → GoodAnswers p memory (done ++ rest)
good_more p memory [] rest h k = k
good_more p memory (answer ∷ done) rest h k = (h.0, good_more p memory done rest h.1 k)

nexts_good : (p : Program) (memory : Memory) (n : ℕ) → GoodAnswers p memory (replicate n next)
nexts_good p memory zero = tt
nexts_good p memory (suc n) = (tt, nexts_good p memory n)

-- ---- answers as if parts had given them

abbrev pub IsGoodWay : Program → Memory → Way → Type 0
IsGoodWay p memory (Resume again) = GoodAnswers p memory again
IsGoodWay p memory other = Unit {0}

module _ (p : Program) (memory : Memory) where
  abbrev Good : Way → Type 0
  Good way = IsGoodWay p memory way

  good_operand : (o : Option ℕ) → Good (operand o)
  good_operand None = tt
  good_operand (Some m) = tt

  good_entering : (o : Option ℕ) → Good (entering o)
  good_entering None = tt
  good_entering (Some m) = tt

  good_choice : (o : Option Bool) (one other : Way) → Good one → Good other → Good (choose o one other)
  good_choice o one other h k = by_choice Good o one other tt h k

  good_resumed : (before : List Answer) (o : Option ℕ) → GoodAnswers p memory before → Good (resume_at before o)
  good_resumed before None h = tt
  good_resumed before (Some item) h = good_more p memory before (from_item item) h (nexts_good p memory (suc item))

  good_item : (before : List Answer) (items : List ℕ) (labels : List Target) (at : ℕ) (answer : Answer) → GoodAnswers p memory before → Good (after_item before items labels at answer)
  good_item before items labels at next h = good_operand (slice_get items at)
  good_item before items labels at (jumped label) h = good_resumed before (item_at labels label) h
  good_item before items labels at other h = tt

  good_body : (parts : List ℕ) (rest : ℕ) (done : List Answer) → Good (body_next parts rest done)
  good_body parts rest done = by_test Good _ (Enter rest) (in_turn parts done) tt (good_operand (slice_get parts (length done)))

  good_or : (o : Option ℕ) (done : List Answer) → GoodAnswers p memory done → Good (operand_or o done)
  good_or None done h = h
  good_or (Some m) done h = tt

  good_for : (one control step : Option ℕ) (rest : ℕ) (done : List Answer) → GoodAnswers p memory done → Good (for_next one control step rest done)
  good_for (Some one) control step rest [] h = tt
  good_for None control step rest [] h = (tt, tt)
  good_for one control step rest (begun ∷ []) h = good_or control (begun ∷ absent ∷ []) (h.0, (tt, tt))
  good_for one control step rest (begun ∷ asked ∷ []) h = good_choice (answer_truth asked) (Enter rest) Ready tt tt
  good_for one control step rest (begun ∷ asked ∷ last ∷ []) h = by_test Good (goes_on last) (operand_or step (begun ∷ [])) Ready (good_or step (begun ∷ []) (h.0, tt)) tt
  good_for one control step rest (begun ∷ asked ∷ last ∷ stepped ∷ more) h = (h.0, tt)

  good_switch : (kind : IntKind) (parts : List ℕ) (cases : List Case) (other : Option ℕ) (labels : List Target) (done : List Answer) → GoodAnswers p memory done
      → Good (switch_next kind parts cases other labels done)
  good_switch kind parts cases other labels [] h = good_operand (slice_get parts 0)
  good_switch kind parts cases other labels (control ∷ []) h = good_resumed (control ∷ []) (case_for kind cases other control) (h.0, tt)
  good_switch kind parts cases other labels (control ∷ entry ∷ done) h = good_item (control ∷ []) (drop 1 parts) labels (length done) (last_of entry done) (h.0, tt)

  good_block : (items : List ℕ) (labels : List Target) (done : List Answer) → Good (block_next items labels done)
  good_block items labels [] = (tt, tt)
  good_block items labels (entry ∷ done) = good_item [] items labels (length done) (last_of entry done) tt

  good_while : (parts : List ℕ) (done : List Answer) → Good (while_next parts done)
  good_while parts [] = good_operand (slice_get parts 0)
  good_while parts (control ∷ []) = good_choice (answer_truth control) (entering (slice_get parts 1)) Ready (good_entering (slice_get parts 1)) tt
  good_while parts (control ∷ last ∷ more) = by_test Good (goes_on last) (Resume []) Ready tt tt

  good_do : (parts : List ℕ) (done : List Answer) → Good (do_next parts done)
  good_do parts [] = good_operand (slice_get parts 0)
  good_do parts (last ∷ []) = by_test Good (goes_on last) (operand (slice_get parts 1)) Ready (good_operand (slice_get parts 1)) tt
  good_do parts (last ∷ control ∷ more) = good_choice (answer_truth control) (Resume []) Ready tt tt

  good_if : (parts : List ℕ) (done : List Answer) → Good (if_next parts done)
  good_if parts [] = good_operand (slice_get parts 0)
  good_if parts (control ∷ []) = good_choice (answer_truth control) (entering (slice_get parts 1)) (entering (slice_get parts 2)) (good_entering (slice_get parts 1)) (good_entering (slice_get parts 2))
  good_if parts (control ∷ last ∷ more) = tt

  good_and : (parts : List ℕ) (done : List Answer) → Good (and_next parts done)
  good_and parts [] = good_operand (slice_get parts 0)
  good_and parts (left ∷ []) = good_choice (answer_truth left) (operand (slice_get parts 1)) Ready (good_operand (slice_get parts 1)) tt
  good_and parts (left ∷ right ∷ more) = good_operand (slice_get parts _)

  good_or_next : (parts : List ℕ) (done : List Answer) → Good (or_next parts done)
  good_or_next parts [] = good_operand (slice_get parts 0)
  good_or_next parts (left ∷ []) = good_choice (answer_truth left) Ready (operand (slice_get parts 1)) tt (good_operand (slice_get parts 1))
  good_or_next parts (left ∷ right ∷ more) = good_operand (slice_get parts _)

  good_conditional : (parts : List ℕ) (done : List Answer) → Good (conditional_next parts done)
  good_conditional parts [] = good_operand (slice_get parts 0)
  good_conditional parts (control ∷ []) = good_choice (answer_truth control) (operand (slice_get parts 1)) (operand (slice_get parts 2)) (good_operand (slice_get parts 1)) (good_operand (slice_get parts 2))
  good_conditional parts (control ∷ last ∷ more) = tt

  good_call : (callee : Callee) (parts : List ℕ) (done : List Answer) → Good (call_next callee parts done)
  good_call (Function parameters rest is_main) parts done = good_body parts rest done
  good_call callee parts done = good_operand (slice_get parts (length done))

  good_program : (parts : List ℕ) (rest : ℕ) (done : List Answer) → Good (program_next parts rest done)
  good_program parts rest [] = (tt, tt)
  good_program parts rest (entry ∷ done) = good_body parts rest done

  pub good_way : (w : Work) (parts : List ℕ) (done : List Answer) → GoodAnswers p memory done → Good (next_by w parts done)
  good_way work.LogicalAnd parts done h = good_and parts done
  good_way work.LogicalOr parts done h = good_or_next parts done
  good_way (work.Conditional form) parts done h = good_conditional parts done
  good_way (work.Call callee) parts done h = good_call callee parts done
  good_way work.If parts done h = good_if parts done
  good_way work.While parts done h = good_while parts done
  good_way work.Do parts done h = good_do parts done
  good_way (work.For objects one control step rest) parts done h = good_for one control step rest done h
  good_way (work.Switch kind rest objects cases other labels) parts done h = good_switch kind parts cases other labels done h
  good_way (work.Block objects labels) parts done h = good_block parts labels done
  good_way (work.Program objects parameters strings rest) parts done h = good_program parts rest done
  good_way w parts done h = good_operand (slice_get parts (length done))

-- ---- what stands before a dot, or in brackets

pub before_none : (p : Program) (w : Work) (parts : List ℕ) → Before p w parts []
before_none p (work.Member structure before own form) parts = tt
before_none p work.Pass parts = tt
before_none p w parts = tt

operand_is : (o : Option ℕ) (m : ℕ) → operand o ≡ Operand m → o ≡ Some m
operand_is None m e = absurd (cc e)
operand_is (Some n) m e = cc e

no_entering : (o : Option ℕ) (m : ℕ) (C : Type 0) → operand o ≡ Enter m → C
no_entering None m C e = absurd (cc e)
no_entering (Some n) m C e = absurd (cc e)

no_resuming : (o : Option ℕ) (again : List Answer) (C : Type 0) → operand o ≡ Resume again → C
no_resuming None again C e = absurd (cc e)
no_resuming (Some n) again C e = absurd (cc e)

pub before_part : (p : Program) (w : Work) (parts : List ℕ) (done : List Answer) (m : ℕ) (answer : Answer) → next_by w parts done ≡ Operand m → Before p w parts (values done)
    → IsGiven p m (value_of answer) → Before p w parts (values (done ++ answer ∷ []))
before_part p (work.Member structure before own form) parts [] m answer e h g = (m, (operand_is (slice_get parts 0) m e, g))
before_part p (work.Member structure before own form) parts (one ∷ rest) m answer e h g = h
before_part p work.Pass parts [] m answer e h g = (m, (operand_is (slice_get parts 0) m e, g))
before_part p work.Pass parts (one ∷ rest) m answer e h g = h
before_part p w parts done m answer e h g = tt

pub before_entered : (p : Program) (w : Work) (parts : List ℕ) (done : List Answer) (m : ℕ) (answer : Answer) → next_by w parts done ≡ Enter m → Before p w parts (values (done ++ answer ∷ []))
before_entered p (work.Member structure before own form) parts done m answer e = no_entering (slice_get parts (length done)) m _ e
before_entered p work.Pass parts done m answer e = no_entering (slice_get parts (length done)) m _ e
before_entered p w parts done m answer e = tt

pub before_resumed : (p : Program) (w : Work) (parts : List ℕ) (done again : List Answer) → next_by w parts done ≡ Resume again → Before p w parts (values again)
before_resumed p (work.Member structure before own form) parts done again e = no_resuming (slice_get parts (length done)) again _ e
before_resumed p work.Pass parts done again e = no_resuming (slice_get parts (length done)) again _ e
before_resumed p w parts done again e = tt
