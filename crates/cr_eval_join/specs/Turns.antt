-- Which operand of a node comes next, as the code says it.
use Rattle.std.specs.Prelude.{◌≡◌, ℕ, Bool, true, false, Option, Some, None, List, [], ◌∷◌, length}
use Rattle.cr_meaning.specs.World.{Answer}
use Rattle.cr_meaning.specs.Turns.{Way, Operand, Enter, Ready, answer_truth, in_turn, and_next, or_next, conditional_next}
use Rattle.cr_meaning.specs.declared.op.Callee.{Callee}
use Rattle.cr_meaning.specs.declared.op.Callee.TheVariants.{Function}
use Rattle.cr_meaning.specs.declared.op.Work.{Work}
use Rattle.cr_meaning.specs.declared.op.Work.TheVariants as work
use Rattle.cr_eval_join.specs.declared.turn.Manner.{Manner}
use Rattle.cr_eval_join.specs.declared.turn.Manner.TheVariants.{And, Or, Choice, InTurn}
use Rattle.cr_eval_join.specs.declared.way.Next.{Next}
use Rattle.cr_eval_join.specs.declared.way.Next.TheVariants as ahead

abbrev pub way_of : Next → Way
way_of (ahead.Operand node) = Operand node
way_of (ahead.Call body) = Enter body
way_of ahead.Ready = Ready

-- the node is an expression, no statement, no declaration and not the whole program
abbrev pub is_expression : Work → Bool
is_expression work.Expression = false
is_expression work.If = false
is_expression work.While = false
is_expression work.Do = false
is_expression (work.For objects first control step body) = false
is_expression (work.Switch kind body objects cases other labels) = false
is_expression (work.Block objects labels) = false
is_expression work.Labelled = false
is_expression work.Break = false
is_expression work.Continue = false
is_expression (work.Goto label) = false
is_expression (work.Return form) = false
is_expression work.Declaration = false
is_expression (work.Declare node) = false
is_expression (work.Initialise node lines) = false
is_expression (work.Program objects parameters strings body) = false
is_expression other = true

-- so many answers; and where there is one, it compares unequal to 0 as said
pub record AreAnswers (answers : List Answer) (count : ℕ) (truth : Option Bool) : Type 0 where
  pub count_is : length answers ≡ count
  pub truth_is : (answer : Answer) → answers ≡ answer ∷ [] → answer_truth answer ≡ truth

-- the body of the function of the program that a node calls
abbrev pub called_body : Callee → Option ℕ
called_body (Function parameters body is_main) = Some body
called_body other = None

abbrev pub body_of : Work → Option ℕ
body_of (work.Call callee) = called_body callee
body_of other = None

-- how the operands come otherwise
abbrev pub manner_of : Work → Manner
manner_of work.LogicalAnd = And
manner_of work.LogicalOr = Or
manner_of (work.Conditional form) = Choice
manner_of other = InTurn

abbrev pub turned : Manner → List ℕ → List Answer → Way
turned And parts answers = and_next parts answers
turned Or parts answers = or_next parts answers
turned Choice parts answers = conditional_next parts answers
turned InTurn parts answers = in_turn parts answers
