-- Small programs, their operations built by hand, and what they come to: the proof checker follows each run. By `PlayedIsRun` these
-- are facts about the meaning. Each is the body of main unless it says more.
use Rattle.std.proofs.Common.{◌≡◌, refl}
use Rattle.std.specs.Prelude.{ℕ, ◌==◌, ℤ, pos, negsuc, true, false, Option, Some, None, List, [], ◌∷◌, if◌then◌else◌}
use Rattle.cr_ints.specs.declared.kind.IntKind.TheVariants.{Bool as BoolKind, Int, Char, UChar, UInt}
use Rattle.cr_memory.specs.declared.value.Element.{Element}
use Rattle.cr_memory.specs.declared.value.Scalar.{Scalar}
use Rattle.cr_memory.specs.declared.value.Scalar.TheVariants as scalar
use Rattle.cr_memory.specs.declared.value.Guard.{Guard}
use Rattle.cr_memory.specs.declared.value.Guard.TheVariants as guard
use Rattle.cr_memory.specs.declared.value.Cell.{Cell}
use Rattle.cr_memory.specs.declared.value.Cell.TheVariants as cell
use Rattle.cr_meaning.specs.World.{Program, World, Answer, Halt}
use Rattle.cr_meaning.specs.Language.{Reply}
use Rattle.cr_meaning.specs.Meaning.{body, operands, root_of, start_of, run_of}
use Rattle.cr_meaning.specs.Values.{scalar_element}
use Rattle.cr_meaning.specs.Library.{pieces_of}
use Rattle.cr_meaning.specs.Playing.{played}
use Rattle.cr_meaning.specs.declared.op.Op.{Op}
use Rattle.cr_meaning.specs.declared.op.Form.{Form}
use Rattle.cr_meaning.specs.declared.op.Form.TheVariants as form
use Rattle.cr_meaning.specs.declared.op.Access.{Access}
use Rattle.cr_meaning.specs.declared.op.Access.TheVariants as access
use Rattle.cr_meaning.specs.declared.op.Operator.TheVariants as operator
use Rattle.cr_meaning.specs.declared.op.Sign.TheVariants.{Minus}
use Rattle.cr_meaning.specs.declared.op.Relation.TheVariants.{Less, Equal}
use Rattle.cr_meaning.specs.declared.op.Change.TheVariants.{Arithmetic, Move}
use Rattle.cr_meaning.specs.declared.op.Parameter.{Parameter}
use Rattle.cr_meaning.specs.declared.op.Callee.TheVariants.{Function, Printf, Putchar, Exit, Abort}
use Rattle.cr_meaning.specs.declared.op.Line.{Line}
use Rattle.cr_meaning.specs.declared.op.Target.{Target}
use Rattle.cr_meaning.specs.declared.op.Case.{Case}
use Rattle.cr_meaning.specs.declared.op.Work.{Work}
use Rattle.cr_meaning.specs.declared.op.Work.TheVariants as work
use Rattle.cr_meaning.specs.declared.run.Limits.{Limits}
use Rattle.cr_meaning.specs.declared.run.Run.{Run}
use Rattle.cr_meaning.specs.declared.run.Run.TheVariants as run

-- what a run comes to, the number of steps aside
pub data Verdict : Type 0 where
  fine : ℕ → List ℕ → Verdict
  undefined : ℕ → ℕ → Verdict
  left : ℕ → ℕ → Verdict
  unknown : Verdict

abbrev verdict_of : Option Run → Verdict
verdict_of (Some (run.Ended status output steps)) = fine status output
verdict_of (Some (run.Undefined number node)) = undefined number node
verdict_of (Some (run.Left number node)) = left number node
verdict_of other = unknown

abbrev verdict_by : Limits → Option (Reply Answer World Halt) → Verdict
verdict_by limits None = unknown
verdict_by limits (Some reply) = verdict_of (run_of limits reply)

abbrev verdict : Program → Verdict
verdict p = verdict_by p.limits (played (body p) 1000 (body p (operands (root_of p) [])) (start_of p.limits))

abbrev found : {A : Type 0} → List (ℕ × A) → ℕ → A → A
found [] node other = other
found (entry ∷ entries) node other = if entry.0 == node then entry.1 else found entries node other

abbrev found_if : {A : Type 0} → List (ℕ × A) → ℕ → Option A
found_if [] node = None
found_if (entry ∷ entries) node = if entry.0 == node then Some entry.1 else found_if entries node

abbrev program : List Op → List (ℕ × List (Scalar × Guard)) → List (ℕ × List Cell) → List (ℕ × List Scalar) → Limits → Program
program ops shapes literals rows limits = record {
  ops = ops;
  shape = λ node. found shapes node [];
  literal = λ node. found_if literals node;
  kinds = λ row. found rows row [];
  limits = limits;
}

abbrev op : List ℕ → Work → Access → Op
op parts work access = record { parts = parts; work = work; access = access }

abbrev element : ℕ → Element
element cells = record { cells = cells; of = 1 }

abbrev parameter : ℕ → Form → Parameter
parameter node form = record { node = node; form = form }

abbrev line : ℕ → Form → ℕ → Line
line place form user = record { cell = place; form = form; user = user }

abbrev target : ℕ → ℕ → Target
target label item = record { label = label; item = item }

abbrev case : ℤ → ℕ → Case
case constant item = record { constant = constant; item = item }

-- i = i++;
assigns_its_own_increment : verdict (program (op [] work.Declaration access.Unused ∷ op [] (work.Object 0 0) (access.Scalar (scalar.Int Int) false) ∷ op (1 ∷ []) (work.Return (form.Number Int)) access.Unused ∷ op (2 ∷ []) (work.Block [] []) access.Unused ∷ op [] work.Declaration access.Unused ∷ op [] (work.Constant Int (pos 0)) access.Unused ∷ op (5 ∷ []) (work.Initialise 4 (line 0 (form.Number Int) 6 ∷ [])) access.Unused ∷ op (6 ∷ []) work.Declaration access.Unused ∷ op [] (work.Object 4 0) access.Unused ∷ op [] (work.Object 4 0) access.Unused ∷ op (9 ∷ []) (work.Update (Arithmetic operator.Add Int) (form.Number Int) false true) access.Unused ∷ op (8 ∷ 10 ∷ []) (work.Assign (form.Number Int)) access.Unused ∷ op (11 ∷ []) work.Expression access.Unused ∷ op [] (work.Constant Int (pos 0)) access.Unused ∷ op (13 ∷ []) (work.Return (form.Number Int)) access.Unused ∷ op (7 ∷ 12 ∷ 14 ∷ []) (work.Block (4 ∷ []) []) access.Unused ∷ op [] (work.Program [] [] (scalar.Pointer 3) 15) access.Unused ∷ []) ((0, ((scalar.Int Int, guard.Free) ∷ [])) ∷ (4, ((scalar.Int Int, guard.Free) ∷ [])) ∷ []) [] [] (record { steps = 60; depth = 4; cells = 100; output = 100 })) ≡ undefined 12 11
unfolding body played pieces_of
assigns_its_own_increment = refl

-- i = f(i++); the argument is sequenced before the call
assigns_a_call_of_its_increment : verdict (program (op [] work.Declaration access.Unused ∷ op [] (work.Object 0 0) (access.Scalar (scalar.Int Int) false) ∷ op (1 ∷ []) (work.Return (form.Number Int)) access.Unused ∷ op (2 ∷ []) (work.Block [] []) access.Unused ∷ op [] work.Declaration access.Unused ∷ op [] (work.Constant Int (pos 0)) access.Unused ∷ op (5 ∷ []) (work.Initialise 4 (line 0 (form.Number Int) 6 ∷ [])) access.Unused ∷ op (6 ∷ []) work.Declaration access.Unused ∷ op [] (work.Object 4 0) access.Unused ∷ op [] (work.Object 4 0) access.Unused ∷ op (9 ∷ []) (work.Update (Arithmetic operator.Add Int) (form.Number Int) false true) access.Unused ∷ op (10 ∷ []) (work.Call (Function (parameter 0 (form.Number Int) ∷ []) 3 false)) access.Unused ∷ op (8 ∷ 11 ∷ []) (work.Assign (form.Number Int)) access.Unused ∷ op (12 ∷ []) work.Expression access.Unused ∷ op [] (work.Object 4 0) (access.Scalar (scalar.Int Int) false) ∷ op (14 ∷ []) (work.Return (form.Number Int)) access.Unused ∷ op (7 ∷ 13 ∷ 15 ∷ []) (work.Block (4 ∷ []) []) access.Unused ∷ op [] (work.Program [] [] (scalar.Pointer 3) 16) access.Unused ∷ []) ((0, ((scalar.Int Int, guard.Free) ∷ [])) ∷ (4, ((scalar.Int Int, guard.Free) ∷ [])) ∷ []) [] [] (record { steps = 60; depth = 4; cells = 100; output = 100 })) ≡ fine 0 []
unfolding body played pieces_of
assigns_a_call_of_its_increment = refl

-- i = (i++, 5);
assigns_a_comma : verdict (program (op [] work.Declaration access.Unused ∷ op [] (work.Object 0 0) (access.Scalar (scalar.Int Int) false) ∷ op (1 ∷ []) (work.Return (form.Number Int)) access.Unused ∷ op (2 ∷ []) (work.Block [] []) access.Unused ∷ op [] work.Declaration access.Unused ∷ op [] (work.Constant Int (pos 0)) access.Unused ∷ op (5 ∷ []) (work.Initialise 4 (line 0 (form.Number Int) 6 ∷ [])) access.Unused ∷ op (6 ∷ []) work.Declaration access.Unused ∷ op [] (work.Object 4 0) access.Unused ∷ op [] (work.Object 4 0) access.Unused ∷ op (9 ∷ []) (work.Update (Arithmetic operator.Add Int) (form.Number Int) false true) access.Unused ∷ op [] (work.Constant Int (pos 5)) access.Unused ∷ op (10 ∷ 11 ∷ []) work.Comma access.Unused ∷ op (12 ∷ []) work.Pass access.Unused ∷ op (8 ∷ 13 ∷ []) (work.Assign (form.Number Int)) access.Unused ∷ op (14 ∷ []) work.Expression access.Unused ∷ op [] (work.Object 4 0) (access.Scalar (scalar.Int Int) false) ∷ op (16 ∷ []) (work.Return (form.Number Int)) access.Unused ∷ op (7 ∷ 15 ∷ 17 ∷ []) (work.Block (4 ∷ []) []) access.Unused ∷ op [] (work.Program [] [] (scalar.Pointer 3) 18) access.Unused ∷ []) ((0, ((scalar.Int Int, guard.Free) ∷ [])) ∷ (4, ((scalar.Int Int, guard.Free) ∷ [])) ∷ []) [] [] (record { steps = 60; depth = 4; cells = 100; output = 100 })) ≡ fine 5 []
unfolding body played pieces_of
assigns_a_comma = refl

-- (i++, 5) + i;
adds_beside_an_increment : verdict (program (op [] work.Declaration access.Unused ∷ op [] (work.Object 0 0) (access.Scalar (scalar.Int Int) false) ∷ op (1 ∷ []) (work.Return (form.Number Int)) access.Unused ∷ op (2 ∷ []) (work.Block [] []) access.Unused ∷ op [] work.Declaration access.Unused ∷ op [] (work.Constant Int (pos 0)) access.Unused ∷ op (5 ∷ []) (work.Initialise 4 (line 0 (form.Number Int) 6 ∷ [])) access.Unused ∷ op (6 ∷ []) work.Declaration access.Unused ∷ op [] (work.Object 4 0) access.Unused ∷ op (8 ∷ []) (work.Update (Arithmetic operator.Add Int) (form.Number Int) false true) access.Unused ∷ op [] (work.Constant Int (pos 5)) access.Unused ∷ op (9 ∷ 10 ∷ []) work.Comma access.Unused ∷ op (11 ∷ []) work.Pass access.Unused ∷ op [] (work.Object 4 0) (access.Scalar (scalar.Int Int) false) ∷ op (12 ∷ 13 ∷ []) (work.Binary (Arithmetic operator.Add Int)) access.Unused ∷ op (14 ∷ []) work.Expression access.Unused ∷ op [] (work.Constant Int (pos 0)) access.Unused ∷ op (16 ∷ []) (work.Return (form.Number Int)) access.Unused ∷ op (7 ∷ 15 ∷ 17 ∷ []) (work.Block (4 ∷ []) []) access.Unused ∷ op [] (work.Program [] [] (scalar.Pointer 3) 18) access.Unused ∷ []) ((0, ((scalar.Int Int, guard.Free) ∷ [])) ∷ (4, ((scalar.Int Int, guard.Free) ∷ [])) ∷ []) [] [] (record { steps = 60; depth = 4; cells = 100; output = 100 })) ≡ undefined 12 14
unfolding body played pieces_of
adds_beside_an_increment = refl

-- i = i++ || 1; of 0
assigns_an_or_that_goes_on : verdict (program (op [] work.Declaration access.Unused ∷ op [] (work.Object 0 0) (access.Scalar (scalar.Int Int) false) ∷ op (1 ∷ []) (work.Return (form.Number Int)) access.Unused ∷ op (2 ∷ []) (work.Block [] []) access.Unused ∷ op [] work.Declaration access.Unused ∷ op [] (work.Constant Int (pos 0)) access.Unused ∷ op (5 ∷ []) (work.Initialise 4 (line 0 (form.Number Int) 6 ∷ [])) access.Unused ∷ op (6 ∷ []) work.Declaration access.Unused ∷ op [] (work.Object 4 0) access.Unused ∷ op [] (work.Object 4 0) access.Unused ∷ op (9 ∷ []) (work.Update (Arithmetic operator.Add Int) (form.Number Int) false true) access.Unused ∷ op [] (work.Constant Int (pos 1)) access.Unused ∷ op (10 ∷ 11 ∷ []) work.LogicalOr access.Unused ∷ op (8 ∷ 12 ∷ []) (work.Assign (form.Number Int)) access.Unused ∷ op (13 ∷ []) work.Expression access.Unused ∷ op [] (work.Object 4 0) (access.Scalar (scalar.Int Int) false) ∷ op (15 ∷ []) (work.Return (form.Number Int)) access.Unused ∷ op (7 ∷ 14 ∷ 16 ∷ []) (work.Block (4 ∷ []) []) access.Unused ∷ op [] (work.Program [] [] (scalar.Pointer 3) 17) access.Unused ∷ []) ((0, ((scalar.Int Int, guard.Free) ∷ [])) ∷ (4, ((scalar.Int Int, guard.Free) ∷ [])) ∷ []) [] [] (record { steps = 60; depth = 4; cells = 100; output = 100 })) ≡ fine 1 []
unfolding body played pieces_of
assigns_an_or_that_goes_on = refl

-- i = i++ || 1; of 1
assigns_an_or_that_stops : verdict (program (op [] work.Declaration access.Unused ∷ op [] (work.Object 0 0) (access.Scalar (scalar.Int Int) false) ∷ op (1 ∷ []) (work.Return (form.Number Int)) access.Unused ∷ op (2 ∷ []) (work.Block [] []) access.Unused ∷ op [] work.Declaration access.Unused ∷ op [] (work.Constant Int (pos 1)) access.Unused ∷ op (5 ∷ []) (work.Initialise 4 (line 0 (form.Number Int) 6 ∷ [])) access.Unused ∷ op (6 ∷ []) work.Declaration access.Unused ∷ op [] (work.Object 4 0) access.Unused ∷ op [] (work.Object 4 0) access.Unused ∷ op (9 ∷ []) (work.Update (Arithmetic operator.Add Int) (form.Number Int) false true) access.Unused ∷ op [] (work.Constant Int (pos 1)) access.Unused ∷ op (10 ∷ 11 ∷ []) work.LogicalOr access.Unused ∷ op (8 ∷ 12 ∷ []) (work.Assign (form.Number Int)) access.Unused ∷ op (13 ∷ []) work.Expression access.Unused ∷ op [] (work.Constant Int (pos 0)) access.Unused ∷ op (15 ∷ []) (work.Return (form.Number Int)) access.Unused ∷ op (7 ∷ 14 ∷ 16 ∷ []) (work.Block (4 ∷ []) []) access.Unused ∷ op [] (work.Program [] [] (scalar.Pointer 3) 17) access.Unused ∷ []) ((0, ((scalar.Int Int, guard.Free) ∷ [])) ∷ (4, ((scalar.Int Int, guard.Free) ∷ [])) ∷ []) [] [] (record { steps = 60; depth = 4; cells = 100; output = 100 })) ≡ undefined 12 13
unfolding body played pieces_of
assigns_an_or_that_stops = refl

-- i += (i = 1, 2);
adds_to_itself_after_a_comma : verdict (program (op [] work.Declaration access.Unused ∷ op [] (work.Object 0 0) (access.Scalar (scalar.Int Int) false) ∷ op (1 ∷ []) (work.Return (form.Number Int)) access.Unused ∷ op (2 ∷ []) (work.Block [] []) access.Unused ∷ op [] work.Declaration access.Unused ∷ op [] (work.Constant Int (pos 0)) access.Unused ∷ op (5 ∷ []) (work.Initialise 4 (line 0 (form.Number Int) 6 ∷ [])) access.Unused ∷ op (6 ∷ []) work.Declaration access.Unused ∷ op [] (work.Object 4 0) access.Unused ∷ op [] (work.Object 4 0) access.Unused ∷ op [] (work.Constant Int (pos 1)) access.Unused ∷ op (9 ∷ 10 ∷ []) (work.Assign (form.Number Int)) access.Unused ∷ op [] (work.Constant Int (pos 2)) access.Unused ∷ op (11 ∷ 12 ∷ []) work.Comma access.Unused ∷ op (13 ∷ []) work.Pass access.Unused ∷ op (8 ∷ 14 ∷ []) (work.Update (Arithmetic operator.Add Int) (form.Number Int) false false) access.Unused ∷ op (15 ∷ []) work.Expression access.Unused ∷ op [] (work.Object 4 0) (access.Scalar (scalar.Int Int) false) ∷ op (17 ∷ []) (work.Return (form.Number Int)) access.Unused ∷ op (7 ∷ 16 ∷ 18 ∷ []) (work.Block (4 ∷ []) []) access.Unused ∷ op [] (work.Program [] [] (scalar.Pointer 3) 19) access.Unused ∷ []) ((0, ((scalar.Int Int, guard.Free) ∷ [])) ∷ (4, ((scalar.Int Int, guard.Free) ∷ [])) ∷ []) [] [] (record { steps = 60; depth = 4; cells = 100; output = 100 })) ≡ fine 3 []
unfolding body played pieces_of
adds_to_itself_after_a_comma = refl

-- v + v; of a volatile v
adds_two_touches : verdict (program (op [] work.Declaration access.Unused ∷ op [] (work.Object 0 0) (access.Scalar (scalar.Int Int) false) ∷ op (1 ∷ []) (work.Return (form.Number Int)) access.Unused ∷ op (2 ∷ []) (work.Block [] []) access.Unused ∷ op [] work.Declaration access.Unused ∷ op [] (work.Constant Int (pos 0)) access.Unused ∷ op (5 ∷ []) (work.Initialise 4 (line 0 (form.Number Int) 6 ∷ [])) access.Unused ∷ op (6 ∷ []) work.Declaration access.Unused ∷ op [] (work.Object 4 0) (access.Scalar (scalar.Int Int) true) ∷ op [] (work.Object 4 0) (access.Scalar (scalar.Int Int) true) ∷ op (8 ∷ 9 ∷ []) (work.Binary (Arithmetic operator.Add Int)) access.Unused ∷ op (10 ∷ []) work.Expression access.Unused ∷ op [] (work.Constant Int (pos 0)) access.Unused ∷ op (12 ∷ []) (work.Return (form.Number Int)) access.Unused ∷ op (7 ∷ 11 ∷ 13 ∷ []) (work.Block (4 ∷ []) []) access.Unused ∷ op [] (work.Program [] [] (scalar.Pointer 3) 14) access.Unused ∷ []) ((0, ((scalar.Int Int, guard.Free) ∷ [])) ∷ (4, ((scalar.Int Int, guard.Free) ∷ [])) ∷ []) [] [] (record { steps = 60; depth = 4; cells = 100; output = 100 })) ≡ undefined 12 10
unfolding body played pieces_of
adds_two_touches = refl

-- v = v + 1; of a volatile v
assigns_a_touch : verdict (program (op [] work.Declaration access.Unused ∷ op [] (work.Object 0 0) (access.Scalar (scalar.Int Int) false) ∷ op (1 ∷ []) (work.Return (form.Number Int)) access.Unused ∷ op (2 ∷ []) (work.Block [] []) access.Unused ∷ op [] work.Declaration access.Unused ∷ op [] (work.Constant Int (pos 0)) access.Unused ∷ op (5 ∷ []) (work.Initialise 4 (line 0 (form.Number Int) 6 ∷ [])) access.Unused ∷ op (6 ∷ []) work.Declaration access.Unused ∷ op [] (work.Object 4 0) access.Unused ∷ op [] (work.Object 4 0) (access.Scalar (scalar.Int Int) true) ∷ op [] (work.Constant Int (pos 1)) access.Unused ∷ op (9 ∷ 10 ∷ []) (work.Binary (Arithmetic operator.Add Int)) access.Unused ∷ op (8 ∷ 11 ∷ []) (work.Assign (form.Number Int)) access.Unused ∷ op (12 ∷ []) work.Expression access.Unused ∷ op [] (work.Object 4 0) (access.Scalar (scalar.Int Int) true) ∷ op [] (work.Object 4 0) (access.Scalar (scalar.Int Int) true) ∷ op (14 ∷ 15 ∷ []) work.LogicalAnd access.Unused ∷ op (16 ∷ []) (work.Return (form.Number Int)) access.Unused ∷ op (7 ∷ 13 ∷ 17 ∷ []) (work.Block (4 ∷ []) []) access.Unused ∷ op [] (work.Program [] [] (scalar.Pointer 3) 18) access.Unused ∷ []) ((0, ((scalar.Int Int, guard.Free) ∷ [])) ∷ (4, ((scalar.Int Int, guard.Free) ∷ [])) ∷ []) [] [] (record { steps = 60; depth = 4; cells = 100; output = 100 })) ≡ fine 1 []
unfolding body played pieces_of
assigns_a_touch = refl

-- f(v, v); of a volatile v
passes_two_touches : verdict (program (op [] work.Declaration access.Unused ∷ op [] (work.Object 0 0) (access.Scalar (scalar.Int Int) false) ∷ op (1 ∷ []) (work.Return (form.Number Int)) access.Unused ∷ op (2 ∷ []) (work.Block [] []) access.Unused ∷ op [] work.Declaration access.Unused ∷ op [] (work.Constant Int (pos 0)) access.Unused ∷ op (5 ∷ []) (work.Initialise 4 (line 0 (form.Number Int) 6 ∷ [])) access.Unused ∷ op (6 ∷ []) work.Declaration access.Unused ∷ op [] work.Declaration access.Unused ∷ op [] (work.Object 4 0) (access.Scalar (scalar.Int Int) true) ∷ op [] (work.Object 4 0) (access.Scalar (scalar.Int Int) true) ∷ op (9 ∷ 10 ∷ []) (work.Call (Function (parameter 0 (form.Number Int) ∷ parameter 8 (form.Number Int) ∷ []) 3 false)) access.Unused ∷ op (11 ∷ []) work.Expression access.Unused ∷ op [] (work.Constant Int (pos 0)) access.Unused ∷ op (13 ∷ []) (work.Return (form.Number Int)) access.Unused ∷ op (7 ∷ 12 ∷ 14 ∷ []) (work.Block (4 ∷ []) []) access.Unused ∷ op [] (work.Program [] [] (scalar.Pointer 3) 15) access.Unused ∷ []) ((0, ((scalar.Int Int, guard.Free) ∷ [])) ∷ (4, ((scalar.Int Int, guard.Free) ∷ [])) ∷ (8, ((scalar.Int Int, guard.Free) ∷ [])) ∷ []) [] [] (record { steps = 60; depth = 4; cells = 100; output = 100 })) ≡ undefined 12 11
unfolding body played pieces_of
passes_two_touches = refl

-- 2147483647 + 1;
signed_sum_overflows : verdict (program (op [] work.Declaration access.Unused ∷ op [] (work.Object 0 0) (access.Scalar (scalar.Int Int) false) ∷ op (1 ∷ []) (work.Return (form.Number Int)) access.Unused ∷ op (2 ∷ []) (work.Block [] []) access.Unused ∷ op [] work.Declaration access.Unused ∷ op [] (work.Constant Int (pos 0)) access.Unused ∷ op (5 ∷ []) (work.Initialise 4 (line 0 (form.Number Int) 6 ∷ [])) access.Unused ∷ op (6 ∷ []) work.Declaration access.Unused ∷ op [] (work.Constant Int (pos 2147483647)) access.Unused ∷ op [] (work.Constant Int (pos 1)) access.Unused ∷ op (8 ∷ 9 ∷ []) (work.Binary (Arithmetic operator.Add Int)) access.Unused ∷ op (10 ∷ []) work.Expression access.Unused ∷ op [] (work.Constant Int (pos 0)) access.Unused ∷ op (12 ∷ []) (work.Return (form.Number Int)) access.Unused ∷ op (7 ∷ 11 ∷ 13 ∷ []) (work.Block (4 ∷ []) []) access.Unused ∷ op [] (work.Program [] [] (scalar.Pointer 3) 14) access.Unused ∷ []) ((0, ((scalar.Int Int, guard.Free) ∷ [])) ∷ (4, ((scalar.Int Int, guard.Free) ∷ [])) ∷ []) [] [] (record { steps = 60; depth = 4; cells = 100; output = 100 })) ≡ undefined 1 10
unfolding body played pieces_of
signed_sum_overflows = refl

-- 1 / 0;
divides_by_zero : verdict (program (op [] work.Declaration access.Unused ∷ op [] (work.Object 0 0) (access.Scalar (scalar.Int Int) false) ∷ op (1 ∷ []) (work.Return (form.Number Int)) access.Unused ∷ op (2 ∷ []) (work.Block [] []) access.Unused ∷ op [] work.Declaration access.Unused ∷ op [] (work.Constant Int (pos 0)) access.Unused ∷ op (5 ∷ []) (work.Initialise 4 (line 0 (form.Number Int) 6 ∷ [])) access.Unused ∷ op (6 ∷ []) work.Declaration access.Unused ∷ op [] (work.Constant Int (pos 1)) access.Unused ∷ op [] (work.Constant Int (pos 0)) access.Unused ∷ op (8 ∷ 9 ∷ []) (work.Binary (Arithmetic operator.Divide Int)) access.Unused ∷ op (10 ∷ []) work.Expression access.Unused ∷ op [] (work.Constant Int (pos 0)) access.Unused ∷ op (12 ∷ []) (work.Return (form.Number Int)) access.Unused ∷ op (7 ∷ 11 ∷ 13 ∷ []) (work.Block (4 ∷ []) []) access.Unused ∷ op [] (work.Program [] [] (scalar.Pointer 3) 14) access.Unused ∷ []) ((0, ((scalar.Int Int, guard.Free) ∷ [])) ∷ (4, ((scalar.Int Int, guard.Free) ∷ [])) ∷ []) [] [] (record { steps = 60; depth = 4; cells = 100; output = 100 })) ≡ undefined 2 10
unfolding body played pieces_of
divides_by_zero = refl

-- (-2147483647 - 1) / -1;
quotient_overflows : verdict (program (op [] work.Declaration access.Unused ∷ op [] (work.Object 0 0) (access.Scalar (scalar.Int Int) false) ∷ op (1 ∷ []) (work.Return (form.Number Int)) access.Unused ∷ op (2 ∷ []) (work.Block [] []) access.Unused ∷ op [] work.Declaration access.Unused ∷ op [] (work.Constant Int (pos 0)) access.Unused ∷ op (5 ∷ []) (work.Initialise 4 (line 0 (form.Number Int) 6 ∷ [])) access.Unused ∷ op (6 ∷ []) work.Declaration access.Unused ∷ op [] (work.Constant Int (pos 2147483647)) access.Unused ∷ op (8 ∷ []) (work.Unary Minus Int) access.Unused ∷ op [] (work.Constant Int (pos 1)) access.Unused ∷ op (9 ∷ 10 ∷ []) (work.Binary (Arithmetic operator.Subtract Int)) access.Unused ∷ op (11 ∷ []) work.Pass access.Unused ∷ op [] (work.Constant Int (pos 1)) access.Unused ∷ op (13 ∷ []) (work.Unary Minus Int) access.Unused ∷ op (12 ∷ 14 ∷ []) (work.Binary (Arithmetic operator.Divide Int)) access.Unused ∷ op (15 ∷ []) work.Expression access.Unused ∷ op [] (work.Constant Int (pos 0)) access.Unused ∷ op (17 ∷ []) (work.Return (form.Number Int)) access.Unused ∷ op (7 ∷ 16 ∷ 18 ∷ []) (work.Block (4 ∷ []) []) access.Unused ∷ op [] (work.Program [] [] (scalar.Pointer 3) 19) access.Unused ∷ []) ((0, ((scalar.Int Int, guard.Free) ∷ [])) ∷ (4, ((scalar.Int Int, guard.Free) ∷ [])) ∷ []) [] [] (record { steps = 60; depth = 4; cells = 100; output = 100 })) ≡ undefined 3 15
unfolding body played pieces_of
quotient_overflows = refl

-- (-2147483647 - 1) % -1;
remainder_of_it : verdict (program (op [] work.Declaration access.Unused ∷ op [] (work.Object 0 0) (access.Scalar (scalar.Int Int) false) ∷ op (1 ∷ []) (work.Return (form.Number Int)) access.Unused ∷ op (2 ∷ []) (work.Block [] []) access.Unused ∷ op [] work.Declaration access.Unused ∷ op [] (work.Constant Int (pos 0)) access.Unused ∷ op (5 ∷ []) (work.Initialise 4 (line 0 (form.Number Int) 6 ∷ [])) access.Unused ∷ op (6 ∷ []) work.Declaration access.Unused ∷ op [] (work.Constant Int (pos 2147483647)) access.Unused ∷ op (8 ∷ []) (work.Unary Minus Int) access.Unused ∷ op [] (work.Constant Int (pos 1)) access.Unused ∷ op (9 ∷ 10 ∷ []) (work.Binary (Arithmetic operator.Subtract Int)) access.Unused ∷ op (11 ∷ []) work.Pass access.Unused ∷ op [] (work.Constant Int (pos 1)) access.Unused ∷ op (13 ∷ []) (work.Unary Minus Int) access.Unused ∷ op (12 ∷ 14 ∷ []) (work.Binary (Arithmetic operator.Remainder Int)) access.Unused ∷ op (15 ∷ []) work.Expression access.Unused ∷ op [] (work.Constant Int (pos 0)) access.Unused ∷ op (17 ∷ []) (work.Return (form.Number Int)) access.Unused ∷ op (7 ∷ 16 ∷ 18 ∷ []) (work.Block (4 ∷ []) []) access.Unused ∷ op [] (work.Program [] [] (scalar.Pointer 3) 19) access.Unused ∷ []) ((0, ((scalar.Int Int, guard.Free) ∷ [])) ∷ (4, ((scalar.Int Int, guard.Free) ∷ [])) ∷ []) [] [] (record { steps = 60; depth = 4; cells = 100; output = 100 })) ≡ undefined 3 15
unfolding body played pieces_of
remainder_of_it = refl

-- 1u << 32;
shifts_by_the_width : verdict (program (op [] work.Declaration access.Unused ∷ op [] (work.Object 0 0) (access.Scalar (scalar.Int Int) false) ∷ op (1 ∷ []) (work.Return (form.Number Int)) access.Unused ∷ op (2 ∷ []) (work.Block [] []) access.Unused ∷ op [] work.Declaration access.Unused ∷ op [] (work.Constant Int (pos 0)) access.Unused ∷ op (5 ∷ []) (work.Initialise 4 (line 0 (form.Number Int) 6 ∷ [])) access.Unused ∷ op (6 ∷ []) work.Declaration access.Unused ∷ op [] (work.Constant UInt (pos 1)) access.Unused ∷ op [] (work.Constant Int (pos 32)) access.Unused ∷ op (8 ∷ 9 ∷ []) (work.Binary (Arithmetic operator.ShiftLeft UInt)) access.Unused ∷ op (10 ∷ []) work.Expression access.Unused ∷ op [] (work.Constant Int (pos 0)) access.Unused ∷ op (12 ∷ []) (work.Return (form.Number Int)) access.Unused ∷ op (7 ∷ 11 ∷ 13 ∷ []) (work.Block (4 ∷ []) []) access.Unused ∷ op [] (work.Program [] [] (scalar.Pointer 3) 14) access.Unused ∷ []) ((0, ((scalar.Int Int, guard.Free) ∷ [])) ∷ (4, ((scalar.Int Int, guard.Free) ∷ [])) ∷ []) [] [] (record { steps = 60; depth = 4; cells = 100; output = 100 })) ≡ undefined 4 10
unfolding body played pieces_of
shifts_by_the_width = refl

-- 1 << 31;
shifts_into_the_sign : verdict (program (op [] work.Declaration access.Unused ∷ op [] (work.Object 0 0) (access.Scalar (scalar.Int Int) false) ∷ op (1 ∷ []) (work.Return (form.Number Int)) access.Unused ∷ op (2 ∷ []) (work.Block [] []) access.Unused ∷ op [] work.Declaration access.Unused ∷ op [] (work.Constant Int (pos 0)) access.Unused ∷ op (5 ∷ []) (work.Initialise 4 (line 0 (form.Number Int) 6 ∷ [])) access.Unused ∷ op (6 ∷ []) work.Declaration access.Unused ∷ op [] (work.Constant Int (pos 1)) access.Unused ∷ op [] (work.Constant Int (pos 31)) access.Unused ∷ op (8 ∷ 9 ∷ []) (work.Binary (Arithmetic operator.ShiftLeft Int)) access.Unused ∷ op (10 ∷ []) work.Expression access.Unused ∷ op [] (work.Constant Int (pos 0)) access.Unused ∷ op (12 ∷ []) (work.Return (form.Number Int)) access.Unused ∷ op (7 ∷ 11 ∷ 13 ∷ []) (work.Block (4 ∷ []) []) access.Unused ∷ op [] (work.Program [] [] (scalar.Pointer 3) 14) access.Unused ∷ []) ((0, ((scalar.Int Int, guard.Free) ∷ [])) ∷ (4, ((scalar.Int Int, guard.Free) ∷ [])) ∷ []) [] [] (record { steps = 60; depth = 4; cells = 100; output = 100 })) ≡ undefined 5 10
unfolding body played pieces_of
shifts_into_the_sign = refl

-- char c = 127; c++; return c == -128;
narrowing_wraps : verdict (program (op [] work.Declaration access.Unused ∷ op [] (work.Object 0 0) (access.Scalar (scalar.Int Int) false) ∷ op (1 ∷ []) (work.Return (form.Number Int)) access.Unused ∷ op (2 ∷ []) (work.Block [] []) access.Unused ∷ op [] work.Declaration access.Unused ∷ op [] (work.Constant Int (pos 0)) access.Unused ∷ op (5 ∷ []) (work.Initialise 4 (line 0 (form.Number Int) 6 ∷ [])) access.Unused ∷ op (6 ∷ []) work.Declaration access.Unused ∷ op [] work.Declaration access.Unused ∷ op [] (work.Constant Int (pos 127)) access.Unused ∷ op (9 ∷ []) (work.Initialise 8 (line 0 (form.Number Char) 10 ∷ [])) access.Unused ∷ op (10 ∷ []) work.Declaration access.Unused ∷ op [] (work.Object 8 0) access.Unused ∷ op (12 ∷ []) (work.Update (Arithmetic operator.Add Int) (form.Number Char) false true) access.Unused ∷ op (13 ∷ []) work.Expression access.Unused ∷ op [] (work.Object 8 0) (access.Scalar (scalar.Int Char) false) ∷ op [] (work.Constant Int (pos 128)) access.Unused ∷ op (16 ∷ []) (work.Unary Minus Int) access.Unused ∷ op (15 ∷ 17 ∷ []) (work.Compare Equal Int) access.Unused ∷ op (18 ∷ []) (work.Return (form.Number Int)) access.Unused ∷ op (7 ∷ 11 ∷ 14 ∷ 19 ∷ []) (work.Block (4 ∷ 8 ∷ []) []) access.Unused ∷ op [] (work.Program [] [] (scalar.Pointer 3) 20) access.Unused ∷ []) ((0, ((scalar.Int Int, guard.Free) ∷ [])) ∷ (4, ((scalar.Int Int, guard.Free) ∷ [])) ∷ (8, ((scalar.Int Char, guard.Free) ∷ [])) ∷ []) [] [] (record { steps = 60; depth = 4; cells = 100; output = 100 })) ≡ fine 1 []
unfolding body played pieces_of
narrowing_wraps = refl

-- &a[0][3]; of int a[2][3]
address_of_the_end_of_a_row : verdict (program (op [] work.Declaration access.Unused ∷ op [] (work.Object 0 0) (access.Scalar (scalar.Int Int) false) ∷ op (1 ∷ []) (work.Return (form.Number Int)) access.Unused ∷ op (2 ∷ []) (work.Block [] []) access.Unused ∷ op [] work.Declaration access.Unused ∷ op [] (work.Constant Int (pos 0)) access.Unused ∷ op (5 ∷ []) (work.Initialise 4 (line 0 (form.Number Int) 6 ∷ [])) access.Unused ∷ op (6 ∷ []) work.Declaration access.Unused ∷ op [] work.Declaration access.Unused ∷ op [] (work.Object 8 0) (access.Array (element 3) 6) ∷ op [] (work.Constant Int (pos 0)) access.Unused ∷ op (9 ∷ 10 ∷ []) (work.Subscript (element 3)) (access.Array (element 1) 3) ∷ op [] (work.Constant Int (pos 3)) access.Unused ∷ op (11 ∷ 12 ∷ []) (work.Binary (Move false (element 1))) access.Unused ∷ op [] (work.Declare 8) access.Unused ∷ op (14 ∷ []) work.Declaration access.Unused ∷ op (13 ∷ []) work.Expression access.Unused ∷ op [] (work.Constant Int (pos 0)) access.Unused ∷ op (17 ∷ []) (work.Return (form.Number Int)) access.Unused ∷ op (7 ∷ 15 ∷ 16 ∷ 18 ∷ []) (work.Block (4 ∷ 8 ∷ []) []) access.Unused ∷ op [] (work.Program [] [] (scalar.Pointer 3) 19) access.Unused ∷ []) ((0, ((scalar.Int Int, guard.Free) ∷ [])) ∷ (4, ((scalar.Int Int, guard.Free) ∷ [])) ∷ (8, ((scalar.Int Int, guard.Free) ∷ (scalar.Int Int, guard.Free) ∷ (scalar.Int Int, guard.Free) ∷ (scalar.Int Int, guard.Free) ∷ (scalar.Int Int, guard.Free) ∷ (scalar.Int Int, guard.Free) ∷ [])) ∷ []) [] [] (record { steps = 60; depth = 4; cells = 100; output = 100 })) ≡ fine 0 []
unfolding body played pieces_of
address_of_the_end_of_a_row = refl

-- a[0][3];
reads_the_end_of_a_row : verdict (program (op [] work.Declaration access.Unused ∷ op [] (work.Object 0 0) (access.Scalar (scalar.Int Int) false) ∷ op (1 ∷ []) (work.Return (form.Number Int)) access.Unused ∷ op (2 ∷ []) (work.Block [] []) access.Unused ∷ op [] work.Declaration access.Unused ∷ op [] (work.Constant Int (pos 0)) access.Unused ∷ op (5 ∷ []) (work.Initialise 4 (line 0 (form.Number Int) 6 ∷ [])) access.Unused ∷ op (6 ∷ []) work.Declaration access.Unused ∷ op [] work.Declaration access.Unused ∷ op [] (work.Object 8 0) (access.Array (element 3) 6) ∷ op [] (work.Constant Int (pos 0)) access.Unused ∷ op (9 ∷ 10 ∷ []) (work.Subscript (element 3)) (access.Array (element 1) 3) ∷ op [] (work.Constant Int (pos 3)) access.Unused ∷ op (11 ∷ 12 ∷ []) (work.Subscript (element 1)) (access.Scalar (scalar.Int Int) false) ∷ op [] (work.Declare 8) access.Unused ∷ op (14 ∷ []) work.Declaration access.Unused ∷ op (13 ∷ []) work.Expression access.Unused ∷ op [] (work.Constant Int (pos 0)) access.Unused ∷ op (17 ∷ []) (work.Return (form.Number Int)) access.Unused ∷ op (7 ∷ 15 ∷ 16 ∷ 18 ∷ []) (work.Block (4 ∷ 8 ∷ []) []) access.Unused ∷ op [] (work.Program [] [] (scalar.Pointer 3) 19) access.Unused ∷ []) ((0, ((scalar.Int Int, guard.Free) ∷ [])) ∷ (4, ((scalar.Int Int, guard.Free) ∷ [])) ∷ (8, ((scalar.Int Int, guard.Free) ∷ (scalar.Int Int, guard.Free) ∷ (scalar.Int Int, guard.Free) ∷ (scalar.Int Int, guard.Free) ∷ (scalar.Int Int, guard.Free) ∷ (scalar.Int Int, guard.Free) ∷ [])) ∷ []) [] [] (record { steps = 60; depth = 4; cells = 100; output = 100 })) ≡ undefined 9 13
unfolding body played pieces_of
reads_the_end_of_a_row = refl

-- a[0] + 4;
goes_past_the_end_of_a_row : verdict (program (op [] work.Declaration access.Unused ∷ op [] (work.Object 0 0) (access.Scalar (scalar.Int Int) false) ∷ op (1 ∷ []) (work.Return (form.Number Int)) access.Unused ∷ op (2 ∷ []) (work.Block [] []) access.Unused ∷ op [] work.Declaration access.Unused ∷ op [] (work.Constant Int (pos 0)) access.Unused ∷ op (5 ∷ []) (work.Initialise 4 (line 0 (form.Number Int) 6 ∷ [])) access.Unused ∷ op (6 ∷ []) work.Declaration access.Unused ∷ op [] work.Declaration access.Unused ∷ op [] (work.Object 8 0) (access.Array (element 3) 6) ∷ op [] (work.Constant Int (pos 0)) access.Unused ∷ op (9 ∷ 10 ∷ []) (work.Subscript (element 3)) (access.Array (element 1) 3) ∷ op [] (work.Constant Int (pos 4)) access.Unused ∷ op (11 ∷ 12 ∷ []) (work.Binary (Move false (element 1))) access.Unused ∷ op [] (work.Declare 8) access.Unused ∷ op (14 ∷ []) work.Declaration access.Unused ∷ op (13 ∷ []) work.Expression access.Unused ∷ op [] (work.Constant Int (pos 0)) access.Unused ∷ op (17 ∷ []) (work.Return (form.Number Int)) access.Unused ∷ op (7 ∷ 15 ∷ 16 ∷ 18 ∷ []) (work.Block (4 ∷ 8 ∷ []) []) access.Unused ∷ op [] (work.Program [] [] (scalar.Pointer 3) 19) access.Unused ∷ []) ((0, ((scalar.Int Int, guard.Free) ∷ [])) ∷ (4, ((scalar.Int Int, guard.Free) ∷ [])) ∷ (8, ((scalar.Int Int, guard.Free) ∷ (scalar.Int Int, guard.Free) ∷ (scalar.Int Int, guard.Free) ∷ (scalar.Int Int, guard.Free) ∷ (scalar.Int Int, guard.Free) ∷ (scalar.Int Int, guard.Free) ∷ [])) ∷ []) [] [] (record { steps = 60; depth = 4; cells = 100; output = 100 })) ≡ undefined 6 13
unfolding body played pieces_of
goes_past_the_end_of_a_row = refl

-- ((int *)a)[0];
another_stride : verdict (program (op [] work.Declaration access.Unused ∷ op [] (work.Object 0 0) (access.Scalar (scalar.Int Int) false) ∷ op (1 ∷ []) (work.Return (form.Number Int)) access.Unused ∷ op (2 ∷ []) (work.Block [] []) access.Unused ∷ op [] work.Declaration access.Unused ∷ op [] (work.Constant Int (pos 0)) access.Unused ∷ op (5 ∷ []) (work.Initialise 4 (line 0 (form.Number Int) 6 ∷ [])) access.Unused ∷ op (6 ∷ []) work.Declaration access.Unused ∷ op [] work.Declaration access.Unused ∷ op [] (work.Object 8 0) (access.Array (element 3) 6) ∷ op (9 ∷ []) (work.Cast (form.Pointer 0)) access.Unused ∷ op (10 ∷ []) work.Pass access.Unused ∷ op [] (work.Constant Int (pos 0)) access.Unused ∷ op (11 ∷ 12 ∷ []) (work.Subscript (element 1)) (access.Scalar (scalar.Int Int) false) ∷ op [] (work.Declare 8) access.Unused ∷ op (14 ∷ []) work.Declaration access.Unused ∷ op (13 ∷ []) work.Expression access.Unused ∷ op [] (work.Constant Int (pos 0)) access.Unused ∷ op (17 ∷ []) (work.Return (form.Number Int)) access.Unused ∷ op (7 ∷ 15 ∷ 16 ∷ 18 ∷ []) (work.Block (4 ∷ 8 ∷ []) []) access.Unused ∷ op [] (work.Program [] [] (scalar.Pointer 3) 19) access.Unused ∷ []) ((0, ((scalar.Int Int, guard.Free) ∷ [])) ∷ (4, ((scalar.Int Int, guard.Free) ∷ [])) ∷ (8, ((scalar.Int Int, guard.Free) ∷ (scalar.Int Int, guard.Free) ∷ (scalar.Int Int, guard.Free) ∷ (scalar.Int Int, guard.Free) ∷ (scalar.Int Int, guard.Free) ∷ (scalar.Int Int, guard.Free) ∷ [])) ∷ []) [] [] (record { steps = 60; depth = 4; cells = 100; output = 100 })) ≡ left 5 13
unfolding body played pieces_of
another_stride = refl

-- a - b; of int a[2], b[2]
distance_of_two_arrays : verdict (program (op [] work.Declaration access.Unused ∷ op [] (work.Object 0 0) (access.Scalar (scalar.Int Int) false) ∷ op (1 ∷ []) (work.Return (form.Number Int)) access.Unused ∷ op (2 ∷ []) (work.Block [] []) access.Unused ∷ op [] work.Declaration access.Unused ∷ op [] (work.Constant Int (pos 0)) access.Unused ∷ op (5 ∷ []) (work.Initialise 4 (line 0 (form.Number Int) 6 ∷ [])) access.Unused ∷ op (6 ∷ []) work.Declaration access.Unused ∷ op [] work.Declaration access.Unused ∷ op [] work.Declaration access.Unused ∷ op [] (work.Object 8 0) (access.Array (element 1) 2) ∷ op [] (work.Object 9 0) (access.Array (element 1) 2) ∷ op (10 ∷ 11 ∷ []) (work.Distance (element 1)) access.Unused ∷ op (12 ∷ []) work.Expression access.Unused ∷ op [] (work.Constant Int (pos 0)) access.Unused ∷ op (14 ∷ []) (work.Return (form.Number Int)) access.Unused ∷ op (7 ∷ 13 ∷ 15 ∷ []) (work.Block (4 ∷ 8 ∷ 9 ∷ []) []) access.Unused ∷ op [] (work.Program [] [] (scalar.Pointer 3) 16) access.Unused ∷ []) ((0, ((scalar.Int Int, guard.Free) ∷ [])) ∷ (4, ((scalar.Int Int, guard.Free) ∷ [])) ∷ (8, ((scalar.Int Int, guard.Free) ∷ (scalar.Int Int, guard.Free) ∷ [])) ∷ (9, ((scalar.Int Int, guard.Free) ∷ (scalar.Int Int, guard.Free) ∷ [])) ∷ []) [] [] (record { steps = 60; depth = 4; cells = 100; output = 100 })) ≡ undefined 7 12
unfolding body played pieces_of
distance_of_two_arrays = refl

-- a < b;
order_of_two_arrays : verdict (program (op [] work.Declaration access.Unused ∷ op [] (work.Object 0 0) (access.Scalar (scalar.Int Int) false) ∷ op (1 ∷ []) (work.Return (form.Number Int)) access.Unused ∷ op (2 ∷ []) (work.Block [] []) access.Unused ∷ op [] work.Declaration access.Unused ∷ op [] (work.Constant Int (pos 0)) access.Unused ∷ op (5 ∷ []) (work.Initialise 4 (line 0 (form.Number Int) 6 ∷ [])) access.Unused ∷ op (6 ∷ []) work.Declaration access.Unused ∷ op [] work.Declaration access.Unused ∷ op [] work.Declaration access.Unused ∷ op [] (work.Object 8 0) (access.Array (element 1) 2) ∷ op [] (work.Object 9 0) (access.Array (element 1) 2) ∷ op (10 ∷ 11 ∷ []) (work.ComparePointers Less) access.Unused ∷ op (12 ∷ []) work.Expression access.Unused ∷ op [] (work.Constant Int (pos 0)) access.Unused ∷ op (14 ∷ []) (work.Return (form.Number Int)) access.Unused ∷ op (7 ∷ 13 ∷ 15 ∷ []) (work.Block (4 ∷ 8 ∷ 9 ∷ []) []) access.Unused ∷ op [] (work.Program [] [] (scalar.Pointer 3) 16) access.Unused ∷ []) ((0, ((scalar.Int Int, guard.Free) ∷ [])) ∷ (4, ((scalar.Int Int, guard.Free) ∷ [])) ∷ (8, ((scalar.Int Int, guard.Free) ∷ (scalar.Int Int, guard.Free) ∷ [])) ∷ (9, ((scalar.Int Int, guard.Free) ∷ (scalar.Int Int, guard.Free) ∷ [])) ∷ []) [] [] (record { steps = 60; depth = 4; cells = 100; output = 100 })) ≡ undefined 8 12
unfolding body played pieces_of
order_of_two_arrays = refl

-- a + 2 == b;
end_of_one_against_another : verdict (program (op [] work.Declaration access.Unused ∷ op [] (work.Object 0 0) (access.Scalar (scalar.Int Int) false) ∷ op (1 ∷ []) (work.Return (form.Number Int)) access.Unused ∷ op (2 ∷ []) (work.Block [] []) access.Unused ∷ op [] work.Declaration access.Unused ∷ op [] (work.Constant Int (pos 0)) access.Unused ∷ op (5 ∷ []) (work.Initialise 4 (line 0 (form.Number Int) 6 ∷ [])) access.Unused ∷ op (6 ∷ []) work.Declaration access.Unused ∷ op [] work.Declaration access.Unused ∷ op [] work.Declaration access.Unused ∷ op [] (work.Object 8 0) (access.Array (element 1) 2) ∷ op [] (work.Constant Int (pos 2)) access.Unused ∷ op (10 ∷ 11 ∷ []) (work.Binary (Move false (element 1))) access.Unused ∷ op [] (work.Object 9 0) (access.Array (element 1) 2) ∷ op (12 ∷ 13 ∷ []) (work.ComparePointers Equal) access.Unused ∷ op (14 ∷ []) work.Expression access.Unused ∷ op [] (work.Constant Int (pos 0)) access.Unused ∷ op (16 ∷ []) (work.Return (form.Number Int)) access.Unused ∷ op (7 ∷ 15 ∷ 17 ∷ []) (work.Block (4 ∷ 8 ∷ 9 ∷ []) []) access.Unused ∷ op [] (work.Program [] [] (scalar.Pointer 3) 18) access.Unused ∷ []) ((0, ((scalar.Int Int, guard.Free) ∷ [])) ∷ (4, ((scalar.Int Int, guard.Free) ∷ [])) ∷ (8, ((scalar.Int Int, guard.Free) ∷ (scalar.Int Int, guard.Free) ∷ [])) ∷ (9, ((scalar.Int Int, guard.Free) ∷ (scalar.Int Int, guard.Free) ∷ [])) ∷ []) [] [] (record { steps = 60; depth = 4; cells = 100; output = 100 })) ≡ left 6 14
unfolding body played pieces_of
end_of_one_against_another = refl

-- a == b;
two_arrays_are_unequal : verdict (program (op [] work.Declaration access.Unused ∷ op [] (work.Object 0 0) (access.Scalar (scalar.Int Int) false) ∷ op (1 ∷ []) (work.Return (form.Number Int)) access.Unused ∷ op (2 ∷ []) (work.Block [] []) access.Unused ∷ op [] work.Declaration access.Unused ∷ op [] (work.Constant Int (pos 0)) access.Unused ∷ op (5 ∷ []) (work.Initialise 4 (line 0 (form.Number Int) 6 ∷ [])) access.Unused ∷ op (6 ∷ []) work.Declaration access.Unused ∷ op [] work.Declaration access.Unused ∷ op [] work.Declaration access.Unused ∷ op [] (work.Object 8 0) (access.Array (element 1) 2) ∷ op [] (work.Object 9 0) (access.Array (element 1) 2) ∷ op (10 ∷ 11 ∷ []) (work.ComparePointers Equal) access.Unused ∷ op (12 ∷ []) work.Expression access.Unused ∷ op [] (work.Constant Int (pos 0)) access.Unused ∷ op (14 ∷ []) (work.Return (form.Number Int)) access.Unused ∷ op (7 ∷ 13 ∷ 15 ∷ []) (work.Block (4 ∷ 8 ∷ 9 ∷ []) []) access.Unused ∷ op [] (work.Program [] [] (scalar.Pointer 3) 16) access.Unused ∷ []) ((0, ((scalar.Int Int, guard.Free) ∷ [])) ∷ (4, ((scalar.Int Int, guard.Free) ∷ [])) ∷ (8, ((scalar.Int Int, guard.Free) ∷ (scalar.Int Int, guard.Free) ∷ [])) ∷ (9, ((scalar.Int Int, guard.Free) ∷ (scalar.Int Int, guard.Free) ∷ [])) ∷ []) [] [] (record { steps = 60; depth = 4; cells = 100; output = 100 })) ≡ fine 0 []
unfolding body played pieces_of
two_arrays_are_unequal = refl

-- (int *)0 + 0;
sum_on_null : verdict (program (op [] work.Declaration access.Unused ∷ op [] (work.Object 0 0) (access.Scalar (scalar.Int Int) false) ∷ op (1 ∷ []) (work.Return (form.Number Int)) access.Unused ∷ op (2 ∷ []) (work.Block [] []) access.Unused ∷ op [] work.Declaration access.Unused ∷ op [] (work.Constant Int (pos 0)) access.Unused ∷ op (5 ∷ []) (work.Initialise 4 (line 0 (form.Number Int) 6 ∷ [])) access.Unused ∷ op (6 ∷ []) work.Declaration access.Unused ∷ op [] work.Declaration access.Unused ∷ op [] work.Declaration access.Unused ∷ op [] (work.Constant Int (pos 0)) access.Unused ∷ op (10 ∷ []) (work.Cast (form.Pointer 0)) access.Unused ∷ op [] (work.Constant Int (pos 0)) access.Unused ∷ op (11 ∷ 12 ∷ []) (work.Binary (Move false (element 1))) access.Unused ∷ op (13 ∷ []) work.Expression access.Unused ∷ op [] (work.Constant Int (pos 0)) access.Unused ∷ op (15 ∷ []) (work.Return (form.Number Int)) access.Unused ∷ op (7 ∷ 14 ∷ 16 ∷ []) (work.Block (4 ∷ 8 ∷ 9 ∷ []) []) access.Unused ∷ op [] (work.Program [] [] (scalar.Pointer 3) 17) access.Unused ∷ []) ((0, ((scalar.Int Int, guard.Free) ∷ [])) ∷ (4, ((scalar.Int Int, guard.Free) ∷ [])) ∷ (8, ((scalar.Int Int, guard.Free) ∷ (scalar.Int Int, guard.Free) ∷ [])) ∷ (9, ((scalar.Int Int, guard.Free) ∷ (scalar.Int Int, guard.Free) ∷ [])) ∷ []) [] [] (record { steps = 60; depth = 4; cells = 100; output = 100 })) ≡ undefined 6 13
unfolding body played pieces_of
sum_on_null = refl

-- int *f(void){int x; return &x;} return f() == 0;
compares_an_ended_pointer : verdict (program (op [] work.Declaration access.Unused ∷ op [] (work.Object 0 0) access.Unused ∷ op (1 ∷ []) work.AddressOf access.Unused ∷ op (2 ∷ []) (work.Return (form.Pointer 0)) access.Unused ∷ op (3 ∷ []) (work.Block (0 ∷ []) []) access.Unused ∷ op [] (work.Call (Function [] 4 false)) access.Unused ∷ op [] (work.Constant Int (pos 0)) access.Unused ∷ op (5 ∷ 6 ∷ []) (work.ComparePointers Equal) access.Unused ∷ op (7 ∷ []) (work.Return (form.Number Int)) access.Unused ∷ op (8 ∷ []) (work.Block [] []) access.Unused ∷ op [] (work.Program [] [] (scalar.Pointer 3) 9) access.Unused ∷ []) ((0, ((scalar.Int Int, guard.Free) ∷ [])) ∷ []) [] [] (record { steps = 60; depth = 4; cells = 100; output = 100 })) ≡ undefined 10 7
unfolding body played pieces_of
compares_an_ended_pointer = refl

-- if (f()) return 1; return 0;
is_controlled_by_an_ended_pointer : verdict (program (op [] work.Declaration access.Unused ∷ op [] (work.Object 0 0) access.Unused ∷ op (1 ∷ []) work.AddressOf access.Unused ∷ op (2 ∷ []) (work.Return (form.Pointer 0)) access.Unused ∷ op (3 ∷ []) (work.Block (0 ∷ []) []) access.Unused ∷ op [] (work.Call (Function [] 4 false)) access.Unused ∷ op [] (work.Constant Int (pos 1)) access.Unused ∷ op (6 ∷ []) (work.Return (form.Number Int)) access.Unused ∷ op (5 ∷ 7 ∷ []) work.If access.Unused ∷ op [] (work.Constant Int (pos 0)) access.Unused ∷ op (9 ∷ []) (work.Return (form.Number Int)) access.Unused ∷ op (8 ∷ 10 ∷ []) (work.Block [] []) access.Unused ∷ op [] (work.Program [] [] (scalar.Pointer 3) 11) access.Unused ∷ []) ((0, ((scalar.Int Int, guard.Free) ∷ [])) ∷ []) [] [] (record { steps = 60; depth = 4; cells = 100; output = 100 })) ≡ undefined 10 8
unfolding body played pieces_of
is_controlled_by_an_ended_pointer = refl

-- f(); return 0;
drops_an_ended_pointer : verdict (program (op [] work.Declaration access.Unused ∷ op [] (work.Object 0 0) access.Unused ∷ op (1 ∷ []) work.AddressOf access.Unused ∷ op (2 ∷ []) (work.Return (form.Pointer 0)) access.Unused ∷ op (3 ∷ []) (work.Block (0 ∷ []) []) access.Unused ∷ op [] (work.Call (Function [] 4 false)) access.Unused ∷ op (5 ∷ []) work.Expression access.Unused ∷ op [] (work.Constant Int (pos 0)) access.Unused ∷ op (7 ∷ []) (work.Return (form.Number Int)) access.Unused ∷ op (6 ∷ 8 ∷ []) (work.Block [] []) access.Unused ∷ op [] (work.Program [] [] (scalar.Pointer 3) 9) access.Unused ∷ []) ((0, ((scalar.Int Int, guard.Free) ∷ [])) ∷ []) [] [] (record { steps = 60; depth = 4; cells = 100; output = 100 })) ≡ fine 0 []
unfolding body played pieces_of
drops_an_ended_pointer = refl

-- int b[2] = {1, b[0]};
initialises_by_itself : verdict (program (op [] work.Declaration access.Unused ∷ op [] (work.Object 0 0) (access.Scalar (scalar.Int Int) false) ∷ op (1 ∷ []) (work.Return (form.Number Int)) access.Unused ∷ op (2 ∷ []) (work.Block [] []) access.Unused ∷ op [] work.Declaration access.Unused ∷ op [] (work.Constant Int (pos 0)) access.Unused ∷ op (5 ∷ []) (work.Initialise 4 (line 0 (form.Number Int) 6 ∷ [])) access.Unused ∷ op (6 ∷ []) work.Declaration access.Unused ∷ op [] work.Declaration access.Unused ∷ op [] (work.Constant Int (pos 1)) access.Unused ∷ op [] (work.Object 8 0) (access.Array (element 1) 2) ∷ op [] (work.Constant Int (pos 0)) access.Unused ∷ op (10 ∷ 11 ∷ []) (work.Subscript (element 1)) (access.Scalar (scalar.Int Int) false) ∷ op (9 ∷ 12 ∷ []) (work.Initialise 8 (line 0 (form.Number Int) 13 ∷ line 1 (form.Number Int) 13 ∷ [])) access.Unused ∷ op (13 ∷ []) work.Declaration access.Unused ∷ op [] (work.Constant Int (pos 0)) access.Unused ∷ op (15 ∷ []) (work.Return (form.Number Int)) access.Unused ∷ op (7 ∷ 14 ∷ 16 ∷ []) (work.Block (4 ∷ 8 ∷ []) []) access.Unused ∷ op [] (work.Program [] [] (scalar.Pointer 3) 17) access.Unused ∷ []) ((0, ((scalar.Int Int, guard.Free) ∷ [])) ∷ (4, ((scalar.Int Int, guard.Free) ∷ [])) ∷ (8, ((scalar.Int Int, guard.Free) ∷ (scalar.Int Int, guard.Free) ∷ [])) ∷ []) [] [] (record { steps = 60; depth = 4; cells = 100; output = 100 })) ≡ undefined 11 12
unfolding body played pieces_of
initialises_by_itself = refl

-- int b[2] = {1}; return b[1];
the_rest_becomes_zero : verdict (program (op [] work.Declaration access.Unused ∷ op [] (work.Object 0 0) (access.Scalar (scalar.Int Int) false) ∷ op (1 ∷ []) (work.Return (form.Number Int)) access.Unused ∷ op (2 ∷ []) (work.Block [] []) access.Unused ∷ op [] work.Declaration access.Unused ∷ op [] (work.Constant Int (pos 0)) access.Unused ∷ op (5 ∷ []) (work.Initialise 4 (line 0 (form.Number Int) 6 ∷ [])) access.Unused ∷ op (6 ∷ []) work.Declaration access.Unused ∷ op [] work.Declaration access.Unused ∷ op [] (work.Constant Int (pos 1)) access.Unused ∷ op (9 ∷ []) (work.Initialise 8 (line 0 (form.Number Int) 10 ∷ [])) access.Unused ∷ op (10 ∷ []) work.Declaration access.Unused ∷ op [] (work.Object 8 0) (access.Array (element 1) 2) ∷ op [] (work.Constant Int (pos 1)) access.Unused ∷ op (12 ∷ 13 ∷ []) (work.Subscript (element 1)) (access.Scalar (scalar.Int Int) false) ∷ op (14 ∷ []) (work.Return (form.Number Int)) access.Unused ∷ op (7 ∷ 11 ∷ 15 ∷ []) (work.Block (4 ∷ 8 ∷ []) []) access.Unused ∷ op [] (work.Program [] [] (scalar.Pointer 3) 16) access.Unused ∷ []) ((0, ((scalar.Int Int, guard.Free) ∷ [])) ∷ (4, ((scalar.Int Int, guard.Free) ∷ [])) ∷ (8, ((scalar.Int Int, guard.Free) ∷ (scalar.Int Int, guard.Free) ∷ [])) ∷ []) [] [] (record { steps = 60; depth = 4; cells = 100; output = 100 })) ≡ fine 0 []
unfolding body played pieces_of
the_rest_becomes_zero = refl

-- "abc"[0] = 120;
writes_a_literal : verdict (program (op [] work.Declaration access.Unused ∷ op [] (work.Object 0 0) (access.Scalar (scalar.Int Int) false) ∷ op (1 ∷ []) (work.Return (form.Number Int)) access.Unused ∷ op (2 ∷ []) (work.Block [] []) access.Unused ∷ op [] work.Declaration access.Unused ∷ op [] (work.Constant Int (pos 0)) access.Unused ∷ op (5 ∷ []) (work.Initialise 4 (line 0 (form.Number Int) 6 ∷ [])) access.Unused ∷ op (6 ∷ []) work.Declaration access.Unused ∷ op [] (work.Object 8 0) (access.Array (element 1) 4) ∷ op [] (work.Constant Int (pos 0)) access.Unused ∷ op (8 ∷ 9 ∷ []) (work.Subscript (element 1)) access.Unused ∷ op [] (work.Constant Int (pos 120)) access.Unused ∷ op (10 ∷ 11 ∷ []) (work.Assign (form.Number Char)) access.Unused ∷ op (12 ∷ []) work.Expression access.Unused ∷ op [] (work.Constant Int (pos 0)) access.Unused ∷ op (14 ∷ []) (work.Return (form.Number Int)) access.Unused ∷ op (7 ∷ 13 ∷ 15 ∷ []) (work.Block (4 ∷ []) []) access.Unused ∷ op [] (work.Program (8 ∷ []) [] (scalar.Pointer 3) 16) access.Unused ∷ []) ((0, ((scalar.Int Int, guard.Free) ∷ [])) ∷ (4, ((scalar.Int Int, guard.Free) ∷ [])) ∷ (8, ((scalar.Int Char, guard.Literal) ∷ (scalar.Int Char, guard.Literal) ∷ (scalar.Int Char, guard.Literal) ∷ (scalar.Int Char, guard.Literal) ∷ [])) ∷ []) ((8, (cell.Number (pos 97) ∷ cell.Number (pos 98) ∷ cell.Number (pos 99) ∷ cell.Number (pos 0) ∷ [])) ∷ []) [] (record { steps = 60; depth = 4; cells = 100; output = 100 })) ≡ undefined 13 12
unfolding body played pieces_of
writes_a_literal = refl

-- char a[4] = "ab"; a[0] = 120; return a[1] + a[2] + a[3];
initialises_an_array_by_a_literal : verdict (program (op [] work.Declaration access.Unused ∷ op [] (work.Object 0 0) (access.Scalar (scalar.Int Int) false) ∷ op (1 ∷ []) (work.Return (form.Number Int)) access.Unused ∷ op (2 ∷ []) (work.Block [] []) access.Unused ∷ op [] work.Declaration access.Unused ∷ op [] (work.Constant Int (pos 0)) access.Unused ∷ op (5 ∷ []) (work.Initialise 4 (line 0 (form.Number Int) 6 ∷ [])) access.Unused ∷ op (6 ∷ []) work.Declaration access.Unused ∷ op [] work.Declaration access.Unused ∷ op [] (work.Object 9 0) access.Unused ∷ op (9 ∷ []) (work.Initialise 8 (line 0 (form.Cells 7) 10 ∷ [])) access.Unused ∷ op (10 ∷ []) work.Declaration access.Unused ∷ op [] (work.Object 8 0) (access.Array (element 1) 4) ∷ op [] (work.Constant Int (pos 0)) access.Unused ∷ op (12 ∷ 13 ∷ []) (work.Subscript (element 1)) access.Unused ∷ op [] (work.Constant Int (pos 120)) access.Unused ∷ op (14 ∷ 15 ∷ []) (work.Assign (form.Number Char)) access.Unused ∷ op (16 ∷ []) work.Expression access.Unused ∷ op [] (work.Object 8 0) (access.Array (element 1) 4) ∷ op [] (work.Constant Int (pos 1)) access.Unused ∷ op (18 ∷ 19 ∷ []) (work.Subscript (element 1)) (access.Scalar (scalar.Int Char) false) ∷ op [] (work.Object 8 0) (access.Array (element 1) 4) ∷ op [] (work.Constant Int (pos 2)) access.Unused ∷ op (21 ∷ 22 ∷ []) (work.Subscript (element 1)) (access.Scalar (scalar.Int Char) false) ∷ op (20 ∷ 23 ∷ []) (work.Binary (Arithmetic operator.Add Int)) access.Unused ∷ op [] (work.Object 8 0) (access.Array (element 1) 4) ∷ op [] (work.Constant Int (pos 3)) access.Unused ∷ op (25 ∷ 26 ∷ []) (work.Subscript (element 1)) (access.Scalar (scalar.Int Char) false) ∷ op (24 ∷ 27 ∷ []) (work.Binary (Arithmetic operator.Add Int)) access.Unused ∷ op (28 ∷ []) (work.Return (form.Number Int)) access.Unused ∷ op (7 ∷ 11 ∷ 17 ∷ 29 ∷ []) (work.Block (4 ∷ 8 ∷ []) []) access.Unused ∷ op [] (work.Program (9 ∷ []) [] (scalar.Pointer 3) 30) access.Unused ∷ []) ((0, ((scalar.Int Int, guard.Free) ∷ [])) ∷ (4, ((scalar.Int Int, guard.Free) ∷ [])) ∷ (8, ((scalar.Int Char, guard.Free) ∷ (scalar.Int Char, guard.Free) ∷ (scalar.Int Char, guard.Free) ∷ (scalar.Int Char, guard.Free) ∷ [])) ∷ (9, ((scalar.Int Char, guard.Literal) ∷ (scalar.Int Char, guard.Literal) ∷ (scalar.Int Char, guard.Literal) ∷ [])) ∷ []) ((9, (cell.Number (pos 97) ∷ cell.Number (pos 98) ∷ cell.Number (pos 0) ∷ [])) ∷ []) ((7, (scalar.Int Char ∷ scalar.Int Char ∷ scalar.Int Char ∷ scalar.Int Char ∷ [])) ∷ []) (record { steps = 60; depth = 4; cells = 100; output = 100 })) ≡ fine 98 []
unfolding body played pieces_of
initialises_an_array_by_a_literal = refl

-- unsigned char a[] = "\xff"; return a[0] == 255;
initialises_unsigned_chars_by_a_literal : verdict (program (op [] work.Declaration access.Unused ∷ op [] (work.Object 2 0) access.Unused ∷ op (1 ∷ []) (work.Initialise 0 (line 0 (form.Cells 7) 3 ∷ [])) access.Unused ∷ op (2 ∷ []) work.Declaration access.Unused ∷ op [] (work.Object 0 0) (access.Array (element 1) 2) ∷ op [] (work.Constant Int (pos 0)) access.Unused ∷ op (4 ∷ 5 ∷ []) (work.Subscript (element 1)) (access.Scalar (scalar.Int UChar) false) ∷ op [] (work.Constant Int (pos 255)) access.Unused ∷ op (6 ∷ 7 ∷ []) (work.Compare Equal Int) access.Unused ∷ op (8 ∷ []) (work.Return (form.Number Int)) access.Unused ∷ op (3 ∷ 9 ∷ []) (work.Block (0 ∷ []) []) access.Unused ∷ op [] (work.Program (2 ∷ []) [] (scalar.Pointer 3) 10) access.Unused ∷ []) ((0, ((scalar.Int UChar, guard.Free) ∷ (scalar.Int UChar, guard.Free) ∷ [])) ∷ (2, ((scalar.Int Char, guard.Literal) ∷ (scalar.Int Char, guard.Literal) ∷ [])) ∷ []) ((2, (cell.Number (negsuc 0) ∷ cell.Number (pos 0) ∷ [])) ∷ []) ((7, (scalar.Int UChar ∷ scalar.Int UChar ∷ [])) ∷ []) (record { steps = 60; depth = 4; cells = 100; output = 100 })) ≡ fine 1 []
unfolding body played pieces_of
initialises_unsigned_chars_by_a_literal = refl

-- struct s {const int m;} x = {1}; *(int *)&x.m = 2;
writes_a_constant_member : verdict (program (op [] work.Declaration access.Unused ∷ op [] (work.Object 0 0) (access.Scalar (scalar.Int Int) false) ∷ op (1 ∷ []) (work.Return (form.Number Int)) access.Unused ∷ op (2 ∷ []) (work.Block [] []) access.Unused ∷ op [] work.Declaration access.Unused ∷ op [] (work.Constant Int (pos 0)) access.Unused ∷ op (5 ∷ []) (work.Initialise 4 (line 0 (form.Number Int) 6 ∷ [])) access.Unused ∷ op (6 ∷ []) work.Declaration access.Unused ∷ op [] work.Declaration access.Unused ∷ op [] (work.Constant Int (pos 1)) access.Unused ∷ op (9 ∷ []) (work.Initialise 8 (line 0 (form.Number Int) 10 ∷ [])) access.Unused ∷ op (10 ∷ []) work.Declaration access.Unused ∷ op [] (work.Object 8 0) access.Unused ∷ op (12 ∷ []) (work.Member 1 0 (element 1) (form.Number Int)) access.Unused ∷ op (13 ∷ []) work.AddressOf access.Unused ∷ op (14 ∷ []) (work.Cast (form.Pointer 0)) access.Unused ∷ op (15 ∷ []) (work.Dereference (element 1)) access.Unused ∷ op [] (work.Constant Int (pos 2)) access.Unused ∷ op (16 ∷ 17 ∷ []) (work.Assign (form.Number Int)) access.Unused ∷ op (18 ∷ []) work.Expression access.Unused ∷ op [] (work.Constant Int (pos 0)) access.Unused ∷ op (20 ∷ []) (work.Return (form.Number Int)) access.Unused ∷ op (7 ∷ 11 ∷ 19 ∷ 21 ∷ []) (work.Block (4 ∷ 8 ∷ []) []) access.Unused ∷ op [] (work.Program [] [] (scalar.Pointer 3) 22) access.Unused ∷ []) ((0, ((scalar.Int Int, guard.Free) ∷ [])) ∷ (4, ((scalar.Int Int, guard.Free) ∷ [])) ∷ (8, ((scalar.Int Int, guard.Constant) ∷ [])) ∷ []) [] [] (record { steps = 60; depth = 4; cells = 100; output = 100 })) ≡ undefined 14 18
unfolding body played pieces_of
writes_a_constant_member = refl

-- x.a = 1; y = x; return y.a;
copies_an_unset_member : verdict (program (op [] work.Declaration access.Unused ∷ op [] (work.Object 0 0) (access.Scalar (scalar.Int Int) false) ∷ op (1 ∷ []) (work.Return (form.Number Int)) access.Unused ∷ op (2 ∷ []) (work.Block [] []) access.Unused ∷ op [] work.Declaration access.Unused ∷ op [] (work.Constant Int (pos 0)) access.Unused ∷ op (5 ∷ []) (work.Initialise 4 (line 0 (form.Number Int) 6 ∷ [])) access.Unused ∷ op (6 ∷ []) work.Declaration access.Unused ∷ op [] work.Declaration access.Unused ∷ op [] work.Declaration access.Unused ∷ op [] (work.Object 8 0) access.Unused ∷ op (10 ∷ []) (work.Member 2 0 (element 1) (form.Number Int)) access.Unused ∷ op [] (work.Constant Int (pos 1)) access.Unused ∷ op (11 ∷ 12 ∷ []) (work.Assign (form.Number Int)) access.Unused ∷ op (13 ∷ []) work.Expression access.Unused ∷ op [] (work.Object 9 0) access.Unused ∷ op [] (work.Object 8 0) (access.Cells 9) ∷ op (15 ∷ 16 ∷ []) (work.Assign (form.Cells 9)) access.Unused ∷ op (17 ∷ []) work.Expression access.Unused ∷ op [] (work.Object 9 0) access.Unused ∷ op (19 ∷ []) (work.Member 2 0 (element 1) (form.Number Int)) (access.Scalar (scalar.Int Int) false) ∷ op (20 ∷ []) (work.Return (form.Number Int)) access.Unused ∷ op (7 ∷ 14 ∷ 18 ∷ 21 ∷ []) (work.Block (4 ∷ 8 ∷ 9 ∷ []) []) access.Unused ∷ op [] (work.Program [] [] (scalar.Pointer 3) 22) access.Unused ∷ []) ((0, ((scalar.Int Int, guard.Free) ∷ [])) ∷ (4, ((scalar.Int Int, guard.Free) ∷ [])) ∷ (8, ((scalar.Int Int, guard.Free) ∷ (scalar.Int Int, guard.Free) ∷ [])) ∷ (9, ((scalar.Int Int, guard.Free) ∷ (scalar.Int Int, guard.Free) ∷ [])) ∷ []) [] ((9, (scalar.Int Int ∷ scalar.Int Int ∷ [])) ∷ []) (record { steps = 60; depth = 4; cells = 100; output = 100 })) ≡ fine 1 []
unfolding body played pieces_of
copies_an_unset_member = refl

-- x.a = 1; y = x; return y.b;
reads_an_unset_member : verdict (program (op [] work.Declaration access.Unused ∷ op [] (work.Object 0 0) (access.Scalar (scalar.Int Int) false) ∷ op (1 ∷ []) (work.Return (form.Number Int)) access.Unused ∷ op (2 ∷ []) (work.Block [] []) access.Unused ∷ op [] work.Declaration access.Unused ∷ op [] (work.Constant Int (pos 0)) access.Unused ∷ op (5 ∷ []) (work.Initialise 4 (line 0 (form.Number Int) 6 ∷ [])) access.Unused ∷ op (6 ∷ []) work.Declaration access.Unused ∷ op [] work.Declaration access.Unused ∷ op [] work.Declaration access.Unused ∷ op [] (work.Object 8 0) access.Unused ∷ op (10 ∷ []) (work.Member 2 0 (element 1) (form.Number Int)) access.Unused ∷ op [] (work.Constant Int (pos 1)) access.Unused ∷ op (11 ∷ 12 ∷ []) (work.Assign (form.Number Int)) access.Unused ∷ op (13 ∷ []) work.Expression access.Unused ∷ op [] (work.Object 9 0) access.Unused ∷ op [] (work.Object 8 0) (access.Cells 9) ∷ op (15 ∷ 16 ∷ []) (work.Assign (form.Cells 9)) access.Unused ∷ op (17 ∷ []) work.Expression access.Unused ∷ op [] (work.Object 9 0) access.Unused ∷ op (19 ∷ []) (work.Member 2 1 (element 1) (form.Number Int)) (access.Scalar (scalar.Int Int) false) ∷ op (20 ∷ []) (work.Return (form.Number Int)) access.Unused ∷ op (7 ∷ 14 ∷ 18 ∷ 21 ∷ []) (work.Block (4 ∷ 8 ∷ 9 ∷ []) []) access.Unused ∷ op [] (work.Program [] [] (scalar.Pointer 3) 22) access.Unused ∷ []) ((0, ((scalar.Int Int, guard.Free) ∷ [])) ∷ (4, ((scalar.Int Int, guard.Free) ∷ [])) ∷ (8, ((scalar.Int Int, guard.Free) ∷ (scalar.Int Int, guard.Free) ∷ [])) ∷ (9, ((scalar.Int Int, guard.Free) ∷ (scalar.Int Int, guard.Free) ∷ [])) ∷ []) [] ((9, (scalar.Int Int ∷ scalar.Int Int ∷ [])) ∷ []) (record { steps = 60; depth = 4; cells = 100; output = 100 })) ≡ undefined 11 20
unfolding body played pieces_of
reads_an_unset_member = refl

-- return (y = x).b;
takes_an_unset_member : verdict (program (op [] work.Declaration access.Unused ∷ op [] (work.Object 0 0) (access.Scalar (scalar.Int Int) false) ∷ op (1 ∷ []) (work.Return (form.Number Int)) access.Unused ∷ op (2 ∷ []) (work.Block [] []) access.Unused ∷ op [] work.Declaration access.Unused ∷ op [] (work.Constant Int (pos 0)) access.Unused ∷ op (5 ∷ []) (work.Initialise 4 (line 0 (form.Number Int) 6 ∷ [])) access.Unused ∷ op (6 ∷ []) work.Declaration access.Unused ∷ op [] work.Declaration access.Unused ∷ op [] work.Declaration access.Unused ∷ op [] (work.Object 8 0) access.Unused ∷ op (10 ∷ []) (work.Member 2 0 (element 1) (form.Number Int)) access.Unused ∷ op [] (work.Constant Int (pos 1)) access.Unused ∷ op (11 ∷ 12 ∷ []) (work.Assign (form.Number Int)) access.Unused ∷ op (13 ∷ []) work.Expression access.Unused ∷ op [] (work.Object 9 0) access.Unused ∷ op [] (work.Object 8 0) (access.Cells 9) ∷ op (15 ∷ 16 ∷ []) (work.Assign (form.Cells 9)) access.Unused ∷ op (17 ∷ []) work.Expression access.Unused ∷ op [] (work.Object 9 0) access.Unused ∷ op [] (work.Object 8 0) (access.Cells 9) ∷ op (19 ∷ 20 ∷ []) (work.Assign (form.Cells 9)) access.Unused ∷ op (21 ∷ []) work.Pass access.Unused ∷ op (22 ∷ []) (work.Member 2 1 (element 1) (form.Number Int)) access.Unused ∷ op (23 ∷ []) (work.Return (form.Number Int)) access.Unused ∷ op (7 ∷ 14 ∷ 18 ∷ 24 ∷ []) (work.Block (4 ∷ 8 ∷ 9 ∷ []) []) access.Unused ∷ op [] (work.Program [] [] (scalar.Pointer 3) 25) access.Unused ∷ []) ((0, ((scalar.Int Int, guard.Free) ∷ [])) ∷ (4, ((scalar.Int Int, guard.Free) ∷ [])) ∷ (8, ((scalar.Int Int, guard.Free) ∷ (scalar.Int Int, guard.Free) ∷ [])) ∷ (9, ((scalar.Int Int, guard.Free) ∷ (scalar.Int Int, guard.Free) ∷ [])) ∷ []) [] ((9, (scalar.Int Int ∷ scalar.Int Int ∷ [])) ∷ []) (record { steps = 60; depth = 4; cells = 100; output = 100 })) ≡ undefined 11 23
unfolding body played pieces_of
takes_an_unset_member = refl

-- int g(void){} i = g();
uses_no_value : verdict (program (op [] (work.Block [] []) access.Unused ∷ op [] work.Declaration access.Unused ∷ op [] (work.Object 1 0) access.Unused ∷ op [] (work.Call (Function [] 0 false)) access.Unused ∷ op (2 ∷ 3 ∷ []) (work.Assign (form.Number Int)) access.Unused ∷ op (4 ∷ []) work.Expression access.Unused ∷ op [] (work.Constant Int (pos 0)) access.Unused ∷ op (6 ∷ []) (work.Return (form.Number Int)) access.Unused ∷ op (5 ∷ 7 ∷ []) (work.Block (1 ∷ []) []) access.Unused ∷ op [] (work.Program [] [] (scalar.Pointer 3) 8) access.Unused ∷ []) ((1, ((scalar.Int Int, guard.Free) ∷ [])) ∷ []) [] [] (record { steps = 60; depth = 4; cells = 100; output = 100 })) ≡ undefined 15 4
unfolding body played pieces_of
uses_no_value = refl

-- int g(void){} g(); (void)g(); (g()); and main without return
drops_no_value : verdict (program (op [] (work.Block [] []) access.Unused ∷ op [] work.Declaration access.Unused ∷ op [] (work.Call (Function [] 0 false)) access.Unused ∷ op (2 ∷ []) work.Expression access.Unused ∷ op [] (work.Call (Function [] 0 false)) access.Unused ∷ op (4 ∷ []) (work.Cast (form.Void)) access.Unused ∷ op (5 ∷ []) work.Expression access.Unused ∷ op [] (work.Call (Function [] 0 false)) access.Unused ∷ op (7 ∷ []) work.Pass access.Unused ∷ op (8 ∷ []) work.Expression access.Unused ∷ op (3 ∷ 6 ∷ 9 ∷ []) (work.Block (1 ∷ []) []) access.Unused ∷ op [] (work.Program [] [] (scalar.Pointer 3) 10) access.Unused ∷ []) ((1, ((scalar.Int Int, guard.Free) ∷ [])) ∷ []) [] [] (record { steps = 60; depth = 4; cells = 100; output = 100 })) ≡ fine 0 []
unfolding body played pieces_of
drops_no_value = refl

-- int *q(void){int x; return &x;} int g(void){} void f(_Bool a, int b){} f(q(), g());
passes_no_value_beside_an_ended_pointer : verdict (program (op [] work.Declaration access.Unused ∷ op [] (work.Object 0 0) access.Unused ∷ op (1 ∷ []) work.AddressOf access.Unused ∷ op (2 ∷ []) (work.Return (form.Pointer 0)) access.Unused ∷ op (3 ∷ []) (work.Block (0 ∷ []) []) access.Unused ∷ op [] (work.Block [] []) access.Unused ∷ op [] work.Declaration access.Unused ∷ op [] work.Declaration access.Unused ∷ op [] (work.Block [] []) access.Unused ∷ op [] (work.Call (Function [] 4 false)) access.Unused ∷ op [] (work.Call (Function [] 5 false)) access.Unused ∷ op (9 ∷ 10 ∷ []) (work.Call (Function (parameter 6 (form.Number BoolKind) ∷ parameter 7 (form.Number Int) ∷ []) 8 false)) access.Unused ∷ op (11 ∷ []) work.Expression access.Unused ∷ op [] (work.Constant Int (pos 0)) access.Unused ∷ op (13 ∷ []) (work.Return (form.Number Int)) access.Unused ∷ op (12 ∷ 14 ∷ []) (work.Block [] []) access.Unused ∷ op [] (work.Program [] [] (scalar.Pointer 3) 15) access.Unused ∷ []) ((0, ((scalar.Int Int, guard.Free) ∷ [])) ∷ (6, ((scalar.Int BoolKind, guard.Free) ∷ [])) ∷ (7, ((scalar.Int Int, guard.Free) ∷ [])) ∷ []) [] [] (record { steps = 60; depth = 4; cells = 100; output = 100 })) ≡ undefined 15 11
unfolding body played pieces_of
passes_no_value_beside_an_ended_pointer = refl

-- the same q and g, _Bool b[2] = {q(), g()};
initialises_by_no_value_beside_an_ended_pointer : verdict (program (op [] work.Declaration access.Unused ∷ op [] (work.Object 0 0) access.Unused ∷ op (1 ∷ []) work.AddressOf access.Unused ∷ op (2 ∷ []) (work.Return (form.Pointer 0)) access.Unused ∷ op (3 ∷ []) (work.Block (0 ∷ []) []) access.Unused ∷ op [] (work.Block [] []) access.Unused ∷ op [] work.Declaration access.Unused ∷ op [] (work.Call (Function [] 4 false)) access.Unused ∷ op [] (work.Call (Function [] 5 false)) access.Unused ∷ op (7 ∷ 8 ∷ []) (work.Initialise 6 (line 0 (form.Number BoolKind) 9 ∷ line 1 (form.Number BoolKind) 9 ∷ [])) access.Unused ∷ op (9 ∷ []) work.Declaration access.Unused ∷ op [] (work.Constant Int (pos 0)) access.Unused ∷ op (11 ∷ []) (work.Return (form.Number Int)) access.Unused ∷ op (10 ∷ 12 ∷ []) (work.Block (6 ∷ []) []) access.Unused ∷ op [] (work.Program [] [] (scalar.Pointer 3) 13) access.Unused ∷ []) ((0, ((scalar.Int Int, guard.Free) ∷ [])) ∷ (6, ((scalar.Int BoolKind, guard.Free) ∷ (scalar.Int BoolKind, guard.Free) ∷ [])) ∷ []) [] [] (record { steps = 60; depth = 4; cells = 100; output = 100 })) ≡ undefined 15 9
unfolding body played pieces_of
initialises_by_no_value_beside_an_ended_pointer = refl

-- return g();
returns_no_value : verdict (program (op [] (work.Block [] []) access.Unused ∷ op [] work.Declaration access.Unused ∷ op [] (work.Call (Function [] 0 false)) access.Unused ∷ op (2 ∷ []) (work.Return (form.Number Int)) access.Unused ∷ op (3 ∷ []) (work.Block (1 ∷ []) []) access.Unused ∷ op [] (work.Program [] [] (scalar.Pointer 3) 4) access.Unused ∷ []) ((1, ((scalar.Int Int, guard.Free) ∷ [])) ∷ []) [] [] (record { steps = 60; depth = 4; cells = 100; output = 100 })) ≡ undefined 15 3
unfolding body played pieces_of
returns_no_value = refl

-- printf("%d");
prints_without_an_argument : verdict (program (op [] (work.Object 0 0) (access.Array (element 1) 3) ∷ op (0 ∷ []) (work.Call (Printf [])) access.Unused ∷ op (1 ∷ []) work.Expression access.Unused ∷ op [] (work.Constant Int (pos 0)) access.Unused ∷ op (3 ∷ []) (work.Return (form.Number Int)) access.Unused ∷ op (2 ∷ 4 ∷ []) (work.Block [] []) access.Unused ∷ op [] (work.Program (0 ∷ []) [] (scalar.Pointer 3) 5) access.Unused ∷ []) ((0, ((scalar.Int Char, guard.Literal) ∷ (scalar.Int Char, guard.Literal) ∷ (scalar.Int Char, guard.Literal) ∷ [])) ∷ []) ((0, (cell.Number (pos 37) ∷ cell.Number (pos 100) ∷ cell.Number (pos 0) ∷ [])) ∷ []) [] (record { steps = 60; depth = 4; cells = 100; output = 100 })) ≡ undefined 16 1
unfolding body played pieces_of
prints_without_an_argument = refl

-- printf(0);
prints_by_no_format : verdict (program (op [] (work.Constant Int (pos 0)) access.Unused ∷ op (0 ∷ []) (work.Call (Printf [])) access.Unused ∷ op (1 ∷ []) work.Expression access.Unused ∷ op [] (work.Constant Int (pos 0)) access.Unused ∷ op (3 ∷ []) (work.Return (form.Number Int)) access.Unused ∷ op (2 ∷ 4 ∷ []) (work.Block [] []) access.Unused ∷ op [] (work.Program [] [] (scalar.Pointer 3) 5) access.Unused ∷ []) [] [] [] (record { steps = 60; depth = 4; cells = 100; output = 100 })) ≡ undefined 9 1
unfolding body played pieces_of
prints_by_no_format = refl

-- printf("%5d", 1);
prints_outside_the_profile : verdict (program (op [] (work.Object 0 0) (access.Array (element 1) 4) ∷ op [] (work.Constant Int (pos 1)) access.Unused ∷ op (0 ∷ 1 ∷ []) (work.Call (Printf (false ∷ []))) access.Unused ∷ op (2 ∷ []) work.Expression access.Unused ∷ op [] (work.Constant Int (pos 0)) access.Unused ∷ op (4 ∷ []) (work.Return (form.Number Int)) access.Unused ∷ op (3 ∷ 5 ∷ []) (work.Block [] []) access.Unused ∷ op [] (work.Program (0 ∷ []) [] (scalar.Pointer 3) 6) access.Unused ∷ []) ((0, ((scalar.Int Char, guard.Literal) ∷ (scalar.Int Char, guard.Literal) ∷ (scalar.Int Char, guard.Literal) ∷ (scalar.Int Char, guard.Literal) ∷ [])) ∷ []) ((0, (cell.Number (pos 37) ∷ cell.Number (pos 53) ∷ cell.Number (pos 100) ∷ cell.Number (pos 0) ∷ [])) ∷ []) [] (record { steps = 60; depth = 4; cells = 100; output = 100 })) ≡ left 7 2
unfolding body played pieces_of
prints_outside_the_profile = refl

-- printf("%s%%", "a");
prints_text_and_a_percent_sign : verdict (program (op [] (work.Object 0 0) (access.Array (element 1) 5) ∷ op [] (work.Object 1 0) (access.Array (element 1) 2) ∷ op (0 ∷ 1 ∷ []) (work.Call (Printf (true ∷ []))) access.Unused ∷ op (2 ∷ []) work.Expression access.Unused ∷ op [] (work.Constant Int (pos 0)) access.Unused ∷ op (4 ∷ []) (work.Return (form.Number Int)) access.Unused ∷ op (3 ∷ 5 ∷ []) (work.Block [] []) access.Unused ∷ op [] (work.Program (0 ∷ 1 ∷ []) [] (scalar.Pointer 3) 6) access.Unused ∷ []) ((0, ((scalar.Int Char, guard.Literal) ∷ (scalar.Int Char, guard.Literal) ∷ (scalar.Int Char, guard.Literal) ∷ (scalar.Int Char, guard.Literal) ∷ (scalar.Int Char, guard.Literal) ∷ [])) ∷ (1, ((scalar.Int Char, guard.Literal) ∷ (scalar.Int Char, guard.Literal) ∷ [])) ∷ []) ((0, (cell.Number (pos 37) ∷ cell.Number (pos 115) ∷ cell.Number (pos 37) ∷ cell.Number (pos 37) ∷ cell.Number (pos 0) ∷ [])) ∷ (1, (cell.Number (pos 97) ∷ cell.Number (pos 0) ∷ [])) ∷ []) [] (record { steps = 60; depth = 4; cells = 100; output = 100 })) ≡ fine 0 (97 ∷ 37 ∷ [])
unfolding body played pieces_of
prints_text_and_a_percent_sign = refl

-- printf("%c", 66);
prints_a_byte : verdict (program (op [] (work.Object 0 0) (access.Array (element 1) 3) ∷ op [] (work.Constant Int (pos 66)) access.Unused ∷ op (0 ∷ 1 ∷ []) (work.Call (Printf (false ∷ []))) access.Unused ∷ op (2 ∷ []) work.Expression access.Unused ∷ op [] (work.Constant Int (pos 0)) access.Unused ∷ op (4 ∷ []) (work.Return (form.Number Int)) access.Unused ∷ op (3 ∷ 5 ∷ []) (work.Block [] []) access.Unused ∷ op [] (work.Program (0 ∷ []) [] (scalar.Pointer 3) 6) access.Unused ∷ []) ((0, ((scalar.Int Char, guard.Literal) ∷ (scalar.Int Char, guard.Literal) ∷ (scalar.Int Char, guard.Literal) ∷ [])) ∷ []) ((0, (cell.Number (pos 37) ∷ cell.Number (pos 99) ∷ cell.Number (pos 0) ∷ [])) ∷ []) [] (record { steps = 60; depth = 4; cells = 100; output = 100 })) ≡ fine 0 (66 ∷ [])
unfolding body played pieces_of
prints_a_byte = refl

-- putchar(65); putchar(66); with room for a byte
prints_too_much : verdict (program (op [] (work.Constant Int (pos 65)) access.Unused ∷ op (0 ∷ []) (work.Call Putchar) access.Unused ∷ op [] (work.Constant Int (pos 66)) access.Unused ∷ op (2 ∷ []) (work.Call Putchar) access.Unused ∷ op (1 ∷ []) work.Expression access.Unused ∷ op (3 ∷ []) work.Expression access.Unused ∷ op (4 ∷ 5 ∷ []) (work.Block [] []) access.Unused ∷ op [] (work.Program [] [] (scalar.Pointer 3) 6) access.Unused ∷ []) [] [] [] (record { steps = 60; depth = 4; cells = 100; output = 1 })) ≡ left 4 3
unfolding body played pieces_of
prints_too_much = refl

-- exit(259); 1 / 0;
exits : verdict (program (op [] (work.Constant Int (pos 259)) access.Unused ∷ op (0 ∷ []) (work.Call Exit) access.Unused ∷ op (1 ∷ []) work.Expression access.Unused ∷ op [] (work.Constant Int (pos 1)) access.Unused ∷ op [] (work.Constant Int (pos 0)) access.Unused ∷ op (3 ∷ 4 ∷ []) (work.Binary (Arithmetic operator.Divide Int)) access.Unused ∷ op (5 ∷ []) work.Expression access.Unused ∷ op (2 ∷ 6 ∷ []) (work.Block [] []) access.Unused ∷ op [] (work.Program [] [] (scalar.Pointer 3) 7) access.Unused ∷ []) [] [] [] (record { steps = 60; depth = 4; cells = 100; output = 100 })) ≡ fine 3 []
unfolding body played pieces_of
exits = refl

-- abort();
aborts : verdict (program (op [] (work.Call Abort) access.Unused ∷ op (0 ∷ []) work.Expression access.Unused ∷ op (1 ∷ []) (work.Block [] []) access.Unused ∷ op [] (work.Program [] [] (scalar.Pointer 3) 2) access.Unused ∷ []) [] [] [] (record { steps = 60; depth = 4; cells = 100; output = 100 })) ≡ fine 134 []
unfolding body played pieces_of
aborts = refl

-- while (1);
runs_for_ever : verdict (program (op [] (work.Constant Int (pos 1)) access.Unused ∷ op [] work.Expression access.Unused ∷ op (0 ∷ 1 ∷ []) work.While access.Unused ∷ op (2 ∷ []) (work.Block [] []) access.Unused ∷ op [] (work.Program [] [] (scalar.Pointer 3) 3) access.Unused ∷ []) [] [] [] (record { steps = 11; depth = 4; cells = 100; output = 100 })) ≡ left 1 1
unfolding body played pieces_of
runs_for_ever = refl

-- int main(){return main();} with depth 4
calls_main_for_ever : verdict (program (op [] (work.Call (Function [] 2 true)) access.Unused ∷ op (0 ∷ []) (work.Return (form.Number Int)) access.Unused ∷ op (1 ∷ []) (work.Block [] []) access.Unused ∷ op [] (work.Program [] [] (scalar.Pointer 3) 2) access.Unused ∷ []) [] [] [] (record { steps = 60; depth = 4; cells = 100; output = 100 })) ≡ left 2 0
unfolding body played pieces_of
calls_main_for_ever = refl

-- int x[2], y[2]; with room for three cells
does_not_fit : verdict (program (op [] work.Declaration access.Unused ∷ op [] work.Declaration access.Unused ∷ op [] (work.Block (0 ∷ 1 ∷ []) []) access.Unused ∷ op [] (work.Program [] [] (scalar.Pointer 3) 2) access.Unused ∷ []) ((0, ((scalar.Int Int, guard.Free) ∷ (scalar.Int Int, guard.Free) ∷ [])) ∷ (1, ((scalar.Int Int, guard.Free) ∷ (scalar.Int Int, guard.Free) ∷ [])) ∷ []) [] [] (record { steps = 60; depth = 4; cells = 3; output = 100 })) ≡ left 3 1
unfolding body played pieces_of
does_not_fit = refl

-- int *p; {int x = 1; p = &x; goto L;} L: return *p;
jumps_out_of_a_block : verdict (program (op [] work.Declaration access.Unused ∷ op [] work.Declaration access.Unused ∷ op [] (work.Constant Int (pos 1)) access.Unused ∷ op (2 ∷ []) (work.Initialise 1 (line 0 (form.Number Int) 3 ∷ [])) access.Unused ∷ op (3 ∷ []) work.Declaration access.Unused ∷ op [] (work.Object 0 0) access.Unused ∷ op [] (work.Object 1 0) access.Unused ∷ op (6 ∷ []) work.AddressOf access.Unused ∷ op (5 ∷ 7 ∷ []) (work.Assign (form.Pointer 0)) access.Unused ∷ op (8 ∷ []) work.Expression access.Unused ∷ op [] (work.Goto 100) access.Unused ∷ op (4 ∷ 9 ∷ 10 ∷ []) (work.Block (1 ∷ []) []) access.Unused ∷ op [] (work.Object 0 0) (access.Scalar (scalar.Pointer 0) false) ∷ op (12 ∷ []) (work.Dereference (element 1)) (access.Scalar (scalar.Int Int) false) ∷ op (13 ∷ []) (work.Return (form.Number Int)) access.Unused ∷ op (14 ∷ []) work.Labelled access.Unused ∷ op (11 ∷ 15 ∷ []) (work.Block (0 ∷ []) (target 100 1 ∷ [])) access.Unused ∷ op [] (work.Program [] [] (scalar.Pointer 3) 16) access.Unused ∷ []) ((0, ((scalar.Pointer 0, guard.Free) ∷ [])) ∷ (1, ((scalar.Int Int, guard.Free) ∷ [])) ∷ []) [] [] (record { steps = 60; depth = 4; cells = 100; output = 100 })) ≡ undefined 10 12
unfolding body played pieces_of
jumps_out_of_a_block = refl

-- int i = 3; L: if (i) {i--; goto L;} return i;
jumps_back : verdict (program (op [] work.Declaration access.Unused ∷ op [] (work.Constant Int (pos 3)) access.Unused ∷ op (1 ∷ []) (work.Initialise 0 (line 0 (form.Number Int) 2 ∷ [])) access.Unused ∷ op (2 ∷ []) work.Declaration access.Unused ∷ op [] (work.Object 0 0) access.Unused ∷ op (4 ∷ []) (work.Update (Arithmetic operator.Subtract Int) (form.Number Int) false true) access.Unused ∷ op (5 ∷ []) work.Expression access.Unused ∷ op [] (work.Goto 100) access.Unused ∷ op (6 ∷ 7 ∷ []) (work.Block [] []) access.Unused ∷ op [] (work.Object 0 0) (access.Scalar (scalar.Int Int) false) ∷ op (9 ∷ 8 ∷ []) work.If access.Unused ∷ op (10 ∷ []) work.Labelled access.Unused ∷ op [] (work.Object 0 0) (access.Scalar (scalar.Int Int) false) ∷ op (12 ∷ []) (work.Return (form.Number Int)) access.Unused ∷ op (3 ∷ 11 ∷ 13 ∷ []) (work.Block (0 ∷ []) (target 100 1 ∷ [])) access.Unused ∷ op [] (work.Program [] [] (scalar.Pointer 3) 14) access.Unused ∷ []) ((0, ((scalar.Int Int, guard.Free) ∷ [])) ∷ []) [] [] (record { steps = 40; depth = 4; cells = 100; output = 100 })) ≡ fine 0 []
unfolding body played pieces_of
jumps_back = refl

-- L: goto L;
jumps_for_ever : verdict (program (op [] (work.Goto 100) access.Unused ∷ op (0 ∷ []) work.Labelled access.Unused ∷ op (1 ∷ []) (work.Block [] (target 100 0 ∷ [])) access.Unused ∷ op [] (work.Program [] [] (scalar.Pointer 3) 2) access.Unused ∷ []) [] [] [] (record { steps = 10; depth = 4; cells = 100; output = 100 })) ≡ left 1 0
unfolding body played pieces_of
jumps_for_ever = refl

-- for (int j = 0; j < 5; j++) {if (j == 1) continue; if (j == 4) break; s += j;} return s;
loops : verdict (program (op [] work.Declaration access.Unused ∷ op [] work.Declaration access.Unused ∷ op [] (work.Constant Int (pos 0)) access.Unused ∷ op (2 ∷ []) (work.Initialise 0 (line 0 (form.Number Int) 3 ∷ [])) access.Unused ∷ op (3 ∷ []) work.Declaration access.Unused ∷ op [] (work.Constant Int (pos 0)) access.Unused ∷ op (5 ∷ []) (work.Initialise 1 (line 0 (form.Number Int) 6 ∷ [])) access.Unused ∷ op (6 ∷ []) work.Declaration access.Unused ∷ op [] (work.Object 1 0) (access.Scalar (scalar.Int Int) false) ∷ op [] (work.Constant Int (pos 5)) access.Unused ∷ op (8 ∷ 9 ∷ []) (work.Compare Less Int) access.Unused ∷ op [] (work.Object 1 0) access.Unused ∷ op (11 ∷ []) (work.Update (Arithmetic operator.Add Int) (form.Number Int) false true) access.Unused ∷ op [] (work.Object 1 0) (access.Scalar (scalar.Int Int) false) ∷ op [] (work.Constant Int (pos 1)) access.Unused ∷ op (13 ∷ 14 ∷ []) (work.Compare Equal Int) access.Unused ∷ op [] work.Continue access.Unused ∷ op (15 ∷ 16 ∷ []) work.If access.Unused ∷ op [] (work.Object 1 0) (access.Scalar (scalar.Int Int) false) ∷ op [] (work.Constant Int (pos 4)) access.Unused ∷ op (18 ∷ 19 ∷ []) (work.Compare Equal Int) access.Unused ∷ op [] work.Break access.Unused ∷ op (20 ∷ 21 ∷ []) work.If access.Unused ∷ op [] (work.Object 0 0) access.Unused ∷ op [] (work.Object 1 0) (access.Scalar (scalar.Int Int) false) ∷ op (23 ∷ 24 ∷ []) (work.Update (Arithmetic operator.Add Int) (form.Number Int) false false) access.Unused ∷ op (25 ∷ []) work.Expression access.Unused ∷ op (17 ∷ 22 ∷ 26 ∷ []) (work.Block [] []) access.Unused ∷ op [] (work.For (1 ∷ []) (Some 7) (Some 10) (Some 12) 27) access.Unused ∷ op [] (work.Object 0 0) (access.Scalar (scalar.Int Int) false) ∷ op (29 ∷ []) (work.Return (form.Number Int)) access.Unused ∷ op (4 ∷ 28 ∷ 30 ∷ []) (work.Block (0 ∷ []) []) access.Unused ∷ op [] (work.Program [] [] (scalar.Pointer 3) 31) access.Unused ∷ []) ((0, ((scalar.Int Int, guard.Free) ∷ [])) ∷ (1, ((scalar.Int Int, guard.Free) ∷ [])) ∷ []) [] [] (record { steps = 200; depth = 4; cells = 100; output = 100 })) ≡ fine 5 []
unfolding body played pieces_of
loops = refl

-- do ++i; while (i < 3); return i;
does : verdict (program (op [] work.Declaration access.Unused ∷ op [] (work.Constant Int (pos 0)) access.Unused ∷ op (1 ∷ []) (work.Initialise 0 (line 0 (form.Number Int) 2 ∷ [])) access.Unused ∷ op (2 ∷ []) work.Declaration access.Unused ∷ op [] (work.Object 0 0) access.Unused ∷ op (4 ∷ []) (work.Update (Arithmetic operator.Add Int) (form.Number Int) false false) access.Unused ∷ op (5 ∷ []) work.Expression access.Unused ∷ op [] (work.Object 0 0) (access.Scalar (scalar.Int Int) false) ∷ op [] (work.Constant Int (pos 3)) access.Unused ∷ op (7 ∷ 8 ∷ []) (work.Compare Less Int) access.Unused ∷ op (6 ∷ 9 ∷ []) work.Do access.Unused ∷ op [] (work.Object 0 0) (access.Scalar (scalar.Int Int) false) ∷ op (11 ∷ []) (work.Return (form.Number Int)) access.Unused ∷ op (3 ∷ 10 ∷ 12 ∷ []) (work.Block (0 ∷ []) []) access.Unused ∷ op [] (work.Program [] [] (scalar.Pointer 3) 13) access.Unused ∷ []) ((0, ((scalar.Int Int, guard.Free) ∷ [])) ∷ []) [] [] (record { steps = 60; depth = 4; cells = 100; output = 100 })) ≡ fine 3 []
unfolding body played pieces_of
does = refl

-- switch (1) {case 1: i += 1; case 2: i += 2; break; default: i += 4;} return i;
switches_to_the_first_case : verdict (program (op [] work.Declaration access.Unused ∷ op [] (work.Constant Int (pos 0)) access.Unused ∷ op (1 ∷ []) (work.Initialise 0 (line 0 (form.Number Int) 2 ∷ [])) access.Unused ∷ op (2 ∷ []) work.Declaration access.Unused ∷ op [] (work.Constant Int (pos 1)) access.Unused ∷ op [] (work.Object 0 0) access.Unused ∷ op [] (work.Constant Int (pos 1)) access.Unused ∷ op (5 ∷ 6 ∷ []) (work.Update (Arithmetic operator.Add Int) (form.Number Int) false false) access.Unused ∷ op (7 ∷ []) work.Expression access.Unused ∷ op (8 ∷ []) work.Labelled access.Unused ∷ op [] (work.Object 0 0) access.Unused ∷ op [] (work.Constant Int (pos 2)) access.Unused ∷ op (10 ∷ 11 ∷ []) (work.Update (Arithmetic operator.Add Int) (form.Number Int) false false) access.Unused ∷ op (12 ∷ []) work.Expression access.Unused ∷ op (13 ∷ []) work.Labelled access.Unused ∷ op [] work.Break access.Unused ∷ op [] (work.Object 0 0) access.Unused ∷ op [] (work.Constant Int (pos 4)) access.Unused ∷ op (16 ∷ 17 ∷ []) (work.Update (Arithmetic operator.Add Int) (form.Number Int) false false) access.Unused ∷ op (18 ∷ []) work.Expression access.Unused ∷ op (19 ∷ []) work.Labelled access.Unused ∷ op [] work.Declaration access.Unused ∷ op (4 ∷ 9 ∷ 14 ∷ 15 ∷ 20 ∷ []) (work.Switch Int 21 [] (case (pos 1) 0 ∷ case (pos 2) 1 ∷ []) (Some 3) []) access.Unused ∷ op [] (work.Object 0 0) (access.Scalar (scalar.Int Int) false) ∷ op (23 ∷ []) (work.Return (form.Number Int)) access.Unused ∷ op (3 ∷ 22 ∷ 24 ∷ []) (work.Block (0 ∷ []) []) access.Unused ∷ op [] (work.Program [] [] (scalar.Pointer 3) 25) access.Unused ∷ []) ((0, ((scalar.Int Int, guard.Free) ∷ [])) ∷ []) [] [] (record { steps = 60; depth = 4; cells = 100; output = 100 })) ≡ fine 3 []
unfolding body played pieces_of
switches_to_the_first_case = refl

-- the same of 2
switches_to_the_second_case : verdict (program (op [] work.Declaration access.Unused ∷ op [] (work.Constant Int (pos 0)) access.Unused ∷ op (1 ∷ []) (work.Initialise 0 (line 0 (form.Number Int) 2 ∷ [])) access.Unused ∷ op (2 ∷ []) work.Declaration access.Unused ∷ op [] (work.Constant Int (pos 2)) access.Unused ∷ op [] (work.Object 0 0) access.Unused ∷ op [] (work.Constant Int (pos 1)) access.Unused ∷ op (5 ∷ 6 ∷ []) (work.Update (Arithmetic operator.Add Int) (form.Number Int) false false) access.Unused ∷ op (7 ∷ []) work.Expression access.Unused ∷ op (8 ∷ []) work.Labelled access.Unused ∷ op [] (work.Object 0 0) access.Unused ∷ op [] (work.Constant Int (pos 2)) access.Unused ∷ op (10 ∷ 11 ∷ []) (work.Update (Arithmetic operator.Add Int) (form.Number Int) false false) access.Unused ∷ op (12 ∷ []) work.Expression access.Unused ∷ op (13 ∷ []) work.Labelled access.Unused ∷ op [] work.Break access.Unused ∷ op [] (work.Object 0 0) access.Unused ∷ op [] (work.Constant Int (pos 4)) access.Unused ∷ op (16 ∷ 17 ∷ []) (work.Update (Arithmetic operator.Add Int) (form.Number Int) false false) access.Unused ∷ op (18 ∷ []) work.Expression access.Unused ∷ op (19 ∷ []) work.Labelled access.Unused ∷ op [] work.Declaration access.Unused ∷ op (4 ∷ 9 ∷ 14 ∷ 15 ∷ 20 ∷ []) (work.Switch Int 21 [] (case (pos 1) 0 ∷ case (pos 2) 1 ∷ []) (Some 3) []) access.Unused ∷ op [] (work.Object 0 0) (access.Scalar (scalar.Int Int) false) ∷ op (23 ∷ []) (work.Return (form.Number Int)) access.Unused ∷ op (3 ∷ 22 ∷ 24 ∷ []) (work.Block (0 ∷ []) []) access.Unused ∷ op [] (work.Program [] [] (scalar.Pointer 3) 25) access.Unused ∷ []) ((0, ((scalar.Int Int, guard.Free) ∷ [])) ∷ []) [] [] (record { steps = 60; depth = 4; cells = 100; output = 100 })) ≡ fine 2 []
unfolding body played pieces_of
switches_to_the_second_case = refl

-- the same of 7
switches_to_default : verdict (program (op [] work.Declaration access.Unused ∷ op [] (work.Constant Int (pos 0)) access.Unused ∷ op (1 ∷ []) (work.Initialise 0 (line 0 (form.Number Int) 2 ∷ [])) access.Unused ∷ op (2 ∷ []) work.Declaration access.Unused ∷ op [] (work.Constant Int (pos 7)) access.Unused ∷ op [] (work.Object 0 0) access.Unused ∷ op [] (work.Constant Int (pos 1)) access.Unused ∷ op (5 ∷ 6 ∷ []) (work.Update (Arithmetic operator.Add Int) (form.Number Int) false false) access.Unused ∷ op (7 ∷ []) work.Expression access.Unused ∷ op (8 ∷ []) work.Labelled access.Unused ∷ op [] (work.Object 0 0) access.Unused ∷ op [] (work.Constant Int (pos 2)) access.Unused ∷ op (10 ∷ 11 ∷ []) (work.Update (Arithmetic operator.Add Int) (form.Number Int) false false) access.Unused ∷ op (12 ∷ []) work.Expression access.Unused ∷ op (13 ∷ []) work.Labelled access.Unused ∷ op [] work.Break access.Unused ∷ op [] (work.Object 0 0) access.Unused ∷ op [] (work.Constant Int (pos 4)) access.Unused ∷ op (16 ∷ 17 ∷ []) (work.Update (Arithmetic operator.Add Int) (form.Number Int) false false) access.Unused ∷ op (18 ∷ []) work.Expression access.Unused ∷ op (19 ∷ []) work.Labelled access.Unused ∷ op [] work.Declaration access.Unused ∷ op (4 ∷ 9 ∷ 14 ∷ 15 ∷ 20 ∷ []) (work.Switch Int 21 [] (case (pos 1) 0 ∷ case (pos 2) 1 ∷ []) (Some 3) []) access.Unused ∷ op [] (work.Object 0 0) (access.Scalar (scalar.Int Int) false) ∷ op (23 ∷ []) (work.Return (form.Number Int)) access.Unused ∷ op (3 ∷ 22 ∷ 24 ∷ []) (work.Block (0 ∷ []) []) access.Unused ∷ op [] (work.Program [] [] (scalar.Pointer 3) 25) access.Unused ∷ []) ((0, ((scalar.Int Int, guard.Free) ∷ [])) ∷ []) [] [] (record { steps = 60; depth = 4; cells = 100; output = 100 })) ≡ fine 4 []
unfolding body played pieces_of
switches_to_default = refl

-- int f(int n){if (n) return n * f(n - 1); return 1;} return f(4);
recurs : verdict (program (op [] work.Declaration access.Unused ∷ op [] (work.Object 0 0) (access.Scalar (scalar.Int Int) false) ∷ op [] (work.Object 0 0) (access.Scalar (scalar.Int Int) false) ∷ op [] (work.Object 0 0) (access.Scalar (scalar.Int Int) false) ∷ op [] (work.Constant Int (pos 1)) access.Unused ∷ op (3 ∷ 4 ∷ []) (work.Binary (Arithmetic operator.Subtract Int)) access.Unused ∷ op (5 ∷ []) (work.Call (Function (parameter 0 (form.Number Int) ∷ []) 12 false)) access.Unused ∷ op (2 ∷ 6 ∷ []) (work.Binary (Arithmetic operator.Multiply Int)) access.Unused ∷ op (7 ∷ []) (work.Return (form.Number Int)) access.Unused ∷ op (1 ∷ 8 ∷ []) work.If access.Unused ∷ op [] (work.Constant Int (pos 1)) access.Unused ∷ op (10 ∷ []) (work.Return (form.Number Int)) access.Unused ∷ op (9 ∷ 11 ∷ []) (work.Block [] []) access.Unused ∷ op [] (work.Constant Int (pos 4)) access.Unused ∷ op (13 ∷ []) (work.Call (Function (parameter 0 (form.Number Int) ∷ []) 12 false)) access.Unused ∷ op (14 ∷ []) (work.Return (form.Number Int)) access.Unused ∷ op (15 ∷ []) (work.Block [] []) access.Unused ∷ op [] (work.Program [] [] (scalar.Pointer 3) 16) access.Unused ∷ []) ((0, ((scalar.Int Int, guard.Free) ∷ [])) ∷ []) [] [] (record { steps = 200; depth = 6; cells = 100; output = 100 })) ≡ fine 24 []
unfolding body played pieces_of
recurs = refl

-- int s, *p = &s; int main(){*p += 7; return s;}
static_objects_begin_as_zero : verdict (program (op [] work.Declaration access.Unused ∷ op [] work.Declaration access.Unused ∷ op [] (work.Object 0 6) access.Unused ∷ op (2 ∷ []) work.AddressOf access.Unused ∷ op (3 ∷ []) (work.Initialise 1 (line 0 (form.Pointer 0) 4 ∷ [])) access.Unused ∷ op [] (work.Object 1 0) (access.Scalar (scalar.Pointer 0) false) ∷ op (5 ∷ []) (work.Dereference (scalar_element (scalar.Int Int))) access.Unused ∷ op [] (work.Constant Int (pos 7)) access.Unused ∷ op (6 ∷ 7 ∷ []) (work.Update (Arithmetic operator.Add Int) (form.Number Int) false false) access.Unused ∷ op (8 ∷ []) work.Expression access.Unused ∷ op [] (work.Object 0 0) (access.Scalar (scalar.Int Int) false) ∷ op (10 ∷ []) (work.Return (form.Number Int)) access.Unused ∷ op (9 ∷ 11 ∷ []) (work.Block [] []) access.Unused ∷ op (4 ∷ []) (work.Program (0 ∷ 1 ∷ []) [] (scalar.Pointer 3) 12) access.Unused ∷ []) ((0, ((scalar.Int Int, guard.Free) ∷ [])) ∷ (1, ((scalar.Pointer 0, guard.Free) ∷ [])) ∷ []) [] [] (record { steps = 60; depth = 4; cells = 100; output = 100 })) ≡ fine 7 []
unfolding body played pieces_of
static_objects_begin_as_zero = refl

-- struct p{int a;} s; struct q{int b;}; int main(){return ((struct q *)&s)->b;}
sees_a_structure_as_another : verdict (program (op [] work.Declaration access.Unused ∷ op [] (work.Object 0 13) access.Unused
    ∷ op (1 ∷ []) work.AddressOf access.Unused ∷ op (2 ∷ []) (work.Cast (form.Pointer 0)) access.Unused
    ∷ op (3 ∷ []) (work.PointerMember (record { cells = 1; of = 16 }) 0 (scalar_element (scalar.Int Int))) (access.Scalar (scalar.Int Int) false)
    ∷ op (4 ∷ []) (work.Return (form.Number Int)) access.Unused ∷ op (5 ∷ []) (work.Block [] []) access.Unused
    ∷ op [] (work.Program (0 ∷ []) [] (scalar.Pointer 3) 6) access.Unused ∷ []) ((0, ((scalar.Int Int, guard.Free) ∷ [])) ∷ []) [] []
    (record { steps = 60; depth = 4; cells = 100; output = 100 })) ≡ left 5 4
unfolding body played pieces_of
sees_a_structure_as_another = refl

-- int main(int c, char **v){return c + (v[0] == 0);}
main_has_parameters : verdict (program (op [] work.Declaration access.Unused ∷ op [] work.Declaration access.Unused ∷ op [] (work.Object 0 0) (access.Scalar (scalar.Int Int) false) ∷ op [] (work.Object 1 0) (access.Scalar (scalar.Pointer 4) false) ∷ op [] (work.Constant Int (pos 0)) access.Unused ∷ op (3 ∷ 4 ∷ []) (work.Subscript (scalar_element (scalar.Pointer 3))) (access.Scalar (scalar.Pointer 3) false) ∷ op [] (work.Constant Int (pos 0)) access.Unused ∷ op (5 ∷ 6 ∷ []) (work.ComparePointers Equal) access.Unused ∷ op (2 ∷ 7 ∷ []) (work.Binary (Arithmetic operator.Add Int)) access.Unused ∷ op (8 ∷ []) (work.Return (form.Number Int)) access.Unused ∷ op (9 ∷ []) (work.Block [] []) access.Unused ∷ op [] (work.Program [] (parameter 0 (form.Number Int) ∷ parameter 1 (form.Pointer 4) ∷ []) (scalar.Pointer 3) 10) access.Unused ∷ []) ((0, ((scalar.Int Int, guard.Free) ∷ [])) ∷ (1, ((scalar.Pointer 4, guard.Free) ∷ [])) ∷ []) [] [] (record { steps = 60; depth = 4; cells = 100; output = 100 })) ≡ fine 1 []
unfolding body played pieces_of
main_has_parameters = refl

-- int x; in a body is reached twice and read in the second round
is_unset_where_it_is_declared_again : verdict (program (op [] work.Declaration access.Unused ∷ op [] work.Declaration access.Unused ∷ op [] (work.Constant Int (pos 0)) access.Unused ∷ op (2 ∷ []) (work.Initialise 0 (line 0 (form.Number Int) 3 ∷ [])) access.Unused ∷ op (3 ∷ []) work.Declaration access.Unused ∷ op [] (work.Declare 1) access.Unused ∷ op (5 ∷ []) work.Declaration access.Unused ∷ op [] (work.Object 1 0) (access.Scalar (scalar.Int Int) false) ∷ op [] (work.Object 0 0) (access.Scalar (scalar.Int Int) false) ∷ op (7 ∷ []) work.Expression access.Unused ∷ op (8 ∷ 9 ∷ []) work.If access.Unused ∷ op [] (work.Object 1 0) access.Unused ∷ op [] (work.Constant Int (pos 1)) access.Unused ∷ op (11 ∷ 12 ∷ []) (work.Assign (form.Number Int)) access.Unused ∷ op (13 ∷ []) work.Expression access.Unused ∷ op (6 ∷ 10 ∷ 14 ∷ []) (work.Block [] []) access.Unused ∷ op [] (work.Object 0 0) access.Unused ∷ op (16 ∷ []) (work.Update (Arithmetic operator.Add Int) (form.Number Int) false true) access.Unused ∷ op [] (work.Constant Int (pos 3)) access.Unused ∷ op (17 ∷ 18 ∷ []) (work.Compare Less Int) access.Unused ∷ op (19 ∷ 15 ∷ []) work.While access.Unused ∷ op (4 ∷ 20 ∷ []) (work.Block (0 ∷ 1 ∷ []) []) access.Unused ∷ op [] (work.Program [] [] (scalar.Pointer 3) 21) access.Unused ∷ []) ((0, ((scalar.Int Int, guard.Free) ∷ [])) ∷ (1, ((scalar.Int Int, guard.Free) ∷ [])) ∷ []) [] [] (record { steps = 60; depth = 4; cells = 100; output = 100 })) ≡ undefined 11 7
unfolding body played pieces_of
is_unset_where_it_is_declared_again = refl

-- int *n = 0; return &*n == n;
address_of_what_null_points_to : verdict (program (op [] work.Declaration access.Unused ∷ op [] (work.Constant Int (pos 0)) access.Unused ∷ op (1 ∷ []) (work.Initialise 0 (line 0 (form.Pointer 0) 2 ∷ [])) access.Unused ∷ op (2 ∷ []) work.Declaration access.Unused ∷ op [] (work.Object 0 0) (access.Scalar (scalar.Pointer 0) false) ∷ op (4 ∷ []) work.Pass access.Unused ∷ op [] (work.Object 0 0) (access.Scalar (scalar.Pointer 0) false) ∷ op (5 ∷ 6 ∷ []) (work.ComparePointers Equal) access.Unused ∷ op (7 ∷ []) (work.Return (form.Number Int)) access.Unused ∷ op (3 ∷ 8 ∷ []) (work.Block (0 ∷ []) []) access.Unused ∷ op [] (work.Program [] [] (scalar.Pointer 3) 9) access.Unused ∷ []) ((0, ((scalar.Pointer 0, guard.Free) ∷ [])) ∷ []) [] [] (record { steps = 60; depth = 4; cells = 100; output = 100 })) ≡ fine 1 []
unfolding body played pieces_of
address_of_what_null_points_to = refl

-- int *n = 0; return *n;
reads_through_null : verdict (program (op [] work.Declaration access.Unused ∷ op [] (work.Constant Int (pos 0)) access.Unused ∷ op (1 ∷ []) (work.Initialise 0 (line 0 (form.Pointer 0) 2 ∷ [])) access.Unused ∷ op (2 ∷ []) work.Declaration access.Unused ∷ op [] (work.Object 0 0) (access.Scalar (scalar.Pointer 0) false) ∷ op (4 ∷ []) (work.Dereference (element 1)) (access.Scalar (scalar.Int Int) false) ∷ op (5 ∷ []) (work.Return (form.Number Int)) access.Unused ∷ op (3 ∷ 6 ∷ []) (work.Block (0 ∷ []) []) access.Unused ∷ op [] (work.Program [] [] (scalar.Pointer 3) 7) access.Unused ∷ []) ((0, ((scalar.Pointer 0, guard.Free) ∷ [])) ∷ []) [] [] (record { steps = 60; depth = 4; cells = 100; output = 100 })) ≡ undefined 9 5
unfolding body played pieces_of
reads_through_null = refl

-- _Bool b = &i; return b;
a_pointer_as_bool : verdict (program (op [] work.Declaration access.Unused ∷ op [] work.Declaration access.Unused ∷ op [] (work.Object 0 0) access.Unused ∷ op (2 ∷ []) work.AddressOf access.Unused ∷ op (3 ∷ []) (work.Initialise 1 (line 0 (form.Number BoolKind) 4 ∷ [])) access.Unused ∷ op (4 ∷ []) work.Declaration access.Unused ∷ op [] (work.Object 1 0) (access.Scalar (scalar.Int BoolKind) false) ∷ op (6 ∷ []) (work.Return (form.Number Int)) access.Unused ∷ op (5 ∷ 7 ∷ []) (work.Block (0 ∷ 1 ∷ []) []) access.Unused ∷ op [] (work.Program [] [] (scalar.Pointer 3) 8) access.Unused ∷ []) ((0, ((scalar.Int Int, guard.Free) ∷ [])) ∷ (1, ((scalar.Int BoolKind, guard.Free) ∷ [])) ∷ []) [] [] (record { steps = 60; depth = 4; cells = 100; output = 100 })) ≡ fine 1 []
unfolding body played pieces_of
a_pointer_as_bool = refl
