-- A small language in which meanings are written, and its runs. A program of it works on a world, asks for the answer of a goal,
-- and gives an answer; what a goal does is a program again. A run may end the whole instead.
use Rattle.std.specs.Prelude.{◌≡◌}

-- what work on the world comes to
pub data Acted (V W H : Type 0) : Type 0 where
  went : V → W → Acted V W H
  halts : H → Acted V W H

-- what a run comes to
pub data Reply (V W H : Type 0) : Type 0 where
  gave : V → W → Reply V W H
  ended : H → Reply V W H

pub data Prog (G V W H : Type 0) : Type 0 where
  -- an answer
  give : V → Prog G V W H
  -- work on the world, and what is done with its result
  act : (W → Acted V W H) → (V → Prog G V W H) → Prog G V W H
  -- a goal, and what is done with its answer
  call : G → (V → Prog G V W H) → Prog G V W H

-- the runs of programs, where each goal is the program that `body` says
pub data Runs {G V W H : Type 0} (body : G → Prog G V W H) : Prog G V W H → W → Reply V W H → Type 0 where
  run_give : {v : V} {s : W} → Runs body (give v) s (gave v s)
  run_act : {f : W → Acted V W H} {k : V → Prog G V W H} {s t : W} {v : V} {r : Reply V W H} → f s ≡ went v t → Runs body (k v) t r → Runs body (act f k) s r
  run_halt : {f : W → Acted V W H} {k : V → Prog G V W H} {s : W} {h : H} → f s ≡ halts h → Runs body (act f k) s (ended h)
  run_call : {g : G} {k : V → Prog G V W H} {s t : W} {v : V} {r : Reply V W H} → Runs body (body g) s (gave v t) → Runs body (k v) t r → Runs body (call g k) s r
  run_end : {g : G} {k : V → Prog G V W H} {s : W} {h : H} → Runs body (body g) s (ended h) → Runs body (call g k) s (ended h)
