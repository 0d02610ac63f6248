-- What a run comes by: the goals that are asked in it, each in the world of its moment.
use Rattle.std.specs.Prelude.{◌≡◌}
use Rattle.cr_meaning.specs.Language.{Acted, went, gave, Prog, act, call, Runs}

pub data Asks {G V W H : Type 0} (body : G → Prog G V W H) : Prog G V W H → W → G → W → Type 0 where
  here : {g : G} {k : V → Prog G V W H} {s : W} → Asks body (call g k) s g s
  within : {g goal : G} {k : V → Prog G V W H} {s u : W} → Asks body (body g) s goal u → Asks body (call g k) s goal u
  behind : {g goal : G} {k : V → Prog G V W H} {s t u : W} {v : V} → Runs body (body g) s (gave v t) → Asks body (k v) t goal u → Asks body (call g k) s goal u
  acted : {f : W → Acted V W H} {k : V → Prog G V W H} {s t u : W} {v : V} {goal : G} → f s ≡ went v t → Asks body (k v) t goal u → Asks body (act f k) s goal u
