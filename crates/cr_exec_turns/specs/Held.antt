-- Answers of the meaning, as they are kept.
use Rattle.std.specs.Prelude.{◌≡◌, List, map}
use Rattle.cr_eval_join.specs.Parts.{IsPartOf}
use Rattle.cr_meaning.specs.declared.value.Value.{Value}
use Rattle.cr_meaning.specs.declared.value.Value.TheVariants.{Nothing}
use Rattle.cr_meaning.specs.World.{Answer, next, broke, continued, jumped, returned}
use Rattle.cr_exec_turns.specs.declared.held.Held.{Held}
use Rattle.cr_exec_turns.specs.declared.held.Held.TheVariants as held

-- an expression's answer is kept as a part with its value and with a footprint of its events, and a statement's as itself
abbrev pub shows : Held → Answer → Type 0
shows (held.Part given) answer = IsPartOf given answer
shows held.Next answer = answer ≡ next
shows held.Broke answer = answer ≡ broke
shows held.Continued answer = answer ≡ continued
shows (held.Jumped label) answer = answer ≡ jumped label
shows (held.Returned value) answer = answer ≡ returned value

-- the value of an expression's answer
abbrev pub value_in : Held → Value
value_in (held.Part given) = given.value
value_in other = Nothing

abbrev pub values_in : List Held → List Value
values_in done = map value_in done
