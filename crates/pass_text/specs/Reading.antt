-- How signs are read, from the last to the first. Private clauses cite it.
use Rattle.std.specs.Prelude.{ℕ, ◌+◌, ◌==◌, List, [], ◌∷◌, Option, None, Some, if◌then◌else◌}
use Rattle.pass_text.specs.declared.pair.Pair.{Pair}
use Rattle.pass_text.specs.declared.reading.Closing.{Closing}
use Rattle.pass_text.specs.Nesting.{is_open, is_close, closer}

-- the closing brackets that wait for a partner, the foremost first, and the pairs behind, in the order of the opening brackets
pub record State : Type 0 where
  pub waiting : List Closing
  pub pairs : List Pair

abbrev pub opened : ℕ → ℕ → List Closing → List Pair → Option State
opened at sign [] pairs = None
opened at sign (closing ∷ waiting) pairs = if closing.sign == closer sign
    then Some (record { waiting = waiting; pairs = record { from = at; to = closing.at } ∷ pairs })
    else None

abbrev pub step : ℕ → ℕ → State → Option State
step at sign state = if is_close sign
    then Some (record { waiting = record { sign = sign; at = at } ∷ state.waiting; pairs = state.pairs })
    else if is_open sign then opened at sign state.waiting state.pairs else Some state

abbrev pub after : ℕ → ℕ → Option State → Option State
after at sign None = None
after at sign (Some state) = step at sign state

-- the signs, of which the first is number `at`, before what was read already
abbrev pub reads : ℕ → List ℕ → Option State → Option State
reads at [] state = state
reads at (sign ∷ signs) state = after at sign (reads (at + 1) signs state)

abbrev pub empty : State
empty = record { waiting = []; pairs = [] }
