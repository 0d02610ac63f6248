-- A sink: the bytes put so far, where it tells them.
use Rattle.std.specs.Prelude.{◌≡◌, ℕ, List, ◌++◌, take, Option, Result, Ok, Err}
use Rattle.std.specs.Option.{option_map}
use Rattle.cr_outside.specs.declared.sink.SinkFault.{SinkFault}

abbrev pub appended : List ℕ → Option (List ℕ) → Option (List ℕ)
appended piece told = option_map (λ bytes. bytes ++ piece) told

-- What a put leaves: exactly the piece is appended, or after a refusal a prefix of it.
abbrev pub Puts : Option (List ℕ) → Option (List ℕ) → List ℕ → Result (Unit {0}) SinkFault → Type 0
Puts old new piece (Ok _) = new ≡ appended piece old
Puts old new piece (Err _) = (n : ℕ) × (new ≡ appended (take n piece) old)
