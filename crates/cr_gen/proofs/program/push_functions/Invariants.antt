use Rattle.std.proofs.Common.{◌≡◌, ◌*◌, ◌++◌}
use Rattle.std.specs.String.{string_bytes}
use Rattle.std.specs.List.{flat_map, range_with_len}
use Rattle.cr_gen.specs.Program.{state_after, item_text}
use Rattle.cr_gen.proofs.program.push_functions.Given as goal

abbrev pub invariant-loop-item : goal.invariant-loop-item
invariant-loop-item l =
    (l.draws.state ≡ state_after l.number (2 * l.item))
    × (string_bytes l.text ≡ string_bytes l.initial.text ++ flat_map (item_text l.number) (range_with_len 0 l.item))
