use Rattle.std.proofs.Common.{◌≡◌, length}
use Rattle.cr_check_definitions.specs.Known.{known_of}
use Rattle.cr_check_definitions.specs.Typedefs.{AreFirsts}
use Rattle.cr_check_definitions.proofs.typedefs.firsts.Given as goal

abbrev pub invariant-loop-at : goal.invariant-loop-at
invariant-loop-at l = record {
  count : length l.firsts.items ≡ l.at;
  each : AreFirsts l.declarations.table.now (known_of l.declarations) l.names l.at l.firsts.items;
}
