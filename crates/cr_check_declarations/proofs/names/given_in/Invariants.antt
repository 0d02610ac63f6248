use Rattle.std.proofs.Common.{◌≡◌, ◌<◌, length, take}
use Rattle.cr_check_types.specs.Types.{type_at}
use Rattle.cr_check_declarations.specs.Before.{before_at}
use Rattle.cr_check_declarations.specs.Specifiers.{given_in}
use Rattle.cr_check_declarations.proofs.names.given_in.Given as goal

abbrev pub invariant-loop-part : goal.invariant-loop-part
invariant-loop-part l = record {
  within : l.given < length l.table;
  is : type_at l.table l.given ≡ given_in (before_at l.table l.columns) (take l.part-index l.parts);
}
