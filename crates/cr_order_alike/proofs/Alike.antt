-- The typed unit of a lawful file is that of which the runs in any order are told.
use Rattle.std.proofs.Common.{ℕ, List}
use Rattle.cr_lawful.specs.Lawful.{IsTypedUnit}
use Rattle.cr_meaning.specs.Meaning.{start_of}
use Rattle.cr_meaning_declarations.specs.Declared.Files.{IsUnitOfFile}
use Rattle.cr_meaning_files.specs.Files.{FixedFilesRunAlike}
use Rattle.cr_meaning_operations.specs.Operations.{program_of}
use Rattle.cr_meaning_orders.specs.AnyOrder.{whole_of}
use Rattle.cr_meaning_orders.specs.Laws.{LeftToRightIsAnOrder}
use Rattle.cr_order_alike.specs.Laws.{OrderedFilesRun, OrderedFilesRunAlike, end_of}
use Rattle.cr_typed.specs.declared.typed.Typed.{Typed}

unit_of : (file : List ℕ) (typed : Typed) → IsTypedUnit file typed → IsUnitOfFile file typed
unit_of file typed it = record {
  unit = it.unit;
  names = it.names;
  tokenizes = it.tokenizes;
  is_tree = it.parsed.is_tree;
  listed = it.parsed.listed;
  known = it.known;
  checked = it.checked;
}

pub run : LeftToRightIsAnOrder → OrderedFilesRun
run law = λ limits file it.
    let comes = it.lawful.ends.comes in
    let p = program_of it.lawful.typed limits in
    record { reply = comes.reply; runs = law p (whole_of p) (start_of p.limits) comes.reply comes.runs; comes = comes.comes }

pub alike : FixedFilesRunAlike → OrderedFilesRunAlike
alike law = λ limits file it cells output outcome comes.
    law file it.lawful.typed limits (unit_of file it.lawful.typed it.lawful.of_file) cells output it.fixed (end_of limits file it.lawful) outcome it.lawful.ends.comes comes
