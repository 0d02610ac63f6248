-- What the meaning needs of a program, as a table.
use Rattle.std.specs.Prelude.{[], None, slice_index_or}
use Rattle.cr_meaning.specs.World.{Program}
use Rattle.cr_eval.specs.declared.table.Table.{Table}

-- the program of which this is the table
abbrev pub program_of : Table → Program
program_of table = record {
  ops = table.ops;
  shape = λ node. slice_index_or table.shapes node [];
  literal = λ node. slice_index_or table.literals node None;
  kinds = λ row. slice_index_or table.kinds row [];
  limits = table.limits;
}
