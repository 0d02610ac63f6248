use Rattle.std.proofs.lemmas.Result.{IfOk-weaker}
use Rattle.cr_typed_unit.specs.Made.{IsMade}
use Rattle.cr_typed_unit.proofs.typing.made.Goals as goal

pub returns : goal.returns
returns c = λ t same.
    IfOk-weaker c.assemble.result _ (IsMade c.args.bytes c.args.unit c.args.texts c.args.names.now c.args.checked.now t)
    (λ typed is. record {
      columns = c.checked_columns-columns.result;
      are = c.checked_columns-columns.ensures.columns c.args.checked.now.texts t same;
      elaborated = is;
    }) c.assemble.ensures
