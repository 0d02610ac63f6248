use native.Mathlib.Omega.{arith}
use Rattle.std.proofs.lemmas.Bool.{le-leb}
use Rattle.pass_edit.proofs.Glues.{full_there, on_err}
use Rattle.std.specs.Prelude.{vec_capacity}
use Rattle.pass_edit.proofs.write.put_change.Goals as goal

pub returns-in_err-put_both-clause-full : goal.returns-in_err-put_both-clause-full
returns-in_err-put_both-clause-full c =
    on_err c.from_residual.result (full_there c.args.file.now c.args.kept.now c.args.out.now.items c.args.at c.args.change (vec_capacity c.args.out.now) (le-leb c.args.at c.args.change.start (omega arith)) (rw c.part.ensures at (c.in_err-put_both.ensures.full)))
