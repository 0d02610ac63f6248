use native.Mathlib.Omega.{arith}
use Rattle.pass_edit.proofs.Glues.{last_is}
use Rattle.pass_edit.proofs.glue.last_byte.Goals as goal

pub returns-in-Some : goal.returns-in-Some
returns-in-Some c = last_is c.args.text.now c.in-Some.byte.now (grind arith)
