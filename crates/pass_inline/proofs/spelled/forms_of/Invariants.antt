use Rattle.std.proofs.Common.{◌≡◌, map, take}
use Rattle.pass_inline.specs.Spelled.{form_of}
use Rattle.pass_inline.proofs.spelled.forms_of.Given as goal

abbrev pub invariant-loop-callee : goal.invariant-loop-callee
invariant-loop-callee l = l.forms ≡ map (form_of l.nodes l.names) (take l.callee-index l.callees)
