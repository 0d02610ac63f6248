use Rattle.std.proofs.Common.{◌≡◌, subst, sym, Bool}
use Rattle.cr_exec_turns.specs.declared.held.Held.{Held}
use Rattle.cr_exec_calls.specs.Clashes.{MeetsOne}
use Rattle.cr_exec_calls.proofs.Clashing.{meets_part, meets_silent}
use Rattle.cr_exec_calls.proofs.clashes.meets_one.Goals as goal

pub returns-in-Part : goal.returns-in-Part
returns-in-Part c =
    let P : Held → Type 0 = λ h. MeetsOne c.args.foot.now h c.meets.result in
    subst P (sym c.in-Part.is) (meets_part c.args.foot.now c.in-Part.part c.meets.result c.meets.ensures)

pub returns-in_default : goal.returns-in_default
returns-in_default c = meets_silent c.args.foot.now c.args.other.now c.in_default.not-Part
