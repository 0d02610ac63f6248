use Rattle.std.proofs.Common.{◌≡◌, Some, None, subst}
use Rattle.cr_check_types.specs.Types.{type_at}
use Rattle.cr_check_initialised.specs.Initialised.{object_at, planned_by}
use Rattle.cr_check_initialised.specs.Objects.{planned_of}
use Rattle.cr_check_initialised.proofs.Kept.{filled_later, unfilled_later}
use Rattle.cr_check_initialised.proofs.initialised.fill.Goals as goal

pub returns-in_ok-filled-in-Some-clause-is : goal.returns-in_ok-filled-in-Some-clause-is
returns-in_ok-filled-in-Some-clause-is c = λ later more.
    let old = c.args.table.now in
    let columns = c.args.columns.now in
    let n = c.args.node.now in
    let is = c.in_ok-filled-in-Some.ensures in
    let planned = subst (λ x. planned_of (type_at old) x ≡ planned_by n.kind columns.layouts.now (object_at old columns n) n.parts)
    c.in-Some.is c.planned_by.ensures.is in
    filled_later old c.completed.new.table later c.args.tree.now columns c.args.anchors.now c.args.named c.args.at c.in_ok-filled-in-Some.filled n
    c.in-Some.object c.requires.ready is.grows more is.within is.seated planned is.is

pub returns-in-None-clause-is : goal.returns-in-None-clause-is
returns-in-None-clause-is c = λ later more.
    let old = c.args.table.now in
    let columns = c.args.columns.now in
    let n = c.args.node.now in
    let planned = subst (λ x. planned_of (type_at old) x ≡ planned_by n.kind columns.layouts.now (object_at old columns n) n.parts)
    c.in-None.is c.planned_by.ensures.is in
    unfilled_later old later c.args.tree.now columns c.args.anchors.now c.args.named c.args.at
    (record { row = c.named_first.result; lines = c.new.result }) n
    c.requires.ready more c.named_first.ensures.within c.requires.named c.new.ensures planned c.named_first.ensures.is
