use Rattle.std.proofs.Common.{ap, ◌∙◌}
use Rattle.cr_check_expressions.specs.Breaks.{first_of}
use Rattle.cr_check_initialisers.specs.Known.{known_of}
use Rattle.cr_check_initialisers.specs.Plans.{entries_of}
use Rattle.cr_check_initialisers.specs.Faults.{plan_faults}
use Rattle.cr_check_initialised.proofs.faults.plan_fault.Goals as goal

pub returns : goal.returns
returns c =
    let is = c.source_of-source.ensures in
    let static = c.args.is_static in
    let equals = c.args.equals in
    let lines = c.args.lines.now in
    c.first_fault.ensures
    ∙ ap (λ t. first_of (plan_faults (known_of c.source_of-source.result) static equals (entries_of t lines))) is.table
    ∙ ap (λ k. first_of (plan_faults k static equals (entries_of c.args.table.now lines))) is.known
