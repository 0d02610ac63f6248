use Rattle.std.proofs.Common.{◌≡◌, ◌≤◌, Bool, List, rules, sym, subst, true}
use Rattle.cr_eval.specs.Table.{program_of as program_in}
use Rattle.cr_reached.specs.Own.{is_set}
use Rattle.cr_reached.proofs.Labelled.{from_whole, to_whole}
use Rattle.cr_reached.proofs.outcome.is_reached.Goals as goal

pub returns-clause-some : goal.returns-clause-some
returns-clause-some c = λ yes.
    let whole = c.in-Ok.whole.items in
    let typed = c.args.typed.now in
    let it = c.is_one_set.ensures.some yes in
    let F : List Bool → Type 0 = λ l. is_set l it.0 ≡ true in
    (it.0, it.1, to_whole typed c.args.name.now (program_in c.args.table.now) c.args.began.now whole c.in-Ok.ensures.0 (search rules) it.0 it.1 (subst F c.as_slice.ensures.value it.2))

pub returns-clause-none : goal.returns-clause-none
returns-clause-none c = λ no label named it.
    let whole = c.in-Ok.whole.items in
    let typed = c.args.typed.now in
    let F : List Bool → Type 0 = λ l. is_set l label ≡ true in
    c.is_one_set.ensures.none no label named
    (subst F (sym c.as_slice.ensures.value) (from_whole typed c.args.name.now (program_in c.args.table.now) c.args.began.now whole c.in-Ok.ensures.0 (search rules) label named it))
