use Rattle.std.proofs.Common.{subst}
use Rattle.cr_check_types.specs.Types.{type_at, IsRow}
use Rattle.cr_check_types.specs.Shared.{levels_of, IsWithAll}
use Rattle.cr_typed_columns.proofs.Copies.{levels_flat, flat_is}
use Rattle.cr_typed_columns.proofs.copying.copied.Goals as goal

pub returns-clause-made : goal.returns-clause-made
returns-clause-made c =
    let h = c.in_ok-levels.ensures in
    let f = c.in_ok-flat.ensures in
    let levels = c.in_ok-levels.levels in
    let same = flat_is levels.list.items levels.flat (type_at c.args.from.now c.args.row) (type_at c.add.new.self c.in_ok-flat.flat) (type_at c.args.table.now) h.flat h.are f.made.is in
    subst (IsRow c.raised.new.table c.in_ok-made.made) same c.in_ok-made.ensures.made

pub returns-clause-levels : goal.returns-clause-levels
returns-clause-levels c =
    let h = c.in_ok-levels.ensures in
    let f = c.in_ok-flat.ensures in
    let levels = c.in_ok-levels.levels in
    let same = flat_is levels.list.items levels.flat (type_at c.args.from.now c.args.row) (type_at c.add.new.self c.in_ok-flat.flat) (type_at c.args.table.now) h.flat h.are f.made.is in
    let flat = levels_flat c.args.table.now c.add.new.self levels.flat (type_at c.add.new.self c.in_ok-flat.flat) h.flat f.made.is f.shared in
    subst (λ t. IsWithAll c.args.table.now (levels_of t) c.raised.new.table) same (c.in_ok-made.ensures.levels c.args.table.now flat)
