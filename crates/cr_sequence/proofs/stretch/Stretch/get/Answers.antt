use Rattle.std.proofs.Common.{◌<◌, Some, length, get_or, sym, ap, ◌∙◌, arith}
use Rattle.std.proofs.lemmas.List.FromFn.{get_or-map-range_with_len}
use Rattle.std.proofs.lemmas.Option.{slice_get-get_or}
use Rattle.cr_sequence.specs.Kept.{item_in}
use Rattle.cr_sequence.proofs.Showing.{length-shown}
use Rattle.cr_sequence.proofs.stretch.Stretch.get.Goals as goal

pub item_at-requires-clause-within : goal.item_at-requires-clause-within
item_at-requires-clause-within g c =
    let i = c.self.inside in
    let n = length-shown i.count i.first i.pattern.items i.blocks.items i.pool.items in
    let v = ap length c.self.view_is in
    let all = c.self.invariant.1.all in
    omega (arith, c.requires)

pub returns : goal.returns
returns g c =
    let i = c.self.inside in
    let n = length-shown i.count i.first i.pattern.items i.blocks.items i.pool.items in
    let v = ap length c.self.view_is in
    let h : c.args.place < i.count = omega (arith, c.requires) in
    slice_get-get_or _ c.args.place i.first c.requires
    ∙ ap Some (ap (λ xs. get_or xs c.args.place i.first) (sym c.self.view_is)
    ∙ get_or-map-range_with_len (item_in i.first i.pattern.items i.blocks.items i.pool.items) 0 i.count c.args.place c.args.place i.first h (omega arith)
    ∙ sym c.item_at.ensures)
