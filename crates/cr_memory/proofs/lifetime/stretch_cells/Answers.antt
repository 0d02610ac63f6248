use Rattle.std.proofs.Common.{◌≡◌, ◌++◌, length, ap, sym, subst, ◌∙◌, arith}
use Rattle.std.specs.Prelude.{OnOk}
use Rattle.std.proofs.lemmas.List.{length-map}
use Rattle.cr_sequence.specs.Kept.{repeated}
use Rattle.cr_memory.specs.Memory.{first_cell}
use Rattle.cr_memory.proofs.Repeating.{map-repeated, begins_either}
use Rattle.cr_memory.proofs.lifetime.stretch_cells.Goals as goal

pub push_stretch-requires-clause-some : goal.push_stretch-requires-clause-some
push_stretch-requires-clause-some c =
    let some = c.requires.some in omega (arith, ap length c.in_ok-first.ensures, length-map c.args.shape.now (first_cell c.args.zero))

pub push_stretch-requires-clause-few : goal.push_stretch-requires-clause-few
push_stretch-requires-clause-few c =
    let size : length c.in_ok-first.first.items ≡ length c.args.shape.now = ap length c.in_ok-first.ensures ∙ length-map c.args.shape.now (first_cell c.args.zero) in
    rw size c.requires.few

pub returns-clause-all : goal.returns-clause-all
returns-clause-all c =
    subst (λ xs. OnOk c.push_stretch.result (c.push_stretch.new.self ≡ c.args.cells.now ++ xs))
    (ap (repeated c.args.times) c.in_ok-first.ensures ∙ sym (map-repeated (first_cell c.args.zero) c.args.times c.args.shape.now))
    c.push_stretch.ensures.pushed

pub returns-clause-begun : goal.returns-clause-begun
returns-clause-begun c = begins_either c.args.cells.now _ c.push_stretch.new.self c.push_stretch.result c.push_stretch.ensures.pushed c.push_stretch.ensures.refused
