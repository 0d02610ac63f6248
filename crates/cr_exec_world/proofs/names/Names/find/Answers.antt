use Rattle.std.proofs.Common.{◌≤◌, ◌<◌, length, None, List, reverse, ap, sym, ◌∙◌, rules}
use Rattle.std.proofs.lemmas.List.{get_or_read, get_or_past}
use Rattle.cr_meaning.specs.World.{Binding, object_for}
use Rattle.cr_exec_world.proofs.Finding.{found}
use Rattle.cr_exec_world.proofs.names.Names.find.Goals as goal

pub returns-then-place-len : goal.returns-then-place-len
returns-then-place-len c =
    let inside = c.self.inside in
    ap (λ (bs : List Binding). object_for bs c.args.node) (sym c.self.view_is)
    ∙ (found inside.latest.items (reverse inside.entries.items) c.args.node c.self.invariant
    ∙ sym (get_or_read inside.latest.items c.args.node c.index.result.now (search rules) c.index.ensures None))

pub returns-else-place-len : goal.returns-else-place-len
returns-else-place-len c =
    let inside = c.self.inside in
    ap (λ (bs : List Binding). object_for bs c.args.node) (sym c.self.view_is)
    ∙ (found inside.latest.items (reverse inside.entries.items) c.args.node c.self.invariant
    ∙ get_or_past inside.latest.items c.args.node None (search rules))
