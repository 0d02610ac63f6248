use Rattle.std.proofs.Common.{None, List, reverse, ap, sym, ◌∙◌, rules}
use Rattle.std.proofs.lemmas.List.{get_or_read, get_or_past}
use Rattle.cr_scopes_bindings.specs.declared.scoped.Binding.{Binding}
use Rattle.cr_scopes_bindings.specs.Stacks.{found_in}
use Rattle.cr_scopes_bindings.proofs.Finding.{found}
use Rattle.cr_scopes_bindings.proofs.scoped.Scoped.find.Goals as goal

pub returns-then-place-len : goal.returns-then-place-len
returns-then-place-len c =
    let inside = c.self.inside in
    ap (λ (bs : List Binding). found_in bs c.args.name) (sym c.self.view_is)
    ∙ (found inside.latest.items (reverse inside.entries.items) c.args.name c.self.invariant
    ∙ sym (get_or_read inside.latest.items c.args.name c.index.result.now (search rules) c.index.ensures None))

pub returns-else-place-len : goal.returns-else-place-len
returns-else-place-len c =
    let inside = c.self.inside in
    ap (λ (bs : List Binding). found_in bs c.args.name) (sym c.self.view_is)
    ∙ (found inside.latest.items (reverse inside.entries.items) c.args.name c.self.invariant
    ∙ get_or_past inside.latest.items c.args.name None (search rules))
