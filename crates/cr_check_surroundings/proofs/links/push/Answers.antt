use Rattle.std.proofs.Common.{None, ap, ◌∙◌}
use Rattle.cr_rows.proofs.Columns.{one_more}
use Rattle.cr_check_surroundings.specs.Named.{earlier_for, same_for, same_if, visible_for, visible_if}
use Rattle.cr_check_surroundings.specs.Raised.{raised_of}
use Rattle.cr_check_surroundings.proofs.links.push.Goals as goal

pub returns : goal.returns
returns c =
    let b = c.args.bindings.now in
    let nodes = c.args.nodes.now in
    let above = c.args.above.now in
    record {
      visible = rw c.in_ok-push.ensures.ok (one_more (visible_for b nodes above) None _ c.args.at _ c.requires.visible
          (c.raised_of.ensures ∙ ap (λ d. raised_of nodes above d c.args.at) (c.visible_if-used.ensures ∙ ap (visible_if b) c.used_name.ensures)));
      earlier = rw c.in_ok-push-2.ensures.ok (one_more (earlier_for b nodes above) None _ c.args.at _ c.requires.earlier
          (c.raised_of-2.ensures ∙ ap (λ d. raised_of nodes above d c.args.at) (c.visible_if-earlier.ensures ∙ ap (visible_if b) c.name_of-own.ensures)));
      same = rw c.in_ok-push-3.ensures.ok (one_more (same_for b nodes above) None _ c.args.at _ c.requires.same
          (c.raised_of-3.ensures ∙ ap (λ d. raised_of nodes above d c.args.at) (c.same_if-same.ensures ∙ ap (same_if b) c.name_of-own.ensures)));
    }
