use Rattle.std.proofs.Common.{None, length, sym, subst, ◌∙◌}
use Rattle.cr_scopes_bindings.specs.Bindings.{AreBindings}
use Rattle.cr_rows.specs.Columns.{AreOf}
use Rattle.cr_holding.proofs.Kept.{kept}
use Rattle.cr_check_surroundings.specs.Links.{AreLinks}
use Rattle.cr_check_surroundings.specs.Named.{tag_of}
use Rattle.cr_check_surroundings.proofs.bound.bind_nodes.Goals as goal

pub returns : goal.returns
returns c =
    let file = c.args.file.now in
    let unit = c.args.unit.now in
    let names = c.args.names.now in
    let above = c.args.above.now in
    let nodes = c.as_slice-nodes.result.now in
    let tokens = c.as_slice-tokens.result.now in
    let b = c.in_ok-bindings.bindings in
    let ls = c.in_ok-links.links in
    let b-1 = c.in_ok-links.bindings in
    let ls-1 = c.in_ok-tags.links in
    let b-2 = c.in_ok-tags.bindings in
    let ts = c.in_ok-tags.tags in
    let (links, one) = kept (λ l. AreLinks b nodes above (length nodes) l) c.all_links-links.result b (ls, b-1)
    (sym c.holding.ensures ∙ c.in_ok-links.was) c.all_links-links.ensures in
    let (tags, both) = kept (λ t. AreOf (tag_of b-1 names nodes tokens) None (length nodes) t.items) c.tags-tags.result (ls, b-1) (ts, (ls-1, b-2))
    (sym c.holding-2.ensures ∙ c.in_ok-tags.was) c.tags-tags.ensures in
    record {
      bindings = subst (λ p. AreBindings file unit names p.1) both (subst (AreBindings file unit names) one c.in_ok-bindings.ensures);
      links = subst (λ ns. AreLinks b-2 ns above (length ns) ls-1) c.as_slice-nodes.ensures
          (subst (λ p. AreLinks p.1 nodes above (length nodes) p.0) both (subst (λ x. AreLinks x nodes above (length nodes) ls) one links));
      tags = subst (AreOf (tag_of b-2 names unit.nodes unit.tokens.list.items) None (length unit.nodes)) (sym c.from_vec.ensures)
          (subst (λ ns. AreOf (tag_of b-2 names ns unit.tokens.list.items) None (length ns) ts.items) c.as_slice-nodes.ensures
          (subst (λ ws. AreOf (tag_of b-2 names nodes ws) None (length nodes) ts.items) c.as_slice-tokens.ensures.value
          (subst (λ p. AreOf (tag_of p.1 names nodes tokens) None (length nodes) ts.items) both tags)));
    }
