use Rattle.cr_check_unit.proofs.Kept.{are_known}
use Rattle.cr_check_unit.proofs.typing.known_of.Goals as goal

pub returns-clause-within : goal.returns-clause-within
returns-clause-within c = λ shapes h. are_known shapes c.args.typing.now
    (record {
      file = c.args.tree.now.file;
      tokens = c.args.tree.now.tokens;
      nodes = c.args.tree.now.nodes;
      names = c.args.tree.now.names;
      visible = c.args.tree.now.visible;
      declared = c.as_slice.result;
      parameters = c.as_slice-2.result;
      named = c.as_slice-3.result;
      members = c.as_slice-4.result;
      layouts = c.as_slice-5.result;
      fixed = c.as_slice-6.result;
      texts = c.args.texts;
    })
    c.as_slice.ensures c.as_slice-2.ensures c.as_slice-3.ensures c.as_slice-4.ensures h
