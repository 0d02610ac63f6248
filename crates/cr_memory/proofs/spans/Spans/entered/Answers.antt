use Rattle.std.proofs.Common.{length, sym, ap, ◌∙◌}
use Rattle.cr_memory.proofs.Living.{length-spans_of}
use Rattle.cr_memory.proofs.spans.Spans.entered.Goals as goal

pub returns : goal.returns
returns c = sym (length-spans_of c.self.inside.entered c.self.inside.living.items) ∙ ap length c.self.view_is
