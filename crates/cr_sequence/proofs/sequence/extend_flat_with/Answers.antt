use Rattle.std.proofs.Common.{◌+◌, sym, ap, ◌∙◌}
use Rattle.cr_sequence.proofs.Extending.{filled_up}
use Rattle.cr_sequence.proofs.sequence.extend_flat_with.Goals as goal

pub returns-clause-extended : goal.returns-clause-extended
returns-clause-extended g c = λ e.
    filled_up c.args.flat.now.items c.resize.new.self.items _ _ c.args.count _ c.args.item c.resize.ensures.items (sym c.is_ok.ensures.value ∙ e)
    c.args.flat.now.ok.0 (ap (λ size. size + c.args.count) c.len.ensures)
