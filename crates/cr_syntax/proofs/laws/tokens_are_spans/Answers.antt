use Rattle.cr_syntax.proofs.Spans.{spans_of}
use Rattle.cr_syntax.proofs.laws.tokens_are_spans.Goals as goal

pub returns : goal.returns
returns c = λ file tokens h. spans_of h.falls
