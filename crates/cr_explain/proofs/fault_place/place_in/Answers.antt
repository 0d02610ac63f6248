use Rattle.std.proofs.Common.{subst, sym}
use Rattle.cr_tokens.specs.Tokens.{Tokenizes}
use Rattle.cr_explain.proofs.fault_place.place_in.Goals as goal

pub place_of_names-requires : goal.place_of_names-requires
place_of_names-requires c = subst (λ tokens. Tokenizes c.args.file.now tokens) (sym c.in-Ok.ensures.tokens) c.requires
