use Rattle.std.proofs.Common.{MatchOption, subst}
use Rattle.cr_tokens.specs.Tokens.{HasNoTokens, Tokenizes}
use Rattle.cr_lawful_analysis.specs.Analysis.{no_tokens}
use Rattle.cr_lawful_analysis.proofs.analysis.analyse.Goals as goal

pub returns-in-None : goal.returns-in-None
returns-in-None c =
    let file = c.args.file.now in
    no_tokens (subst (λ found. MatchOption found (HasNoTokens file) (λ tokens. Tokenizes file tokens.list.items)) c.in-None.is c.in_ok-tokens.ensures)
