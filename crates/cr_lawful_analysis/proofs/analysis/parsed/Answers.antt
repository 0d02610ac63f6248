use Rattle.std.proofs.Common.{Some, subst, sym}
use Rattle.cr_tokens.specs.Tokens.{Tokenizes}
use Rattle.cr_syntax.specs.Kept.{row_in}
use Rattle.cr_syntax.specs.Units.{IsTreeOf}
use Rattle.cr_syntax.specs.Words.{lexemes_of}
use Rattle.cr_lawful_analysis.specs.Analysis.{IsRead, no_unit, tokens_alone}
use Rattle.cr_lawful_analysis.proofs.Same.{unparsed}
use Rattle.cr_lawful_analysis.proofs.analysis.parsed.Goals as goal

pub named-requires-clause-tokens : goal.named-requires-clause-tokens
named-requires-clause-tokens c = subst (λ tokens. Tokenizes c.args.file.now tokens) (sym c.in-Ok.ensures.tokens) c.requires

pub named-requires-clause-parsed : goal.named-requires-clause-parsed
named-requires-clause-parsed c =
    let unit = c.in-Ok.unit in
    record {
      is_tree = subst (λ tokens. IsTreeOf (lexemes_of c.args.file.now tokens) (row_in unit.nodes unit.items)) (sym c.in-Ok.ensures.tokens) c.in-Ok.ensures.tree;
      below = unit.parts_below;
      listed = c.in-Ok.ensures.listed;
    }

pub returns-in_ok-refusal-in-Err : goal.returns-in_ok-refusal-in-Err
returns-in_ok-refusal-in-Err c =
    subst (λ tokens. IsRead c.args.file.now (tokens_alone (Some tokens))) (sym c.from_vec.ensures)
    (no_unit c.requires (λ unit names checked is. unparsed c.one_first_refusal.ensures.tree _ c.in-Err.fault c.in_ok-refusal-in-Err.ensures c.in-Err.ensures.refused _ is.parsed.is_tree))
