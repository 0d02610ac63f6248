use Rattle.std.proofs.Common.{subst, sym}
use Rattle.cr_syntax.specs.Kept.{row_in}
use Rattle.cr_syntax.specs.Units.{IsTreeOf}
use Rattle.cr_syntax.specs.Words.{lexemes_of}
use Rattle.cr_tokens.specs.Tokens.{Tokenizes}
use Rattle.cr_lawful.specs.Lawful.{Refuses, parse_fault_reason, ruling_by}
use Rattle.cr_lawful.proofs.Rulings.{parse_refuses}
use Rattle.cr_lawful.proofs.units.program_of_tokens.Goals as goal

pub parse_ruling-requires : goal.parse_ruling-requires
parse_ruling-requires g c = c.requires.tokens.short

pub with_names-requires-clause-tokens : goal.with_names-requires-clause-tokens
with_names-requires-clause-tokens g c = subst (λ tokens. Tokenizes c.args.file.now tokens) (sym c.in-Ok.ensures.tokens) c.requires.tokens

pub with_names-requires-clause-parsed : goal.with_names-requires-clause-parsed
with_names-requires-clause-parsed g c =
    let unit = c.in-Ok.unit in
    record {
      is_tree = subst (λ tokens. IsTreeOf (lexemes_of c.args.file.now tokens) (row_in unit.nodes unit.items)) (sym c.in-Ok.ensures.tokens) c.in-Ok.ensures.tree;
      below = unit.parts_below;
      listed = c.in-Ok.ensures.listed;
    }

pub returns-in-Err-clause-refused : goal.returns-in-Err-clause-refused
returns-in-Err-clause-refused g c =
    let file = c.args.file.now in
    let raised = g.S.Stop.raised c.args.stop.now in
    let refuses = parse_refuses file raised c.args.tokens.now.list.items c.in-Err.fault c.requires.tokens c.in-Err.ensures.refused in
    subst (Refuses file raised) (sym c.parse_ruling.ensures)
    (subst (λ tokens. Refuses file raised (ruling_by (parse_fault_reason file tokens c.in-Err.fault))) (sym c.as_slice.ensures.value) refuses)
