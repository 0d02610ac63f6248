use Rattle.std.proofs.Common.{ap, length, subst, sym, ◌∙◌}
use Rattle.cr_syntax.specs.Kept.{AreWithin}
use Rattle.cr_tokens.specs.declared.token.Tokens.{Tokens}
use Rattle.cr_lawful_analysis.specs.Analysis.{IsAnalysis}
use Rattle.cr_lawful_analysis.specs.declared.analysis.Analysis.TheVariants.{OfUnit}
use Rattle.cr_lawful.proofs.Programs.{file_is, is_read, named_once, within}
use Rattle.cr_lawful.proofs.program.reading_of.Goals as goal

pub new-unit-requires-clause-within : goal.new-unit-requires-clause-within
new-unit-requires-clause-within c =
    subst (λ ts. AreWithin (length ts) c.args.program.typed.nodes) (sym c.into_vec.ensures) (within c.requires.0 c.args.program c.requires.1)

pub new-unit-requires-clause-named_once : goal.new-unit-requires-clause-named_once
new-unit-requires-clause-named_once c = named_once c.requires.0 c.args.program c.requires.1

pub returns : goal.returns
returns c =
    let p = c.args.program in
    let (file, is) = c.requires in
    subst (λ bytes. IsAnalysis bytes (OfUnit c.new-unit.result p.names p.structures)) (sym (c.into_vec-2.ensures ∙ file_is file p is))
    (is_read file p is c.new-unit.result (ap (λ (t : Tokens). t.list.items) c.new-unit.ensures.tokens ∙ c.into_vec.ensures)
    c.new-unit.ensures.nodes c.new-unit.ensures.items)
