use Rattle.std.proofs.Common.{None, subst}
use Rattle.cr_replay.specs.Chains.{chain_of}
use Rattle.cr_replay.specs.Checks.{Says}
use Rattle.cr_main_replay.proofs.Rulings.{says_so}
use Rattle.cr_main_replay.proofs.answer.verdict_on.Goals as goal

pub returns : goal.returns
returns g c =
    let chain = chain_of g.P.Passes c.args.replay.now.passes.now g.L.Law c.args.replay.now.law.now None in
    subst (λ from. Says chain from c.args.log.now c.args.texts.now.file.items c.check.result) c.deref.ensures.value
    (subst (λ wanted. Says chain c.deref.result.now c.args.log.now wanted c.check.result) c.deref-2.ensures.value
    (says_so chain c.deref.result.now c.args.log.now c.deref-2.result.now c.check.result c.check.ensures.leads c.check.ensures.breaks))
