use Rattle.std.proofs.Common.{◌+◌, subst, sym}
use Rattle.cr_scopes.specs.Spelled.{said_in}
use Rattle.cr_scopes.proofs.Spellings.{AreNamed, known_step, named_step}
use Rattle.cr_scopes.proofs.spelled.names_of.Goals as goal

pub loop-at-preserved : goal.loop-at-preserved
loop-at-preserved c =
    let h = c.loop-at.invariant in
    record {
      known = known_step c.args.file.now c.args.tokens.now (said_in c.loop-at.known) (said_in c.first_of.new.known)
          c.loop-at.at c.in_ok-number.number c.spelling_at.result.now h.known c.in_ok-first_of.ensures.known c.in_ok-number.ensures c.spelling_at.ensures;
      names = subst (λ xs. AreNamed c.args.file.now c.args.tokens.now xs (c.loop-at.at + 1)) (sym c.in_ok-push.ensures.items)
          (named_step c.args.file.now c.args.tokens.now (said_in c.loop-at.known) c.loop-at.names.items c.loop-at.at c.in_ok-number.number
          c.in_ok-first_of.field-0 c.spelling_at.result.now h.known h.names c.in_ok-first_of.ensures.first c.in_ok-number.ensures c.spelling_at.ensures);
    }
