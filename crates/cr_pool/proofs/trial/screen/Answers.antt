use Rattle.std.proofs.Common.{◌≡◌, arith, inl, inr, refl, subst}
use Rattle.cr_pool.specs.Kept.{Keeps}
use Rattle.cr_pool.proofs.Sizes.{one_size}
use Rattle.cr_pool.proofs.trial.screen.Goals as goal

pub returns-in-Ok-None-clause-large : goal.returns-in-Ok-None-clause-large
returns-in-Ok-None-clause-large g c = λ _. λ n has. absurd ((rw c.in-Ok-None.field-0-is at c.in-Ok-None.ensures) n has)

pub returns-then-found-limit-clause-large : goal.returns-then-found-limit-clause-large
returns-then-found-limit-clause-large g c = λ _.
    let measured = (rw c.in-Ok-Some.field-0-is at c.in-Ok-Some.ensures).1 in
    λ n has. omega (arith, one_size c.args.variant.now n c.in-Ok-Some.found.size has measured.has)

pub returns-in-Some-clause-decided : goal.returns-in-Some-clause-decided
returns-in-Some-clause-decided g c = λ verdict is.
    let measured = (rw c.in-Ok-Some.field-0-is at c.in-Ok-Some.ensures).1 in
    let same : c.in-Some.verdict ≡ verdict = cc in
    record {
      size = c.in-Ok-Some.found.size;
      has = measured.has;
      less = omega arith;
      why = inl (subst (Keeps c.args.verdicts.now c.args.variant.now) same (c.in-Some.ensures.found c.in-Some.verdict refl));
    }

pub returns-in-Unlawful-clause-decided : goal.returns-in-Unlawful-clause-decided
returns-in-Unlawful-clause-decided g c = λ verdict is.
    let measured = (rw c.in-Ok-Some.field-0-is at c.in-Ok-Some.ensures).1 in
    record {
      size = c.in-Ok-Some.found.size;
      has = measured.has;
      less = omega arith;
      why = inr (cc, c.in-Unlawful.ensures.unlawful c.in-Unlawful.field-0 refl, c.in_default.ensures.none refl);
    }
