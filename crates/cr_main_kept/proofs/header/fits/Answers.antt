use Rattle.std.proofs.Common.{◌≡◌, ℕ, true, false, nat_eq, Option, refl, sym, ◌∙◌, subst}
use Rattle.std.proofs.lemmas.Bool.Decides.{Decides-eqb}
use Rattle.std.specs.Prelude.{MatchOption}
use Rattle.cr_pool.specs.Sizes.{IsMeasured}
use Rattle.cr_reduce.specs.Sizes.{HasSize}
use Rattle.cr_main_kept.proofs.Headers.{fits_any, fits_size}
use Rattle.cr_main_kept.proofs.header.fits.Goals as goal

pub returns-in-Some-clause-fits : goal.returns-in-Some-clause-fits
returns-in-Some-clause-fits c = λ is.
    let measured = subst (λ (found : Option ℕ). MatchOption found ((n : ℕ) → HasSize c.args.bytes.now n → ⊥) (IsMeasured c.args.bytes.now)) c.in-Some.is c.in_ok-size.ensures in
    let same : nat_eq c.in-Some.size c.args.header.size ≡ true = cc is in
    fits_size c.args.marks c.args.limit c.args.header c.args.bytes.now (c.if-not-is_of.ensures.same refl) c.in-Some.size measured.has ((Decides-eqb c.in-Some.size c.args.header.size).0 same)

pub returns-in-Some-clause-differs : goal.returns-in-Some-clause-differs
returns-in-Some-clause-differs c = λ is fits.
    let measured = subst (λ (found : Option ℕ). MatchOption found ((n : ℕ) → HasSize c.args.bytes.now n → ⊥) (IsMeasured c.args.bytes.now)) c.in-Some.is c.in_ok-size.ensures in
    let other : nat_eq c.in-Some.size c.args.header.size ≡ false = cc is in
    let same = (Decides-eqb c.in-Some.size c.args.header.size).1 (sym (fits.size c.in-Some.size measured.has)) in
    let bad : true ≡ false = sym same ∙ other in cc

pub returns-in-None-clause-fits : goal.returns-in-None-clause-fits
returns-in-None-clause-fits c = λ is.
    fits_any c.args.marks c.args.limit c.args.header c.args.bytes.now (c.if-not-is_of.ensures.same refl)
    (subst (λ (found : Option ℕ). MatchOption found ((n : ℕ) → HasSize c.args.bytes.now n → ⊥) (IsMeasured c.args.bytes.now)) c.in-None.is c.in_ok-size.ensures)
