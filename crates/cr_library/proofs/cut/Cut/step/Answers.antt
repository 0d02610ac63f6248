use Rattle.std.proofs.Common.{◌≡◌, ℕ, ◌∷◌, ◌∙◌, ap, subst, List, arith}
use Rattle.cr_library.specs.Reading.{IsReading}
use Rattle.cr_library.proofs.Readings.{reading_conversion, reading_outside, reading_at}
use Rattle.cr_library.proofs.Conversions.{IsSpelledBy, converted-sound, nothing_spelled}
use Rattle.cr_library.proofs.cut.Cut.step.Goals as goal

pub returns-in_default-convert-clause-outside : goal.returns-in_default-convert-clause-outside
returns-in_default-convert-clause-outside c = λ told format reading.
    let after = c.args.after.now in
    let cut = c.args.self.now in
    let percent : c.args.byte ≡ 37 = omega arith in
    let P : ℕ → Type 0 = λ b. IsReading format cut.pieces.items cut.run.items (b ∷ after) in
    reading_outside format cut.pieces.items cut.run.items after (subst P percent reading)
    (λ piece rest. nothing_spelled after piece rest c.in_default-convert.ensures c.in_default.ensures)

pub returns-clause-read : goal.returns-clause-read
returns-clause-read c = λ format reading.
    let after = c.args.after.now in
    let cut = c.args.self.now in
    let percent : c.args.byte ≡ 37 = omega arith in
    let found : IsSpelledBy 0 after c.in-Some-convert.piece c.in-Some-convert.rest.now = converted-sound after c.in-Some-convert.piece c.in-Some-convert.rest.now c.in-Some-convert.ensures in
    let P : List ℕ → Type 0 = IsReading format cut.pieces.items cut.run.items in
    reading_at c.in_ok-push_conversion.ensures.pieces c.in_ok-push_conversion.ensures.run
    (reading_conversion format cut.pieces.items cut.run.items c.in-Some-convert.piece c.in-Some-convert.rest.now found.in_profile found.no_run
    (subst P (ap (λ b. b ∷ after) percent ∙ found.spelled) reading))
