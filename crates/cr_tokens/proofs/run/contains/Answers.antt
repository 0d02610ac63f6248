use Rattle.std.proofs.Common.{◌≤◌, ◌+◌, length, arith, refl}
use Rattle.std.proofs.lemmas.List.{length-map}
use Rattle.cr_tokens.specs.Runs.{AllWithin, spellings, StandsIn}
use Rattle.cr_tokens.proofs.Measures.{falls_within}
use Rattle.cr_tokens.proofs.Spellings.{in-at, at-in}
use Rattle.cr_tokens.proofs.run.contains.Goals as goal

pub stands_at-requires-clause-file : goal.stands_at-requires-clause-file
stands_at-requires-clause-file c =
    let within : AllWithin c.args.file.now c.as_slice-all.result.now = rw c.as_slice-all.ensures.value (falls_within c.requires.file.falls) in
    within

pub stands_at-requires-clause-text : goal.stands_at-requires-clause-text
stands_at-requires-clause-text c =
    let within : AllWithin c.args.text.now c.as_slice-run.result.now = rw c.as_slice-run.ensures.value (falls_within c.requires.text.falls) in
    within

pub returns-then-stands_at : goal.returns-then-stands_at
returns-then-stands_at c = (
  λ _. rw (c.as_slice-all.ensures.value, c.as_slice-run.ensures.value) at
      (at-in c.loop-first.first (spellings c.args.text.now c.as_slice-run.result.now) (spellings c.args.file.now c.as_slice-all.result.now)
      (c.stands_at.ensures.0 c.if-stands_at.true)),
  λ _. refl,
)

pub returns : goal.returns
returns c = (
  λ yes. absurd (cc),
  λ stands.
      let here : StandsIn (spellings c.args.text.now c.as_slice-run.result.now) (spellings c.args.file.now c.as_slice-all.result.now) =
      rw (c.as_slice-all.ensures.value, c.as_slice-run.ensures.value) stands in
      let place = in-at (spellings c.args.text.now c.as_slice-run.result.now) (spellings c.args.file.now c.as_slice-all.result.now) here in
      let room : place.0 + length c.as_slice-run.result.now ≤ length c.as_slice-all.result.now =
      simp length-map at place.1 in
      absurd (c.loop-first.invariant place.0 (omega (arith, room, c.loop-first-test.false)) place.2),
)
