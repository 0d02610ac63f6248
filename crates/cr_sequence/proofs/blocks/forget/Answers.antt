use Rattle.std.proofs.Common.{◌≡◌, ℕ, ◌<◌, ◌≤◌, ◌⊎◌, inl, inr, None, Option, List, length, get_or, arith}
use Rattle.std.proofs.lemmas.Bool.{cases_lt}
use Rattle.std.proofs.lemmas.List.{get_or_past}
use Rattle.cr_sequence.proofs.Making.{none_used}
use Rattle.cr_sequence.proofs.blocks.forget.Goals as goal

none_by : (blocks : List (Option ℕ)) (n block : ℕ) → length blocks ≤ n → ((block : ℕ) → block < n → get_or blocks block None ≡ None) → (block < n) ⊎ (n ≤ block)
    → get_or blocks block None ≡ None
none_by blocks n block all h (inl l) = h block l
none_by blocks n block all h (inr g) = get_or_past blocks block None (omega arith)

pub returns-clause-none : goal.returns-clause-none
returns-clause-none g c = λ block.
    none_by c.loop-block.blocks.items c.loop-block.block block
    (omega (arith, c.loop-block.invariant.count, c.args.blocks.now.ok.0)) c.loop-block.invariant.none (cases_lt block c.loop-block.block)

pub returns-clause-kept : goal.returns-clause-kept
returns-clause-kept g c =
    let none : (block : ℕ) → get_or c.loop-block.blocks.items block None ≡ None = returns-clause-none g c in
    let count = c.loop-block.invariant.count in
    record {
      few = let f = c.requires.few in omega arith;
      made = let n = none_used c.loop-block.blocks.items none in omega arith;
      room = let r = c.requires.room in omega arith;
      below = λ block number is. let e = none block in absurd (cc (e, is));
      apart = λ left right number is also. let e = none left in absurd (cc (e, is));
    }
