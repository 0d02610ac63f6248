use Rattle.std.proofs.Common.{◌≡◌, ℕ, ◌+◌, ◌*◌, ◌≤◌, Option, Some, None, get_or, refl, arith}
use Rattle.cr_sequence.proofs.blocks.unmake.Goals as goal

none_by : (own : Option ℕ) → ((number : ℕ) → own ≡ Some number → number * 256 + 256 ≤ 0) → own ≡ None
none_by None h = refl
none_by (Some n) h = let b = h n refl in absurd (omega arith)

pub returns-else-len-ne0-clause-none : goal.returns-else-len-ne0-clause-none
returns-else-len-ne0-clause-none g c = λ block.
    none_by (get_or c.args.blocks.now.items block None) (λ number is. let b = c.requires.below block number is in omega arith)
