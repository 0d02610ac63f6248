-- A file has one size.
use Rattle.std.proofs.Common.{◌≡◌, ◌⊎◌, inl, inr, ℕ, List, ap, ◌∙◌, sym, arith}
use Rattle.cr_tokens.specs.declared.token.TokenFault.{TokenFault}
use Rattle.cr_tokens.specs.declared.token.TokenFault.TheVariants.{NoMemory}
use Rattle.cr_tokens.specs.Faults.{FirstTokenFault}
use Rattle.cr_tokens.specs.Size.{size_of}
use Rattle.cr_tokens.proofs.Wholes.{one_list}
use Rattle.cr_tokens.proofs.Faults.{list_no_fault}
use Rattle.cr_outside.specs.declared.judge.Answer.{Answer}
use Rattle.cr_pool.specs.Sizes.{HasSize, IsSmaller}
use Rattle.cr_pool.specs.Trials.{IsGood, IsLarge, IsRejected}
use Rattle.cr_pool.specs.Trials.IsRejected.{not_smaller}

pub one_size : (file : List ℕ) (m n : ℕ) → HasSize file m → HasSize file n → m ≡ n
one_size file m n first second = first.is ∙ ap (size_of file) (one_list file first.tokens second.tokens first.tokenizes second.tokenizes) ∙ sym second.is

-- A smaller one has a size below the file's.
pub good_is_smaller : (Lawful : List ℕ → Type 0) (file variant : List ℕ) (size n : ℕ) → HasSize file size → IsGood Lawful variant size n → IsSmaller variant file
good_is_smaller Lawful file variant size n is good = record { new_size = n; old_size = size; new_is = good.has; old_is = is; less = good.less }

-- What isn't below the file's size isn't smaller.
pub large_no_smaller : (file variant : List ℕ) (size : ℕ) → HasSize file size → IsLarge variant size → IsSmaller variant file → ⊥
large_no_smaller file variant size is large smaller = omega (arith, large smaller.new_size smaller.new_is, one_size file smaller.old_size size smaller.old_is is, smaller.less)

-- So it is rejected, whatever was answered.
pub large_is_rejected : (Lawful : List ℕ → Type 0) (Answers : List ℕ → Answer → Type 0) (file variant : List ℕ) (size : ℕ) → HasSize file size → IsLarge variant size
    → IsRejected Lawful Answers file variant
large_is_rejected Lawful Answers file variant size is large = not_smaller (large_no_smaller file variant size is large)
