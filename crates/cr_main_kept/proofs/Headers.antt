-- Whether a header fits.
use Rattle.std.proofs.Common.{◌≡◌, ◌<◌, ◌^◌, ℕ, List, Option, sym, ◌∙◌}
use Rattle.cr_journal_rows.specs.declared.header.Header.{Header}
use Rattle.cr_main_kept.specs.Header.{Fits, MarksFit, header_of, limit_mark}
use Rattle.cr_main_kept.specs.declared.header.Marks.{Marks}
use Rattle.cr_reduce.specs.Sizes.{HasSize}
use Rattle.cr_reduce.proofs.Sizes.{one_size}

module _ (marks : Marks) (limit : Option ℕ) (header : Header) (bytes : List ℕ) where
  pub fits_size : header ≡ header_of marks limit header.size → (size : ℕ) → HasSize bytes size → size ≡ header.size → Fits marks limit header bytes
  fits_size same size has is = record { settings = same; size = λ n other. sym is ∙ one_size bytes size n has other }

  pub fits_any : header ≡ header_of marks limit header.size → ((n : ℕ) → HasSize bytes n → ⊥) → Fits marks limit header bytes
  fits_any same none = record { settings = same; size = λ n has. absurd (none n has) }

pub marks_fit : (marks : Marks) (limit : Option ℕ) → marks.passes < 2 ^ 16 → marks.steps < 2 ^ 64 → limit_mark limit < 2 ^ 64 → MarksFit marks limit
marks_fit marks limit passes steps most = λ size fits. record { passes = passes; steps = steps; limit = most; size = fits }
