-- Where a reduction stands once its rows were followed.
use Rattle.std.specs.Prelude.{◌≡◌, ℕ, ◌<◌, ◌≤◌, List, [], ◌∷◌, All}
use Rattle.std.specs.Global.{Vec}
use Rattle.cr_cursor.specs.declared.passes.Cursor.{Cursor}
use Rattle.cr_cursor.specs.Variants.{cursor, pass_count}
use Rattle.cr_reduce.specs.Keeping.{IsKeptOf}
use Rattle.cr_reduce.specs.Reduction.{Within}
use Rattle.cr_reduce.specs.Sizes.{HasSize}
use Rattle.cr_reduce.specs.declared.end.Accepted.{Accepted}
use Rattle.cr_reduce.specs.declared.end.Kept.{Kept}
use Rattle.cr_replay.specs.Chains.{Chain, Follows}

-- the last row's cursor, or without rows the first
abbrev pub last_cursor : List Accepted → Cursor
last_cursor [] = cursor 0 0 0
last_cursor (row ∷ []) = row.at
last_cursor (row ∷ second ∷ more) = last_cursor (second ∷ more)

abbrev pub kept_behind : Vec ℕ → Vec Accepted → ℕ → Kept
kept_behind file rows turns = record { file = file; at = last_cursor rows.items; accepted = rows; turns = turns }

-- The rows lead from the file to this one, and a reduction may go on behind them.
pub record IsReplayed (c : Chain) (file : List ℕ) (rows : List Accepted) (kept : Kept) : Type 0 where
  pub same : kept.accepted.items ≡ rows
  pub follows : Follows c file 0 rows kept.file.items kept.turns
  pub is_kept : IsKeptOf c.Offers file kept
  pub sized : (n : ℕ) × HasSize kept.file.items n
  pub pass : kept.at.pass < pass_count
  pub level : kept.at.level < 16
  pub within : Within c.limit kept.turns
  pub passes : All (λ row. row.at.pass < pass_count) rows
