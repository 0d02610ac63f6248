-- Chains of accepted variants.
use Rattle.std.specs.Prelude.{◌≡◌, ℕ, ◌+◌, ◌<◌, ◌≤◌, List, [], ◌∷◌, length, Option}
use Rattle.cr_cursor.specs.Variants.{Offer}
use Rattle.cr_cursor.specs.declared.passes.Passes.{Ghosts as PassesGhosts}
use Rattle.cr_cursor.specs.declared.law.Law.{Ghosts as LawGhosts}
use Rattle.cr_reduce.specs.Reduction.{Proposals, Within}
use Rattle.cr_reduce.specs.Sizes.{HasSize}
use Rattle.cr_reduce.specs.declared.end.Accepted.{Accepted}
use Rattle.cr_replay.specs.declared.rows.Followed.{Followed}
use Rattle.cr_replay.specs.declared.rows.Followed.TheVariants as followed

-- What is offered for a file, which files are lawful, and the most turns.
pub record Chain : Type 1 where
  pub Offers : Proposals
  pub Lawful : List ℕ → Type 0
  pub limit : Option ℕ

abbrev pub chain_of : {P I L : Type 0} → PassesGhosts P I → P → LawGhosts L → L → Option ℕ → Chain
chain_of passes p law l limit = record { Offers = passes.offers p; Lawful = law.lawful l; limit = limit }

-- The row leads from a file, after so many turns, to another: its cursor has that variant, which is lawful, smaller, and of
-- the row's size; its turn is above the turns, and within the limit.
pub record IsStep (c : Chain) (file : List ℕ) (turns : ℕ) (one : Accepted) (next : List ℕ) : Type 0 where
  pub offer : Offer
  pub size : ℕ
  pub offered : c.Offers file offer
  pub there : one.at.index < offer.widths one.at.pass one.at.level
  pub is : next ≡ offer.bytes one.at
  pub old_size : HasSize file size
  pub new_size : HasSize next one.size
  pub smaller : one.size < size
  pub lawful : c.Lawful next
  pub later : turns < one.turn
  pub within : Within c.limit one.turn

-- It leads nowhere.
abbrev pub LeadsNowhere : Chain → List ℕ → ℕ → Accepted → Type 0
LeadsNowhere c file turns one = (next : List ℕ) → IsStep c file turns one next → ⊥

-- The rows lead from a file, after so many turns, to the last one with its turns.
pub data Follows (c : Chain) : List ℕ → ℕ → List Accepted → List ℕ → ℕ → Type 0 where
  there : {file : List ℕ} {turns : ℕ} → Follows c file turns [] file turns
  further : {file next last : List ℕ} {turns count : ℕ} {one : Accepted} {more : List Accepted} → IsStep c file turns one next
      → Follows c next one.turn more last count → Follows c file turns (one ∷ more) last count

-- Row k, from 1, is the first that leads nowhere.
pub data BreaksAt (c : Chain) : List ℕ → ℕ → List Accepted → ℕ → Type 0 where
  here : {file : List ℕ} {turns : ℕ} {one : Accepted} {more : List Accepted} → LeadsNowhere c file turns one → BreaksAt c file turns (one ∷ more) 1
  behind : {file next : List ℕ} {turns k : ℕ} {one : Accepted} {more : List Accepted} → IsStep c file turns one next
      → BreaksAt c next one.turn more k → BreaksAt c file turns (one ∷ more) (k + 1)

-- What is found of rows. No more of them lead on than the size of a file allows, since each one lowers it.
abbrev pub Finds : Chain → List ℕ → List Accepted → Followed → Type 0
Finds c file rows (followed.To last turns) = Follows c file 0 rows last.items turns × (length rows ≤ 12582912)
Finds c file rows (followed.Breaks k) = BreaksAt c file 0 rows k
Finds c file rows followed.NoMemory = Unit {0}
