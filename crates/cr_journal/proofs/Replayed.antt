-- Where followed rows lead, as a reduction goes on behind them.
use Rattle.std.proofs.Common.{◌≡◌, inl, inr, ℕ, ◌-◌, ◌<◌, ◌≤◌, List, [], ◌∷◌, All, length, MatchOption, Option, Some, None, refl, sym, ◌∙◌, ap, subst, arith}
use Rattle.std.proofs.lemmas.Bool.{cases_lt}
use Rattle.std.proofs.lemmas.List.Elements.{All-cons, All-nil}
use Rattle.std.specs.Global.{Vec}
use Rattle.std.specs.List.{slice_get}
use Rattle.cr_cursor.specs.TokenLaw.{IsTokenized}
use Rattle.cr_cursor.specs.Variants.{Offer, pass_count}
use Rattle.cr_log.specs.declared.reader.Log.{Log}
use Rattle.cr_reduce.specs.declared.end.Accepted.{Accepted}
use Rattle.cr_reduce.specs.Keeping.{IsBehind}
use Rattle.cr_reduce.specs.Reduction.{Proposals, Within}
use Rattle.cr_reduce.specs.Search.{ChainsTo}
use Rattle.cr_reduce.specs.Sizes.{HasSize}
use Rattle.cr_replay.specs.Chains.{BreaksAt, Chain, Follows, IsStep}
use Rattle.cr_replay.specs.Chains.Follows.{further, there}
use Rattle.cr_replay.specs.Checks.FailsAt.{a_row}
use Rattle.cr_replay.proofs.Apart.{apart, one_line}
use Rattle.cr_tokens.specs.Size.{size_of}
use Rattle.cr_journal.specs.Replay.{IsReplayed, kept_behind, last_cursor}

-- the last row's cursor, as it is read
last-get : (one : Accepted) (rows : List Accepted) → (row : Accepted) × (slice_get (one ∷ rows) (length rows) ≡ Some row) × (row.at ≡ last_cursor (one ∷ rows))
last-get one [] = (one, refl, refl)
last-get one (two ∷ more) = last-get two more

pub last_of : (rows : List Accepted) (found : Option Accepted) → found ≡ slice_get rows (length rows - 1) → MatchOption found (rows ≡ []) (λ row. row.at ≡ last_cursor rows)
last_of [] None is = refl
last_of [] (Some row) is = cc
last_of (one ∷ rows) found is =
    let behind : length (one ∷ rows) - 1 ≡ length rows = omega arith in
    let (row, there_is, same) = last-get one rows in
    subst (λ (o : Option Accepted). MatchOption o (one ∷ rows ≡ []) (λ row. row.at ≡ last_cursor (one ∷ rows))) (sym (is ∙ ap (slice_get (one ∷ rows)) behind ∙ there_is)) same

chain : (c : Chain) (file last : List ℕ) (before n : ℕ) (rows : List Accepted) → Follows c file before rows last n → ChainsTo c.Offers file rows last
chain c file last before n [] there = refl
chain c file last before n (one ∷ more) (further {next = next} step rest) =
    (step.offer, step.offered, subst (λ (f : List ℕ). ChainsTo c.Offers f more last) step.is (chain c next last one.turn n more rest))

some_behind : (c : Chain) (file last : List ℕ) (before n : ℕ) (one : Accepted) (more : List Accepted) → Follows c file before (one ∷ more) last n
    → IsBehind (one ∷ more) (last_cursor (one ∷ more)) n
some_behind c file last before n one [] (further {next = next} step there) = (refl, refl)
some_behind c file last before n one (two ∷ more) (further {next = next} step rest) = some_behind c next last one.turn n two more rest

behind : (c : Chain) (file last : List ℕ) (n : ℕ) (rows : List Accepted) → Follows c file 0 rows last n → IsBehind rows (last_cursor rows) n
behind c file last n [] there = (refl, refl)
behind c file last n (one ∷ more) follows = some_behind c file last 0 n one more follows

abbrev Sized : List ℕ → Type 0
Sized file = (n : ℕ) × HasSize file n

sized_from : (file : List ℕ) → IsTokenized file → Sized file
sized_from file it = (size_of file it.tokens, record { tokens = it.tokens; tokenizes = it.tokenizes; is = refl })

sized : (c : Chain) (file last : List ℕ) (before n : ℕ) (rows : List Accepted) → Sized file → Follows c file before rows last n → Sized last
sized c file last before n [] has there = has
sized c file last before n (one ∷ more) has (further {next = next} step rest) = sized c next last one.turn n more (one.size, step.new_size) rest

within : (c : Chain) (file last : List ℕ) (before n : ℕ) (rows : List Accepted) → Within c.limit before → Follows c file before rows last n → Within c.limit n
within c file last before n [] few there = few
within c file last before n (one ∷ more) few (further {next = next} step rest) = within c next last one.turn n more step.within rest

-- No pass behind the last and no level above 15 has a variant.
pub record AreNarrow (p : Proposals) : Type 0 where
  pub no_more_passes : (file : List ℕ) (o : Offer) (pass level : ℕ) → p file o → pass_count ≤ pass → o.widths pass level ≡ 0
  pub sixteen_levels : (file : List ℕ) (o : Offer) (pass level : ℕ) → p file o → 15 < level → o.widths pass level ≡ 0

module _ (c : Chain) (narrow : AreNarrow c.Offers) where
  below : (file next : List ℕ) (before : ℕ) (one : Accepted) → IsStep c file before one next → (one.at.pass < pass_count) × (one.at.level < 16)
  below file next before one step = (
    elim (cases_lt one.at.pass pass_count) [
      | inl low ↦ low
      | inr high ↦ absurd (omega (arith, high, step.there, narrow.no_more_passes file step.offer one.at.pass one.at.level step.offered (omega (arith, high))))
    ],
    elim (cases_lt one.at.level 16) [
      | inl low ↦ low
      | inr high ↦ absurd (omega (arith, high, step.there, narrow.sixteen_levels file step.offer one.at.pass one.at.level step.offered (omega (arith, high))))
    ],
  )

  last_below : (file last : List ℕ) (before n : ℕ) (rows : List Accepted) → Follows c file before rows last n → ((last_cursor rows).pass < pass_count) × ((last_cursor rows).level < 16)
  last_below file last before n [] there = (omega arith, omega arith)
  last_below file last before n (one ∷ []) (further {next = next} step rest) = below file next before one step
  last_below file last before n (one ∷ two ∷ more) (further {next = next} step rest) = last_below next last one.turn n (two ∷ more) rest

  in_passes : (file last : List ℕ) (before n : ℕ) (rows : List Accepted) → Follows c file before rows last n → All (λ row. row.at.pass < pass_count) rows
  in_passes file last before n [] there = All-nil (λ row. row.at.pass < pass_count)
  in_passes file last before n (one ∷ more) (further {next = next} step rest) =
      let low = below file next before one step in
      All-cons (λ row. row.at.pass < pass_count) one more (omega (arith, low.0)) (in_passes next last one.turn n more rest)

  pub replayed : (file : List ℕ) (last : Vec ℕ) (rows : Vec Accepted) (n : ℕ) → IsTokenized file → Within c.limit 0 → Follows c file 0 rows.items last.items n
      → IsReplayed c file rows.items (kept_behind last rows n)
  replayed file last rows n tokenized few follows =
      let ends = last_below file last.items 0 n rows.items follows in
      record {
        same = refl;
        follows = follows;
        is_kept = record { chain = chain c file last.items 0 n rows.items follows; behind = behind c file last.items n rows.items follows };
        sized = sized c file last.items 0 n rows.items (sized_from file tokenized) follows;
        pass = ends.0;
        level = ends.1;
        within = within c file last.items 0 n rows.items few follows;
        passes = in_passes file last.items 0 n rows.items follows;
      }

-- Rows lead on, or break at one first row.
module _ (c : Chain) (one : (file : List ℕ) (o other : Offer) → c.Offers file o → c.Offers file other → o ≡ other) (file : List ℕ) (rows : Vec Accepted) where
  abbrev log_to : ℕ → ℕ → Log
  log_to size turns = record { accepted = rows; why = 0; size = size; turns = turns }

  pub not_both : (last : List ℕ) (turns k : ℕ) → IsTokenized file → Follows c file 0 rows.items last turns → BreaksAt c file 0 rows.items k → ⊥
  not_both last turns k tokenized follows breaks =
      let (size, has) = sized c file last 0 turns rows.items (sized_from file tokenized) follows in
      apart c one file last (log_to size turns) k
      (record { last = last; turns = turns; follows = follows; ends = record { size = has; enough = omega arith; is = refl } }) (a_row breaks)

  pub one_break : (k m : ℕ) → BreaksAt c file 0 rows.items k → BreaksAt c file 0 rows.items m → k ≡ m
  one_break k m breaks other = one_line c one file [] (log_to 0 0) k m (a_row breaks) (a_row other)
