-- Blocks that are made, and cells in them.
use Rattle.std.proofs.Common.{◌≡◌, ◌≢◌, ℕ, suc, ◌+◌, ◌*◌, ◌/◌, ◌%◌, ◌<◌, ◌≤◌, ◌⊎◌, inl, inr, Option, Some, None, List, [], ◌∷◌, length, get_or, set, refl, sym, ap, ◌∙◌, arith, length-set, get_or-set_other, get_or-set_same, vec_len, vec_capacity}
use Rattle.std.specs.Prelude.{sum_by}
use Rattle.std.specs.Global.{Vec}
use Rattle.std.proofs.lemmas.Bool.{cases_eq}
use Rattle.std.proofs.lemmas.List.Sums.{sum_by-set, sum_by-cons}
use Rattle.cr_sequence.specs.Kept.{block_of, in_block, item_in, used, IsKept}

pub none_used : (xs : List (Option ℕ)) → ((k : ℕ) → get_or xs k None ≡ None) → sum_by used xs ≡ 0
none_used [] h = refl
none_used (x ∷ xs) h = omega (arith, sum_by-cons used x xs, ap used (h 0), none_used xs (λ k. h (suc k)))

-- where nothing is in the pool, no block is made
pub none_made : (blocks : List (Option ℕ)) (then : ℕ) → ((block number : ℕ) → get_or blocks block None ≡ Some number → number * 256 + 256 ≤ then) → then ≡ 0
    → (block : ℕ) → get_or blocks block None ≡ None
none_made blocks then below e block = by_own (get_or blocks block None) (below block)
  where
    by_own : (own : Option ℕ) → ((number : ℕ) → own ≡ Some number → number * 256 + 256 ≤ then) → own ≡ None
    by_own None h = refl
    by_own (Some number) h = let b = h number refl in absurd (omega arith)

used_le : (xs : List (Option ℕ)) → sum_by used xs ≤ length xs
used_le [] = omega arith
used_le (None ∷ xs) = omega (arith, sum_by-cons used None xs, used_le xs)
used_le (Some n ∷ xs) = omega (arith, sum_by-cons used (Some n) xs, used_le xs)

-- where one isn't made, there is room for one
pub room_left : (xs : List (Option ℕ)) (b : ℕ) → b < length xs → get_or xs b None ≡ None → sum_by used xs < length xs
room_left xs b h e = omega (arith, sum_by-set used xs b (Some 0) None h, ap used e, used_le (set xs b (Some 0)), length-set xs b (Some 0))

-- ---- a block more

at_set : (blocks : List (Option ℕ)) (b n j k : ℕ) → b < length blocks → (j ≡ b) ⊎ (j ≢ b) → get_or (set blocks b (Some n)) j None ≡ Some k
    → ((j ≡ b) × (k ≡ n)) ⊎ ((j ≢ b) × (get_or blocks j None ≡ Some k))
at_set blocks b n j k h (inl e) is =
    let at : get_or (set blocks b (Some n)) j None ≡ Some n = ap (λ i. get_or (set blocks b (Some n)) i None) e ∙ get_or-set_same blocks b (Some n) None h in
    inl (e, cc)
at_set blocks b n j k h (inr o) is = inr (o, sym (get_or-set_other blocks b j (Some n) None o) ∙ is)

record Before (blocks : List (Option ℕ)) (number : ℕ) (length_then : ℕ) : Type 0 where
  below : (block k : ℕ) → get_or blocks block None ≡ Some k → k * 256 + 256 ≤ length_then
  number_is : number * 256 ≡ length_then

below_by : (blocks : List (Option ℕ)) (b n j k then : ℕ) → Before blocks n then
    → ((j ≡ b) × (k ≡ n)) ⊎ ((j ≢ b) × (get_or blocks j None ≡ Some k)) → k * 256 + 256 ≤ then + 256
below_by blocks b n j k then before (inl e) = let same = e.1 in let is = before.number_is in omega arith
below_by blocks b n j k then before (inr e) = let h = before.below j k e.1 in omega arith

apart_by : (blocks : List (Option ℕ)) (b n left right k then : ℕ) → Before blocks n then
    → ((left right k : ℕ) → get_or blocks left None ≡ Some k → get_or blocks right None ≡ Some k → left ≡ right)
    → ((left ≡ b) × (k ≡ n)) ⊎ ((left ≢ b) × (get_or blocks left None ≡ Some k))
    → ((right ≡ b) × (k ≡ n)) ⊎ ((right ≢ b) × (get_or blocks right None ≡ Some k)) → left ≡ right
apart_by blocks b n left right k then before apart (inl e) (inl f) = e.0 ∙ sym f.0
apart_by blocks b n left right k then before apart (inl e) (inr f) =
    let h = before.below right k f.1 in let same = e.1 in let is = before.number_is in absurd (omega arith)
apart_by blocks b n left right k then before apart (inr e) (inl f) =
    let h = before.below left k e.1 in let same = f.1 in let is = before.number_is in absurd (omega arith)
apart_by blocks b n left right k then before apart (inr e) (inr f) = apart left right k e.1 f.1

number_then : {X : Type 0} (blocks : List (Option ℕ)) (old : Vec X) (number : ℕ) → IsKept blocks old → number ≡ vec_len old / 256
    → Before blocks number (vec_len old)
number_then blocks old number kept e = record { below = kept.below; number_is = let m = kept.made in omega arith }

pub make_kept : {X : Type 0} (blocks : List (Option ℕ)) (old new : Vec X) (block number : ℕ) → IsKept blocks old
    → block < length blocks → get_or blocks block None ≡ None → number ≡ vec_len old / 256
    → vec_len new ≡ vec_len old + 256 → vec_capacity old ≤ vec_capacity new → IsKept (set blocks block (Some number)) new
make_kept blocks old new block number kept h unmade e len cap =
    let before = number_then blocks old number kept e in
    record {
      few = let f = kept.few in omega (arith, length-set blocks block (Some number));
      made = let m = kept.made in omega (arith, sum_by-set used blocks block (Some number) None h, ap used unmade);
      room = let r = kept.room in omega (arith, length-set blocks block (Some number));
      below = λ j k is. let b = below_by blocks block number j k (vec_len old) before (at_set blocks block number j k h (cases_eq j block) is) in omega arith;
      apart = λ left right k is also. apart_by blocks block number left right k (vec_len old) before kept.apart
          (at_set blocks block number left k h (cases_eq left block) is) (at_set blocks block number right k h (cases_eq right block) also);
    }

same_other : {X : Type 0} (first : X) (pattern : List X) (blocks : List (Option ℕ)) (old new : List X) (then place : ℕ) (own : Option ℕ)
    → ((block k : ℕ) → get_or blocks block None ≡ Some k → k * 256 + 256 ≤ then)
    → ((k : ℕ) → k < then → get_or new k first ≡ get_or old k first)
    → block_of blocks place ≡ own → in_block first pattern new place own ≡ in_block first pattern old place own
same_other first pattern blocks old new then place None below before e = refl
same_other first pattern blocks old new then place (Some k) below before e =
    let h = below (place / 256) k e in before (k * 256 + place % 256) (omega arith)

same_by : {X : Type 0} (first : X) (pattern : List X) (blocks : List (Option ℕ)) (old new : List X) (then block number place : ℕ)
    → Before blocks number then → block < length blocks → get_or blocks block None ≡ None
    → ((k : ℕ) → k < then → get_or new k first ≡ get_or old k first)
    → ((k : ℕ) → k < 256 → get_or new (then + k) first ≡ get_or pattern ((block * 256 + k) % length pattern) first)
    → (place / 256 ≡ block) ⊎ (place / 256 ≢ block)
    → item_in first pattern (set blocks block (Some number)) new place ≡ item_in first pattern blocks old place
same_by first pattern blocks old new then block number place b h unmade before filled (inl e) =
    let at : block_of (set blocks block (Some number)) place ≡ Some number =
    ap (λ i. get_or (set blocks block (Some number)) i None) e ∙ get_or-set_same blocks block (Some number) None h in
    let none : block_of blocks place ≡ None = ap (λ i. get_or blocks i None) e ∙ unmade in
    let is = b.number_is in
    let index : number * 256 + place % 256 ≡ then + place % 256 = omega arith in
    let back : block * 256 + place % 256 ≡ place = omega arith in
    ap (in_block first pattern new place) at
    ∙ ap (λ i. get_or new i first) index
    ∙ filled (place % 256) (omega arith)
    ∙ ap (λ p. get_or pattern (p % length pattern) first) back
    ∙ sym (ap (in_block first pattern old place) none)
same_by first pattern blocks old new then block number place b h unmade before filled (inr o) =
    ap (in_block first pattern new place) (get_or-set_other blocks block (place / 256) (Some number) None o)
    ∙ same_other first pattern blocks old new then place (block_of blocks place) b.below before refl

pub make_same : {X : Type 0} (first : X) (pattern : List X) (blocks : List (Option ℕ)) (old : Vec X) (new : List X) (block number place : ℕ) → IsKept blocks old
    → block < length blocks → get_or blocks block None ≡ None → number ≡ vec_len old / 256
    → ((k : ℕ) → k < vec_len old → get_or new k first ≡ get_or old.items k first)
    → ((k : ℕ) → k < 256 → get_or new (vec_len old + k) first ≡ get_or pattern ((block * 256 + k) % length pattern) first)
    → item_in first pattern (set blocks block (Some number)) new place ≡ item_in first pattern blocks old.items place
make_same first pattern blocks old new block number place kept h unmade e before filled =
    same_by first pattern blocks old.items new (vec_len old) block number place (number_then blocks old number kept e) h unmade before filled (cases_eq (place / 256) block)

-- ---- a cell is set

pub set_there : {X : Type 0} (first : X) (pattern : List X) (blocks : List (Option ℕ)) (pool : List X) (place number : ℕ) (value : X)
    → block_of blocks place ≡ Some number → number * 256 + place % 256 < length pool
    → item_in first pattern blocks (set pool (number * 256 + place % 256) value) place ≡ value
set_there first pattern blocks pool place number value e h =
    ap (in_block first pattern (set pool (number * 256 + place % 256) value) place) e ∙ get_or-set_same pool (number * 256 + place % 256) value first h

other_by : {X : Type 0} (first : X) (pattern : List X) (blocks : List (Option ℕ)) (pool : List X) (place number other : ℕ) (value : X) (own : Option ℕ)
    → ((left right k : ℕ) → get_or blocks left None ≡ Some k → get_or blocks right None ≡ Some k → left ≡ right)
    → block_of blocks place ≡ Some number → other ≢ place → block_of blocks other ≡ own
    → in_block first pattern (set pool (number * 256 + place % 256) value) other own ≡ in_block first pattern pool other own
other_by first pattern blocks pool place number other value None apart e o is = refl
other_by first pattern blocks pool place number other value (Some k) apart e o is =
    get_or-set_other pool (number * 256 + place % 256) (k * 256 + other % 256) value first
    (λ same.
    let n : k ≡ number = omega arith in
    let block : other / 256 ≡ place / 256 = apart (other / 256) (place / 256) k is (e ∙ ap Some (sym n)) in
    o (omega arith))

pub set_other : {X : Type 0} (first : X) (pattern : List X) (blocks : List (Option ℕ)) (pool : List X) (place number other : ℕ) (value : X)
    → ((left right k : ℕ) → get_or blocks left None ≡ Some k → get_or blocks right None ≡ Some k → left ≡ right)
    → block_of blocks place ≡ Some number → other ≢ place
    → item_in first pattern blocks (set pool (number * 256 + place % 256) value) other ≡ item_in first pattern blocks pool other
set_other first pattern blocks pool place number other value apart e o =
    other_by first pattern blocks pool place number other value (block_of blocks other) apart e o refl
