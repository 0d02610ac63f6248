-- What the blocks show.
use Rattle.std.proofs.Common.{◌≡◌, ◌≢◌, ℕ, zero, suc, ◌+◌, ◌-◌, ◌*◌, ◌/◌, ◌%◌, ◌<◌, ◌≤◌, ◌⊎◌, inl, inr, Option, None, List, [], ◌∷◌, ◌++◌, map, length, get_or, set, take, refl, sym, ap, ◌∙◌, arith, length-append, length-set, get_or-set_other, get_or-set_same}
use Rattle.std.specs.List.{range_with_len}
use Rattle.std.proofs.lemmas.Bool.{cases_eq, cases_lt}
use Rattle.std.proofs.lemmas.List.{append-nil, same_lists, length-map, get_or_append_left, get_or-append_right}
use Rattle.std.proofs.lemmas.List.FromFn.{take-map-range_with_len, length-map-range_with_len, get_or-map-range_with_len}
use Rattle.std.proofs.lemmas.Nat.{mod-mul-add}
use Rattle.cr_sequence.specs.Kept.{repeated, in_block, item_in, items_of}

-- ---- lists by their places

pub same_map : {X : Type 0} (f g : ℕ → X) (n : ℕ) → ((k : ℕ) → k < n → f k ≡ g k) → map f (range_with_len 0 n) ≡ map g (range_with_len 0 n)
same_map f g n h =
    same_lists (map f (range_with_len 0 n)) (map g (range_with_len 0 n)) (length-map-range_with_len f 0 n ∙ sym (length-map-range_with_len g 0 n))
    (λ k d b. let c : k < n = omega (arith, length-map-range_with_len f 0 n) in
    get_or-map-range_with_len f 0 n k k d c (omega arith) ∙ h k c ∙ sym (get_or-map-range_with_len g 0 n k k d c (omega arith)))

set_at : {X : Type 0} (f g : ℕ → X) (n place k : ℕ) (value d : X) → k < n → (k ≡ place) ⊎ (k ≢ place) → f place ≡ value → ((k : ℕ) → k ≢ place → f k ≡ g k)
    → get_or (map f (range_with_len 0 n)) k d ≡ get_or (set (map g (range_with_len 0 n)) place value) k d
set_at f g n place k value d c (inl e) here others =
    get_or-map-range_with_len f 0 n k place d c (omega arith) ∙ here
    ∙ sym (ap (λ i. get_or (set (map g (range_with_len 0 n)) place value) i d) e
    ∙ get_or-set_same (map g (range_with_len 0 n)) place value d (omega (arith, length-map-range_with_len g 0 n)))
set_at f g n place k value d c (inr o) here others =
    get_or-map-range_with_len f 0 n k k d c (omega arith) ∙ others k o
    ∙ sym (get_or-set_other (map g (range_with_len 0 n)) place k value d o ∙ get_or-map-range_with_len g 0 n k k d c (omega arith))

pub set_map : {X : Type 0} (f g : ℕ → X) (n place : ℕ) (value : X) → f place ≡ value → ((k : ℕ) → k ≢ place → f k ≡ g k)
    → map f (range_with_len 0 n) ≡ set (map g (range_with_len 0 n)) place value
set_map f g n place value here others =
    same_lists (map f (range_with_len 0 n)) (set (map g (range_with_len 0 n)) place value)
    (length-map-range_with_len f 0 n ∙ sym (length-set (map g (range_with_len 0 n)) place value ∙ length-map-range_with_len g 0 n))
    (λ k d b. set_at f g n place k value d (omega (arith, length-map-range_with_len f 0 n)) (cases_eq k place) here others)

pub map_map : {X Y Z : Type 0} (f : X → Y) (g : Y → Z) (xs : List X) → map g (map f xs) ≡ map (λ x. g (f x)) xs
map_map f g [] = refl
map_map f g (x ∷ xs) = ap (λ r. g (f x) ∷ r) (map_map f g xs)

-- ---- elements one behind another

pub length-repeated : {X : Type 0} (n : ℕ) (xs : List X) → length (repeated n xs) ≡ n * length xs
length-repeated zero xs = let e : 0 * length xs ≡ 0 = omega arith in sym e
length-repeated (suc n) xs =
    let e : suc n * length xs ≡ length xs + n * length xs = omega arith in
    length-append xs (repeated n xs) ∙ ap (λ k. length xs + k) (length-repeated n xs) ∙ sym e

mod_less : (k n : ℕ) → k < n → k % n ≡ k
mod_less k n h = let e : 0 * n + k ≡ k = omega arith in ap (λ x. x % n) (sym e) ∙ mod-mul-add 0 n k h

mod_more : (k n : ℕ) → 1 ≤ n → (k + n) % n ≡ k % n
mod_more k n h =
    let d : k / n * n + k % n ≡ k = omega arith in
    let low : k % n < n = omega arith in
    let e : (k / n + 1) * n + k % n ≡ k + n = omega arith in
    ap (λ x. x % n) (sym e) ∙ mod-mul-add (k / n + 1) n (k % n) low

at_repeated_by : {X : Type 0} (n : ℕ) (xs : List X) (k : ℕ) (d : X) → 1 ≤ length xs → k < suc n * length xs
    → ((j : ℕ) → j < n * length xs → get_or (repeated n xs) j d ≡ get_or xs (j % length xs) d)
    → (k < length xs) ⊎ (length xs ≤ k) → get_or (xs ++ repeated n xs) k d ≡ get_or xs (k % length xs) d
at_repeated_by n xs k d some h more (inl l) = get_or_append_left xs (repeated n xs) d k l ∙ ap (λ i. get_or xs i d) (sym (mod_less k (length xs) l))
at_repeated_by n xs k d some h more (inr g) =
    let e : suc n * length xs ≡ length xs + n * length xs = omega arith in
    let back : k - length xs + length xs ≡ k = omega arith in
    get_or-append_right xs (repeated n xs) (length xs) k d refl g
    ∙ more (k - length xs) (omega arith)
    ∙ ap (λ i. get_or xs i d) (sym (mod_more (k - length xs) (length xs) some) ∙ ap (λ i. i % length xs) back)

pub at_repeated : {X : Type 0} (n : ℕ) (xs : List X) (k : ℕ) (d : X) → 1 ≤ length xs → k < n * length xs → get_or (repeated n xs) k d ≡ get_or xs (k % length xs) d
at_repeated zero xs k d some h = absurd (omega arith)
at_repeated (suc n) xs k d some h = at_repeated_by n xs k d some h (λ j b. at_repeated n xs j d some b) (cases_lt k (length xs))

-- ---- what is shown

pub new_shown : {X : Type 0} (first : X) (pattern : List X) (blocks : List (Option ℕ)) (pool : List X) (times : ℕ) → 0 < length pattern
    → ((block : ℕ) → get_or blocks block None ≡ None) → items_of (times * length pattern) first pattern blocks pool ≡ repeated times pattern
new_shown first pattern blocks pool times some none =
    let count = times * length pattern in
    let size = length-map-range_with_len (item_in first pattern blocks pool) 0 count in
    same_lists (items_of count first pattern blocks pool) (repeated times pattern) (size ∙ sym (length-repeated times pattern))
    (λ k d b. let c : k < count = omega arith in
    get_or-map-range_with_len (item_in first pattern blocks pool) 0 count k k d c (omega arith)
    ∙ ap (in_block first pattern pool k) (none (k / 256))
    ∙ same_default pattern (k % length pattern) first d (omega arith)
    ∙ sym (at_repeated times pattern k d some c))
  where
    same_default : {X : Type 0} (xs : List X) (k : ℕ) (d e : X) → k < length xs → get_or xs k d ≡ get_or xs k e
    same_default [] k d e h = absurd (omega arith)
    same_default (x ∷ xs) zero d e h = refl
    same_default (x ∷ xs) (suc k) d e h = same_default xs k d e (omega arith)

pub length-shown : {X : Type 0} (count : ℕ) (first : X) (pattern : List X) (blocks : List (Option ℕ)) (pool : List X) → length (items_of count first pattern blocks pool) ≡ count
length-shown count first pattern blocks pool = length-map-range_with_len (item_in first pattern blocks pool) 0 count

pub set_shown : {X : Type 0} (count : ℕ) (first : X) (pattern : List X) (blocks then : List (Option ℕ)) (pool left : List X) (place : ℕ) (value : X)
    → item_in first pattern then left place ≡ value
    → ((other : ℕ) → other ≢ place → item_in first pattern then left other ≡ item_in first pattern blocks pool other)
    → items_of count first pattern then left ≡ set (items_of count first pattern blocks pool) place value
set_shown count first pattern blocks then pool left place value there others =
    set_map (item_in first pattern then left) (item_in first pattern blocks pool) count place value there others

pub take_shown : {X : Type 0} (count : ℕ) (first : X) (pattern : List X) (blocks : List (Option ℕ)) (pool : List X) (end : ℕ) → end ≤ count
    → items_of end first pattern blocks pool ≡ take end (items_of count first pattern blocks pool)
take_shown count first pattern blocks pool end h = sym (take-map-range_with_len (item_in first pattern blocks pool) 0 count end h)

-- one item alone is the pattern
pub fill_shown : {X : Type 0} (count : ℕ) (value : X) (pattern : List X) (blocks : List (Option ℕ)) (pool : List X) (old : List X) → length old ≡ count → pattern ≡ value ∷ []
    → ((block : ℕ) → get_or blocks block None ≡ None) → items_of count value pattern blocks pool ≡ map (λ _. value) old
fill_shown {X = X} count value pattern blocks pool old e one none =
    let size = length-map-range_with_len (item_in value pattern blocks pool) 0 count in
    let f : X → X = λ _. value in
    same_lists (items_of count value pattern blocks pool) (map f old) (size ∙ sym (length-map old f ∙ e))
    (λ k d b. let c : k < count = omega arith in
    get_or-map-range_with_len (item_in value pattern blocks pool) 0 count k k d c (omega arith)
    ∙ ap (in_block value pattern pool k) (none (k / 256))
    ∙ ap (λ p. get_or p (k % length p) value) one
    ∙ always value (k % 1)
    ∙ sym (same_everywhere value old k d (omega arith)))
  where
    always : {X : Type 0} (value : X) (k : ℕ) → get_or (value ∷ []) k value ≡ value
    always value zero = refl
    always value (suc k) = none_there value k
      where
        none_there : {X : Type 0} (value : X) (k : ℕ) → get_or [] k value ≡ value
        none_there value zero = refl
        none_there value (suc k) = refl

    same_everywhere : {X : Type 0} (value : X) (xs : List X) (k : ℕ) (d : X) → k < length xs → get_or (map (λ _. value) xs) k d ≡ value
    same_everywhere value [] k d h = absurd (omega arith)
    same_everywhere value (x ∷ xs) zero d h = refl
    same_everywhere value (x ∷ xs) (suc k) d h = same_everywhere value xs k d (omega arith)

joined : {X : Type 0} (a b c : List X) → (a ++ b) ++ c ≡ a ++ (b ++ c)
joined [] b c = refl
joined (x ∷ a) b c = ap (λ r. x ∷ r) (joined a b c)

-- once more at the end
pub repeated_more : {X : Type 0} (n : ℕ) (xs : List X) → repeated n xs ++ xs ≡ repeated (n + 1) xs
repeated_more zero xs = sym (append-nil xs)
repeated_more (suc n) xs =
    let next : suc (n + 1) ≡ suc n + 1 = omega arith in
    joined xs (repeated n xs) xs ∙ ap (λ r. xs ++ r) (repeated_more n xs) ∙ ap (λ k. repeated k xs) next
