-- How long the parts of a generated program can be.
use Rattle.std.proofs.Common.{◌≡◌, ℕ, zero, suc, ◌+◌, ◌*◌, ◌%◌, ◌<◌, ◌≤◌, List, length, refl, arith, length-append}
use Rattle.std.specs.Fmt.{decimal}
use Rattle.std.specs.List.{flat_map, range_with_len}
use Rattle.std.proofs.lemmas.Fmt.{length-decimal-le}
use Rattle.cr_gen.specs.Program.{next_state, drawn, operator_of, function_text, function_at, state_after, item_text, call_text, generated}

length-pieces : (f : ℕ → List ℕ) (m a n : ℕ) → ((k : ℕ) → k < a + n → length (f k) ≤ m) → length (flat_map f (range_with_len a n)) ≤ n * m
length-pieces f m a zero h = omega arith
length-pieces f m a (suc n) h =
    let here : length (f a) ≤ m = h a (omega arith) in
    let rest : length (flat_map f (range_with_len (a + 1) n)) ≤ n * m = length-pieces f m (a + 1) n (λ k lt. h k (omega arith)) in
    simp length-append (omega (arith, here, rest))

length-decimal4 : (n : ℕ) → n < 10000 → length (decimal n) ≤ 4
length-decimal4 n h = length-decimal-le 4 n (omega arith) (omega arith) (omega arith)

length-decimal1 : (n : ℕ) → n < 10 → length (decimal n) ≤ 1
length-decimal1 n h = length-decimal-le 1 n (omega arith) (omega arith) (omega arith)

length-operator_of : (choice : ℕ) → length (operator_of choice) ≡ 1
length-operator_of zero = refl
length-operator_of (suc zero) = refl
length-operator_of (suc (suc _)) = refl

length-function_text : (item : ℕ) (operator : List ℕ) (constant : ℕ) → item < 10000 → length operator ≡ 1 → constant < 10 → length (function_text item operator constant) ≤ 73
length-function_text item operator constant small one digit =
    let a : length (decimal item) ≤ 4 = length-decimal4 item small in
    let b : length (decimal constant) ≤ 1 = length-decimal1 constant digit in
    simp length-append (omega (arith, a, b, one))

length-function_at : (item x : ℕ) → item < 10000 → length (function_at item x) ≤ 73
length-function_at item x small =
    length-function_text item (operator_of (drawn (next_state x) % 3)) (drawn (next_state (next_state x)) % 9 + 1) small
    (length-operator_of (drawn (next_state x) % 3)) (omega arith)

length-call_text : (item : ℕ) → item < 10000 → length (call_text item) ≤ 16
length-call_text item small =
    let a : length (decimal item) ≤ 4 = length-decimal4 item small in
    simp length-append (omega (arith, a))

-- 102 bytes beside the items, and at most 89 for each
pub length-generated : (number items : ℕ) → items ≤ 10000 → length (generated number items) ≤ 102 + 89 * items
unfolding generated
length-generated number items few =
    let functions : length (flat_map (item_text number) (range_with_len 0 items)) ≤ items * 73 =
    length-pieces (item_text number) 73 0 items (λ k lt. length-function_at k (state_after number (2 * k)) (omega arith)) in
    let calls : length (flat_map call_text (range_with_len 0 items)) ≤ items * 16 =
    length-pieces call_text 16 0 items (λ k lt. length-call_text k (omega arith)) in
    simp length-append (omega (arith, functions, calls))
