-- The generated program: a text in the C subset, made from a number and a count of items.
use Rattle.std.specs.Prelude.{ℕ, zero, suc, ◌+◌, ◌*◌, ◌/◌, ◌%◌, ◌^◌, List, ◌++◌, codes}
use Rattle.std.specs.List.{flat_map, range_with_len}
use Rattle.std.specs.Fmt.{decimal}

-- the linear congruence, and what a draw gives of the state that it leaves
abbrev pub next_state : ℕ → ℕ
next_state x = (x * 1103515245 + 12345) % 2 ^ 31

abbrev pub drawn : ℕ → ℕ
drawn x = x / 65536

-- the state after some draws, which begins as the number
unfoldable pub state_after : ℕ → ℕ → ℕ
state_after number zero = number
state_after number (suc draws) = next_state (state_after number draws)

-- the operator of C by a draw modulo 3
abbrev pub operator_of : ℕ → List ℕ
operator_of zero = codes "+"
operator_of (suc zero) = codes "*"
operator_of (suc (suc _)) = codes "^"

-- the function of one item, which applies an operator and a constant once
abbrev pub function_text : ℕ → List ℕ → ℕ → List ℕ
function_text item operator constant =
    codes "static unsigned f" ++ decimal item ++ codes "(unsigned a)\n{\n  unsigned b = a "
    ++ operator ++ codes " " ++ decimal constant ++ codes "u;\n  return b;\n}\n"

-- the function of an item that is reached in state x: the first draw gives the operator, the second
-- the constant, 1 to 9
abbrev pub function_at : ℕ → ℕ → List ℕ
function_at item x =
    function_text item (operator_of (drawn (next_state x) % 3)) (drawn (next_state (next_state x)) % 9 + 1)

-- each item makes two draws, so item j is reached after 2 * j
abbrev pub item_text : ℕ → ℕ → List ℕ
item_text number j = function_at j (state_after number (2 * j))

-- the call of one item in main
abbrev pub call_text : ℕ → List ℕ
call_text item = codes "  s = f" ++ decimal item ++ codes "(s);\n"

-- the program: the prototype, a function for each item from 0 on, and main, which calls them in order
unfoldable pub generated : ℕ → ℕ → List ℕ
generated number items =
    codes "int printf(const char *, ...);\n"
    ++ flat_map (item_text number) (range_with_len 0 items)
    ++ codes "int main(void)\n{\n  unsigned s = 1u;\n"
    ++ flat_map call_text (range_with_len 0 items)
    ++ codes "  printf(\"%u\\n\", s);\n  return 0;\n}\n"
