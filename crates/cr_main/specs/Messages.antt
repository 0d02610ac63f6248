-- What the program puts on its output where it runs nothing.
use Rattle.std.specs.Prelude.{ℕ, List, codes}

abbrev pub usage_line : List ℕ
usage_line = codes "creduce: usage: creduce [--workers N] [--window N] [--limit N] [--steps N] [--passes LETTERS] TEST FILE\n"
