-- The passes by their numbers.
use Rattle.std.specs.Prelude.{ℕ, ◌==◌, if◌then◌else◌}
use Rattle.pass_list.specs.declared.pass.Pass.{Pass}
use Rattle.pass_list.specs.declared.pass.Pass.TheVariants.{Brackets, Expressions, Inlined, Lines, NotThere, Output, Parameters, Printed, Renamed, Runs, Statements, Unused, Values}

abbrev pub pass_by : ℕ → Pass
pass_by number = if number == 0 then Lines
    else if number == 1 then Runs
    else if number == 2 then Brackets
    else if number == 3 then Unused
    else if number == 4 then Statements
    else if number == 5 then Expressions
    else if number == 6 then Inlined
    else if number == 7 then Parameters
    else if number == 8 then Renamed
    else if number == 9 then Printed
    else if number == 10 then Values
    else if number == 11 then Output
    else NotThere

-- how many levels a pass has
abbrev pub levels_of : Pass → ℕ
levels_of Lines = 15
levels_of Runs = 5
levels_of Brackets = 3
levels_of Unused = 4
levels_of Statements = 6
levels_of Expressions = 4
levels_of Inlined = 2
levels_of Parameters = 1
levels_of Renamed = 1
levels_of Printed = 1
levels_of Values = 3
levels_of Output = 3
levels_of NotThere = 0
