-- Parts of the machine's programs, as the parser's functions begin in them.
use Rattle.std.specs.Prelude.{◌≡◌, ℕ, ◌+◌, true, false, List, if◌then◌else◌}
use Rattle.cr_syntax.specs.declared.word.Word.TheVariants as word
use Rattle.cr_syntax.specs.declared.node.Kind.TheVariants as kind
use Rattle.cr_syntax.specs.Words.{Lexeme}
use Rattle.cr_syntax.specs.declared.part.Context.{Context}
use Rattle.cr_syntax.specs.Context.{past_part}
use Rattle.cr_syntax.specs.Scopes.{Scopes, enter}
use Rattle.cr_syntax.specs.Trees.{Trees, none, ◌&◌}
use Rattle.cr_syntax_machine.specs.Machine.{Prog, brought, around, passes, reopens, call, expect, made, expression, conditional}
use Rattle.cr_syntax_machine.specs.Machine as m
use Rattle.cr_syntax_machine.specs.MachineBody.{may_omit, declarator_start, is_declarator}
use Rattle.cr_syntax.specs.declared.part.Part.{Part}
use Rattle.cr_syntax.specs.declared.part.Part.TheVariants as part
use Rattle.cr_exprs_descent.specs.declared.goal.Goal.{Goal}
use Rattle.cr_exprs_descent.specs.declared.goal.Goal.TheVariants.{Expression, Assignment, Conditional}
use Rattle.cr_exprs_descent.specs.declared.declarators.Wanted.{Wanted}
use Rattle.cr_exprs_descent.specs.declared.declarators.Wanted.TheVariants.{Named, Unnamed, Either}

-- behind the `?` of a conditional whose test is read
abbrev pub chosen : ℕ → ℕ → Trees → Prog
chosen d s a = call (expression (d + 1)) (λ b. expect reopens word.Colon d (call (conditional (d + 1)) (λ c. made kind.Conditional s (a & b & c & none))))

abbrev pub wanted_of : Wanted → m.Wanted
wanted_of Named = m.named
wanted_of Unnamed = m.unnamed
wanted_of Either = m.either

-- a `*` points to nothing that is spelled, and to something
pub record EndsPointer (ts : List Lexeme) (w : m.Wanted) (i : ℕ) : Type 0 where
  pub omits : may_omit w ≡ true
  pub other : (c : Scopes) → passes ts c i (declarator_start w) ≡ false

pub record PointsOn (ts : List Lexeme) (w : m.Wanted) (i : ℕ) : Type 0 where
  pub starts : may_omit w ≡ true → (c : Scopes) → passes ts c i (declarator_start w) ≡ true

-- the scopes behind a declarator a, where token i stands: its name enters, and its own scope ends
abbrev pub declared : List Lexeme → ℕ → Context → Trees → Scopes → Scopes
declared ts i h a c = enter (brought ts i (past_part h a).name (past_part h a).type_name) (around c)

-- the same behind a parameter's declarator, which may have no name
abbrev pub entered : List Lexeme → ℕ → Context → Trees → Scopes → Scopes
entered ts i h a c = if is_declarator a then declared ts i h a c else c

-- the part of the grammar that is to be read
abbrev pub part_of : Goal → Part
part_of Expression = part.Expression
part_of Assignment = part.Assignment
part_of Conditional = part.Conditional
