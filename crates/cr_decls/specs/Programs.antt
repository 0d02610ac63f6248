-- Parts of the machine's programs, as the parser's functions begin in them.
use Rattle.std.specs.Prelude.{ℕ, ◌+◌, Bool, false, ◌&&◌, List, Option, None, Some}
use Rattle.cr_syntax.specs.declared.word.Word.TheVariants as word
use Rattle.cr_syntax.specs.declared.node.Kind.TheVariants as kind
use Rattle.cr_syntax.specs.declared.node.Node.{Node}
use Rattle.cr_syntax.specs.Words.{Lexeme}
use Rattle.cr_syntax.specs.Reads.{is_word}
use Rattle.cr_syntax.specs.Trees.{Trees, none, ◌&◌}
use Rattle.cr_syntax_machine.specs.Machine as m
use Rattle.cr_syntax_machine.specs.Machine.{Prog, plain, opens, reopens, the, type_identifier, give, stop, refuse, take, peek, when, call, expect, made, begins, expression, conditional, declaration, statement, compound, if_rest, switch_rest, while_rest, do_rest, for_rest, return_rest, clause}
use Rattle.cr_syntax_machine.specs.MachineBody as programs
use Rattle.cr_syntax_machine.specs.MachineBody.{declaration_start, may_mark, expression_rest}
use Rattle.cr_exprs_descent.specs.Answers.{tree}
use Rattle.cr_decls.specs.declared.labels.Labels.{Labels}
use Rattle.cr_decls.specs.declared.labels.Labels.TheVariants.{OwnBlock, InBlock, Nowhere}

abbrev pub labels_of : Labels → m.Labels
labels_of OwnBlock = m.own_block
labels_of InBlock = m.in_block
labels_of Nowhere = m.nowhere

-- an identifier directly before a colon: a label, where a statement begins
abbrev pub is_marked : List Lexeme → ℕ → Bool
is_marked ts i = is_word ts i word.Identifier && is_word ts (i + 1) word.Colon

-- behind such an identifier, token s
abbrev pub label_rest : m.Labels → ℕ → ℕ → Prog
label_rest l d s = when (may_mark l) (expect opens word.Colon d (call (statement l (d + 1)) (λ b. made kind.Label s (b & none)))) (refuse s 9)

-- behind `case` and behind `default`, where they may stand
abbrev pub case_rest : ℕ → ℕ → Prog
case_rest d s = call (conditional d) (λ a. expect opens word.Colon d (call (statement m.own_block (d + 1)) (λ b. made kind.Case s (a & b & none))))

abbrev pub default_rest : ℕ → ℕ → Prog
default_rest d s = expect opens word.Colon d (call (statement m.own_block (d + 1)) (λ b. made kind.Default s (b & none)))

-- behind `goto`
abbrev pub goto_rest : ℕ → ℕ → Prog
goto_rest d s = expect plain word.Identifier d (expect plain word.Semicolon d (made kind.Goto s none))

-- Statements that no identifier labels.

-- An expression. A typedef name begins none, and labels nothing here.
abbrev pub expression_statement : ℕ → ℕ → Prog
expression_statement d s = take plain (type_identifier false) d (stop d) (call (expression d) (λ a. expression_rest d s a))

-- one without another one in it
abbrev pub simple : ℕ → ℕ → Prog
simple d s =
    take plain (the word.Goto) d (goto_rest d s)
    (take plain (the word.Break) d (expect plain word.Semicolon d (made kind.Break s none))
    (take plain (the word.Continue) d (expect plain word.Semicolon d (made kind.Continue s none))
    (take plain (the word.Return) d (call (return_rest d s) give)
    (take plain (the word.Semicolon) d (made kind.ExpressionStatement s none)
    (expression_statement d s)))))

-- one that `case` and `default` don't label either
abbrev pub unlabelled : ℕ → ℕ → Prog
unlabelled d s =
    peek (the word.LeftBrace) (call (compound m.in_block d) give)
    (take plain (the word.If) d (call (if_rest m.nowhere d s) give)
    (take plain (the word.Switch) d (call (switch_rest m.nowhere d s) give)
    (take plain (the word.While) d (call (while_rest m.nowhere d s) give)
    (take opens (the word.Do) d (call (do_rest m.nowhere d s) give)
    (take plain (the word.For) d (call (for_rest m.nowhere d s) give)
    (simple d s))))))

-- one that they may label
abbrev pub labelled : ℕ → ℕ → Prog
labelled d s = programs.labelled m.own_block d s (unlabelled d s)

-- a controlling expression in its brackets, at the beginning of a scope, and in those of a `do`; then what goes on with it
abbrev pub controlling : ℕ → (Trees → Prog) → Prog
controlling d f = begins (expect opens word.LeftParen d (call (expression (d + 1)) (λ a. expect reopens word.RightParen d (f a))))

abbrev pub repeated : ℕ → (Trees → Prog) → Prog
repeated d f = expect opens word.LeftParen d (call (expression (d + 1)) (λ a. expect plain word.RightParen (d + 1) (expect plain word.Semicolon d (f a))))

-- the first clause of a `for`, and the last one with its `)`: without an expression p goes on, and with one f
abbrev pub first_clause : ℕ → (Trees → Prog) → Prog
first_clause d f = peek declaration_start (call (declaration (d + 1)) (λ t. f (t & none))) (call (clause (d + 1)) f)

abbrev pub last_clause : ℕ → Prog → (Trees → Prog) → Prog
last_clause d p f = take reopens (the word.RightParen) d p (call (expression (d + 1)) (λ t. expect reopens word.RightParen d (f t)))

abbrev pub with_step : Prog → (Trees → Prog) → List Node → Option ℕ → Prog
with_step p f nodes None = p
with_step p f nodes (Some n) = f (tree nodes n)
