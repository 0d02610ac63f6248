-- The clauses of a `for` (6.8.5.3): each is there where the next part begins at its first token.
use Rattle.std.specs.Prelude.{◌≡◌, ℕ, ◌+◌, ◌==◌, ◌⊎◌, true, List, [], ◌∷◌, ◌++◌, Option, None, Some, drop, slice_get, option_to_list, if◌then◌else◌}
use Rattle.cr_syntax.specs.declared.word.Word.{Word}
use Rattle.cr_syntax.specs.declared.word.Word.TheVariants as word
use Rattle.cr_syntax.specs.declared.node.Kind.{Kind}
use Rattle.cr_syntax.specs.declared.node.Kind.TheVariants as kind
use Rattle.cr_syntax.specs.declared.node.Node.{Node}
use Rattle.cr_syntax.specs.declared.part.Part.{Part}
use Rattle.cr_syntax.specs.declared.part.Part.TheVariants as part
use Rattle.cr_syntax.specs.Words.{Lexeme}
use Rattle.cr_syntax.specs.Spells.{Is}
use Rattle.cr_syntax_nodes.specs.declared.clauses.Clause.{Clause}
use Rattle.cr_syntax_nodes.specs.declared.clauses.Clauses.{Clauses}
use Rattle.cr_syntax_nodes.specs.Nodes.{OfEachNode}
use Rattle.cr_syntax_nodes.specs.Laid.{stands_for}

-- a clause that is left out, and what ends it at token i
abbrev pub absent : ℕ → Clause
absent i = record { node = None; next = i + 1 }

-- the token behind a clause with this last token: a declaration has its `;`, which stands behind an expression
abbrev pub behind_clause : Kind → ℕ → ℕ
behind_clause kind.Declaration last = last + 1
behind_clause _ last = last + 1 + 1

abbrev pub clause_by : ℕ → Node → ℕ → Clause
clause_by p n i = if n.first == i then (record { node = Some p; next = behind_clause n.kind n.last }) else absent i

abbrev pub clause_if : Option Node → ℕ → ℕ → Clause
clause_if None p i = absent i
clause_if (Some n) p i = clause_by p n i

-- the clause at token i, where these parts come next
abbrev pub clause_of : List Node → List ℕ → ℕ → Clause
clause_of nodes [] i = absent i
clause_of nodes (p ∷ ps) i = clause_if (slice_get nodes p) p i

-- the parts behind it
abbrev pub left_by : Option ℕ → List ℕ → List ℕ
left_by None ps = ps
left_by (Some p) ps = drop 1 ps

abbrev pub left_of : Clause → List ℕ → List ℕ
left_of c ps = left_by c.node ps

abbrev pub with_test : List Node → Option ℕ → Clause → List ℕ → Clauses
with_test nodes first test ps = record { first = first; test = test.node; step = (clause_of nodes (left_of test ps) test.next).node }

abbrev pub with_first : List Node → Clause → List ℕ → Clauses
with_first nodes first ps = with_test nodes first.node (clause_of nodes (left_of first ps) first.next) (left_of first ps)

-- the clauses of a `for`, whose first one begins behind `for` and `(`
abbrev pub clauses_of : List Node → Node → Clauses
clauses_of nodes n = with_first nodes (clause_of nodes n.parts (n.first + 1 + 1)) n.parts

-- node p is there, begins at token i, and stands for the part
pub record IsPartAt (nodes : List Node) (p : Part) (i number : ℕ) (n : Node) : Type 0 where
  pub at : slice_get nodes number ≡ Some n
  pub stands : stands_for p n.kind ≡ true
  pub first : n.first ≡ i

-- from token i to before token j stand an expression or none, and the word that ends the clause
abbrev pub IsClauseAt : List Lexeme → List Node → Word → Option ℕ → ℕ → ℕ → Type 0
IsClauseAt ts nodes w None i j = Is ts i w × (j ≡ i + 1)
IsClauseAt ts nodes w (Some p) i j = (n : Node) × (IsPartAt nodes part.Expression i p n × (Is ts (n.last + 1) w × (j ≡ n.last + 1 + 1)))

-- or a declaration with its own `;`
abbrev pub IsFirstClauseAt : List Lexeme → List Node → Option ℕ → ℕ → ℕ → Type 0
IsFirstClauseAt ts nodes None i j = Is ts i word.Semicolon × (j ≡ i + 1)
IsFirstClauseAt ts nodes (Some p) i j = (n : Node) × (
    (IsPartAt nodes part.Declaration i p n × (j ≡ n.last + 1))
    ⊎ (IsPartAt nodes part.Expression i p n × (Is ts (n.last + 1) word.Semicolon × (j ≡ n.last + 1 + 1))))

-- these are a loop's clauses, in the order of its text, and a statement is its body
pub record IsLoop (ts : List Lexeme) (nodes : List Node) (loop : Node) (clauses : Clauses) : Type 0 where
  pub test_at : ℕ
  pub step_at : ℕ
  pub body_at : ℕ
  pub number : ℕ
  pub body : Node
  pub first : IsFirstClauseAt ts nodes clauses.first (loop.first + 1 + 1) test_at
  pub test : IsClauseAt ts nodes word.Semicolon clauses.test test_at step_at
  pub step : IsClauseAt ts nodes word.RightParen clauses.step step_at body_at
  pub is_body : IsPartAt nodes part.Statement body_at number body
  pub row : loop.parts ≡ option_to_list clauses.first ++ (option_to_list clauses.test ++ (option_to_list clauses.step ++ number ∷ []))

-- each `for` has these clauses
abbrev pub LoopsHaveClauses : Type 0
LoopsHaveClauses = OfEachNode (λ ts limit nodes n. n.kind ≡ kind.For → IsLoop ts nodes n (clauses_of nodes n))
