-- Formulas, and the words that spell them.
use Rattle.std.specs.Prelude.{◌≡◌, ℕ, ◌+◌, ◌≤◌, ◌++◌, max, List, [], ◌∷◌, codes, decimal, slice_index}
use Rattle.cr_tokens.specs.declared.token.Token.{Token}
use Rattle.cr_tokens.specs.Tokens.{Tokenizes}
use Rattle.cr_tokens.specs.Runs.{spellings}
use Rattle.cr_check_constants.specs.Literals.{inside_of}
use Rattle.cr_check_literals.specs.Characters.{bytes_of}
use Rattle.cr_outside.specs.HasText.{IsText}
use Rattle.cr_formula.specs.declared.formula.Formula.{Formula}
use Rattle.cr_formula.specs.declared.formula.Formula.TheVariants as formula
use Rattle.cr_formula.specs.declared.words.Head.{Head}
use Rattle.cr_formula.specs.declared.words.Head.TheVariants as head

-- a formula, with the bytes of its texts and the numbers of its statuses
pub data Form : Type 0 where
  has : List ℕ → Form
  prints : List ℕ → Form
  ends : ℕ → Form
  same : Form
  both : Form → Form → Form
  either : Form → Form → Form
  negated : Form → Form

-- the formula of the program's value
abbrev pub form_of : Formula → Form
form_of (formula.Has text) = has text
form_of (formula.Prints text) = prints text.items
form_of (formula.Ends status) = ends status
form_of formula.Same = same
form_of (formula.And' p left q right) = both (form_of left) (form_of right)
form_of (formula.Or' p left q right) = either (form_of left) (form_of right)
form_of (formula.Not' p one) = negated (form_of one)

-- how deep formulas stand in one another
abbrev pub nesting_of : Form → ℕ
nesting_of (both left right) = max (nesting_of left) (nesting_of right) + 1
nesting_of (either left right) = max (nesting_of left) (nesting_of right) + 1
nesting_of (negated one) = nesting_of one + 1
nesting_of f = 1

-- ---- how they are spelled

-- a string literal with these bytes; a token that begins with a quotation mark is one (C11 6.4.5)
abbrev pub IsLiteralOf : List ℕ → List ℕ → Type 0
IsLiteralOf text literal = (slice_index literal 0 ≡ 34) × (text ≡ bytes_of (inside_of literal))

-- The words begin with the formula, and the rest follows. A status is 0 or a decimal constant of at most 255 without suffix (6.4.4.1), and a
-- text that a file may have is one with a token.
abbrev pub Reads : Form → List (List ℕ) → List (List ℕ) → Type 0
Reads (has text) words rest =
    (literal : List ℕ) × IsLiteralOf text literal × IsText text × (words ≡ codes "has" ∷ codes "(" ∷ literal ∷ codes ")" ∷ rest)
Reads (prints text) words rest = (literal : List ℕ) × IsLiteralOf text literal × (words ≡ codes "prints" ∷ codes "(" ∷ literal ∷ codes ")" ∷ rest)
Reads (ends status) words rest = (status ≤ 255) × (words ≡ codes "ends" ∷ codes "(" ∷ decimal status ∷ codes ")" ∷ rest)
Reads same words rest = words ≡ codes "same" ∷ rest
Reads (both left right) words rest =
    (first second : List (List ℕ)) × (words ≡ codes "and" ∷ codes "(" ∷ first) × Reads left first (codes "," ∷ second) × Reads right second (codes ")" ∷ rest)
Reads (either left right) words rest =
    (first second : List (List ℕ)) × (words ≡ codes "or" ∷ codes "(" ∷ first) × Reads left first (codes "," ∷ second) × Reads right second (codes ")" ∷ rest)
Reads (negated one) words rest = (first : List (List ℕ)) × (words ≡ codes "not" ∷ codes "(" ∷ first) × Reads one first (codes ")" ∷ rest)

-- the text's tokens are those of the formula, whose nesting is at most 64
pub record TextSpells (text : List ℕ) (form : Form) : Type 0 where
  pub tokens : List Token
  pub tokenizes : Tokenizes text tokens
  pub reads : Reads form (spellings text tokens) []
  pub shallow : nesting_of form ≤ 64

-- `if:`, and a text of the formula
abbrev pub Spells : List ℕ → Form → Type 0
Spells word form = (text : List ℕ) × (word ≡ codes "if:" ++ text) × TextSpells text form

-- ---- the same by parts

abbrev pub name_of : Head → List ℕ
name_of head.Has = codes "has"
name_of head.Prints = codes "prints"
name_of head.Ends = codes "ends"
name_of head.Same = codes "same"
name_of head.And = codes "and"
name_of head.Or = codes "or"
name_of head.Not = codes "not"

-- a text in brackets at the front, and the rest
abbrev pub Quotes : List ℕ → List (List ℕ) → List (List ℕ) → Type 0
Quotes text words rest = (literal : List ℕ) × IsLiteralOf text literal × (words ≡ codes "(" ∷ literal ∷ codes ")" ∷ rest)

-- two formulas in brackets at the front, and the rest
abbrev pub ReadsTwo : Form → Form → List (List ℕ) → List (List ℕ) → Type 0
ReadsTwo left right words rest =
    (first second : List (List ℕ)) × (words ≡ codes "(" ∷ first) × Reads left first (codes "," ∷ second) × Reads right second (codes ")" ∷ rest)

-- no formula of this depth begins the words; no two in brackets do
abbrev pub NoFormula : List (List ℕ) → ℕ → Type 0
NoFormula words depth = (f : Form) (rest : List (List ℕ)) → Reads f words rest → nesting_of f ≤ depth → ⊥

abbrev pub NoTwo : List (List ℕ) → ℕ → Type 0
NoTwo words depth = (f g : Form) (rest : List (List ℕ)) → ReadsTwo f g words rest → nesting_of f ≤ depth → nesting_of g ≤ depth → ⊥

-- the word is no status in decimal
abbrev pub SpellsNoStatus : List ℕ → Type 0
SpellsNoStatus word = (status : ℕ) → status ≤ 255 → word ≡ decimal status → ⊥
