-- Laws of printing.
use Rattle.std.specs.Prelude.{◌≡◌, ◌↔◌, ℕ, ◌+◌, ◌≤◌, List, length, slice_range, All}
use Rattle.cr_tokens.specs.declared.token.Token.{Token}
use Rattle.cr_tokens.specs.Tokens.{Tokenizes, IsToken}
use Rattle.cr_tokens.specs.Runs.{spellings}
use Rattle.cr_tokens.specs.Places.{StaysApart}
use Rattle.cr_syntax.specs.declared.word.Word.TheVariants as word
use Rattle.cr_syntax.specs.Words.{Lexeme, lexemes_of}
use Rattle.cr_syntax.specs.Trees.{Trees}
use Rattle.cr_syntax.specs.Spells.{Limit, Is}
use Rattle.cr_syntax.specs.Units.{IsUnit, IsTreeOf}
use Rattle.pass_edit.specs.Forms.{joined}
use Rattle.cr_printer.specs.Text.{Prints}
use Rattle.cr_printer.specs.Pieces.{Piece, IsOneToken, HasThreeDots, pieces_of, spellings_of}

-- a list prints as one text at most
abbrev pub PrintsOneText : Type 0
PrintsOneText = (spellings : List (List ℕ)) (text other : List ℕ) → Prints spellings text → Prints spellings other → text ≡ other

-- tokens joined as pass i joins them are what they print as: neither has a space that the other has not
abbrev pub JoinedIsPrinted : Type 0
JoinedIsPrinted = (pieces : List Piece) (text : List ℕ) → All IsOneToken pieces → length (joined (spellings_of pieces)) ≤ 1048576 →
    Prints (spellings_of pieces) text ↔ (text ≡ joined (spellings_of pieces))

-- the text has tokens, and they are these pieces
abbrev pub IsReadAs : List ℕ → List Piece → Type 0
IsReadAs text pieces = (tokens : List Token) × Tokenizes text tokens × (pieces_of text tokens ≡ pieces)

-- reading what a list of tokens prints as gives the list, for all tokens wherever they come from
abbrev pub PrintedIsRead : Type 0
PrintedIsRead = (pieces : List Piece) (text : List ℕ) → All IsOneToken pieces → ¬ HasThreeDots (spellings_of pieces) →
    Prints (spellings_of pieces) text → length text ≤ 1048576 → length pieces ≤ 262144 → IsReadAs text pieces

-- and where three dots stand in a row it doesn't
abbrev pub ThreeDotsAreLost : Type 0
ThreeDotsAreLost = (pieces : List Piece) (text : List ℕ) → HasThreeDots (spellings_of pieces) → Prints (spellings_of pieces) text →
    ¬ IsReadAs text pieces

-- tokens that stand side by side in a file stay apart, so printing parts none of them
abbrev pub NeighboursStayApart : Type 0
NeighboursStayApart = (file : List ℕ) (t u : Token) → length file ≤ 1048576 → IsToken file t → IsToken file u → t.end ≡ u.start →
    StaysApart (slice_range file t.start t.end) (slice_range file u.start u.end)

-- what tokens of a file in a row print as is no longer than the file
abbrev pub PrintedIsNoLonger : Type 0
PrintedIsNoLonger = (file : List ℕ) (tokens : List Token) (from to : ℕ) (text : List ℕ) → Tokenizes file tokens →
    Prints (spellings file (slice_range tokens from to)) text → length text ≤ length file

-- in a unit each dot has an identifier behind it
abbrev pub DotsHaveNames : Type 0
DotsHaveNames = (limit : Limit) (ts : List Lexeme) (t : Trees) → IsUnit limit ts t → (k : ℕ) → Is ts k word.Dot → Is ts (k + 1) word.Identifier

-- reading what tokens of a unit in a row print as gives these tokens
abbrev pub PrintedPartIsRead : Type 0
PrintedPartIsRead = (file : List ℕ) (tokens : List Token) (t : Trees) (from to : ℕ) (text : List ℕ) → Tokenizes file tokens →
    IsTreeOf (lexemes_of file tokens) t → Prints (spellings file (slice_range tokens from to)) text →
    IsReadAs text (pieces_of file (slice_range tokens from to))

-- reading what a unit prints as gives tokens of the same kinds and spellings, and they are a unit with the same tree
abbrev pub PrintedIsUnit : Type 0
PrintedIsUnit = (file : List ℕ) (tokens : List Token) (t : Trees) (text : List ℕ) → Tokenizes file tokens →
    IsTreeOf (lexemes_of file tokens) t → Prints (spellings file tokens) text →
    (others : List Token) × Tokenizes text others × (pieces_of text others ≡ pieces_of file tokens) × IsTreeOf (lexemes_of text others) t
