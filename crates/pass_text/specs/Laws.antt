-- Laws of the passes that need no tree.
use Rattle.std.specs.Prelude.{◌≡◌, ℕ, ◌≤◌, List, [], ◌∷◌, length}
use Rattle.cr_cursor.specs.declared.passes.Cursor.{Cursor}
use Rattle.cr_tokens.specs.declared.token.Token.{Token}
use Rattle.cr_tokens.specs.Tokens.{Tokenizes}
use Rattle.pass_edit.specs.declared.form.Kept.{Kept}
use Rattle.pass_edit.specs.Edit.{edited}
use Rattle.pass_edit.specs.Menu.{Offering, level_of}
use Rattle.pass_text.specs.Brackets.{IsBracketOffering}
use Rattle.pass_text.specs.Lines.{lines_bytes, lines_gone}

-- a variant of the lines pass is an edit, of one change
abbrev pub LinesGoByAChange : Type 0
LinesGoByAChange = (file : List ℕ) (kept : Kept) (at : Cursor) → edited file kept (lines_gone file at ∷ []) ≡ lines_bytes file at

-- tokens have one offering of brackets
abbrev pub HasOneBracketOffering : Type 0
HasOneBracketOffering = (file : List ℕ) (tokens : List Token) (menu other : Offering)
    → IsBracketOffering file tokens menu → IsBracketOffering file tokens other → menu ≡ other

-- a level of it has no more edits than the file has bytes
abbrev pub HasFewBrackets : Type 0
HasFewBrackets = (file : List ℕ) (tokens : List Token) (menu : Offering) (level : ℕ)
    → Tokenizes file tokens → IsBracketOffering file tokens menu → length (level_of menu level) ≤ length file
