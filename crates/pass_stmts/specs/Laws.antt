-- Laws of the printed unit.
use Rattle.std.specs.Prelude.{◌≡◌, ℕ, List}
use Rattle.cr_tokens.specs.declared.token.Token.{Token}
use Rattle.pass_edit.specs.Edit.{edited}
use Rattle.pass_edit.specs.Menu.{Offering}
use Rattle.pass_stmts.specs.Printed.{IsPrintedOffering, only_kept, whole_becomes}

-- the variant is the kept text
abbrev pub TheTextIsTheVariant : Type 0
TheTextIsTheVariant = (file text : List ℕ) → edited file (only_kept text) (whole_becomes file text) ≡ text

-- tokens have one printed unit
abbrev pub HasOnePrintedOffering : Type 0
HasOnePrintedOffering = (file : List ℕ) (tokens : List Token) (menu other : Offering)
    → IsPrintedOffering file tokens menu → IsPrintedOffering file tokens other → menu ≡ other
