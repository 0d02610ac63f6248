-- Pass f: the printed unit.
use Rattle.std.specs.Prelude.{◌≡◌, ℕ, List, [], ◌∷◌, length}
use Rattle.cr_tokens.specs.declared.token.Token.{Token}
use Rattle.cr_tokens.specs.Runs.{spellings}
use Rattle.pass_edit.specs.declared.change.Change.{Change}
use Rattle.pass_edit.specs.declared.change.Text.TheVariants as change_to
use Rattle.pass_edit.specs.declared.form.Kept.{Kept}
use Rattle.pass_edit.specs.Menu.{Offering}
use Rattle.cr_printer.specs.Text.{Prints}

-- all bytes of a file become a kept text
abbrev pub whole_becomes : List ℕ → List ℕ → List Change
whole_becomes file text = record { start = 0; end = length file; text = change_to.Kept 0 (length text) } ∷ []

abbrev pub only_kept : List ℕ → Kept
only_kept text = record { bytes = text; tokens = []; forms = []; runs = [] }

abbrev pub f_offering : List ℕ → List ℕ → Offering
f_offering file text = record { levels = (whole_becomes file text ∷ []) ∷ []; kept = only_kept text }

-- What pass f offers: the file becomes what its tokens print as.
pub record IsPrintedOffering (file : List ℕ) (tokens : List Token) (menu : Offering) : Type 0 where
  pub text : List ℕ
  pub prints : Prints (spellings file tokens) text
  pub is : menu ≡ f_offering file text
