-- What the passes offer for a file.
use Rattle.std.specs.Prelude.{◌≡◌, ◌<◌, ℕ, Bool, true, false, List, [], Option, Some, None, length, slice_index_or, ◌==◌, if◌then◌else◌}
use Rattle.cr_tokens.specs.declared.token.Token.{Token}
use Rattle.cr_tokens.specs.Tokens.{Tokenizes}
use Rattle.cr_cursor.specs.Variants.{Offer}
use Rattle.cr_lawful_analysis.specs.Analysis.{IsRead, Read, Tree}
use Rattle.cr_lawful_analysis.specs.declared.analysis.Analysis.{Analysis}
use Rattle.cr_lawful_analysis.specs.declared.analysis.Analysis.TheVariants.{OfUnit}
use Rattle.pass_edit.specs.Forms.{nothing_kept}
use Rattle.pass_edit.specs.Menu.{Offering, entry_of, level_of}
use Rattle.pass_text.specs.Brackets.{IsBracketOffering}
use Rattle.pass_text.specs.Lines.{chunks_of, lines_bytes, lines_of}
use Rattle.pass_text.specs.Runs.{t_offering}
use Rattle.cr_scopes.specs.declared.names.Names.{Names}
use Rattle.pass_exprs.specs.Expressions.{c_offering}
use Rattle.pass_inline.specs.Inlined.{i_offering}
use Rattle.pass_names.specs.Renamed.{r_offering}
use Rattle.pass_names.specs.Unused.{u_offering}
use Rattle.pass_output.specs.Output.{o_offering}
use Rattle.pass_params.specs.Parameters.{p_offering}
use Rattle.pass_stmts.specs.Printed.{IsPrintedOffering}
use Rattle.pass_stmts.specs.Statements.{s_offering}
use Rattle.pass_values.specs.Values.{v_offering}
use Rattle.pass_list.specs.declared.pass.Pass.{Pass}
use Rattle.pass_list.specs.declared.pass.Pass.TheVariants.{Brackets, Expressions, Inlined, Lines, NotThere, Output, Parameters, Printed, Renamed, Runs, Statements, Unused, Values}
use Rattle.pass_list.specs.Passes.{levels_of, pass_by}

-- What is known of a file: how many lines it has, and what the passes behind the lines offer, each by its number.
pub record Known : Type 0 where
  pub lines : ℕ
  pub menus : List Offering

-- a pass that isn't enabled, or isn't there, offers nothing
abbrev pub nothing : Offering
nothing = record { levels = []; kept = nothing_kept }

abbrev pub is_on : List Bool → ℕ → Bool
is_on enabled pass = slice_index_or enabled pass false

-- how many levels the pass of a number has, where it is enabled, else none: 42 in all without v and o
abbrev pub levels_on : List Bool → ℕ → ℕ
levels_on enabled pass = if is_on enabled pass then levels_of (pass_by pass) else 0

-- the menu of a pass: what it offers where it is enabled, else nothing
abbrev pub IfOn : Bool → (Offering → Type 0) → Offering → Type 0
IfOn true IsOffered menu = IsOffered menu
IfOn false IsOffered menu = menu ≡ nothing

abbrev pub menu_at : List Offering → ℕ → Offering
menu_at menus pass = slice_index_or menus pass nothing

-- what is offered by a file's tokens; without tokens nothing
abbrev pub ByTokens : Option (List Token) → (List Token → Offering → Type 0) → Offering → Type 0
ByTokens None IsOffered menu = menu ≡ nothing
ByTokens (Some tokens) IsOffered menu = IsOffered tokens menu

-- what is offered by the tree of a file's unit; without one nothing
abbrev pub ByTree : Option Tree → (Tree → Offering → Type 0) → Offering → Type 0
ByTree None IsOffered menu = menu ≡ nothing
ByTree (Some tree) IsOffered menu = IsOffered tree menu

-- where there is a unit it is by what its names stand for; without one nothing
abbrev pub ByNames : Option Names → (Names → Offering → Type 0) → Offering → Type 0
ByNames None IsOffered menu = menu ≡ nothing
ByNames (Some names) IsOffered menu = IsOffered names menu

-- and by the structures whose members its nodes name; without a unit nothing
abbrev pub ByStructures : Option (List (Option ℕ)) → (List (Option ℕ) → Offering → Type 0) → Offering → Type 0
ByStructures None IsOffered menu = menu ≡ nothing
ByStructures (Some structures) IsOffered menu = IsOffered structures menu

-- What a pass behind the lines offers by what is read of a file.
abbrev pub IsOffered : List ℕ → Read → Pass → Offering → Type 0
IsOffered file read Lines menu = menu ≡ nothing
IsOffered file read Runs menu = ByTokens read.tokens (λ tokens menu. menu ≡ t_offering tokens) menu
IsOffered file read Brackets menu = ByTokens read.tokens (IsBracketOffering file) menu
IsOffered file read Unused menu =
    ByTokens read.tokens (λ tokens. ByTree read.tree (λ tree. ByNames read.names (λ names. ByStructures read.structures (λ structures m.
    m ≡ u_offering file tokens tree.nodes tree.items names structures)))) menu
IsOffered file read Statements menu = ByTokens read.tokens (λ tokens. ByTree read.tree (λ tree m. m ≡ s_offering file tokens tree.nodes)) menu
IsOffered file read Expressions menu = ByTokens read.tokens (λ tokens. ByTree read.tree (λ tree m. m ≡ c_offering tokens tree.nodes)) menu
IsOffered file read Inlined menu = ByTokens read.tokens (λ tokens. ByTree read.tree (λ tree. ByNames read.names (λ names m. m ≡ i_offering tokens tree.nodes names))) menu
IsOffered file read Parameters menu = ByTokens read.tokens (λ tokens. ByTree read.tree (λ tree. ByNames read.names (λ names m. m ≡ p_offering file tokens tree.nodes names))) menu
IsOffered file read Renamed menu =
    ByTokens read.tokens (λ tokens. ByTree read.tree (λ tree. ByNames read.names (λ names m. m ≡ r_offering file tokens tree.nodes tree.items names))) menu
IsOffered file read Printed menu = ByTokens read.tokens (λ tokens. ByTree read.tree (λ tree. IsPrintedOffering file tokens)) menu
IsOffered file read Values menu = ByTokens read.tokens (λ tokens. ByTree read.tree (λ tree. ByNames read.names (λ names m. m ≡ v_offering tokens tree.nodes names))) menu
IsOffered file read Output menu = ByTokens read.tokens (λ tokens. ByTree read.tree (λ tree m. m ≡ o_offering file tokens tree.nodes)) menu
IsOffered file read NotThere menu = menu ≡ nothing

-- the tokens of a unit that is read are the file's
abbrev pub HasFilesTokens : List ℕ → Analysis → Type 0
HasFilesTokens file (OfUnit unit names structures) = Tokenizes file unit.tokens.list.items
HasFilesTokens file other = Unit {0}

-- what is offered by what is known
abbrev pub offer_of : Known → List ℕ → Offer
offer_of known file = record {
  widths = λ pass level. if pass == 0 then chunks_of known.lines 0 level else length (level_of (menu_at known.menus pass) level);
  bytes = λ at. if at.pass == 0 then lines_bytes file at else entry_of file (menu_at known.menus at.pass) at.level at.index;
}

-- the menus of the passes below a number
abbrev pub AreMenus : List Bool → List ℕ → Read → ℕ → List Offering → Type 0
AreMenus enabled file read most menus = (pass : ℕ) → pass < most → IfOn (is_on enabled pass) (IsOffered file read (pass_by pass)) (menu_at menus pass)

-- What is known of a file: the lines, where they are enabled, and the menus of the twelve passes by what is read of it. How it is read may
-- be known without a derivation, as what lies behind a lock is; there is one reading at most.
pub record IsKnown (enabled : List Bool) (file : List ℕ) (known : Known) : Type 0 where
  pub read : Read
  pub is_read : ∥ IsRead file read ∥₁
  pub lines : known.lines ≡ (if is_on enabled 0 then length (lines_of file) else 0)
  pub count : length known.menus ≡ 12
  pub menus : AreMenus enabled file read 12 known.menus

-- What is offered for a file, of which the passes of this list are enabled.
pub record Offers (enabled : List Bool) (file : List ℕ) (offer : Offer) : Type 0 where
  pub known : Known
  pub is_known : IsKnown enabled file known
  pub is : offer ≡ offer_of known file
