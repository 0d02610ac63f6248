-- A file has one offer, a level has no more variants than the file has bytes, and there are twelve passes of 16 levels: the proofs that the
-- impl of `Passes` gives of that trait's laws. They stand here since such a proof can name no file of its own crate's `proofs/`.
use native.Mathlib.Omega.{arith}
use mathlib.Core.Logic.{∥∥₁_elim}
use Rattle.std.proofs.Props.{props}
use Rattle.std.proofs.Common.{◌≡◌, ℕ, ◌+◌, ◌-◌, ◌<◌, ◌≤◌, Bool, true, false, List, [], ◌∷◌, Option, Some, None, length, map, if◌then◌else◌, ◌==◌, refl, sym, ap, subst, ◌∙◌, zero, suc, inl, inr}
use Rattle.std.specs.Prelude.{nat_eq, nat_le, ◌&&◌, slice_index_or}
use Rattle.std.specs.Int.{div_ceil}
use Rattle.std.proofs.lemmas.Bool.{cases_lt}
use Rattle.std.proofs.lemmas.Bool.Decides.{nat_tests}
use Rattle.std.proofs.lemmas.List.{ext_get_or, get_or_past, length-append, length-map}
use Rattle.std.proofs.lemmas.Option.{none-some}
use Rattle.cr_tokens.specs.declared.token.Token.{Token}
use Rattle.cr_tokens.specs.Tokens.{Tokenizes}
use Rattle.cr_tokens.proofs.Measures.{falls_length}
use Rattle.cr_cursor.specs.Variants.{Offer, pass_count}
use Rattle.cr_syntax.specs.Spells.{AtMost}
use Rattle.cr_syntax.specs.Units.{most_levels}
use Rattle.cr_syntax.specs.Words.{lexeme_of, lexemes_of}
use Rattle.pass_edit.specs.declared.change.Change.{Change}
use Rattle.pass_levels.specs.Gathered.{gathered}
use Rattle.pass_levels.specs.Places.{gone}
use Rattle.pass_edit.specs.Menu.{Offering, level_of}
use Rattle.cr_scopes.specs.declared.names.Names.{Names}
use Rattle.cr_lawful_analysis.specs.Analysis.{AreItsNames, IsParsed, IsRead, Read, Tree, no_tokens, no_unit, of_unit, tokens_alone, tree_of, unit_read}
use Rattle.cr_lawful_analysis.specs.Members.{structures_of}
use Rattle.cr_lawful_analysis.proofs.Same.{one_read}
use Rattle.cr_printer.proofs.Neighbours.{prints_one_text}
use Rattle.pass_text.specs.Lines.{chunk_of, chunks_of, lines_of}
use Rattle.pass_text.proofs.LineLaws.{chunk_some, div_ceil-le, lines_few}
use Rattle.pass_text.specs.Runs.{runs_gone, t_offering}
use Rattle.pass_text.specs.Brackets.{IsBracketOffering}
use Rattle.pass_text.specs.Brackets.IsBracketOffering.{paired, unpaired}
use Rattle.pass_text.proofs.BracketLemmas.{few_offered, one_offering}
use Rattle.pass_stmts.specs.Printed.{IsPrintedOffering, f_offering}
use Rattle.pass_names.specs.Renamed.{renaming_by}
use Rattle.pass_names.specs.Short.{first_free}
use Rattle.pass_widths.specs.Few.{AreFew, AreOfUnit}
use Rattle.pass_widths.proofs.Calls.{inlined_few}
use Rattle.pass_widths.proofs.Expressions.{expressions_few}
use Rattle.pass_widths.proofs.Names.{printed_few, renamed_few}
use Rattle.pass_widths.proofs.Output.{output_few}
use Rattle.pass_widths.proofs.Parameters.{parameters_few}
use Rattle.pass_widths.proofs.Statements.{statements_few}
use Rattle.pass_widths.proofs.Unused.{unused_few}
use Rattle.pass_widths.proofs.Values.{values_few}
use Rattle.pass_list.specs.declared.pass.Pass.{Pass}
use Rattle.pass_list.specs.declared.pass.Pass.TheVariants.{Brackets, Expressions, Inlined, Lines, NotThere, Output, Parameters, Printed, Renamed, Runs, Statements, Unused, Values}
use Rattle.pass_list.specs.Passes.{levels_of, pass_by}
use Rattle.pass_list.specs.Offers.{ByNames, ByStructures, ByTokens, ByTree, IfOn, IsKnown, IsOffered, Known, Offers, is_on, levels_on, menu_at, nothing, offer_of}

one_on : (on : Bool) (P : Offering → Type 0) (menu other : Offering) → (P menu → P other → menu ≡ other) → IfOn on P menu → IfOn on P other → menu ≡ other
one_on true P menu other one is also = one is also
one_on false P menu other one is also = is ∙ sym also

-- what holds of a menu that is offered, and of nothing, holds of a pass's menu
pub menu_on : (on : Bool) (IsIt P : Offering → Type 0) (menu : Offering) → (IsIt menu → P menu) → P nothing → IfOn on IsIt menu → P menu
menu_on true IsIt P menu it none is = it is
menu_on false IsIt P menu it none is = subst P (sym is) none

by_tokens : (tokens : Option (List Token)) (P : List Token → Offering → Type 0) (Q : Offering → Type 0) (menu : Offering)
    → ((ts : List Token) → tokens ≡ Some ts → P ts menu → Q menu) → Q nothing → ByTokens tokens P menu → Q menu
by_tokens None P Q menu it none is = subst Q (sym is) none
by_tokens (Some ts) P Q menu it none is = it ts refl is

by_tree : (tree : Option Tree) (P : Tree → Offering → Type 0) (Q : Offering → Type 0) (menu : Offering)
    → ((t : Tree) → P t menu → Q menu) → Q nothing → ByTree tree P menu → Q menu
by_tree None P Q menu it none is = subst Q (sym is) none
by_tree (Some t) P Q menu it none is = it t is

by_names : (names : Option Names) (P : Names → Offering → Type 0) (Q : Offering → Type 0) (menu : Offering)
    → ((n : Names) → P n menu → Q menu) → Q nothing → ByNames names P menu → Q menu
by_names None P Q menu it none is = subst Q (sym is) none
by_names (Some n) P Q menu it none is = it n is

by_structures : (structures : Option (List (Option ℕ))) (P : List (Option ℕ) → Offering → Type 0) (Q : Offering → Type 0) (menu : Offering)
    → ((s : List (Option ℕ)) → P s menu → Q menu) → Q nothing → ByStructures structures P menu → Q menu
by_structures None P Q menu it none is = subst Q (sym is) none
by_structures (Some s) P Q menu it none is = it s is

-- Each pass offers one menu.
one_by_tokens : (tokens : Option (List Token)) (P : List Token → Offering → Type 0) (menu other : Offering)
    → ((ts : List Token) → P ts menu → P ts other → menu ≡ other) → ByTokens tokens P menu → ByTokens tokens P other → menu ≡ other
one_by_tokens None P menu other one is also = is ∙ sym also
one_by_tokens (Some ts) P menu other one is also = one ts is also

one_by_tree : (tree : Option Tree) (P : Tree → Offering → Type 0) (menu other : Offering)
    → ((t : Tree) → P t menu → P t other → menu ≡ other) → ByTree tree P menu → ByTree tree P other → menu ≡ other
one_by_tree None P menu other one is also = is ∙ sym also
one_by_tree (Some t) P menu other one is also = one t is also

one_by_names : (names : Option Names) (P : Names → Offering → Type 0) (menu other : Offering)
    → ((n : Names) → P n menu → P n other → menu ≡ other) → ByNames names P menu → ByNames names P other → menu ≡ other
one_by_names None P menu other one is also = is ∙ sym also
one_by_names (Some n) P menu other one is also = one n is also

one_by_structures : (structures : Option (List (Option ℕ))) (P : List (Option ℕ) → Offering → Type 0) (menu other : Offering)
    → ((s : List (Option ℕ)) → P s menu → P s other → menu ≡ other) → ByStructures structures P menu → ByStructures structures P other → menu ≡ other
one_by_structures None P menu other one is also = is ∙ sym also
one_by_structures (Some s) P menu other one is also = one s is also

one_printed : (file : List ℕ) (tokens : List Token) (menu other : Offering) → IsPrintedOffering file tokens menu → IsPrintedOffering file tokens other → menu ≡ other
one_printed file tokens menu other a b = a.is ∙ ap (f_offering file) (prints_one_text _ a.text b.text a.prints b.prints) ∙ sym b.is

one_offered : (file : List ℕ) (read : Read) (pass : Pass) (menu other : Offering) → IsOffered file read pass menu → IsOffered file read pass other → menu ≡ other
one_offered file read Lines menu other is also = is ∙ sym also
one_offered file read Runs menu other is also = one_by_tokens read.tokens _ menu other (λ ts a b. a ∙ sym b) is also
one_offered file read Brackets menu other is also = one_by_tokens read.tokens _ menu other (λ ts a b. one_offering file ts menu other a b) is also
one_offered file read Unused menu other is also = one_by_tokens read.tokens _ menu other (λ ts. one_by_tree read.tree _ menu other (λ t. one_by_names read.names _ menu other
    (λ n. one_by_structures read.structures _ menu other (λ s a b. a ∙ sym b)))) is also
one_offered file read Statements menu other is also = one_by_tokens read.tokens _ menu other (λ ts. one_by_tree read.tree _ menu other (λ t a b. a ∙ sym b)) is also
one_offered file read Expressions menu other is also = one_by_tokens read.tokens _ menu other (λ ts. one_by_tree read.tree _ menu other (λ t a b. a ∙ sym b)) is also
one_offered file read Inlined menu other is also = one_by_tokens read.tokens _ menu other (λ ts. one_by_tree read.tree _ menu other (λ t. one_by_names read.names _ menu other (λ n a b. a ∙ sym b))) is also
one_offered file read Parameters menu other is also = one_by_tokens read.tokens _ menu other (λ ts. one_by_tree read.tree _ menu other (λ t. one_by_names read.names _ menu other (λ n a b. a ∙ sym b))) is also
one_offered file read Renamed menu other is also = one_by_tokens read.tokens _ menu other (λ ts. one_by_tree read.tree _ menu other (λ t. one_by_names read.names _ menu other (λ n a b. a ∙ sym b))) is also
one_offered file read Printed menu other is also = one_by_tokens read.tokens _ menu other (λ ts. one_by_tree read.tree _ menu other (λ t a b. one_printed file ts menu other a b)) is also
one_offered file read Values menu other is also = one_by_tokens read.tokens _ menu other (λ ts. one_by_tree read.tree _ menu other (λ t. one_by_names read.names _ menu other (λ n a b. a ∙ sym b))) is also
one_offered file read Output menu other is also = one_by_tokens read.tokens _ menu other (λ ts. one_by_tree read.tree _ menu other (λ t a b. a ∙ sym b)) is also
one_offered file read NotThere menu other is also = is ∙ sym also

known_by : (enabled : List Bool) (file : List ℕ) (known other : Known) (a : IsKnown enabled file known) (b : IsKnown enabled file other) → a.read ≡ b.read → known ≡ other
known_by enabled file known other a b read =
    let lines = a.lines ∙ sym b.lines in
    let menus = ext_get_or nothing known.menus other.menus (a.count ∙ sym b.count) (λ i low.
    let below : i < 12 = subst (λ n. i < n) a.count low in
    one_on (is_on enabled i) (IsOffered file a.read (pass_by i)) (menu_at known.menus i) (menu_at other.menus i)
    (one_offered file a.read (pass_by i) (menu_at known.menus i) (menu_at other.menus i)) (a.menus i below)
    (subst (λ r. IfOn (is_on enabled i) (IsOffered file r (pass_by i)) (menu_at other.menus i)) (sym read) (b.menus i below))) in
    ap {B = Known} (λ x. record { lines = x; menus = known.menus }) lines ∙ ap {B = Known} (λ x. record { lines = other.lines; menus = x }) menus

one_known : (enabled : List Bool) (file : List ℕ) (known other : Known) → IsKnown enabled file known → IsKnown enabled file other → known ≡ other
one_known enabled file known other a b =
    ∥∥₁_elim a.is_read (hlevel props) (λ is. ∥∥₁_elim b.is_read (hlevel props) (λ also. known_by enabled file known other a b (one_read file a.read b.read is also)))

pub one_offer : (enabled : List Bool) (file : List ℕ) (o other : Offer) → Offers enabled file o → Offers enabled file other → o ≡ other
one_offer enabled file o other a b = a.is ∙ ap (λ k. offer_of k file) (one_known enabled file a.known b.known a.is_known b.is_known) ∙ sym b.is

-- No level stands at or above the number that its pass has.
no_more : (levels : List (List (List Change))) (level : ℕ) → length levels ≤ level → length (slice_index_or levels level []) ≡ 0
no_more levels level few = ap length (get_or_past levels level [] few)

without : (menu offered : Offering) (n level : ℕ) → menu ≡ offered → length offered.levels ≡ n → n ≤ level → length (level_of menu level) ≡ 0
without menu offered n level is count few = no_more menu.levels level (let same = ap (λ (m : Offering). length m.levels) is in omega (arith, same, count, few))

without_brackets : (file : List ℕ) (tokens : List Token) (menu : Offering) (level : ℕ) → IsBracketOffering file tokens menu → 3 ≤ level → length (level_of menu level) ≡ 0
without_brackets file tokens menu level (paired pairs nests is) few = without menu _ 3 level is refl few
without_brackets file tokens menu level (unpaired none is) few = without menu _ 3 level is refl few

one_renaming : (number : Option ℕ) (tokens : List Token) (names : Names) (reserved : List ℕ) → length (renaming_by number tokens names reserved).levels ≡ 1
one_renaming None tokens names reserved = refl
one_renaming (Some n) tokens names reserved = refl

none_offered : (file : List ℕ) (read : Read) (pass : Pass) (menu : Offering) (level : ℕ) → IsOffered file read pass menu → levels_of pass ≤ level → length (level_of menu level) ≡ 0
none_offered file read Lines menu level is few = without menu nothing 0 level is refl (omega arith)
none_offered file read Runs menu level is few = by_tokens read.tokens _ (λ m. length (level_of m level) ≡ 0) menu (λ ts e a. without menu _ 5 level a refl few) refl is
none_offered file read Brackets menu level is few = by_tokens read.tokens _ (λ m. length (level_of m level) ≡ 0) menu (λ ts e a. without_brackets file ts menu level a few) refl is
none_offered file read Unused menu level is few = by_tokens read.tokens _ (λ m. length (level_of m level) ≡ 0) menu
    (λ ts e. by_tree read.tree _ (λ m. length (level_of m level) ≡ 0) menu (λ t. by_names read.names _ (λ m. length (level_of m level) ≡ 0) menu
    (λ n. by_structures read.structures _ (λ m. length (level_of m level) ≡ 0) menu (λ s a. without menu _ 4 level a refl few) refl) refl) refl) refl is
none_offered file read Statements menu level is few = by_tokens read.tokens _ (λ m. length (level_of m level) ≡ 0) menu
    (λ ts e. by_tree read.tree _ (λ m. length (level_of m level) ≡ 0) menu (λ t a. without menu _ 6 level a refl few) refl) refl is
none_offered file read Expressions menu level is few = by_tokens read.tokens _ (λ m. length (level_of m level) ≡ 0) menu
    (λ ts e. by_tree read.tree _ (λ m. length (level_of m level) ≡ 0) menu (λ t a. without menu _ 4 level a refl few) refl) refl is
none_offered file read Inlined menu level is few = by_tokens read.tokens _ (λ m. length (level_of m level) ≡ 0) menu
    (λ ts e. by_tree read.tree _ (λ m. length (level_of m level) ≡ 0) menu (λ t. by_names read.names _ (λ m. length (level_of m level) ≡ 0) menu
    (λ n a. without menu _ 2 level a refl few) refl) refl) refl is
none_offered file read Parameters menu level is few = by_tokens read.tokens _ (λ m. length (level_of m level) ≡ 0) menu
    (λ ts e. by_tree read.tree _ (λ m. length (level_of m level) ≡ 0) menu (λ t. by_names read.names _ (λ m. length (level_of m level) ≡ 0) menu
    (λ n a. without menu _ 1 level a refl few) refl) refl) refl is
none_offered file read Renamed menu level is few = by_tokens read.tokens _ (λ m. length (level_of m level) ≡ 0) menu
    (λ ts e. by_tree read.tree _ (λ m. length (level_of m level) ≡ 0) menu (λ t. by_names read.names _ (λ m. length (level_of m level) ≡ 0) menu
    (λ n a. without menu _ 1 level a (one_renaming (first_free file ts) ts n _) few) refl) refl) refl is
none_offered file read Printed menu level is few = by_tokens read.tokens _ (λ m. length (level_of m level) ≡ 0) menu
    (λ ts e. by_tree read.tree _ (λ m. length (level_of m level) ≡ 0) menu (λ t a. without menu _ 1 level a.is refl few) refl) refl is
none_offered file read Values menu level is few = by_tokens read.tokens _ (λ m. length (level_of m level) ≡ 0) menu
    (λ ts e. by_tree read.tree _ (λ m. length (level_of m level) ≡ 0) menu (λ t. by_names read.names _ (λ m. length (level_of m level) ≡ 0) menu
    (λ n a. without menu _ 3 level a refl few) refl) refl) refl is
none_offered file read Output menu level is few = by_tokens read.tokens _ (λ m. length (level_of m level) ≡ 0) menu
    (λ ts e. by_tree read.tree _ (λ m. length (level_of m level) ≡ 0) menu (λ t a. without menu _ 3 level a refl few) refl) refl is
none_offered file read NotThere menu level is few = without menu nothing 0 level is refl (omega arith)

few_levels : (pass : Pass) → levels_of pass ≤ 15
few_levels Lines = omega arith
few_levels Runs = omega arith
few_levels Brackets = omega arith
few_levels Unused = omega arith
few_levels Statements = omega arith
few_levels Expressions = omega arith
few_levels Inlined = omega arith
few_levels Parameters = omega arith
few_levels Renamed = omega arith
few_levels Printed = omega arith
few_levels Values = omega arith
few_levels Output = omega arith
few_levels NotThere = omega arith

-- A level has no more variants than the file has bytes.
gathered_one : (f : ℕ → List Change) (n : ℕ) → length (gathered (λ at. f at ∷ []) n) ≡ n
gathered_one f zero = refl
gathered_one f (suc n) = let rest = gathered_one f n in let both = length-append (gathered (λ at. f at ∷ []) n) (f n ∷ []) in omega (arith, rest, both)

runs_few : (file : List ℕ) (tokens : List Token) → Tokenizes file tokens → (more : ℕ) → length (runs_gone tokens more) ≤ length file
runs_few file tokens is more =
    let count = gathered_one (λ at. gone tokens at (at + more) ∷ []) (length tokens - more) in
    let few = falls_length is.falls in omega (arith, count, few)

level_few : (f : ℕ → List (List Change)) (ks : List ℕ) (most : ℕ) → ((k : ℕ) → length (f k) ≤ most) → (level : ℕ) → length (slice_index_or (map f ks) level []) ≤ most
level_few f [] most few level = omega arith
level_few f (k ∷ ks) most few zero = few k
level_few f (k ∷ ks) most few (suc level) = level_few f ks most few level

runs_offered : (file : List ℕ) (tokens : List Token) → Tokenizes file tokens → (level : ℕ) → length (level_of (t_offering tokens) level) ≤ length file
runs_offered file tokens is level = level_few (runs_gone tokens) (15 ∷ (7 ∷ (3 ∷ (1 ∷ (0 ∷ []))))) (length file) (runs_few file tokens is) level

pub read_tokens : (file : List ℕ) (read : Read) (tokens : List Token) → IsRead file read → read.tokens ≡ Some tokens → Tokenizes file tokens
read_tokens file _ tokens (no_tokens none) e = absurd (none-some tokens e)
read_tokens file _ tokens (no_unit {tokens = ts} is none) e = let same : ts ≡ tokens = cc in subst (Tokenizes file) same is
read_tokens file _ tokens (of_unit {tokens = ts} is are) e = let same : ts ≡ tokens = cc in subst (Tokenizes file) same is

-- A unit that is read, its nodes listed in order.
lexemes_count : (file : List ℕ) (tokens : List Token) → length (lexemes_of file tokens) ≡ length tokens
lexemes_count file tokens = length-map tokens (lexeme_of file)

of_parsed : {file : List ℕ} {tokens : List Token} {tree : Tree} → IsParsed file tokens tree → AreOfUnit (length tokens) tree.nodes tree.items
of_parsed {file = file} {tokens = tokens} it = record {
  lexemes = lexemes_of file tokens;
  limit = AtMost most_levels;
  count_is = lexemes_count file tokens;
  is_unit = it.is_tree.is_unit;
  below = it.below;
  listed = it.listed;
}

-- no more than the tokens are no more than the bytes
fewer : (file : List ℕ) (tokens : List Token) (menu offered : Offering) → Tokenizes file tokens → menu ≡ offered → AreFew (length tokens) offered → AreFew (length file) menu
fewer file tokens menu offered is same few = subst (AreFew (length file)) (sym same) (λ level. let le = few level in let all = falls_length is.falls in omega (arith, le, all))

none_few : (most : ℕ) (menu : Offering) → menu ≡ nothing → AreFew most menu
none_few most menu is = subst (AreFew most) (sym is) (λ level. omega arith)

of_tokens_few : (file : List ℕ) (tokens : List Token) (pass : Pass) (menu : Offering) → Tokenizes file tokens → IsOffered file (tokens_alone (Some tokens)) pass menu → AreFew (length file) menu
of_tokens_few file tokens Runs menu is offered = subst (AreFew (length file)) (sym offered) (runs_offered file tokens is)
of_tokens_few file tokens Brackets menu is offered = λ level. few_offered file tokens menu level is offered
of_tokens_few file tokens Lines menu is offered = none_few (length file) menu offered
of_tokens_few file tokens Unused menu is offered = none_few (length file) menu offered
of_tokens_few file tokens Statements menu is offered = none_few (length file) menu offered
of_tokens_few file tokens Expressions menu is offered = none_few (length file) menu offered
of_tokens_few file tokens Inlined menu is offered = none_few (length file) menu offered
of_tokens_few file tokens Parameters menu is offered = none_few (length file) menu offered
of_tokens_few file tokens Renamed menu is offered = none_few (length file) menu offered
of_tokens_few file tokens Printed menu is offered = none_few (length file) menu offered
of_tokens_few file tokens Values menu is offered = none_few (length file) menu offered
of_tokens_few file tokens Output menu is offered = none_few (length file) menu offered
of_tokens_few file tokens NotThere menu is offered = none_few (length file) menu offered

no_tokens_few : (file : List ℕ) (pass : Pass) (menu : Offering) → IsOffered file (tokens_alone None) pass menu → AreFew (length file) menu
no_tokens_few file Runs menu offered = none_few (length file) menu offered
no_tokens_few file Brackets menu offered = none_few (length file) menu offered
no_tokens_few file Lines menu offered = none_few (length file) menu offered
no_tokens_few file Unused menu offered = none_few (length file) menu offered
no_tokens_few file Statements menu offered = none_few (length file) menu offered
no_tokens_few file Expressions menu offered = none_few (length file) menu offered
no_tokens_few file Inlined menu offered = none_few (length file) menu offered
no_tokens_few file Parameters menu offered = none_few (length file) menu offered
no_tokens_few file Renamed menu offered = none_few (length file) menu offered
no_tokens_few file Printed menu offered = none_few (length file) menu offered
no_tokens_few file Values menu offered = none_few (length file) menu offered
no_tokens_few file Output menu offered = none_few (length file) menu offered
no_tokens_few file NotThere menu offered = none_few (length file) menu offered

of_unit_few : (file : List ℕ) (tokens : List Token) (tree : Tree) (names : Names) (structures : List (Option ℕ)) (pass : Pass) (menu : Offering) → Tokenizes file tokens
    → IsParsed file tokens tree → AreItsNames file tokens tree names → IsOffered file (unit_read tokens tree names structures) pass menu → AreFew (length file) menu
of_unit_few file tokens tree names structures Runs menu is parsed known offered = subst (AreFew (length file)) (sym offered) (runs_offered file tokens is)
of_unit_few file tokens tree names structures Brackets menu is parsed known offered = λ level. few_offered file tokens menu level is offered
of_unit_few file tokens tree names structures Lines menu is parsed known offered = none_few (length file) menu offered
of_unit_few file tokens tree names structures Unused menu is parsed known offered = fewer file tokens menu _ is offered (unused_few file tokens names (of_parsed parsed) structures)
of_unit_few file tokens tree names structures Statements menu is parsed known offered = fewer file tokens menu _ is offered (statements_few file tokens (of_parsed parsed))
of_unit_few file tokens tree names structures Expressions menu is parsed known offered = fewer file tokens menu _ is offered (expressions_few tokens (of_parsed parsed))
of_unit_few file tokens tree names structures Inlined menu is parsed known offered = fewer file tokens menu _ is offered (inlined_few tokens names (of_parsed parsed))
of_unit_few file tokens tree names structures Parameters menu is parsed known offered = fewer file tokens menu _ is offered (parameters_few file tokens names (of_parsed parsed))
of_unit_few file tokens tree names structures Renamed menu is parsed known offered = fewer file tokens menu _ is offered (renamed_few file tokens tree.nodes tree.items names _ known.names)
of_unit_few file tokens tree names structures Printed menu is parsed known offered = fewer file tokens menu menu is refl (printed_few file tokens tree.nodes tree.items menu (of_parsed parsed) offered)
of_unit_few file tokens tree names structures Values menu is parsed known offered = fewer file tokens menu _ is offered (values_few tokens names (of_parsed parsed))
of_unit_few file tokens tree names structures Output menu is parsed known offered = fewer file tokens menu _ is offered (output_few file tokens (of_parsed parsed))
of_unit_few file tokens tree names structures NotThere menu is parsed known offered = none_few (length file) menu offered

few_in : (file : List ℕ) (read : Read) (pass : Pass) (menu : Offering) → IsRead file read → IsOffered file read pass menu → AreFew (length file) menu
few_in file _ pass menu (no_tokens none) offered = no_tokens_few file pass menu offered
few_in file _ pass menu (no_unit {tokens = tokens} is none) offered = of_tokens_few file tokens pass menu is offered
few_in file _ pass menu (of_unit {tokens = tokens} {unit = unit} {names = names} {checked = checked} is it) offered =
    of_unit_few file tokens (tree_of unit) names (structures_of unit.nodes checked) pass menu is it.parsed it.known offered

-- What holds of every menu that its pass offers, and of nothing, holds of what is known of a pass.
known_menu : (enabled : List Bool) (file : List ℕ) (known : Known) (pass : ℕ) (Q : Offering → Type 0) → (is : IsKnown enabled file known)
    → (IsOffered file is.read (pass_by pass) (menu_at known.menus pass) → Q (menu_at known.menus pass)) → Q nothing → Q (menu_at known.menus pass)
known_menu enabled file known pass Q is it none = elim (cases_lt pass 12) [
  | inl low ↦ menu_on (is_on enabled pass) (IsOffered file is.read (pass_by pass)) Q (menu_at known.menus pass) it none (is.menus pass low)
  | inr high ↦ subst Q (sym (get_or_past known.menus pass nothing (let count = is.count in omega (arith, high, count)))) none
]

pub chunks_few : (lines pass level : ℕ) → chunks_of lines pass level ≤ lines
chunks_few lines pass level = elim (nat_eq pass 0 && nat_le level 14) as (λ t. (if t then div_ceil lines (chunk_of level) else 0) ≤ lines) [
  | true ↦ div_ceil-le lines (chunk_of level) (chunk_some level)
  | false ↦ omega arith
]

lines_known : (b : Bool) (file : List ℕ) → (if b then length (lines_of file) else 0) ≤ length file
lines_known true file = lines_few file
lines_known false file = omega arith

few_known : (enabled : List Bool) (file : List ℕ) (known : Known) (pass level : ℕ) → IsKnown enabled file known → (offer_of known file).widths pass level ≤ length file
few_known enabled file known pass level is = elim (pass == 0) as (λ t. (if t then chunks_of known.lines 0 level else length (level_of (menu_at known.menus pass) level)) ≤ length file) [
  | true ↦ (let chunks = chunks_few known.lines 0 level in let lines = lines_known (is_on enabled 0) file in let known_lines = is.lines in omega (arith, chunks, lines, known_lines))
  | false ↦ known_menu enabled file known pass (λ m. length (level_of m level) ≤ length file) is
      (λ offered. ∥∥₁_elim is.is_read (hlevel props) (λ read. few_in file is.read (pass_by pass) (menu_at known.menus pass) read offered level)) (omega arith)
]

pub few_variants : (enabled : List Bool) (file : List ℕ) (o : Offer) (pass level : ℕ) → Offers enabled file o → o.widths pass level ≤ length file
few_variants enabled file o pass level it = subst (λ x. x.widths pass level ≤ length file) (sym it.is) (few_known enabled file it.known pass level it.is_known)

-- There are 16 levels at most, and no pass stands behind the last.
no_chunks : (lines level : ℕ) → 15 ≤ level → chunks_of lines 0 level ≡ 0
no_chunks lines level above = grind (arith, nat_tests)

behind_lines : (pass chunks others : ℕ) → others ≡ 0 → (if suc pass == 0 then chunks else others) ≡ 0
behind_lines pass chunks others none =
    let apart : (suc pass == 0) ≡ false = grind (arith, nat_tests) in subst (λ b. (if b then chunks else others) ≡ 0) (sym apart) none

-- how many levels the pass of a number has
abbrev pub levels_at : ℕ → ℕ
levels_at pass = levels_of (pass_by pass)

none_known : (enabled : List Bool) (file : List ℕ) (known : Known) (pass level : ℕ) → IsKnown enabled file known → levels_at pass ≤ level → (offer_of known file).widths pass level ≡ 0
none_known enabled file known zero level is few = no_chunks known.lines level few
none_known enabled file known (suc pass) level is few = behind_lines pass (chunks_of known.lines 0 level) (length (level_of (menu_at known.menus (suc pass)) level))
    (known_menu enabled file known (suc pass) (λ m. length (level_of m level) ≡ 0) is
    (λ offered. none_offered file is.read (pass_by (suc pass)) (menu_at known.menus (suc pass)) level offered few) refl)

-- No level stands at or above the number that its pass has.
pub none_above : (enabled : List Bool) (file : List ℕ) (o : Offer) (pass level : ℕ) → Offers enabled file o → levels_at pass ≤ level → o.widths pass level ≡ 0
none_above enabled file o pass level it few = subst (λ x. x.widths pass level ≡ 0) (sym it.is) (none_known enabled file it.known pass level it.is_known few)

-- A pass that isn't enabled offers nothing, and so it has no level.
off_menu : (enabled : List Bool) (file : List ℕ) (known : Known) (pass : ℕ) → IsKnown enabled file known → is_on enabled pass ≡ false → menu_at known.menus pass ≡ nothing
off_menu enabled file known pass is off = elim (cases_lt pass 12) [
  | inl low ↦ subst (λ (b : Bool). IfOn b (IsOffered file is.read (pass_by pass)) (menu_at known.menus pass)) off (is.menus pass low)
  | inr high ↦ get_or_past known.menus pass nothing (let count = is.count in omega (arith, high, count))
]

no_lines_left : (lines level : ℕ) → lines ≡ 0 → chunks_of lines 0 level ≡ 0
no_lines_left lines level none = let few = chunks_few lines 0 level in omega (arith, none, few)

off_known : (enabled : List Bool) (file : List ℕ) (known : Known) (pass level : ℕ) → IsKnown enabled file known → is_on enabled pass ≡ false → (offer_of known file).widths pass level ≡ 0
off_known enabled file known zero level is off = no_lines_left known.lines level (is.lines ∙ ap (λ (b : Bool). if b then length (lines_of file) else 0) off)
off_known enabled file known (suc pass) level is off = behind_lines pass (chunks_of known.lines 0 level) (length (level_of (menu_at known.menus (suc pass)) level))
    (ap (λ (m : Offering). length (level_of m level)) (off_menu enabled file known (suc pass) is off))

pub none_on : (enabled : List Bool) (file : List ℕ) (o : Offer) (pass level : ℕ) → Offers enabled file o → levels_on enabled pass ≤ level → o.widths pass level ≡ 0
none_on enabled file o pass level it few = elim (is_on enabled pass) as (λ b. is_on enabled pass ≡ b → (if b then levels_of (pass_by pass) else 0) ≤ level → o.widths pass level ≡ 0) [
  | true ↦ λ is above. none_above enabled file o pass level it above
  | false ↦ λ off above. subst (λ x. x.widths pass level ≡ 0) (sym it.is) (off_known enabled file it.known pass level it.is_known off)
] refl few

pub no_level : (enabled : List Bool) (file : List ℕ) (o : Offer) (pass level : ℕ) → Offers enabled file o → 15 < level → o.widths pass level ≡ 0
no_level enabled file o pass level it above = none_above enabled file o pass level it (let few = few_levels (pass_by pass) in omega (arith, few, above))

no_lines : (pass chunks others : ℕ) → pass_count ≤ pass → others ≡ 0 → (if pass == 0 then chunks else others) ≡ 0
no_lines zero chunks others above none = absurd (omega (arith, above))
no_lines (suc pass) chunks others above none = behind_lines pass chunks others none

pub no_pass : (enabled : List Bool) (file : List ℕ) (o : Offer) (pass level : ℕ) → Offers enabled file o → pass_count ≤ pass → o.widths pass level ≡ 0
no_pass enabled file o pass level it above = subst (λ x. x.widths pass level ≡ 0) (sym it.is)
    (no_lines pass (chunks_of it.known.lines 0 level) (length (level_of (menu_at it.known.menus pass) level)) above
    (let count = it.is_known.count in ap (λ (m : Offering). length (level_of m level)) (get_or_past it.known.menus pass nothing (omega (arith, above, count)))))
