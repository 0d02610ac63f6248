-- A file has one reason against it at most.
use Rattle.std.proofs.Common.{◌≡◌, ℕ, Bool, List, Some, refl, sym, subst, ap, ◌∙◌}
use Rattle.cr_tokens.specs.declared.token.Token.{Token}
use Rattle.cr_tokens.specs.Tokens.{Tokenizes}
use Rattle.cr_tokens.proofs.Faults.{list_no_fault, one_fault as one_token_fault}
use Rattle.cr_tokens.proofs.Wholes.{one_list}
use Rattle.cr_syntax.specs.declared.unit.Unit as source
use Rattle.cr_syntax.specs.Units.{Refusal, Unexpected, Ended, TooDeep, OutsideSubset, FirstRefusal}
use Rattle.cr_syntax.specs.Words.{lexemes_of}
use Rattle.cr_syntax_machine_laws.proofs.UnitRefusals.{tree_is_not_refused}
use Rattle.cr_scopes.specs.declared.fault.NameFault.{NameFault}
use Rattle.cr_scopes.specs.declared.names.Names.{Names}
use Rattle.cr_scopes.specs.Units.{AreUnitNames}
use Rattle.cr_check.specs.Checked.{IsFirstFault}
use Rattle.cr_check.specs.NameFaults.{IsFirstNameFault}
use Rattle.cr_check.specs.declared.fault.TypeFault.TheVariants as type_fault
use Rattle.cr_check.proofs.NameFaults.{broken_repeats_none, no_name_fault, one_name_fault}
use Rattle.cr_check.proofs.OneFault.{one_fault}
use Rattle.cr_lawful_analysis.specs.Analysis.{IsParsed, tree_of}
use Rattle.cr_typed.specs.declared.typed.Typed.{Typed}
use Rattle.cr_meaning.specs.declared.run.Limits.{Limits}
use Rattle.cr_meaning.specs.declared.run.Run.{Run}
use Rattle.cr_meaning.proofs.Runs.{one_meaning}
use Rattle.cr_meaning_operations.specs.Laws.{Comes}
use Rattle.cr_meaning_operations.specs.Operations.{program_of}
use Rattle.cr_cursor.specs.TokenLaw.{IsTokenReason, reason_of}
use Rattle.cr_cursor.specs.declared.law.Reason.{Reason}
use Rattle.cr_cursor.specs.declared.law.Reason.TheVariants as reason
use Rattle.cr_cursor.specs.declared.law.Ruling.{Ruling}
use Rattle.cr_cursor.specs.declared.law.Ruling.TheVariants as ruling
use Rattle.cr_lawful.specs.Lawful.{IsReason, IsTypedUnit, RefusesFor, Rules, name_reason, parse_reason, run_reason, token_line, type_reason}
use Rattle.cr_lawful.specs.Lawful.IsReason.{of_tokens, of_unit, of_names, of_types, of_run}
use Rattle.cr_lawful.proofs.OneRefusal.{one_place, rowless}
use Rattle.cr_lawful.proofs.Rulings.{excludes, names_by, no_names, no_refusal, no_tokens, no_types, one_unit, parsed_by, same_lists}

some_is : {A : Type 0} (x y : A) → Some x ≡ Some y → x ≡ y
some_is x y e = cc e

-- ---- two reasons of one kind

same_tokens : (file : List ℕ) (why other : Reason) → IsTokenReason file why → IsTokenReason file other → why ≡ other
same_tokens file why other it also = it.is ∙ ap (reason_of file) (one_token_fault file it.fault also.fault it.first also.first) ∙ sym also.is

-- the row of a refused form is no part of the reason
without_row : (file : List ℕ) (tokens : List Token) (refused : Refusal) → parse_reason file tokens refused ≡ parse_reason file tokens (rowless refused)
without_row file tokens (Unexpected k) = refl
without_row file tokens Ended = refl
without_row file tokens (TooDeep k) = refl
without_row file tokens (OutsideSubset k row) = refl

same_refusal : (file : List ℕ) (tokens others : List Token) (refused other : Refusal) → Tokenizes file tokens → Tokenizes file others
    → FirstRefusal (lexemes_of file tokens) refused → FirstRefusal (lexemes_of file others) other
    → parse_reason file tokens refused ≡ parse_reason file others other
same_refusal file tokens others refused other are also first last =
    let same = one_list file tokens others are also in
    without_row file tokens refused
    ∙ ap (parse_reason file tokens)
    (one_place (lexemes_of file tokens) refused other first (subst (λ ts. FirstRefusal (lexemes_of file ts) other) (sym same) last))
    ∙ sym (without_row file tokens other)
    ∙ ap (λ ts. parse_reason file ts other) same

same_names : (file : List ℕ) (u v : source.Unit) (f g : NameFault) (why other : Reason) → Tokenizes file u.tokens.list.items
    → Tokenizes file v.tokens.list.items → IsParsed file u.tokens.list.items (tree_of u) → IsParsed file v.tokens.list.items (tree_of v)
    → IsFirstNameFault file u f → IsFirstNameFault file v g
    → name_reason file u.tokens.list.items f ≡ Some why → name_reason file v.tokens.list.items g ≡ Some other → why ≡ other
same_names file u v f g why other are also parsed too first last is so =
    let lists = same_lists file u v are also parsed too in
    some_is why other
    (sym is ∙ ap (name_reason file u.tokens.list.items) (one_name_fault file u v f g lists first last)
    ∙ ap (λ ts. name_reason file ts g) lists.tokens ∙ so)

same_types : (file : List ℕ) (u v : source.Unit) (names others : Names) (row token other place : ℕ) → Tokenizes file u.tokens.list.items
    → Tokenizes file v.tokens.list.items → IsParsed file u.tokens.list.items (tree_of u) → IsParsed file v.tokens.list.items (tree_of v)
    → AreUnitNames file u names → AreUnitNames file v others → IsFirstFault file u names (type_fault.Broken row token)
    → IsFirstFault file v others (type_fault.Broken other place)
    → reason.Typing row (token_line file u.tokens.list.items token) ≡ reason.Typing other (token_line file v.tokens.list.items place)
same_types file u v names others row token other place are also parsed too known as_well first last =
    let lists = same_lists file u v are also parsed too in
    let one = names_by file u v names others are also parsed too known as_well in
    let fault : type_fault.Broken row token ≡ type_fault.Broken other place =
    one_fault file u v others (type_fault.Broken row token) (type_fault.Broken other place) lists
    (subst (λ names. IsFirstFault file u names (type_fault.Broken row token)) one first) last (λ none. cc) (λ none. cc) in
    some_is (reason.Typing row (token_line file u.tokens.list.items token)) (reason.Typing other (token_line file v.tokens.list.items place))
    (ap (type_reason file u.tokens.list.items) fault ∙ ap (λ ts. type_reason file ts (type_fault.Broken other place)) lists.tokens)

same_run : (limits : Limits) (file : List ℕ) (typed other : Typed) (run last : Run) (why also : Reason) → IsTypedUnit file typed
    → IsTypedUnit file other → Comes typed limits run → Comes other limits last → run_reason file typed run ≡ Some why
    → run_reason file other last ≡ Some also → why ≡ also
same_run limits file typed other run last why also it too comes came is so =
    let unit = one_unit file typed other it too in
    let outcome = one_meaning (program_of other limits) run last (subst (λ t. Comes t limits run) unit comes) came in
    some_is why also (sym is ∙ ap (λ t. run_reason file t run) unit ∙ ap (run_reason file other) outcome ∙ so)

-- ---- two of two kinds

tokens_or_list : (file : List ℕ) (tokens : List Token) (why : Reason) → IsTokenReason file why → Tokenizes file tokens → ⊥
tokens_or_list file tokens why it are = list_no_fault file tokens it.fault are it.first

refused_or_parsed : (file : List ℕ) (tokens : List Token) (refused : Refusal) (u : source.Unit) → Tokenizes file tokens
    → FirstRefusal (lexemes_of file tokens) refused → Tokenizes file u.tokens.list.items → IsParsed file u.tokens.list.items (tree_of u) → ⊥
refused_or_parsed file tokens refused u are first also parsed =
    tree_is_not_refused (lexemes_of file tokens) (parsed_by file u.tokens.list.items tokens (tree_of u) also are parsed).is_tree first

names_or_types : (file : List ℕ) (u v : source.Unit) (fault : NameFault) (names : Names) (row token : ℕ) → Tokenizes file u.tokens.list.items
    → Tokenizes file v.tokens.list.items → IsParsed file u.tokens.list.items (tree_of u) → IsParsed file v.tokens.list.items (tree_of v)
    → IsFirstNameFault file u fault → AreUnitNames file v names → IsFirstFault file v names (type_fault.Broken row token) → ⊥
names_or_types file u v fault names row token are also parsed too first known broken =
    no_name_fault file v u names fault (same_lists file v u also are too parsed) known (broken_repeats_none file v names row token broken) first

-- ---- so there is one

pub one_reason : (limits : Limits) (file : List ℕ) (why other : Reason) → IsReason limits file why → IsReason limits file other → why ≡ other
one_reason limits file why other (of_tokens it) (of_tokens also) = same_tokens file why other it also
one_reason limits file why _ (of_tokens it) (of_unit {tokens = tokens} are first) = absurd (tokens_or_list file tokens why it are)
one_reason limits file why other (of_tokens it) (of_names u fault are parsed first is) =
    absurd (tokens_or_list file u.tokens.list.items why it are)
one_reason limits file why _ (of_tokens it) (of_types u names row token are parsed known first) =
    absurd (tokens_or_list file u.tokens.list.items why it are)
one_reason limits file why other (of_tokens it) (of_run typed outcome of_file comes is) = absurd (no_tokens file typed of_file why it)
one_reason limits file _ other (of_unit {tokens = tokens} are first) (of_tokens it) = absurd (tokens_or_list file tokens other it are)
one_reason limits file _ _ (of_unit {tokens = tokens} {refused = refused} are first) (of_unit {tokens = others} {refused = other} also last) =
    same_refusal file tokens others refused other are also first last
one_reason limits file _ other (of_unit {tokens = tokens} {refused = refused} are first) (of_names u fault also parsed last is) =
    absurd (refused_or_parsed file tokens refused u are first also parsed)
one_reason limits file _ _ (of_unit {tokens = tokens} {refused = refused} are first) (of_types u names row token also parsed known last) =
    absurd (refused_or_parsed file tokens refused u are first also parsed)
one_reason limits file _ other (of_unit {tokens = tokens} {refused = refused} are first) (of_run typed outcome of_file comes is) =
    absurd (no_refusal file typed of_file tokens refused are first)
one_reason limits file why other (of_names u fault are parsed first is) (of_tokens it) =
    absurd (tokens_or_list file u.tokens.list.items other it are)
one_reason limits file why _ (of_names u fault are parsed first is) (of_unit {tokens = tokens} {refused = refused} also last) =
    absurd (refused_or_parsed file tokens refused u also last are parsed)
one_reason limits file why other (of_names u f are parsed first is) (of_names v g also too last so) =
    same_names file u v f g why other are also parsed too first last is so
one_reason limits file why _ (of_names u fault are parsed first is) (of_types v names row token also too known broken) =
    absurd (names_or_types file u v fault names row token are also parsed too first known broken)
one_reason limits file why other (of_names u fault are parsed first is) (of_run typed outcome of_file comes so) =
    absurd (no_names file typed of_file u fault are parsed first)
one_reason limits file _ other (of_types u names row token are parsed known first) (of_tokens it) =
    absurd (tokens_or_list file u.tokens.list.items other it are)
one_reason limits file _ _ (of_types u names row token are parsed known first) (of_unit {tokens = tokens} {refused = refused} also last) =
    absurd (refused_or_parsed file tokens refused u also last are parsed)
one_reason limits file _ other (of_types u names row token are parsed known broken) (of_names v fault also too first is) =
    absurd (names_or_types file v u fault names row token also are too parsed first known broken)
one_reason limits file _ _ (of_types u names row token are parsed known first) (of_types v others other place also too as_well last) =
    same_types file u v names others row token other place are also parsed too known as_well first last
one_reason limits file _ other (of_types u names row token are parsed known first) (of_run typed outcome of_file comes is) =
    absurd (no_types file typed of_file u names row token are parsed known first)
one_reason limits file why other (of_run typed outcome of_file comes is) (of_tokens it) = absurd (no_tokens file typed of_file other it)
one_reason limits file why _ (of_run typed outcome of_file comes is) (of_unit {tokens = tokens} {refused = refused} are first) =
    absurd (no_refusal file typed of_file tokens refused are first)
one_reason limits file why other (of_run typed outcome of_file comes is) (of_names u fault are parsed first so) =
    absurd (no_names file typed of_file u fault are parsed first)
one_reason limits file why _ (of_run typed outcome of_file comes is) (of_types u names row token are parsed known first) =
    absurd (no_types file typed of_file u names row token are parsed known first)
one_reason limits file why other (of_run typed outcome of_file comes is) (of_run again last too came so) =
    same_run limits file typed again outcome last why other of_file too comes came is so

-- and a ruling gives it
pub refuses_for : (limits : Limits) (file : List ℕ) (raised : Bool) (r : Ruling) (why : Reason) → Rules limits file raised r → IsReason limits file why
    → RefusesFor why r
refuses_for limits file raised ruling.Lawful why rules is = excludes limits file why is rules
refuses_for limits file raised (ruling.Unlawful given) why rules is = one_reason limits file given why rules is
refuses_for limits file raised ruling.Stopped why rules is = tt
refuses_for limits file raised ruling.NoMemory why rules is = tt
