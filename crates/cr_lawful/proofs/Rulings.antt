-- What is ruled of a file, from what its steps answer, and that no reason stands against a lawful file.
use Rattle.std.proofs.Common.{◌≡◌, ◌⊎◌, inl, inr, ℕ, Bool, true, List, None, Some, refl, sym, subst, ap, ◌∙◌}
use Rattle.cr_tokens.specs.declared.token.Token.{Token}
use Rattle.cr_tokens.specs.declared.token.TokenFault.{TokenFault}
use Rattle.cr_tokens.specs.declared.token.TokenFault.TheVariants as fault
use Rattle.cr_tokens.specs.Faults.{FirstTokenFault}
use Rattle.cr_tokens.specs.Tokens.{Tokenizes}
use Rattle.cr_tokens.proofs.Faults.{list_no_fault}
use Rattle.cr_tokens.proofs.Wholes.{one_list}
use Rattle.cr_syntax.specs.declared.unit.Unit as source
use Rattle.cr_syntax.specs.Units.{FirstRefusal, Refusal}
use Rattle.cr_syntax.specs.Words.{lexemes_of}
use Rattle.cr_syntax_machine_laws.proofs.UnitRefusals.{tree_is_not_refused}
use Rattle.cr_exprs_descent.specs.declared.fault.ParseFault.{ParseFault}
use Rattle.cr_exprs_descent.specs.declared.fault.ParseFault.TheVariants.{NoMemory, Unexpected, Ended, TooDeep, OutsideSubset}
use Rattle.cr_decls.specs.Unit.{IsRefused}
use Rattle.cr_lawful_analysis.specs.Analysis.{AreItsNames, IsParsed, Tree, tree_of}
use Rattle.cr_lawful_analysis.proofs.Same.{same_tree, one_names}
use Rattle.cr_scopes.specs.Units.{AreUnitNames}
use Rattle.cr_scopes.specs.declared.names.Names.{Names}
use Rattle.cr_scopes.specs.declared.fault.NameFault.{NameFault}
use Rattle.cr_scopes.specs.declared.fault.NameFault.TheVariants as name_fault
use Rattle.cr_check.specs.Checked.{IsFirstFault, IsSoundOf}
use Rattle.cr_check.specs.Laws.{AreSameLists}
use Rattle.cr_check.specs.NameFaults.{IsFirstNameFault}
use Rattle.cr_check.proofs.NameFaults.{no_name_fault, sound_repeats_none, twice_is_first}
use Rattle.cr_check.proofs.Verdicts.{no_fault}
use Rattle.cr_check.specs.declared.fault.TypeFault.{TypeFault}
use Rattle.cr_check.specs.declared.fault.TypeFault.TheVariants as type_fault
use Rattle.cr_typed.specs.declared.typed.Typed.{Typed}
use Rattle.cr_typed_unit.specs.Typed.{IsTypedOf}
use Rattle.cr_typed_unit.proofs.OneTypedUnit.{one_typed_unit}
use Rattle.cr_meaning.specs.declared.run.Limits.{Limits}
use Rattle.cr_meaning.specs.declared.run.Run.{Run}
use Rattle.cr_meaning.specs.declared.run.Run.TheVariants as run
use Rattle.cr_meaning.proofs.Runs.{one_meaning}
use Rattle.cr_meaning_operations.specs.Laws.{Comes}
use Rattle.cr_meaning_operations.specs.Operations.{program_of}
use Rattle.cr_exec.specs.Runs.{has_come}
use Rattle.cr_cursor.specs.TokenLaw.{IsTokenReason, RulesOn, reason_of}
use Rattle.cr_cursor.specs.declared.law.Reason.{Reason}
use Rattle.cr_cursor.specs.declared.law.Ruling.{Ruling}
use Rattle.cr_cursor.specs.declared.law.Ruling.TheVariants as ruling
use Rattle.cr_lawful.specs.Lawful.{Ends, IsLawful, IsReason, IsTypedUnit, Refuses, Rules, name_reason, parse_fault_reason, ruling_by, run_reason, run_ruling, type_reason}
use Rattle.cr_lawful.specs.Lawful.IsReason.{of_tokens, of_unit, of_names, of_types, of_run}

-- ---- what is ruled before the run

-- the tokens have a first fault
faulty : (file : List ℕ) (raised : Bool) (f : TokenFault) (r : Ruling) → FirstTokenFault file f → r ≡ ruling.Unlawful (reason_of file f) → Refuses file raised r
faulty file raised f r found is = subst (Refuses file raised) (sym is) (λ limits. of_tokens (record { fault = f; first = found; is = refl }))

no_cause : (file : List ℕ) (f : TokenFault) → (f ≡ fault.NoMemory → ⊥) → (f ≡ fault.NoMemory) ⊎ FirstTokenFault file f → FirstTokenFault file f
no_cause file f some (inl none) = absurd (some none)
no_cause file f some (inr found) = found

pub token_refuses : (file : List ℕ) (raised : Bool) (f : TokenFault) (r : Ruling) → (f ≡ fault.NoMemory) ⊎ FirstTokenFault file f → RulesOn file f r → Refuses file raised r
token_refuses file raised fault.NoMemory r cause rules = subst (Refuses file raised) (sym rules) tt
token_refuses file raised fault.TooLong r cause rules = faulty file raised fault.TooLong r (no_cause file fault.TooLong (λ e. cc) cause) rules
token_refuses file raised (fault.BadByte place) r cause rules = faulty file raised (fault.BadByte place) r (no_cause file (fault.BadByte place) (λ e. cc) cause) rules
token_refuses file raised (fault.OpenComment place) r cause rules = faulty file raised (fault.OpenComment place) r (no_cause file (fault.OpenComment place) (λ e. cc) cause) rules
token_refuses file raised (fault.OpenLiteral place) r cause rules = faulty file raised (fault.OpenLiteral place) r (no_cause file (fault.OpenLiteral place) (λ e. cc) cause) rules
token_refuses file raised (fault.TooMany place) r cause rules = faulty file raised (fault.TooMany place) r (no_cause file (fault.TooMany place) (λ e. cc) cause) rules

-- the tokens are refused
pub parse_refuses : (file : List ℕ) (raised : Bool) (tokens : List Token) (f : ParseFault) → Tokenizes file tokens → IsRefused (lexemes_of file tokens) f
    → Refuses file raised (ruling_by (parse_fault_reason file tokens f))
parse_refuses file raised tokens NoMemory are refused = tt
parse_refuses file raised tokens (Unexpected k) are refused = λ limits. of_unit are refused
parse_refuses file raised tokens Ended are refused = λ limits. of_unit are refused
parse_refuses file raised tokens (TooDeep k) are refused = λ limits. of_unit are refused
parse_refuses file raised tokens (OutsideSubset k row) are refused = λ limits. of_unit are refused

-- the names are at fault
pub name_refuses : (file : List ℕ) (raised : Bool) (u : source.Unit) (f : NameFault) → Tokenizes file u.tokens.list.items → IsParsed file u.tokens.list.items (tree_of u)
    → IsFirstNameFault file u f → Refuses file raised (ruling_by (name_reason file u.tokens.list.items f))
name_refuses file raised u name_fault.NoMemory are parsed first = tt
name_refuses file raised u (name_fault.Unknown k) are parsed first = λ limits. of_names u (name_fault.Unknown k) are parsed first refl
name_refuses file raised u (name_fault.Twice k) are parsed first = λ limits. of_names u (name_fault.Twice k) are parsed first refl

-- the types are at fault; a typedef name that is declared again is a fault of the names
pub type_refuses : (file : List ℕ) (raised : Bool) (u : source.Unit) (names : Names) (f : TypeFault) → Tokenizes file u.tokens.list.items
    → IsParsed file u.tokens.list.items (tree_of u) → AreUnitNames file u names → IsFirstFault file u names f
    → Refuses file raised (ruling_by (type_reason file u.tokens.list.items f))
type_refuses file raised u names type_fault.NoMemory are parsed known first = tt
type_refuses file raised u names (type_fault.Twice k) are parsed known first = λ limits.
    of_names u (name_fault.Twice k) are parsed (twice_is_first file u names k known first) refl
type_refuses file raised u names (type_fault.Broken row k) are parsed known first = λ limits. of_types u names row k are parsed known first

-- ---- and with the run

-- what is ruled before the run is ruled
pub refused_rules : (limits : Limits) (file : List ℕ) (raised : Bool) (r : Ruling) → Refuses file raised r → Rules limits file raised r
refused_rules limits file raised ruling.Lawful refuses = absurd refuses
refused_rules limits file raised (ruling.Unlawful why) refuses = refuses limits
refused_rules limits file raised ruling.Stopped refuses = refuses
refused_rules limits file raised ruling.NoMemory refuses = tt

pub rules_in_all : (limits : Limits) (file : List ℕ) (raised : Bool) (r : Ruling) → Refuses file raised r ⊎ Rules limits file raised r → Rules limits file raised r
rules_in_all limits file raised r (inl refuses) = refused_rules limits file raised r refuses
rules_in_all limits file raised r (inr rules) = rules

-- the ruling on what the run of the file's unit came to
pub run_rules : (limits : Limits) (file : List ℕ) (typed : Typed) (raised : Bool) (outcome : Run) → IsTypedUnit file typed
    → (has_come outcome ≡ true → Comes typed limits outcome) → (outcome ≡ run.Stopped → raised ≡ true)
    → Rules limits file raised (run_ruling file typed outcome)
run_rules limits file typed raised (run.Ended status output steps) of_file comes stopped =
    record { typed = typed; of_file = of_file; ends = record { status = status; output = output; steps = steps; comes = comes refl } }
run_rules limits file typed raised (run.Undefined number node) of_file comes stopped =
    of_run typed (run.Undefined number node) of_file (comes refl) refl
run_rules limits file typed raised (run.Left number node) of_file comes stopped = of_run typed (run.Left number node) of_file (comes refl) refl
run_rules limits file typed raised run.Stopped of_file comes stopped = stopped refl
run_rules limits file typed raised run.NoMemory of_file comes stopped = tt

-- ---- no reason stands against a lawful file

pub parsed_by : (file : List ℕ) (tokens others : List Token) (tree : Tree) → Tokenizes file tokens → Tokenizes file others → IsParsed file tokens tree → IsParsed file others tree
parsed_by file tokens others tree are also parsed = subst (λ ts. IsParsed file ts tree) (one_list file tokens others are also) parsed

-- two units of a file have the same lists
pub same_lists : (file : List ℕ) (u v : source.Unit) → Tokenizes file u.tokens.list.items → Tokenizes file v.tokens.list.items
    → IsParsed file u.tokens.list.items (tree_of u) → IsParsed file v.tokens.list.items (tree_of v) → AreSameLists u v
same_lists file u v are also parsed and_so =
    let tokens = one_list file u.tokens.list.items v.tokens.list.items are also in
    let same = same_tree file v.tokens.list.items (tree_of u) (tree_of v)
    (parsed_by file u.tokens.list.items v.tokens.list.items (tree_of u) are also parsed) and_so in
    record { tokens = tokens; nodes = ap (λ tree. tree.nodes) same; items = ap (λ tree. tree.items) same }

-- and the same names
pub names_by : (file : List ℕ) (u v : source.Unit) (names other : Names) → Tokenizes file u.tokens.list.items → Tokenizes file v.tokens.list.items
    → IsParsed file u.tokens.list.items (tree_of u) → IsParsed file v.tokens.list.items (tree_of v)
    → AreUnitNames file u names → AreUnitNames file v other → names ≡ other
names_by file u v names other are also parsed and_so known as_well =
    let tokens = one_list file u.tokens.list.items v.tokens.list.items are also in
    let trees = same_tree file v.tokens.list.items (tree_of u) (tree_of v) (subst (λ ts. IsParsed file ts (tree_of u)) tokens parsed) and_so in
    one_names file v.tokens.list.items (tree_of v) names other
    (subst (λ t. AreItsNames file v.tokens.list.items t names) trees (subst (λ ts. AreItsNames file ts (tree_of u) names) tokens known)) as_well

-- so a file has one typed unit
pub one_unit : (file : List ℕ) (one other : Typed) → IsTypedUnit file one → IsTypedUnit file other → one ≡ other
one_unit file one other it also =
    let same = same_lists file it.unit also.unit it.tokenizes also.tokenizes it.parsed also.parsed in
    let names : it.names ≡ also.names =
    names_by file it.unit also.unit it.names also.names it.tokenizes also.tokenizes it.parsed also.parsed it.known also.known in
    one_typed_unit file it.unit also.unit also.names one other same
    (subst (λ names. IsTypedOf file it.unit names one) names it.checked) also.checked

-- which excludes the reasons that are found before its run
module _ (file : List ℕ) (typed : Typed) (it : IsTypedUnit file typed) where
  sound : IsSoundOf file it.unit it.names it.checked.checked
  sound = record { tree = it.checked.by.tree; is = it.checked.by.is; sound = it.checked.by.sound }

  pub no_tokens : (why : Reason) → IsTokenReason file why → ⊥
  no_tokens why reason = list_no_fault file it.unit.tokens.list.items reason.fault it.tokenizes reason.first

  pub no_refusal : (tokens : List Token) (refused : Refusal) → Tokenizes file tokens → FirstRefusal (lexemes_of file tokens) refused → ⊥
  no_refusal tokens refused are first =
      tree_is_not_refused (lexemes_of file tokens) (parsed_by file it.unit.tokens.list.items tokens (tree_of it.unit) it.tokenizes are it.parsed).is_tree first

  pub no_names : (u : source.Unit) (fault : NameFault) → Tokenizes file u.tokens.list.items → IsParsed file u.tokens.list.items (tree_of u)
      → IsFirstNameFault file u fault → ⊥
  no_names u fault are parsed first =
      no_name_fault file it.unit u it.names fault (same_lists file it.unit u it.tokenizes are it.parsed parsed) it.known
      (sound_repeats_none file it.unit it.names it.checked.checked sound) first

  pub no_types : (u : source.Unit) (names : Names) (row token : ℕ) → Tokenizes file u.tokens.list.items
      → IsParsed file u.tokens.list.items (tree_of u) → AreUnitNames file u names → IsFirstFault file u names (type_fault.Broken row token) → ⊥
  no_types u names row token are parsed known first =
      let same = same_lists file it.unit u it.tokenizes are it.parsed parsed in
      let one = names_by file it.unit u it.names names it.tokenizes are it.parsed parsed it.known known in
      no_fault file it.unit u names it.checked.checked (type_fault.Broken row token) same
      (subst (λ names. IsSoundOf file it.unit names it.checked.checked) one sound) first (λ none. cc)

-- and its run, within the same limits, one outcome; an end is no reason
no_end : (limits : Limits) (file : List ℕ) (typed other : Typed) (outcome : Run) (why : Reason) → IsTypedUnit file typed → IsTypedUnit file other
    → Ends limits typed → Comes other limits outcome → run_reason file other outcome ≡ Some why → ⊥
no_end limits file typed other outcome why it also ends comes is =
    let came : Comes typed limits outcome = subst (λ typed. Comes typed limits outcome) (sym (one_unit file typed other it also)) comes in
    let ended : run.Ended ends.status ends.output ends.steps ≡ outcome =
    one_meaning (program_of typed limits) (run.Ended ends.status ends.output ends.steps) outcome ends.comes came in
    let none : None ≡ Some why = ap (run_reason file other) ended ∙ is in
    cc

pub excludes : (limits : Limits) (file : List ℕ) (why : Reason) → IsReason limits file why → IsLawful limits file → ⊥
excludes limits file why (of_tokens it) lawful = no_tokens file lawful.typed lawful.of_file why it
excludes limits file _ (of_unit {tokens = tokens} {refused = refused} are first) lawful =
    no_refusal file lawful.typed lawful.of_file tokens refused are first
excludes limits file why (of_names u fault are parsed first is) lawful = no_names file lawful.typed lawful.of_file u fault are parsed first
excludes limits file _ (of_types u names row token are parsed known first) lawful =
    no_types file lawful.typed lawful.of_file u names row token are parsed known first
excludes limits file why (of_run typed outcome of_file comes is) lawful =
    no_end limits file lawful.typed typed outcome why lawful.of_file of_file lawful.ends comes is
