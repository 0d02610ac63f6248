-- Which files are programs of the subset, and why others are not.
use Rattle.std.specs.Prelude.{◌≡◌, ℕ, ◌-◌, Bool, true, List, Option, None, Some, length, slice_get}
use Rattle.cr_tokens.specs.declared.token.Token.{Token}
use Rattle.cr_tokens.specs.Places.{line_of}
use Rattle.cr_tokens.specs.Tokens.{Tokenizes}
use Rattle.cr_syntax.specs.declared.unit.Unit as source
use Rattle.cr_syntax.specs.Units.{Refusal, FirstRefusal}
use Rattle.cr_syntax.specs.Units as refusal
use Rattle.cr_syntax.specs.Words.{lexemes_of}
use Rattle.cr_exprs_descent.specs.Answers.{refusal_in}
use Rattle.cr_exprs_descent.specs.declared.fault.ParseFault.{ParseFault}
use Rattle.cr_lawful_analysis.specs.Analysis.{IsParsed, tree_of}
use Rattle.cr_scopes.specs.Units.{AreUnitNames}
use Rattle.cr_scopes.specs.declared.names.Names.{Names}
use Rattle.cr_scopes.specs.declared.fault.NameFault.{NameFault}
use Rattle.cr_scopes.specs.declared.fault.NameFault.TheVariants.{NoMemory, Unknown, Twice}
use Rattle.cr_check.specs.Checked.{IsFirstFault as IsFirstTypeFault}
use Rattle.cr_check.specs.NameFaults.{IsFirstNameFault}
use Rattle.cr_check.specs.declared.fault.TypeFault.{TypeFault}
use Rattle.cr_check.specs.declared.fault.TypeFault.TheVariants as type_fault
use Rattle.cr_typed.specs.declared.typed.Typed.{Typed}
use Rattle.cr_typed_unit.specs.Typed.{IsTypedOf}
use Rattle.cr_meaning.specs.declared.run.Limits.{Limits}
use Rattle.cr_meaning.specs.declared.run.Run.{Run}
use Rattle.cr_meaning.specs.declared.run.Run.TheVariants as run
use Rattle.cr_meaning_operations.specs.Laws.{Comes}
use Rattle.cr_cursor.specs.TokenLaw.{IsTokenReason}
use Rattle.cr_cursor.specs.declared.law.Reason.{Reason}
use Rattle.cr_cursor.specs.declared.law.Reason.TheVariants as reason
use Rattle.cr_cursor.specs.declared.law.Ruling.{Ruling}
use Rattle.cr_cursor.specs.declared.law.Ruling.TheVariants as ruling

-- ---- programs of the subset

-- The file's tokens are those of a unit whose names are known where they are used, and declared once in their scope and name space where
-- they may be (C11 6.2.1 to 6.2.3, 6.7p3), and which breaks no constraint; and it is typed so.
pub record IsTypedUnit (file : List ℕ) (typed : Typed) : Type 0 where
  pub unit : source.Unit
  pub names : Names
  pub tokenizes : Tokenizes file unit.tokens.list.items
  pub parsed : IsParsed file unit.tokens.list.items (tree_of unit)
  pub known : AreUnitNames file unit names
  pub checked : IsTypedOf file unit names typed

-- run within limits, it ends by itself (5.1.2.2.3): no behaviour that is met is undefined (3.4.3, 4p2), and it stays in the profile
pub record Ends (limits : Limits) (typed : Typed) : Type 0 where
  pub status : ℕ
  pub output : List ℕ
  pub steps : ℕ
  pub comes : Comes typed limits (run.Ended status output steps)

-- The file is a unit that breaks no constraint, and its run ends.
pub record IsLawful (limits : Limits) (file : List ℕ) : Type 0 where
  pub typed : Typed
  pub of_file : IsTypedUnit file typed
  pub ends : Ends limits typed

-- so many steps; calls within one another, cells that live at once, and bytes of output as the profile has them
abbrev pub limits_of : ℕ → Limits
limits_of steps = record { steps = steps; depth = 256; cells = 1048576; output = 65536 }

-- ---- reasons against a file

-- the line on which a token begins; 1 where there is no such token
abbrev pub token_line : List ℕ → List Token → ℕ → ℕ
token_line file tokens k = elim (slice_get tokens k) [ None ↦ 1 | Some token ↦ line_of file token.start ]

-- the numbers of the parser's refusals, and their lines: where the tokens end too early, that of the last one
abbrev pub parse_reason : List ℕ → List Token → Refusal → Reason
parse_reason file tokens (refusal.Unexpected k) = reason.Parse 1 (token_line file tokens k)
parse_reason file tokens refusal.Ended = reason.Parse 2 (token_line file tokens (length tokens - 1))
parse_reason file tokens (refusal.TooDeep k) = reason.Parse 3 (token_line file tokens k)
parse_reason file tokens (refusal.OutsideSubset k row) = reason.Parse 4 (token_line file tokens k)

-- those of the faults of names; want of memory is none
abbrev pub name_reason : List ℕ → List Token → NameFault → Option Reason
name_reason file tokens NoMemory = None
name_reason file tokens (Unknown k) = Some (reason.Name 1 (token_line file tokens k))
name_reason file tokens (Twice k) = Some (reason.Name 2 (token_line file tokens k))

-- those of the faults of types: a typedef name that is declared again with another type is one of names
abbrev pub type_reason : List ℕ → List Token → TypeFault → Option Reason
type_reason file tokens type_fault.NoMemory = None
type_reason file tokens (type_fault.Twice k) = Some (reason.Name 2 (token_line file tokens k))
type_reason file tokens (type_fault.Broken row k) = Some (reason.Typing row (token_line file tokens k))

-- the line on which a node's first token begins; 1 where there is no such node
abbrev pub node_line : List ℕ → Typed → ℕ → ℕ
node_line file typed k = elim (slice_get typed.nodes k) [ None ↦ 1 | Some node ↦ token_line file typed.tokens node.first ]

-- those of what a run comes to; an end is none
abbrev pub run_reason : List ℕ → Typed → Run → Option Reason
run_reason file typed (run.Undefined number node) = Some (reason.Undefined number (node_line file typed node))
run_reason file typed (run.Left number node) = Some (reason.Left number (node_line file typed node))
run_reason file typed other = None

-- The first reason against a file: its tokens have a first fault; or they are no unit, and have a first refusal; or the names of its unit have
-- a first fault, which may be a typedef name that is declared again with another type; or it breaks a constraint; or its run meets undefined
-- behaviour, or leaves the profile.
pub data IsReason (limits : Limits) (file : List ℕ) : Reason → Type 0 where
  of_tokens : {why : Reason} → IsTokenReason file why → IsReason limits file why
  of_unit : {tokens : List Token} {refused : Refusal} → Tokenizes file tokens → FirstRefusal (lexemes_of file tokens) refused
      → IsReason limits file (parse_reason file tokens refused)
  of_names : (u : source.Unit) (fault : NameFault) {why : Reason} → Tokenizes file u.tokens.list.items
      → IsParsed file u.tokens.list.items (tree_of u) → IsFirstNameFault file u fault
      → name_reason file u.tokens.list.items fault ≡ Some why → IsReason limits file why
  of_types : (u : source.Unit) (names : Names) (row token : ℕ) → Tokenizes file u.tokens.list.items
      → IsParsed file u.tokens.list.items (tree_of u) → AreUnitNames file u names
      → IsFirstTypeFault file u names (type_fault.Broken row token)
      → IsReason limits file (reason.Typing row (token_line file u.tokens.list.items token))
  of_run : (typed : Typed) (outcome : Run) {why : Reason} → IsTypedUnit file typed → Comes typed limits outcome
      → run_reason file typed outcome ≡ Some why → IsReason limits file why

-- ---- what is ruled

-- what a ruling says of a file within limits; Stopped, that the stop was raised
abbrev pub Rules : Limits → List ℕ → Bool → Ruling → Type 0
Rules limits file raised ruling.Lawful = IsLawful limits file
Rules limits file raised (ruling.Unlawful why) = IsReason limits file why
Rules limits file raised ruling.Stopped = raised ≡ true
Rules limits file raised ruling.NoMemory = Unit {0}

-- what one says that is made before the run: it is a reason, whatever the limits; Stopped, that the stop was raised
abbrev pub Refuses : List ℕ → Bool → Ruling → Type 0
Refuses file raised (ruling.Unlawful why) = (limits : Limits) → IsReason limits file why
Refuses file raised ruling.Stopped = raised ≡ true
Refuses file raised ruling.NoMemory = Unit {0}
Refuses file raised ruling.Lawful = ⊥

-- the reason that a fault of the parser is, none for want of memory
abbrev pub reason_if : List ℕ → List Token → Option Refusal → Option Reason
reason_if file tokens None = None
reason_if file tokens (Some refused) = Some (parse_reason file tokens refused)

abbrev pub parse_fault_reason : List ℕ → List Token → ParseFault → Option Reason
parse_fault_reason file tokens fault = reason_if file tokens (refusal_in fault)

-- where there is no reason, memory was wanting
abbrev pub ruling_by : Option Reason → Ruling
ruling_by None = ruling.NoMemory
ruling_by (Some why) = ruling.Unlawful why

-- the ruling on what a run came to
abbrev pub run_ruling : List ℕ → Typed → Run → Ruling
run_ruling file typed (run.Ended status output steps) = ruling.Lawful
run_ruling file typed run.Stopped = ruling.Stopped
run_ruling file typed other = ruling_by (run_reason file typed other)

-- where this is the reason against the file, it is the one that is ruled, unless there was a stop, or memory was wanting
abbrev pub RefusesFor : Reason → Ruling → Type 0
RefusesFor why ruling.Lawful = ⊥
RefusesFor why (ruling.Unlawful given) = given ≡ why
RefusesFor why ruling.Stopped = Unit {0}
RefusesFor why ruling.NoMemory = Unit {0}
