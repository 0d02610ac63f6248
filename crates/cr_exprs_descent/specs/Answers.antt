-- What the parser's functions answer, in terms of the machine's programs.
use Rattle.std.specs.Prelude.{◌≡◌, ℕ, ◌+◌, ◌-◌, ◌<◌, ◌≤◌, List, [], ◌∷◌, Option, None, Some, Result, Ok, Err, length, slice_get, slice_index, slice_index_or, option_to_list, reverse}
use Rattle.cr_syntax.specs.declared.node.Node.{Node}
use Rattle.cr_syntax.specs.Words.{Lexeme}
use Rattle.cr_syntax.specs.Scopes.{Scopes}
use Rattle.cr_syntax.specs.Trees.{Trees, none, trees_of}
use Rattle.cr_syntax.specs.Kept.{PartsAreBelow, AreBelow}
use Rattle.cr_syntax.specs.Spells.{AtMost}
use Rattle.cr_syntax.specs.Units.{most_levels, Refusal}
use Rattle.cr_syntax.specs.Units as u
use Rattle.cr_syntax_machine.specs.Machine.{Prog, Reply, Done, Failed, Cause, refusal_of, Runs}
use Rattle.cr_syntax_machine.specs.MachineBody.{body}
use Rattle.cr_exprs_descent.specs.Loose.{Replaces}
use Rattle.cr_exprs_descent.specs.declared.fault.ParseFault.{ParseFault}
use Rattle.cr_exprs_descent.specs.declared.fault.ParseFault.TheVariants.{NoMemory, Unexpected, Ended, TooDeep, OutsideSubset}
use Rattle.cr_exprs_descent.specs.declared.found.Found.{Found}
use Rattle.cr_exprs_descent.specs.declared.found.Listed.{Listed}
use Rattle.cr_exprs_descent.specs.declared.found.Optional.{Optional}

-- the machine's run within the limit on nesting
abbrev pub RunsTo : List Lexeme → Prog → Scopes → ℕ → Reply → Type 0
RunsTo ts p c i r = Runs body ts (AtMost most_levels) p c i r

-- the tree of a node
abbrev pub tree : List Node → ℕ → Trees
tree nodes k = slice_index_or (trees_of nodes) k none

-- the refusal that a fault is, none for want of memory
abbrev pub refusal_in : ParseFault → Option Refusal
refusal_in NoMemory = None
refusal_in (Unexpected k) = Some (u.Unexpected k)
refusal_in Ended = Some u.Ended
refusal_in (TooDeep k) = Some (u.TooDeep k)
refusal_in (OutsideSubset k row) = Some (u.OutsideSubset k row)

-- a fault that is the machine's refusal at token k, for this cause
pub record IsRefusal (fault : ParseFault) (x : Cause) (k : ℕ) : Type 0 where
  pub is : refusal_in fault ≡ Some (refusal_of x k)

-- A program fails, and its failure is this refusal. The token at which the machine sees it may stand behind the one refused.
pub record FailsSo (ts : List Lexeme) (p : Prog) (c : Scopes) (i : ℕ) (x : Refusal) : Type 0 where
  pub cause : Cause
  pub at : ℕ
  pub run : RunsTo ts p c i (Failed cause at)
  pub is : refusal_of cause at ≡ x

-- a program fails with this fault; want of memory says nothing
pub record Refuses (ts : List Lexeme) (p : Prog) (c : Scopes) (i : ℕ) (fault : ParseFault) : Type 0 where
  pub run : (x : Refusal) → refusal_in fault ≡ Some x → FailsSo ts p c i x

-- a program is done with these trees
pub record Gives (ts : List Lexeme) (p : Prog) (c : Scopes) (i : ℕ) (t : Trees) (e : Scopes) (j : ℕ) : Type 0 where
  pub run : RunsTo ts p c i (Done t e j)

-- what a program answers is what another one answers from there on
pub record Goes (ts : List Lexeme) (p : Prog) (c : Scopes) (i : ℕ) (q : Prog) (e : Scopes) (j : ℕ) : Type 0 where
  pub on : (r : Reply) → RunsTo ts q e j r → RunsTo ts p c i r

-- A result says what a program, begun so, comes to: at Ok a fact of the value, and else the program's failure.
abbrev pub CasesOf : {A : Type 0} → List Lexeme → Prog → Scopes → ℕ → (A → Type 0) → Result A ParseFault → Type 0
CasesOf ts p c i Q (Ok x) = Q x
CasesOf ts p c i Q (Err fault) = Refuses ts p c i fault

pub record Comes {A : Type 0} (ts : List Lexeme) (p : Prog) (c : Scopes) (i : ℕ) (Q : A → Type 0) (result : Result A ParseFault) : Type 0 where
  pub is : CasesOf ts p c i Q result

-- the trees of a value, and the token after them, are the program's
abbrev pub Answers : {A : Type 0} → List Lexeme → Prog → Scopes → ℕ → (A → Trees) → Scopes → (A → ℕ) → Result A ParseFault → Type 0
Answers ts p c i t e j result = Comes ts p c i (λ x. Gives ts p c i (t x) e (j x)) result

-- a node that was read
abbrev pub Reads : List Lexeme → Prog → Scopes → ℕ → List Node → Scopes → Result Found ParseFault → Type 0
Reads ts p c i nodes e result = Answers ts p c i (λ x. tree nodes x.node) e (λ x. x.next) result

-- the nodes of a list stay as they are where others are appended
pub record Keeps (old new : List Node) : Type 0 where
  pub longer : length old ≤ length new
  pub same : (k : ℕ) → k < length old → slice_get new k ≡ slice_get old k

-- one node more, the last of all, with the loose nodes that are taken for its parts; the parts of each are below it
pub record IsPushed (old new : List Node) (taken : List ℕ) (x : Found) : Type 0 where
  pub last : x.node ≡ length old
  pub grows : length new ≡ length old + 1
  pub keeps : Keeps old new
  pub below : PartsAreBelow new
  pub kept : (tokens : ℕ) → x.next ≤ tokens → Replaces tokens old new taken (x.node ∷ [])

-- A node that was read of so many tokens, from token `at` on: the last of all nodes, the old ones being kept. It is loose, in the
-- place of the old nodes that are taken.
pub record IsPlaced (tokens at : ℕ) (old new : List Node) (taken : List ℕ) (x : Found) : Type 0 where
  pub last : x.node + 1 ≡ length new
  pub grows : length old < length new
  pub keeps : Keeps old new
  pub below : PartsAreBelow new
  pub kept : Replaces tokens old new taken (x.node ∷ [])
  pub from : at < x.next
  pub to : x.next ≤ tokens

-- a row of so many nodes: it isn't empty, and its last one is the last of all
pub record IsRow (row : List ℕ) (nodes : ℕ) : Type 0 where
  pub below : AreBelow row nodes
  pub some : 0 < length row
  pub last : slice_index row (length row - 1) + 1 ≡ nodes

-- the last of all nodes, in the place of those that are taken
pub record IsGathered (old new : List Node) (taken : List ℕ) (x : Found) : Type 0 where
  pub last : x.node + 1 ≡ length new
  pub keeps : Keeps old new
  pub below : PartsAreBelow new
  pub kept : (tokens : ℕ) → x.next ≤ tokens → Replaces tokens old new taken (x.node ∷ [])

-- the same of what stood before so many nodes were read, all of which may go
pub record IsRegathered (before : ℕ) (old new : List Node) (taken : List ℕ) (x : Found) : Type 0 where
  pub last : x.node + 1 ≡ length new
  pub grows : before < length new
  pub below : PartsAreBelow new
  pub keeps : (start : List Node) → length start ≡ before → Keeps start old → Keeps start new
  pub kept : (start : List Node) → length start ≡ before → Keeps start old → (tokens : ℕ) → x.next ≤ tokens → Replaces tokens start old [] taken → Replaces tokens start new [] (x.node ∷ [])

-- as `IsPlaced`, where the node may be one of the old ones
pub record IsGrown (tokens at : ℕ) (old new : List Node) (taken : List ℕ) (x : Found) : Type 0 where
  pub last : x.node + 1 ≡ length new
  pub keeps : Keeps old new
  pub below : PartsAreBelow new
  pub kept : Replaces tokens old new taken (x.node ∷ [])
  pub from : at < x.next
  pub to : x.next ≤ tokens

-- nodes that were read as a list, and a node or none
pub record IsListed (tokens at : ℕ) (old new : List Node) (x : Listed) : Type 0 where
  pub row : IsRow x.parts (length new)
  pub keeps : Keeps old new
  pub below : PartsAreBelow new
  pub kept : Replaces tokens old new [] (reverse x.parts)
  pub from : at < x.next
  pub to : x.next ≤ tokens

pub record IsOptional (tokens at : ℕ) (old new : List Node) (x : Optional) : Type 0 where
  pub row : AreBelow (option_to_list x.node) (length new)
  pub keeps : Keeps old new
  pub below : PartsAreBelow new
  pub kept : Replaces tokens old new [] (option_to_list x.node)
  pub from : at < x.next
  pub to : x.next ≤ tokens

-- A loop's program, which takes the trees so far, goes on with those of a longer node.
abbrev pub Lengthens : List Lexeme → (Trees → Prog) → Trees → Scopes → ℕ → List Node → Scopes → Result Found ParseFault → Type 0
Lengthens ts p t c i nodes e result = Comes ts (p t) c i (λ x. Goes ts (p t) c i (p (tree nodes x.node)) e x.next) result

-- It does, or comes to the rest of its program where nothing makes the node longer.
abbrev pub IsLonger : List Lexeme → (Trees → Prog) → Trees → Prog → Scopes → ℕ → List Node → Scopes → Option Found → Type 0
IsLonger ts p t rest c i nodes e None = Goes ts (p t) c i rest c i
IsLonger ts p t rest c i nodes e (Some x) = Goes ts (p t) c i (p (tree nodes x.node)) e x.next

abbrev pub MayLengthen : List Lexeme → (Trees → Prog) → Trees → Prog → Scopes → ℕ → List Node → Scopes → Result (Option Found) ParseFault → Type 0
MayLengthen ts p t rest c i nodes e result = Comes ts (p t) c i (IsLonger ts p t rest c i nodes e) result

-- a program goes on with that of a node
abbrev pub Finishes : List Lexeme → Prog → (Trees → Prog) → Scopes → ℕ → List Node → Result Found ParseFault → Type 0
Finishes ts q p c i nodes result = Comes ts q c i (λ x. Goes ts q c i (p (tree nodes x.node)) c x.next) result
