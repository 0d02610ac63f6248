-- The answers of a node's parts, and the worlds in which the node goes on.
use Rattle.std.proofs.Common.{◌≡◌, refl, sym, ◌∙◌, subst, arith, inl, inr}
use Rattle.std.specs.Prelude.{ℕ, zero, suc, ◌+◌, ◌≤◌, Bool, true, false, Option, Some, None, List, [], ◌∷◌, ◌++◌, length, replicate, ◌⊎◌}
use Rattle.cr_memory.specs.Memory.{Memory}
use Rattle.cr_memory.specs.Continues.{Continues}
use Rattle.cr_memory.proofs.Continuing.{continues-onward, continues-refl}
use Rattle.cr_meaning.specs.World.{Program, World, Binding, Answer, part, next, returned}
use Rattle.cr_meaning.specs.Nodes.{value_of}
use Rattle.cr_meaning.specs.Turns.{absent, last_of}
use Rattle.cr_meaning.specs.declared.op.Work.{Work}
use Rattle.cr_meaning.specs.declared.op.Work.TheVariants as work
use Rattle.cr_meaning_soundness.specs.Sorts.{Sort, statement, sort_of, Fits, Answers, IsAmong, IsWellFormed, Keeps}
use Rattle.cr_meaning_soundness.specs.Blocks.{IsAbove, opened, more, Stands}
use Rattle.cr_meaning_soundness.specs.Scopes.{IsPart, IsBound, AreBound}
use Rattle.cr_meaning_soundness.proofs.Works.{fits_later}
use Rattle.cr_meaning_soundness.proofs.Worlds.{bound_more}

-- ---- answers

pub record FromPart (p : Program) (sorts : ℕ → Option Sort) (Part : ℕ → ℕ → Type 0) (memory : Memory) (k : ℕ) (answer : Answer) : Type 0 where
  pub node : ℕ
  pub sort : Sort
  pub is_part : Part k node
  pub has : sorts node ≡ Some sort
  pub fits : Answers p memory sort answer

abbrev pub AreFrom : Program → (ℕ → Option Sort) → (ℕ → ℕ → Type 0) → Memory → ℕ → List Answer → Type 0
AreFrom p sorts Part memory k [] = Unit {0}
AreFrom p sorts Part memory k (answer ∷ rest) = FromPart p sorts Part memory k answer × AreFrom p sorts Part memory (suc k) rest

-- answers of no part: for the entry of a block, for items that are jumped over, and for an expression of a `for` that isn't there
abbrev pub IsFiller : Work → ℕ → Answer → Type 0
IsFiller (work.For objects first control step rest) zero answer = answer ≡ absent
IsFiller (work.For objects first control step rest) (suc zero) answer = (answer ≡ absent) × (control ≡ None)
IsFiller (work.Switch kind rest objects cases other labels) (suc k) answer = answer ≡ next
IsFiller (work.Block objects labels) k answer = answer ≡ next
IsFiller (work.Program objects parameters strings rest) zero answer = answer ≡ next
IsFiller other k answer = ⊥

abbrev pub IsGiven : Program → (ℕ → Option Sort) → Work → List ℕ → Memory → ℕ → Answer → Type 0
IsGiven p sorts w parts memory k answer = FromPart p sorts (IsPart w parts) memory k answer ⊎ IsFiller w k answer

abbrev pub AreGiven : Program → (ℕ → Option Sort) → Work → List ℕ → Memory → ℕ → List Answer → Type 0
AreGiven p sorts w parts memory k [] = Unit {0}
AreGiven p sorts w parts memory k (answer ∷ rest) = IsGiven p sorts w parts memory k answer × AreGiven p sorts w parts memory (suc k) rest

pub answers_later : (p : Program) (old new : Memory) (sort : Sort) (answer : Answer) → Continues old new → Answers p old sort answer → Answers p new sort answer
answers_later p old new (statement exits) (returned value) c h = (fits_later old new (sort_of p exits.result) value c h.0, h.1)
answers_later p old new (statement exits) (part value events) c h = absurd h
answers_later p old new (statement exits) other c h = h
answers_later p old new sort (part value events) c h = fits_later old new sort value c h
answers_later p old new sort other c h = absurd h

pub value_fits : (p : Program) (memory : Memory) (sort : Sort) (answer : Answer) → Answers p memory sort answer → Fits memory sort (value_of answer)
value_fits p memory (statement exits) (part value events) h = absurd h
value_fits p memory (statement exits) other h = tt
value_fits p memory sort (part value events) h = h
value_fits p memory sort other h = absurd h

given_once : (p : Program) (sorts : ℕ → Option Sort) (w : Work) (parts : List ℕ) (old new : Memory) (k : ℕ) (answer : Answer) → Continues old new
    → IsGiven p sorts w parts old k answer → IsGiven p sorts w parts new k answer
given_once p sorts w parts old new k answer c (inl g) =
    inl (record { node = g.node; sort = g.sort; is_part = g.is_part; has = g.has; fits = answers_later p old new g.sort answer c g.fits })
given_once p sorts w parts old new k answer c (inr filler) = inr filler

pub given_later : (p : Program) (sorts : ℕ → Option Sort) (w : Work) (parts : List ℕ) (old new : Memory) (k : ℕ) (done : List Answer) → Continues old new
    → AreGiven p sorts w parts old k done → AreGiven p sorts w parts new k done
given_later p sorts w parts old new k [] c all = tt
given_later p sorts w parts old new k (answer ∷ rest) c all =
    (given_once p sorts w parts old new k answer c all.0, given_later p sorts w parts old new (suc k) rest c all.1)

pub one_more : (p : Program) (sorts : ℕ → Option Sort) (w : Work) (parts : List ℕ) (memory : Memory) (k : ℕ) (done : List Answer) (answer : Answer)
    → AreGiven p sorts w parts memory k done → IsGiven p sorts w parts memory (k + length done) answer → AreGiven p sorts w parts memory k (done ++ answer ∷ [])
one_more p sorts w parts memory k [] answer all h =
    let P : ℕ → Type 0 = λ n. IsGiven p sorts w parts memory n answer in (subst P (omega arith) h, tt)
one_more p sorts w parts memory k (first ∷ rest) answer all h =
    let P : ℕ → Type 0 = λ n. IsGiven p sorts w parts memory n answer in
    (all.0, one_more p sorts w parts memory (suc k) rest answer all.1 (subst P (omega arith) h))

-- the last one
pub last_given : (p : Program) (sorts : ℕ → Option Sort) (w : Work) (parts : List ℕ) (memory : Memory) (k : ℕ) (first : Answer) (rest : List Answer)
    → AreGiven p sorts w parts memory k (first ∷ rest) → IsGiven p sorts w parts memory (k + length rest) (last_of first rest)
last_given p sorts w parts memory k first [] all =
    let P : ℕ → Type 0 = λ n. IsGiven p sorts w parts memory n first in subst P (omega arith) all.0
last_given p sorts w parts memory k first (second ∷ rest) all =
    let P : ℕ → Type 0 = λ n. IsGiven p sorts w parts memory n (last_of second rest) in
    subst P (omega arith) (last_given p sorts w parts memory (suc k) second rest all.1)

-- fillers
pub all_filled : (p : Program) (sorts : ℕ → Option Sort) (w : Work) (parts : List ℕ) (memory : Memory) (k n : ℕ) → ((i : ℕ) → k ≤ i → IsFiller w i next)
    → AreGiven p sorts w parts memory k (replicate n next)
all_filled p sorts w parts memory k zero h = tt
all_filled p sorts w parts memory k (suc n) h =
    (inr (h k (omega arith)), all_filled p sorts w parts memory (suc k) n (λ i below. h i (omega arith)))

-- the answers of an expression's node are all of parts
pub unfilled : (p : Program) (sorts : ℕ → Option Sort) (w : Work) (parts : List ℕ) (Part : ℕ → ℕ → Type 0) (memory : Memory) (k : ℕ) (done : List Answer)
    → ((i : ℕ) (answer : Answer) → IsFiller w i answer → ⊥) → ((i node : ℕ) → IsPart w parts i node → Part i node)
    → AreGiven p sorts w parts memory k done → AreFrom p sorts Part memory k done
unfilled p sorts w parts Part memory k [] none is all = tt
unfilled p sorts w parts Part memory k (answer ∷ rest) none is all = (one all.0, unfilled p sorts w parts Part memory (suc k) rest none is all.1)
  where
    one : IsGiven p sorts w parts memory k answer → FromPart p sorts Part memory k answer
    one (inl g) = record { node = g.node; sort = g.sort; is_part = is k g.node g.is_part; has = g.has; fits = g.fits }
    one (inr filler) = absurd (none k answer filler)

-- ---- worlds

-- in the world in which the node was reached, but for what its parts did
pub record Beside (p : Program) (base world : World) : Type 0 where
  pub well : IsWellFormed p world
  pub continues : Continues base.memory world.memory
  pub bindings : world.bindings ≡ base.bindings

-- with its own objects entered
pub record Inside (p : Program) (entered : List ℕ) (base world : World) : Type 0 where
  pub stands : Stands p base world
  pub all_bound : AreBound entered world.bindings

abbrev pub At : Program → List ℕ → Bool → World → World → Type 0
At p entered true base world = Inside p entered base world
At p entered false base world = Beside p base world

pub at_well : (p : Program) (entered : List ℕ) (b : Bool) (base world : World) → At p entered b base world → IsWellFormed p world
at_well p entered true base world h = h.stands.well
at_well p entered false base world h = h.well

pub beside_itself : (p : Program) (world : World) → IsWellFormed p world → Beside p world world
beside_itself p world well = record { well = well; continues = continues-refl world.memory; bindings = refl }

pub stands_onward : (p : Program) (base s t : World) (sort : Sort) (answer : Answer) → Stands p base s → Keeps p s t sort answer → Stands p base t
stands_onward p base s t sort answer h k =
    let F : List Binding → Type 0 = λ b. IsAbove (length base.memory.objects) base.bindings b in
    record { well = k.well_formed; continues = continues-onward base.memory s.memory t.memory h.continues k.continues; above = subst F (sym k.bindings) h.above }

pub at_onward : (p : Program) (entered : List ℕ) (b : Bool) (base s t : World) (sort : Sort) (answer : Answer) → At p entered b base s → Keeps p s t sort answer → At p entered b base t
at_onward p entered true base s t sort answer h k =
    let F : List Binding → Type 0 = λ b. AreBound entered b in
    record { stands = stands_onward p base s t sort answer h.stands k; all_bound = subst F (sym k.bindings) h.all_bound }
at_onward p entered false base s t sort answer h k =
    record { well = k.well_formed; continues = continues-onward base.memory s.memory t.memory h.continues k.continues; bindings = k.bindings ∙ h.bindings }

-- a block that begins beside stands in the world in which its node was reached
lower : (count fewer : ℕ) (base bindings : List Binding) → fewer ≤ count → IsAbove count base bindings → IsAbove fewer base bindings
lower count fewer base bindings few (opened) = opened
lower count fewer base bindings few (more node object rest below above) = more node object rest (omega arith) (lower count fewer base rest few above)

pub stands_beside : (p : Program) (base s t : World) → Beside p base s → Stands p s t → Stands p base t
stands_beside p base s t b h =
    let F : List Binding → Type 0 = λ bindings. IsAbove (length base.memory.objects) bindings t.bindings in
    record {
      well = h.well;
      continues = continues-onward base.memory s.memory t.memory b.continues h.continues;
      above = subst F b.bindings (lower (length s.memory.objects) (length base.memory.objects) s.bindings t.bindings b.continues.entered h.above);
    }

-- what is kept beside is kept
pub keeps_beside : (p : Program) (base s t : World) (own : Sort) (answer : Answer) → Beside p base s → Keeps p s t own answer → Keeps p base t own answer
keeps_beside p base s t own answer b k =
    record { fits = k.fits; well_formed = k.well_formed; continues = continues-onward base.memory s.memory t.memory b.continues k.continues; bindings = k.bindings ∙ b.bindings }

-- ---- objects that are there

bound_above : (count declared : ℕ) (base bindings : List Binding) → IsAbove count base bindings → IsBound declared base → IsBound declared bindings
bound_above count declared base bindings (opened) h = h
bound_above count declared base bindings (more node object rest below above) h = bound_more node object declared rest (bound_above count declared base rest above h)

pub at_bound : (p : Program) (entered : List ℕ) (b : Bool) (base world : World) (declared : ℕ) → At p entered b base world → IsBound declared base.bindings → IsBound declared world.bindings
at_bound p entered true base world declared h there = bound_above (length base.memory.objects) declared base.bindings world.bindings h.stands.above there
at_bound p entered false base world declared h there = let F : List Binding → Type 0 = λ b. IsBound declared b in subst F (sym h.bindings) there

pub at_entered : (p : Program) (entered : List ℕ) (b : Bool) (base world : World) (declared : ℕ) → At p entered b base world → b ≡ true → IsAmong declared entered → IsBound declared world.bindings
at_entered p entered true base world declared h e among = h.all_bound declared among
at_entered p entered false base world declared h e among = absurd (cc e)
