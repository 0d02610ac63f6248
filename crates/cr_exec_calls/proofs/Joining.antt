-- Arguments that are joined to tell whether two of them conflict, the last one first.
use Rattle.std.proofs.Common.{◌≡◌, ℕ, suc, ◌+◌, Bool, true, false, ◌||◌, Result, Ok, Err, List, [], ◌∷◌, ◌++◌, map, length, sym, ap, ap₂, ◌∙◌, subst, append_assoc, append-nil}
use Rattle.std.specs.List.{AllZip}
use Rattle.std.proofs.lemmas.Bool.{or_left}
use Rattle.cr_footprint.specs.Foot.{sets, no_events}
use Rattle.cr_footprint.specs.declared.foot.Foot.{Foot}
use Rattle.cr_memory.specs.declared.value.Trap.{Trap}
use Rattle.cr_memory.specs.declared.value.Trap.TheVariants.{Undefined}
use Rattle.cr_meaning.specs.Events.{Event, Arguments, clash, below, gathered, operands_clash}
use Rattle.cr_meaning.specs.World.{Answer, part}
use Rattle.cr_meaning.specs.Nodes.{events_of}
use Rattle.cr_eval_join.specs.Feet.{Argues}
use Rattle.cr_eval_join.specs.Parts.{IsFootOf}
use Rattle.cr_eval_join.specs.declared.part.Part.{Part}
use Rattle.cr_exec_turns.specs.declared.held.Held.{Held}
use Rattle.cr_exec_turns.specs.declared.held.Held.TheVariants as held
use Rattle.cr_exec_turns.specs.Held.{shows}
use Rattle.cr_exec_calls.specs.Clashes.{argument, Clashes}
use Rattle.cr_exec_calls.specs.Taken.{AddsHeld, AreTogether, LastTogether}
use Rattle.cr_exec_calls.proofs.Taking.{none_together, clash_behind}

pub last_none : (done : List Held) (foot : Foot) → sets foot ≡ no_events → LastTogether done done foot
last_none done foot e = record { later = []; whole = sym (append-nil done); together = λ number. none_together number foot e }

-- ---- an argument's answer

adds_by : (given : Part) (foot later : Foot) (result : Result Foot Trap) → sets foot ≡ sets given.foot
    → ((number : ℕ) (events : List Event) (rest : List (List Event)) → IsFootOf foot events → IsFootOf later (gathered Arguments (suc number) rest) → Argues number events rest result)
    → (number : ℕ) (answer : Answer) (rest : List (List Event)) → shows (held.Part given) answer → IsFootOf later (gathered Arguments (suc number) rest)
    → Argues number (events_of answer) rest result
adds_by given foot later result same f number (part v events) rest s l = f number events rest (record { same = same ∙ s.1.same }) l
adds_by given foot later result same f number other rest s l = absurd s

pub adds_held : (h : Held) (given : Part) (foot later : Foot) (result : Result Foot Trap) → h ≡ held.Part given → sets foot ≡ sets given.foot
    → ((number : ℕ) (events : List Event) (rest : List (List Event)) → IsFootOf foot events → IsFootOf later (gathered Arguments (suc number) rest) → Argues number events rest result)
    → AddsHeld h later result
adds_held h given foot later result is same f =
    let P : Held → Type 0 = λ x. AddsHeld x later result in
    subst P (sym is) (record { adds = adds_by given foot later result same f })

-- ---- one more

module _ (h : Held) (later : List Held) (before foot : Foot) (adds : AddsHeld h before (Ok foot)) (together : (number : ℕ) → AreTogether number later before) where
  apart_too : (number : ℕ) (answers : List Answer) → AllZip shows (h ∷ later) answers → operands_clash Arguments number (map events_of answers) ≡ false
  apart_too number [] z = absurd z
  apart_too number (a ∷ answers) z =
      ap₂ (λ (x : Bool). λ (y : Bool). x || y) (adds.adds number a (map events_of answers) z.0 ((together (suc number)).joined answers z.1)).0 ((together (suc number)).apart answers z.1)

  joined_too : (number : ℕ) (answers : List Answer) → AllZip shows (h ∷ later) answers → IsFootOf foot (gathered Arguments number (map events_of answers))
  joined_too number [] z = absurd z
  joined_too number (a ∷ answers) z = (adds.adds number a (map events_of answers) z.0 ((together (suc number)).joined answers z.1)).1

pub last_more : (all left rest : List Held) (h : Held) (before foot : Foot) → LastTogether all left before → left ≡ rest ++ h ∷ [] → AddsHeld h before (Ok foot) → LastTogether all rest foot
last_more all left rest h before foot some e adds = record {
  later = h ∷ some.later;
  whole = some.whole ∙ (ap (λ (l : List Held). l ++ some.later) e ∙ append_assoc rest (h ∷ []) some.later);
  together = λ number. record { apart = apart_too h some.later before foot adds some.together number; joined = joined_too h some.later before foot adds some.together number };
}

-- ---- a conflict

conflict_here : (number k : ℕ) (h : Held) (later : List Held) (before : Foot) → AddsHeld h before (Err (Undefined k)) → ((n : ℕ) → AreTogether n later before)
    → (answers : List Answer) → AllZip shows (h ∷ later) answers → operands_clash Arguments number (map events_of answers) ≡ true
conflict_here number k h later before adds together [] z = absurd z
conflict_here number k h later before adds together (a ∷ answers) z =
    or_left (clash (below (argument number) (events_of a)) (gathered Arguments (suc number) (map events_of answers))) (operands_clash Arguments (suc number) (map events_of answers))
    (adds.adds number a (map events_of answers) z.0 ((together (suc number)).joined answers z.1)).1

pub last_conflict : (all left rest : List Held) (h : Held) (before : Foot) (k : ℕ) → LastTogether all left before → left ≡ rest ++ h ∷ [] → AddsHeld h before (Err (Undefined k))
    → Clashes all true
last_conflict all left rest h before k some e adds =
    let P : List Held → Type 0 = λ l. Clashes l true in
    subst P (sym (some.whole ∙ (ap (λ (l : List Held). l ++ some.later) e ∙ append_assoc rest (h ∷ []) some.later)))
    (record { clashes = λ number answers z. clash_behind number rest (h ∷ some.later) answers z (conflict_here (length rest + number) k h some.later before adds some.together) })

-- ---- no conflict

pub last_all : (all left : List Held) (foot : Foot) → LastTogether all left foot → left ≡ [] → Clashes all false
last_all all left foot some e =
    let P : List Held → Type 0 = λ l. Clashes l false in
    subst P (sym (some.whole ∙ ap (λ (l : List Held). l ++ some.later) e)) (record { clashes = λ number answers z. (some.together number).apart answers z })
