-- Arguments that are taken off the stack, the last one first.
use Rattle.std.proofs.Common.{◌≡◌, ℕ, suc, ◌+◌, Bool, true, false, ◌||◌, Result, Ok, Err, List, [], ◌∷◌, ◌++◌, map, length, reverse, refl, sym, ap, ap₂, ◌∙◌, subst, append_assoc, append-nil, arith}
use Rattle.std.specs.List.{AllZip}
use Rattle.std.proofs.lemmas.Bool.{or_left, or_right}
use Rattle.std.proofs.lemmas.List.{reverse-append, length-append}
use Rattle.cr_footprint.specs.Foot.{Sets, sets, no_events}
use Rattle.cr_footprint.specs.declared.foot.Foot.{Foot}
use Rattle.cr_memory.specs.declared.value.Trap.{Trap}
use Rattle.cr_memory.specs.declared.value.Trap.TheVariants.{Undefined, Left, NoMemory}
use Rattle.cr_meaning.specs.Events.{Event, Arguments, clash, below, gathered, operands_clash}
use Rattle.cr_meaning.specs.World.{Answer, part}
use Rattle.cr_meaning.specs.Nodes.{events_of}
use Rattle.cr_meaning.specs.declared.value.Value.{Value}
use Rattle.cr_meaning.proofs.Merging.{nothing_has_no_sets}
use Rattle.cr_eval_join.specs.Feet.{Argues}
use Rattle.cr_eval_join.specs.Parts.{IsFootOf}
use Rattle.cr_eval_join.specs.declared.part.Part.{Part}
use Rattle.cr_exec_turns.specs.declared.held.Held.{Held}
use Rattle.cr_exec_turns.specs.declared.held.Held.TheVariants as held
use Rattle.cr_exec_turns.specs.Held.{shows}
use Rattle.cr_exec_calls.specs.Arguments.{values_in}
use Rattle.cr_exec_calls.specs.Clashes.{argument}
use Rattle.cr_exec_calls.specs.Taken.{footed, AddsArgument, AreTogether, Conflict, TakenBy, TakesReversed, TakesSome}
use Rattle.cr_exec_calls.specs.declared.taken.Taken.{Taken}

-- ---- none yet

pub none_together : (number : ℕ) (foot : Foot) → sets foot ≡ no_events → AreTogether number [] foot
none_together number foot e = record { apart = apart_of; joined = joined_of }
  where
    apart_of : (answers : List Answer) → AllZip shows [] answers → operands_clash Arguments number (map events_of answers) ≡ false
    apart_of [] z = refl
    apart_of (a ∷ answers) z = absurd z

    joined_of : (answers : List Answer) → AllZip shows [] answers → IsFootOf foot (gathered Arguments number (map events_of answers))
    joined_of [] z = record { same = e ∙ sym nothing_has_no_sets }
    joined_of (a ∷ answers) z = absurd z

pub takes_none : (done : List Held) (taken : Taken) → taken.values.items ≡ [] → sets taken.foot ≡ no_events → TakesSome done done taken
takes_none done taken v e = record { later = []; whole = sym (append-nil done); values = ap reverse v; together = none_together (length done) taken.foot e }

-- ---- one more

-- an argument's events before those of the later ones, by its answer
module _ (number : ℕ) (given : Part) (later : List Held) (before taken : Taken) (adds : AddsArgument given before (Ok taken)) (together : AreTogether (suc number) later before.foot) where
  apart_too : (answers : List Answer) → AllZip shows (held.Part given ∷ later) answers → operands_clash Arguments number (map events_of answers) ≡ false
  apart_too [] z = absurd z
  apart_too (part v events ∷ answers) z =
      ap₂ (λ (x : Bool). λ (y : Bool). x || y) (adds.adds number events (map events_of answers) z.0.1 (together.joined answers z.1)).0 (together.apart answers z.1)
  apart_too (other ∷ answers) z = absurd z.0

  joined_too : (answers : List Answer) → AllZip shows (held.Part given ∷ later) answers → IsFootOf taken.foot (gathered Arguments number (map events_of answers))
  joined_too [] z = absurd z
  joined_too (part v events ∷ answers) z = (adds.adds number events (map events_of answers) z.0.1 (together.joined answers z.1)).1
  joined_too (other ∷ answers) z = absurd z.0

  one_together : AreTogether number (held.Part given ∷ later) taken.foot
  one_together = record { apart = apart_too; joined = joined_too }

one_longer : (rest : List Held) (h : Held) → length (rest ++ h ∷ []) ≡ suc (length rest)
one_longer rest h = length-append rest (h ∷ []) ∙ (omega arith)

pub takes_more : (all left rest : List Held) (given : Part) (h : Held) (before taken : Taken) → TakesSome all left before → left ≡ rest ++ h ∷ [] → h ≡ held.Part given
    → AddsArgument given before (Ok taken) → taken.values.items ≡ before.values.items ++ given.value ∷ [] → TakesSome all rest taken
takes_more all left rest given h before taken some e f adds v =
    let is : left ≡ rest ++ held.Part given ∷ [] = e ∙ ap (λ (x : Held). rest ++ x ∷ []) f in
    let P : ℕ → Type 0 = λ n. AreTogether n some.later before.foot in
    record {
      later = held.Part given ∷ some.later;
      whole = some.whole ∙ (ap (λ (l : List Held). l ++ some.later) is ∙ append_assoc rest (held.Part given ∷ []) some.later);
      values = ap reverse v ∙ (reverse-append before.values.items (given.value ∷ []) ∙ ap (λ (vs : List Value). given.value ∷ vs) some.values);
      together = one_together (length rest) given some.later before taken adds (subst P (ap length is ∙ one_longer rest (held.Part given)) some.together);
    }

-- ---- a conflict

-- where the later arguments conflict all do
pub clash_behind : (number : ℕ) (rest later : List Held) (answers : List Answer) → AllZip shows (rest ++ later) answers
    → ((others : List Answer) → AllZip shows later others → operands_clash Arguments (length rest + number) (map events_of others) ≡ true)
    → operands_clash Arguments number (map events_of answers) ≡ true
clash_behind number [] later answers z f = ap (λ (n : ℕ). operands_clash Arguments n (map events_of answers)) (omega arith) ∙ f answers z
clash_behind number (h ∷ rest) later [] z f = absurd z
clash_behind number (h ∷ rest) later (a ∷ answers) z f =
    or_right (clash (below (argument number) (events_of a)) (gathered Arguments (suc number) (map events_of answers))) (operands_clash Arguments (suc number) (map events_of answers))
    (clash_behind (suc number) rest later answers z.1 (λ others y. next_number others ∙ f others y))
  where
    next_number : (others : List Answer) → operands_clash Arguments (length rest + suc number) (map events_of others) ≡ operands_clash Arguments (suc (length rest) + number) (map events_of others)
    next_number others = ap (λ (n : ℕ). operands_clash Arguments n (map events_of others)) (omega arith)

conflict_at : (number : ℕ) (given : Part) (later : List Held) (before : Taken) (k : ℕ) → AddsArgument given before (Err (Undefined k)) → AreTogether (suc number) later before.foot
    → (answers : List Answer) → AllZip shows (held.Part given ∷ later) answers → operands_clash Arguments number (map events_of answers) ≡ true
conflict_at number given later before k adds together [] z = absurd z
conflict_at number given later before k adds together (part v events ∷ answers) z =
    or_left (clash (below (argument number) events) (gathered Arguments (suc number) (map events_of answers))) (operands_clash Arguments (suc number) (map events_of answers))
    (adds.adds number events (map events_of answers) z.0.1 (together.joined answers z.1)).1
conflict_at number given later before k adds together (other ∷ answers) z = absurd z.0

conflict_case : (number : ℕ) (given : Part) (later : List Held) (before : Taken) (k : ℕ) → AddsArgument given before (Err (Undefined k)) → AreTogether (suc number) later before.foot
    → (answers : List Answer) → AllZip shows (held.Part given ∷ later) answers → k ≡ 12
conflict_case number given later before k adds together [] z = absurd z
conflict_case number given later before k adds together (part v events ∷ answers) z = (adds.adds number events (map events_of answers) z.0.1 (together.joined answers z.1)).0
conflict_case number given later before k adds together (other ∷ answers) z = absurd z.0

never_leaves : (number : ℕ) (given : Part) (later : List Held) (before : Taken) (k : ℕ) → AddsArgument given before (Err (Left k)) → AreTogether (suc number) later before.foot
    → (answers : List Answer) → AllZip shows (held.Part given ∷ later) answers → ⊥
never_leaves number given later before k adds together [] z = absurd z
never_leaves number given later before k adds together (part v events ∷ answers) z = adds.adds number events (map events_of answers) z.0.1 (together.joined answers z.1)
never_leaves number given later before k adds together (other ∷ answers) z = absurd z.0

-- answers of the later ones of some
later_shown : (P : Type 0) (rest later : List Held) (answers : List Answer) → AllZip shows (rest ++ later) answers → ((others : List Answer) → AllZip shows later others → P) → P
later_shown P [] later answers z f = f answers z
later_shown P (h ∷ rest) later [] z f = absurd z
later_shown P (h ∷ rest) later (a ∷ answers) z f = later_shown P rest later answers z.1 f

module _ (rest later : List Held) (given : Part) (before : Taken) (together : AreTogether (suc (length rest)) later before.foot) where
  fails_so : (order : List Value → List Value) (trap : Trap) → AddsArgument given before (Err trap) → TakenBy order (rest ++ held.Part given ∷ later) (Err trap)
  fails_so order (Undefined k) adds = record {
    case = λ answers z. later_shown (k ≡ 12) rest (held.Part given ∷ later) answers z (conflict_case (length rest) given later before k adds together);
    clash = λ answers z. clash_behind 0 rest (held.Part given ∷ later) answers z (λ others y. at_length others ∙ conflict_at (length rest) given later before k adds together others y);
  }
    where
      at_length : (others : List Answer) → operands_clash Arguments (length rest + 0) (map events_of others) ≡ operands_clash Arguments (length rest) (map events_of others)
      at_length others = ap (λ (n : ℕ). operands_clash Arguments n (map events_of others)) (omega arith)
  fails_so order (Left k) adds = λ answers z. later_shown ⊥ rest (held.Part given ∷ later) answers z (never_leaves (length rest) given later before k adds together)
  fails_so order NoMemory adds = tt

pub takes_fails : (order : List Value → List Value) (all left rest : List Held) (given : Part) (h : Held) (before : Taken) (trap : Trap) → TakesSome all left before → left ≡ rest ++ h ∷ []
    → h ≡ held.Part given → AddsArgument given before (Err trap) → TakenBy order all (Err trap)
takes_fails order all left rest given h before trap some e f adds =
    let is : left ≡ rest ++ held.Part given ∷ [] = e ∙ ap (λ (x : Held). rest ++ x ∷ []) f in
    let P : ℕ → Type 0 = λ n. AreTogether n some.later before.foot in
    let Q : List Held → Type 0 = λ l. TakenBy order l (Err trap) in
    subst Q (sym (some.whole ∙ (ap (λ (l : List Held). l ++ some.later) is ∙ append_assoc rest (held.Part given ∷ []) some.later)))
    (fails_so rest some.later given before (subst P (ap length is ∙ one_longer rest (held.Part given)) some.together) order trap adds)

-- all are taken
pub takes_all : (all left : List Held) (taken : Taken) → TakesSome all left taken → left ≡ [] → TakesReversed all (Ok taken)
takes_all all left taken some e =
    let P : ℕ → Type 0 = λ n. AreTogether n all taken.foot in
    let whole : all ≡ some.later = some.whole ∙ ap (λ (l : List Held). l ++ some.later) e in
    let Q : List Held → Type 0 = λ l. AreTogether (length left) l taken.foot in
    (some.values ∙ ap values_in (sym whole), subst P (ap length e) (subst Q (sym whole) some.together))
