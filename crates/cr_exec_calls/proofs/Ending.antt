-- The end of a call, once its arguments are taken off the stack.
use Rattle.std.proofs.Common.{◌≡◌, ℕ, suc, Bool, true, false, Option, Some, None, Result, Ok, Err, List, [], ◌∷◌, ◌++◌, map, length, refl, sym, ap, ap₂, ◌∙◌, subst, arith}
use Rattle.std.specs.Prelude.{option_to_list}
use Rattle.std.specs.List.{AllZip}
use Rattle.std.proofs.lemmas.List.{map-append}
use Rattle.cr_memory.specs.declared.value.Trap.{Trap}
use Rattle.cr_memory.specs.declared.value.Trap.TheVariants.{Undefined, Left, NoMemory}
use Rattle.cr_meaning.specs.Events.{Event, Arguments, below, gathered}
use Rattle.cr_meaning.specs.Language.{went, halts}
use Rattle.cr_meaning.specs.Turns.{last_of}
use Rattle.cr_meaning.specs.World.{Program, World, Answer, part, next, Halt}
use Rattle.cr_meaning.specs.Nodes.{Act, stops, last_in, values, events_of, all_events, library, result_of, shallower, ended_call}
use Rattle.cr_meaning.specs.declared.op.Callee.{Callee}
use Rattle.cr_meaning.specs.declared.op.Work.TheVariants.{Call}
use Rattle.cr_meaning.specs.declared.value.Value.{Value}
use Rattle.cr_eval_join.specs.declared.part.Part.{Part}
use Rattle.cr_exec_slices.specs.Shown.{Works, Worked, Halting, Joined}
use Rattle.cr_exec_slices.specs.declared.nodes.Halted.{Halted}
use Rattle.cr_exec_slices.proofs.Keeping.{ends_too}
use Rattle.cr_exec_turns.specs.declared.held.Held.{Held}
use Rattle.cr_exec_turns.specs.declared.held.Held.TheVariants as held
use Rattle.cr_exec_turns.specs.Held.{shows}
use Rattle.cr_exec_world.specs.Worlds.{halt_of}
use Rattle.cr_exec_calls.specs.Arguments.{values_in}
use Rattle.cr_exec_calls.specs.Clashes.{argument}
use Rattle.cr_exec_calls.specs.Taken.{Takes}
use Rattle.cr_exec_calls.specs.Ends.{Gives, held_of, call_library, EndsBy, EndsWith}
use Rattle.cr_exec_calls.specs.declared.taken.Taken.{Taken}
use Rattle.cr_exec_calls.proofs.Calling.{unless_none, unless_some}
use Rattle.cr_exec_turns.proofs.Valued.{values_shown}

-- ---- functions of the program: the last answer is the body's

record Parted (rest : List Held) (last : Held) (answers : List Answer) : Type 0 where
  first : List Answer
  final : Answer
  whole : answers ≡ first ++ final ∷ []
  shown : AllZip shows rest first
  final_shown : shows last final

parted : (rest : List Held) (last : Held) (answers : List Answer) → AllZip shows (rest ++ last ∷ []) answers → Parted rest last answers
parted [] last [] z = absurd z
parted [] last (a ∷ []) z = record { first = []; final = a; whole = refl; shown = tt; final_shown = z.0 }
parted [] last (a ∷ (b ∷ answers)) z = absurd z.1
parted (h ∷ rest) last [] z = absurd z
parted (h ∷ rest) last (a ∷ answers) z =
    let s = parted rest last answers z.1 in
    record { first = a ∷ s.first; final = s.final; whole = ap (λ (l : List Answer). a ∷ l) s.whole; shown = (z.0, s.shown); final_shown = s.final_shown }

last_appended : (a : Answer) (first : List Answer) (final : Answer) → last_of a (first ++ final ∷ []) ≡ final
last_appended a [] final = refl
last_appended a (x ∷ first) final = last_appended x first final

last_is : (first : List Answer) (final : Answer) → last_in (first ++ final ∷ []) ≡ final
last_is [] final = refl
last_is (a ∷ first) final = last_appended a first final

silent_last : (number : ℕ) (all : List (List Event)) → gathered Arguments number (all ++ [] ∷ []) ≡ gathered Arguments number all
silent_last number [] = refl
silent_last number (events ∷ all) = ap (λ (es : List Event). below (argument number) events ++ es) (silent_last (suc number) all)

events_are : (first : List Answer) (final : Answer) → events_of final ≡ [] → gathered Arguments 0 (map events_of (first ++ final ∷ [])) ≡ gathered Arguments 0 (map events_of first)
events_are first final e =
    ap (gathered Arguments 0) (map-append events_of first (final ∷ []) ∙ ap (λ (es : List Event). map events_of first ++ es ∷ []) e) ∙ silent_last 0 (map events_of first)

went_so : (s t : World) → ◌≡◌ {A = Act} (went next s) (went next t) → s ≡ t
went_so s t e = cc e

module _ (callee : Callee) (is_main : Bool) (rest : List Held) (value : Value) (taken : Taken) (w after : World) where
  ends_so : (last : Held) (answers : List Answer) → EndsBy is_main last value → Takes rest (Ok taken) → ◌≡◌ {A = Act} (went next (shallower w)) (went next after) → Parted rest last answers
      → Joined shows (ended_call (Call callee) is_main answers w) (Ok (held.Part (record { value = value; foot = taken.foot }))) after
  ends_so last answers ends takes e s =
      let f : Answer → World → Act = λ a. λ t. went a t in
      let value_is : result_of is_main (last_in answers) ≡ value = ap (λ (l : List Answer). result_of is_main (last_in l)) s.whole ∙ (ap (result_of is_main) (last_is s.first s.final) ∙ ends.value_is s.final s.final_shown) in
      let events : gathered Arguments 0 (map events_of answers) ≡ gathered Arguments 0 (map events_of s.first) = ap (λ (l : List Answer). gathered Arguments 0 (map events_of l)) s.whole ∙ events_are s.first s.final (ends.events_are s.final s.final_shown) in
      record {
        joins = record {
          answer = part value (gathered Arguments 0 (map events_of s.first));
          shown = (refl, takes.1.joined s.first s.shown);
          holds = ap₂ f (ap₂ (λ (v : Value). λ (es : List Event). part v es) value_is events) (went_so (shallower w) after e);
        };
      }

  pub function_ends : (all : List Held) (last : Option Held) (answers : List Answer) → all ≡ rest ++ option_to_list last → EndsWith is_main last (Some value) → Takes rest (Ok taken)
      → ◌≡◌ {A = Act} (went next (shallower w)) (went next after) → AllZip shows all answers
      → Joined shows (ended_call (Call callee) is_main answers w) (Ok (held.Part (record { value = value; foot = taken.foot }))) after
  function_ends all None answers whole ends takes e z = absurd ends
  function_ends all (Some last) answers whole ends takes e z =
      let P : List Held → Type 0 = λ l. AllZip shows l answers in ends_so last answers ends takes e (parted rest last answers (subst P whole z))

-- ---- functions of the library

module _ (p : Program) (node : ℕ) (callee : Callee) (all : List Held) (answers : List Answer) (w after : World) where
  abbrev pub lib : Act
  lib = library p node (Call callee) callee answers w

  gives_so : (taken : Taken) (r : Result Value Halted) → Takes all (Ok taken) → AllZip shows all answers → Gives lib (all_events (Call callee) answers) r after
      → Joined shows (call_library p node callee answers w) (held_of taken.foot r) after
  gives_so taken (Ok value) takes z g = record {
    joins = record {
      answer = part value (all_events (Call callee) answers);
      shown = (refl, takes.1.joined answers z);
      holds = unless_none node callee answers lib (takes.1.apart answers z) ∙ g.gives;
    };
  }
  gives_so taken (Err halted) takes z g = record {
    joins = ends_too (λ halt. lib ≡ halts halt) (λ halt. call_library p node callee answers w ≡ halts halt)
        (λ halt e. unless_none node callee answers lib (takes.1.apart answers z) ∙ e) halted after g.gives;
  }

  pub library_ends : (taken : Taken) (given : List Value) (r : Result Value Halted) (result : Result Held Halted) → Takes all (Ok taken) → AllZip shows all answers → given ≡ taken.values.items
      → (values answers ≡ given → Gives lib (all_events (Call callee) answers) r after) → result ≡ held_of taken.foot r
      → Joined shows (call_library p node callee answers w) result after
  library_ends taken given r result takes z same g e =
      let P : Result Held Halted → Type 0 = λ x. Joined shows (call_library p node callee answers w) x after in
      subst P (sym e) (gives_so taken r takes z (g (values_shown all answers z ∙ (sym takes.0 ∙ sym same))))

  fails_by : (trap : Trap) → Takes all (Err trap) → AllZip shows all answers → Joined shows (call_library p node callee answers w) (Err (halt_of trap node)) after
  fails_by (Undefined number) takes z = record {
    joins = unless_some node callee answers lib (takes.clash answers z) ∙ ap (λ (n : ℕ). stops (Undefined n) node) (sym (takes.case answers z));
  }
  fails_by (Left number) takes z = absurd (takes answers z)
  fails_by NoMemory takes z = record { joins = tt }

  pub library_fails : (trap : Trap) (halted : Halted) → Takes all (Err trap) → AllZip shows all answers → halted ≡ halt_of trap node
      → Joined shows (call_library p node callee answers w) (Err halted) after
  library_fails trap halted takes z e =
      let P : Halted → Type 0 = λ h. Joined shows (call_library p node callee answers w) (Err h) after in subst P (sym e) (fails_by trap takes z)
