-- The events of a call's arguments, from one on.
use Rattle.std.proofs.Common.{◌≡◌, ℕ, suc, ◌+◌, ◌<◌, ◌==◌, Bool, true, false, ◌&&◌, ◌||◌, Result, Ok, Err, List, [], ◌∷◌, ◌++◌, refl, sym, ◌∙◌, ap, ap₂, subst, arith}
use Rattle.std.specs.List.{list_any}
use Rattle.std.proofs.lemmas.Bool.{ne_eqb}
use Rattle.std.proofs.lemmas.List.Folds.{list_any-append}
use Rattle.cr_footprint.specs.Cell.{Cell}
use Rattle.cr_footprint.specs.Foot.{Sets, sets, no_events, union_of, then_of, meets}
use Rattle.cr_footprint.specs.declared.foot.Foot.{Foot}
use Rattle.cr_memory.specs.declared.value.Trap.{Trap}
use Rattle.cr_memory.specs.declared.value.Trap.TheVariants.{Undefined, Left, NoMemory}
use Rattle.cr_meaning.specs.Events.{Event, Order, Sequence, Arguments, clash, below, gathered}
use Rattle.cr_meaning.specs.Merged.{reads_at, writes_at, opens_at, sets_of, conflicts_at, clash_at}
use Rattle.cr_meaning.proofs.Booleans.{same_two, same_four, same_six}
use Rattle.cr_meaning.proofs.Merging.{conflicts_are_meetings, argument_is_settled}
use Rattle.cr_eval_join.specs.Parts.{IsFootOf}
use Rattle.cr_eval_join.specs.Feet.{Unites, Argues}
use Rattle.cr_eval_join.proofs.Booleans.{or_false, and_false}
use Rattle.cr_eval_join.proofs.Operands.{step, clash_on, no_clash}

-- ---- two lists of events beside one other

clash_at_append : (c : Cell) (events one other : List Event) → clash_at events (one ++ other) c ≡ (clash_at events one c || clash_at events other c)
clash_at_append c [] one other = refl
clash_at_append c (e ∷ events) one other =
    ap₂ (λ (a : Bool). λ (b : Bool). a || b) (list_any-append (conflicts_at c e) one other) (clash_at_append c events one other)
    ∙ same_four (λ a. λ b. λ x. λ y. (a || b) || (x || y)) (λ a. λ b. λ x. λ y. (a || x) || (b || y)) refl
    (list_any (conflicts_at c e) one) (list_any (conflicts_at c e) other) (clash_at events one c) (clash_at events other c)

clash_at_none : (c : Cell) (events : List Event) → clash_at events [] c ≡ false
clash_at_none c [] = refl
clash_at_none c (e ∷ events) = clash_at_none c events

meets_append : (f : Sets) (one other : List Event) (c : Cell) → meets f (sets_of (one ++ other)) c ≡ (meets f (sets_of one) c || meets f (sets_of other) c)
meets_append f one other c =
    ap₂ (λ (r : Bool). λ (w : Bool). (f.writes c && (r || w)) || (w && (f.reads c || f.writes c))) (list_any-append (reads_at c) one other) (list_any-append (writes_at c) one other)
    ∙ same_six (λ fr. λ fw. λ xr. λ xw. λ yr. λ yw. (fw && ((xr || yr) || (xw || yw))) || ((xw || yw) && (fr || fw)))
    (λ fr. λ fw. λ xr. λ xw. λ yr. λ yw. ((fw && (xr || xw)) || (xw && (fr || fw))) || ((fw && (yr || yw)) || (yw && (fr || fw)))) refl
    (f.reads c) (f.writes c) (list_any (reads_at c) one) (list_any (writes_at c) one) (list_any (reads_at c) other) (list_any (writes_at c) other)

meets_none : (f : Sets) (c : Cell) → false ≡ meets f no_events c
meets_none f c = same_two (λ r. λ w. false) (λ r. λ w. (w && (false || false)) || (false && (r || w))) refl (f.reads c) (f.writes c)

-- what is settled meets the same
meets_settled : (f g : Sets) (c : Cell) → meets f (then_of g no_events) c ≡ meets f g c
meets_settled f g c = ap₂ (λ (r : Bool). λ (w : Bool). (f.writes c && (r || w)) || (w && (f.reads c || f.writes c))) (or_false (g.reads c)) (or_false (g.writes c))

settled_meets : (f g : Sets) (c : Cell) → meets (then_of f no_events) g c ≡ meets f g c
settled_meets f g c = ap₂ (λ (r : Bool). λ (w : Bool). (w && (g.reads c || g.writes c)) || (g.writes c && (r || w))) (or_false (f.reads c)) (or_false (f.writes c))

-- ---- an argument and the later ones

arguments_meet : (n m : ℕ) (events : List Event) (rest : List (List Event)) (c : Cell) → n < m
    → clash_at (below (step Arguments n) events) (gathered Arguments m rest) c ≡ meets (sets_of events) (sets_of (gathered Arguments m rest)) c
arguments_meet n m events [] c h = clash_at_none c (below (step Arguments n) events) ∙ meets_none (sets_of events) c
arguments_meet n m events (later ∷ rest) c h =
    clash_at_append c (below (step Arguments n) events) (below (step Arguments m) later) (gathered Arguments (suc m) rest)
    ∙ (ap₂ (λ (a : Bool). λ (b : Bool). a || b)
    (conflicts_are_meetings Arguments n m events later c arguments_differ (ne_eqb n m (omega arith))
    ∙ (sym (meets_settled (sets_of events) (sets_of later) c) ∙ ap (λ (g : Sets). meets (sets_of events) g c) (sym (argument_is_settled m later))))
    (arguments_meet n (suc m) events rest c (omega arith))
    ∙ sym (meets_append (sets_of events) (below (step Arguments m) later) (gathered Arguments (suc m) rest) c))
  where
    arguments_differ : Arguments ≡ Sequence → ⊥
    arguments_differ e = cc

-- its events and theirs
argument_and_later : (number : ℕ) (events : List Event) (rest : List (List Event)) → sets_of (gathered Arguments number (events ∷ rest)) ≡ union_of (then_of (sets_of events) no_events) (sets_of (gathered Arguments (suc number) rest))
argument_and_later number events rest = both_sets (below (step Arguments number) events) (gathered Arguments (suc number) rest)
    ∙ ap (λ (f : Sets). union_of f (sets_of (gathered Arguments (suc number) rest))) (argument_is_settled number events)
  where
    both_sets : (one other : List Event) → sets_of (one ++ other) ≡ union_of (sets_of one) (sets_of other)
    both_sets one other = λ i. record {
      reads = λ d. list_any-append (reads_at d) one other i;
      writes = λ d. list_any-append (writes_at d) one other i;
      opens = λ d. list_any-append (opens_at d) one other i;
    }

-- what the code finds
on_cell : (number : ℕ) (events : List Event) (rest : List (List Event)) (f g h : Sets) (c : Cell) → f ≡ sets_of events → h ≡ then_of f no_events
    → g ≡ sets_of (gathered Arguments (suc number) rest) → clash_at (below (step Arguments number) events) (gathered Arguments (suc number) rest) c ≡ meets h g c
on_cell number events rest f g h c first settled later =
    arguments_meet number (suc number) events rest c (omega arith)
    ∙ (ap₂ (λ (x : Sets). λ (y : Sets). meets x y c) (sym first) (sym later) ∙ (sym (settled_meets f g c) ∙ ap (λ (x : Sets). meets x g c) (sym settled)))

pub argues : (number : ℕ) (events : List Event) (rest : List (List Event)) (f g h : Sets) (r : Result Foot Trap) → f ≡ sets_of events → h ≡ then_of f no_events
    → g ≡ sets_of (gathered Arguments (suc number) rest) → Unites h g r → Argues number events rest r
argues number events rest f g h (Ok foot) first settled later u = (
  no_clash (below (step Arguments number) events) (gathered Arguments (suc number) rest) (λ c. on_cell number events rest f g h c first settled later ∙ u.1 c),
  record {
    same = u.0 ∙ (ap₂ union_of (settled ∙ ap (λ (x : Sets). then_of x no_events) first) later ∙ sym (argument_and_later number events rest));
  },
)
argues number events rest f g h (Err (Undefined k)) first settled later u = (
  u.0,
  clash_on u.1.0 (below (step Arguments number) events) (gathered Arguments (suc number) rest)
      (on_cell number events rest f g h u.1.0 first settled later ∙ u.1.1),
)
argues number events rest f g h (Err (Left k)) first settled later u = u
argues number events rest f g h (Err NoMemory) first settled later u = tt

pub wanting : (number : ℕ) (events : List Event) (rest : List (List Event)) (trap : Trap) → trap ≡ NoMemory → Argues number events rest (Err trap)
wanting number events rest trap e = let P : Trap → Type 0 = λ t. Argues number events rest (Err t) in subst P (sym e) tt
