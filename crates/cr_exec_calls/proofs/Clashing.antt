-- Conflicts between arguments, by what their footprints share.
use Rattle.std.proofs.Common.{◌≡◌, ℕ, suc, ◌<◌, Bool, true, false, true≢false, ◌&&◌, ◌||◌, List, [], ◌∷◌, ◌++◌, map, length, refl, sym, ap, ap₂, ◌∙◌, subst, arith, inl, inr}
use Rattle.std.specs.Prelude.{MatchBool}
use Rattle.std.specs.Ordering.{is_eq}
use Rattle.std.specs.Cmp.{tied_itself}
use Rattle.std.specs.List.{list_any, AllZip}
use Rattle.std.proofs.lemmas.Bool.{ne_eqb, or_cases, or_left, or_right, or_parts}
use Rattle.std.proofs.lemmas.List.Folds.{list_any-append}
use Rattle.cr_footprint.specs.Cell.{Cell, holds, same_cell}
use Rattle.cr_footprint.specs.Foot.{Sets, sets, meets}
use Rattle.cr_footprint.specs.declared.foot.Foot.{Foot}
use Rattle.cr_footprint.proofs.Rising.{cell_total, same_cell-equal, same_cell-cell_cmp}
use Rattle.cr_meaning.specs.Events.{Event, Sequence, Arguments, conflicts, clash, below, gathered, operands_clash}
use Rattle.cr_meaning.specs.Merged.{clash_at}
use Rattle.cr_meaning.specs.World.{Answer, part}
use Rattle.cr_meaning.specs.Nodes.{events_of}
use Rattle.cr_meaning.proofs.Booleans.{same_four}
use Rattle.cr_meaning.proofs.Merging.{conflicts_are_meetings}
use Rattle.cr_eval_join.specs.Parts.{IsFootOf}
use Rattle.cr_eval_join.specs.declared.part.Part.{Part}
use Rattle.cr_eval_join.proofs.Operands.{clash_on, no_clash}
use Rattle.cr_exec_turns.specs.declared.held.Held.{Held}
use Rattle.cr_exec_turns.specs.declared.held.Held.TheVariants as held
use Rattle.cr_exec_turns.specs.Held.{shows}
use Rattle.cr_exec_calls.specs.Clashes.{hits, argument, MeetsOne, MeetsAny, MeetsLater, Clashes}

-- ---- lists of cells that share one

record Shared (cells others : List Cell) : Type 0 where
  cell : Cell
  one : holds cells cell ≡ true
  other : holds others cell ≡ true

same_itself : (c : Cell) → same_cell c c ≡ true
same_itself c = same_cell-cell_cmp c c ∙ ap is_eq (tied_itself cell_total c)

shared : (cells others : List Cell) → list_any (holds cells) others ≡ true → Shared cells others
shared cells [] h = absurd (true≢false (sym h))
shared cells (other ∷ others) h = elim (or_cases (holds cells other) (list_any (holds cells) others) h) [
  | inl here ↦ record { cell = other; one = here; other = ap (λ (b : Bool). b || holds others other) (same_itself other) }
  | inr later ↦ again (shared cells others later)
]
  where
    again : Shared cells others → Shared cells (other ∷ others)
    again s = record { cell = s.cell; one = s.one; other = or_right (same_cell s.cell other) (holds others s.cell) s.other }

none_shared : (cells others : List Cell) → list_any (holds cells) others ≡ false → (c : Cell) → (holds others c && holds cells c) ≡ false
none_shared cells [] h c = refl
none_shared cells (other ∷ others) h c =
    by_first (same_cell c other) (holds others c) refl (none_shared cells others (or_parts (holds cells other) (list_any (holds cells) others) h).1 c)
  where
    by_first : (same rest : Bool) → same_cell c other ≡ same → (rest && holds cells c) ≡ false → ((same || rest) && holds cells c) ≡ false
    by_first false rest e later = later
    by_first true rest e later = ap (holds cells) (same_cell-equal c other e) ∙ (or_parts (holds cells other) (list_any (holds cells) others) h).0

-- a list of which some item has been looked at
pub at_first : (p : Cell → Bool) (rest more cells : List Cell) (cell : Cell) → list_any p rest ≡ list_any p cells → rest ≡ cell ∷ more → p cell ≡ true → true ≡ list_any p cells
at_first p rest more cells cell same e h = sym (ap (λ (b : Bool). b || list_any p more) h) ∙ (sym (ap (list_any p) e) ∙ same)

pub at_later : (p : Cell → Bool) (rest more cells : List Cell) (cell : Cell) → list_any p rest ≡ list_any p cells → rest ≡ cell ∷ more → p cell ≡ false
    → list_any p more ≡ list_any p cells
at_later p rest more cells cell same e h = sym (ap (λ (b : Bool). b || list_any p more) h) ∙ (sym (ap (list_any p) e) ∙ same)

-- ---- footprints

-- lists of the cells of a set
abbrev Lists : (Cell → Bool) → List Cell → Type 0
Lists set cells = (c : Cell) → holds cells c ≡ set c

pub match_by : {P Q : Type 0} (b : Bool) → (b ≡ true → P) → (b ≡ false → Q) → MatchBool b P Q
match_by true f g = f refl
match_by false f g = g refl

pub hits_read : (f g : Sets) (reads writes : List Cell) → Lists g.reads reads → Lists f.writes writes → list_any (holds reads) writes ≡ true
    → (c : Cell) × (hits f g c ≡ true)
hits_read f g reads writes r w h =
    let s = shared reads writes h in
    (s.cell, ap₂ (λ (x : Bool). λ (y : Bool). x && (y || g.writes s.cell)) (sym (w s.cell) ∙ s.other) (sym (r s.cell) ∙ s.one))

pub hits_write : (f g : Sets) (others writes : List Cell) → Lists g.writes others → Lists f.writes writes → list_any (holds others) writes ≡ true
    → (c : Cell) × (hits f g c ≡ true)
hits_write f g others writes r w h =
    let s = shared others writes h in
    (s.cell, ap₂ (λ (x : Bool). λ (y : Bool). x && y) (sym (w s.cell) ∙ s.other) (or_right (g.reads s.cell) (g.writes s.cell) (sym (r s.cell) ∙ s.one)))

not_hit : (fw gr gw : Bool) → (fw && gr) ≡ false → (fw && gw) ≡ false → (fw && (gr || gw)) ≡ false
not_hit true true gw a b = absurd (true≢false a)
not_hit true false gw a b = b
not_hit false gr gw a b = refl

pub never_hits : (f g : Sets) (reads others writes again : List Cell) → Lists g.reads reads → Lists g.writes others → Lists f.writes writes → Lists f.writes again
    → list_any (holds reads) writes ≡ false → list_any (holds others) again ≡ false → (c : Cell) → hits f g c ≡ false
never_hits f g reads others writes again r o w v a b c =
    not_hit (f.writes c) (g.reads c) (g.writes c)
    (ap₂ (λ (x : Bool). λ (y : Bool). x && y) (sym (w c)) (sym (r c)) ∙ none_shared reads writes a c)
    (ap₂ (λ (x : Bool). λ (y : Bool). x && y) (sym (v c)) (sym (o c)) ∙ none_shared others again b c)

pub meets_first : (f g : Sets) → (c : Cell) × (hits f g c ≡ true) → (c : Cell) × (meets f g c ≡ true)
meets_first f g h = (h.0, or_left (hits f g h.0) (hits g f h.0) h.1)

-- where the one hits nothing, the other decides
pub meets_second : (f g : Sets) (b : Bool) → ((c : Cell) → hits f g c ≡ false) → MatchBool b ((c : Cell) × (hits g f c ≡ true)) ((c : Cell) → hits g f c ≡ false)
    → MatchBool b ((c : Cell) × (meets f g c ≡ true)) ((c : Cell) → meets f g c ≡ false)
meets_second f g true none h = (h.0, or_right (hits f g h.0) (hits g f h.0) h.1)
meets_second f g false none h = λ c. ap₂ (λ (x : Bool). λ (y : Bool). x || y) (none c) (h c)

-- ---- events

arguments_differ : Arguments ≡ Sequence → ⊥
arguments_differ e = cc

on_cell : (foot other : Foot) (number from : ℕ) (events others : List Event) (c : Cell) (b : Bool) → number < from → IsFootOf foot events → IsFootOf other others
    → meets (sets foot) (sets other) c ≡ b → clash_at (below (argument number) events) (below (argument from) others) c ≡ b
on_cell foot other number from events others c b less f s h =
    conflicts_are_meetings Arguments number from events others c arguments_differ (ne_eqb number from (omega arith))
    ∙ (ap₂ (λ (x : Sets). λ (y : Sets). meets x y c) (sym f.same) (sym s.same) ∙ h)

clash_none : (events : List Event) → clash events [] ≡ false
clash_none [] = refl
clash_none (e ∷ events) = clash_none events

clash_append : (events one other : List Event) → clash events (one ++ other) ≡ (clash events one || clash events other)
clash_append [] one other = refl
clash_append (e ∷ events) one other =
    ap₂ (λ (a : Bool). λ (b : Bool). a || b) (list_any-append (conflicts e) one other) (clash_append events one other)
    ∙ same_four (λ a. λ b. λ x. λ y. (a || b) || (x || y)) (λ a. λ b. λ x. λ y. (a || x) || (b || y)) refl
    (list_any (conflicts e) one) (list_any (conflicts e) other) (clash events one) (clash events other)

-- an answer that is no expression's
pub silent : (h : Held) (a : Answer) → ((given : Part) → h ≡ held.Part given → ⊥) → shows h a → events_of a ≡ []
silent (held.Part given) a ne s = absurd (ne given refl)
silent held.Next a ne s = ap events_of s
silent held.Broke a ne s = ap events_of s
silent held.Continued a ne s = ap events_of s
silent (held.Jumped label) a ne s = ap events_of s
silent (held.Returned v) a ne s = ap events_of s

one_by : (foot : Foot) (given : Part) (b : Bool) → MatchBool b ((c : Cell) × (meets (sets foot) (sets given.foot) c ≡ true)) ((c : Cell) → meets (sets foot) (sets given.foot) c ≡ false)
    → (number from : ℕ) (events : List Event) (answer : Answer) → number < from → IsFootOf foot events → shows (held.Part given) answer
    → clash (below (argument number) events) (below (argument from) (events_of answer)) ≡ b
one_by foot given true h number from events (part v others) less f s =
    clash_on h.0 (below (argument number) events) (below (argument from) others) (on_cell foot given.foot number from events others h.0 true less f s.1 h.1)
one_by foot given false h number from events (part v others) less f s =
    no_clash (below (argument number) events) (below (argument from) others) (λ c. on_cell foot given.foot number from events others c false less f s.1 (h c))
one_by foot given b h number from events other less f s = absurd s

pub meets_part : (foot : Foot) (given : Part) (b : Bool) → MatchBool b ((c : Cell) × (meets (sets foot) (sets given.foot) c ≡ true)) ((c : Cell) → meets (sets foot) (sets given.foot) c ≡ false)
    → MeetsOne foot (held.Part given) b
meets_part foot given b h = record { meets = one_by foot given b h }

pub meets_silent : (foot : Foot) (other : Held) → ((given : Part) → other ≡ held.Part given → ⊥) → MeetsOne foot other false
meets_silent foot other ne = record {
  meets = λ number from events answer less f s.
      ap (λ (es : List Event). clash (below (argument number) events) (below (argument from) es)) (silent other answer ne s)
      ∙ clash_none (below (argument number) events);
}

-- ---- one argument and the later ones

pub at_end : (rest : List Held) → length rest ≡ 0 → rest ≡ []
at_end [] e = refl
at_end (h ∷ rest) e = absurd (omega (arith, e))

any_none : (foot : Foot) → MeetsAny foot [] false
any_none foot = record { meets = none_of }
  where
    none_of : (number from : ℕ) (events : List Event) (answers : List Answer) → number < from → IsFootOf foot events → AllZip shows [] answers
        → clash (below (argument number) events) (gathered Arguments from (map events_of answers)) ≡ false
    none_of number from events [] less f z = clash_none (below (argument number) events)
    none_of number from events (a ∷ answers) less f z = absurd z

pub any_at_end : (foot : Foot) (rest : List Held) → length rest ≡ 0 → MeetsAny foot rest false
any_at_end foot rest e = let P : List Held → Type 0 = λ l. MeetsAny foot l false in subst P (sym (at_end rest e)) (any_none foot)

any_so : (foot : Foot) (other : Held) (more : List Held) (result : Bool)
    → ((number from : ℕ) (events : List Event) (a : Answer) (answers : List Answer) → number < from → IsFootOf foot events → shows other a → AllZip shows more answers
    → (clash (below (argument number) events) (below (argument from) (events_of a)) || clash (below (argument number) events) (gathered Arguments (suc from) (map events_of answers))) ≡ result)
    → MeetsAny foot (other ∷ more) result
any_so foot other more result f = record { meets = some_of }
  where
    some_of : (number from : ℕ) (events : List Event) (answers : List Answer) → number < from → IsFootOf foot events → AllZip shows (other ∷ more) answers
        → clash (below (argument number) events) (gathered Arguments from (map events_of answers)) ≡ result
    some_of number from events [] less g z = absurd z
    some_of number from events (a ∷ answers) less g z =
        clash_append (below (argument number) events) (below (argument from) (events_of a)) (gathered Arguments (suc from) (map events_of answers))
        ∙ f number from events a answers less g z.0 z.1

pub any_here : (foot : Foot) (other : Held) (more : List Held) → MeetsOne foot other true → MeetsAny foot (other ∷ more) true
any_here foot other more h = any_so foot other more true (λ number from events a answers less f s z.
    ap (λ (x : Bool). x || clash (below (argument number) events) (gathered Arguments (suc from) (map events_of answers))) (h.meets number from events a less f s))

pub any_later : (foot : Foot) (other : Held) (more : List Held) (b : Bool) → MeetsOne foot other false → MeetsAny foot more b → MeetsAny foot (other ∷ more) b
any_later foot other more b h k = any_so foot other more b (λ number from events a answers less f s z.
    ap₂ (λ (x : Bool). λ (y : Bool). x || y) (h.meets number from events a less f s) (k.meets number (suc from) events answers (omega arith) f z))

pub later_part : (given : Part) (later : List Held) (b : Bool) → MeetsAny given.foot later b → MeetsLater (held.Part given) later b
later_part given later b h = record { meets = by_part }
  where
    by_part : (number : ℕ) (answer : Answer) (answers : List Answer) → shows (held.Part given) answer → AllZip shows later answers
        → clash (below (argument number) (events_of answer)) (gathered Arguments (suc number) (map events_of answers)) ≡ b
    by_part number (part v events) answers s z = h.meets number (suc number) events answers (omega arith) s.1 z
    by_part number other answers s z = absurd s

pub later_silent : (other : Held) (later : List Held) → ((given : Part) → other ≡ held.Part given → ⊥) → MeetsLater other later false
later_silent other later ne = record {
  meets = λ number answer answers s z.
      ap (λ (es : List Event). clash (below (argument number) es) (gathered Arguments (suc number) (map events_of answers))) (silent other answer ne s);
}

-- ---- all arguments

pub clashes_none : Clashes [] false
clashes_none = record { clashes = none_of }
  where
    none_of : (number : ℕ) (answers : List Answer) → AllZip shows [] answers → operands_clash Arguments number (map events_of answers) ≡ false
    none_of number [] z = refl
    none_of number (a ∷ answers) z = absurd z

clashes_so : (h : Held) (later : List Held) (result : Bool)
    → ((number : ℕ) (a : Answer) (answers : List Answer) → shows h a → AllZip shows later answers
    → (clash (below (argument number) (events_of a)) (gathered Arguments (suc number) (map events_of answers)) || operands_clash Arguments (suc number) (map events_of answers)) ≡ result)
    → Clashes (h ∷ later) result
clashes_so h later result f = record { clashes = some_of }
  where
    some_of : (number : ℕ) (answers : List Answer) → AllZip shows (h ∷ later) answers → operands_clash Arguments number (map events_of answers) ≡ result
    some_of number [] z = absurd z
    some_of number (a ∷ answers) z = f number a answers z.0 z.1

pub clashes_here : (h : Held) (later : List Held) → MeetsLater h later true → Clashes (h ∷ later) true
clashes_here h later m = clashes_so h later true (λ number a answers s z.
    ap (λ (x : Bool). x || operands_clash Arguments (suc number) (map events_of answers)) (m.meets number a answers s z))

pub clashes_later : (h : Held) (later : List Held) (b : Bool) → MeetsLater h later false → Clashes later b → Clashes (h ∷ later) b
clashes_later h later b m k = clashes_so h later b (λ number a answers s z.
    ap₂ (λ (x : Bool). λ (y : Bool). x || y) (m.meets number a answers s z) (k.clashes (suc number) answers z))
