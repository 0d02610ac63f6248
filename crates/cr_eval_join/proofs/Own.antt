-- A node's own events, put to those of its operands.
use Rattle.std.proofs.Common.{◌≡◌, ℕ, Bool, true, false, ◌&&◌, ◌||◌, Result, Ok, Err, IfOk, OnOk, List, [], ◌∷◌, ◌++◌, refl, sym, ◌∙◌, ap}
use Rattle.std.specs.List.{list_any}
use Rattle.std.proofs.lemmas.Bool.{or_from, or_left, or_right, true≢false}
use Rattle.cr_footprint.specs.Cell.{Cell, same_cell, IsLeast}
use Rattle.cr_footprint.specs.Foot.{Sets, sets, union_of, meets, IsOpenAt}
use Rattle.cr_footprint.specs.declared.foot.Foot.{Foot}
use Rattle.cr_footprint.specs.declared.end.FootEnd.{FootEnd}
use Rattle.cr_footprint.specs.declared.end.FootEnd.TheVariants as ending
use Rattle.cr_memory.specs.declared.value.Trap.{Trap}
use Rattle.cr_memory.specs.declared.value.Trap.TheVariants.{Undefined, Left, NoMemory}
use Rattle.cr_meaning.specs.Events.{Event, Deed, Reads, Touches, Writes, is_write, is_side_effect, conflicts, clash, own}
use Rattle.cr_meaning.specs.Merged.{sets_of}
use Rattle.cr_eval_join.specs.Parts.{IsFootOf}
use Rattle.cr_eval_join.specs.Feet.{trapped, Unites, AreBelow, Adds}
use Rattle.cr_eval_join.proofs.Booleans.{or_false, and_false}

pub unites : (f g : Sets) (r : Result Foot FootEnd) → IfOk r (λ foot. sets foot ≡ union_of f g) → OnOk r ((c : Cell) → meets f g c ≡ false)
    → ((o c : ℕ) → r ≡ Err (ending.Conflict o c) → IsLeast (meets f g) (o, c)) → Unites f g (trapped r)
unites f g (Ok foot) joined apart conflict = (joined, apart)
unites f g (Err (ending.Conflict o c)) joined apart conflict = (refl, ((o, c), (conflict o c refl).inside))
unites f g (Err ending.NoMemory) joined apart conflict = tt

-- ---- one event

one_clash : (deed : Deed) (c : Cell) (all : List Event) (foot : Foot) → AreBelow all → IsFootOf foot all → clash (own deed c ∷ []) all ≡ (sets foot).opens c
one_clash deed c all foot b is = or_false (list_any (conflicts (own deed c)) all) ∙ (b.opens deed c ∙ ap (λ (f : Sets). f.opens c) (sym is.same))

pub one_adds : (with_one : Sets → Cell → Sets) (deed : Deed) (c : Cell) (all : List Event) (foot : Foot) (r : Result Foot FootEnd)
    → sets_of (own deed c ∷ all) ≡ with_one (sets_of all) c → AreBelow all → IsFootOf foot all
    → IfOk r (λ new. sets new ≡ with_one (sets foot) c) → OnOk r ((sets foot).opens c ≡ false)
    → ((object cell : ℕ) → r ≡ Err (ending.Conflict object cell) → IsOpenAt (sets foot) c (object, cell))
    → Adds (own deed c ∷ []) all (trapped r)
one_adds with_one deed c all foot (Ok new) law b is added apart conflict =
    (one_clash deed c all foot b is ∙ apart, record { same = added ∙ (ap (λ (f : Sets). with_one f c) is.same ∙ sym law) })
one_adds with_one deed c all foot (Err (ending.Conflict object cell)) law b is added apart conflict =
    (refl, one_clash deed c all foot b is ∙ (conflict object cell refl).there)
one_adds with_one deed c all foot (Err ending.NoMemory) law b is added apart conflict = tt

-- ---- a read or a touch, and a write behind it

own_pair : (deed d : Deed) (c c' : Cell) → conflicts (own deed c) (own d c') ≡ false
own_pair deed d c c' = and_false (same_cell c c' && (is_side_effect deed || is_side_effect d))

pub read_below : (d : Deed) (c : Cell) (all : List Event) → is_write d ≡ false → AreBelow all → AreBelow (own d c ∷ all)
read_below Reads c all h b =
    record { opens = λ deed c'. ap (λ (x : Bool). x || list_any (conflicts (own deed c')) all) (own_pair deed Reads c' c) ∙ b.opens deed c' }
read_below Touches c all h b =
    record { opens = λ deed c'. ap (λ (x : Bool). x || list_any (conflicts (own deed c')) all) (own_pair deed Touches c' c) ∙ b.opens deed c' }
read_below Writes c all h b = absurd (true≢false h)

write_alone : (d : Deed) (c : Cell) (all : List Event) → clash (own Writes c ∷ []) (own d c ∷ all) ≡ clash (own Writes c ∷ []) all
write_alone d c all = ap (λ (x : Bool). (x || list_any (conflicts (own Writes c)) all) || false) (own_pair Writes d c c)

both_free : (d : Deed) (c : Cell) (all : List Event) → clash (own d c ∷ []) all ≡ false → clash (own Writes c ∷ []) (own d c ∷ all) ≡ false
    → clash (own d c ∷ (own Writes c ∷ [])) all ≡ false
both_free d c all first second =
    or_from (list_any (conflicts (own d c)) all) (clash (own Writes c ∷ []) all)
    (sym (or_false (list_any (conflicts (own d c)) all)) ∙ first) (sym (write_alone d c all) ∙ second)

pub updates : (d : Deed) (c : Cell) (all : List Event) (result : Result Foot Trap) → is_write d ≡ false → clash (own d c ∷ []) all ≡ false
    → Adds (own Writes c ∷ []) (own d c ∷ all) result → Adds (own d c ∷ (own Writes c ∷ [])) all result
updates Reads c all (Ok foot) h first second = (both_free Reads c all first second.0, record { same = second.1.same })
updates Touches c all (Ok foot) h first second = (both_free Touches c all first second.0, record { same = second.1.same })
updates Writes c all (Ok foot) h first second = absurd (true≢false h)
updates d c all (Err (Undefined number)) h first second =
    (second.0, or_right (list_any (conflicts (own d c)) all) (clash (own Writes c ∷ []) all) (sym (write_alone d c all) ∙ second.1))
updates d c all (Err (Left number)) h first second = second
updates d c all (Err NoMemory) h first second = tt

-- the first of two own events conflicts
pub first_fails : (e : Event) (events all : List Event) (trap : Trap) → Adds (e ∷ []) all (Err trap) → Adds (e ∷ events) all (Err trap)
first_fails e events all (Undefined number) h = (h.0, or_left (list_any (conflicts e) all) (clash events all) (sym (or_false (list_any (conflicts e) all)) ∙ h.1))
first_fails e events all (Left number) h = h
first_fails e events all NoMemory h = tt
