-- Which nodes are marked with all that their own evaluation has.
use Rattle.std.proofs.Common.{◌≡◌, ◌↔◌, refl, sym, ◌∙◌, ap, subst, arith, length-append}
use Rattle.std.specs.Prelude.{ℕ, zero, suc, ◌+◌, ◌<◌, ◌≤◌, nat_lt, Bool, true, false, ◌&&◌, Option, Some, None, IfSome, List, [], ◌∷◌, ◌++◌, get_or, length, slice_get, take}
use Rattle.std.specs.List.{list_all}
use Rattle.std.proofs.lemmas.Bool.{and_parts, and_from, ltb-true, ltb-false}
use Rattle.std.proofs.lemmas.List.{get_or_append_left, get_or_push, take_more}
use Rattle.std.proofs.lemmas.List.Folds.{list_all-append}
use Rattle.std.proofs.lemmas.Option.{get_or_from_slice_get, slice_get_within}
use Rattle.cr_meaning.specs.World.{Program}
use Rattle.cr_ints.specs.declared.kind.IntKind.{IntKind}
use Rattle.cr_meaning.specs.declared.op.Case.{Case}
use Rattle.cr_meaning.specs.declared.op.Op.{Op}
use Rattle.cr_meaning.specs.declared.op.Target.{Target}
use Rattle.cr_meaning.specs.declared.op.Work.{Work}
use Rattle.cr_meaning.specs.declared.op.Work.TheVariants as work
use Rattle.cr_reached.specs.Own.{AreAllSet, AreWhole, IsWhole, is_set, itself, own_by, own_of, within}

all_at : (column : List Bool) (nodes : List ℕ) → list_all (is_set column) nodes ≡ true → (place node : ℕ) → slice_get nodes place ≡ Some node → is_set column node ≡ true
all_at column [] all place node is = absurd (cc is)
all_at column (one ∷ nodes) all zero node is =
    let same : one ≡ node = cc in subst (λ n. is_set column n ≡ true) same (and_parts (is_set column one) (list_all (is_set column) nodes) all).0
all_at column (one ∷ nodes) all (suc place) node is = all_at column nodes (and_parts (is_set column one) (list_all (is_set column) nodes) all).1 place node is

all_from : (column : List Bool) (nodes : List ℕ) → ((place node : ℕ) → slice_get nodes place ≡ Some node → is_set column node ≡ true) → list_all (is_set column) nodes ≡ true
all_from column [] each = refl
all_from column (one ∷ nodes) each =
    and_from (is_set column one) (list_all (is_set column) nodes) (each 0 one refl) (all_from column nodes (λ place node is. each (suc place) node is))

-- ---- whether all of some nodes are marked

pub none_set : (column : List Bool) → AreAllSet column [] true
none_set column = record { is = refl; below = λ place node is. absurd (cc) }

pub one_set : (column : List Bool) (node : ℕ) (mark : Bool) → slice_get column node ≡ Some mark → AreAllSet column (node ∷ []) mark
one_set column node mark is = record { is = sym (single (is_set column node) ∙ get_or_from_slice_get column node mark false is); below = below }
  where
    single : (b : Bool) → (b && true) ≡ b
    single true = refl
    single false = refl

    below : (place other : ℕ) → slice_get (node ∷ []) place ≡ Some other → other < length column
    below zero other at = let same : node ≡ other = cc in subst (λ n. n < length column) same (slice_get_within column node mark is)
    below (suc place) other at = absurd (cc)

below_both : (column : List Bool) (some more : List ℕ) → ((place node : ℕ) → slice_get some place ≡ Some node → node < length column)
    → ((place node : ℕ) → slice_get more place ≡ Some node → node < length column) → (place node : ℕ) → slice_get (some ++ more) place ≡ Some node → node < length column
below_both column [] more first second place node at = second place node at
below_both column (one ∷ some) more first second zero node at = first zero node at
below_both column (one ∷ some) more first second (suc place) node at = below_both column some more (λ p n is. first (suc p) n is) second place node at

pub both_set : (column : List Bool) (some more : List ℕ) (one other : Bool) → AreAllSet column some one → AreAllSet column more other → AreAllSet column (some ++ more) (one && other)
both_set column some more one other first second = record {
  is = ap (λ b. b && other) first.is ∙ ap (λ b. list_all (is_set column) some && b) second.is ∙ sym (list_all-append (is_set column) some more);
  below = below_both column some more first.below second.below;
}

-- one of them more
pub next_set : (column : List Bool) (nodes : List ℕ) (place : ℕ) (all mark : Bool) → place < length nodes → AreAllSet column (take place nodes) all
    → slice_get column (get_or nodes place 0) ≡ Some mark → AreAllSet column (take (place + 1) nodes) (all && mark)
next_set column nodes place all mark low before is =
    subst (λ l. AreAllSet column l (all && mark)) (sym (take_more nodes place 0 low))
    (both_set column (take place nodes) (get_or nodes place 0 ∷ []) all mark before (one_set column (get_or nodes place 0) mark is))

-- an answer on nodes is one on the same nodes
pub on_same : (column : List Bool) (nodes others : List ℕ) (r : Option Bool) → nodes ≡ others → IfSome r (AreAllSet column nodes) → IfSome r (AreAllSet column others)
on_same column nodes others r same h = subst (λ l. IfSome r (AreAllSet column l)) same h

pub one_given : (column : List Bool) (node : ℕ) (r : Option Bool) → r ≡ slice_get column node → IfSome r (AreAllSet column (node ∷ []))
one_given column node None is = tt
one_given column node (Some mark) is = one_set column node mark (sym is)

-- what is none of these has all of its operands
pub own_other : (w : Work) (parts : List ℕ) → (w ≡ work.If → ⊥) → (w ≡ work.While → ⊥)
    → ((kind : IntKind) (body : ℕ) (objects : List ℕ) (cases : List Case) (other : Option ℕ) (labels : List Target) → w ≡ work.Switch kind body objects cases other labels → ⊥)
    → (w ≡ work.Do → ⊥) → ((objects : List ℕ) (first control step : Option ℕ) (body : ℕ) → w ≡ work.For objects first control step body → ⊥)
    → ((objects : List ℕ) (labels : List Target) → w ≡ work.Block objects labels → ⊥) → parts ≡ own_by w parts
own_other work.If parts no_if no_while no_switch no_do no_for no_block = absurd (no_if refl)
own_other work.While parts no_if no_while no_switch no_do no_for no_block = absurd (no_while refl)
own_other (work.Switch kind body objects cases other labels) parts no_if no_while no_switch no_do no_for no_block = absurd (no_switch kind body objects cases other labels refl)
own_other work.Do parts no_if no_while no_switch no_do no_for no_block = absurd (no_do refl)
own_other (work.For objects first control step body) parts no_if no_while no_switch no_do no_for no_block = absurd (no_for objects first control step body refl)
own_other (work.Block objects labels) parts no_if no_while no_switch no_do no_for no_block = absurd (no_block objects labels refl)
own_other other parts no_if no_while no_switch no_do no_for no_block = refl

-- ---- one operation more

-- what an operation's own evaluation has is below it, so its mark is known by theirs
module _ (p : Program) (began whole : List Bool) (op : Op) (own : Bool) (h : AreWhole p began whole) (at : slice_get p.ops (length whole) ≡ Some op) (all : AreAllSet whole (own_of op) own) where
  to_whole : (is_set began (length whole) && own) ≡ true → IsWhole p began (length whole)
  to_whole both node (itself same) = subst (λ n. is_set began n ≡ true) (sym same) (and_parts (is_set began (length whole)) own both).0
  to_whole both node (within place {part = part} {op = other} is part_is more) =
      let both_are : Some op ≡ Some other = sym at ∙ is in
      let same : op ≡ other = cc in
      let there : slice_get (own_of op) place ≡ Some part = subst (λ o. slice_get (own_of o) place ≡ Some part) (sym same) part_is in
      let set = all_at whole (own_of op) (sym all.is ∙ (and_parts (is_set began (length whole)) own both).1) place part there in
      (h part (all.below place part there)).0 set node more

  from_whole : IsWhole p began (length whole) → (is_set began (length whole) && own) ≡ true
  from_whole it = and_from (is_set began (length whole)) own (it (length whole) (itself refl))
      (all.is ∙ all_from whole (own_of op) (λ place node is. (h node (all.below place node is)).1 (λ other more. it other (within place at is more))))

  pub one_more : AreWhole p began (whole ++ (is_set began (length whole) && own) ∷ [])
  one_more node few = by (nat_lt node (length whole)) refl
    where
      last : Bool
      last = is_set began (length whole) && own

      by : (t : Bool) → nat_lt node (length whole) ≡ t → (is_set (whole ++ last ∷ []) node ≡ true) ↔ IsWhole p began node
      by true e =
          let same : is_set (whole ++ last ∷ []) node ≡ is_set whole node = get_or_append_left whole (last ∷ []) false node (ltb-true node (length whole) e) in
          let it = h node (ltb-true node (length whole) e) in (λ set. it.0 (sym same ∙ set), λ full. same ∙ it.1 full)
      by false e =
          let past = ltb-false node (length whole) e in
          let count = length-append whole (last ∷ []) in
          let here : length whole ≡ node = omega (arith, past, few, count) in
          let same : is_set (whole ++ last ∷ []) node ≡ last = get_or_push whole last false node here in (
            λ set. subst (IsWhole p began) here (to_whole (sym same ∙ set)),
            λ full. same ∙ from_whole (subst (IsWhole p began) (sym here) full),
          )

pub whole_more : (p : Program) (began whole now : List Bool) (op : Op) (own last : Bool) (count : ℕ) → AreWhole p began whole → slice_get p.ops (length whole) ≡ Some op → AreAllSet whole (own_of op) own
    → last ≡ (is_set began count && own) → count ≡ length whole → now ≡ whole ++ last ∷ [] → AreWhole p began now
whole_more p began whole now op own last count h at all last_is count_is is =
    let here : last ≡ (is_set began (length whole) && own) = last_is ∙ ap (λ n. is_set began n && own) count_is in
    subst (AreWhole p began) (sym (is ∙ ap (λ b. whole ++ b ∷ []) here)) (one_more p began whole op own h at all)
