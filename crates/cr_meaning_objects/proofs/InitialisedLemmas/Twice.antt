-- A part of a node stands in one place of it.
use Rattle.std.proofs.Common.{◌≡◌, ℕ, zero, suc, ◌+◌, ◌<◌, ◌≤◌, ◌==◌, true, cond, List, [], ◌∷◌, ◌++◌, Some, slice_get, slice_index, ap, arith}
use Rattle.std.proofs.lemmas.Bool.{eq-eqb}
use Rattle.std.proofs.lemmas.List.Sums.{sum_by-append}
use Rattle.std.proofs.lemmas.Option.{slice_get_within, get_or_from_slice_get}
use Rattle.cr_syntax.specs.declared.node.Node.{Node}
use Rattle.cr_typed.specs.declared.typed.Typed.{Typed}
use Rattle.cr_meaning_declarations.specs.Units.Owned.{AreOfUnit}
use Rattle.cr_meaning_declarations.proofs.NamesLemmas.Parents.{times, weight, parts_in, once_more, has_it}

-- ---- a number that stands twice in a list

has_both : (ps : List ℕ) (j k p : ℕ) → j < k → slice_get ps j ≡ Some p → slice_get ps k ≡ Some p → 2 ≤ times ps p
has_both [] j k p less e f = absurd (cc e)
has_both (q ∷ ps) zero zero p less e f = absurd (omega (arith, less))
has_both (q ∷ ps) zero (suc k) p less e f =
    let same : q ≡ p = cc e in
    let one : weight (q == p) ≡ weight true = ap weight (eq-eqb q p same) in
    let rest = has_it ps k p f in
    let more = once_more q p ps in
    omega (arith, one, rest, more)
has_both (q ∷ ps) (suc j) zero p less e f = absurd (omega (arith, less))
has_both (q ∷ ps) (suc j) (suc k) p less e f = let rest = has_both ps j k p (omega (arith, less)) e f in let more = once_more q p ps in omega (arith, rest, more)

in_all : (ns : List Node) (a : ℕ) (n : Node) (p : ℕ) → slice_get ns a ≡ Some n → times n.parts p ≤ times (parts_in ns) p
in_all [] a n p e = absurd (cc e)
in_all (x ∷ ns) zero n p e =
    let same : x ≡ n = cc e in
    let one : times x.parts p ≡ times n.parts p = ap (λ (y : Node). times y.parts p) same in
    let more : times (parts_in (x ∷ ns)) p ≡ times x.parts p + times (parts_in ns) p = sum_by-append (λ y. cond (y == p) 1 0) x.parts (parts_in ns) in
    omega (arith, one, more)
in_all (x ∷ ns) (suc a) n p e =
    let rest = in_all ns a n p e in
    let more : times (parts_in (x ∷ ns)) p ≡ times x.parts p + times (parts_in ns) p = sum_by-append (λ y. cond (y == p) 1 0) x.parts (parts_in ns) in
    omega (arith, rest, more)

module _ (t : Typed) (unit : AreOfUnit t) where
  pub one_place : (i j k a : ℕ) (n : Node) → slice_get t.nodes i ≡ Some n → slice_get n.parts j ≡ Some a → slice_get n.parts k ≡ Some a → j < k → ⊥
  one_place i j k a n at e f less =
      let few = slice_get_within n.parts j a e in
      let low = unit.below i n at j few in
      let same : slice_index n.parts j ≡ a = get_or_from_slice_get n.parts j a _ e in
      let within = slice_get_within t.nodes i n at in
      let two = has_both n.parts j k a less e f in
      let all = in_all t.nodes i n a at in
      let once = unit.once a (omega (arith, low, same, within)) in
      let parts : times (parts_in t.nodes ++ t.items) a ≡ times (parts_in t.nodes) a + times t.items a = sum_by-append (λ x. cond (x == a) 1 0) (parts_in t.nodes) t.items in
      absurd (omega (arith, two, all, once, parts))
