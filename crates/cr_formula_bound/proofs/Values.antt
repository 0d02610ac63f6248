-- The value of a formula by what was found, and by how the runs end.
use Rattle.std.specs.Prelude.{IsTrue, ◌↔◌}
use Rattle.std.proofs.Common.{◌≡◌, inl, inr, ℕ, Bool, true, false, List, Option, Some, None, refl, sym, subst}
use Rattle.cr_outside.specs.declared.judge.Answer.{Answer}
use Rattle.cr_outside.specs.declared.judge.Answer.TheVariants.{Yes, No, Failed, NoMemory}
use Rattle.cr_meaning.specs.declared.run.Limits.{Limits}
use Rattle.cr_formula.specs.Forms.{Form}
use Rattle.cr_formula.specs.Forms.Form.{both, either, ends, has, negated, prints, same}
use Rattle.cr_lawful.specs.Runs.{ComesToEnd, EndsAs, HasOneEnd}
use Rattle.cr_lawful.specs.declared.ends.Ended.{Ended}
use Rattle.cr_formula_bound.specs.Values.{AnswersBy, EndedWith, Ending, EndsBy, Holds, HoldsBy, PrintsBy, StandsIn, Value}

-- two endings are alike
pub record Alike (E G : Ending) : Type 0 where
  pub to : (status : ℕ) (output : List ℕ) → E status output → G status output
  pub from : (status : ℕ) (output : List ℕ) → G status output → E status output

-- a formula holds alike of what ends alike
pub holds_alike : (f : Form) (E G F H : Ending) (file : List ℕ) → Alike E G → Alike F H → (Holds f E F file → Holds f G H file) × (Holds f G H file → Holds f E F file)
holds_alike (has text) E G F H file e f = (λ it. it, λ it. it)
holds_alike (prints text) E G F H file e f = (λ it. (it.0, it.1, e.to it.0 it.1 it.2, it.3), λ it. (it.0, it.1, e.from it.0 it.1 it.2, it.3))
holds_alike (ends status) E G F H file e f = (λ it. (it.0, e.to status it.0 it.1), λ it. (it.0, e.from status it.0 it.1))
holds_alike same E G F H file e f = (λ it. (it.0, it.1, e.to it.0 it.1 it.2, f.to it.0 it.1 it.3), λ it. (it.0, it.1, e.from it.0 it.1 it.2, f.from it.0 it.1 it.3))
holds_alike (both left right) E G F H file e f =
    let a = holds_alike left E G F H file e f in
    let b = holds_alike right E G F H file e f in
    (λ it. (a.0 it.0, b.0 it.1), λ it. (a.1 it.0, b.1 it.1))
holds_alike (either left right) E G F H file e f =
    let a = holds_alike left E G F H file e f in
    let b = holds_alike right E G F H file e f in
    (λ it. elim it [ inl x ↦ inl (a.0 x) | inr y ↦ inr (b.0 y) ], λ it. elim it [ inl x ↦ inl (a.1 x) | inr y ↦ inr (b.1 y) ])
holds_alike (negated one) E G F H file e f =
    let a = holds_alike one E G F H file e f in
    (λ it holds. it (a.1 holds), λ it holds. it (a.0 holds))

-- a run that ends in one way ends as was found
found_alike : (E : Ending) (end : Option Ended) → ((s t : ℕ) (o p : List ℕ) → E s o → E t p → (s ≡ t) × (o ≡ p)) → EndsAs E end → Alike (EndedWith end) E
found_alike E None one none = record { to = λ s o nothing. absurd nothing; from = λ s o it. none s o it }
found_alike E (Some end) one found = record {
  to = λ s o equal. subst (λ t. E t o) equal.0 (subst (λ p. E end.status p) equal.1 found);
  from = λ s o also. one end.status s end.output o found also;
}

-- where what an answer says holds alike, it says the same
pub answers_alike : (P Q : Type 0) (a : Answer) → (P → Q) → (Q → P) → AnswersBy P a → AnswersBy Q a
answers_alike P Q Yes to from it = to it
answers_alike P Q No to from it = λ q. it (from q)
answers_alike P Q Failed to from it = it
answers_alike P Q NoMemory to from it = tt

-- the value by what was found is the file's
pub value_found : (f : Form) (limits : Limits) (input file : List ℕ) (end : Option Ended) (ended : Ended) (a : Answer) → HasOneEnd
    → EndsAs (ComesToEnd limits file) end → ComesToEnd limits input ended.status ended.output
    → AnswersBy (HoldsBy f end ended file) a → AnswersBy (Value f input limits file) a
value_found f limits input file end ended a one found came is =
    let E : Ending = ComesToEnd limits file in
    let F : Ending = ComesToEnd limits input in
    let alike = holds_alike f (EndedWith end) E (EndedWith (Some ended)) F file
    (found_alike E end (one limits file) found) (found_alike F (Some ended) (one limits input) came) in
    answers_alike (HoldsBy f end ended file) (Value f input limits file) a alike.0 alike.1 is

-- what was asked of the runs is answered
pub answered : (P : Type 0) (holds : Bool) (a : Answer) → (IsTrue holds ↔ P) → (IsTrue holds → a ≡ Yes) → (holds ≡ false → a ≡ No) → AnswersBy P a
answered P true a is holds fails = subst (AnswersBy P) (sym (holds refl)) (is.0 refl)
answered P false a is holds fails = subst (AnswersBy P) (sym (fails refl)) (λ it. let bad : false ≡ true = is.1 it in cc)

pub value_asked : (f : Form) (limits : Limits) (input file : List ℕ) (end : Option Ended) (ended : Ended) (holds : Bool) (a : Answer) → HasOneEnd
    → EndsAs (ComesToEnd limits file) end → ComesToEnd limits input ended.status ended.output
    → (IsTrue holds ↔ HoldsBy f end ended file) → (IsTrue holds → a ≡ Yes) → (holds ≡ false → a ≡ No) → AnswersBy (Value f input limits file) a
value_asked f limits input file end ended b a one found came is holds fails =
    value_found f limits input file end ended a one found came (answered (HoldsBy f end ended file) b a is holds fails)

-- tests of the leaves
pub prints_some : (holds : Bool) (text : List ℕ) (end : Ended) → (IsTrue holds ↔ StandsIn text end.output) → (IsTrue holds ↔ PrintsBy text (Some end))
prints_some holds text end is = (λ yes. (end.status, end.output, (refl, refl), is.0 yes), λ it. is.1 (subst (StandsIn text) (sym it.2.1) it.3))

pub ends_some : (holds : Bool) (status : ℕ) (end : Ended) → (IsTrue holds ↔ (end.status ≡ status)) → (IsTrue holds ↔ EndsBy status (Some end))
ends_some holds status end is = (λ yes. (end.output, (is.0 yes, refl)), λ it. is.1 it.1.0)
