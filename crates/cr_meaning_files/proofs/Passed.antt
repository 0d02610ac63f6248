-- What a call passes has types of which values may be passed (K17, K18).
use Rattle.std.proofs.Common.{◌≡◌, ℕ, zero, suc, ◌<◌, true, false, List, [], ◌∷◌, Some, length, slice_get, refl, sym, ap, subst, ◌∙◌, arith}
use Rattle.std.proofs.lemmas.Bool.{false≢true}
use Rattle.cr_syntax.specs.declared.ctype.CType.TheVariants.{Int, Struct}
use Rattle.cr_syntax.specs.declared.node.Node.{Node}
use Rattle.cr_check_constants.specs.declared.constant.Constant.TheVariants.{NotConstant}
use Rattle.cr_check_types.specs.Types.{Qualified, plain, pointer as to, array}
use Rattle.cr_check_operands.specs.Values.{Valued, Seen, value_in, value_of_seen}
use Rattle.cr_check_operands.specs.Rules.{assignable}
use Rattle.cr_check_expressions.specs.declared.form.Form.TheVariants as form
use Rattle.cr_check_expressions.specs.Known.{Signature, Source, a_function}
use Rattle.cr_check_expressions.specs.Ruled.{seen_in, operand, given, is_typed, is_parameter, is_mispassed, called, ruled}
use Rattle.cr_meaning_typing.specs.Typed.Typing.{has_value}
use Rattle.cr_meaning_typing.proofs.CallsLemmas.Arguments.{passes, each_passed, passable_by, exactly}
use Rattle.cr_meaning_objects.specs.Called.Laws.{IsPassed}

passable : (type : Qualified) (v : Valued) → assignable (value_in type NotConstant) v ≡ true → IsPassed type
passable (plain (Int k) c w) v e = tt
passable (plain (Struct n) c w) v e = tt
passable (to c w a) v e = tt
passable (array n a) v e = tt
passable (plain of c w) v e = absurd (false≢true e)

some_part : (parts : List ℕ) (k : ℕ) → k < length parts → (a : ℕ) × (slice_get parts k ≡ Some a)
some_part [] k low = absurd (omega (arith, low))
some_part (a ∷ parts) zero low = (a, refl)
some_part (a ∷ parts) (suc k) low = some_part parts k (omega (arith, low))

module _ (signature : Signature) (at : ℕ → Seen) (s : Source) (i : ℕ) (n : Node) (rule : at i ≡ ruled form.Call at s i n) (stands : s.stands i ≡ a_function signature) (typed : is_typed (at i) ≡ true)
    (closed : signature.more ≡ false) (values : (k a : ℕ) → slice_get n.parts k ≡ Some a → has_value (at a).type ≡ true) (types : (k : ℕ) → is_parameter (signature.parameter k) ≡ true) where
  pub passed_types : (k : ℕ) (type : Qualified) → k < signature.count → signature.parameter k ≡ Some type → IsPassed type
  passed_types k type low f =
      let is = passes signature (operand at n.parts) (length n.parts) (at i) (rule ∙ ap (λ m. given (called m (operand at n.parts) (length n.parts))) stands) typed in
      let count = exactly signature (length n.parts) closed is.counts in
      let a = some_part n.parts k (omega (arith, low, count)) in
      let one = each_passed signature.parameter (operand at n.parts) (length n.parts) k is.passed (omega (arith, low, count)) in
      let here : operand at n.parts k ≡ at a.0 = ap (seen_in at) a.1 in
      passable type (value_of_seen (at a.0))
      (passable_by type (at a.0) (ap is_parameter (sym f) ∙ types k) (values k a.0 a.1)
      (subst (λ o. is_mispassed o (at a.0) ≡ false) f (subst (λ v. is_mispassed (signature.parameter k) v ≡ false) here one)))
