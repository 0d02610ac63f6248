-- What is passed to a parameter has the sort that it takes.
use Rattle.std.proofs.Common.{◌≡◌, ℕ, zero, suc, ◌<◌, ◌≤◌, ◌==◌, Bool, true, false, not, ◌&&◌, ◌||◌, Option, Some, inl, inr, refl, sym, ap, subst, ◌∙◌, arith, if◌then◌else◌}
use Rattle.std.specs.Prelude.{nat_le}
use Rattle.std.proofs.lemmas.Bool.{false≢true, and_parts, eqb-true, leb-true, cases_lt, not-false}
use Rattle.cr_ints.specs.declared.kind.IntKind.{IntKind}
use Rattle.cr_ints.specs.declared.kind.IntKind.TheVariants.{Int as IntegerKind}
use Rattle.cr_check_constants.specs.declared.constant.Constant.{Constant}
use Rattle.cr_check_constants.specs.declared.constant.Constant.TheVariants.{NotConstant}
use Rattle.cr_syntax.specs.declared.ctype.CType.TheVariants.{Int, Void, Struct}
use Rattle.cr_typed.specs.declared.typed.Typed.{Typed}
use Rattle.cr_check_types.specs.Types.{Qualified, plain, pointer as to, array, type_at}
use Rattle.cr_check_operands.specs.Values.{Seen, Valued, number as a_number, address, structure, untyped, value_in, value_beside_places, value_of_seen, type_of_value}
use Rattle.cr_check_operands.specs.Rules.{assignable, scalar_constant}
use Rattle.cr_check_expressions.specs.Known.{Signature, a_function}
use Rattle.cr_check_expressions.specs.Ruled.{given, is_type, is_typed, is_mispassed, are_passed, counts_agree, called}
use Rattle.cr_meaning.specs.World.{Program}
use Rattle.cr_meaning.specs.declared.op.Form.{Form}
use Rattle.cr_meaning.specs.declared.op.Form.TheVariants as form
use Rattle.cr_meaning.specs.declared.run.Limits.{Limits}
use Rattle.cr_meaning_soundness.specs.Sorts.{Sort, cells}
use Rattle.cr_meaning_soundness.specs.Statements.{Converts}
use Rattle.cr_meaning_soundness.specs.Operands.{IsScalar, IsNumber, IsConverted}
use Rattle.cr_meaning_operations.specs.Operations.{program_of}
use Rattle.cr_meaning_typing.specs.Typed.Typing.{has_value}
use Rattle.cr_meaning_typing.proofs.TypedLemmas.Worth.{worth_typed}
use Rattle.cr_meaning_typing.specs.Expressions.Used.{used_sort}
use Rattle.cr_meaning_typing.proofs.ExpressionsLemmas.Types.{typeless}
use Rattle.cr_meaning_typing.proofs.ExpressionsLemmas.Operators.{scalar_used}
use Rattle.cr_meaning_typing.proofs.ExpressionsLemmas.Chosen.{same_kinds}
use Rattle.cr_meaning_typing.specs.Calls.Calls.{Takes, IsInt, IsAddress}

second : (a b : Bool) → (a && b) ≡ false → a ≡ true → b ≡ false
second true b e h = e
second false b e h = absurd (false≢true h)

-- ---- what a rule of calls says

-- a call that has a type has as many arguments as there are parameters, or may have more, and each is passed to its own
pub record IsPassed (signature : Signature) (argument : ℕ → Seen) (count : ℕ) (own : Seen) : Type 0 where
  pub counts : counts_agree signature count ≡ true
  pub passed : are_passed signature.parameter argument count ≡ true
  pub type : own.type ≡ type_of_value (value_in signature.gives NotConstant)

chosen : (b : Bool) (v : Valued) (own : Seen) → own ≡ given (if b then v else untyped) → is_typed own ≡ true → (b ≡ true) × (own.type ≡ type_of_value v)
chosen true v own e h = (refl, ap (λ (o : Seen). o.type) e)
chosen false v own e h = typeless own (given untyped) e h refl

pub passes : (signature : Signature) (argument : ℕ → Seen) (count : ℕ) (own : Seen) → own ≡ given (called (a_function signature) argument count) → is_typed own ≡ true → IsPassed signature argument count own
unfolding called
passes signature argument count own e h =
    let it = chosen (counts_agree signature count && are_passed signature.parameter argument count) (value_in signature.gives NotConstant) own e h in
    let both = and_parts (counts_agree signature count) (are_passed signature.parameter argument count) it.0 in
    record { counts = both.0; passed = both.1; type = it.1 }

pub each_passed : (parameter : ℕ → Option Qualified) (argument : ℕ → Seen) (count k : ℕ) → are_passed parameter argument count ≡ true → k < count → is_mispassed (parameter k) (argument k) ≡ false
each_passed parameter argument zero k h low = absurd (omega (arith, low))
each_passed parameter argument (suc count) k h low =
    let both = and_parts (are_passed parameter argument count) (not (is_mispassed (parameter count) (argument count))) h in
    elim (cases_lt k count) [
      | inl less ↦ each_passed parameter argument count k both.0 less
      | inr more ↦ let same : count ≡ k = omega (arith, low, more) in subst (λ m. is_mispassed (parameter m) (argument m) ≡ false) same (is_not (is_mispassed (parameter count) (argument count)) both.1)
    ]
  where
    is_not : (b : Bool) → not b ≡ true → b ≡ false
    is_not true e = absurd (false≢true e)
    is_not false e = refl

pub passable_by : (type : Qualified) (argument : Seen) → is_type type ≡ true → has_value argument.type ≡ true → is_mispassed (Some type) argument ≡ false → assignable (value_in type NotConstant) (value_of_seen argument) ≡ true
unfolding is_mispassed
passable_by type argument t h n =
    not-false (assignable (value_in type NotConstant) (value_of_seen argument))
    (second (is_typed argument) (not (assignable (value_in type NotConstant) (value_of_seen argument)))
    (second (is_type type) (is_typed argument && not (assignable (value_in type NotConstant) (value_of_seen argument))) n t) (worth_typed argument.type h))

-- without `...` there are just so many
pub exactly : (signature : Signature) (count : ℕ) → signature.more ≡ false → counts_agree signature count ≡ true → signature.count ≡ count
exactly signature count closed h = eqb-true signature.count count (by (signature.count == count) (ap (λ m. (signature.count == count) || (m && nat_le signature.count count)) (sym closed) ∙ h))
  where
    by : (b : Bool) → (b || (false && nat_le signature.count count)) ≡ true → b ≡ true
    by true e = refl
    by false e = absurd (false≢true e)

-- and with it no fewer
pub counts_least : (signature : Signature) (count : ℕ) → counts_agree signature count ≡ true → signature.count ≤ count
counts_least signature count h = by (signature.count == count) (nat_le signature.count count) refl refl h
  where
    by : (b c : Bool) → (signature.count == count) ≡ b → nat_le signature.count count ≡ c → (b || (signature.more && c)) ≡ true → signature.count ≤ count
    by true c e f h = let same = eqb-true signature.count count e in omega (arith, same)
    by false true e f h = leb-true signature.count count f
    by false false e f h = absurd (false≢true (and_parts signature.more false h).1)

-- ---- what is assigned

pub record IsPassedTo (p : Program) (own : Form) (sort : Sort) : Type 0 where
  pub converts : Converts p own sort
  pub converted : IsConverted own sort

module _ (t : Typed) (limits : Limits) where
  -- a scalar to a scalar
  scalar_number : (kind : IntKind) (v : Valued) (sort : Sort) → assignable (a_number (record { kind = kind; constant = NotConstant })) v ≡ true
      → ((k : Constant) → scalar_constant v ≡ Some k → IsScalar sort) → IsScalar sort
  scalar_number kind (a_number y) sort h s = s y.constant refl
  scalar_number kind (address u) sort h s = s NotConstant refl
  scalar_number kind v sort h s = absurd (false≢true h)

  scalar_pointer : (b : Qualified) (v : Valued) (sort : Sort) → assignable (address b) v ≡ true → ((k : Constant) → scalar_constant v ≡ Some k → IsScalar sort) → IsScalar sort
  scalar_pointer b (a_number y) sort h s = s y.constant refl
  scalar_pointer b (address u) sort h s = s NotConstant refl
  scalar_pointer b v sort h s = absurd (false≢true h)

  -- a structure to one of the same node
  structure_there : (n : ℕ) (l : Bool) (type : Qualified) (c : Constant) → assignable (structure n) (if l then value_in type c else value_beside_places type c) ≡ true
      → (d : Bool) × ((w : Bool) × (type ≡ plain (Struct n) d w))
  structure_there n true (plain (Struct m) d w) c h = (d, (w, ap (λ q. plain (Struct q) d w) (sym (eqb-true n m h))))
  structure_there n false (plain (Struct m) d w) c h = (d, (w, ap (λ q. plain (Struct q) d w) (sym (eqb-true n m h))))
  structure_there n true (plain (Int k) d w) c h = absurd (false≢true h)
  structure_there n false (plain (Int k) d w) c h = absurd (false≢true h)
  structure_there n true (plain Void d w) c h = absurd (false≢true h)
  structure_there n false (plain Void d w) c h = absurd (false≢true h)
  structure_there n true (plain other d w) c h = absurd (false≢true h)
  structure_there n false (plain other d w) c h = absurd (false≢true h)
  structure_there n true (to d w b) c h = absurd (false≢true h)
  structure_there n false (to d w b) c h = absurd (false≢true h)
  structure_there n true (array m b) c h = absurd (false≢true h)
  structure_there n false (array m b) c h = absurd (false≢true h)

  structure_sort : (l : Bool) (row n : ℕ) (d w : Bool) → used_sort (program_of t limits) l row (plain (Struct n) d w) ≡ cells ((program_of t limits).kinds row)
  structure_sort true row n d w = refl
  structure_sort false row n d w = refl

  pub passed_to : (own : Form) (type : Qualified) (row : ℕ) (argument : Seen) → Takes t own type → type_at t.shapes row ≡ argument.type
      → assignable (value_in type NotConstant) (value_of_seen argument) ≡ true → IsPassedTo (program_of t limits) own (used_sort (program_of t limits) argument.lvalue row argument.type)
  passed_to (form.Number kind) (plain (Int other) c v) row s takes e h =
      record { converts = tt; converted = scalar_number other (value_of_seen s) _ h (λ k f. scalar_used (program_of t limits) s.lvalue row s.type s.constant k f) }
  passed_to (form.Pointer number) (to c v b) row s takes e h =
      record { converts = tt; converted = scalar_pointer b (value_of_seen s) _ h (λ k f. scalar_used (program_of t limits) s.lvalue row s.type s.constant k f) }
  passed_to (form.Cells other) (plain (Struct n) c v) row s takes e h =
      let it = structure_there n s.lvalue s.type s.constant h in
      let kinds = same_kinds t limits n it.0 it.1.0 takes.0 takes.1.0 row other (e ∙ it.1.1) takes.1.1 in
      record {
        converts = ap (used_sort (program_of t limits) s.lvalue row) it.1.1 ∙ structure_sort s.lvalue row n it.0 it.1.0 ∙ ap cells kinds;
        converted = tt;
      }
  passed_to own type row s takes e h = absurd takes

-- an int's argument is a number, and an address a scalar
pub number_used : (p : Program) (type : Qualified) (row : ℕ) (s : Seen) → IsInt type → assignable (value_in type NotConstant) (value_of_seen s) ≡ true → IsNumber (used_sort p s.lvalue row s.type)
number_used p (plain (Int IntegerKind) c v) row s i h = by s.lvalue s.type h
  where
    by : (l : Bool) (type : Qualified) → assignable (value_in (plain (Int IntegerKind) c v) NotConstant) (if l then value_in type s.constant else value_beside_places type s.constant) ≡ true
        → IsNumber (used_sort p l row type)
    by true (plain (Int k) d w) e = tt
    by false (plain (Int k) d w) e = tt
    by true other e = absurd (false≢true e)
    by false other e = absurd (false≢true e)
number_used p type row s i h = absurd i

pub address_used : (p : Program) (type : Qualified) (row : ℕ) (s : Seen) → IsAddress type → assignable (value_in type NotConstant) (value_of_seen s) ≡ true → IsScalar (used_sort p s.lvalue row s.type)
address_used p (to c v b) row s i h = by (value_of_seen s) h (λ k f. scalar_used p s.lvalue row s.type s.constant k f)
  where
    by : (v : Valued) → assignable (address b) v ≡ true → ((k : Constant) → scalar_constant v ≡ Some k → IsScalar (used_sort p s.lvalue row s.type)) → IsScalar (used_sort p s.lvalue row s.type)
    by (a_number y) e f = f y.constant refl
    by (address u) e f = f NotConstant refl
    by v e f = absurd (false≢true e)
address_used p type row s i h = absurd i
