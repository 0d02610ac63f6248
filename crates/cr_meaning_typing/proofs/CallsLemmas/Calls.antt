-- The operations of calls, by what is called.
use Rattle.std.proofs.Common.{◌≡◌, ℕ, zero, suc, ◌+◌, ◌<◌, ◌≤◌, ◌^◌, Bool, true, false, Option, Some, List, [], ◌∷◌, length, refl, sym, ap, subst, ◌∙◌, slice_get, arith}
use Rattle.std.proofs.lemmas.Option.{slice_get_within}
use Rattle.cr_ints.specs.declared.kind.IntKind.TheVariants.{Int as IntegerKind}
use Rattle.cr_check_constants.specs.declared.constant.Constant.TheVariants.{NotConstant}
use Rattle.cr_syntax.specs.declared.ctype.CType.TheVariants.{Int, Void, Struct}
use Rattle.cr_typed.specs.declared.typed.Typed.{Typed}
use Rattle.cr_check_types.specs.Types.{Qualified, plain, pointer as to, array}
use Rattle.cr_check_operands.specs.Values.{Seen, value_in, value_of_seen, type_of_value}
use Rattle.cr_check_operands.specs.Rules.{assignable}
use Rattle.cr_check_expressions.specs.Known.{Signature}
use Rattle.cr_check_expressions.specs.Ruled.{seen_in, operand, is_type, is_mispassed}
use Rattle.cr_meaning.specs.World.{Program}
use Rattle.cr_meaning.specs.declared.op.Op.{Op}
use Rattle.cr_meaning.specs.declared.op.Form.{Form}
use Rattle.cr_meaning.specs.declared.op.Form.TheVariants as form
use Rattle.cr_meaning.specs.declared.op.Parameter.{Parameter}
use Rattle.cr_meaning.specs.declared.op.Callee.{Callee}
use Rattle.cr_meaning.specs.declared.op.Callee.TheVariants as callee
use Rattle.cr_meaning.specs.declared.op.Work.TheVariants as work
use Rattle.cr_meaning.specs.declared.run.Limits.{Limits}
use Rattle.cr_meaning_soundness.specs.Sorts.{Sort, number}
use Rattle.cr_meaning_soundness.specs.Statements.{Has, HasSort}
use Rattle.cr_meaning_soundness.specs.Rules.{IsValue, AreArguments}
use Rattle.cr_meaning_soundness.specs.Operands.{IsScalar, IsNumber, TakesArguments}
use Rattle.cr_meaning_operations.specs.Operations.{node_op, parts_at, callee_of, program_of}
use Rattle.cr_meaning_operations.specs.Shapes.{type_of_node}
use Rattle.cr_meaning_typing.specs.Typed.Good.{IsGood, value_sort, row_at}
use Rattle.cr_meaning_typing.specs.Typed.Typing.{has_value}
use Rattle.cr_meaning_typing.specs.Typed.Columns.{AreColumns}
use Rattle.cr_meaning_typing.specs.Expressions.Used.{used_sort, IsUsedAt}
use Rattle.cr_meaning_typing.specs.Calls.Calls.{IsGiven, Takes, IsParameter, Is, IsInt, IsVoid, IsAddress, IsCalled, CallsAreGood}
use Rattle.cr_meaning_typing.proofs.CallsLemmas.Arguments.{IsPassed, passes, each_passed, passable_by, exactly, counts_least, passed_to, number_used, address_used}

-- ---- what a call gives

module _ (p : Program) (row : ℕ) where
  -- a result's type has no qualifiers
  given_sort : (gives : Qualified) → IsGiven gives → value_sort p row (type_of_value (value_in gives NotConstant)) ≡ value_sort p row gives
  given_sort (plain Void c v) g = refl
  given_sort (plain (Int kind) c v) g = refl
  given_sort (plain (Struct node) c v) g = absurd g
  given_sort (plain other c v) g = absurd g
  given_sort (to c v below) g = refl
  given_sort (array n below) g = absurd g

  given_value : (gives : Qualified) → IsGiven gives → IsValue (value_sort p row gives)
  given_value (plain Void c v) g = tt
  given_value (plain (Int kind) c v) g = tt
  given_value (plain (Struct node) c v) g = absurd g
  given_value (plain other c v) g = absurd g
  given_value (to c v below) g = tt
  given_value (array n below) g = absurd g

  int_sort : (gives : Qualified) → IsInt gives → value_sort p row gives ≡ number IntegerKind
  int_sort (plain (Int IntegerKind) c v) i = refl
  int_sort other i = absurd i

int_type : (type : Qualified) → IsInt type → is_type type ≡ true
int_type (plain (Int IntegerKind) c v) i = refl
int_type type i = absurd i

address_type : (type : Qualified) → IsAddress type → is_type type ≡ true
address_type (to c v b) i = refl
address_type type i = absurd i

taken_type : (t : Typed) (own : Form) (type : Qualified) → Takes t own type → is_type type ≡ true
taken_type t (form.Number kind) (plain (Int other) c v) h = refl
taken_type t (form.Pointer to_what) (to c v b) h = refl
taken_type t (form.Cells row) (plain (Struct n) c v) h = refl
taken_type t own type h = absurd h

module _ (t : Typed) (limits : Limits) (sorts : ℕ → Option Sort) (sees : ℕ → Bool) (at : ℕ → Seen) (columns : AreColumns t at) (signature : Signature) (parts : List ℕ) (own : Seen)
    (used : (k a : ℕ) → slice_get parts k ≡ Some a → (has_value (at a).type ≡ true) × IsUsedAt (program_of t limits) t sorts at a)
    (passed : IsPassed signature (operand at parts) (length parts) own) where
  abbrev p : Program
  p = program_of t limits

  abbrev sort_at : ℕ → Sort
  sort_at a = used_sort p (at a).lvalue (row_at t a) (at a).type

  -- each argument has a sort
  argument_sort : (k a : ℕ) → slice_get parts k ≡ Some a → sorts a ≡ Some (sort_at a)
  argument_sort k a e = (used k a e).1 ∙ ap (λ x. Some (used_sort p (at a).lvalue (row_at t a) x)) (columns.types a)

  all_there : (k a : ℕ) → slice_get parts k ≡ Some a → HasSort sorts a
  all_there k a e = (sort_at a, argument_sort k a e)

  -- and may be assigned to its parameter
  assigned : (k a : ℕ) (type : Qualified) → slice_get parts k ≡ Some a → signature.parameter k ≡ Some type → is_type type ≡ true → assignable (value_in type NotConstant) (value_of_seen (at a)) ≡ true
  assigned k a type e f h =
      let low = slice_get_within parts k a e in
      let one = each_passed signature.parameter (operand at parts) (length parts) k passed.passed low in
      let here : operand at parts k ≡ at a = ap (seen_in at) e in
      passable_by type (at a) h (used k a e).0 (subst (λ o. is_mispassed o (at a) ≡ false) f (subst (λ s. is_mispassed (signature.parameter k) s ≡ false) here one))

  -- ---- the program's functions

  module _ (callee_is : Callee) (rest : ℕ) (is_main : Bool) where
    abbrev it : Op
    it = node_op parts (work.Call callee_is)

    passes_one : (k : ℕ) (q : Parameter) → IsParameter p t signature k q → (P : Sort → Type 0) → ((a : ℕ) → slice_get parts k ≡ Some a → P (sort_at a)) → Has sorts it k P
    passes_one k q h P f node sort e g = let same : sort_at node ≡ sort = cc (sym (argument_sort k node e) ∙ g) in subst P same (f node e)

    arguments : (k : ℕ) (qs : List Parameter) → ((j : ℕ) (q : Parameter) → slice_get qs j ≡ Some q → IsParameter p t signature (k + j) q) → AreArguments p sorts it k qs
    arguments k [] each = tt
    arguments k (q ∷ qs) each =
        let zero_is : k + 0 ≡ k = omega arith in
        let one = subst (λ m. IsParameter p t signature m q) zero_is (each 0 q refl) in (
          (one.cells, passes_one k q one _ (λ a e. (passed_to t limits q.form one.type (row_at t a) (at a) one.takes (columns.types a) (assigned k a one.type e one.is (taken_type t q.form one.type one.takes))).converts)),
          arguments (suc k) qs (λ j r e. let next : k + suc j ≡ suc k + j = omega arith in subst (λ m. IsParameter p t signature m r) next (each (suc j) r e)),
        )

    takes : (k : ℕ) (qs : List Parameter) → length parts ≡ k + length qs → ((j : ℕ) (q : Parameter) → slice_get qs j ≡ Some q → IsParameter p t signature (k + j) q) → TakesArguments sorts it k qs
    takes k [] count each = let zero_is : k + 0 ≡ k = omega arith in count ∙ zero_is
    takes k (q ∷ qs) count each =
        let zero_is : k + 0 ≡ k = omega arith in
        let one = subst (λ m. IsParameter p t signature m q) zero_is (each 0 q refl) in (
          passes_one k q one _ (λ a e. (passed_to t limits q.form one.type (row_at t a) (at a) one.takes (columns.types a) (assigned k a one.type e one.is (taken_type t q.form one.type one.takes))).converted),
          takes (suc k) qs (let next : k + suc (length qs) ≡ suc k + length qs = omega arith in count ∙ next)
              (λ j r e. let next : k + suc j ≡ suc k + j = omega arith in subst (λ m. IsParameter p t signature m r) next (each (suc j) r e)),
        )

  -- ---- all callees

  module _ (row : ℕ) (gives : IsGiven signature.gives) (few : limits.output < 2 ^ 31) where
    abbrev made : Sort
    made = value_sort p row signature.gives

    first_is : (more : Bool) (G P : Qualified → Type 0) → (h : Is signature G P more) → (a : ℕ) → slice_get parts 0 ≡ Some a → is_type h.first ≡ true
        → assignable (value_in h.first NotConstant) (value_of_seen (at a)) ≡ true
    first_is more G P h a e typed = assigned 0 a h.first e h.is typed

    has_first : (op : Op) → op.parts ≡ parts → (P : Sort → Type 0) → ((a : ℕ) → slice_get parts 0 ≡ Some a → P (sort_at a)) → Has sorts op 0 P
    has_first op same P f node sort e g =
        let there : slice_get parts 0 ≡ Some node = ap (λ ps. slice_get ps 0) (sym same) ∙ e in
        let is : sort_at node ≡ sort = cc (sym (argument_sort 0 node there) ∙ g) in subst P is (f node there)

    some_count : (n : ℕ) → 1 ≤ n → (count : ℕ) × (n ≡ suc count)
    some_count zero h = absurd (omega (arith, h))
    some_count (suc n) h = (n, refl)

    from_first : (parameters : List Parameter) → ((k : ℕ) (q : Parameter) → slice_get parameters k ≡ Some q → IsParameter p t signature k q)
        → (k : ℕ) (q : Parameter) → slice_get parameters k ≡ Some q → IsParameter p t signature (0 + k) q
    from_first parameters each k q e = let same : k ≡ 0 + k = omega arith in subst (λ m. IsParameter p t signature m q) same (each k q e)

    calls_by : (c : Callee) → IsCalled p t sorts signature c → IsGood p sorts sees (node_op parts (work.Call c)) made
    calls_by (callee.Function parameters rest is_main) h = record {
      typed = record {
        gives = (
          given_value p row signature.gives gives,
          record {
            result = h.result;
            own_is = h.gives row;
            body = h.body;
            main = h.main;
            arguments = arguments (callee.Function parameters rest is_main) rest is_main 0 parameters (from_first parameters h.each);
          },
        );
        parts = all_there;
      };
      demands = takes (callee.Function parameters rest is_main) rest is_main 0 parameters
          (let exact = exactly signature (length parts) h.closed passed.counts in let count = h.count in omega (arith, exact, count)) (from_first parameters h.each);
    }
    calls_by (callee.Printf texts) h = record {
      typed = record { gives = (given_value p row signature.gives gives, (int_sort p row signature.gives h.gives_is, few)); parts = all_there };
      demands = (let n = some_count (length parts) (let least = counts_least signature (length parts) passed.counts in let one = h.count in omega (arith, least, one)) in
          (n.0, (n.1, has_first (node_op parts (work.Call (callee.Printf texts))) refl IsScalar (λ a e. address_used p h.first (row_at t a) (at a) h.takes (first_is true IsInt IsAddress h a e (address_type h.first h.takes))))));
    }
    calls_by callee.Putchar h = record {
      typed = record { gives = (given_value p row signature.gives gives, int_sort p row signature.gives h.gives_is); parts = all_there };
      demands = (
        sym (exactly signature (length parts) h.more_is passed.counts) ∙ h.count,
        has_first (node_op parts (work.Call callee.Putchar)) refl IsNumber
            (λ a e. number_used p h.first (row_at t a) (at a) h.takes (first_is false IsInt IsInt h a e (int_type h.first h.takes))),
      );
    }
    calls_by callee.Exit h = record {
      typed = record { gives = (given_value p row signature.gives gives, tt); parts = all_there };
      demands = (
        sym (exactly signature (length parts) h.more_is passed.counts) ∙ h.count,
        has_first (node_op parts (work.Call callee.Exit)) refl IsNumber
            (λ a e. number_used p h.first (row_at t a) (at a) h.takes (first_is false IsVoid IsInt h a e (int_type h.first h.takes))),
      );
    }
    calls_by callee.Abort h = record { typed = record { gives = (given_value p row signature.gives gives, tt); parts = all_there }; demands = tt }

pub calls : CallsAreGood
calls t limits sorts sees at columns i signature e h few gives callee_is used =
    let passed = passes signature (operand at (parts_at t i)) (length (parts_at t i)) (at i) e h in
    let p = program_of t limits in
    let type : type_of_node t i ≡ type_of_value (value_in signature.gives NotConstant) = columns.types i ∙ passed.type in
    subst (IsGood p sorts sees (node_op (parts_at t i) (work.Call (callee_of t i)))) (sym (ap (value_sort p (row_at t i)) type ∙ given_sort p (row_at t i) signature.gives gives))
    (calls_by t limits sorts sees at columns signature (parts_at t i) (at i) used passed (row_at t i) gives few (callee_of t i) callee_is)
