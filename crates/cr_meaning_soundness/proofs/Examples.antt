-- Expressions, statements and a program whose operations are typed, built by hand: the facts fail where a rule asks for something
-- else.
use Rattle.std.proofs.Common.{◌≡◌, refl, subst, arith, inl}
use Rattle.std.specs.Prelude.{ℕ, zero, suc, pos, Bool, true, false, Option, Some, None, List, [], ◌∷◌, slice_get}
use Rattle.cr_ints.specs.declared.kind.IntKind.TheVariants.{Int, Char, UChar}
use Rattle.cr_memory.specs.declared.value.Element.{Element}
use Rattle.cr_memory.specs.declared.value.Scalar.{Scalar}
use Rattle.cr_memory.specs.declared.value.Scalar.TheVariants as scalar
use Rattle.cr_memory.specs.declared.value.Guard.{Guard}
use Rattle.cr_memory.specs.declared.value.Guard.TheVariants as guard
use Rattle.cr_meaning.specs.World.{Program}
use Rattle.cr_meaning.specs.declared.op.Op.{Op}
use Rattle.cr_meaning.specs.declared.op.Form.TheVariants as form
use Rattle.cr_meaning.specs.declared.op.Access.{Access}
use Rattle.cr_meaning.specs.declared.op.Access.TheVariants as access
use Rattle.cr_meaning.specs.declared.op.Operator.TheVariants as operator
use Rattle.cr_meaning.specs.declared.op.Change.TheVariants.{Arithmetic, Move}
use Rattle.cr_meaning.specs.declared.op.Work.{Work}
use Rattle.cr_meaning.specs.declared.op.Work.TheVariants as work
use Rattle.cr_meaning_soundness.specs.Sorts.{Sort, number, pointer, place, statement, chars}
use Rattle.cr_meaning_soundness.specs.Statements.{Has, HasSort, of_function, in_loop, in_block, Initialises, HasCells}
use Rattle.cr_meaning_soundness.specs.Rules.{AllFrom, Gives, IsTyped, AreTyped}
use Rattle.cr_meaning_soundness.specs.Programs.{IsWellTyped}
use Rattle.cr_meaning_soundness.specs.Operands.{IsScalar, Demands}
use Rattle.cr_meaning_soundness.specs.Ends.{IsComplete}
use Rattle.cr_meaning_soundness.proofs.Numbers.{zero_or_one}

abbrev op : List ℕ → Work → Access → Op
op parts work access = record { parts = parts; work = work; access = access }

-- int i; int a[2];
abbrev shape : ℕ → List (Scalar × Guard)
shape zero = (scalar.Int Int, guard.Free) ∷ []
shape (suc node) = (scalar.Int Int, guard.Free) ∷ (scalar.Int Int, guard.Free) ∷ []

abbrev program : List Op → Program
program ops = record { ops = ops; shape = shape; literal = λ node. None; kinds = λ row. []; limits = record { steps = 60; depth = 4; cells = 100; output = 100 } }

is_one : {A : Type 0} {a b : A} → Some a ≡ Some b → a ≡ b
is_one e = cc

of_one : (P : Op → Sort → Type 0) (o x : Op) (s y : Sort) → P o s → Some s ≡ Some y → Some o ≡ Some x → P x y
of_one P o x s y h e f =
    let F : Sort → Type 0 = λ z. P x z in
    let G : Op → Type 0 = λ z. P z s in subst F (is_one e) (subst G (is_one f) h)

no_parts : (sorts : ℕ → Option Sort) (k node : ℕ) → slice_get [] k ≡ Some node → HasSort sorts node
no_parts sorts zero node e = absurd cc
no_parts sorts (suc k) node e = absurd cc

one_part : (sorts : ℕ → Option Sort) (a : ℕ) → HasSort sorts a → (k node : ℕ) → slice_get (a ∷ []) k ≡ Some node → HasSort sorts node
one_part sorts a h zero node e = subst (HasSort sorts) (is_one e) h
one_part sorts a h (suc k) node e = no_parts sorts k node e

two_parts : (sorts : ℕ → Option Sort) (a b : ℕ) → HasSort sorts a → HasSort sorts b → (k node : ℕ) → slice_get (a ∷ b ∷ []) k ≡ Some node → HasSort sorts node
two_parts sorts a b h i zero node e = subst (HasSort sorts) (is_one e) h
two_parts sorts a b h i (suc k) node e = one_part sorts b i k node e

-- i = i + 1
abbrev sum : List Op
sum =
    op [] (work.Object 0 0) access.Unused ∷ op [] (work.Object 0 0) (access.Scalar (scalar.Int Int) false) ∷ op [] (work.Constant Int (pos 1)) access.Unused
    ∷ op (1 ∷ 2 ∷ []) (work.Binary (Arithmetic operator.Add Int)) access.Unused ∷ op (0 ∷ 3 ∷ []) (work.Assign (form.Number Int)) access.Unused ∷ []

abbrev sum_sorts : ℕ → Option Sort
sum_sorts zero = Some (place 1)
sum_sorts (suc (suc (suc (suc (suc node))))) = None
sum_sorts (suc node) = Some (number Int)

sum_is_typed : AreTyped (program sum) sum_sorts
sum_is_typed zero x own e f = of_one (IsTyped (program sum) sum_sorts) _ x (place 1) own (record { gives = (tt, (omega arith, refl)); parts = no_parts sum_sorts }) e f
sum_is_typed (suc zero) x own e f = of_one (IsTyped (program sum) sum_sorts) _ x (number Int) own (record { gives = (tt, (omega arith, refl)); parts = no_parts sum_sorts }) e f
sum_is_typed (suc (suc zero)) x own e f =
    of_one (IsTyped (program sum) sum_sorts) _ x (number Int) own (record { gives = (tt, (refl, zero_or_one Int true)); parts = no_parts sum_sorts }) e f
sum_is_typed (suc (suc (suc zero))) x own e f =
    of_one (IsTyped (program sum) sum_sorts) _ x (number Int) own (record { gives = (tt, refl); parts = two_parts sum_sorts 1 2 (number Int, refl) (number Int, refl) }) e f
sum_is_typed (suc (suc (suc (suc zero)))) x own e f =
    of_one (IsTyped (program sum) sum_sorts) _ x (number Int) own
    (record { gives = (tt, (refl, λ node sort g h. tt)); parts = two_parts sum_sorts 0 3 (place 1, refl) (number Int, refl) }) e f
sum_is_typed (suc (suc (suc (suc (suc node))))) x own e f = absurd cc

-- an element of one cell; types have one name here
abbrev single : Element
single = record { cells = 1; of = 0 }

-- *(a + 1)
abbrev element : List Op
element =
    op [] (work.Object 1 0) (access.Array single 2) ∷ op [] (work.Constant Int (pos 1)) access.Unused ∷ op (0 ∷ 1 ∷ []) (work.Binary (Move false single)) access.Unused
    ∷ op (2 ∷ []) (work.Dereference single) (access.Scalar (scalar.Int Int) false) ∷ []

abbrev element_sorts : ℕ → Option Sort
element_sorts zero = Some pointer
element_sorts (suc zero) = Some (number Int)
element_sorts (suc (suc zero)) = Some pointer
element_sorts (suc (suc (suc zero))) = Some (number Int)
element_sorts (suc (suc (suc (suc node)))) = None

element_is_typed : AreTyped (program element) element_sorts
element_is_typed zero x own e f =
    of_one (IsTyped (program element) element_sorts) _ x pointer own (record { gives = (tt, (omega arith, (refl, omega arith, refl))); parts = no_parts element_sorts }) e f
element_is_typed (suc zero) x own e f =
    of_one (IsTyped (program element) element_sorts) _ x (number Int) own (record { gives = (tt, (refl, zero_or_one Int true)); parts = no_parts element_sorts }) e f
element_is_typed (suc (suc zero)) x own e f =
    of_one (IsTyped (program element) element_sorts) _ x pointer own (record { gives = (tt, refl); parts = two_parts element_sorts 0 1 (pointer, refl) (number Int, refl) }) e f
element_is_typed (suc (suc (suc zero))) x own e f =
    of_one (IsTyped (program element) element_sorts) _ x (number Int) own (record { gives = (tt, refl); parts = one_part element_sorts 2 (pointer, refl) }) e f
element_is_typed (suc (suc (suc (suc node)))) x own e f = absurd cc

-- ---- statements

known : (sorts : ℕ → Option Sort) (op : Op) (k a : ℕ) (s : Sort) → slice_get op.parts k ≡ Some a → sorts a ≡ Some s → Has sorts op k (λ each. each ≡ s)
known sorts op k a s e f node sort g h = cc

both_known : (sorts : ℕ → Option Sort) (a b : ℕ) (w : Work) (s : Sort) → sorts a ≡ Some s → sorts b ≡ Some s → AllFrom sorts (op (a ∷ b ∷ []) w access.Unused) 0 s
both_known sorts a b w s e f zero from node sort g h = known sorts (op (a ∷ b ∷ []) w access.Unused) 0 a s refl e node sort g h
both_known sorts a b w s e f (suc zero) from node sort g h = known sorts (op (a ∷ b ∷ []) w access.Unused) 1 b s refl f node sort g h
both_known sorts a b w s e f (suc (suc zero)) from node sort g h = absurd (cc g)
both_known sorts a b w s e f (suc (suc (suc k))) from node sort g h = absurd (cc g)

-- int main(void) {while (1) break; return 0;}
abbrev main : List Op
main =
    op [] (work.Constant Int (pos 1)) access.Unused ∷ op [] work.Break access.Unused ∷ op (0 ∷ 1 ∷ []) work.While access.Unused
    ∷ op [] (work.Constant Int (pos 0)) access.Unused ∷ op (3 ∷ []) (work.Return (form.Number Int)) access.Unused ∷ op (2 ∷ 4 ∷ []) (work.Block [] []) access.Unused
    ∷ op [] (work.Program [] [] (scalar.Pointer 3) 5) access.Unused ∷ []

abbrev whole : Sort
whole = statement (of_function (form.Number Int))

abbrev main_sorts : ℕ → Option Sort
main_sorts zero = Some (number Int)
main_sorts (suc zero) = Some (statement (in_loop (in_block [] (of_function (form.Number Int)))))
main_sorts (suc (suc zero)) = Some whole
main_sorts (suc (suc (suc zero))) = Some (number Int)
main_sorts (suc (suc (suc (suc zero)))) = Some whole
main_sorts (suc (suc (suc (suc (suc zero))))) = Some whole
main_sorts (suc (suc (suc (suc (suc (suc node)))))) = None

main_is_typed : AreTyped (program main) main_sorts
main_is_typed zero x own e f =
    of_one (IsTyped (program main) main_sorts) _ x (number Int) own (record { gives = (tt, (refl, zero_or_one Int true)); parts = no_parts main_sorts }) e f
main_is_typed (suc zero) x own e f = of_one (IsTyped (program main) main_sorts) _ x _ own (record { gives = refl; parts = no_parts main_sorts }) e f
main_is_typed (suc (suc zero)) x own e f =
    of_one (IsTyped (program main) main_sorts) _ x whole own (record {
      gives = known main_sorts (op (0 ∷ 1 ∷ []) work.While access.Unused) 1 1 (statement (in_loop (of_function (form.Number Int)))) refl refl;
      parts = two_parts main_sorts 0 1 (number Int, refl) (_, refl);
    }) e f
main_is_typed (suc (suc (suc zero))) x own e f =
    of_one (IsTyped (program main) main_sorts) _ x (number Int) own (record { gives = (tt, (refl, zero_or_one Int false)); parts = no_parts main_sorts }) e f
main_is_typed (suc (suc (suc (suc zero)))) x own e f =
    of_one (IsTyped (program main) main_sorts) _ x whole own
    (record { gives = ((refl, tt), λ node sort g h. tt); parts = one_part main_sorts 3 (number Int, refl) }) e f
main_is_typed (suc (suc (suc (suc (suc zero))))) x own e f =
    of_one (IsTyped (program main) main_sorts) _ x whole own
    (record { gives = both_known main_sorts 2 4 (work.Block [] []) whole refl refl; parts = two_parts main_sorts 2 4 (whole, refl) (whole, refl) }) e f
main_is_typed (suc (suc (suc (suc (suc (suc node)))))) x own e f = absurd cc

no_part_at : (k node : ℕ) (C : Type 0) → slice_get [] k ≡ Some node → C
no_part_at zero node C e = absurd (cc e)
no_part_at (suc k) node C e = absurd (cc e)

main_program_is_typed : IsWellTyped (program main) main_sorts
main_program_is_typed = record {
  nodes = main_is_typed;
  op = op [] (work.Program [] [] (scalar.Pointer 3) 5) access.Unused;
  is_root = refl;
  whole = record {
    objects = [];
    parameters = [];
    strings = scalar.Pointer 3;
    rest = 5;
    work_is = refl;
    literals = λ node among. absurd among;
    main = tt;
    body = refl;
    parts = λ k node e. no_part_at k node _ e;
  };
}

-- no `break` outside a loop, no `goto` to a label of no block around it, no `return` without a value from main
breaks_nothing : (sorts : ℕ → Option Sort) → Gives (program []) sorts (op [] work.Break access.Unused) work.Break whole → ⊥
breaks_nothing sorts g = absurd (cc g)

jumps_nowhere : (sorts : ℕ → Option Sort) → Gives (program []) sorts (op [] (work.Goto 7) access.Unused) (work.Goto 7) whole → ⊥
jumps_nowhere sorts g = g

jumps_within_a_block : (sorts : ℕ → Option Sort)
    → Gives (program []) sorts (op [] (work.Goto 7) access.Unused) (work.Goto 7) (statement (in_block (record { label = 7; item = 0 } ∷ []) (of_function (form.Number Int))))
jumps_within_a_block sorts = inl refl

returns_nothing : (sorts : ℕ → Option Sort) → Gives (program []) sorts (op [] (work.Return (form.Number Int)) access.Unused) (work.Return (form.Number Int)) whole → ⊥
returns_nothing sorts g = g.0.1

-- int a[2] = {1}; the part of the first initialiser has the cell of an int, and that of a char has not
first_part_is_an_int : HasCells (program []) 1 (record { cell = 0; form = form.Number Int; user = 0 })
first_part_is_an_int = refl

first_part_is_no_char : HasCells (program []) 1 (record { cell = 0; form = form.Number Char; user = 0 }) → ⊥
first_part_is_no_char e = absurd (cc e)

no_part_beyond_the_object : HasCells (program []) 1 (record { cell = 2; form = form.Number Int; user = 0 }) → ⊥
no_part_beyond_the_object e = absurd (cc e)

-- a literal initialises no int
no_int_by_a_literal : Initialises (program []) (form.Number Int) chars → ⊥
no_int_by_a_literal e = absurd e.0

-- but unsigned chars
unsigned_chars_by_a_literal : Initialises (record (program []) { kinds = λ row. scalar.Int UChar ∷ scalar.Int UChar ∷ [] }) (form.Cells 0) chars
unsigned_chars_by_a_literal = (tt, (tt, tt))

-- ---- complete programs

abbrev sees_nothing : ℕ → ℕ → Bool
sees_nothing node declared = false

main_there : (node : ℕ) (own : Sort) → main_sorts node ≡ Some own → (x : Op) × (slice_get (program main).ops node ≡ Some x)
main_there zero own e = (_, refl)
main_there (suc zero) own e = (_, refl)
main_there (suc (suc zero)) own e = (_, refl)
main_there (suc (suc (suc zero))) own e = (_, refl)
main_there (suc (suc (suc (suc zero)))) own e = (_, refl)
main_there (suc (suc (suc (suc (suc zero))))) own e = (_, refl)
main_there (suc (suc (suc (suc (suc (suc node)))))) own e = absurd cc

of_op : (P : Op → Type 0) (o x : Op) → P o → Some o ≡ Some x → P x
of_op P o x h e = subst P (is_one e) h

scalar_part : (op : Op) (a k : ℕ) → slice_get op.parts k ≡ Some a → main_sorts a ≡ Some (number Int) → Has main_sorts op k IsScalar
scalar_part op a k e f node sort g h =
    let same : number Int ≡ sort = cc in subst IsScalar same tt

main_demands : (node : ℕ) (x : Op) (own : Sort) → main_sorts node ≡ Some own → slice_get (program main).ops node ≡ Some x → Demands main_sorts (sees_nothing node) x x.work
main_demands zero x own e f = of_op (λ o. Demands main_sorts (sees_nothing 0) o o.work) _ x refl f
main_demands (suc zero) x own e f = of_op (λ o. Demands main_sorts (sees_nothing 1) o o.work) _ x tt f
main_demands (suc (suc zero)) x own e f =
    of_op (λ o. Demands main_sorts (sees_nothing 2) o o.work) _ x (scalar_part (op (0 ∷ 1 ∷ []) work.While access.Unused) 0 0 refl refl) f
main_demands (suc (suc (suc zero))) x own e f = of_op (λ o. Demands main_sorts (sees_nothing 3) o o.work) _ x refl f
main_demands (suc (suc (suc (suc zero)))) x own e f =
    of_op (λ o. Demands main_sorts (sees_nothing 4) o o.work) _ x (scalar_part (op (3 ∷ []) (work.Return (form.Number Int)) access.Unused) 3 0 refl refl) f
main_demands (suc (suc (suc (suc (suc zero))))) x own e f = of_op (λ o. Demands main_sorts (sees_nothing 5) o o.work) _ x tt f
main_demands (suc (suc (suc (suc (suc (suc node)))))) x own e f = absurd cc

main_is_complete : IsComplete (program main) main_sorts sees_nothing main_program_is_typed
main_is_complete = record {
  nodes = record { there = main_there; demands = main_demands };
  scoped = λ node x k part declared e is d. absurd (cc d);
  whole = record { part_sees = λ k part declared e d. absurd (cc d); rest_sees = λ declared d. absurd (cc d) };
}
