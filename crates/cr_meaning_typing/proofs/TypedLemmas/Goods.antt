-- Each operation of a kind, with operands of these sorts.
use Rattle.std.proofs.Common.{◌≡◌, ℕ, zero, suc, ◌≤◌, ℤ, Bool, true, List, [], ◌∷◌, Option, Some, inl, inr, refl, sym, ap, subst, ◌∙◌, slice_get, length}
use Rattle.cr_ints.specs.declared.kind.IntKind.{IntKind}
use Rattle.cr_ints.specs.declared.kind.IntKind.TheVariants.{Int as IntegerKind}
use Rattle.cr_ints.specs.IntKind.{Represents}
use Rattle.cr_memory.specs.declared.value.Element.{Element}
use Rattle.cr_meaning.specs.World.{Program}
use Rattle.cr_meaning.specs.declared.op.Op.{Op}
use Rattle.cr_meaning.specs.declared.op.Access.{Access}
use Rattle.cr_meaning.specs.declared.op.Form.{Form}
use Rattle.cr_meaning.specs.declared.op.Form.TheVariants as form
use Rattle.cr_meaning.specs.declared.op.Operator.{Operator}
use Rattle.cr_meaning.specs.declared.op.Sign.{Sign}
use Rattle.cr_meaning.specs.declared.op.Relation.{Relation}
use Rattle.cr_meaning.specs.declared.op.Target.{Target}
use Rattle.cr_meaning.specs.declared.op.Parameter.{Parameter}
use Rattle.cr_meaning.specs.declared.op.Callee.TheVariants.{Function}
use Rattle.cr_meaning.specs.declared.op.Change.TheVariants.{Arithmetic, Move}
use Rattle.cr_meaning.specs.declared.op.Work.TheVariants as work
use Rattle.cr_meaning_operations.specs.Operations.{node_op}
use Rattle.cr_meaning_soundness.specs.Sorts.{Exits, Sort, number, pointer, place, statement, sort_of}
use Rattle.cr_meaning_soundness.specs.Statements.{Has, HasSort, in_loop, in_block, HasResult, Converts}
use Rattle.cr_meaning_soundness.specs.Rules.{GivesObject, IsFunctionCall, IsValue}
use Rattle.cr_meaning_soundness.specs.Operands.{IsNumber, IsPointerSort, IsScalar, IsConverted, IsPlaceSort, IsObjectForm, TakesArguments}
use Rattle.cr_meaning_typing.specs.Typed.Good.{IsGood}

pub is_value : (p : Program) (f : Form) → IsValue (sort_of p f)
is_value p form.Void = tt
is_value p (form.Number kind) = tt
is_value p (form.Pointer to) = tt
is_value p (form.Cells row) = tt

module _ (p : Program) (sorts : ℕ → Option Sort) (sees : ℕ → Bool) where
  -- ---- parts

  pub has : (op : Op) (k a : ℕ) (own : Sort) (P : Sort → Type 0) → slice_get op.parts k ≡ Some a → sorts a ≡ Some own → P own → Has sorts op k P
  has op k a own P e h q node sort f g =
      let same : a ≡ node = cc (sym e ∙ f) in
      let kept : own ≡ sort = cc (sym h ∙ ap sorts same ∙ g) in subst P kept q

  pub none_there : (k node : ℕ) → slice_get [] k ≡ Some node → HasSort sorts node
  none_there k node e = absurd (cc e)

  pub one_there : (a : ℕ) (sa : Sort) → sorts a ≡ Some sa → (k node : ℕ) → slice_get (a ∷ []) k ≡ Some node → HasSort sorts node
  one_there a sa h zero node e = (sa, (let same : a ≡ node = cc e in sym (ap sorts same) ∙ h))
  one_there a sa h (suc k) node e = none_there k node e

  pub two_there : (a b : ℕ) (sa sb : Sort) → sorts a ≡ Some sa → sorts b ≡ Some sb → (k node : ℕ) → slice_get (a ∷ b ∷ []) k ≡ Some node → HasSort sorts node
  two_there a b sa sb h g zero node e = (sa, (let same : a ≡ node = cc e in sym (ap sorts same) ∙ h))
  two_there a b sa sb h g (suc k) node e = one_there b sb g k node e

  -- ---- constants, names

  pub constant : (kind : IntKind) (value : ℤ) → Represents kind value → IsGood p sorts sees (node_op [] (work.Constant kind value)) (number kind)
  constant kind value h = record { typed = record { gives = (tt, (refl, h)); parts = none_there }; demands = refl }

  -- ---- unary and binary arithmetic

  pub unary : (a : ℕ) (k kind : IntKind) (sign : Sign) → sorts a ≡ Some (number k) → IsGood p sorts sees (node_op (a ∷ []) (work.Unary sign kind)) (number kind)
  unary a k kind sign h = record {
    typed = record { gives = (tt, refl); parts = one_there a (number k) h };
    demands = (refl, has (node_op (a ∷ []) (work.Unary sign kind)) 0 a (number k) IsNumber refl h tt);
  }

  pub negated : (a : ℕ) (sa : Sort) → sorts a ≡ Some sa → IsScalar sa → IsGood p sorts sees (node_op (a ∷ []) work.Not) (number IntegerKind)
  negated a sa h s = record {
    typed = record { gives = (tt, refl); parts = one_there a sa h };
    demands = (refl, has (node_op (a ∷ []) work.Not) 0 a sa IsScalar refl h s);
  }

  pub integers : (a b : ℕ) (k l kind : IntKind) (op : Operator) → sorts a ≡ Some (number k) → sorts b ≡ Some (number l)
      → IsGood p sorts sees (node_op (a ∷ b ∷ []) (work.Binary (Arithmetic op kind))) (number kind)
  integers a b k l kind op h g =
      let it = node_op (a ∷ b ∷ []) (work.Binary (Arithmetic op kind)) in
      record {
        typed = record { gives = (tt, refl); parts = two_there a b (number k) (number l) h g };
        demands = ((refl, has it 0 a (number k) IsNumber refl h tt), has it 1 b (number l) IsNumber refl g tt);
      }

  pub moved : (a b : ℕ) (l : IntKind) (back : Bool) (count : Element) → sorts a ≡ Some pointer → sorts b ≡ Some (number l)
      → IsGood p sorts sees (node_op (a ∷ b ∷ []) (work.Binary (Move back count))) pointer
  moved a b l back count h g =
      let it = node_op (a ∷ b ∷ []) (work.Binary (Move back count)) in
      record {
        typed = record { gives = (tt, refl); parts = two_there a b pointer (number l) h g };
        demands = inl ((refl, has it 0 a pointer IsPointerSort refl h tt), has it 1 b (number l) IsNumber refl g tt);
      }

  pub moved_other : (a b : ℕ) (l : IntKind) (back : Bool) (count : Element) → sorts a ≡ Some (number l) → sorts b ≡ Some pointer
      → IsGood p sorts sees (node_op (a ∷ b ∷ []) (work.Binary (Move back count))) pointer
  moved_other a b l back count h g =
      let it = node_op (a ∷ b ∷ []) (work.Binary (Move back count)) in
      record {
        typed = record { gives = (tt, refl); parts = two_there a b (number l) pointer h g };
        demands = inr ((refl, has it 0 a (number l) IsNumber refl h tt), has it 1 b pointer IsPointerSort refl g tt);
      }

  pub compared : (a b : ℕ) (k l kind : IntKind) (relation : Relation) → sorts a ≡ Some (number k) → sorts b ≡ Some (number l)
      → IsGood p sorts sees (node_op (a ∷ b ∷ []) (work.Compare relation kind)) (number IntegerKind)
  compared a b k l kind relation h g =
      let it = node_op (a ∷ b ∷ []) (work.Compare relation kind) in
      record {
        typed = record { gives = (tt, refl); parts = two_there a b (number k) (number l) h g };
        demands = ((refl, has it 0 a (number k) IsNumber refl h tt), has it 1 b (number l) IsNumber refl g tt);
      }

  pub pointers_compared : (a b : ℕ) (sa sb : Sort) (relation : Relation) → sorts a ≡ Some sa → sorts b ≡ Some sb → IsScalar sa → IsScalar sb
      → IsGood p sorts sees (node_op (a ∷ b ∷ []) (work.ComparePointers relation)) (number IntegerKind)
  pointers_compared a b sa sb relation h g s r =
      let it = node_op (a ∷ b ∷ []) (work.ComparePointers relation) in
      record {
        typed = record { gives = (tt, refl); parts = two_there a b sa sb h g };
        demands = ((refl, has it 0 a sa IsScalar refl h s), has it 1 b sb IsScalar refl g r);
      }

  -- ---- statements

  pub expression_statement : (a : ℕ) (sa : Sort) (exits : Exits) → sorts a ≡ Some sa → IsGood p sorts sees (node_op (a ∷ []) work.Expression) (statement exits)
  expression_statement a sa exits h = record { typed = record { gives = tt; parts = one_there a sa h }; demands = tt }

  pub empty_statement : (exits : Exits) → IsGood p sorts sees (node_op [] work.Expression) (statement exits)
  empty_statement exits = record { typed = record { gives = tt; parts = none_there }; demands = tt }

  pub loop : (a b : ℕ) (sa : Sort) (exits : Exits) → sorts a ≡ Some sa → IsScalar sa → sorts b ≡ Some (statement (in_loop exits))
      → IsGood p sorts sees (node_op (a ∷ b ∷ []) work.While) (statement exits)
  loop a b sa exits h s g =
      let it = node_op (a ∷ b ∷ []) work.While in
      record {
        typed = record {
          gives = has it 1 b (statement (in_loop exits)) (λ each. each ≡ statement (in_loop exits)) refl g refl;
          parts = two_there a b sa (statement (in_loop exits)) h g;
        };
        demands = has it 0 a sa IsScalar refl h s;
      }

  pub declare : (declared : ℕ) (exits : Exits) → sees declared ≡ true → IsGood p sorts sees (node_op [] (work.Declare declared)) (statement exits)
  declare declared exits h = record { typed = record { gives = tt; parts = none_there }; demands = h }

  pub branch : (a b : ℕ) (sa : Sort) (exits : Exits) → sorts a ≡ Some sa → IsScalar sa → sorts b ≡ Some (statement exits)
      → IsGood p sorts sees (node_op (a ∷ b ∷ []) work.If) (statement exits)
  branch a b sa exits h s g =
      let it = node_op (a ∷ b ∷ []) work.If in
      record {
        typed = record {
          gives = (has it 1 b (statement exits) (λ each. each ≡ statement exits) refl g refl, (λ node sort f k. absurd (cc f)));
          parts = two_there a b sa (statement exits) h g;
        };
        demands = has it 0 a sa IsScalar refl h s;
      }

  -- ---- assignments: of scalars, and of structures

  pub assigned_scalar : (a b count : ℕ) (sb : Sort) (form : Form) → sorts a ≡ Some (place count) → sorts b ≡ Some sb → IsObjectForm form → Converts p form sb → IsConverted form sb
      → IsGood p sorts sees (node_op (a ∷ b ∷ []) (work.Assign form)) (sort_of p form)
  assigned_scalar a b count sb form h g o c k =
      let it = node_op (a ∷ b ∷ []) (work.Assign form) in
      record {
        typed = record { gives = (is_value p form, (refl, has it 1 b sb (Converts p form) refl g c)); parts = two_there a b (place count) sb h g };
        demands = (o, ((refl, has it 0 a (place count) IsPlaceSort refl h tt), has it 1 b sb (IsConverted form) refl g k));
      }

  -- ---- `return`

  pub returned : (a : ℕ) (sa : Sort) (exits : Exits) → sorts a ≡ Some sa → Converts p exits.result sa → IsConverted exits.result sa
      → IsGood p sorts sees (node_op (a ∷ []) (work.Return exits.result)) (statement exits)
  returned a sa exits h c k =
      let it = node_op (a ∷ []) (work.Return exits.result) in
      record {
        typed = record { gives = ((refl, tt), has it 0 a sa (Converts p exits.result) refl h c); parts = one_there a sa h };
        demands = has it 0 a sa (IsConverted exits.result) refl h k;
      }

  pub returned_nothing : (exits : Exits) → exits.result ≡ form.Void → IsGood p sorts sees (node_op [] (work.Return exits.result)) (statement exits)
  returned_nothing exits e = record {
    typed = record { gives = ((refl, subst (HasResult []) (sym e) tt), (λ node sort f k. absurd (cc f))); parts = none_there };
    demands = λ node sort f k. absurd (cc f);
  }

  -- ---- lists: blocks and declarations

  pub block : (items objects : List ℕ) (targets : List Target) (exits : Exits) → ((k node : ℕ) → slice_get items k ≡ Some node → sorts node ≡ Some (statement (in_block targets exits)))
      → IsGood p sorts sees (node_op items (work.Block objects targets)) (statement exits)
  block items objects targets exits h = record {
    typed = record {
      gives = λ k from node sort e g. cc (sym g ∙ h k node e);
      parts = λ k node e. (statement (in_block targets exits), h k node e);
    };
    demands = tt;
  }

  pub declaration : (items : List ℕ) (exits : Exits) → ((k node : ℕ) → slice_get items k ≡ Some node → HasSort sorts node)
      → IsGood p sorts sees (node_op items work.Declaration) (statement exits)
  declaration items exits h = record { typed = record { gives = tt; parts = h }; demands = tt }

  -- ---- names

  pub named : (declared of : ℕ) (access : Access) (own : Sort) → IsValue own → 1 ≤ length (p.shape declared) → GivesObject p access declared own → sees declared ≡ true
      → IsGood p sorts sees (record { parts = []; work = work.Object declared of; access = access }) own
  named declared of access own v some g h = record { typed = record { gives = (v, (some, g)); parts = none_there }; demands = (refl, h) }

  -- ---- calls of the program's functions

  pub called : (parts : List ℕ) (parameters : List Parameter) (rest : ℕ) (is_main : Bool) (own : Sort) → IsValue own
      → ((k node : ℕ) → slice_get parts k ≡ Some node → HasSort sorts node)
      → IsFunctionCall p sorts (node_op parts (work.Call (Function parameters rest is_main))) parameters rest is_main own
      → TakesArguments sorts (node_op parts (work.Call (Function parameters rest is_main))) 0 parameters
      → IsGood p sorts sees (node_op parts (work.Call (Function parameters rest is_main))) own
  called parts parameters rest is_main own v h f a = record { typed = record { gives = (v, f); parts = h }; demands = a }
