-- Each operation of an expression, with operands of these sorts; what `cr_meaning_typed` has isn't said again.
use Rattle.std.proofs.Common.{◌≡◌, ℕ, zero, suc, Bool, List, [], ◌∷◌, Option, Some, inl, inr, refl, sym, ap, ◌∙◌, slice_get}
use Rattle.cr_ints.specs.declared.kind.IntKind.{IntKind}
use Rattle.cr_ints.specs.declared.kind.IntKind.TheVariants.{Int as IntegerKind, Long as LongKind}
use Rattle.cr_memory.specs.declared.value.Element.{Element}
use Rattle.cr_meaning.specs.World.{Program}
use Rattle.cr_meaning.specs.declared.op.Op.{Op}
use Rattle.cr_meaning.specs.declared.op.Access.{Access}
use Rattle.cr_meaning.specs.declared.op.Form.{Form}
use Rattle.cr_meaning.specs.declared.op.Change.{Change}
use Rattle.cr_meaning.specs.declared.op.Work.{Work}
use Rattle.cr_meaning.specs.declared.op.Work.TheVariants as work
use Rattle.cr_meaning_operations.specs.Operations.{node_op}
use Rattle.cr_meaning_soundness.specs.Sorts.{Sort, number, pointer, place, sort_of}
use Rattle.cr_meaning_soundness.specs.Statements.{HasSort, Converts}
use Rattle.cr_meaning_soundness.specs.Rules.{IsValue, Uses, Casts, Passes, IsWithin, HasMember}
use Rattle.cr_meaning_soundness.specs.Operands.{IsNumber, IsPointerSort, IsScalar, IsConverted, IsPlaceSort, IsStructure, IsObjectForm, IsChanged}
use Rattle.cr_meaning_typing.specs.Typed.Good.{IsGood}
use Rattle.cr_meaning_typing.proofs.TypedLemmas.Goods.{has, one_there, two_there, is_value}

-- an operation that may give a place
abbrev pub placed_op : List ℕ → Work → Access → Op
placed_op parts work access = record { parts = parts; work = work; access = access }

module _ (p : Program) (sorts : ℕ → Option Sort) (sees : ℕ → Bool) where
  pub three_there : (a b c : ℕ) (sa sb sc : Sort) → sorts a ≡ Some sa → sorts b ≡ Some sb → sorts c ≡ Some sc → (k node : ℕ) → slice_get (a ∷ b ∷ c ∷ []) k ≡ Some node → HasSort sorts node
  three_there a b c sa sb sc h g f zero node e = (sa, (let same : a ≡ node = cc e in sym (ap sorts same) ∙ h))
  three_there a b c sa sb sc h g f (suc k) node e = two_there p sorts sees b c sb sc g f k node e

  -- ---- operators of two operands

  pub distance : (a b : ℕ) (count : Element) → sorts a ≡ Some pointer → sorts b ≡ Some pointer → IsGood p sorts sees (node_op (a ∷ b ∷ []) (work.Distance count)) (number LongKind)
  distance a b count h g =
      let it = node_op (a ∷ b ∷ []) (work.Distance count) in
      record {
        typed = record { gives = (tt, refl); parts = two_there p sorts sees a b pointer pointer h g };
        demands = ((refl, has p sorts sees it 0 a pointer IsPointerSort refl h tt), has p sorts sees it 1 b pointer IsPointerSort refl g tt);
      }

  pub conjunction : (a b : ℕ) (sa sb : Sort) → sorts a ≡ Some sa → sorts b ≡ Some sb → IsScalar sa → IsScalar sb
      → IsGood p sorts sees (node_op (a ∷ b ∷ []) work.LogicalAnd) (number IntegerKind)
  conjunction a b sa sb h g s r =
      let it = node_op (a ∷ b ∷ []) work.LogicalAnd in
      record {
        typed = record { gives = (tt, refl); parts = two_there p sorts sees a b sa sb h g };
        demands = ((refl, has p sorts sees it 0 a sa IsScalar refl h s), has p sorts sees it 1 b sb IsScalar refl g r);
      }

  pub disjunction : (a b : ℕ) (sa sb : Sort) → sorts a ≡ Some sa → sorts b ≡ Some sb → IsScalar sa → IsScalar sb
      → IsGood p sorts sees (node_op (a ∷ b ∷ []) work.LogicalOr) (number IntegerKind)
  disjunction a b sa sb h g s r =
      let it = node_op (a ∷ b ∷ []) work.LogicalOr in
      record {
        typed = record { gives = (tt, refl); parts = two_there p sorts sees a b sa sb h g };
        demands = ((refl, has p sorts sees it 0 a sa IsScalar refl h s), has p sorts sees it 1 b sb IsScalar refl g r);
      }

  pub comma : (a b : ℕ) (sa sb : Sort) → sorts a ≡ Some sa → sorts b ≡ Some sb → IsValue sb → IsGood p sorts sees (node_op (a ∷ b ∷ []) work.Comma) sb
  comma a b sa sb h g v =
      let it = node_op (a ∷ b ∷ []) work.Comma in
      record {
        typed = record { gives = (v, has p sorts sees it 1 b sb (λ each. each ≡ sb) refl g refl); parts = two_there p sorts sees a b sa sb h g };
        demands = refl;
      }

  pub conditional : (a b c : ℕ) (sa sb sc : Sort) (form : Form) → sorts a ≡ Some sa → sorts b ≡ Some sb → sorts c ≡ Some sc → IsScalar sa
      → Converts p form sb → Converts p form sc → IsConverted form sb → IsConverted form sc
      → IsGood p sorts sees (node_op (a ∷ b ∷ c ∷ []) (work.Conditional form)) (sort_of p form)
  conditional a b c sa sb sc form h g f s u v x y =
      let it = node_op (a ∷ b ∷ c ∷ []) (work.Conditional form) in
      record {
        typed = record {
          gives = (is_value p form, ((refl, has p sorts sees it 1 b sb (Converts p form) refl g u), has p sorts sees it 2 c sc (Converts p form) refl f v));
          parts = three_there a b c sa sb sc h g f;
        };
        demands = (((refl, has p sorts sees it 0 a sa IsScalar refl h s), has p sorts sees it 1 b sb (IsConverted form) refl g x), has p sorts sees it 2 c sc (IsConverted form) refl f y);
      }

  -- ---- casts and addresses

  pub cast : (a : ℕ) (sa : Sort) (form : Form) → sorts a ≡ Some sa → Casts p form sa → IsConverted form sa → IsGood p sorts sees (node_op (a ∷ []) (work.Cast form)) (sort_of p form)
  cast a sa form h c k =
      let it = node_op (a ∷ []) (work.Cast form) in
      record {
        typed = record { gives = (is_value p form, (refl, has p sorts sees it 0 a sa (Casts p form) refl h c)); parts = one_there p sorts sees a sa h };
        demands = (refl, has p sorts sees it 0 a sa (IsConverted form) refl h k);
      }

  pub address : (a count : ℕ) → sorts a ≡ Some (place count) → IsGood p sorts sees (node_op (a ∷ []) work.AddressOf) pointer
  address a count h =
      let it = node_op (a ∷ []) work.AddressOf in
      record {
        typed = record { gives = (tt, refl); parts = one_there p sorts sees a (place count) h };
        demands = (refl, has p sorts sees it 0 a (place count) IsPlaceSort refl h tt);
      }

  -- ---- places

  pub passed : (a : ℕ) (sa own : Sort) (access : Access) → sorts a ≡ Some sa → IsValue own → Passes p access own sa → IsGood p sorts sees (placed_op (a ∷ []) work.Pass access) own
  passed a sa own access h v g =
      let it = placed_op (a ∷ []) work.Pass access in
      record {
        typed = record { gives = (v, has p sorts sees it 0 a sa (Passes p access own) refl h g); parts = one_there p sorts sees a sa h };
        demands = refl;
      }

  pub followed : (a : ℕ) (count : Element) (own : Sort) (access : Access) → sorts a ≡ Some pointer → IsValue own → Uses p access count.cells own
      → IsGood p sorts sees (placed_op (a ∷ []) (work.Dereference count) access) own
  followed a count own access h v g =
      let it = placed_op (a ∷ []) (work.Dereference count) access in
      record {
        typed = record { gives = (v, g); parts = one_there p sorts sees a pointer h };
        demands = (refl, has p sorts sees it 0 a pointer IsPointerSort refl h tt);
      }

  pub element : (a b : ℕ) (count : Element) (l : IntKind) (own : Sort) (access : Access) → sorts a ≡ Some pointer → sorts b ≡ Some (number l) → IsValue own → Uses p access count.cells own
      → IsGood p sorts sees (placed_op (a ∷ b ∷ []) (work.Subscript count) access) own
  element a b count l own access h g v u =
      let it = placed_op (a ∷ b ∷ []) (work.Subscript count) access in
      record {
        typed = record { gives = (v, u); parts = two_there p sorts sees a b pointer (number l) h g };
        demands = inl ((refl, has p sorts sees it 0 a pointer IsPointerSort refl h tt), has p sorts sees it 1 b (number l) IsNumber refl g tt);
      }

  pub element_other : (a b : ℕ) (count : Element) (l : IntKind) (own : Sort) (access : Access) → sorts a ≡ Some (number l) → sorts b ≡ Some pointer → IsValue own → Uses p access count.cells own
      → IsGood p sorts sees (placed_op (a ∷ b ∷ []) (work.Subscript count) access) own
  element_other a b count l own access h g v u =
      let it = placed_op (a ∷ b ∷ []) (work.Subscript count) access in
      record {
        typed = record { gives = (v, u); parts = two_there p sorts sees a b (number l) pointer h g };
        demands = inr ((refl, has p sorts sees it 0 a (number l) IsNumber refl h tt), has p sorts sees it 1 b pointer IsPointerSort refl g tt);
      }

  pub member : (a whole before : ℕ) (count : Element) (sa own : Sort) (form : Form) (access : Access) → sorts a ≡ Some sa → IsValue own → HasMember p access whole before count.cells form own sa
      → IsObjectForm form → IsStructure sa → IsGood p sorts sees (placed_op (a ∷ []) (work.Member whole before count form) access) own
  member a whole before count sa own form access h v g o s =
      let it = placed_op (a ∷ []) (work.Member whole before count form) access in
      record {
        typed = record { gives = (v, has p sorts sees it 0 a sa (HasMember p access whole before count.cells form own) refl h g); parts = one_there p sorts sees a sa h };
        demands = (o, (refl, has p sorts sees it 0 a sa IsStructure refl h s));
      }

  pub pointer_member : (a : ℕ) (whole : Element) (before : ℕ) (count : Element) (own : Sort) (access : Access) → sorts a ≡ Some pointer → IsValue own
      → IsWithin whole.cells before count.cells → Uses p access count.cells own
      → IsGood p sorts sees (placed_op (a ∷ []) (work.PointerMember whole before count) access) own
  pointer_member a whole before count own access h v w u =
      let it = placed_op (a ∷ []) (work.PointerMember whole before count) access in
      record {
        typed = record { gives = (v, (w, u)); parts = one_there p sorts sees a pointer h };
        demands = (refl, has p sorts sees it 0 a pointer IsPointerSort refl h tt);
      }

  -- ---- what is changed in its place

  pub stepped : (a count : ℕ) (change : Change) (form : Form) (volatile post : Bool) → sorts a ≡ Some (place count) → IsChanged change form
      → IsGood p sorts sees (node_op (a ∷ []) (work.Update change form volatile post)) (sort_of p form)
  stepped a count change form volatile post h c =
      let it = node_op (a ∷ []) (work.Update change form volatile post) in
      record {
        typed = record { gives = (is_value p form, refl); parts = one_there p sorts sees a (place count) h };
        demands = (c, inl (refl, has p sorts sees it 0 a (place count) IsPlaceSort refl h tt));
      }

  pub updated : (a b count : ℕ) (l : IntKind) (change : Change) (form : Form) (volatile post : Bool) → sorts a ≡ Some (place count) → sorts b ≡ Some (number l) → IsChanged change form
      → IsGood p sorts sees (node_op (a ∷ b ∷ []) (work.Update change form volatile post)) (sort_of p form)
  updated a b count l change form volatile post h g c =
      let it = node_op (a ∷ b ∷ []) (work.Update change form volatile post) in
      record {
        typed = record { gives = (is_value p form, refl); parts = two_there p sorts sees a b (place count) (number l) h g };
        demands = (c, inr ((refl, has p sorts sees it 0 a (place count) IsPlaceSort refl h tt), has p sorts sees it 1 b (number l) IsNumber refl g tt));
      }
