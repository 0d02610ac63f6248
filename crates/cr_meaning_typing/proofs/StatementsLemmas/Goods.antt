-- The operations of statements and declarations, with parts of given sorts; what `cr_meaning_typed` has isn't said again.
use Rattle.std.proofs.Common.{◌≡◌, ℕ, zero, suc, ◌≤◌, Bool, true, List, [], ◌∷◌, Option, Some, refl, sym, ap, ◌∙◌, slice_get, arith}
use Rattle.cr_ints.specs.declared.kind.IntKind.{IntKind}
use Rattle.cr_meaning.specs.World.{Program}
use Rattle.cr_meaning.specs.declared.op.Case.{Case}
use Rattle.cr_meaning.specs.declared.op.Line.{Line}
use Rattle.cr_meaning.specs.declared.op.Target.{Target}
use Rattle.cr_meaning.specs.declared.op.Work.TheVariants as work
use Rattle.cr_meaning_operations.specs.Operations.{node_op}
use Rattle.cr_meaning_soundness.specs.Sorts.{Exits, Sort, statement, IsAmong}
use Rattle.cr_meaning_soundness.specs.Statements.{HasSort, MayHaveSort, in_loop, in_switch, AreLines}
use Rattle.cr_meaning_soundness.specs.Operands.{IsScalar, IsNumber, TakeLines}
use Rattle.cr_meaning_typing.specs.Typed.Good.{IsGood}
use Rattle.cr_meaning_typing.proofs.TypedLemmas.Goods.{has, none_there, one_there, two_there}
use Rattle.cr_meaning_typing.proofs.ExpressionsLemmas.Goods.{three_there}

module _ (p : Program) (sorts : ℕ → Option Sort) (sees : ℕ → Bool) where
  pub branches : (a b c : ℕ) (sa : Sort) (exits : Exits) → sorts a ≡ Some sa → IsScalar sa → sorts b ≡ Some (statement exits) → sorts c ≡ Some (statement exits)
      → IsGood p sorts sees (node_op (a ∷ b ∷ c ∷ []) work.If) (statement exits)
  branches a b c sa exits h s g f =
      let it = node_op (a ∷ b ∷ c ∷ []) work.If in
      let is : Sort → Type 0 = λ each. each ≡ statement exits in
      record {
        typed = record {
          gives = (has p sorts sees it 1 b (statement exits) is refl g refl, has p sorts sees it 2 c (statement exits) is refl f refl);
          parts = three_there p sorts sees a b c sa (statement exits) (statement exits) h g f;
        };
        demands = has p sorts sees it 0 a sa IsScalar refl h s;
      }

  pub loop_behind : (a b : ℕ) (sa : Sort) (exits : Exits) → sorts a ≡ Some sa → IsScalar sa → sorts b ≡ Some (statement (in_loop exits))
      → IsGood p sorts sees (node_op (b ∷ a ∷ []) work.Do) (statement exits)
  loop_behind a b sa exits h s g =
      let it = node_op (b ∷ a ∷ []) work.Do in
      record {
        typed = record {
          gives = has p sorts sees it 0 b (statement (in_loop exits)) (λ each. each ≡ statement (in_loop exits)) refl g refl;
          parts = two_there p sorts sees b a (statement (in_loop exits)) sa g h;
        };
        demands = has p sorts sees it 1 a sa IsScalar refl h s;
      }

  pub for_loop : (objects : List ℕ) (first control step : Option ℕ) (body : ℕ) (exits : Exits) → MayHaveSort sorts first → MayHaveSort sorts control → MayHaveSort sorts step
      → sorts body ≡ Some (statement (in_loop exits)) → ((node : ℕ) (sort : Sort) → control ≡ Some node → sorts node ≡ Some sort → IsScalar sort)
      → IsGood p sorts sees (node_op [] (work.For objects first control step body)) (statement exits)
  for_loop objects first control step body exits f c s b scalar = record {
    typed = record { gives = record { first_has = f; control_has = c; step_has = s; body = b }; parts = none_there p sorts sees };
    demands = scalar;
  }

  -- the items of a `switch` stand behind its controlling expression
  behind_first : (a : ℕ) (sa own : Sort) (items : List ℕ) → sorts a ≡ Some sa → ((k node : ℕ) → slice_get items k ≡ Some node → sorts node ≡ Some own)
      → (k node : ℕ) → slice_get (a ∷ items) k ≡ Some node → HasSort sorts node
  behind_first a sa own items h g zero node e = (sa, (let same : a ≡ node = cc e in sym (ap sorts same) ∙ h))
  behind_first a sa own items h g (suc k) node e = (own, g k node e)

  items_from : (a : ℕ) (own : Sort) (items : List ℕ) → ((k node : ℕ) → slice_get items k ≡ Some node → sorts node ≡ Some own)
      → (k : ℕ) → 1 ≤ k → (node : ℕ) (sort : Sort) → slice_get (a ∷ items) k ≡ Some node → sorts node ≡ Some sort → sort ≡ own
  items_from a own items g zero low node sort e f = absurd (omega (arith, low))
  items_from a own items g (suc k) low node sort e f = cc (sym f ∙ g k node e)

  pub switch : (a : ℕ) (sa : Sort) (kind : IntKind) (rest : ℕ) (objects items : List ℕ) (cases : List Case) (other : Option ℕ) (labels : List Target) (exits : Exits)
      → sorts a ≡ Some sa → IsNumber sa → ((k node : ℕ) → slice_get items k ≡ Some node → sorts node ≡ Some (statement (in_switch labels exits)))
      → IsGood p sorts sees (node_op (a ∷ items) (work.Switch kind rest objects cases other labels)) (statement exits)
  switch a sa kind rest objects items cases other labels exits h n g =
      let it = node_op (a ∷ items) (work.Switch kind rest objects cases other labels) in
      let own = statement (in_switch labels exits) in
      record {
        typed = record { gives = (omega arith, items_from a own items g); parts = behind_first a sa own items h g };
        demands = has p sorts sees it 0 a sa IsNumber refl h n;
      }

  one_sort : (a : ℕ) (own : Sort) → sorts a ≡ Some own → (k node : ℕ) (sort : Sort) → slice_get (a ∷ []) k ≡ Some node → sorts node ≡ Some sort → sort ≡ own
  one_sort a own h zero node sort e f = let same : a ≡ node = cc e in cc (sym f ∙ sym (ap sorts same) ∙ h)
  one_sort a own h (suc k) node sort e f = absurd (cc e)

  pub marked : (a : ℕ) (exits : Exits) → sorts a ≡ Some (statement exits) → IsGood p sorts sees (node_op (a ∷ []) work.Labelled) (statement exits)
  marked a exits h = record {
    typed = record { gives = λ k low node sort e f. one_sort a (statement exits) h k node sort e f; parts = one_there p sorts sees a (statement exits) h };
    demands = tt;
  }

  -- ---- what has no parts

  pub broken : (exits : Exits) → exits.breaks ≡ true → IsGood p sorts sees (node_op [] work.Break) (statement exits)
  broken exits h = record { typed = record { gives = h; parts = none_there p sorts sees }; demands = tt }

  pub went : (label : ℕ) (exits : Exits) → IsAmong label exits.labels → IsGood p sorts sees (node_op [] (work.Goto label)) (statement exits)
  went label exits h = record { typed = record { gives = h; parts = none_there p sorts sees }; demands = tt }

  pub continued : (exits : Exits) → exits.continues ≡ true → IsGood p sorts sees (node_op [] work.Continue) (statement exits)
  continued exits h = record { typed = record { gives = h; parts = none_there p sorts sees }; demands = tt }

  -- ---- declarations

  pub expressed : (parts : List ℕ) (exits : Exits) → ((k node : ℕ) → slice_get parts k ≡ Some node → HasSort sorts node) → IsGood p sorts sees (node_op parts work.Expression) (statement exits)
  expressed parts exits h = record { typed = record { gives = tt; parts = h }; demands = tt }

  pub initialised : (declared : ℕ) (parts : List ℕ) (lines : List Line) (exits : Exits) → sees declared ≡ true → ((k node : ℕ) → slice_get parts k ≡ Some node → HasSort sorts node)
      → AreLines p sorts (node_op parts (work.Initialise declared lines)) declared 0 lines → TakeLines sorts (node_op parts (work.Initialise declared lines)) 0 lines
      → IsGood p sorts sees (node_op parts (work.Initialise declared lines)) (statement exits)
  initialised declared parts lines exits s h a k = record { typed = record { gives = a; parts = h }; demands = (s, k) }
