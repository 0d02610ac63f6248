-- Names as places, and where statements stand.
use Rattle.std.proofs.Common.{◌≡◌, ℕ, ◌<◌, ◌%◌, Bool, true, false, List, Option, None, Some, length, refl, sym, ap, ◌∙◌, slice_get, slice_index_or, if◌then◌else◌, nat_lt}
use Rattle.std.proofs.lemmas.Bool.{false≢true, lt-ltb}
use Rattle.cr_syntax.specs.declared.node.Kind.{Kind}
use Rattle.cr_syntax.specs.declared.node.Kind.TheVariants as kind
use Rattle.cr_syntax.specs.declared.node.Node.{Node}
use Rattle.cr_syntax.specs.declared.ctype.CType.TheVariants.{Int, Struct}
use Rattle.cr_check_enclosing.specs.declared.context.Around.{Around}
use Rattle.cr_check_enclosing.specs.Around.{AreAround, inside, inside_if, below, outermost}
use Rattle.cr_typed.specs.declared.typed.Typed.{Typed}
use Rattle.cr_check_types.specs.Types.{Qualified, plain, pointer as to, array}
use Rattle.cr_meaning.specs.World.{Program}
use Rattle.cr_meaning.specs.declared.op.Access.TheVariants as access
use Rattle.cr_meaning.specs.declared.op.Form.{Form}
use Rattle.cr_meaning.specs.declared.op.Target.{Target}
use Rattle.cr_meaning_operations.specs.Shapes.{type_of_node, cells_of, access_by, access_of, name_in, named_type}
use Rattle.cr_meaning_operations.specs.Operations.{entity_of, identifier_by}
use Rattle.cr_meaning_soundness.specs.Sorts.{Sort, place}
use Rattle.cr_meaning_soundness.specs.Statements.{in_block}
use Rattle.cr_meaning_soundness.specs.Rules.{Uses, GivesObject, IsValue}
use Rattle.cr_meaning_typing.specs.Typed.Good.{IsGood, value_sort, place_sort, row_at}
use Rattle.cr_meaning_typing.specs.Typed.Placed.{IsObject, IsNamed, exits_in, exits_of_parts, is_statement_with_parts}
use Rattle.cr_meaning_typing.proofs.TypedLemmas.Goods as good

module _ (p : Program) (t : Typed) (row count : ℕ) where
  -- a place of an object's type, as it is used
  pub valued_uses : (type : Qualified) → IsObject t count type → Uses p (access_by t row type) count (value_sort p row type)
  valued_uses (plain (Int kind) c v) h = refl
  valued_uses (plain (Struct node) c v) h = refl
  valued_uses (plain other c v) h = absurd h
  valued_uses (to c v b) h = refl
  valued_uses (array n b) h = (refl, h.0, h.1)

  pub uses_at : (valued : Bool) (type : Qualified) → IsObject t count type
      → Uses p (if valued then access_by t row type else access.Unused) count (if valued then value_sort p row type else place count)
  uses_at true type h = valued_uses type h
  uses_at false type h = refl

  pub worth_at : (valued : Bool) (type : Qualified) → IsObject t count type → IsValue (if valued then value_sort p row type else place count)
  worth_at true (plain (Int kind) c v) h = tt
  worth_at true (plain (Struct node) c v) h = tt
  worth_at true (plain other c v) h = absurd h
  worth_at true (to c v b) h = tt
  worth_at true (array n b) h = tt
  worth_at false type h = tt

  pub gives_at : (node : ℕ) (valued : Bool) (type : Qualified) → length (p.shape node) ≡ count → IsObject t count type
      → GivesObject p (if valued then access_by t row type else access.Unused) node (if valued then value_sort p row type else place count)
  gives_at node true (plain (Int kind) c v) e h = refl
  gives_at node true (plain (Struct of) c v) e h = refl
  gives_at node true (plain other c v) e h = absurd h
  gives_at node true (to c v b) e h = refl
  gives_at node true (array n b) e h = (refl, h.0, ap (λ m. m % cells_of t b) e ∙ h.1)
  gives_at node false type e h = ap place (sym e)

pub names : (p : Program) (t : Typed) (sorts : ℕ → Option Sort) (sees : ℕ → Bool) (i : ℕ) → IsNamed p t i → sees (entity_of t i) ≡ true
    → IsGood p sorts sees (identifier_by t i None) (place_sort p t i (length (p.shape (entity_of t i))))
names p t sorts sees i h s =
    let count = length (p.shape (entity_of t i)) in
    let row = row_at t i in
    let valued = slice_index_or t.valued i false in
    let type = type_of_node t i in
    good.named p sorts sees (entity_of t i) (name_in t (named_type t (entity_of t i))) (access_of t i) (place_sort p t i count) (worth_at p t row count valued type h.object) h.some
    (gives_at p t row count (entity_of t i) valued type refl h.object) s

-- ---- statements

module _ (labels : Option ℕ → List ℕ) (result : Option ℕ → Form) (targets : List Target) (i : ℕ) (a : Around) where
  inside_exits : (k : Kind) → is_statement_with_parts k ≡ true → (k ≡ kind.Compound → labels (Some i) ≡ (in_block targets (exits_in labels result a)).labels)
      → exits_in labels result (inside k i a) ≡ exits_of_parts k targets (exits_in labels result a)
  unfolding inside
  inside_exits kind.While h l = refl
  inside_exits kind.Do h l = refl
  inside_exits kind.Compound h l = λ j. record { breaks = (exits_in labels result a).breaks; continues = (exits_in labels result a).continues; labels = l refl j; result = result a.function }
  inside_exits kind.If h l = refl
  inside_exits kind.Declaration h l = refl
  inside_exits kind.Label h l = refl
  inside_exits kind.Case h l = refl
  inside_exits kind.Default h l = refl
  inside_exits other h l = absurd (false≢true h)

pub stand : (nodes : List Node) (above : List (Option ℕ)) (around : List Around) (labels : Option ℕ → List ℕ) (result : Option ℕ → Form) (targets : List Target)
    → AreAround nodes above around → (i b : ℕ) (n : Node) → slice_get nodes i ≡ Some n → is_statement_with_parts n.kind ≡ true
    → (n.kind ≡ kind.Compound → labels (Some i) ≡ (in_block targets (exits_in labels result (slice_index_or around i outermost))).labels)
    → b < i → b < length nodes → slice_index_or above b None ≡ Some i
    → exits_in labels result (slice_index_or around b outermost) ≡ exits_of_parts n.kind targets (exits_in labels result (slice_index_or around i outermost))
stand nodes above around labels result targets h i b n at is l low there e =
    let look : ℕ → Around = λ q. slice_index_or around q outermost in
    let lower : nat_lt b i ≡ true = lt-ltb b i low in
    let one = h.each b there ∙ ap (below nodes look b) e ∙ ap (λ x. if x then inside_if (slice_get nodes i) i (look i) else outermost) lower ∙ ap (λ x. inside_if x i (look i)) at in
    ap (exits_in labels result) one ∙ inside_exits labels result targets i (look i) n.kind is l
