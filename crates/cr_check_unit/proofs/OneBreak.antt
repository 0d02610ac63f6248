-- In two typings of a unit the same constraints are broken.
use Rattle.std.proofs.Common.{◌≡◌, ℕ, ◌⊎◌, zero, suc, ◌∷◌, [], List, Bool, Option, None, Some, length, map, slice_get, slice_index_or, if◌then◌else◌, refl, sym, ap, subst, ◌∙◌, inl, inr, arith}
use Rattle.std.proofs.lemmas.Bool.{cases_lt}
use Rattle.std.proofs.lemmas.List.{get_or_past}
use Rattle.std.proofs.lemmas.Option.{slice_get_past}
use Rattle.cr_syntax.specs.declared.node.Node.{Node}
use Rattle.cr_check_enclosing.specs.Around.{outermost}
use Rattle.cr_check_types.specs.declared.shape.Shape.{Shape}
use Rattle.cr_check_types.specs.Types.{type_at}
use Rattle.cr_check_operands.specs.Values.{seen_at}
use Rattle.cr_check_expressions.specs.declared.least.Break.{Break}
use Rattle.cr_check_expressions.specs.Known.{named_row}
use Rattle.cr_check_expressions.specs.Ruled.{facts_at}
use Rattle.cr_check_expressions.specs.Breaks.{faults_if, IsAmong, IsFirst}
use Rattle.cr_check_expressions.proofs.Firsts.{same_first, one_first as one_of_all}
use Rattle.cr_check_statements.specs.Setting.{result_row}
use Rattle.cr_check_statements.specs.Statements.{IsBroken as IsStatementBroken}
use Rattle.cr_rows.specs.Columns.{AreOf}
use Rattle.cr_check_labels.specs.Again.{is_again}
use Rattle.cr_check_labels.specs.Gotos.{goto_at}
use Rattle.cr_check_declarations.specs.declared.tree.Tree.{Tree}
use Rattle.cr_check_declarations.specs.Faults.{has_at, faults_if as declaration_faults_if}
use Rattle.cr_check_initialised.specs.Faults.{faults_if as initialiser_faults_if}
use Rattle.cr_check_linkage.specs.Faults.{faults_if as linked_faults_if}
use Rattle.cr_check_unit.specs.declared.typing.Typing.{Typing}
use Rattle.cr_check_unit.specs.declared.entry.Entry.{Entry}
use Rattle.cr_check_unit.specs.declared.statements.Marked.{Marked}
use Rattle.cr_check_unit.specs.Typing.{cut, entry_at, before_in, source_in, IsTyping}
use Rattle.cr_check_unit.specs.Breaks.{expression_faults, declaration_faults, object_if, initialiser_faults, linked_faults, IsNodeBreak, IsBroken}
use Rattle.cr_check_unit.specs.Statements.{is_definition, result_in, labelled_in, scene_in, AreMarked, IsUnitBroken}
use Rattle.cr_check_unit.specs.Laws.{AreAlike}
use Rattle.cr_check_unit.proofs.Steps.{no_break}
use Rattle.cr_check_unit.proofs.Unit.{again_in, labels_in}
use Rattle.cr_check_unit.proofs.OneReading.{Alike, before_alike, named_alike, source_alike, object_alike, known_alike, past_alike, entry_name}
use Rattle.cr_check_unit.proofs.OneTyping.{up_to, all_alike}

-- ---- expressions and declarations

expression_alike : (u : Tree) (texts : List (List ℕ)) (shapes later : List Shape) (t s : Typing) (d e : Entry) (i : ℕ) (n : Option Node)
    → Alike shapes later t s → AreAlike shapes later d e → expression_faults u texts shapes t d i n ≡ expression_faults u texts later s e i n
expression_alike u texts shapes later t s d e i n h a =
    ap (λ own. faults_if n own (facts_at shapes t.facts) (source_in (type_at shapes) u texts t) i) a.fact
    ∙ ap (λ b. faults_if n (seen_at later e.fact) b.seen (source_in (type_at shapes) u texts t) i) (before_alike shapes later t s h)
    ∙ ap (λ source. faults_if n (seen_at later e.fact) (facts_at later s.facts) source i) (source_alike u texts shapes later t s h)

declaration_alike : (u : Tree) (shapes later : List Shape) (t s : Typing) (d e : Entry) (i : ℕ) (n : Option Node)
    → Alike shapes later t s → AreAlike shapes later d e → declaration_faults u shapes t d i n ≡ declaration_faults u later s e i n
declaration_alike u shapes later t s d e i n h a =
    ap (λ own. declaration_faults_if n own (before_in shapes t) u i) a.own
    ∙ ap (λ b. declaration_faults_if n (has_at later e.own) b u i) (before_alike shapes later t s h)

object_if_alike : (shapes later : List Shape) (t s : Typing) (n : Option Node) → Alike shapes later t s → object_if shapes t n ≡ object_if later s n
object_if_alike shapes later t s None h = refl
object_if_alike shapes later t s (Some n) h = object_alike shapes later t s n h

initialiser_alike : (u : Tree) (shapes later : List Shape) (t s : Typing) (d e : Entry) (i : ℕ) (n : Option Node)
    → Alike shapes later t s → AreAlike shapes later d e → initialiser_faults u shapes t d i n ≡ initialiser_faults u later s e i n
initialiser_alike u shapes later t s d e i n h a = λ j.
    initialiser_faults_if n (known_alike u shapes later t s h j) u (before_alike shapes later t s h j) (a.own j).declarator.sizeless
    (object_if_alike shapes later t s n h j) (a.own j).named (a.lines j) i

linked_alike : (u : Tree) (shapes later : List Shape) (t s : Typing) (d e : Entry) (i : ℕ) (n : Option Node)
    → Alike shapes later t s → AreAlike shapes later d e → linked_faults u shapes t d i n ≡ linked_faults u later s e i n
linked_alike u shapes later t s d e i n h a = λ j.
    linked_faults_if n (a.linked j) u (before_alike shapes later t s h j).specified (a.own j).declarator (past_alike shapes later t s h j)
    (entry_name shapes later d e a j) i

node_breaks : (u : Tree) (texts : List (List ℕ)) (shapes later : List Shape) (t s : Typing) (d e : Entry) (i : ℕ) (n : Option Node) (b : Break)
    → Alike shapes later t s → AreAlike shapes later d e → IsNodeBreak u texts shapes t d i n b → IsNodeBreak u texts later s e i n b
node_breaks u texts shapes later t s d e i n b h a x = subst (λ P. P) (λ j.
    IsAmong (expression_alike u texts shapes later t s d e i n h a j) b
    ⊎ (IsAmong (declaration_alike u shapes later t s d e i n h a j) b
    ⊎ (IsAmong (initialiser_alike u shapes later t s d e i n h a j) b ⊎ IsAmong (linked_alike u shapes later t s d e i n h a j) b))) x

pub same_breaks : (u : Tree) (texts : List (List ℕ)) (shapes later : List Shape) (t s : Typing) → IsTyping u texts shapes t
    → IsTyping u texts later s → (b : Break) → IsBroken u texts shapes t b → IsBroken u texts later s b
same_breaks u texts shapes later t s x y b broken =
    let i = broken.node in
    let n = slice_get u.nodes.now i in
    record {
      node = i;
      among = elim (cases_lt i (length u.nodes.now)) [
        | inl low ↦ node_breaks u texts shapes later (cut i t) (cut i s) (entry_at t i) (entry_at s i) i n b
            (up_to u texts shapes later t s x y i (omega (arith, low))) ((all_alike u texts shapes later t s x y).each i) broken.among
        | inr high ↦ absurd (no_break u texts shapes (cut i t) (entry_at t i) i b
            (subst (λ o. IsNodeBreak u texts shapes (cut i t) (entry_at t i) i o b) (slice_get_past u.nodes.now i high) broken.among))
      ];
    }

-- ---- what statements are checked by

one_column : {A : Type 0} → (f : ℕ → A) (nothing : A) (bound : ℕ) (xs ys : List A) → AreOf f nothing bound xs → AreOf f nothing bound ys → (k : ℕ)
    → slice_index_or xs k nothing ≡ slice_index_or ys k nothing
one_column f nothing bound xs ys h g k = elim (cases_lt k bound) [
  | inl low ↦ h.each k low ∙ sym (g.each k low)
  | inr high ↦
      let n = h.count in
      let m = g.count in
      get_or_past xs k nothing (omega (arith, n, high)) ∙ sym (get_or_past ys k nothing (omega (arith, m, high)))
]

labelled_alike : (u : Tree) (shapes later : List Shape) (t s : Typing) → Alike shapes later t s → labelled_in shapes u t ≡ labelled_in later u s
labelled_alike u shapes later t s h = λ i. record {
  nodes = u.nodes.now;
  at = λ p. (h.each p).fact i;
  around = λ node. slice_index_or u.around.now node outermost;
  name = λ token. slice_index_or u.names.now token token;
}

row_alike : (shapes later : List Shape) (t s : Typing) (x : Bool) (part : Option ℕ) → Alike shapes later t s
    → type_at shapes (if x then named_row t.named part else 0) ≡ type_at later (if x then named_row s.named part else 0)
row_alike shapes later t s Bool.true part h = named_alike shapes later t s part h
row_alike shapes later t s Bool.false part h = h.none

result_alike : (shapes later : List Shape) (t s : Typing) (nodes : List Node) (k : ℕ) → Alike shapes later t s
    → type_at shapes (slice_index_or (map (result_in t.named) nodes) k 0) ≡ type_at later (slice_index_or (map (result_in s.named) nodes) k 0)
result_alike shapes later t s [] k h = h.none
result_alike shapes later t s (n ∷ ns) zero h = row_alike shapes later t s (is_definition n.kind) (slice_get n.parts 1) h
result_alike shapes later t s (n ∷ ns) (suc k) h = result_alike shapes later t s ns k h

gives_alike : (shapes later : List Shape) (t s : Typing) (nodes : List Node) (function : Option ℕ) → Alike shapes later t s
    → type_at shapes (result_row (map (result_in t.named) nodes) function) ≡ type_at later (result_row (map (result_in s.named) nodes) function)
gives_alike shapes later t s nodes None h = h.none
gives_alike shapes later t s nodes (Some k) h = result_alike shapes later t s nodes k h

scene_alike : (u : Tree) (shapes later : List Shape) (t s : Typing) (m n : Marked) → Alike shapes later t s → AreMarked shapes u t m
    → AreMarked later u s n → scene_in shapes u t m ≡ scene_in later u s n
scene_alike u shapes later t s m n h x y =
    let one = labelled_in shapes u t in
    let scene = labelled_in later u s in
    let same = labelled_alike u shapes later t s h in
    λ i. record {
      nodes = u.nodes.now;
      at = λ p. (h.each p).fact i;
      around = λ node. slice_index_or u.around.now node outermost;
      gives = λ function.
          (ap (λ rows. type_at shapes (result_row rows function)) x.results
          ∙ gives_alike shapes later t s u.nodes.now function h
          ∙ ap (λ rows. type_at later (result_row rows function)) (sym y.results))
          i;
      again = λ node. one_column (is_again scene) Bool.false (length u.nodes.now) m.again n.again (again_in one scene m.again same x.again) y.again node i;
      label = λ node. one_column (goto_at scene) None (length u.nodes.now) m.labels n.labels (labels_in one scene m.labels same x.labels) y.labels node i;
    }

pub same_scenes : (u : Tree) (texts : List (List ℕ)) (shapes later : List Shape) (t s : Typing) (m n : Marked) → IsTyping u texts shapes t
    → IsTyping u texts later s → AreMarked shapes u t m → AreMarked later u s n → scene_in shapes u t m ≡ scene_in later u s n
same_scenes u texts shapes later t s m n x y p q = scene_alike u shapes later t s m n (all_alike u texts shapes later t s x y) p q

-- ---- the unit

pub same_unit_breaks : (u : Tree) (texts : List (List ℕ)) (shapes later : List Shape) (t s : Typing) (m n : Marked) → IsTyping u texts shapes t
    → IsTyping u texts later s → AreMarked shapes u t m → AreMarked later u s n → (b : Break) → IsUnitBroken u texts shapes t m b
    → IsUnitBroken u texts later s n b
same_unit_breaks u texts shapes later t s m n x y p q b broken = elim broken [
  | inl one ↦ inl (same_breaks u texts shapes later t s x y b one)
  | inr statement ↦ inr (subst (λ scene. IsStatementBroken scene b) (same_scenes u texts shapes later t s m n x y p q) statement)
]

pub one_first : (u : Tree) (texts : List (List ℕ)) (shapes later : List Shape) (t s : Typing) (m n : Marked) (b c : Option Break)
    → IsTyping u texts shapes t → IsTyping u texts later s → AreMarked shapes u t m → AreMarked later u s n
    → IsFirst (IsUnitBroken u texts shapes t m) b → IsFirst (IsUnitBroken u texts later s n) c → b ≡ c
one_first u texts shapes later t s m n b c x y p q first last =
    one_of_all (IsUnitBroken u texts later s n) b c
    (same_first (IsUnitBroken u texts shapes t m) (IsUnitBroken u texts later s n) b (same_unit_breaks u texts shapes later t s m n x y p q)
    (same_unit_breaks u texts later shapes s t n m y x q p) first)
    last
