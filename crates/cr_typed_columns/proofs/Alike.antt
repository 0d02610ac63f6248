-- Tables with the same types, and the rows of the same types in them.
use Rattle.std.proofs.Common.{◌≡◌, ℕ, suc, ◌<◌, List, [], ◌∷◌, length, map, slice_index_or, inl, inr, refl, sym, ap, subst, ◌∙◌, arith}
use Rattle.std.proofs.lemmas.Bool.{cases_lt, cases_eq}
use Rattle.std.proofs.lemmas.List.{ext_get_or}
use Rattle.cr_typed_columns.specs.Reading.{Parsed}
use Rattle.cr_check_types.specs.declared.shape.Shape.{Shape}
use Rattle.cr_check_types.specs.Types.{Qualified, unknown, type_at, IsRow}
use Rattle.cr_check_types.specs.Relations.{AreRows}
use Rattle.cr_check_types.specs.Shared.{IsDistinct, Gains, IsWith, has, gains, IsWithAll}
use Rattle.cr_check_types.proofs.Shared.{same_table}
use Rattle.cr_typed.specs.declared.typed.Typed.{Typed}
use Rattle.cr_typed.specs.declared.typed.Put.{Put}
use Rattle.cr_check_initialisers.specs.Plans.{Entry, put, excess}
use Rattle.cr_check_types.proofs.Tables.{beyond}
use Rattle.cr_typed_columns.specs.declared.checked.CheckedColumns.{CheckedColumns}
use Rattle.cr_typed_columns.specs.Rows.{listed, levels_upto, put_entry, put_type, put_row, AreRowsOf, AreAllRows, AreAllPuts}
use Rattle.cr_typed_columns.specs.Names.{ref_of, duration_of, named_of}
use Rattle.cr_typed_columns.specs.Expressions.{type_of_node, constant_of, valued_of, chosen_of}
use Rattle.cr_typed_columns.specs.Functions.{parameters_of}
use Rattle.cr_typed_columns.specs.Columns.{member_types, layout_at, puts_at, plan_entries, plan_types, types_of_unit, IsTableOf}
use Rattle.cr_typed_columns.specs.Laws.{AreAlike, OneTyped}

-- ---- tables

record HaveSame (a b : List Shape) : Type 0 where
  pub count : length a ≡ length b
  pub each : (row : ℕ) → type_at a row ≡ type_at b row

same_back : (a b : List Shape) → HaveSame a b → HaveSame b a
same_back a b h = record { count = sym h.count; each = λ row. sym (h.each row) }

-- a table that has the type gains no row, and the other one does
absurd_with : (a b c d : List Shape) (t : Qualified) (row : ℕ) → HaveSame a b → row < length a → type_at a row ≡ t → Gains b t d → HaveSame c d
absurd_with a b c d t row h low is g = absurd (g.none row (let e = h.count in omega (arith, e, low)) (sym (h.each row) ∙ is))

with_same : (a b c d : List Shape) (t : Qualified) → HaveSame a b → IsWith a t c → IsWith b t d → HaveSame c d
with_same a b c d t h (has row low is e) (has other under are f) = rw (e, f) h
with_same a b c d t h (has row low is e) (gains g) = absurd_with a b c d t row h low is g
with_same a b c d t h (gains g) (has row low is e) = same_back d c (absurd_with b a d c t row (same_back a b h) low is g)
with_same a b c d t h (gains g) (gains k) =
    let e = h.count in
    let l = g.longer in
    let m = k.longer in
    record {
      count = omega (arith, e, l, m);
      each = λ row. elim (cases_lt row (length a)) [
        | inl older ↦ g.grows.keeps row older ∙ h.each row ∙ sym (k.grows.keeps row (omega (arith, older, e)))
        | inr more ↦ elim (cases_eq row (length a)) [
          | inl last ↦ (rw last g.last) ∙ sym (subst (λ n. type_at d n ≡ t) (let n : length b ≡ row = omega (arith, e, last) in n) k.last)
          | inr past ↦
              let low : length a < row = omega (arith, more, past) in
              beyond c row (omega (arith, low, l)) ∙ sym (beyond d row (omega (arith, low, e, m)))
        ]
      ];
    }

all_same : (ts : List Qualified) (a b c d : List Shape) → HaveSame a b → IsWithAll a ts c → IsWithAll b ts d → HaveSame c d
all_same [] a b c d h w v = rw (w, v) h
all_same (t ∷ ts) a b c d h w v = all_same ts w.0 v.0 c d (with_same a b w.0 v.0 t h w.1 v.1) w.2 v.2

alone_same : (a b : List Shape) → length a ≡ 1 → length b ≡ 1 → IsRow a 0 unknown → IsRow b 0 unknown → HaveSame a b
alone_same a b one two is are = record {
  count = one ∙ sym two;
  each = λ row. elim (cases_lt 0 row) [
    | inl past ↦ beyond a row (omega (arith, one, past)) ∙ sym (beyond b row (omega (arith, two, past)))
    | inr first ↦ let zeroth : row ≡ 0 = omega (arith, first) in rw zeroth (is.is ∙ sym are.is)
  ];
}

tables_same : (ts : List Qualified) (a b : List Shape) → IsTableOf ts a → IsTableOf ts b → HaveSame a b
tables_same ts a b h k = all_same ts h.first k.first a b (alone_same h.first k.first h.alone k.alone h.no_type k.no_type) h.with_all k.with_all

-- ---- rows

abbrev first_of : List Qualified → Qualified
first_of [] = unknown
first_of (t ∷ ts) = t

abbrev rest_of : {A : Type 0} → List A → List A
rest_of [] = []
rest_of (x ∷ xs) = xs

no_cons : {A : Type 0} {X : Type 0} (x : A) (xs : List A) → [] ≡ x ∷ xs → X
no_cons x xs e = absurd (let n : 0 ≡ suc (length xs) = ap length e in let no : ⊥ = omega (arith, n) in no)

rows_same : (a b : List Shape) (rows others : List ℕ) → HaveSame a b → IsDistinct a → AreRows a rows → AreRows b others
    → map (type_at a) rows ≡ map (type_at b) others → rows ≡ others
rows_same a b [] [] h d w v e = refl
rows_same a b [] (y ∷ others) h d w v e = no_cons (type_at b y) (map (type_at b) others) e
rows_same a b (x ∷ rows) [] h d w v e = no_cons (type_at a x) (map (type_at a) rows) (sym e)
rows_same a b (x ∷ rows) (y ∷ others) h d w v e =
    let c = h.count in
    let under : y < length b = v 0 (omega arith) in
    let head : x ≡ y = d x y (w 0 (omega arith)) (omega (arith, c, under)) (ap first_of e ∙ sym (h.each y)) in
    let tail = rows_same a b rows others h d (λ k low. w (suc k) (omega (arith, low))) (λ k low. v (suc k) (omega (arith, low))) (ap rest_of e) in
    rw (head, tail) refl

one_row : (a b : List Shape) (types : List Qualified) (rows others : List ℕ) → HaveSame a b → IsDistinct a → AreRowsOf a types rows → AreRowsOf b types others → rows ≡ others
one_row a b types rows others h d w v = rows_same a b rows others h d w.within v.within (w.are ∙ sym v.are)

-- ---- initialisers

abbrev entry_node : Entry → ℕ
entry_node (put p i b) = i
entry_node (excess b) = 0

abbrev entry_cell : Entry → ℕ
entry_cell (put p i b) = p.cell
entry_cell (excess b) = 0

abbrev entry_type : Entry → Qualified
entry_type (put p i b) = p.type
entry_type (excess b) = unknown

abbrev entry_user : Entry → ℕ
entry_user (put p i b) = b
entry_user (excess b) = b

abbrev first_entry : List Entry → Entry
first_entry [] = excess 0
first_entry (x ∷ xs) = x

put_same : (a b : List Shape) (p q : Put) → HaveSame a b → IsDistinct a → p.row < length a → q.row < length b → put_entry a p ≡ put_entry b q → p ≡ q
put_same a b p q h d low under e =
    let c = h.count in
    let row : p.row ≡ q.row = d p.row q.row low (omega (arith, c, under)) (ap entry_type e ∙ sym (h.each q.row)) in
    let whole : record { node = p.node; cell = p.cell; row = p.row; user = p.user } ≡ record { node = q.node; cell = q.cell; row = q.row; user = q.user } =
    rw (ap entry_node e, ap entry_cell e, row, ap entry_user e) refl in
    whole

puts_same : (a b : List Shape) (puts others : List Put) → HaveSame a b → IsDistinct a → AreRows a (map put_row puts) → AreRows b (map put_row others)
    → map (put_entry a) puts ≡ map (put_entry b) others → puts ≡ others
puts_same a b [] [] h d w v e = refl
puts_same a b [] (y ∷ others) h d w v e = no_cons (put_entry b y) (map (put_entry b) others) e
puts_same a b (x ∷ puts) [] h d w v e = no_cons (put_entry a x) (map (put_entry a) puts) (sym e)
puts_same a b (x ∷ puts) (y ∷ others) h d w v e =
    let head : x ≡ y = put_same a b x y h d (w 0 (omega arith)) (v 0 (omega arith)) (ap first_entry e) in
    let tail = puts_same a b puts others h d (λ k low. w (suc k) (omega (arith, low))) (λ k low. v (suc k) (omega (arith, low))) (ap rest_of e) in
    ap (λ p. p ∷ puts) head ∙ ap (λ ps. y ∷ ps) tail

-- ---- lists of them

all_rows_same : (a b : List Shape) (f g : ℕ → List Qualified) (n : ℕ) (rows others : List (List ℕ)) → ((i : ℕ) → f i ≡ g i) → HaveSame a b → IsDistinct a
    → AreAllRows a f n rows → AreAllRows b g n others → rows ≡ others
all_rows_same a b f g n rows others e h d w v =
    let c = w.count in
    ext_get_or [] rows others (w.count ∙ sym v.count)
    (λ i low.
    let under : i < n = omega (arith, c, low) in
    one_row a b (g i) _ _ h d (subst (λ ts. AreRowsOf a ts (slice_index_or rows i [])) (e i) (w.each i under)) (v.each i under))

all_puts_same : (a b : List Shape) (f g : ℕ → List Entry) (n : ℕ) (plans others : List (List Put)) → ((i : ℕ) → f i ≡ g i) → HaveSame a b → IsDistinct a
    → AreAllPuts a f n plans → AreAllPuts b g n others → plans ≡ others
all_puts_same a b f g n plans others e h d w v =
    let c = w.count in
    ext_get_or [] plans others (w.count ∙ sym v.count)
    (λ i low.
    let under : i < n = omega (arith, c, low) in
    let left = w.each i under in
    let right = v.each i under in
    puts_same a b _ _ h d left.within right.within (left.are ∙ e i ∙ sym right.are))

-- ---- typed units

listed_same : {A : Type 0} (f g : ℕ → A) (n : ℕ) → ((i : ℕ) → f i ≡ g i) → listed f n ≡ listed g n
listed_same f g n e = ap (λ h. listed h n) (λ i. λ t. e t i)

upto_same : (f g : ℕ → List Qualified) (n : ℕ) → ((i : ℕ) → f i ≡ g i) → levels_upto f n ≡ levels_upto g n
upto_same f g n e = ap (λ h. levels_upto h n) (λ i. λ t. e t i)

types_map : (a : List Shape) (puts : List Put) → map (put_type a) puts ≡ map entry_type (map (put_entry a) puts)
types_map a [] = refl
types_map a (p ∷ puts) = ap (λ ts. put_type a p ∷ ts) (types_map a puts)

plan_types_same : (j k : CheckedColumns) (i : ℕ) → plan_entries j i ≡ plan_entries k i → plan_types j i ≡ plan_types k i
plan_types_same j k i e = types_map j.table.now (puts_at j i) ∙ ap (map entry_type) e ∙ sym (types_map k.table.now (puts_at k i))

unit_types_same : (u : Parsed) (j k : CheckedColumns) → AreAlike u j k → types_of_unit u j ≡ types_of_unit u k
unit_types_same u j k e =
    rw (
      listed_same (type_of_node j) (type_of_node k) (length u.nodes) e.types,
      listed_same (named_of u j) (named_of u k) (length u.nodes) e.named,
      upto_same (member_types u.nodes j) (member_types u.nodes k) (length u.nodes) e.members,
      upto_same (plan_types j) (plan_types k) (length u.nodes) (λ i. plan_types_same j k i (e.plans i)),
    ) refl

-- of the columns of a typed unit
same_columns : (s t : Typed) → s.file ≡ t.file → s.tokens ≡ t.tokens → s.nodes ≡ t.nodes → s.items ≡ t.items → s.shapes ≡ t.shapes → s.types ≡ t.types
    → s.refs ≡ t.refs → s.valued ≡ t.valued → s.named ≡ t.named → s.durations ≡ t.durations → s.constants ≡ t.constants → s.layouts ≡ t.layouts
    → s.members ≡ t.members → s.chosen ≡ t.chosen → s.parameters ≡ t.parameters → s.plans ≡ t.plans → s.texts ≡ t.texts → s.main ≡ t.main → s ≡ t
same_columns s t a b c d e f g h i j k l m n o p q r =
    λ x. record {
      file = a x;
      tokens = b x;
      nodes = c x;
      items = d x;
      shapes = e x;
      types = f x;
      refs = g x;
      valued = h x;
      named = i x;
      durations = j x;
      constants = k x;
      layouts = l x;
      members = m x;
      chosen = n x;
      parameters = o x;
      plans = p x;
      texts = q x;
      main = r x;
    }

pub one_typed : OneTyped
one_typed file u texts j k s t e h g =
    let n = length u.nodes in
    let same = tables_same (types_of_unit u k) s.shapes t.shapes (subst (λ ts. IsTableOf ts s.shapes) (unit_types_same u j k e) h.shapes) g.shapes in
    let d = h.shapes.canonical.distinct in
    same_columns s t
    (h.file_is ∙ sym g.file_is)
    (h.tokens_are ∙ sym g.tokens_are)
    (h.nodes_are ∙ sym g.nodes_are)
    (h.items_are ∙ sym g.items_are)
    (same_table s.shapes t.shapes h.shapes.canonical g.shapes.canonical same.count same.each)
    (one_row s.shapes t.shapes (listed (type_of_node k) n) s.types t.types same d
    (subst (λ ts. AreRowsOf s.shapes ts s.types) (listed_same (type_of_node j) (type_of_node k) n e.types) h.types) g.types)
    (h.refs ∙ listed_same (ref_of u j) (ref_of u k) n e.refs ∙ sym g.refs)
    (h.valued ∙ listed_same (valued_of u.nodes j) (valued_of u.nodes k) n e.valued ∙ sym g.valued)
    (one_row s.shapes t.shapes (listed (named_of u k) n) s.named t.named same d
    (subst (λ ts. AreRowsOf s.shapes ts s.named) (listed_same (named_of u j) (named_of u k) n e.named) h.named) g.named)
    (h.durations ∙ listed_same (duration_of u.nodes j) (duration_of u.nodes k) n e.durations ∙ sym g.durations)
    (h.constants ∙ listed_same (constant_of j) (constant_of k) n e.constants ∙ sym g.constants)
    (h.layouts_are ∙ listed_same (layout_at j) (layout_at k) n e.layouts ∙ sym g.layouts_are)
    (all_rows_same s.shapes t.shapes (member_types u.nodes j) (member_types u.nodes k) n s.members t.members e.members same d h.members g.members)
    (h.chosen ∙ listed_same (chosen_of u.nodes j) (chosen_of u.nodes k) n e.chosen ∙ sym g.chosen)
    (h.parameters ∙ listed_same (parameters_of u j) (parameters_of u k) n e.parameters ∙ sym g.parameters)
    (all_puts_same s.shapes t.shapes (plan_entries j) (plan_entries k) n s.plans t.plans e.plans same d h.plans g.plans)
    (h.texts_are ∙ sym g.texts_are)
    (h.main ∙ sym g.main)
