-- Rows of types that are copied one by one.
use Rattle.std.proofs.Common.{◌≡◌, ℕ, suc, ◌+◌, ◌<◌, List, [], ◌∷◌, ◌++◌, length, map, take, get_or, slice_index, slice_index_or, inl, inr, refl, sym, ap, subst, ◌∙◌, arith, length-append}
use Rattle.std.proofs.Math.ListN.{get_or-append}
use Rattle.std.proofs.Math.Seq.{get_or-append_seam}
use Rattle.std.proofs.lemmas.Bool.{cases_lt}
use Rattle.std.proofs.lemmas.List.{map_more, map-append}
use Rattle.std.proofs.lemmas.List.Concat.{flat_map-append}
use Rattle.cr_syntax.specs.declared.node.Node.{Node}
use Rattle.cr_check_types.specs.declared.shape.Shape.{Shape}
use Rattle.cr_typed_columns.specs.Reading.{Parsed}
use Rattle.cr_check_types.specs.Types.{Qualified, unknown, type_at, IsRow, Grows}
use Rattle.cr_check_types.specs.Relations.{AreRows}
use Rattle.cr_check_types.specs.Shared.{levels_of, IsCanonical, IsWithAll}
use Rattle.cr_typed.specs.declared.typed.Put.{Put}
use Rattle.cr_check_initialisers.specs.Plans.{Entry, put}
use Rattle.cr_check_expressions.proofs.Kept.{grows_on}
use Rattle.cr_typed_columns.specs.declared.checked.CheckedColumns.{CheckedColumns}
use Rattle.cr_typed_columns.specs.declared.rows.Named.{Named}
use Rattle.cr_typed_columns.specs.declared.assembling.Shaped.{Shaped}
use Rattle.cr_typed_columns.specs.Rows.{listed, type_in, levels_of_all, levels_upto, put_entry, put_row, AreRowsOf, ArePuts, AreAllRows, AreAllPuts}
use Rattle.cr_typed_columns.specs.Names.{named_of}
use Rattle.cr_typed_columns.specs.Expressions.{type_of_node}
use Rattle.cr_typed_columns.specs.Columns.{member_types, plan_entries, plan_types, IsShaped}
use Rattle.cr_typed_columns.proofs.Copies.{with_both}

-- ---- one more

pub typed_more : {A B C : Type 0} (f : A → C) (g : B → C) (done : List A) (xs : List B) (i : ℕ) (d : B) (x : A) → i < length xs
    → map f done ≡ map g (take i xs) → f x ≡ g (get_or xs i d) → map f (done ++ x ∷ []) ≡ map g (take (i + 1) xs)
typed_more f g done xs i d x low h e =
    map-append f done (x ∷ []) ∙ ap (λ ts. ts ++ f x ∷ []) h ∙ ap (λ t. map g (take i xs) ++ t ∷ []) e ∙ sym (map_more g xs i d low)

within_more : (shapes : List Shape) (rows : List ℕ) (row : ℕ) → AreRows shapes rows → row < length shapes → AreRows shapes (rows ++ row ∷ [])
within_more shapes rows row h low k in_all = elim (cases_lt k (length rows)) [
  | inl older ↦ let e : slice_index (rows ++ row ∷ []) k ≡ slice_index rows k = get_or-append rows (row ∷ []) 0 k older in let l = h k older in omega (arith, e, l)
  | inr newest ↦
      let same : k ≡ length rows = omega (arith, in_all, newest, length-append rows (row ∷ [])) in
      let e : slice_index (rows ++ row ∷ []) (length rows) ≡ row = get_or-append_seam rows row [] 0 in
      rw same (omega (arith, e, low))
]

within_grown : (a b : List Shape) (rows : List ℕ) → Grows a b → AreRows a rows → AreRows b rows
within_grown a b rows g h k low = let l = h k low in let m = g.longer in omega (arith, l, m)

map_keeps : (a b : List Shape) (rows : List ℕ) → Grows a b → AreRows a rows → map (type_at b) rows ≡ map (type_at a) rows
map_keeps a b [] g h = refl
map_keeps a b (row ∷ rows) g h =
    let head : type_at b row ≡ type_at a row = g.keeps row (h 0 (omega arith)) in
    let tail = map_keeps a b rows g (λ k low. h (suc k) (omega (arith, low))) in
    rw (head, tail) refl

pub rows_grown : (a b : List Shape) (types : List Qualified) (rows : List ℕ) → Grows a b → AreRowsOf a types rows → AreRowsOf b types rows
rows_grown a b types rows g h = record { within = within_grown a b rows g h.within; are = map_keeps a b rows g h.within ∙ h.are }

row_more : (a b : List Shape) (types : List Qualified) (rows : List ℕ) (t : Qualified) (row : ℕ) → Grows a b → AreRowsOf a types rows → IsRow b row t
    → AreRowsOf b (types ++ t ∷ []) (rows ++ row ∷ [])
row_more a b types rows t row g h is =
    let old = rows_grown a b types rows g h in
    record {
      within = within_more b rows row old.within is.within;
      are = map-append (type_at b) rows (row ∷ []) ∙ ap (λ ts. ts ++ type_at b row ∷ []) old.are ∙ ap (λ u. types ++ u ∷ []) is.is;
    }

pub row_next : {A : Type 0} (a b : List Shape) (f : A → Qualified) (xs : List A) (i : ℕ) (d : A) (rows : List ℕ) (row : ℕ) → i < length xs → Grows a b
    → AreRowsOf a (map f (take i xs)) rows → IsRow b row (f (get_or xs i d)) → AreRowsOf b (map f (take (i + 1) xs)) (rows ++ row ∷ [])
row_next a b f xs i d rows row low g h is =
    subst (λ ts. AreRowsOf b ts (rows ++ row ∷ [])) (sym (map_more f xs i d low)) (row_more a b (map f (take i xs)) rows (f (get_or xs i d)) row g h is)

-- ---- initialisers

entry_keeps : (a b : List Shape) (p : Put) → Grows a b → p.row < length a → put_entry b p ≡ put_entry a p
entry_keeps a b p g low = ap (λ t. put (record { cell = p.cell; type = t }) p.node p.user) (g.keeps p.row low)

entries_keep : (a b : List Shape) (puts : List Put) → Grows a b → AreRows a (map put_row puts) → map (put_entry b) puts ≡ map (put_entry a) puts
entries_keep a b [] g h = refl
entries_keep a b (p ∷ puts) g h =
    let head : put_entry b p ≡ put_entry a p = entry_keeps a b p g (h 0 (omega arith)) in
    let tail = entries_keep a b puts g (λ k low. h (suc k) (omega (arith, low))) in
    ap (λ e. e ∷ map (put_entry b) puts) head ∙ ap (λ es. put_entry a p ∷ es) tail

pub puts_grown : (a b : List Shape) (entries : List Entry) (puts : List Put) → Grows a b → ArePuts a entries puts → ArePuts b entries puts
puts_grown a b entries puts g h =
    record { within = within_grown a b (map put_row puts) g h.within; are = entries_keep a b puts g h.within ∙ h.are }

put_more : (a b : List Shape) (entries : List Entry) (puts : List Put) (e : Entry) (p : Put) → Grows a b → ArePuts a entries puts
    → p.row < length b → put_entry b p ≡ e → ArePuts b (entries ++ e ∷ []) (puts ++ p ∷ [])
put_more a b entries puts e p g h low is =
    let old = puts_grown a b entries puts g h in
    record {
      within = subst (AreRows b) (sym (map-append put_row puts (p ∷ []))) (within_more b (map put_row puts) p.row old.within low);
      are = map-append (put_entry b) puts (p ∷ []) ∙ ap (λ es. es ++ put_entry b p ∷ []) old.are ∙ ap (λ x. entries ++ x ∷ []) is;
    }

pub put_next : (a b from : List Shape) (xs : List Put) (i : ℕ) (d : Put) (puts : List Put) (p : Put) → i < length xs → Grows a b
    → ArePuts a (map (put_entry from) (take i xs)) puts → p.row < length b → put_entry b p ≡ put_entry from (get_or xs i d)
    → ArePuts b (map (put_entry from) (take (i + 1) xs)) (puts ++ p ∷ [])
put_next a b from xs i d puts p under g h low is =
    subst (λ es. ArePuts b es (puts ++ p ∷ [])) (sym (map_more (put_entry from) xs i d under))
    (put_more a b (map (put_entry from) (take i xs)) puts (put_entry from (get_or xs i d)) p g h low is)

-- ---- levels

levels_more : (start a b : List Shape) (types : List Qualified) (t : Qualified) → IsWithAll start (levels_of_all types) a → IsWithAll a (levels_of t) b
    → IsWithAll start (levels_of_all (types ++ t ∷ [])) b
levels_more start a b types t h w =
    subst (λ ts. IsWithAll start ts b) (sym (flat_map-append levels_of types (t ∷ []))) (with_both start a b (levels_of_all types) (levels_of t ++ []) h (with_both a b b (levels_of t) [] w refl))

pub levels_next : {A : Type 0} (start a b : List Shape) (f : A → Qualified) (xs : List A) (i : ℕ) (d : A) → i < length xs
    → IsWithAll start (levels_of_all (map f (take i xs))) a → IsWithAll a (levels_of (f (get_or xs i d))) b
    → IsWithAll start (levels_of_all (map f (take (i + 1) xs))) b
levels_next start a b f xs i d low h w =
    subst (λ ts. IsWithAll start (levels_of_all ts) b) (sym (map_more f xs i d low)) (levels_more start a b (map f (take i xs)) (f (get_or xs i d)) h w)

pub upto_more : (start a b : List Shape) (types : ℕ → List Qualified) (k : ℕ) → IsWithAll start (levels_upto types k) a → IsWithAll a (levels_of_all (types k)) b
    → IsWithAll start (levels_upto types (k + 1)) b
upto_more start a b types k h w =
    let step : suc k ≡ k + 1 = omega arith in
    subst (λ n. IsWithAll start (levels_upto types n) b) step (with_both start a b (levels_upto types k) (levels_of_all (types k)) h w)

-- ---- lists of them

all_rows_grown : (a b : List Shape) (types : ℕ → List Qualified) (k : ℕ) (all : List (List ℕ)) → Grows a b → AreAllRows a types k all → AreAllRows b types k all
all_rows_grown a b types k all g h = record { count = h.count; each = λ i low. rows_grown a b (types i) _ g (h.each i low) }

pub all_rows_more : (a b : List Shape) (types : ℕ → List Qualified) (k : ℕ) (all : List (List ℕ)) (rows : List ℕ) → Grows a b → AreAllRows a types k all
    → AreRowsOf b (types k) rows → AreAllRows b types (k + 1) (all ++ rows ∷ [])
all_rows_more a b types k all rows g h is = record {
  count = let c = h.count in omega (arith, c, length-append all (rows ∷ []));
  each = λ i low. elim (cases_lt i k) [
    | inl older ↦
        let c = h.count in
        subst (AreRowsOf b (types i)) (sym (get_or-append all (rows ∷ []) [] i (omega (arith, c, older)))) (rows_grown a b (types i) _ g (h.each i older))
    | inr newest ↦
        let same : i ≡ k = omega (arith, low, newest) in
        let c : length all ≡ k = h.count in
        rw same (subst (AreRowsOf b (types k)) (sym (subst (λ n. slice_index_or (all ++ rows ∷ []) n [] ≡ rows) c (get_or-append_seam all rows [] []))) is)
  ];
}

pub all_puts_more : (a b : List Shape) (entries : ℕ → List Entry) (k : ℕ) (all : List (List Put)) (puts : List Put) → Grows a b → AreAllPuts a entries k all
    → ArePuts b (entries k) puts → AreAllPuts b entries (k + 1) (all ++ puts ∷ [])
all_puts_more a b entries k all puts g h is = record {
  count = let c = h.count in omega (arith, c, length-append all (puts ∷ []));
  each = λ i low. elim (cases_lt i k) [
    | inl older ↦
        let c = h.count in
        subst (ArePuts b (entries i)) (sym (get_or-append all (puts ∷ []) [] i (omega (arith, c, older)))) (puts_grown a b (entries i) _ g (h.each i older))
    | inr newest ↦
        let same : i ≡ k = omega (arith, low, newest) in
        let c : length all ≡ k = h.count in
        rw same (subst (ArePuts b (entries k)) (sym (subst (λ n. slice_index_or (all ++ puts ∷ []) n [] ≡ puts) c (get_or-append_seam all puts [] []))) is)
  ];
}

-- ---- a whole table

pub shaped_is : (u : Parsed) (j : CheckedColumns) (s : Shaped) (nodes : List Node) (first after next third : List Shape) (ts ns : List Named)
    → nodes ≡ u.nodes → IsCanonical s.shapes → length first ≡ 1 → IsRow first 0 unknown
    → map (type_in (type_at j.table.now)) ts ≡ listed (type_of_node j) (length nodes)
    → map (type_in (type_at j.table.now)) ns ≡ listed (named_of u j) (length u.nodes)
    → AreRowsOf after (map (type_in (type_at j.table.now)) ts) s.types → IsWithAll first (levels_of_all (map (type_in (type_at j.table.now)) ts)) after
    → AreRowsOf next (map (type_in (type_at j.table.now)) ns) s.named → Grows after next
    → IsWithAll after (levels_of_all (map (type_in (type_at j.table.now)) ns)) next
    → AreAllRows third (member_types nodes j) (length nodes) s.members → Grows next third → IsWithAll next (levels_upto (member_types nodes j) (length nodes)) third
    → AreAllPuts s.shapes (plan_entries j) (length nodes) s.plans → Grows third s.shapes
    → IsWithAll third (levels_upto (plan_types j) (length nodes)) s.shapes → IsShaped u j s
shaped_is u j s nodes first after next third ts ns same canonical alone none_row found named types with_types names g1 with_names made g2 with_made planned g3 with_planned =
    let are = found ∙ ap (λ ns. listed (type_of_node j) (length ns)) same in
    let members = subst (λ ns. AreAllRows third (member_types ns j) (length ns) s.members) same made in
    let with_members = subst (λ ns. IsWithAll next (levels_upto (member_types ns j) (length ns)) third) same with_made in
    let plans = subst (λ ns. AreAllPuts s.shapes (plan_entries j) (length ns) s.plans) same planned in
    let with_plans = subst (λ ns. IsWithAll third (levels_upto (plan_types j) (length ns)) s.shapes) same with_planned in
    record {
      shapes = record {
        first = first;
        alone = alone;
        no_type = none_row;
        with_all =
            with_both first after s.shapes _ _ (subst (λ xs. IsWithAll first (levels_of_all xs) after) are with_types)
            (with_both after next s.shapes _ _ (subst (λ xs. IsWithAll after (levels_of_all xs) next) named with_names)
            (with_both next third s.shapes _ _ with_members with_plans));
        canonical = canonical;
      };
      types = rows_grown after s.shapes _ s.types (grows_on after next s.shapes g1 (grows_on next third s.shapes g2 g3)) (subst (λ xs. AreRowsOf after xs s.types) are types);
      named = rows_grown next s.shapes _ s.named (grows_on next third s.shapes g2 g3) (subst (λ xs. AreRowsOf next xs s.named) named names);
      members = all_rows_grown third s.shapes _ _ s.members g3 members;
      plans = plans;
    }
