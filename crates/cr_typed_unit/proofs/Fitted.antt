-- What is made of a sound unit has what a run asks, where its types fit it.
use Rattle.std.proofs.Common.{◌≡◌, ℕ, zero, suc, ◌<◌, ◌^◌, List, [], ◌∷◌, ◌++◌, Some, length, slice_get, slice_index_or, inl, inr, refl, sym, ap, subst, ◌∙◌, arith, length-append}
use Rattle.std.proofs.Math.ListN.{get_or-append}
use Rattle.std.proofs.Math.Seq.{get_or-append_seam}
use Rattle.std.proofs.lemmas.Bool.{cases_lt}
use Rattle.std.proofs.lemmas.List.{length-map}
use Rattle.std.proofs.lemmas.Option.{get_or_from_slice_get, slice_get_within}
use Rattle.cr_syntax.specs.declared.unit.Unit as source
use Rattle.cr_syntax.specs.Kept.{PartsAreBelow}
use Rattle.cr_syntax.specs.Words.{AreSpans}
use Rattle.cr_scopes.specs.declared.names.Names.{Names}
use Rattle.cr_check_declarations.specs.declared.tree.Tree.{Tree}
use Rattle.cr_check_types.specs.declared.shape.Shape.{Shape}
use Rattle.cr_check_types.specs.Types.{Grows, Qualified, type_at}
use Rattle.cr_check_types.specs.Relations.{AreRows}
use Rattle.cr_check_types.specs.Shared.{IsWith, IsWithAll, gains, has}
use Rattle.cr_typed.specs.declared.typed.Typed.{Typed}
use Rattle.cr_typed.specs.Typed.{AreBelow, IsTyped}
use Rattle.cr_typed_columns.specs.declared.checked.CheckedColumns.{CheckedColumns}
use Rattle.cr_typed_columns.specs.Reading.{parsed_of}
use Rattle.cr_typed_columns.specs.Rows.{AreRowsOf, listed}
use Rattle.cr_typed_columns.specs.Columns.{IsElaborated}
use Rattle.cr_typed_columns.specs.Functions.{parameters_of}
use Rattle.cr_typed_columns.specs.Names.{ref_of}
use Rattle.cr_typed_fit.specs.Fits.{IsFitting}
use Rattle.cr_check.specs.declared.checked.Checked.{Checked}
use Rattle.cr_check.specs.Checked.{IsSound}
use Rattle.cr_check.specs.Columns.{IsChecked}
use Rattle.cr_typed_unit.specs.Typed.{AreColumnsOf}
use Rattle.cr_typed_unit.proofs.Numbers.{main_low, parameters_low, refs_low}

length-listed : {A : Type 0} (f : ℕ → A) (count : ℕ) → length (listed f count) ≡ count
length-listed f zero = refl
length-listed f (suc count) =
    let rest = length-listed f count in let both = length-append (listed f count) (f count ∷ []) in omega (arith, rest, both)

listed_at : {A : Type 0} (f : ℕ → A) (count i : ℕ) (d : A) → i < count → slice_index_or (listed f count) i d ≡ f i
listed_at f zero i d low = absurd (omega (arith, low))
listed_at f (suc count) i d low = elim (cases_lt i count) [
  | inl less ↦ get_or-append (listed f count) (f count ∷ []) d i (let e = length-listed f count in omega (arith, less, e)) ∙ listed_at f count i d less
  | inr more ↦
      let last : length (listed f count) ≡ i = (let e = length-listed f count in omega (arith, low, more, e)) in
      subst (λ n. slice_index_or (listed f count ++ f count ∷ []) n d ≡ f i) last
      (get_or-append_seam (listed f count) (f count) [] d ∙ ap f (let e = length-listed f count in omega (arith, e, last)))
]

-- an entry of a listed column
entry_is : {A : Type 0} (f : ℕ → A) (count k : ℕ) (x : A) → slice_get (listed f count) k ≡ Some x → f k ≡ x
entry_is f count k x at =
    let low = slice_get_within (listed f count) k x at in
    let long = length-listed f count in
    sym (listed_at f count k x (omega (arith, low, long))) ∙ get_or_from_slice_get (listed f count) k x x at

-- a column that is listed has as many entries
as_listed : {A : Type 0} (f : ℕ → A) (column : List A) (count nodes : ℕ) → nodes ≡ count → column ≡ listed f count → length column ≡ nodes
as_listed f column count nodes same is = ap length is ∙ length-listed f count ∙ sym same

-- and so has a column of rows of listed types
as_rows : (shapes : List Shape) (f : ℕ → Qualified) (rows : List ℕ) (count nodes : ℕ) → nodes ≡ count → AreRowsOf shapes (listed f count) rows → length rows ≡ nodes
as_rows shapes f rows count nodes same are = sym (length-map rows (type_at shapes)) ∙ ap length are.are ∙ length-listed f count ∙ sym same

-- rows that are there
rows_below : (shapes : List Shape) (rows : List ℕ) → AreRows shapes rows → AreBelow (length shapes) rows
rows_below shapes rows within k n at = subst (λ m. m < length shapes) (get_or_from_slice_get rows k n 0 at) (within k (slice_get_within rows k n at))

-- rows stay as they are when types come behind them
grows_with : {old new : List Shape} {type : Qualified} → IsWith old type new → Grows old new
grows_with (has row low is same) = record { longer = let e = ap length same in omega (arith, e); keeps = λ at lt. ap (λ s. type_at s at) same }
grows_with (gains g) = g.grows

grows_with_all : (types : List Qualified) (old new : List Shape) → IsWithAll old types new → Grows old new
grows_with_all [] old new same = record { longer = let e = ap length same in omega (arith, e); keeps = λ at lt. ap (λ s. type_at s at) same }
grows_with_all (type ∷ types) old new h =
    let one = grows_with h.1 in
    let rest = grows_with_all types h.0 new h.2 in
    record {
      longer = let a = one.longer in let b = rest.longer in omega (arith, a, b);
      keeps = λ at lt. let a = one.longer in rest.keeps at (omega (arith, lt, a)) ∙ one.keeps at lt;
    }

pub is_typed : (file : List ℕ) (unit : source.Unit) (names : Names) (checked : Checked) (tree : Tree) (j : CheckedColumns) (t : Typed)
    → IsChecked file unit names checked tree → IsSound file unit names checked tree → AreColumnsOf names checked tree j
    → IsElaborated file (parsed_of unit) checked.texts j t → AreSpans file unit.tokens.list.items → length unit.nodes < 2 ^ 32 → IsFitting t → IsTyped t
is_typed file unit names checked tree j t of_unit sound columns is spans few fits = record {
  nodes_fit = omega (arith, few, same);
  parts_below = subst PartsAreBelow (sym is.nodes_are) unit.parts_below;
  spans = subst (λ bytes. AreSpans bytes t.tokens) (sym is.file_is) (subst (AreSpans file) (sym is.tokens_are) spans);
  table = is.shapes.canonical.table;
  no_type = (grows_with_all _ is.shapes.first t.shapes is.shapes.with_all).keeps 0 is.shapes.no_type.within ∙ is.shapes.no_type.is;
  cells_fit = fits.cells_fit;
  types_count = as_rows t.shapes _ t.types count nodes same is.types;
  types_rows = rows_below t.shapes t.types is.types.within;
  named_count = as_rows t.shapes _ t.named count nodes same is.named;
  named_rows = rows_below t.shapes t.named is.named.within;
  refs_count = as_listed _ t.refs count nodes same is.refs;
  refs_nodes = λ k n at.
      let ref = entry_is (ref_of (parsed_of unit) j) count k (Some n) (subst (λ refs. slice_get refs k ≡ Some (Some n)) is.refs at) in
      within n (refs_low file unit names checked tree of_unit sound j columns k n ref);
  valued_count = as_listed _ t.valued count nodes same is.valued;
  durations_count = as_listed _ t.durations count nodes same is.durations;
  constants_count = as_listed _ t.constants count nodes same is.constants;
  layouts_count = as_listed _ t.layouts count nodes same is.layouts_are;
  members_count = is.members.count ∙ sym same;
  members_rows = λ k rows at.
      let own = subst (AreRows t.shapes) (get_or_from_slice_get t.members k rows [] at)
      (is.members.each k (let low = slice_get_within t.members k rows at in let all = is.members.count in omega (arith, low, all))).within in
      rows_below t.shapes rows own;
  members_fit = fits.members_fit;
  members_before = fits.members_before;
  chosen_count = as_listed _ t.chosen count nodes same is.chosen;
  parameters_count = as_listed _ t.parameters count nodes same is.parameters;
  parameters_nodes = λ k own at q n in_own.
      let list = entry_is (parameters_of (parsed_of unit) j) count k own (subst (λ parameters. slice_get parameters k ≡ Some own) is.parameters at) in
      within n (parameters_low (parsed_of unit) j k q n (subst (λ row. slice_get row q ≡ Some n) (sym list) in_own));
  plans_count = is.plans.count ∙ sym same;
  texts_count = ap length is.texts_are ∙ of_unit.texts.count ∙ sym same;
  main_node = subst (λ m. m < nodes) (sym is.main) (within _ (main_low file unit names checked tree of_unit sound j columns));
}
  where
    count : ℕ
    count = length unit.nodes

    nodes : ℕ
    nodes = length t.nodes

    same : length t.nodes ≡ length unit.nodes
    same = ap length is.nodes_are

    within : (n : ℕ) → n < length unit.nodes → n < length t.nodes
    within n low = omega (arith, low, same)
