-- The label of a `goto` is one of a block around it (C11 6.8.6.1p1, K42).
use Rattle.std.proofs.Common.{◌≡◌, ℕ, zero, suc, ◌+◌, ◌-◌, ◌<◌, ◌≤◌, ◌==◌, inl, inr, Bool, true, false, ◌||◌, not, List, [], ◌∷◌, ◌++◌, Option, None, Some, length, map, slice_get, slice_index_or, refl, sym, subst, ap, ◌∙◌, arith, if◌then◌else◌}
use Rattle.std.specs.Option.{is_some}
use Rattle.std.proofs.lemmas.Bool.{and_parts, false≢true, eqb-true}
use Rattle.std.proofs.lemmas.Option.{slice_get_within}
use Rattle.cr_ints.specs.declared.kind.IntKind.TheVariants.{Int as IntegerKind}
use Rattle.cr_syntax.specs.declared.node.Kind.{Kind}
use Rattle.cr_syntax.specs.declared.node.Kind.TheVariants as kind
use Rattle.cr_syntax.specs.declared.node.Node.{Node}
use Rattle.cr_syntax.specs.Tables.{rule_of, side_of}
use Rattle.cr_syntax.specs.Units.{Place, own_item, block_item, place_in, place_behind}
use Rattle.cr_syntax_nodes.specs.Nodes.{most}
use Rattle.cr_scopes_events.specs.Scripts as scripts
use Rattle.cr_check_enclosing.specs.declared.context.Around.{Around}
use Rattle.cr_check_enclosing.specs.Around.{inside, outermost}
use Rattle.cr_check_labels.specs.Labelled.{Scene}
use Rattle.cr_check_labels.specs.Marks.{label_by, label_if}
use Rattle.cr_check_labels.specs.Gotos.{item_label, is_key, last_labelled, else_by, found_from, goto_if, goto_by}
use Rattle.cr_check_expressions.specs.Breaks.{IsAmong as IsBreakAmong}
use Rattle.cr_check_statements.specs.Statements.{faults_in}
use Rattle.cr_check_unit.specs.Statements.{labelled_in}
use Rattle.cr_typed.specs.declared.typed.Typed.{Typed}
use Rattle.cr_typed_columns.specs.Reading.{parsed_of}
use Rattle.cr_typed_columns.specs.Names.{is_goto, ref_of}
use Rattle.cr_meaning.specs.declared.op.Form.TheVariants as form
use Rattle.cr_meaning.specs.declared.op.Target.{Target}
use Rattle.cr_meaning_soundness.specs.Sorts.{IsAmong}
use Rattle.cr_meaning_soundness.specs.Statements.{of_function}
use Rattle.cr_meaning_operations.specs.Operations.{kind_if, kind_at, parts_if, parts_at, part_at, entity_if, entity_of, is_case, is_default, is_mark, labelled, marks_by, target_of, targets_from, is_static_initialiser}
use Rattle.cr_meaning_typing.specs.Typed.Placed.{exits_in}
use Rattle.cr_meaning_typing.proofs.TypedLemmas.Worth.{unbroken}
use Rattle.cr_meaning_typing.proofs.TypedLemmas.Units.{listed_at}
use Rattle.cr_meaning_typing.specs.Judged.Judged.{seen_in, source_of, scene_of, IsJudged}
use Rattle.cr_meaning_typing.proofs.JudgedLemmas.Judged.{judged}
use Rattle.cr_meaning_declarations.specs.Declared.Files.{IsUnitOfFile}
use Rattle.cr_meaning_declarations.proofs.DeclaredLemmas.Files.{has_unit}
use Rattle.cr_meaning_typing.specs.Sorts.Table.{Judgement, labels_by, result_of, labels_of, exits_at}
use Rattle.cr_meaning_typing.specs.Whole.Statements.{is_labelled}
use Rattle.cr_meaning_files.specs.Reached.{is_item}
use Rattle.cr_meaning_files.specs.Files.{judgement_of}
use Rattle.cr_meaning_references.proofs.TreesLemmas.Grammar.{part_in, is_of}
use Rattle.cr_meaning_files.proofs.Tables.{item_is}
use Rattle.cr_meaning_references.proofs.TreesLemmas.Tree.{HasPart, has_part, at_most}
use Rattle.cr_meaning_references.proofs.TreesLemmas.Expressions.{is_expression_part, expression_there}
use Rattle.cr_meaning_files.proofs.Laid.{around_at}
use Rattle.cr_meaning_files.proofs.Places.{StandsAt, an_item, a_part, standing, is_item_place, labels_are_items}

-- ---- lists of labels

among_front : (n : ℕ) (xs ys : List ℕ) → IsAmong n xs → IsAmong n (xs ++ ys)
among_front n [] ys h = absurd h
among_front n (x ∷ xs) ys (inl e) = inl e
among_front n (x ∷ xs) ys (inr h) = inr (among_front n xs ys h)

among_back : (n : ℕ) (xs ys : List ℕ) → IsAmong n ys → IsAmong n (xs ++ ys)
among_back n [] ys h = h
among_back n (x ∷ xs) ys h = inr (among_back n xs ys h)

abbrev labels_in : List Target → List ℕ
labels_in targets = map (λ target. target.label) targets

own_targets : (n number : ℕ) (marks : List ℕ) (rest : List Target) → IsAmong n marks → IsAmong n (labels_in (map (target_of number) marks ++ rest))
own_targets n number [] rest h = absurd h
own_targets n number (m ∷ marks) rest (inl e) = inl e
own_targets n number (m ∷ marks) rest (inr h) = inr (own_targets n number marks rest h)

later_targets : (n number : ℕ) (marks : List ℕ) (rest : List Target) → IsAmong n (labels_in rest) → IsAmong n (labels_in (map (target_of number) marks ++ rest))
later_targets n number [] rest h = h
later_targets n number (m ∷ marks) rest h = inr (later_targets n number marks rest h)

among_targets : (t : Typed) (number : ℕ) (items : List ℕ) (k item l : ℕ) → slice_get items k ≡ Some item → IsAmong l (marks_by (length t.nodes) t item) → IsAmong l (labels_in (targets_from t number items))
among_targets t number [] k item l e h = absurd (cc e)
among_targets t number (x ∷ items) zero item l e h =
    let same : x ≡ item = cc e in
    own_targets l number (marks_by (length t.nodes) t x) (targets_from t (suc number) items) (subst (λ y. IsAmong l (marks_by (length t.nodes) t y)) (sym same) h)
among_targets t number (x ∷ items) (suc k) item l e h = later_targets l number (marks_by (length t.nodes) t x) (targets_from t (suc number) items) (among_targets t (suc number) items k item l e h)

-- ---- tables

label_counts : (most (side_of kind.Label) ≡ Some 1) × ((most (side_of kind.Default) ≡ Some 1) × (most (side_of kind.Case) ≡ Some 2))
unfolding rule_of
label_counts = (refl, (refl, refl))

case_begins : is_of is_expression_part (part_in (side_of kind.Case) 0) ≡ true
unfolding rule_of
case_begins = refl

-- a block, and a label, hand on what is around them
block_around : (i : ℕ) (a : Around) → (inside kind.Compound i a).block ≡ Some i
unfolding inside
block_around i a = refl

label_around : (k : Kind) (i : ℕ) (a : Around) → is_labelled k ≡ true → (inside k i a).block ≡ a.block
unfolding inside
label_around kind.Label i a h = refl
label_around kind.Case i a h = refl
label_around kind.Default i a h = refl
label_around k i a h = absurd (false≢true h)

labelled_item : (k : Kind) → is_labelled k ≡ true → is_item k ≡ true
labelled_item kind.Label h = refl
labelled_item kind.Case h = refl
labelled_item kind.Default h = refl
labelled_item k h = absurd (false≢true h)

-- what stands among the items of a block is an item itself, or labelled among them
item_behind : (at : Place) → is_item_place (place_behind at) ≡ true → is_item_place at ≡ true
item_behind at h = by at h
  where
    by : (at : Place) → is_item_place (place_behind at) ≡ true → is_item_place at ≡ true
    by own_item h = refl
    by block_item h = refl
    by at h = absurd (false≢true h)

abbrev is_compound : Kind → Bool
is_compound kind.Compound = true
is_compound k = false

among_items : (k : Kind) (at : Place) → is_item_place (place_in k at) ≡ true → is_compound k ≡ false → (is_labelled k ≡ true) × (is_item_place at ≡ true)
among_items kind.Label at h e = (refl, item_behind at h)
among_items kind.Case at h e = (refl, item_behind at h)
among_items kind.Default at h e = (refl, item_behind at h)
among_items kind.Compound at h e = absurd (false≢true (sym e))
among_items kind.Switch at h e = absurd (false≢true h)
among_items k at h e = absurd (false≢true h)

only_compound : (k : Kind) → is_compound k ≡ true → k ≡ kind.Compound
only_compound kind.Compound h = refl
only_compound k h = absurd (false≢true h)

-- ---- what is found

key_is : (o : Option (ℕ × ℕ)) (b name : ℕ) → is_key o (b, name) ≡ true → (x : ℕ × ℕ) × ((o ≡ Some x) × (x.0 ≡ b))
key_is None b name h = absurd (false≢true h)
key_is (Some x) b name h = (x, (refl, eqb-true x.0 b (and_parts (x.0 == b) (x.1 == name) h).0))

-- a label has the block around it as its owner
labelled_by_owner : (o : Option Node) (s : Scene) (owner : Option ℕ) (x : ℕ × ℕ) → label_if o s owner ≡ Some x → (n : Node) × ((o ≡ Some n) × ((n.kind ≡ kind.Label) × (owner ≡ Some x.0)))
labelled_by_owner None s owner x e = absurd (cc e)
labelled_by_owner (Some n) s owner x e = (n, (refl, by n.kind e))
  where
    of_owner : (owner : Option ℕ) → label_by kind.Label s owner n ≡ Some x → owner ≡ Some x.0
    of_owner None e = absurd (cc e)
    of_owner (Some own) e = let same : (own, s.name n.first) ≡ x = cc e in ap (λ y. Some y.0) same

    by : (k : Kind) → label_by k s owner n ≡ Some x → (k ≡ kind.Label) × (owner ≡ Some x.0)
    by kind.Label e = (refl, of_owner owner e)
    by k e = absurd (cc e)

last_is : (s : Scene) (m : ℕ) (q : ℕ × ℕ) (l : ℕ) → last_labelled s m q ≡ Some l → is_key (item_label s l) q ≡ true
last_is s zero q l e = absurd (cc e)
last_is s (suc m) q l e = by (is_key (item_label s m) q) refl e (λ f. last_is s m q l f)
  where
    by : (b : Bool) → is_key (item_label s m) q ≡ b → (if b then Some m else last_labelled s m q) ≡ Some l → (last_labelled s m q ≡ Some l → is_key (item_label s l) q ≡ true) → is_key (item_label s l) q ≡ true
    by true h f rest = let same : m ≡ l = cc f in ap (λ i. is_key (item_label s i) q) (sym same) ∙ h
    by false h f rest = rest f

taken : (b : Bool) (x y : Option ℕ) → b ≡ true → (if b then x else y) ≡ x
taken b x y e = ap (λ c. if c then x else y) e

some_is : (o : Option ℕ) → not (is_some o) ≡ false → (l : ℕ) × (o ≡ Some l)
some_is None h = absurd (false≢true (sym h))
some_is (Some l) h = (l, refl)

module _ (file : List ℕ) (t : Typed) (it : IsUnitOfFile file t) where
  open it use {checked.{checked}, made_by}
  open has_unit file t it use {unit as u}

  abbrev is : IsJudged t (seen_in checked) (source_of made_by.tree checked) (scene_of made_by.tree checked) checked.surroundings.above checked.surroundings.around
  is = judged file it.unit it.names checked t made_by

  abbrev j : Judgement
  j = judgement_of file t it

  -- ---- the items of a block, and what is labelled among them

  data IsBehind (b : ℕ) : ℕ → Type 0 where
    at_item : {x : ℕ} (k : ℕ) → slice_get (parts_at t b) k ≡ Some x → IsBehind b x
    at_label : {x q : ℕ} → IsBehind b q → is_labelled (kind_at t q) ≡ true → labelled t q ≡ x → x < q → IsBehind b x

  record IsInBlock (x : ℕ) : Type 0 where
    block : ℕ
    behind : IsBehind block x
    around : (j.around x).block ≡ Some block

  -- the statement of a label
  labelled_is : (q k x : ℕ) → HasPart t u q k x → slice_get (parts_at t q) k ≡ Some x → is_item (kind_at t x) ≡ true → (c : Kind) → kind_at t q ≡ c → is_labelled c ≡ true → labelled t q ≡ x
  labelled_is q k x h e item c is_c l = by c is_c l k e h
    where
      first : (c : Kind) → kind_at t q ≡ c → is_case c ≡ false → labelled t q ≡ part_at t q 0
      first c f apart = ap (λ b. if b then part_at t q 1 else part_at t q 0) (ap is_case f ∙ apart)

      taken : (k : ℕ) → slice_get (parts_at t q) k ≡ Some x → part_at t q k ≡ x
      taken k e = from (parts_at t q) k e
        where
          from : (ps : List ℕ) (k : ℕ) → slice_get ps k ≡ Some x → slice_index_or ps k 0 ≡ x
          from [] k e = absurd (cc e)
          from (p ∷ ps) zero e = cc e
          from (p ∷ ps) (suc k) e = from ps k e

      alone : (c : Kind) → kind_at t q ≡ c → is_case c ≡ false → length (parts_at t q) ≤ 1 → (k : ℕ) → slice_get (parts_at t q) k ≡ Some x → labelled t q ≡ x
      alone c f apart few zero e = first c f apart ∙ taken 0 e
      alone c f apart few (suc k) e = let w = slice_get_within (parts_at t q) (suc k) x e in absurd (omega (arith, few, w))

      by : (c : Kind) → kind_at t q ≡ c → is_labelled c ≡ true → (k : ℕ) → slice_get (parts_at t q) k ≡ Some x → HasPart t u q k x → labelled t q ≡ x
      by kind.Label f l k e h = alone kind.Label f refl (at_most t u q kind.Label 1 f refl label_counts.0) k e
      by kind.Default f l k e h = alone kind.Default f refl (at_most t u q kind.Default 1 f refl label_counts.1.0) k e
      by kind.Case f l zero e h =
          let expression = expression_there (part_in (side_of (kind_at t q)) 0) (kind_at t x) (ap (λ c. is_of is_expression_part (part_in (side_of c) 0)) f ∙ case_begins) h.stands in
          absurd (false≢true (sym (item_is (kind_at t x) item).1.0 ∙ expression))
      by kind.Case f l (suc zero) e h = ap (λ b. if b then part_at t q 1 else part_at t q 0) (ap is_case f) ∙ taken 1 e
      by kind.Case f l (suc (suc k)) e h =
          let few = at_most t u q kind.Case 2 f refl label_counts.1.1 in
          let w = slice_get_within (parts_at t q) (suc (suc k)) x e in
          absurd (omega (arith, few, w))
      by c f l k e h = absurd (false≢true l)

  in_block : {x : ℕ} {at : Place} → StandsAt t.nodes t.items x at → is_item_place at ≡ true → is_item (kind_at t x) ≡ true → IsInBlock x
  in_block (an_item k e) h item = absurd (false≢true h)
  in_block {x = x} (a_part {q = q} {at = at} n k s here e) h item = by (is_compound n.kind) refl (λ f labels. in_block s f labels)
    where
      place : slice_get (parts_at t q) k ≡ Some x
      place = ap (λ o. slice_get (parts_if o) k) here ∙ e

      part : HasPart t u q k x
      part = has_part t u q k x place

      around_is : (j.around x).block ≡ (inside (kind_at t q) q (j.around q)).block
      around_is = ap (λ (a : Around). a.block) (around_at file t it q k x part)

      own : kind_at t q ≡ n.kind
      own = ap kind_if here

      by : (b : Bool) → is_compound n.kind ≡ b → (is_item_place at ≡ true → is_item (kind_at t q) ≡ true → IsInBlock q) → IsInBlock x
      by true f outer = record {
        block = q;
        behind = at_item k place;
        around = around_is ∙ ap (λ c. (inside c q (j.around q)).block) (own ∙ only_compound n.kind f) ∙ block_around q (j.around q);
      }
      by false f outer =
          let both = among_items n.kind at h f in
          let label : is_labelled (kind_at t q) ≡ true = ap is_labelled own ∙ both.0 in
          let r = outer both.1 (labelled_item (kind_at t q) label) in
          record {
            block = r.block;
            behind = at_label r.behind label (labelled_is q k x part place item (kind_at t q) refl label) part.below;
            around = around_is ∙ label_around (kind_at t q) q (j.around q) label ∙ r.around;
          }

  -- ---- the labels of a block

  abbrev Marks : ℕ → ℕ → Type 0
  Marks l q = (m : ℕ) → q < m → IsAmong l (marks_by m t q)

  own_mark : (l : ℕ) → kind_at t l ≡ kind.Label → Marks l l
  own_mark l is_l zero low = absurd (omega (arith, low))
  own_mark l is_l (suc m) low =
      subst (λ b. IsAmong l (if b then l ∷ marks_by m t (labelled t l) else (if is_case (kind_at t l) || is_default (kind_at t l) then marks_by m t (labelled t l) else []))) (sym (ap is_mark is_l)) (inl refl)

  -- a label has the marks of its statement
  handed : (l q : ℕ) → is_labelled (kind_at t q) ≡ true → labelled t q < q → Marks l (labelled t q) → Marks l q
  handed l q label less h zero low = absurd (omega (arith, low))
  handed l q label less h (suc m) low = by (kind_at t q) label (h m (omega (arith, low, less)))
    where
      by : (c : Kind) → is_labelled c ≡ true → IsAmong l (marks_by m t (labelled t q))
          → IsAmong l (if is_mark c then q ∷ marks_by m t (labelled t q) else (if is_case c || is_default c then marks_by m t (labelled t q) else []))
      by kind.Label g x = inr x
      by kind.Case g x = x
      by kind.Default g x = x
      by c g x = absurd (false≢true g)

  to_item : (b l : ℕ) {q : ℕ} → IsBehind b q → Marks l q → IsAmong l (labels_in (targets_from t 0 (parts_at t b)))
  to_item b l {q = q} (at_item k e) h =
      let part = has_part t u b k q e in
      among_targets t 0 (parts_at t b) k q l e (h (length t.nodes) (slice_get_within t.nodes q part.own part.own_at))
  to_item b l (at_label {q = q} s label same less) h =
      to_item b l s (handed l q label (let e = same in omega (arith, e, less)) (subst (Marks l) (sym same) h))

  labels_there : (l b : ℕ) → kind_at t l ≡ kind.Label → l < length t.nodes → (n : Node) → slice_get t.nodes l ≡ Some n → (j.around l).block ≡ Some b → IsAmong l (labels_in (targets_from t 0 (parts_at t b)))
  labels_there l b is_l low n at around =
      let s = standing t u l low in
      let place = labels_are_items file t it l n s.0 at (sym (ap kind_if at) ∙ is_l) s.1 in
      let r = in_block s.1 place (ap is_item is_l) in
      let same : r.block ≡ b = (let both = sym r.around ∙ around in cc both) in
      subst (λ x. IsAmong l (labels_in (targets_from t 0 (parts_at t x)))) same (to_item r.block l r.behind (own_mark l is_l))

  -- ---- what the check finds

  abbrev s : Scene
  s = labelled_in checked.table made_by.tree checked.whole.typing

  nodes_are : s.nodes ≡ t.nodes
  nodes_are = made_by.is.whole.tree.nodes ∙ sym made_by.elaborated.nodes_are

  around_are : (i : ℕ) → s.around i ≡ j.around i
  around_are i = ap (λ xs. slice_index_or xs i outermost) made_by.is.whole.tree.around

  found_among : (m n : ℕ) (block : Option ℕ) (name l : ℕ) → m ≤ n → found_from s m block name ≡ Some l → IsAmong l (labels_by n t j block)
  found_among zero n block name l less e = absurd (cc e)
  found_among (suc m) zero block name l less e = absurd (omega (arith, less))
  found_among (suc m) (suc n) None name l less e = absurd (cc e)
  found_among (suc m) (suc n) (Some b) name l less e =
      by (last_labelled s (length s.nodes) (b, name)) refl e (λ f. found_among m n (s.around b).block name l (omega (arith, less)) f)
    where
      outer : List ℕ
      outer = labels_by n t j (j.around b).block

      by : (o : Option ℕ) → last_labelled s (length s.nodes) (b, name) ≡ o → else_by o (found_from s m (s.around b).block name) ≡ Some l
          → (found_from s m (s.around b).block name ≡ Some l → IsAmong l (labels_by n t j (s.around b).block)) → IsAmong l (labels_in (targets_from t 0 (parts_at t b)) ++ labels_by n t j (j.around b).block)
      by None q f rest =
          among_back l (labels_in (targets_from t 0 (parts_at t b))) (labels_by n t j (j.around b).block)
          (subst (λ (a : Around). IsAmong l (labels_by n t j a.block)) (around_are b) (rest f))
      by (Some x) q f rest =
          let same : x ≡ l = cc f in
          let key = key_is (item_label s l) b name (last_is s (length s.nodes) (b, name) l (q ∙ ap Some same)) in
          let own = labelled_by_owner (slice_get s.nodes l) s (s.around l).block key.0 key.1.0 in
          let at : slice_get t.nodes l ≡ Some own.0 = ap (λ ns. slice_get ns l) (sym nodes_are) ∙ own.1.0 in
          among_front l (labels_in (targets_from t 0 (parts_at t b))) (labels_by n t j (j.around b).block)
          (labels_there l b (ap kind_if at ∙ own.1.1.0) (slice_get_within t.nodes l own.0 at) own.0 at
          (ap (λ (a : Around). a.block) (sym (around_are l)) ∙ own.1.1.1 ∙ ap Some key.1.1))

  goto_found : (i : ℕ) (n : Node) → slice_get t.nodes i ≡ Some n → n.kind ≡ kind.Goto → (l : ℕ) → slice_index_or checked.whole.marked.labels i None ≡ Some l → IsAmong l (labels_of t j (j.around i).block)
  goto_found i n at is_goto l e =
      let within : i < length s.nodes = (let low = slice_get_within t.nodes i n at in let same = ap length nodes_are in omega (arith, low, same)) in
      let found : found_from s (length s.nodes) (s.around i).block (s.name (n.first + 1)) ≡ Some l
      = sym (made_by.is.whole.marked.labels.each i within ∙ ap (λ o. goto_if o s i) (ap (λ ns. slice_get ns i) nodes_are ∙ at) ∙ ap (λ k. goto_by k s i n) is_goto) ∙ e in
      subst (λ (a : Around). IsAmong l (labels_by (suc (length t.nodes)) t j a.block)) (around_are i)
      (found_among (length s.nodes) (suc (length t.nodes)) (s.around i).block (s.name (n.first + 1)) l (let same = ap length nodes_are in omega (arith, same)) found)

  -- the label that a `goto` names
  names_label : (i l : ℕ) → i < length t.nodes → kind_at t i ≡ kind.Goto → slice_index_or checked.whole.marked.labels i None ≡ Some l → entity_of t i ≡ l
  names_label i l low is_i e =
      let count : length t.nodes ≡ length it.unit.nodes = ap length made_by.elaborated.nodes_are in
      let own : is_goto (scripts.kind_at it.unit.nodes i) ≡ true = goto_kind (ap (λ ns. kind_if (slice_get ns i)) (sym made_by.elaborated.nodes_are) ∙ is_i) in
      let ref : slice_index_or t.refs i None ≡ Some l
      = ap (λ rs. slice_index_or rs i None) made_by.elaborated.refs
      ∙ listed_at (ref_of (parsed_of it.unit) made_by.columns) (length it.unit.nodes) i None (omega (arith, low, count))
      ∙ taken (is_goto (scripts.kind_at it.unit.nodes i)) (slice_index_or made_by.columns.labels.now i None) _ own
      ∙ ap (λ ls. slice_index_or ls i None) made_by.are.labels
      ∙ e in
      ap (λ o. entity_if o i) ref
    where
      goto_kind : kind_if (slice_get it.unit.nodes i) ≡ kind.Goto → is_goto (scripts.kind_at it.unit.nodes i) ≡ true
      goto_kind f = by (slice_get it.unit.nodes i) refl
        where
          goto_alone : (k : Kind) → k ≡ kind.Goto → is_goto (Some k) ≡ true
          goto_alone k g = ap (λ c. is_goto (Some c)) g

          by : (o : Option Node) → slice_get it.unit.nodes i ≡ o → is_goto (scripts.kind_at it.unit.nodes i) ≡ true
          by None at = absurd (different (sym (ap kind_if at) ∙ f))
            where
              different : kind.Break ≡ kind.Goto → ⊥
              different g = false≢true (ap (λ k. is_goto (Some k)) g)
          by (Some n) at = ap (λ o. is_goto (scripts.kind_if o)) at ∙ goto_alone n.kind (sym (ap kind_if at) ∙ f)

  pub gotos : (i : ℕ) (n : Node) → slice_get t.nodes i ≡ Some n → kind_at t i ≡ kind.Goto → IsAmong (entity_of t i) (exits_at t j i).labels
  gotos i n at is_i =
      let own : n.kind ≡ kind.Goto = sym (ap kind_if at) ∙ is_i in
      let held = unbroken 42 (n.last - 1) (not (is_some (slice_index_or checked.whole.marked.labels i None))) [] (λ b among. is.allowed i n b at (subst (λ k. IsBreakAmong (faults_in k (scene_of made_by.tree checked) i n) b) (sym own) among)) in
      let found = some_is (slice_index_or checked.whole.marked.labels i None) held in
      let label = goto_found i n at own found.0 found.1 in
      subst (λ k. IsAmong (entity_of t i) (if is_static_initialiser t i k then of_function (form.Number IntegerKind) else exits_in (labels_of t j) (result_of t j) (j.around i)).labels) (sym is_i)
      (subst (λ l. IsAmong l (labels_of t j (j.around i).block)) (sym (names_label i found.0 (slice_get_within t.nodes i n at) is_i found.1)) label)
