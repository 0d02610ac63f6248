-- What the grammar gives of statements, and that what is executed with a node is reached with it.
use Rattle.std.proofs.Common.{◌≡◌, ℕ, zero, suc, ◌+◌, ◌<◌, ◌⊎◌, inl, inr, Bool, true, false, ◌&&◌, ◌||◌, not, List, [], ◌∷◌, Some, drop, length, slice_get, slice_index_or, refl, sym, subst, ap, ◌∙◌, arith, if◌then◌else◌}
use Rattle.std.specs.List.{filter}
use Rattle.std.proofs.lemmas.Bool.{and_parts, false≢true, or_right, cases_lt}
use Rattle.std.proofs.lemmas.Option.{slice_get_within}
use Rattle.cr_syntax.specs.declared.node.Kind.{Kind}
use Rattle.cr_syntax.specs.declared.node.Kind.TheVariants as kind
use Rattle.cr_syntax.specs.declared.node.Node.{Node}
use Rattle.cr_syntax.specs.Tables.{side_of}
use Rattle.cr_syntax_nodes.specs.Loops.{clauses_of}
use Rattle.cr_check_expressions.specs.Forms.{form_of}
use Rattle.cr_typed.specs.declared.typed.Typed.{Typed}
use Rattle.cr_typed.specs.declared.typed.Put.{Put}
use Rattle.cr_meaning_operations.specs.Operations.{kind_if, kind_at, parts_at, part_at, is_case, is_declaration, is_automatic, declarators_of, labelled, first_at, part_from, clause_end, clause_objects, unless_body, last_part}
use Rattle.cr_meaning_typing.specs.Typed.Typing.{is_expression}
use Rattle.cr_meaning_declarations.specs.Declared.Files.{IsUnitOfFile}
use Rattle.cr_meaning_declarations.proofs.DeclaredLemmas.Files.{has_unit}
use Rattle.cr_meaning_typing.specs.Sorts.Founded.{IsOperand}
use Rattle.cr_meaning_typing.specs.Whole.Statements.{is_statement, has_condition, has_inner, is_labelled, IsInner, IsFor, IsSwitch, AreStatementsLaid}
use Rattle.cr_meaning_types.proofs.KnownLemmas.Listing.{behind_first}
use Rattle.cr_meaning_files.specs.Reached.{is_item, is_list, is_listing, is_going, is_address, goes_on, lives, is_reached}
use Rattle.cr_meaning_files.specs.Files.{judgement_of}
use Rattle.cr_meaning_references.proofs.TreesLemmas.Grammar.{part_in, Stands, is_of}
use Rattle.cr_meaning_files.proofs.Tables.{is_item_part, is_declaring_part, item_there, declaring_there, condition, inner, inner_kind, item_is, item_apart, declaring_is, going_lists_nothing, listing_apart, branch_counts, while_counts, do_counts, return_counts, statement_counts, switch_counts, label_counts, switch_body, block_items, declared_parts}
use Rattle.cr_meaning_references.proofs.TreesLemmas.Tree.{HasPart, has_part, as_part, counted_by, exactly, at_most, needed}
use Rattle.cr_meaning_references.proofs.TreesLemmas.Expressions.{expression_there}
use Rattle.cr_meaning_files.proofs.Living.{goes, item_goes, case_goes, declaration_goes, reached_lives, reached_kind, reach, unpassed, unfollowed}
use Rattle.cr_meaning_files.proofs.Reaching.{expression_runs, item_runs, expression_reached}
use Rattle.cr_meaning_files.proofs.Loops.{from_at, step_there, IsWhole, whole}
use Rattle.cr_meaning_files.proofs.Filling.{put_there}
use Rattle.cr_meaning_files.proofs.Laid.{around_at, operand, operand_at}

pub other_one : (a b : Bool) → (a || b) ≡ true → a ≡ false → b ≡ true
other_one true b h e = absurd (false≢true (sym e))
other_one false b h e = h

pub this_one : (a b : Bool) → (a || b) ≡ true → b ≡ false → a ≡ true
this_one true b h e = refl
this_one false b h e = absurd (false≢true (sym e ∙ h))

-- what passes a test passes it, and is one of the list
pub record IsFiltered (test : ℕ → Bool) (items : List ℕ) (item : ℕ) : Type 0 where
  pub passes : test item ≡ true
  pub place : ℕ
  pub at : slice_get items place ≡ Some item

pub filtered : (test : ℕ → Bool) (items : List ℕ) (k item : ℕ) → slice_get (filter test items) k ≡ Some item → IsFiltered test items item
filtered test [] k item e = absurd (cc e)
filtered test (x ∷ items) k item e = by (test x) refl k e (λ m f. later (filtered test items m item f))
  where
    later : IsFiltered test items item → IsFiltered test (x ∷ items) item
    later r = record { passes = r.passes; place = suc r.place; at = r.at }

    by : (b : Bool) → test x ≡ b → (k : ℕ) → slice_get (if b then x ∷ filter test items else filter test items) k ≡ Some item → ((m : ℕ) → slice_get (filter test items) m ≡ Some item → IsFiltered test (x ∷ items) item)
        → IsFiltered test (x ∷ items) item
    by true q zero f rest = let same : x ≡ item = cc f in record { passes = ap test (sym same) ∙ q; place = 0; at = ap Some same }
    by true q (suc m) f rest = rest m f
    by false q k f rest = rest k f

module _ (file : List ℕ) (t : Typed) (it : IsUnitOfFile file t) where
  open has_unit file t it use {unit as u}

  -- ---- a statement within another

  within : (i k a : ℕ) → HasPart t u i k a → is_item (kind_at t a) ≡ true → IsInner t (judgement_of file t it) i a
  within i k a h item = record { plain = (item_is (kind_at t a) item).1.0; apart = item_apart t a (kind_at t a) item; around = around_at file t it i k a h }

  -- it is reached with it
  item_reached : (i k a : ℕ) → HasPart t u i k a → lives t i ≡ true → (is_going (kind_at t i) || is_case (kind_at t i)) ≡ true → is_item (kind_at t i) ≡ true → is_item (kind_at t a) ≡ true
      → is_reached t a ≡ true
  item_reached i k a h live on own item =
      reach t u a (goes t u a i (as_part t u i k a h) (by (is_going (kind_at t i)) refl) live) (item_runs (kind_at t a) item) (unfollowed t u a (item_is (kind_at t a) item).1.1)
    where
      by : (b : Bool) → is_going (kind_at t i) ≡ b → goes_on t a (kind_at t i) (kind_at t a) ≡ true
      by true e = item_goes t u a (kind_at t i) (kind_at t a) e own item
      by false e = case_goes t u a (kind_at t i) (kind_at t a) (other_one (is_going (kind_at t i)) (is_case (kind_at t i)) on e) item

  -- an `if` has three parts at the most
  few_parts : (i k a : ℕ) → slice_get (parts_at t i) k ≡ Some a → kind_at t i ≡ kind.If → k < 3
  few_parts i k a e is = let few = at_most t u i kind.If 3 is refl branch_counts.1 in let w = slice_get_within (parts_at t i) k a e in omega (arith, few, w)

  inner_item : (i k a : ℕ) → has_inner (kind_at t i) k ≡ true → slice_get (parts_at t i) k ≡ Some a → is_item (kind_at t a) ≡ true
  inner_item i k a h e =
      item_there (part_in (side_of (kind_at t i)) k) (kind_at t a) (inner (kind_at t i) k (few_parts i k a e) h).0 (has_part t u i k a e).stands

  inners : (i k a : ℕ) → has_inner (kind_at t i) k ≡ true → slice_get (parts_at t i) k ≡ Some a → IsInner t (judgement_of file t it) i a
  inners i k a h e = within i k a (has_part t u i k a e) (inner_item i k a h e)

  inners_run : (i k a : ℕ) → is_reached t i ≡ true → has_inner (kind_at t i) k ≡ true → slice_get (parts_at t i) k ≡ Some a → is_reached t a ≡ true
  inners_run i k a r h e =
      item_reached i k a (has_part t u i k a e) (reached_lives t u i r) (inner (kind_at t i) k (few_parts i k a e) h).1 (inner_kind (kind_at t i) k h) (inner_item i k a h e)

  -- ---- conditions

  conditions : (i k a : ℕ) → has_condition (kind_at t i) k ≡ true → slice_get (parts_at t i) k ≡ Some a → IsOperand t (judgement_of file t it) i k a
  conditions i k a h e =
      let c = condition (kind_at t i) k h in
      let on = and_parts (is_going (kind_at t i)) (not (is_address (kind_at t i))) c.1 in
      operand file t it i k a (going_lists_nothing (kind_at t i) on.0) c.0 e

  conditions_run : (i k a : ℕ) → is_reached t i ≡ true → has_condition (kind_at t i) k ≡ true → slice_get (parts_at t i) k ≡ Some a → is_reached t a ≡ true
  conditions_run i k a r h e =
      let c = condition (kind_at t i) k h in
      let part = has_part t u i k a e in
      expression_reached t u i k a part (reached_lives t u i r) c.1 (expression_there (part_in (side_of (kind_at t i)) k) (kind_at t a) c.0 part.stands)

  -- ---- how many parts

  branches : (i : ℕ) → kind_at t i ≡ kind.If → (length (parts_at t i) ≡ 2) ⊎ (length (parts_at t i) ≡ 3)
  branches i is =
      let few = at_most t u i kind.If 3 is refl branch_counts.1 in
      let many = (counted_by t u i kind.If is refl).least in
      let two = branch_counts.0 in
      elim (cases_lt 2 (length (parts_at t i))) [
        | inl more ↦ inr (omega (arith, more, few))
        | inr less ↦ inl (omega (arith, less, many, two))
      ]

  -- ---- labels

  pub labels : (i : ℕ) → is_labelled (kind_at t i) ≡ true → (k : ℕ) × ((has_inner (kind_at t i) k ≡ true) × (slice_get (parts_at t i) k ≡ Some (labelled t i)))
  labels i h = by (kind_at t i) refl h
    where
      first : (c : Kind) → kind_at t i ≡ c → is_case c ≡ false → labelled t i ≡ part_at t i 0
      first c e apart = ap (λ b. if b then part_at t i 1 else part_at t i 0) (ap is_case e ∙ apart)

      by : (c : Kind) → kind_at t i ≡ c → is_labelled c ≡ true → (k : ℕ) × ((has_inner (kind_at t i) k ≡ true) × (slice_get (parts_at t i) k ≡ Some (labelled t i)))
      by kind.Label e g = (0, (ap (λ c. has_inner c 0) e, needed t u i 0 kind.Label e refl (let n = label_counts.0 in omega (arith, n)) ∙ ap Some (sym (first kind.Label e refl))))
      by kind.Default e g = (0, (ap (λ c. has_inner c 0) e, needed t u i 0 kind.Default e refl (let n = label_counts.1.0 in omega (arith, n)) ∙ ap Some (sym (first kind.Default e refl))))
      by kind.Case e g = (
        1,
        (
          ap (λ c. has_inner c 1) e,
          needed t u i 1 kind.Case e refl (let n = label_counts.1.1 in omega (arith, n))
              ∙ ap Some (sym (ap (λ b. if b then part_at t i 1 else part_at t i 0) (ap is_case e))),
        ),
      )
      by c e g = absurd (false≢true g)

  -- ---- `switch`

  switches : (i : ℕ) → is_reached t i ≡ true → kind_at t i ≡ kind.Switch → IsSwitch t (judgement_of file t it) i
  switches i r is =
      let two = switch_counts in
      let there = needed t u i 1 kind.Switch is refl (omega (arith, two)) in
      let body = has_part t u i 1 (part_at t i 1) there in
      let block = switch_body (kind_at t (part_at t i 1)) (subst (λ c. Stands (part_in (side_of c) 1) (kind_at t (part_at t i 1))) is body.stands) in
      let item : is_item (kind_at t (part_at t i 1)) ≡ true = ap is_item block in
      let on : (is_going (kind_at t i) || is_case (kind_at t i)) ≡ true = ap (λ c. is_going c || is_case c) is in
      let live = goes t u (part_at t i 1) i (as_part t u i 1 (part_at t i 1) body)
      (item_goes t u (part_at t i 1) (kind_at t i) (kind_at t (part_at t i 1)) (ap is_going is) (ap is_item is) item)
      (reached_lives t u i r) in
      record {
        selects = needed t u i 0 kind.Switch is refl (omega (arith, two));
        inner = within i 1 (part_at t i 1) body item;
        block = block;
        within = slice_get_within t.nodes (part_at t i 1) body.own body.own_at;
        items_run = λ k a e. (let part = has_part t u (part_at t i 1) k a e in
            item_reached (part_at t i 1) k a part live (ap (λ c. is_going c || is_case c) block) item
            (item_there (part_in (side_of (kind_at t (part_at t i 1))) k) (kind_at t a) (ap (λ c. is_of is_item_part (part_in (side_of c) k)) block ∙ block_items k) part.stands));
      }

  -- ---- `for`

  pub loop_runs : (i : ℕ) (n : Node) → IsWhole t u i n → kind_at t i ≡ kind.For → is_reached t i ≡ true → (k a : ℕ) → slice_get (parts_at t i) k ≡ Some a → is_reached t a ≡ true
  loop_runs i n w is r k a e = by (is_expression (form_of (kind_at t a))) refl
    where
      part : HasPart t u i k a
      part = has_part t u i k a e

      by : (b : Bool) → is_expression (form_of (kind_at t a)) ≡ b → is_reached t a ≡ true
      by true f = expression_reached t u i k a part (reached_lives t u i r) (ap (λ c. is_going c && not (is_address c)) is) f
      by false f = item_reached i k a part (reached_lives t u i r) (ap (λ c. is_going c || is_case c) is) (ap is_item is) (other_one (is_expression (form_of (kind_at t a))) (is_item (kind_at t a)) (w.kinds k a e) f)

  fors : (i : ℕ) (n : Node) → is_reached t i ≡ true → slice_get t.nodes i ≡ Some n → n.kind ≡ kind.For → IsFor t (judgement_of file t it) n i
  fors i n r at for =
      let w = whole t u i n at for in
      let is : kind_at t i ≡ kind.For = ap kind_if at ∙ for in
      let ps = parts_at t i in
      let token = first_at t i + 2 in
      let first = part_from t ps token in
      let second = part_from t ps (clause_end t token first + 1) in
      let control : second ≡ (clauses_of t.nodes n).test = ap (λ o. part_from t ps (clause_end t token o + 1)) w.first ∙ ap (part_from t ps) w.test_is ∙ w.test in
      let runs = loop_runs i n w is r in
      record {
        objects = clause_objects t first;
        first = first;
        control = second;
        step = unless_body (last_part ps) (part_from t ps (clause_end t (clause_end t token first + 1) second + 1));
        body = last_part ps;
        is = refl;
        tested = sym control;
        test = λ a e. (let place = from_at t ps (clause_end t token first + 1) a e in
            (place.0, operand_at file t it i place.0 a (ap is_listing is) (w.expression a (sym control ∙ e)) place.1));
        first_runs = λ a e. (let place = from_at t ps token a e in runs place.0 a place.1);
        control_runs = λ a e. (let place = from_at t ps (clause_end t token first + 1) a e in runs place.0 a place.1);
        step_runs = λ a e. (let place = from_at t ps (clause_end t (clause_end t token first + 1) second + 1) a (step_there (last_part ps) _ a e) in runs place.0 a place.1);
        inner = within i w.body_at.0 (last_part ps) (has_part t u i w.body_at.0 (last_part ps) w.body_at.1) w.body;
        body_runs = runs w.body_at.0 (last_part ps) w.body_at.1;
      }

  -- ---- declarations

  declarators_run : (i k a : ℕ) → is_reached t i ≡ true → kind_at t i ≡ kind.Declaration → slice_get (declarators_of t i) k ≡ Some a → is_reached t a ≡ true
  declarators_run i k a r is e =
      let f = filtered (is_automatic t) (drop 1 (parts_at t i)) k a e in
      let there = behind_first (parts_at t i) f.place a f.at in
      let part = has_part t u i (suc f.place) a there in
      let told : is_of is_declaring_part (part_in (side_of (kind_at t i)) (suc f.place)) ≡ true = ap (λ c. is_of is_declaring_part (part_in (side_of c) (suc f.place))) is ∙ declared_parts f.place in
      let declares = declaring_there (part_in (side_of (kind_at t i)) (suc f.place)) (kind_at t a) told part.stands in
      let own = declaring_is (kind_at t a) declares in
      reach t u a (goes t u a i (as_part t u i (suc f.place) a part) (declaration_goes t u a (kind_at t i) (kind_at t a) (ap is_declaration is) declares f.passes) (reached_lives t u i r))
      (or_right (is_expression (form_of (kind_at t a))) (is_statement (kind_at t a)) own.0) (unfollowed t u a own.1)

  puts_run : (i k : ℕ) (put : Put) → is_reached t i ≡ true → kind_at t i ≡ kind.InitDeclarator → slice_get (slice_index_or t.plans i []) k ≡ Some put → is_reached t put.node ≡ true
  puts_run i k put r is e =
      let it_is = put_there file t it i k put e in
      let expression = this_one (is_expression (form_of (kind_at t put.node))) (is_list (kind_at t put.node)) it_is.0.kinds it_is.1 in
      reach t u put.node (it_is.0.lives (reached_lives t u i r)) (expression_runs (kind_at t put.node) expression)
      (unpassed t u put.node put.user it_is.0.part (listing_apart (kind_at t put.user) it_is.0.lists))

  -- ---- all of it

  pub statements : AreStatementsLaid t (judgement_of file t it)
  statements = record {
    proper = λ i r e. other_one (is_expression (form_of (kind_at t i))) (is_statement (kind_at t i)) (reached_kind t u i r) e;
    conditions = conditions;
    inners = inners;
    branches = branches;
    whiles = λ i is. exactly t u i kind.While 2 is refl while_counts.0 while_counts.1;
    dos = λ i is. exactly t u i kind.Do 2 is refl do_counts.0 do_counts.1;
    returns = λ i is. at_most t u i kind.Return 1 is refl return_counts;
    expressions = λ i is. at_most t u i kind.ExpressionStatement 1 is refl statement_counts;
    labels = labels;
    switches = switches;
    fors = fors;
    conditions_run = conditions_run;
    inners_run = inners_run;
    declarators_run = declarators_run;
    puts_run = puts_run;
  }
