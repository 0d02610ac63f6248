-- What a run may reach is closed: with a node it has what is evaluated with it.
use Rattle.std.proofs.Common.{◌≡◌, ℕ, true, false, ◌&&◌, not, Some, slice_get, refl, sym, ap, ◌∙◌, arith}
use Rattle.std.proofs.lemmas.Bool.{and_parts, or_left, or_right, not-true}
use Rattle.std.proofs.lemmas.Option.{slice_get_within}
use Rattle.cr_syntax.specs.declared.node.Kind.{Kind}
use Rattle.cr_syntax.specs.declared.node.Kind.TheVariants as kind
use Rattle.cr_syntax.specs.Tables.{side_of}
use Rattle.cr_check_expressions.specs.Forms.{form_of}
use Rattle.cr_typed.specs.declared.typed.Typed.{Typed}
use Rattle.cr_meaning_operations.specs.Operations.{kind_at, parts_at}
use Rattle.cr_meaning_typing.specs.Typed.Typing.{is_expression}
use Rattle.cr_meaning_declarations.specs.Units.Owned.{AreOfUnit}
use Rattle.cr_meaning_typing.specs.Sorts.Founded.{is_evaluated, is_followed, AreReached}
use Rattle.cr_meaning_typing.specs.Sorts.Table.{Judgement}
use Rattle.cr_meaning_typing.specs.Whole.Statements.{is_statement}
use Rattle.cr_meaning_files.specs.Reached.{is_item, is_address, is_going, lives, is_run_kind, is_reached}
use Rattle.cr_meaning_references.proofs.TreesLemmas.Grammar.{part_in, is_of}
use Rattle.cr_meaning_files.proofs.Tables.{evaluated, evaluated_part, item_is, counts, counted_there, followed_count, followed_parts, followed_asked, followed_goes, addressed}
use Rattle.cr_meaning_references.proofs.TreesLemmas.Tree.{HasPart, has_part, as_part, exactly}
use Rattle.cr_meaning_references.proofs.TreesLemmas.Expressions.{is_expression_part, expression_there, asked}
use Rattle.cr_meaning_files.proofs.Living.{goes, going, reached_lives, reach, unpassed, unfollowed, there}

-- expressions and items are run
pub expression_runs : (k : Kind) → is_expression (form_of k) ≡ true → is_run_kind k ≡ true
expression_runs k e = or_left (is_expression (form_of k)) (is_statement k) e

pub item_runs : (k : Kind) → is_item k ≡ true → is_run_kind k ≡ true
item_runs k e = or_right (is_expression (form_of k)) (is_statement k) (item_is k e).0

module _ (t : Typed) (unit : AreOfUnit t) where
  -- from a node that goes on to an expression
  pub to_expression : (i k a : ℕ) → HasPart t unit i k a → lives t i ≡ true → is_going (kind_at t i) ≡ true → is_expression (form_of (kind_at t a)) ≡ true → lives t a ≡ true
  to_expression i k a h live g e = goes t unit a i (as_part t unit i k a h) (going t unit a (kind_at t i) (kind_at t a) g e) live

  pub expression_reached : (i k a : ℕ) → HasPart t unit i k a → lives t i ≡ true → (is_going (kind_at t i) && not (is_address (kind_at t i))) ≡ true → is_expression (form_of (kind_at t a)) ≡ true → is_reached t a ≡ true
  expression_reached i k a h live g e =
      let both = and_parts (is_going (kind_at t i)) (not (is_address (kind_at t i))) g in
      reach t unit a (to_expression i k a h live both.0 e) (expression_runs (kind_at t a) e) (unpassed t unit a i (as_part t unit i k a h) (not-true (is_address (kind_at t i)) both.1))

  operands : (i k a : ℕ) → is_reached t i ≡ true → is_evaluated (form_of (kind_at t i)) k ≡ true → slice_get (parts_at t i) k ≡ Some a → is_reached t a ≡ true
  operands i k a r h e =
      let part = has_part t unit i k a e in
      expression_reached i k a part (reached_lives t unit i r) (evaluated (kind_at t i) k h)
      (expression_there (part_in (side_of (kind_at t i)) k) (kind_at t a) (evaluated_part (kind_at t i) k h) part.stands)

  address_lives : (i a : ℕ) → is_reached t i ≡ true → kind_at t i ≡ kind.AddressOf → slice_get (parts_at t i) 0 ≡ Some a → (lives t a ≡ true) × (is_expression (form_of (kind_at t a)) ≡ true)
  address_lives i a r is e =
      let part = has_part t unit i 0 a e in
      let told : is_of is_expression_part (part_in (side_of (kind_at t i)) 0) ≡ true = ap (λ c. is_of is_expression_part (part_in (side_of c) 0)) is ∙ addressed in
      let expression = expression_there (part_in (side_of (kind_at t i)) 0) (kind_at t a) told part.stands in
      (to_expression i 0 a part (reached_lives t unit i r) (ap is_going is) expression, expression)

  addressed_run : (i a : ℕ) → is_reached t i ≡ true → kind_at t i ≡ kind.AddressOf → slice_get (parts_at t i) 0 ≡ Some a → is_followed (kind_at t a) ≡ false → is_reached t a ≡ true
  addressed_run i a r is e f = let x = address_lives i a r is e in reach t unit a x.0 (expression_runs (kind_at t a) x.1) (unfollowed t unit a f)

  followed_run : (i a k b : ℕ) → is_reached t i ≡ true → kind_at t i ≡ kind.AddressOf → slice_get (parts_at t i) 0 ≡ Some a → is_followed (kind_at t a) ≡ true → slice_get (parts_at t a) k ≡ Some b
      → is_reached t b ≡ true
  followed_run i a k b r is e f g =
      let c = kind_at t a in
      let part = has_part t unit a k b g in
      let number = followed_parts c f in
      let both = counts c (followed_count c) number in
      let many = exactly t unit a c (followed_count c) refl (counted_there c (followed_count c) number) both.0 both.1 in
      let within = slice_get_within (parts_at t a) k b g in
      let told = (asked c k (followed_asked c k f (omega (arith, many, within)))).0 in
      let expression = expression_there (part_in (side_of c) k) (kind_at t b) told part.stands in
      let on = followed_goes c f in
      reach t unit b (to_expression a k b part (address_lives i a r is e).0 on.0 expression) (expression_runs (kind_at t b) expression) (unpassed t unit b a (as_part t unit a k b part) on.1)

  pub reached : (j : Judgement) → ((a : ℕ) → j.runs a ≡ is_reached t a) → AreReached t j
  reached j same = record {
    there = λ i r. there t unit i (reached_lives t unit i (sym (same i) ∙ r));
    operands = λ i k a r h e. same a ∙ operands i k a (sym (same i) ∙ r) h e;
    addressed = λ i a r is e f. same a ∙ addressed_run i a (sym (same i) ∙ r) is e f;
    followed = λ i a k b r is e f g. same b ∙ followed_run i a k b (sym (same i) ∙ r) is e f g;
  }
