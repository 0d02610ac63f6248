-- The operation of each node that a run may reach has parts that see no more than the node does and what it enters for them.
use Rattle.std.proofs.Common.{◌≡◌, ℕ, zero, suc, ◌+◌, ◌⊎◌, inl, inr, Bool, true, false, ◌&&◌, ◌||◌, ℤ, List, [], ◌∷◌, Option, None, Some, drop, length, map, slice_get, slice_index_or, refl, sym, subst, ap, ◌∙◌, arith, if◌then◌else◌}
use Rattle.std.proofs.lemmas.Bool.{false≢true}
use Rattle.cr_syntax.specs.declared.node.Kind.{Kind}
use Rattle.cr_syntax.specs.declared.node.Kind.TheVariants as kind
use Rattle.cr_syntax.specs.declared.node.Node.{Node}
use Rattle.cr_syntax.specs.Tables.{rule_of, side_of}
use Rattle.cr_syntax_nodes.specs.Nodes.{least}
use Rattle.cr_typed.specs.declared.typed.Typed.{Typed}
use Rattle.cr_typed.specs.declared.typed.Put.{Put}
use Rattle.cr_meaning.specs.declared.op.Op.{Op}
use Rattle.cr_meaning.specs.declared.op.Operator.TheVariants as operator
use Rattle.cr_meaning.specs.declared.op.Relation.TheVariants as relation
use Rattle.cr_meaning.specs.declared.op.Parameter.{Parameter}
use Rattle.cr_meaning.specs.declared.op.Callee.{Callee}
use Rattle.cr_meaning.specs.declared.op.Callee.TheVariants.{Function}
use Rattle.cr_meaning.specs.declared.op.Work.{Work}
use Rattle.cr_meaning.specs.declared.op.Work.TheVariants as work
use Rattle.cr_meaning_operations.specs.Shapes.{is_pointer, pointed_element}
use Rattle.cr_meaning_operations.specs.Operations.{kind_if, kind_at, parts_at, part_at, first_at, node_op, constant_by, identifier_by, address_by, change_of, common_kind, left_type, right_type, callee_of, labelled, is_automatic, declarators_of, part_from, clause_end, clause_objects, last_part, op_by}
use Rattle.cr_meaning_soundness.specs.Sorts.{IsAmong}
use Rattle.cr_meaning_soundness.specs.Scopes.{IsPart, nodes_of, entered_by, is_past, is_open}
use Rattle.cr_meaning_declarations.specs.Units.Owned.{AreOfUnit}
use Rattle.cr_meaning_declarations.proofs.NamesLemmas.Parents.{IsPartOf}
use Rattle.cr_meaning_declarations.specs.Declared.Files.{IsUnitOfFile}
use Rattle.cr_meaning_declarations.proofs.DeclaredLemmas.Files.{has_unit}
use Rattle.cr_meaning_typing.specs.Whole.Statements.{is_labelled}
use Rattle.cr_meaning_types.proofs.KnownLemmas.Listing.{behind_first}
use Rattle.cr_meaning_files.specs.Reached.{is_definition, is_reached}
use Rattle.cr_meaning_files.specs.Seen.{entered_for, knows, sees}
use Rattle.cr_meaning_files.proofs.Tables.{switch_counts, switch_body}
use Rattle.cr_meaning_references.proofs.TreesLemmas.Grammar.{part_in, Stands}
use Rattle.cr_meaning_references.proofs.TreesLemmas.Tree.{has_part, as_part, needed}
use Rattle.cr_meaning_files.proofs.Seen.{enters_nothing, listing_enters_nothing, of_reached, as_seen, lasting_seen, climbs, up, from_body}
use Rattle.cr_meaning_files.proofs.Filling.{put_there}
use Rattle.cr_meaning_files.proofs.Loops.{from_at, step_there, whole}
use Rattle.cr_meaning_files.proofs.Standing.{filtered, labels, loop_runs}

-- ---- which work takes its operands alone

abbrev is_taking : Work → Bool
is_taking (work.Call (Function parameters rest is_main)) = false
is_taking (work.For objects first control step rest) = false
is_taking (work.Switch kind rest objects cases other labels) = false
is_taking (work.Block objects labels) = false
is_taking (work.Program objects parameters strings rest) = false
is_taking other = true

turn_of : (w : Work) (parts : List ℕ) (k part : ℕ) → is_taking w ≡ true → IsPart w parts k part → (turn : ℕ) × (slice_get parts turn ≡ Some part)
turn_of (work.Conditional form) parts zero part h e = (0, e)
turn_of (work.Conditional form) parts (suc zero) part h (inl e) = (1, e)
turn_of (work.Conditional form) parts (suc zero) part h (inr e) = (2, e)
turn_of (work.Conditional form) parts (suc (suc k)) part h e = absurd e
turn_of work.If parts zero part h e = (0, e)
turn_of work.If parts (suc zero) part h (inl e) = (1, e)
turn_of work.If parts (suc zero) part h (inr e) = (2, e)
turn_of work.If parts (suc (suc k)) part h e = absurd e
turn_of work.While parts zero part h e = (0, e)
turn_of work.While parts (suc zero) part h e = (1, e)
turn_of work.While parts (suc (suc k)) part h e = absurd e
turn_of work.Do parts zero part h e = (0, e)
turn_of work.Do parts (suc zero) part h e = (1, e)
turn_of work.Do parts (suc (suc k)) part h e = absurd e
turn_of (work.Call (Function parameters rest is_main)) parts k part h e = absurd (false≢true h)
turn_of (work.Call callee) parts k part h e = (k, e)
turn_of (work.For objects first control step rest) parts k part h e = absurd (false≢true h)
turn_of (work.Switch kind rest objects cases other labels) parts k part h e = absurd (false≢true h)
turn_of (work.Block objects labels) parts k part h e = absurd (false≢true h)
turn_of (work.Program objects parameters strings rest) parts k part h e = absurd (false≢true h)
turn_of w parts k part h e = (k, e)

-- behind the last argument a call has entered its parameters
behind_all : (parts : List ℕ) → is_past parts (suc (length parts)) ≡ true
behind_all [] = refl
behind_all (p ∷ parts) = behind_all parts

put_at : (puts : List Put) (k part : ℕ) → slice_get (map (λ put. put.node) puts) k ≡ Some part → (own : Put) × ((slice_get puts k ≡ Some own) × (own.node ≡ part))
put_at [] k part e = absurd (cc e)
put_at (p ∷ puts) zero part e = let same : p.node ≡ part = cc e in (p, (refl, same))
put_at (p ∷ puts) (suc k) part e = put_at puts k part e

cast_counts : least (side_of kind.Cast) ≡ 2
unfolding rule_of
cast_counts = refl

address_counts : least (side_of kind.AddressOf) ≡ 1
unfolding rule_of
address_counts = refl

-- what a call goes on with is the body of a definition with these parameters
pub record IsBodyOf (t : Typed) (u : AreOfUnit t) (parameters : List Parameter) (rest : ℕ) : Type 0 where
  pub definition : ℕ
  pub part : IsPartOf t u rest definition
  pub defines : is_definition (kind_at t definition) ≡ true
  pub reached : is_reached t rest ≡ true
  pub objects : (d : ℕ) → IsAmong d (entered_for t definition (kind_at t definition) rest) → IsAmong d (nodes_of parameters)

module _ (file : List ℕ) (t : Typed) (it : IsUnitOfFile file t) where
  open has_unit file t it use {unit as u}

  -- a part of an operation sees no more than the node does, and what that enters
  abbrev pub IsScoped : ℕ → Op → Type 0
  IsScoped i op = (k part d : ℕ) → IsPart op.work op.parts k part → sees t part d ≡ true → (sees t i d ≡ true) ⊎ ((is_open op.work op.parts (suc k) ≡ true) × IsAmong d (entered_by op.work))

  abbrev pub AllReached : Op → Type 0
  AllReached op = (k part : ℕ) → slice_get op.parts k ≡ Some part → is_reached t part ≡ true

  -- what these parts know the node knows
  abbrev AllUnder : ℕ → List ℕ → Type 0
  AllUnder i parts = (k part d : ℕ) → slice_get parts k ≡ Some part → knows t part d ≡ true → knows t i d ≡ true

  taking : (i : ℕ) (op : Op) → is_taking op.work ≡ true → AllUnder i op.parts → AllReached op → IsScoped i op
  taking i op h f r k part d is s = let x = turn_of op.work op.parts k part h is in inl (as_seen t i d (f x.0 part d x.1 (of_reached t part d (r x.0 part x.1) s)))

  empty : (i : ℕ) (op : Op) → is_taking op.work ≡ true → op.parts ≡ [] → IsScoped i op
  empty i op h none k part d is s =
      let x = turn_of op.work op.parts k part h is in
      let never : slice_get [] x.0 ≡ Some part = ap (λ ps. slice_get ps x.0) (sym none) ∙ x.1 in
      absurd (cc never)

  one_up : (i k part d : ℕ) → slice_get (parts_at t i) k ≡ Some part → enters_nothing (kind_at t i) ≡ true → knows t part d ≡ true → knows t i d ≡ true
  one_up i k part d e h = up t u i part d (as_part t u i k part (has_part t u i k part e)) h

  own : (i : ℕ) (k : Kind) → kind_at t i ≡ k → enters_nothing k ≡ true → AllUnder i (parts_at t i)
  own i k is h m part d e = one_up i m part d e (ap enters_nothing is ∙ h)

  -- a part alone
  alone : (i a m : ℕ) → enters_nothing (kind_at t i) ≡ true → slice_get (parts_at t i) m ≡ Some a → AllUnder i (a ∷ [])
  alone i a m h e zero part d f = let same : a ≡ part = cc f in one_up i m part d (e ∙ ap Some same) h
  alone i a m h e (suc k) part d f = absurd (cc f)

  either : (i : ℕ) (b : Bool) (v w : Work) → is_taking v ≡ true → is_taking w ≡ true → AllUnder i (parts_at t i) → AllReached (if b then node_op (parts_at t i) v else node_op (parts_at t i) w)
      → IsScoped i (if b then node_op (parts_at t i) v else node_op (parts_at t i) w)
  either i true v w g h f r = taking i (node_op (parts_at t i) v) g f r
  either i false v w g h f r = taking i (node_op (parts_at t i) w) h f r

  constants : (i : ℕ) (o : Option ℤ) → IsScoped i (constant_by t i o)
  constants i None = empty i (constant_by t i None) refl refl
  constants i (Some v) = empty i (constant_by t i (Some v)) refl refl

  names : (i : ℕ) (o : Option ℤ) → IsScoped i (identifier_by t i o)
  names i None = empty i (identifier_by t i None) refl refl
  names i (Some v) = empty i (identifier_by t i (Some v)) refl refl

  -- `&*E` and `&E1[E2]` have the parts of their operand
  addresses : (i : ℕ) (k : Kind) → kind_at t i ≡ kind.AddressOf → kind_at t (part_at t i 0) ≡ k → AllReached (address_by t i (part_at t i 0) k) → IsScoped i (address_by t i (part_at t i 0) k)
  addresses i k is same r = by k same r
    where
      below : AllUnder i (part_at t i 0 ∷ [])
      below = alone i (part_at t i 0) 0 (ap enters_nothing is) (needed t u i 0 kind.AddressOf is refl (let one = address_counts in omega (arith, one)))

      two : (k : Kind) → kind_at t (part_at t i 0) ≡ k → enters_nothing k ≡ true → AllUnder i (parts_at t (part_at t i 0))
      two k e h m part d f g = below 0 (part_at t i 0) d refl (own (part_at t i 0) k e h m part d f g)

      by : (k : Kind) → kind_at t (part_at t i 0) ≡ k → AllReached (address_by t i (part_at t i 0) k) → IsScoped i (address_by t i (part_at t i 0) k)
      by kind.Dereference e r = taking i (address_by t i (part_at t i 0) kind.Dereference) refl (two kind.Dereference e refl) r
      by kind.Subscript e r = taking i (address_by t i (part_at t i 0) kind.Subscript) refl (two kind.Subscript e refl) r
      by k e r = taking i (address_by t i (part_at t i 0) k) refl (own i kind.AddressOf is refl) r

  declared : (i : ℕ) → kind_at t i ≡ kind.Declaration → AllUnder i (declarators_of t i)
  declared i is k part d e = let f = filtered (is_automatic t) (drop 1 (parts_at t i)) k part e in one_up i (suc f.place) part d (behind_first (parts_at t i) f.place part f.at) (ap enters_nothing is)

  -- an initialiser knows what its declarator does, through the lists around it
  put : (i : ℕ) → kind_at t i ≡ kind.InitDeclarator → AllUnder i (map (λ put. put.node) (slice_index_or t.plans i []))
  put i is k part d e g =
      let x = put_at (slice_index_or t.plans i []) k part e in
      let there = put_there file t it i k x.0 x.1.0 in
      there.0.climbs (λ a. knows t a d) (λ a c h lists kinds f. up t u c a d h (listing_enters_nothing (kind_at t c) lists) f) (ap (λ a. knows t a d) x.1.1 ∙ g)

  -- ---- what enters objects

  block : (i : ℕ) → kind_at t i ≡ kind.Compound → AllReached (op_by t i kind.Compound) → IsScoped i (op_by t i kind.Compound)
  block i is r zero part d e s = absurd e
  block i is r (suc k) part d e s = elim (climbs t u i part d (as_part t u i k part (has_part t u i k part e)) (of_reached t part d (r k part e) s)) [
    | inl x ↦ inl (as_seen t i d x)
    | inr x ↦ inr (refl, subst (λ c. IsAmong d (entered_for t i c part)) is x)
  ]

  switch : (i : ℕ) → kind_at t i ≡ kind.Switch → AllReached (op_by t i kind.Switch) → IsScoped i (op_by t i kind.Switch)
  switch i is r = parts
    where
      body : slice_get (parts_at t i) 1 ≡ Some (part_at t i 1)
      body = needed t u i 1 kind.Switch is refl (let two = switch_counts in omega (arith, two))

      control : slice_get (parts_at t i) 0 ≡ Some (part_at t i 0)
      control = needed t u i 0 kind.Switch is refl (let two = switch_counts in omega (arith, two))

      block_is : kind_at t (part_at t i 1) ≡ kind.Compound
      block_is = switch_body (kind_at t (part_at t i 1)) (subst (λ c. Stands (part_in (side_of c) 1) (kind_at t (part_at t i 1))) is (has_part t u i 1 (part_at t i 1) body).stands)

      parts : IsScoped i (op_by t i kind.Switch)
      parts zero part d e s =
          let same : part_at t i 0 ≡ part = cc e in
          inl (as_seen t i d (one_up i 0 part d (control ∙ ap Some same) (ap enters_nothing is) (of_reached t part d (r 0 part e) s)))
      parts (suc zero) part d e s = absurd e
      parts (suc (suc k)) part d e s =
          elim (climbs t u (part_at t i 1) part d (as_part t u (part_at t i 1) k part (has_part t u (part_at t i 1) k part e)) (of_reached t part d (r (suc k) part e) s)) [
            | inl x ↦ inl (as_seen t i d (one_up i 1 (part_at t i 1) d body (ap enters_nothing is) x))
            | inr x ↦ inr (refl, subst (λ c. IsAmong d (entered_for t (part_at t i 1) c part)) block_is x)
          ]

  loop : (i : ℕ) (n : Node) → slice_get t.nodes i ≡ Some n → kind_at t i ≡ kind.For → is_reached t i ≡ true → IsScoped i (op_by t i kind.For)
  loop i n at is r = clauses
    where
      for : n.kind ≡ kind.For
      for = sym (ap kind_if at) ∙ is

      first : Option ℕ
      first = part_from t (parts_at t i) (first_at t i + 2)

      placed : (m part d : ℕ) → slice_get (parts_at t i) m ≡ Some part → sees t part d ≡ true → (sees t i d ≡ true) ⊎ ((true ≡ true) × IsAmong d (clause_objects t (part_from t (parts_at t i) (first_at t i + 2))))
      placed m part d e s = elim (climbs t u i part d (as_part t u i m part (has_part t u i m part e)) (of_reached t part d (loop_runs file t it i n (whole t u i n at for) is r m part e) s)) [
        | inl x ↦ inl (as_seen t i d x)
        | inr x ↦ inr (refl, subst (λ c. IsAmong d (entered_for t i c part)) is x)
      ]

      clauses : IsScoped i (op_by t i kind.For)
      clauses zero part d e s = let x = from_at t (parts_at t i) (first_at t i + 2) part e in placed x.0 part d x.1 s
      clauses (suc zero) part d e s = let x = from_at t (parts_at t i) (clause_end t (first_at t i + 2) first + 1) part e in placed x.0 part d x.1 s
      clauses (suc (suc zero)) part d e s = let x = (whole t u i n at for).body_at in placed x.0 part d (x.1 ∙ ap Some e) s
      clauses (suc (suc (suc zero))) part d e s =
          let x = from_at t (parts_at t i) _ part (step_there (last_part (parts_at t i)) _ part e) in placed x.0 part d x.1 s
      clauses (suc (suc (suc (suc k)))) part d e s = absurd e

  -- a call goes on with a body, for which it has entered the parameters
  call : (i : ℕ) → kind_at t i ≡ kind.Call → (c : Callee) → ((parameters : List Parameter) (rest : ℕ) (is_main : Bool) → c ≡ Function parameters rest is_main → IsBodyOf t u parameters rest)
      → AllReached (node_op (parts_at t i) (work.Call c)) → IsScoped i (node_op (parts_at t i) (work.Call c))
  call i is (Function parameters rest is_main) f r k part d (inl e) s = inl (as_seen t i d (own i kind.Call is refl k part d e (of_reached t part d (r k part e) s)))
  call i is (Function parameters rest is_main) f r k part d (inr both) s =
      let b = f parameters rest is_main refl in
      let known : knows t rest d ≡ true = of_reached t rest d b.reached (ap (λ a. sees t a d) both.1 ∙ s) in
      elim (from_body t u b.definition rest d b.part b.defines known) [
        | inl x ↦ inl (lasting_seen t i d x)
        | inr x ↦ inr (ap (λ m. is_past (parts_at t i) (suc m)) both.0 ∙ behind_all (parts_at t i), b.objects d x)
      ]
  call i is c f r k part d e s = taking i (node_op (parts_at t i) (work.Call c)) refl (own i kind.Call is refl) r k part d e s

  -- ---- all kinds

  module _ (bodies : (i : ℕ) → is_reached t i ≡ true → kind_at t i ≡ kind.Call → (parameters : List Parameter) (rest : ℕ) (is_main : Bool) → callee_of t i ≡ Function parameters rest is_main → IsBodyOf t u parameters rest) where
    pub by_kind : (i : ℕ) (n : Node) → slice_get t.nodes i ≡ Some n → (k : Kind) → kind_at t i ≡ k → AllReached (op_by t i k) → is_reached t i ≡ true → IsScoped i (op_by t i k)
    by_kind i n at kind.Comma is r reached = taking i (op_by t i kind.Comma) refl (own i kind.Comma is refl) r
    by_kind i n at kind.Assign is r reached = taking i (op_by t i kind.Assign) refl (own i kind.Assign is refl) r
    by_kind i n at kind.MultiplyAssign is r reached = taking i (op_by t i kind.MultiplyAssign) refl (own i kind.MultiplyAssign is refl) r
    by_kind i n at kind.DivideAssign is r reached = taking i (op_by t i kind.DivideAssign) refl (own i kind.DivideAssign is refl) r
    by_kind i n at kind.RemainderAssign is r reached = taking i (op_by t i kind.RemainderAssign) refl (own i kind.RemainderAssign is refl) r
    by_kind i n at kind.AddAssign is r reached = taking i (op_by t i kind.AddAssign) refl (own i kind.AddAssign is refl) r
    by_kind i n at kind.SubtractAssign is r reached = taking i (op_by t i kind.SubtractAssign) refl (own i kind.SubtractAssign is refl) r
    by_kind i n at kind.ShiftLeftAssign is r reached = taking i (op_by t i kind.ShiftLeftAssign) refl (own i kind.ShiftLeftAssign is refl) r
    by_kind i n at kind.ShiftRightAssign is r reached = taking i (op_by t i kind.ShiftRightAssign) refl (own i kind.ShiftRightAssign is refl) r
    by_kind i n at kind.AndAssign is r reached = taking i (op_by t i kind.AndAssign) refl (own i kind.AndAssign is refl) r
    by_kind i n at kind.XorAssign is r reached = taking i (op_by t i kind.XorAssign) refl (own i kind.XorAssign is refl) r
    by_kind i n at kind.OrAssign is r reached = taking i (op_by t i kind.OrAssign) refl (own i kind.OrAssign is refl) r
    by_kind i n at kind.LogicalOr is r reached = taking i (op_by t i kind.LogicalOr) refl (own i kind.LogicalOr is refl) r
    by_kind i n at kind.LogicalAnd is r reached = taking i (op_by t i kind.LogicalAnd) refl (own i kind.LogicalAnd is refl) r
    by_kind i n at kind.Or is r reached = taking i (op_by t i kind.Or) refl (own i kind.Or is refl) r
    by_kind i n at kind.Xor is r reached = taking i (op_by t i kind.Xor) refl (own i kind.Xor is refl) r
    by_kind i n at kind.And is r reached = taking i (op_by t i kind.And) refl (own i kind.And is refl) r
    by_kind i n at kind.ShiftLeft is r reached = taking i (op_by t i kind.ShiftLeft) refl (own i kind.ShiftLeft is refl) r
    by_kind i n at kind.ShiftRight is r reached = taking i (op_by t i kind.ShiftRight) refl (own i kind.ShiftRight is refl) r
    by_kind i n at kind.Add is r reached = taking i (op_by t i kind.Add) refl (own i kind.Add is refl) r
    by_kind i n at kind.Multiply is r reached = taking i (op_by t i kind.Multiply) refl (own i kind.Multiply is refl) r
    by_kind i n at kind.Divide is r reached = taking i (op_by t i kind.Divide) refl (own i kind.Divide is refl) r
    by_kind i n at kind.Remainder is r reached = taking i (op_by t i kind.Remainder) refl (own i kind.Remainder is refl) r
    by_kind i n at kind.PreIncrement is r reached = taking i (op_by t i kind.PreIncrement) refl (own i kind.PreIncrement is refl) r
    by_kind i n at kind.PreDecrement is r reached = taking i (op_by t i kind.PreDecrement) refl (own i kind.PreDecrement is refl) r
    by_kind i n at kind.Dereference is r reached = taking i (op_by t i kind.Dereference) refl (own i kind.Dereference is refl) r
    by_kind i n at kind.Plus is r reached = taking i (op_by t i kind.Plus) refl (own i kind.Plus is refl) r
    by_kind i n at kind.Minus is r reached = taking i (op_by t i kind.Minus) refl (own i kind.Minus is refl) r
    by_kind i n at kind.Complement is r reached = taking i (op_by t i kind.Complement) refl (own i kind.Complement is refl) r
    by_kind i n at kind.Not is r reached = taking i (op_by t i kind.Not) refl (own i kind.Not is refl) r
    by_kind i n at kind.Subscript is r reached = taking i (op_by t i kind.Subscript) refl (own i kind.Subscript is refl) r
    by_kind i n at kind.Member is r reached = taking i (op_by t i kind.Member) refl (own i kind.Member is refl) r
    by_kind i n at kind.PointerMember is r reached = taking i (op_by t i kind.PointerMember) refl (own i kind.PointerMember is refl) r
    by_kind i n at kind.PostIncrement is r reached = taking i (op_by t i kind.PostIncrement) refl (own i kind.PostIncrement is refl) r
    by_kind i n at kind.PostDecrement is r reached = taking i (op_by t i kind.PostDecrement) refl (own i kind.PostDecrement is refl) r
    by_kind i n at kind.Group is r reached = taking i (op_by t i kind.Group) refl (own i kind.Group is refl) r
    by_kind i n at kind.ExpressionStatement is r reached = taking i (op_by t i kind.ExpressionStatement) refl (own i kind.ExpressionStatement is refl) r
    by_kind i n at kind.Return is r reached = taking i (op_by t i kind.Return) refl (own i kind.Return is refl) r
    by_kind i n at kind.Conditional is r reached = taking i (op_by t i kind.Conditional) refl (own i kind.Conditional is refl) r
    by_kind i n at kind.If is r reached = taking i (op_by t i kind.If) refl (own i kind.If is refl) r
    by_kind i n at kind.While is r reached = taking i (op_by t i kind.While) refl (own i kind.While is refl) r
    by_kind i n at kind.Do is r reached = taking i (op_by t i kind.Do) refl (own i kind.Do is refl) r
    by_kind i n at kind.Equal is r reached = either i (is_pointer (left_type t i) || is_pointer (right_type t i)) (work.ComparePointers relation.Equal) (work.Compare relation.Equal (common_kind (left_type t i) (right_type t i))) refl refl (own i kind.Equal is refl) r
    by_kind i n at kind.NotEqual is r reached = either i (is_pointer (left_type t i) || is_pointer (right_type t i)) (work.ComparePointers relation.NotEqual) (work.Compare relation.NotEqual (common_kind (left_type t i) (right_type t i))) refl refl (own i kind.NotEqual is refl) r
    by_kind i n at kind.Less is r reached = either i (is_pointer (left_type t i) || is_pointer (right_type t i)) (work.ComparePointers relation.Less) (work.Compare relation.Less (common_kind (left_type t i) (right_type t i))) refl refl (own i kind.Less is refl) r
    by_kind i n at kind.Greater is r reached = either i (is_pointer (left_type t i) || is_pointer (right_type t i)) (work.ComparePointers relation.Greater) (work.Compare relation.Greater (common_kind (left_type t i) (right_type t i))) refl refl (own i kind.Greater is refl) r
    by_kind i n at kind.LessEqual is r reached = either i (is_pointer (left_type t i) || is_pointer (right_type t i)) (work.ComparePointers relation.LessEqual) (work.Compare relation.LessEqual (common_kind (left_type t i) (right_type t i))) refl refl (own i kind.LessEqual is refl) r
    by_kind i n at kind.GreaterEqual is r reached = either i (is_pointer (left_type t i) || is_pointer (right_type t i)) (work.ComparePointers relation.GreaterEqual) (work.Compare relation.GreaterEqual (common_kind (left_type t i) (right_type t i))) refl refl (own i kind.GreaterEqual is refl) r
    by_kind i n at kind.Subtract is r reached = either i (is_pointer (left_type t i) && is_pointer (right_type t i)) (work.Distance (pointed_element t (left_type t i))) (work.Binary (change_of t operator.Subtract true (common_kind (left_type t i) (right_type t i)) (left_type t i) (right_type t i))) refl refl (own i kind.Subtract is refl) r
    by_kind i n at kind.SizeofExpression is r reached = constants i (slice_index_or t.constants i None)
    by_kind i n at kind.SizeofType is r reached = constants i (slice_index_or t.constants i None)
    by_kind i n at kind.Integer is r reached = constants i (slice_index_or t.constants i None)
    by_kind i n at kind.Character is r reached = constants i (slice_index_or t.constants i None)
    by_kind i n at kind.Identifier is r reached = names i (slice_index_or t.constants i None)
    by_kind i n at kind.Text is r reached = empty i (op_by t i kind.Text) refl refl
    by_kind i n at kind.Goto is r reached = empty i (op_by t i kind.Goto) refl refl
    by_kind i n at kind.Break is r reached = empty i (op_by t i kind.Break) refl refl
    by_kind i n at kind.Continue is r reached = empty i (op_by t i kind.Continue) refl refl
    by_kind i n at kind.NameDeclarator is r reached = empty i (op_by t i kind.NameDeclarator) refl refl
    by_kind i n at kind.PointerDeclarator is r reached = empty i (op_by t i kind.PointerDeclarator) refl refl
    by_kind i n at kind.GroupDeclarator is r reached = empty i (op_by t i kind.GroupDeclarator) refl refl
    by_kind i n at kind.ArrayDeclarator is r reached = empty i (op_by t i kind.ArrayDeclarator) refl refl
    by_kind i n at kind.Cast is r reached = taking i (op_by t i kind.Cast) refl (alone i (part_at t i 1) 1 (ap enters_nothing is) (needed t u i 1 kind.Cast is refl (let two = cast_counts in omega (arith, two)))) r
    by_kind i n at kind.AddressOf is r reached = addresses i (kind_at t (part_at t i 0)) is refl r
    by_kind i n at kind.Label is r reached = (let l = labels file t it i (ap is_labelled is) in taking i (op_by t i kind.Label) refl (alone i (labelled t i) l.0 (ap enters_nothing is) l.1.1) r)
    by_kind i n at kind.Case is r reached = (let l = labels file t it i (ap is_labelled is) in taking i (op_by t i kind.Case) refl (alone i (labelled t i) l.0 (ap enters_nothing is) l.1.1) r)
    by_kind i n at kind.Default is r reached = (let l = labels file t it i (ap is_labelled is) in taking i (op_by t i kind.Default) refl (alone i (labelled t i) l.0 (ap enters_nothing is) l.1.1) r)
    by_kind i n at kind.Declaration is r reached = taking i (op_by t i kind.Declaration) refl (declared i is) r
    by_kind i n at kind.InitDeclarator is r reached = taking i (op_by t i kind.InitDeclarator) refl (put i is) r
    by_kind i n at kind.Compound is r reached = block i is r
    by_kind i n at kind.Switch is r reached = switch i is r
    by_kind i n at kind.For is r reached = loop i n at is reached
    by_kind i n at kind.Call is r reached = call i is (callee_of t i) (bodies i reached is) r
    by_kind i n at k is r reached = empty i (op_by t i k) refl refl
