-- An identifier that designates an object has the type of the declarator that it sees.
use Rattle.std.proofs.Common.{◌≡◌, ℕ, ℤ, ◌<◌, inl, inr, Bool, true, false, List, Option, None, Some, take, slice_get, slice_index_or, refl, sym, subst, ap, ◌∙◌, arith, if◌then◌else◌}
use Rattle.std.proofs.lemmas.Bool.{cases_lt, false≢true}
use Rattle.std.proofs.lemmas.List.{get_or_past, get_or-take, length-take}
use Rattle.std.proofs.lemmas.Option.{slice_get_within}
use Rattle.cr_syntax.specs.declared.node.Kind.{Kind}
use Rattle.cr_syntax.specs.declared.node.Kind.TheVariants as kind
use Rattle.cr_syntax.specs.declared.node.Node.{Node}
use Rattle.cr_syntax_nodes.proofs.Numbers.{some_at}
use Rattle.cr_check_types.specs.Types.{Qualified, type_at}
use Rattle.cr_check_operands.specs.Values.{Seen}
use Rattle.cr_check_expressions.specs.declared.known.Declared.{Declared}
use Rattle.cr_check_expressions.specs.declared.known.Declared.TheVariants.{Object, Enumerator, Function, TypeName, Unclear}
use Rattle.cr_check_expressions.specs.Forms.{form_of}
use Rattle.cr_check_expressions.specs.Known.{Meaning, meaning_by, declared_by as stands_by, parameters_in}
use Rattle.cr_check_expressions.specs.Ruled.{named_by, ruled, facts_at}
use Rattle.cr_check_declarators.specs.declared.words.Specified.{Specified}
use Rattle.cr_check_declarators.specs.declared.words.Class.{Class}
use Rattle.cr_check_declarators.specs.declared.declarator.Declarator.{Declarator}
use Rattle.cr_check_declarators.specs.declared.enumerators.Enumerated.{Enumerated}
use Rattle.cr_check_declarations.specs.Before.{kind_in}
use Rattle.cr_check_declarations.specs.Named.{class_of, is_typedef, declares_name, value_by, ordinary_by, ordinary_of, names_ordinary, specifiers_in, constant_by, declared_by}
use Rattle.cr_check_unit.specs.Typing.{cut, entry_at, source_in, IsRuled, IsRuledIf}
use Rattle.cr_typed.specs.declared.typed.Typed.{Typed}
use Rattle.cr_meaning_operations.specs.Shapes.{type_of_node}
use Rattle.cr_meaning_declarations.specs.Declared.Files.{IsUnitOfFile}
use Rattle.cr_meaning_typing.proofs.JudgedLemmas.Judged.{judged}
use Rattle.cr_meaning_files.specs.Celled as Laws
use Rattle.cr_meaning_files.specs.Celled.{HasSeenType}

-- ---- what a name stands for as an object

record IsDeclaredSo (look : ℕ → Qualified) (d : Declared) (type : Qualified) : Type 0 where
  row : ℕ
  register : Bool
  is : d ≡ Object row register
  same : look row ≡ type

abbrev type_of : Seen → Qualified
type_of s = s.type

declared_so : (look : ℕ → Qualified) (rows : List ℕ) (d : Declared) → (named_by (meaning_by look rows d)).lvalue ≡ true
    → IsDeclaredSo look d (type_of (named_by (meaning_by look rows d)))
declared_so look rows (Object row register) h = record { row = row; register = register; is = refl; same = refl }
declared_so look rows (Enumerator value) h = absurd (false≢true h)
declared_so look rows (Function row more) h = absurd (false≢true h)
declared_so look rows TypeName h = absurd (false≢true h)
declared_so look rows Unclear h = absurd (false≢true h)

-- ---- the row of what is declared is that of the named type

abbrev row_or : ℕ → Declared → ℕ
row_or other (Object row register) = row
row_or other d = other

keeps : (row : ℕ) (b : Bool) (x y : Declared) → row_or row x ≡ row → row_or row y ≡ row → row_or row (if b then x else y) ≡ row
keeps row true x y h g = h
keeps row false x y h g = g

value_row : (nodes : List Node) (c : Option Class) (own : Option ℕ) (row : ℕ) → row_or row (value_by nodes c own row) ≡ row
value_row nodes c None row = refl
value_row nodes c (Some f) row = refl

ordinary_row : (nodes : List Node) (said : ℕ → Specified) (own : Declarator) (row : ℕ) (o : Option ℕ) → row_or row (ordinary_by nodes said own row o) ≡ row
ordinary_row nodes said own row None = refl
ordinary_row nodes said own row (Some s) = keeps row (is_typedef (class_of (said s).storage)) TypeName (value_by nodes (class_of (said s).storage) own.function row) refl (value_row nodes (class_of (said s).storage) own.function row)

constant_row : (row : ℕ) (e : Option Enumerated) → row_or row (constant_by e) ≡ row
constant_row row None = refl
constant_row row (Some own) = by own.value
  where
    by : (o : Option ℤ) → row_or row (elim o [ None ↦ Unclear | Some value ↦ Enumerator value ]) ≡ row
    by None = refl
    by (Some v) = refl

declared_row : (k : Kind) (nodes : List Node) (said : ℕ → Specified) (own : Declarator) (row : ℕ) (e : Option Enumerated) (d : Option ℕ)
    → row_or row (declared_by k nodes said own row e d) ≡ row
declared_row kind.Enumerator nodes said own row e d = constant_row row e
declared_row k nodes said own row e d =
    keeps row (declares_name k) (ordinary_of nodes said own row d) Unclear
    (keeps row (names_ordinary (kind_in nodes d)) (ordinary_by nodes said own row (specifiers_in nodes d)) Unclear (ordinary_row nodes said own row (specifiers_in nodes d)) refl) refl

module _ (file : List ℕ) (t : Typed) (it : IsUnitOfFile file t) (i : ℕ) (n : Node) (at : slice_get t.nodes i ≡ Some n) (is : n.kind ≡ kind.Identifier)
    (lvalue : (facts_at it.checked.checked.table it.checked.checked.whole.typing.facts i).lvalue ≡ true) where
  open it use {made_by, typing, shapes, tree}

  abbrev look : ℕ → Qualified
  look = type_at shapes

  here : slice_get tree.nodes.now i ≡ Some n
  here = ap (λ ns. slice_get ns i) (made_by.is.whole.tree.nodes ∙ sym made_by.elaborated.nodes_are) ∙ at

  pub ruled_at : (r : ℕ) (m : Node) → slice_get tree.nodes.now r ≡ Some m → IsRuled tree it.checked.checked.texts shapes (cut r typing) (entry_at typing r) r m
  ruled_at r m there = subst (IsRuledIf tree it.checked.checked.texts shapes (cut r typing) (entry_at typing r) r) there (made_by.is.whole.typing.each r)

  abbrev meaning : Option ℕ → Meaning
  meaning o = meaning_by look (parameters_in (cut i typing).parameters o) (stands_by (cut i typing).declared o)

  fact : facts_at shapes typing.facts i ≡ named_by (meaning (slice_index_or tree.visible.now i None))
  fact = (ruled_at i n here).fact ∙ ap (λ k. ruled (form_of k) (facts_at shapes (cut i typing).facts) (source_in look tree it.checked.checked.texts (cut i typing)) i n) is

  type_is : type_of_node t i ≡ type_of (named_by (meaning (slice_index_or tree.visible.now i None)))
  type_is = (judged file it.unit it.names it.checked.checked t made_by).columns.types i ∙ ap type_of fact

  by_declarator : (r : ℕ) → slice_index_or tree.visible.now i None ≡ Some r → (named_by (meaning (Some r))).lvalue ≡ true
      → type_of_node t i ≡ type_of (named_by (meaning (Some r))) → HasSeenType file t it i
  by_declarator r sees h same = elim (cases_lt r i) [
    | inl less ↦ there less (some_at tree.nodes.now r (let w = slice_get_within tree.nodes.now i n here in omega (arith, less, w)))
    | inr past ↦
        (let few = length-take i typing.declared in
        let none : slice_index_or (take i typing.declared) r Unclear ≡ Unclear = get_or_past (take i typing.declared) r Unclear (omega (arith, few, past)) in
        absurd (false≢true (sym (ap (λ d. (named_by (meaning_by look (parameters_in (cut i typing).parameters (Some r)) d)).lvalue) none) ∙ h)))
  ]
    where
      there : r < i → (m : Node) × (slice_get tree.nodes.now r ≡ Some m) → HasSeenType file t it i
      there less x =
          let same_declared : slice_index_or (take i typing.declared) r Unclear ≡ slice_index_or typing.declared r Unclear = get_or-take i typing.declared r Unclear less in
          let so = declared_so look (parameters_in (cut i typing).parameters (Some r)) (slice_index_or (take i typing.declared) r Unclear) h in
          let made = ruled_at r x.0 x.1 in
          let object : slice_index_or typing.declared r Unclear ≡ Object so.row so.register = sym same_declared ∙ so.is in
          let row_is : so.row ≡ slice_index_or typing.named r 0 =
          sym (ap (row_or (slice_index_or typing.named r 0)) (sym made.declared ∙ object)) ∙ declared_row x.0.kind tree.nodes.now _ _ (slice_index_or typing.named r 0) _ _ in
          record { declarator = r; sees = sees; below = less; object = (so.row, (so.register, object)); type = same ∙ sym so.same ∙ ap look row_is }

  has_type : HasSeenType file t it i
  has_type = by (slice_index_or tree.visible.now i None) refl (ap (λ (s : Seen). s.lvalue) (sym fact) ∙ lvalue) type_is
    where
      by : (o : Option ℕ) → slice_index_or tree.visible.now i None ≡ o → (named_by (meaning o)).lvalue ≡ true → type_of_node t i ≡ type_of (named_by (meaning o))
          → HasSeenType file t it i
      by None q h same = absurd (false≢true h)
      by (Some r) q h same = by_declarator r q h same

pub typed : Laws.NamesHaveTheTypesTheySee
typed file t it i n at is lvalue = has_type file t it i n at is lvalue
