-- What holds of a tree holds of another one with the same values, wherever its columns lie.
use Rattle.std.proofs.Common.{◌≡◌, ℕ, ◌⊎◌, ◌∷◌, [], List, Bool, Option, None, Some, slice_get, slice_index_or, if◌then◌else◌, not, ◌&&◌, refl, ap, subst, ◌∙◌, inl, inr}
use Rattle.cr_syntax.specs.declared.node.Kind.{Kind}
use Rattle.cr_syntax.specs.declared.node.Kind.TheVariants as kind
use Rattle.cr_syntax.specs.declared.node.Node.{Node}
use Rattle.cr_check_enclosing.specs.declared.context.Place.{Place}
use Rattle.cr_check_types.specs.declared.shape.Shape.{Shape}
use Rattle.cr_check_types.specs.Types.{Qualified, type_at}
use Rattle.cr_check_expressions.specs.declared.least.Break.{Break}
use Rattle.cr_check_expressions.specs.Breaks.{IsAmong, fault}
use Rattle.cr_check_declarators.specs.declared.words.Specified.{Specified}
use Rattle.cr_check_declarators.specs.declared.declarator.Declarator.{Declarator}
use Rattle.cr_check_declarators.specs.declared.linkages.Declaration.{Declaration}
use Rattle.cr_check_declarators.specs.Specifiers.{is_one_type_of, storage_fault_of, inline_fault_of, volatile_fault_of}
use Rattle.cr_check_declarators.specs.Structures.{is_too_large_of}
use Rattle.cr_check_declarations.specs.declared.tree.Tag.{Tag}
use Rattle.cr_check_declarations.specs.declared.tree.Tree.{Tree}
use Rattle.cr_check_declarations.specs.Before.{Before}
use Rattle.cr_check_declarations.specs.Named.{is_declarator, declaration_of, named_by, declared_by as declares_by, parameters_by}
use Rattle.cr_check_declarations.specs.Faults as declarations
use Rattle.cr_check_declarations.specs.Faults.{Has, has_at, place_of, fault_at, token_if, name_in}
use Rattle.cr_check_initialisers.specs.Known as initial
use Rattle.cr_check_initialisers.specs.Plans.{Entry as Planned, entries_of}
use Rattle.cr_check_initialised.specs.Anchors.{anchor_at, anchor_by, names_object}
use Rattle.cr_check_initialised.specs.Durations.{is_static}
use Rattle.cr_check_initialised.specs.Faults as initialised
use Rattle.cr_check_initialised.specs.Initialised.{IsFilled, named_first, planned_by}
use Rattle.cr_check_linkage.specs.NameTypes.{NameType, type_as, type_or, parameters_or}
use Rattle.cr_check_linkage.specs.Linked.{Past, linked_in, linkage_by, declaration_by, declaration_at, with_linked, linked_by, seen_by}
use Rattle.cr_check_linkage.specs.Faults as linked
use Rattle.cr_check_expressions.specs.Forms.{form_of}
use Rattle.cr_check_unit.specs.declared.typing.Typing.{Typing}
use Rattle.cr_check_unit.specs.declared.entry.Entry.{Entry}
use Rattle.cr_check_unit.specs.declared.statements.Marked.{Marked}
use Rattle.cr_check_unit.specs.Typing.{cut, entry_at, before_in, known_in, declared_in, object_in, past_in, own_named, seen_type, name_type, IsRuled, IsRuledIf, IsTyping}
use Rattle.cr_check_unit.specs.Breaks.{expression_faults, declaration_faults, object_if, initialiser_faults, linked_faults, IsNodeBreak}
use Rattle.cr_check_unit.specs.Statements.{AreMarked, IsUnitBroken}

-- the same values, wherever they lie
pub record SameTree (t s : Tree) : Type 0 where
  pub file : t.file.now ≡ s.file.now
  pub tokens : t.tokens.now ≡ s.tokens.now
  pub nodes : t.nodes.now ≡ s.nodes.now
  pub names : t.names.now ≡ s.names.now
  pub above : t.above.now ≡ s.above.now
  pub previous : t.previous.now ≡ s.previous.now
  pub around : t.around.now ≡ s.around.now
  pub visible : t.visible.now ≡ s.visible.now
  pub earlier : t.earlier.now ≡ s.earlier.now
  pub same : t.same.now ≡ s.same.now
  pub tags : t.tags.now ≡ s.tags.now

-- the values of a tree at the places of another one
abbrev placed : Tree → Tree → Tree
placed t s = record {
  file = record { ref_ptr = t.file.ref_ptr; now = s.file.now };
  tokens = record { ref_ptr = t.tokens.ref_ptr; now = s.tokens.now };
  nodes = record { ref_ptr = t.nodes.ref_ptr; now = s.nodes.now };
  names = record { ref_ptr = t.names.ref_ptr; now = s.names.now };
  above = record { ref_ptr = t.above.ref_ptr; now = s.above.now };
  previous = record { ref_ptr = t.previous.ref_ptr; now = s.previous.now };
  around = record { ref_ptr = t.around.ref_ptr; now = s.around.now };
  visible = record { ref_ptr = t.visible.ref_ptr; now = s.visible.now };
  earlier = record { ref_ptr = t.earlier.ref_ptr; now = s.earlier.now };
  same = record { ref_ptr = t.same.ref_ptr; now = s.same.now };
  tags = record { ref_ptr = t.tags.ref_ptr; now = s.tags.now };
}

is_placed : (t s : Tree) → SameTree t s → t ≡ placed t s
is_placed t s h = λ x. record {
  file = record { ref_ptr = t.file.ref_ptr; now = h.file x };
  tokens = record { ref_ptr = t.tokens.ref_ptr; now = h.tokens x };
  nodes = record { ref_ptr = t.nodes.ref_ptr; now = h.nodes x };
  names = record { ref_ptr = t.names.ref_ptr; now = h.names x };
  above = record { ref_ptr = t.above.ref_ptr; now = h.above x };
  previous = record { ref_ptr = t.previous.ref_ptr; now = h.previous x };
  around = record { ref_ptr = t.around.ref_ptr; now = h.around x };
  visible = record { ref_ptr = t.visible.ref_ptr; now = h.visible x };
  earlier = record { ref_ptr = t.earlier.ref_ptr; now = h.earlier x };
  same = record { ref_ptr = t.same.ref_ptr; now = h.same x };
  tags = record { ref_ptr = t.tags.ref_ptr; now = h.tags x };
}

-- All that is read of a tree is its values; where a word asks first what a node or a column has, it's read case by case.
module _ (t s : Tree) where
  -- ---- types

  named_same : (k : Kind) (said : Specified) (own : Declarator) (derived : Qualified) (b : Before) (i : ℕ) (n : Node)
      → named_by k (placed t s) said own derived b i n ≡ named_by k s said own derived b i n
  named_same kind.TypeName said own derived b i n = refl
  named_same kind.Parameter said own derived b i n = refl
  named_same kind.InitDeclarator said own derived b i n = refl
  named_same k said own derived b i n = refl

  static_same : (said : ℕ → Specified) (node : Option ℕ) → is_static (placed t s) said node ≡ is_static s said node
  static_same said None = refl
  static_same said (Some node) = refl

  -- ---- declarations of a name

  linkage_same : (said : ℕ → Specified) (own : Declarator) (visible : Option Declaration) (i : ℕ) (declaration : Option ℕ)
      → linkage_by (placed t s) said own visible i declaration ≡ linkage_by s said own visible i declaration
  linkage_same said own visible i None = refl
  linkage_same said own visible i (Some declaration) = refl

  declaration_same : (said : ℕ → Specified) (own : Declarator) (linked : ℕ → Option Declaration) (i : ℕ)
      → declaration_at (placed t s) said own linked i ≡ declaration_at s said own linked i
  declaration_same said own linked i =
      let declaration = declaration_of s.nodes.now s.above.now i in
      ap (λ linkage. declaration_by s i linkage declaration)
      (linkage_same said own (linked_in linked (slice_index_or s.earlier.now i None)) i declaration)

  linked_same : (k : Kind) (said : ℕ → Specified) (own : Declarator) (linked : ℕ → Option Declaration) (i : ℕ) (n : Node)
      → linked_by k (placed t s) said own linked i n ≡ linked_by k s said own linked i n
  linked_same kind.InitDeclarator said own linked i n = refl
  linked_same k said own linked i n =
      ap (λ does. if is_declarator k then with_linked (linked_in linked (slice_index_or s.same.now i None)) does else None)
      (declaration_same said own linked i)

  -- ---- what declarations break

  tag_same : (k : Kind) (i : ℕ) (tag : Option Tag) → declarations.tag_fault k (placed t s) i tag ≡ declarations.tag_fault k s i tag
  tag_same k i None = refl
  tag_same k i (Some tag) = refl

  specifiers_same : (own : Has) (at : Place) (i : ℕ) (n : Node)
      → declarations.specifier_faults own (placed t s) at i n ≡ declarations.specifier_faults own s at i n
  specifiers_same own at i n =
      ap (λ tag.
      fault 1 n.first (declarations.is_whole s i && not (is_one_type_of own.specified))
      ∷ fault_at 2 (token_if (declarations.is_whole s i && declarations.is_lone at) (storage_fault_of own.specified at Bool.false))
      ∷ fault_at 4 (token_if (declarations.is_whole s i && declarations.is_lone at) (inline_fault_of own.specified at Bool.false))
      ∷ tag
      ∷ fault 7 (declarations.brace_before s.nodes.now n) (is_too_large_of own.layout)
      ∷ fault_at 41 (token_if (declarations.is_whole s i) (volatile_fault_of own.specified at own.named))
      ∷ [])
      (tag_same n.kind i (slice_index_or s.tags.now i None))

  whole_same : (own : Has) (b : Before) (i : ℕ) (declaration : Option ℕ)
      → declarations.whole_faults own b (placed t s) i declaration ≡ declarations.whole_faults own b s i declaration
  whole_same own b i None = refl
  whole_same own b i (Some declaration) = refl

  other_same : (k : Kind) (own : Has) (b : Before) (i : ℕ) (n : Node)
      → declarations.other_faults k own b (placed t s) i n ≡ declarations.other_faults k own b s i n
  other_same k own b i n = λ x.
      if declarations.is_specifier k then specifiers_same own (place_of s i) i n x
      else (if is_declarator k then whole_same own b i (declaration_of s.nodes.now s.above.now i) x else [])

  declaration_faults_same : (k : Kind) (own : Has) (b : Before) (i : ℕ) (n : Node)
      → declarations.faults_in k own b (placed t s) i n ≡ declarations.faults_in k own b s i n
  declaration_faults_same kind.Declaration own b i n = refl
  declaration_faults_same kind.FunctionDefinition own b i n = refl
  declaration_faults_same kind.InitDeclarator own b i n = refl
  declaration_faults_same kind.Enumerator own b i n = refl
  declaration_faults_same k own b i n = other_same k own b i n

  initialiser_faults_same : (kind : Kind) (k : initial.Known) (b : Before) (bracket : Option ℕ) (object : Option Qualified) (completed : Qualified)
      (xs : List Planned) (i : ℕ) (n : Node)
      → initialised.faults_in kind k (placed t s) b bracket object completed xs i n ≡ initialised.faults_in kind k s b bracket object completed xs i n
  initialiser_faults_same kind.InitDeclarator k b bracket object completed xs i n = refl
  initialiser_faults_same other k b bracket object completed xs i n = refl

  library_same : (token : Option ℕ) → linked.library_at (placed t s) token ≡ linked.library_at s token
  library_same None = refl
  library_same (Some token) = refl

  again_same : (all : Option Declaration) (said : ℕ → Specified) (own : Declarator) (past : Past) (now : NameType) (i : ℕ)
      → linked.linked_faults all (placed t s) said own past now i ≡ linked.linked_faults all s said own past now i
  again_same None said own past now i = refl
  again_same (Some all) said own past now i = λ x.
      let name = name_in s.nodes.now (Some i) in
      linked.name_faults past (slice_index_or s.same.now i None) name (library_same name x) (declaration_same said own past.linked i x) now

  linked_faults_same : (k : Kind) (all : Option Declaration) (said : ℕ → Specified) (own : Declarator) (past : Past) (now : NameType) (i : ℕ) (n : Node)
      → linked.faults_in k all (placed t s) said own past now i n ≡ linked.faults_in k all s said own past now i n
  linked_faults_same kind.InitDeclarator all said own past now i n = refl
  linked_faults_same k all said own past now i n =
      ap (λ faults. if is_declarator k then faults else []) (again_same all said own past now i)

  -- ---- what a node breaks

  declared_breaks : (shapes : List Shape) (y : Typing) (e : Entry) (i : ℕ) (n : Option Node)
      → declaration_faults (placed t s) shapes y e i n ≡ declaration_faults s shapes y e i n
  declared_breaks shapes y e i None = refl
  declared_breaks shapes y e i (Some n) = declaration_faults_same n.kind (has_at shapes e.own) (before_in shapes y) i n

  initialised_breaks : (shapes : List Shape) (y : Typing) (e : Entry) (i : ℕ) (n : Option Node)
      → initialiser_faults (placed t s) shapes y e i n ≡ initialiser_faults s shapes y e i n
  initialised_breaks shapes y e i None = refl
  initialised_breaks shapes y e i (Some n) =
      initialiser_faults_same n.kind (known_in shapes s y) (before_in shapes y) e.own.declarator.sizeless (object_if shapes y (Some n))
      (type_at shapes e.own.named) (entries_of shapes e.lines) i n

  linked_breaks : (shapes : List Shape) (y : Typing) (e : Entry) (i : ℕ) (n : Option Node)
      → linked_faults (placed t s) shapes y e i n ≡ linked_faults s shapes y e i n
  linked_breaks shapes y e i None = refl
  linked_breaks shapes y e i (Some n) =
      linked_faults_same n.kind e.linked (before_in shapes y).specified e.own.declarator (past_in shapes y) (name_type shapes e) i n

  node_breaks : (texts : List (List ℕ)) (shapes : List Shape) (y : Typing) (e : Entry) (i : ℕ) (n : Option Node) (b : Break)
      → IsNodeBreak (placed t s) texts shapes y e i n b → IsNodeBreak s texts shapes y e i n b
  node_breaks texts shapes y e i n b h = subst (λ P. P) (λ x.
      IsAmong (expression_faults s texts shapes y e i n) b
      ⊎ (IsAmong (declared_breaks shapes y e i n x) b
      ⊎ (IsAmong (initialised_breaks shapes y e i n x) b ⊎ IsAmong (linked_breaks shapes y e i n x) b))) h

  unit_breaks : (texts : List (List ℕ)) (shapes : List Shape) (y : Typing) (m : Marked) (b : Break)
      → IsUnitBroken (placed t s) texts shapes y m b → IsUnitBroken s texts shapes y m b
  unit_breaks texts shapes y m b (inl h) = inl (record {
    node = h.node;
    among = node_breaks texts shapes (cut h.node y) (entry_at y h.node) h.node (slice_get s.nodes.now h.node) b h.among;
  })
  unit_breaks texts shapes y m b (inr h) = inr h

  -- ---- typings

  own_same : (shapes : List Shape) (y : Typing) (e : Entry) (i : ℕ) (n : Node)
      → own_named shapes (placed t s) y e i n ≡ own_named shapes s y e i n
  own_same shapes y e i n =
      named_same n.kind e.own.specified e.own.declarator (type_at shapes e.own.derivations) (before_in shapes y) i n

  seen_same : (shapes : List Shape) (y : Typing) (e : Entry) (i : ℕ) (n : Node)
      → seen_type shapes (placed t s) y e i n ≡ seen_type shapes s y e i n
  seen_same shapes y e i n =
      ap (λ type. seen_by e.linked (past_in shapes y) (slice_index_or s.earlier.now i None)
      (type_as (declares_by n.kind s.nodes.now (before_in shapes y).specified e.own.declarator 0 e.own.enumerated (declaration_of s.nodes.now s.above.now i))
      type (parameters_by n.kind s.nodes.now (before_in shapes y) n)))
      (own_same shapes y e i n)

  ruled_same : (texts : List (List ℕ)) (shapes : List Shape) (y : Typing) (e : Entry) (i : ℕ) (n : Node)
      → IsRuled (placed t s) texts shapes y e i n → IsRuled s texts shapes y e i n
  ruled_same texts shapes y e i n h =
      let b = before_in shapes y in
      let node = slice_index_or s.visible.now i None in
      let meaning = declared_in shapes y node in
      record {
        fact = h.fact;
        specified = h.specified;
        declarator = h.declarator;
        derived = h.derived;
        linked = h.linked ∙ linked_same n.kind b.specified e.own.declarator (past_in shapes y).linked i n;
        filled = subst (λ type. IsFilled (known_in shapes s y) i (planned_by n.kind y.layouts (object_in shapes y n) n.parts) type
            (type_at shapes e.own.named) (entries_of shapes e.lines))
            (λ x. named_first n.kind (object_in shapes y n) (type_or (own_same shapes y e i n x) (seen_same shapes y e i n x))) h.filled;
        enumerated = h.enumerated;
        declared = h.declared;
        parameters = h.parameters ∙ ap (parameters_or (parameters_by n.kind s.nodes.now b n)) (seen_same shapes y e i n);
        composite = h.composite;
        composite_parameters = h.composite_parameters;
        members = h.members;
        layout = h.layout;
        fixed = h.fixed;
        anchor = h.anchor
            ∙ ap (λ static. anchor_by (form_of n.kind) b (anchor_at y.anchors) (names_object meaning && static) n.parts)
            (static_same b.specified node);
      }

  each_same : (texts : List (List ℕ)) (shapes : List Shape) (y : Typing) (e : Entry) (i : ℕ) (n : Option Node)
      → IsRuledIf (placed t s) texts shapes y e i n → IsRuledIf s texts shapes y e i n
  each_same texts shapes y e i None h = tt
  each_same texts shapes y e i (Some n) h = ruled_same texts shapes y e i n h

  typing_same : (texts : List (List ℕ)) (shapes : List Shape) (y : Typing) → IsTyping (placed t s) texts shapes y → IsTyping s texts shapes y
  typing_same texts shapes y h = record {
    none = h.none;
    whole = h.whole;
    each = λ i. each_same texts shapes (cut i y) (entry_at y i) i (slice_get s.nodes.now i) (h.each i);
  }

  marked_same : (shapes : List Shape) (y : Typing) (m : Marked) → AreMarked shapes (placed t s) y m → AreMarked shapes s y m
  marked_same shapes y m h = record { results = h.results; again = h.again; labels = h.labels }

-- ---- so from one tree to the other

pub typing_moved : (t s : Tree) (texts : List (List ℕ)) (shapes : List Shape) (y : Typing) → SameTree t s → IsTyping t texts shapes y
    → IsTyping s texts shapes y
typing_moved t s texts shapes y same h = typing_same t s texts shapes y (subst (λ u. IsTyping u texts shapes y) (is_placed t s same) h)

pub marked_moved : (t s : Tree) (shapes : List Shape) (y : Typing) (m : Marked) → SameTree t s → AreMarked shapes t y m → AreMarked shapes s y m
marked_moved t s shapes y m same h = marked_same t s shapes y m (subst (λ u. AreMarked shapes u y m) (is_placed t s same) h)

pub breaks_moved : (t s : Tree) (texts : List (List ℕ)) (shapes : List Shape) (y : Typing) (m : Marked) (b : Break) → SameTree t s
    → IsUnitBroken t texts shapes y m b → IsUnitBroken s texts shapes y m b
breaks_moved t s texts shapes y m b same h =
    unit_breaks t s texts shapes y m b (subst (λ u. IsUnitBroken u texts shapes y m b) (is_placed t s same) h)

pub static_moved : (t s : Tree) (said : ℕ → Specified) (node : Option ℕ) → SameTree t s → is_static t said node ≡ is_static s said node
static_moved t s said node same = ap (λ u. is_static u said node) (is_placed t s same) ∙ static_same t s said node
