-- What is said of parts and of right sides, where their trees are rows of nodes.
use Rattle.std.proofs.Common.{◌≡◌, ℕ, ◌<◌, Bool, true, false, List, [], ◌∷◌, length, refl, sym, ap, subst, ◌∙◌, arith}
use Rattle.std.specs.List.{flat_map}
use Rattle.std.proofs.lemmas.Bool.{false≢true}
use Rattle.cr_tokens.specs.declared.token.Token.{Token}
use Rattle.cr_syntax.specs.declared.node.Kind.{Kind}
use Rattle.cr_syntax.specs.declared.node.Kind.TheVariants as kind
use Rattle.cr_syntax.specs.declared.node.Node.{Node}
use Rattle.cr_syntax.specs.declared.part.Part.{Part}
use Rattle.cr_syntax.specs.Scopes.{Scopes}
use Rattle.cr_syntax.specs.Symbols.{Depth}
use Rattle.cr_syntax.specs.Symbols as symbol
use Rattle.cr_syntax.specs.Trees.{Trees, none, one, ◌&◌}
use Rattle.cr_syntax.specs.Grammar.{Side, Alternative}
use Rattle.cr_syntax.specs.Kept.{AreBelow, PartsAreBelow, row_in}
use Rattle.cr_syntax.specs.Tables.{rule_of, part_of, side_of}
use Rattle.cr_syntax.proofs.Alternatives.{part_only, side_only}
use Rattle.cr_scopes_events.specs.Scripts.{inside, script_by}
use Rattle.cr_scopes_typedef_names.proofs.ParsedLemmas.Rows.{Single, node_of, parted, one_row, no_row}
use Rattle.cr_scopes_typedef_names.proofs.ParsedLemmas.Sides.{PartSort, SideSort, plain, finished, straight, part_sort, sort_of, SideSays, PartSays, stays, joined, last_one, next_one, last_many, next_many}
use Rattle.cr_scopes_typedef_names.proofs.ParsedLemmas.Declaring.{at, Goes, Makes, all_below, of_node, IsDeclared}

-- a node of these kinds does nothing but go inside its parts
abbrev pub is_plain_kind : Kind → Bool
is_plain_kind kind.FunctionDefinition = false
is_plain_kind kind.Declaration = false
is_plain_kind kind.InitDeclarator = false
is_plain_kind kind.Parameter = false
is_plain_kind kind.NameDeclarator = false
is_plain_kind kind.GroupDeclarator = false
is_plain_kind kind.PointerDeclarator = false
is_plain_kind kind.ArrayDeclarator = false
is_plain_kind kind.FunctionDeclarator = false
is_plain_kind kind.MemberDeclaration = false
is_plain_kind kind.StructContent = false
is_plain_kind kind.EnumContent = false
is_plain_kind kind.Enumerator = false
is_plain_kind kind.StructTag = false
is_plain_kind kind.EnumTag = false
is_plain_kind kind.TypedefName = false
is_plain_kind kind.Identifier = false
is_plain_kind kind.Call = false
is_plain_kind kind.Compound = false
is_plain_kind kind.If = false
is_plain_kind kind.Switch = false
is_plain_kind kind.While = false
is_plain_kind kind.Do = false
is_plain_kind kind.For = false
is_plain_kind k = true

abbrev pub is_straight : SideSort → Bool
is_straight finished = true
is_straight straight = true
is_straight y = false

plain_part : (k : Kind) → is_plain_kind k ≡ true → part_sort (part_of k) ≡ plain
unfolding rule_of
plain_part kind.FunctionDefinition u = absurd (false≢true u)
plain_part kind.Declaration u = absurd (false≢true u)
plain_part kind.InitDeclarator u = absurd (false≢true u)
plain_part kind.Parameter u = absurd (false≢true u)
plain_part kind.NameDeclarator u = absurd (false≢true u)
plain_part kind.GroupDeclarator u = absurd (false≢true u)
plain_part kind.PointerDeclarator u = absurd (false≢true u)
plain_part kind.ArrayDeclarator u = absurd (false≢true u)
plain_part kind.FunctionDeclarator u = absurd (false≢true u)
plain_part kind.MemberDeclaration u = absurd (false≢true u)
plain_part kind.StructContent u = absurd (false≢true u)
plain_part kind.EnumContent u = absurd (false≢true u)
plain_part kind.Enumerator u = absurd (false≢true u)
plain_part kind.StructTag u = absurd (false≢true u)
plain_part kind.EnumTag u = absurd (false≢true u)
plain_part kind.TypedefName u = absurd (false≢true u)
plain_part kind.Identifier u = absurd (false≢true u)
plain_part kind.Call u = absurd (false≢true u)
plain_part kind.Compound u = absurd (false≢true u)
plain_part kind.If u = absurd (false≢true u)
plain_part kind.Switch u = absurd (false≢true u)
plain_part kind.While u = absurd (false≢true u)
plain_part kind.Do u = absurd (false≢true u)
plain_part kind.For u = absurd (false≢true u)
plain_part _ u = refl

plain_side : (k : Kind) → is_plain_kind k ≡ true → is_straight (sort_of (side_of k)) ≡ true
unfolding rule_of
plain_side kind.FunctionDefinition u = absurd (false≢true u)
plain_side kind.Declaration u = absurd (false≢true u)
plain_side kind.InitDeclarator u = absurd (false≢true u)
plain_side kind.Parameter u = absurd (false≢true u)
plain_side kind.NameDeclarator u = absurd (false≢true u)
plain_side kind.GroupDeclarator u = absurd (false≢true u)
plain_side kind.PointerDeclarator u = absurd (false≢true u)
plain_side kind.ArrayDeclarator u = absurd (false≢true u)
plain_side kind.FunctionDeclarator u = absurd (false≢true u)
plain_side kind.MemberDeclaration u = absurd (false≢true u)
plain_side kind.StructContent u = absurd (false≢true u)
plain_side kind.EnumContent u = absurd (false≢true u)
plain_side kind.Enumerator u = absurd (false≢true u)
plain_side kind.StructTag u = absurd (false≢true u)
plain_side kind.EnumTag u = absurd (false≢true u)
plain_side kind.TypedefName u = absurd (false≢true u)
plain_side kind.Identifier u = absurd (false≢true u)
plain_side kind.Call u = absurd (false≢true u)
plain_side kind.Compound u = absurd (false≢true u)
plain_side kind.If u = absurd (false≢true u)
plain_side kind.Switch u = absurd (false≢true u)
plain_side kind.While u = absurd (false≢true u)
plain_side kind.Do u = absurd (false≢true u)
plain_side kind.For u = absurd (false≢true u)
plain_side _ u = refl

plain_script : (tokens : List Token) (nodes : List Node) (q : ℕ) (n : Node) (k : Kind) → is_plain_kind k ≡ true → script_by k tokens nodes q n ≡ inside n.parts
plain_script tokens nodes q n kind.FunctionDefinition u = absurd (false≢true u)
plain_script tokens nodes q n kind.Declaration u = absurd (false≢true u)
plain_script tokens nodes q n kind.InitDeclarator u = refl
plain_script tokens nodes q n kind.Parameter u = absurd (false≢true u)
plain_script tokens nodes q n kind.FunctionDeclarator u = absurd (false≢true u)
plain_script tokens nodes q n kind.StructContent u = absurd (false≢true u)
plain_script tokens nodes q n kind.EnumContent u = absurd (false≢true u)
plain_script tokens nodes q n kind.Enumerator u = absurd (false≢true u)
plain_script tokens nodes q n kind.StructTag u = absurd (false≢true u)
plain_script tokens nodes q n kind.EnumTag u = absurd (false≢true u)
plain_script tokens nodes q n kind.TypedefName u = absurd (false≢true u)
plain_script tokens nodes q n kind.Identifier u = absurd (false≢true u)
plain_script tokens nodes q n kind.Call u = absurd (false≢true u)
plain_script tokens nodes q n kind.Compound u = absurd (false≢true u)
plain_script tokens nodes q n kind.If u = absurd (false≢true u)
plain_script tokens nodes q n kind.Switch u = absurd (false≢true u)
plain_script tokens nodes q n kind.While u = absurd (false≢true u)
plain_script tokens nodes q n kind.Do u = absurd (false≢true u)
plain_script tokens nodes q n kind.For u = absurd (false≢true u)
plain_script tokens nodes q n _ u = refl

module _ (spelling : ℕ → List ℕ) (typed : ℕ → Bool) (tokens : List Token) (nodes : List Node) (low : PartsAreBelow nodes) where
  abbrev pub Says : PartSort → Bool → Scopes → Scopes → Trees → ℕ → Type 0
  Says x type c e t q = PartSays spelling typed tokens nodes (λ c' e' q'. IsDeclared spelling typed tokens nodes low t c' e' q') x type c e q

  abbrev pub SaysOf : SideSort → Bool → Scopes → Scopes → List ℕ → Type 0
  SaysOf y type c e ps = SideSays spelling typed tokens nodes y type c e ps

  -- of a part, whose tree is that of some node
  pub record PartHolds (p : Part) (type : Bool) (c e : Scopes) (t : Trees) : Type 0 where
    pub holds : (q : ℕ) → q < length nodes → row_in nodes (q ∷ []) ≡ t → Says (part_sort p) type c e t q

  -- of the rest of a right side, whose trees are those of a row of nodes
  pub record SideHolds (s : Side) (type : Bool) (c e : Scopes) (t : Trees) : Type 0 where
    pub holds : (ps : List ℕ) → AreBelow ps (length nodes) → row_in nodes ps ≡ t → SaysOf (sort_of s) type c e ps

  -- ---- rows

  pub with_row : {t : Trees} (u : Trees) (P : List ℕ → Type 0) → Single t
      → ((q : ℕ) (qs : List ℕ) → q < length nodes → row_in nodes (q ∷ []) ≡ t → AreBelow qs (length nodes) → row_in nodes qs ≡ u → P (q ∷ qs))
      → (ps : List ℕ) → AreBelow ps (length nodes) → row_in nodes ps ≡ (t & u) → P ps
  with_row u P alone f ps under is = let x = parted nodes low u ps alone under is in subst P (sym x.is) (f x.first x.others x.within x.tree x.rest x.trees)

  pub with_one : {t : Trees} (P : List ℕ → Type 0) → Single t → ((q : ℕ) → q < length nodes → row_in nodes (q ∷ []) ≡ t → P (q ∷ []))
      → (ps : List ℕ) → AreBelow ps (length nodes) → row_in nodes ps ≡ t → P ps
  with_one P alone f ps under is =
      let x = one_row nodes low ps alone under is in
      subst P (sym (x.is ∙ ap (λ qs. x.first ∷ qs) (no_row nodes low x.others x.rest x.trees))) (f x.first x.within x.tree)

  pub no_parts : {s : Side} {type : Bool} {c e : Scopes} → SideHolds s type c e none → SaysOf (sort_of s) type c e []
  no_parts h = h.holds [] (λ i lt. absurd (omega (arith, lt))) refl

  -- ---- symbols

  pub side_part : {l : Depth} {p : Part} {s : Side} {r v w : Bool} {c e f : Scopes} {t u : Trees} → Single t → PartHolds p r c e t → SideHolds s v e f u → SideHolds (symbol.Part l p ∷ s) w c f (t & u)
  side_part {l = l} {p = p} {s = s} {r = r} {v = v} {w = w} {c = c} {e = e} {f = f} {t = t} {u = u} alone x y = record {
    holds = with_row u (λ ps. SaysOf (sort_of (symbol.Part l p ∷ s)) w c f ps) alone
        (λ q qs lt is under rest. joined spelling typed tokens nodes (λ c' e' q'. IsDeclared spelling typed tokens nodes low t c' e' q') (part_sort p) (sort_of s) r v w c e f q qs (x.holds q lt is) (y.holds qs under rest));
  }

  pub side_many : {l : Depth} {p : Part} {s : Side} {r v : Bool} {c e f : Scopes} {t u : Trees} → Single t → PartHolds p r c e t → SideHolds (symbol.Many l p ∷ s) v e f u → SideHolds (symbol.Many l p ∷ s) r c f (t & u)
  side_many {l = l} {p = p} {s = s} {r = r} {v = v} {c = c} {e = e} {f = f} {t = t} {u = u} alone x y = record {
    holds = with_row u (λ ps. SaysOf (sort_of (symbol.Many l p ∷ s)) r c f ps) alone
        (λ q qs lt is under rest. next_many spelling typed tokens nodes (λ c' e' q'. IsDeclared spelling typed tokens nodes low t c' e' q') (part_sort p) (sort_of s) v r c e f q qs (x.holds q lt is) (y.holds qs under rest));
  }

  pub side_optional : {l : Depth} {p : Part} {s : Side} {r v : Bool} {c e f : Scopes} {t u : Trees} → Single t → PartHolds p r c e t → SideHolds s v e f u → SideHolds (symbol.Optional l p ∷ s) r c f (t & u)
  side_optional {l = l} {p = p} {s = s} {r = r} {v = v} {c = c} {e = e} {f = f} {t = t} {u = u} alone x y = record {
    holds = with_row u (λ ps. SaysOf (sort_of (symbol.Optional l p ∷ s)) r c f ps) alone
        (λ q qs lt is under rest. last_many spelling typed tokens nodes (λ c' e' q'. IsDeclared spelling typed tokens nodes low t c' e' q') (part_sort p) (sort_of s) v r c e f q qs (x.holds q lt is) (y.holds qs under rest));
  }

  pub side_more : {l : Depth} {p : Part} {s : Side} {r : Bool} {c e f : Scopes} {t u : Trees} → Single t → PartHolds p r c e t → SideHolds (symbol.List l p ∷ s) r e f u → SideHolds (symbol.List l p ∷ s) r c f (t & u)
  side_more {l = l} {p = p} {s = s} {r = r} {c = c} {e = e} {f = f} {t = t} {u = u} alone x y = record {
    holds = with_row u (λ ps. SaysOf (sort_of (symbol.List l p ∷ s)) r c f ps) alone
        (λ q qs lt is under rest. next_one spelling typed tokens nodes (λ c' e' q'. IsDeclared spelling typed tokens nodes low t c' e' q') (part_sort p) (sort_of s) r c e f q qs (x.holds q lt is) (y.holds qs under rest));
  }

  pub side_last : {l : Depth} {p : Part} {s : Side} {r v : Bool} {c e f : Scopes} {t : Trees} → Single t → PartHolds p r c e t → SideHolds s v e f none → SideHolds (symbol.List l p ∷ s) r c f t
  side_last {l = l} {p = p} {s = s} {r = r} {v = v} {c = c} {e = e} {f = f} {t = t} alone x y = record {
    holds = with_one (λ ps. SaysOf (sort_of (symbol.List l p ∷ s)) r c f ps) alone
        (λ q lt is. last_one spelling typed tokens nodes (λ c' e' q'. IsDeclared spelling typed tokens nodes low t c' e' q') (part_sort p) (sort_of s) v r c e f q [] (x.holds q lt is) (no_parts y));
  }

  -- a part that ends its node, behind qualifiers
  pub side_qualified : {p : Part} {r : Bool} {c e : Scopes} {t : Trees} → Single t → PartHolds p r c e t → SideHolds (symbol.Qualified p ∷ []) r c e t
  side_qualified {p = p} {r = r} {c = c} {e = e} {t = t} alone x = record {
    holds = with_one (λ ps. SaysOf (sort_of (symbol.Qualified p ∷ [])) r c e ps) alone
        (λ q lt is. last_many spelling typed tokens nodes (λ c' e' q'. IsDeclared spelling typed tokens nodes low t c' e' q') (part_sort p) finished r r c e e q [] (x.holds q lt is) (refl, refl));
  }

  pub side_maybe_qualified : {p : Part} {r : Bool} {c e : Scopes} {t : Trees} → Single t → PartHolds p r c e t → SideHolds (symbol.OptionalQualified p ∷ []) r c e t
  side_maybe_qualified {p = p} {r = r} {c = c} {e = e} {t = t} alone x = record {
    holds = with_one (λ ps. SaysOf (sort_of (symbol.OptionalQualified p ∷ [])) r c e ps) alone
        (λ q lt is. last_many spelling typed tokens nodes (λ c' e' q'. IsDeclared spelling typed tokens nodes low t c' e' q') (part_sort p) finished r r c e e q [] (x.holds q lt is) (refl, refl));
  }

  -- ---- nodes that go inside their parts

  pub straight_on : (y : SideSort) (v : Bool) (c e : Scopes) (ps : List ℕ) → is_straight y ≡ true → SaysOf y v c e ps → Goes spelling typed tokens nodes low c e (flat_map (at spelling typed tokens nodes low) ps)
  straight_on finished v c e ps u h = stays spelling typed tokens nodes h.0 h.1
  straight_on straight v c e ps u h = h
  straight_on y v c e ps u h = absurd (false≢true u)

  pub generic : {p : Part} {k : Kind} {s : Side} {v w : Bool} {c e : Scopes} {i j : ℕ} {t : Trees} → Alternative p k s → is_plain_kind k ≡ true → SideHolds s v c e t → PartHolds p w c e (one k i j t)
  generic {p = p} {k = k} {s = s} {v = v} {w = w} {c = c} {e = e} {i = i} {j = j} {t = t} m u h = record {
    holds = λ q lt is.
        let n = node_of nodes low lt is in
        let own = straight_on (sort_of s) v c e n.own.parts (ap (λ x. is_straight (sort_of x)) (sym (side_only m)) ∙ plain_side k u) (h.holds n.own.parts n.within n.parts) in
        subst (λ x. Says x w c e (one k i j t) q) (sym (ap part_sort (sym (part_only m)) ∙ plain_part k u))
        (of_node spelling typed tokens nodes low n (subst (λ steps. Makes spelling typed tokens nodes low q c e steps) (sym (plain_script tokens nodes q n.own k u)) (all_below spelling typed tokens nodes low q n.own.parts n.below own)));
  }
