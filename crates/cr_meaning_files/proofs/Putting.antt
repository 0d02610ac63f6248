-- What the plans of initialisers put stands below their declarators, and an array is put a literal alone (C11 6.7.9).
use Rattle.std.proofs.Common.{◌≡◌, ℕ, zero, suc, ◌<◌, Bool, true, false, ◌&&◌, ◌||◌, List, [], ◌∷◌, ◌++◌, Option, None, Some, map, nat_lt, slice_get, refl, sym, subst, ap, ◌∙◌, arith}
use Rattle.std.proofs.lemmas.Bool.{and_parts, false≢true, lt-ltb}
use Rattle.cr_syntax.specs.declared.node.Kind.{Kind}
use Rattle.cr_syntax.specs.declared.node.Kind.TheVariants as kind
use Rattle.cr_syntax.specs.Tables.{rule_of, side_of}
use Rattle.cr_check_types.specs.declared.shape.Shape.{Shape}
use Rattle.cr_check_types.specs.Types.{Qualified}
use Rattle.cr_check_expressions.specs.Forms.{form_of}
use Rattle.cr_check_initialisers.specs.declared.lines.Line.{Line}
use Rattle.cr_check_initialisers.specs.Known.{Known}
use Rattle.cr_check_initialisers.specs.Places.{Place, opens}
use Rattle.cr_check_initialisers.specs.Plans.{Entry, put, excess, Fills, ends, exceeds, braces, whole, elided, loses, IsPlan, by_expression, by_list, entry_of}
use Rattle.cr_check_initialised.specs.Initialised.{Planned, IsFilled}
use Rattle.cr_typed.specs.declared.typed.Typed.{Typed}
use Rattle.cr_meaning_operations.specs.Operations.{kind_at, parts_at}
use Rattle.cr_meaning_typing.specs.Typed.Typing.{is_expression}
use Rattle.cr_meaning_declarations.specs.Units.Owned.{AreOfUnit}
use Rattle.cr_meaning_declarations.proofs.NamesLemmas.Parents.{IsPartOf}
use Rattle.cr_meaning_files.specs.Reached.{is_list, is_listing, lives}
use Rattle.cr_meaning_references.proofs.TreesLemmas.Grammar.{part_in, Stands}
use Rattle.cr_meaning_files.proofs.Tables.{initialiser_there}
use Rattle.cr_meaning_references.proofs.TreesLemmas.Tree.{has_part, as_part}
use Rattle.cr_meaning_files.proofs.Living.{goes, listing_goes}

-- ---- which nodes have a plan

pub lists_at : (k : Known) (b i : ℕ) → opens k b i ≡ true → k.listed i ≡ true
unfolding opens
lists_at k b i o = (and_parts (nat_lt i b) (k.listed i) o).1

not_list : (k : Known) (b i : ℕ) → i < b → opens k b i ≡ false → k.listed i ≡ false
unfolding opens
not_list k b i low o = ap (λ x. x && k.listed i) (sym (lt-ltb i b low)) ∙ o

module _ (t : Typed) (unit : AreOfUnit t) where
  -- ---- nodes below a declarator

  -- node i is an initialiser of node b, and is reached with the declarator
  pub record IsPut (d b i : ℕ) : Type 0 where
    pub part : IsPartOf t unit i b
    pub lists : is_listing (kind_at t b) ≡ true
    pub low : i < b
    pub under : i < d
    pub lives : lives t d ≡ true → lives t i ≡ true
    -- what goes up from initialisers to what has them goes up to the declarator
    pub climbs : (test : ℕ → Bool) → ((a c : ℕ) → IsPartOf t unit a c → is_listing (kind_at t c) ≡ true → (is_expression (form_of (kind_at t a)) || is_list (kind_at t a)) ≡ true → test a ≡ true → test c ≡ true)
        → test i ≡ true → test d ≡ true
    pub kinds : (is_expression (form_of (kind_at t i)) || is_list (kind_at t i)) ≡ true

  abbrev AreGiven : ℕ → ℕ → List ℕ → Type 0
  AreGiven d b [] = Unit {0}
  AreGiven d b (i ∷ is) = IsPut d b i × AreGiven d b is

  abbrev pub IsEntry : ℕ → Entry → Type 0
  IsEntry d (put p i b) = IsPut d b i × (is_list (kind_at t i) ≡ false)
  IsEntry d (excess b) = Unit {0}

  abbrev pub AreEntries : ℕ → List Entry → Type 0
  AreEntries d [] = Unit {0}
  AreEntries d (x ∷ xs) = IsEntry d x × AreEntries d xs

  one_more : (d : ℕ) (xs : List Entry) (x : Entry) → AreEntries d xs → IsEntry d x → AreEntries d (xs ++ x ∷ [])
  one_more d [] x all one = (one, tt)
  one_more d (y ∷ xs) x all one = (all.0, one_more d xs x all.1 one)

  given : (d b : ℕ) (ps : List ℕ) → ((k q : ℕ) → slice_get ps k ≡ Some q → IsPut d b q) → AreGiven d b ps
  given d b [] f = tt
  given d b (q ∷ ps) f = (f 0 q refl, given d b ps (λ k p e. f (suc k) p e))

  only_list : (k : Kind) → is_list k ≡ true → k ≡ kind.InitializerList
  only_list kind.InitializerList h = refl
  only_list k h = absurd (false≢true h)

  -- the initialisers of a list
  in_list : (d b i : ℕ) → IsPut d b i → is_list (kind_at t i) ≡ true → AreGiven d i (parts_at t i)
  unfolding rule_of
  in_list d b i one is = given d i (parts_at t i) part
    where
      kind_is : kind_at t i ≡ kind.InitializerList
      kind_is = only_list (kind_at t i) is

      part : (k q : ℕ) → slice_get (parts_at t i) k ≡ Some q → IsPut d i q
      part k q e =
          let h = has_part t unit i k q e in
          let stands : Stands (part_in (side_of kind.InitializerList) k) (kind_at t q) = subst (λ c. Stands (part_in (side_of c) k) (kind_at t q)) kind_is h.stands in
          let kinds = initialiser_there (part_in (side_of kind.InitializerList) k) (kind_at t q) refl stands in
          let low = h.below in
          let under = one.under in
          let lists : is_listing (kind_at t i) ≡ true = ap is_listing kind_is in
          record {
            part = as_part t unit i k q h;
            lists = lists;
            low = low;
            under = omega (arith, low, under);
            lives = λ live. goes t unit q i (as_part t unit i k q h) (listing_goes t unit q (kind_at t i) (kind_at t q) lists kinds) (one.lives live);
            climbs = λ test f e. one.climbs test f (f q i (as_part t unit i k q h) lists kinds e);
            kinds = kinds;
          }

  -- that of a declarator
  pub second : (d p : ℕ) → kind_at t d ≡ kind.InitDeclarator → slice_get (parts_at t d) 1 ≡ Some p → IsPut d d p
  unfolding rule_of
  second d p is e =
      let h = has_part t unit d 1 p e in
      let stands : Stands (part_in (side_of kind.InitDeclarator) 1) (kind_at t p) = subst (λ c. Stands (part_in (side_of c) 1) (kind_at t p)) is h.stands in
      let kinds = initialiser_there (part_in (side_of kind.InitDeclarator) 1) (kind_at t p) refl stands in
      let lists : is_listing (kind_at t d) ≡ true = ap is_listing is in
      record {
        part = as_part t unit d 1 p h;
        lists = lists;
        low = h.below;
        under = h.below;
        lives = λ live. goes t unit p d (as_part t unit d 1 p h) (listing_goes t unit p (kind_at t d) (kind_at t p) lists kinds) live;
        climbs = λ test f e. f p d (as_part t unit d 1 p h) lists kinds e;
        kinds = kinds;
      }

  -- ---- plans

  module _ (k : Known) (listed : (i : ℕ) → k.listed i ≡ is_list (kind_at t i)) (initialisers : (i : ℕ) → k.initialisers i ≡ parts_at t i) (d : ℕ) where
    in_braces : (b i : ℕ) → IsPut d b i → opens k b i ≡ true → AreGiven d i (k.initialisers i)
    in_braces b i one o = subst (AreGiven d i) (sym (initialisers i)) (in_list d b i one (sym (listed i) ∙ lists_at k b i o))

    alone : (b i : ℕ) → IsPut d b i → opens k b i ≡ false → is_list (kind_at t i) ≡ false
    alone b i one o = sym (listed i) ∙ not_list k b i one.low o

    filled : {ps : List Place} {b : ℕ} {is : List ℕ} {xs ys : List Entry} → Fills k ps b is xs ys → AreGiven d b is → AreEntries d xs → AreEntries d ys
    filled ends a x = x
    filled {xs = xs} (exceeds {b = b}) a x = one_more d xs (excess b) x tt
    filled (braces {b = b} {i = i} o inner rest) a x = filled rest a.1 (filled inner (in_braces b i a.0 o) x)
    filled {xs = xs} (whole {p = p} {b = b} {i = i} o takes rest) a x = filled rest a.1 (one_more d xs (put p i b) x (a.0, alone b i a.0 o))
    filled (elided o takes lost rest) a x = filled rest a x
    filled {xs = xs} (loses {p = p} {b = b} {i = i} o takes lost) a x = one_more d xs (put p i b) x (a.0, alone b i a.0 o)

    planned : (type : Qualified) (node : ℕ) (xs : List Entry) → IsPlan k type d node xs → IsPut d d node → AreEntries d xs
    planned type node xs (by_expression o e) one = subst (AreEntries d) (sym e) ((one, alone d node one o), tt)
    planned type node xs (by_list o fills) one = filled fills (in_braces d node one o) tt

    pub filled_if : (o : Option Planned) (type named : Qualified) (xs : List Entry) → IsFilled k d o type named xs → ((q : Planned) → o ≡ Some q → IsPut d d q.initialiser) → AreEntries d xs
    filled_if None type named xs h f = subst (AreEntries d) (sym h.1) tt
    filled_if (Some q) type named xs h f = planned named q.initialiser xs h.plan (f q refl)

  -- a line's own entry
  pub line_at : (d : ℕ) (shapes : List Shape) (lines : List Line) (m : ℕ) (x : Line) → AreEntries d (map (entry_of shapes) lines) → slice_get lines m ≡ Some x → IsEntry d (entry_of shapes x)
  line_at d shapes [] m x a e = absurd (cc e)
  line_at d shapes (y ∷ lines) zero x a e = let same : y ≡ x = cc e in subst (λ z. IsEntry d (entry_of shapes z)) same a.0
  line_at d shapes (y ∷ lines) (suc m) x a e = line_at d shapes lines m x a.1 e
