-- The initialiser of an array of unknown size asks for an element: each list in braces that has a place puts something.
use Rattle.std.proofs.Common.{◌≡◌, ℕ, zero, suc, ◌+◌, ◌≤◌, Bool, true, false, cond, ◌&&◌, List, [], ◌∷◌, ◌++◌, length, replicate, refl, sym, ap, ◌∙◌, arith}
use Rattle.std.proofs.lemmas.Bool.{false≢true, and_parts}
use Rattle.cr_syntax.specs.declared.ctype.CType.TheVariants.{Struct}
use Rattle.cr_check_types.specs.Types.{Qualified, plain, pointer, array}
use Rattle.cr_check_initialisers.specs.Known.{Known}
use Rattle.cr_check_initialisers.specs.Places.{Place, object as object_place, laid, types_in, types_within, types_of_object, encloses, takes, is_char, begins_with_literal, opens}
use Rattle.cr_check_initialisers.specs.Plans.{Entry, put, excess, Fills, ends, exceeds, braces, whole, elided, loses, IsPlan, by_expression, by_list, is_open, count_in, elements_before, asked, most_asked, length_asked}
use Rattle.cr_meaning_objects.specs.Initialised.Parts.{Every, is_aggregate}
use Rattle.cr_meaning_objects.specs.Initialised.Asked.{HaveParts, HaveBytes}

-- braces are for the place itself, or for parts that it has
not_enclosed : (k : Known) (type : Qualified) (list : List ℕ) → encloses k type list ≡ false → is_aggregate type ≡ true
unfolding encloses
not_enclosed k (plain (Struct node) c v) list e = refl
not_enclosed k (plain of c v) list e = absurd (false≢true (sym e))
not_enclosed k (pointer c v below) list e = absurd (false≢true (sym e))
not_enclosed k (array n below) list e = refl

-- and so is an expression
not_taken : (k : Known) (type : Qualified) (i : ℕ) → takes k type i ≡ false → is_aggregate type ≡ true
unfolding takes
not_taken k (plain (Struct node) c v) i e = refl
not_taken k (plain of c v) i e = absurd (false≢true (sym e))
not_taken k (pointer c v below) i e = absurd (false≢true (sym e))
not_taken k (array n below) i e = refl

length_replicate : (n : ℕ) (type : Qualified) → length (replicate n type) ≡ n
length_replicate zero type = refl
length_replicate (suc n) type = let rest = length_replicate n type in omega (arith, rest)

-- ---- what is asked

module _ (k : Known) (each : ℕ) where
  abbrev most : List Entry → ℕ
  most xs = most_asked k each xs

  grows : (xs ys : List Entry) → most xs ≤ most (xs ++ ys)
  unfolding most_asked
  grows [] ys = omega arith
  grows (x ∷ xs) ys = let rest = grows xs ys in omega (arith, rest)

  last : (xs : List Entry) (x : Entry) → asked k each x ≤ most (xs ++ x ∷ [])
  unfolding most_asked
  last [] x = omega arith
  last (y ∷ xs) x = let rest = last xs x in omega (arith, rest)

  -- a place of known size asks for its element
  put_asks : (p : Place) (i b : ℕ) → is_open p.type ≡ false → 1 ≤ asked k each (put p i b)
  unfolding asked
  put_asks p i b e =
      let own : asked k each (put p i b) ≡ elements_before p.cell each + 1 = ap (λ c. cond c (count_in (k.seen i).type) (elements_before p.cell each + 1)) e in
      omega (arith, own)

  goes_on : {ps : List Place} {b : ℕ} {is : List ℕ} {xs ys : List Entry} → Fills k ps b is xs ys → most xs ≤ most ys
  goes_on ends = omega arith
  goes_on {xs = xs} (exceeds {b = b}) = grows xs (excess b ∷ [])
  goes_on (braces o inner rest) = let first = goes_on inner in let others = goes_on rest in omega (arith, first, others)
  goes_on {xs = xs} (whole {p = p} {b = b} {i = i} o takes rest) = let first = grows xs (put p i b ∷ []) in let others = goes_on rest in omega (arith, first, others)
  goes_on (elided o takes lost rest) = goes_on rest
  goes_on {xs = xs} (loses {p = p} {b = b} {i = i} o takes lost) = grows xs (put p i b ∷ [])

  -- ---- places of types of objects

  module _ (IsWhole : Qualified → Type 0) (have : HaveParts k IsWhole) where
    abbrev Leads : List Place → Type 0
    Leads [] = ⊥
    Leads (p ∷ ps) = IsWhole p.type

    laid_leads : (types : List Qualified) (cell : ℕ) → Every IsWhole types → 1 ≤ length types → Leads (laid k cell types)
    unfolding laid
    laid_leads [] cell h some = absurd (omega (arith, some))
    laid_leads (type ∷ types) cell h some = h.0

    more_lead : (ps qs : List Place) → Leads ps → Leads (ps ++ qs)
    more_lead [] qs h = absurd h
    more_lead (p ∷ ps) qs h = h

    within_lead : (p : Place) (list : List ℕ) → IsWhole p.type → Leads (laid k p.cell (types_within k p.type list))
    unfolding types_within laid
    within_lead p list h = by (encloses k p.type list) refl
      where
        by : (own : Bool) → encloses k p.type list ≡ own → Leads (laid k p.cell (cond own (p.type ∷ []) (types_in k p.type)))
        by true e = h
        by false e = laid_leads (types_in k p.type) p.cell (have.parts p.type h) (have.some p.type h (not_enclosed k p.type list e))

    fills_some : {ps : List Place} {b : ℕ} {is : List ℕ} {xs ys : List Entry} → Fills k ps b is xs ys → Leads ps → 1 ≤ length is → 1 ≤ most ys
    fills_some ends l some = absurd (omega (arith, some))
    fills_some exceeds l some = absurd l
    fills_some (braces {p = p} {b = b} {i = i} o inner rest) l some =
        let first = fills_some inner (within_lead p (k.initialisers i) l) (have.initialised b i o) in
        let others = goes_on rest in
        omega (arith, first, others)
    fills_some {xs = xs} (whole {p = p} {b = b} {i = i} o takes rest) l some =
        let own = put_asks p i b (have.sized p.type l) in
        let first = last xs (put p i b) in
        let others = goes_on rest in
        omega (arith, own, first, others)
    fills_some (elided {p = p} {ps = ps} {i = i} o takes lost rest) l some =
        fills_some rest (more_lead (laid k p.cell (types_in k p.type)) ps (laid_leads (types_in k p.type) p.cell (have.parts p.type l) (have.some p.type l (not_taken k p.type i takes)))) (omega arith)
    fills_some {xs = xs} (loses {p = p} {b = b} {i = i} o takes lost) l some =
        let own = put_asks p i b (have.sized p.type l) in
        let first = last xs (put p i b) in
        omega (arith, own, first)

    -- ---- the whole array

    module _ (below : Qualified) (w : IsWhole below) where
      abbrev unsized : Place
      unsized = object_place (array 0 below)

      open_asks : (i b : ℕ) → 1 ≤ count_in (k.seen i).type → 1 ≤ asked k each (put unsized i b)
      unfolding asked
      open_asks i b few = few

      -- by a literal in braces
      literal_some : {ps : List Place} {b : ℕ} {is : List ℕ} {xs ys : List Entry} → Fills k ps b is xs ys → ps ≡ unsized ∷ [] → is_char below ≡ true → begins_with_literal k is ≡ true
          → ((i : ℕ) (rest : List ℕ) → is ≡ i ∷ rest → k.literal i ≡ true → 1 ≤ count_in (k.seen i).type) → 1 ≤ most ys
      unfolding takes opens
      literal_some ends e character literal bytes = absurd (false≢true literal)
      literal_some exceeds e character literal bytes = absurd (cc e)
      literal_some (braces {b = b} {i = i} o inner rest) e character literal bytes = absurd (false≢true (sym (have.apart i literal) ∙ (and_parts _ (k.listed i) o).1))
      literal_some {xs = xs} (whole {p = p} {b = b} {i = i} {is = is} o takes rest) e character literal bytes =
          let same : p ≡ unsized = cc e in
          let own = open_asks i b (bytes i is refl literal) in
          let put_same : asked k each (put p i b) ≡ asked k each (put unsized i b) = ap (λ q. asked k each (put q i b)) same in
          let first = last xs (put p i b) in
          let others = goes_on rest in
          omega (arith, own, put_same, first, others)
      literal_some (elided {p = p} {i = i} o taken lost rest) e character literal bytes = absurd (false≢true (sym taken ∙ takes_it p i (cc e) character literal))
        where
          takes_it : (p : Place) (i : ℕ) → p ≡ unsized → is_char below ≡ true → k.literal i ≡ true → takes k p.type i ≡ true
          takes_it p i same character literal = ap (λ (q : Place). takes k q.type i) same ∙ (λ j. character j && literal j)
      literal_some (loses {p = p} {i = i} o taken lost) e character literal bytes = absurd (false≢true (sym taken ∙ takes_it p i (cc e) character literal))
        where
          takes_it : (p : Place) (i : ℕ) → p ≡ unsized → is_char below ≡ true → k.literal i ≡ true → takes k p.type i ≡ true
          takes_it p i same character literal = ap (λ (q : Place). takes k q.type i) same ∙ (λ j. character j && literal j)

      every_element : (n : ℕ) → Every IsWhole (replicate n below)
      every_element zero = tt
      every_element (suc n) = (w, every_element n)

      list_some : (node : ℕ) (xs : List Entry) → 1 ≤ length (k.initialisers node)
          → ((i : ℕ) (rest : List ℕ) → k.initialisers node ≡ i ∷ rest → k.literal i ≡ true → 1 ≤ count_in (k.seen i).type)
          → Fills k (laid k 0 (types_of_object k (array 0 below) (k.initialisers node))) node (k.initialisers node) [] xs → 1 ≤ most xs
      unfolding types_of_object types_in encloses laid
      list_some node xs some bytes fills = by (encloses k (array 0 below) (k.initialisers node)) refl fills
        where
          by : (own : Bool) → encloses k (array 0 below) (k.initialisers node) ≡ own
              → Fills k (laid k 0 (cond own (array 0 below ∷ []) (replicate (length (k.initialisers node)) below))) node (k.initialisers node) [] xs → 1 ≤ most xs
          by true e f = let both = and_parts (is_char below) (begins_with_literal k (k.initialisers node)) e in literal_some f refl both.0 both.1 bytes
          by false e f =
              let count = length_replicate (length (k.initialisers node)) below in
              fills_some f (laid_leads (replicate (length (k.initialisers node)) below) 0 (every_element (length (k.initialisers node))) (omega (arith, count, some))) some

pub asked_for : (k : Known) (IsWhole : Qualified → Type 0) → HaveParts k IsWhole → (below : Qualified) (above node : ℕ) (xs : List Entry) → IsWhole below → HaveBytes k above node → IsPlan k (array 0 below) above node xs
    → 1 ≤ length_asked k (array 0 below) xs
unfolding most_asked
asked_for k IsWhole have below above node xs w bytes (by_expression o e) =
    let own = open_asks k (k.cells below) IsWhole have below w node above (bytes.alone o) in
    let same = ap (most_asked k (k.cells below)) e in
    omega (arith, own, same)
asked_for k IsWhole have below above node xs w bytes (by_list o fills) = list_some k (k.cells below) IsWhole have below w node xs (have.initialised above node o) bytes.first fills

pub asked_tested : (k : Known) (is_whole : Qualified → Bool) → HaveParts k (λ type. is_whole type ≡ true) → (below : Qualified) (above node : ℕ) (xs : List Entry) → is_whole below ≡ true
    → HaveBytes k above node → IsPlan k (array 0 below) above node xs → 1 ≤ length_asked k (array 0 below) xs
asked_tested k is_whole have below above node xs w bytes plan = asked_for k (λ type. is_whole type ≡ true) have below above node xs w bytes plan
