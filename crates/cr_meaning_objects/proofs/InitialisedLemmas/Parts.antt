-- Each initialiser of an object sets a part of it that has the cells of its type.
use Rattle.std.proofs.Common.{◌≡◌, ℕ, zero, suc, ◌+◌, Bool, true, false, cond, List, [], ◌∷◌, ◌++◌, Some, length, slice_get, refl, sym, ap, subst, ◌∙◌, arith}
use Rattle.std.specs.List.{flat_map}
use Rattle.std.proofs.lemmas.List.{append_assoc, append-nil, length-append}
use Rattle.cr_syntax.specs.declared.ctype.CType.{CType}
use Rattle.cr_syntax.specs.declared.ctype.CType.TheVariants.{Struct}
use Rattle.cr_check_types.specs.Types.{Qualified, plain, pointer, array}
use Rattle.cr_check_initialisers.specs.Known.{Known}
use Rattle.cr_check_initialisers.specs.Places.{Place, object as object_place, laid, types_in, types_within, types_of_object, sized as sized_as, encloses}
use Rattle.cr_check_initialisers.specs.Plans.{Entry, put, excess, Fills, ends, exceeds, braces, whole, elided, loses, IsPlan, by_expression, by_list, is_open}
use Rattle.cr_meaning_soundness.specs.Sorts.{Sort}
use Rattle.cr_meaning_objects.specs.Initialised.Parts.{Every, is_aggregate, AreCells, IsPlaced}

-- an object of known size keeps it
same_size : (type : Qualified) (most : ℕ) → is_open type ≡ false → sized_as type most ≡ type
same_size (plain of c v) most e = refl
same_size (pointer c v below) most e = refl
same_size (array n below) most e = ap (λ b. array (cond b most n) below) e

module _ (k : Known) (IsWhole : Qualified → Type 0) (cells : Qualified → List Sort) (are : AreCells k IsWhole cells) (object : List Sort) where
  abbrev AreParts : List Place → Type 0
  AreParts [] = Unit {0}
  AreParts (p ∷ ps) = IsPlaced IsWhole cells object p × AreParts ps

  abbrev IsSet : Entry → Type 0
  IsSet (put p i b) = IsPlaced IsWhole cells object p
  IsSet (excess b) = Unit {0}

  abbrev AreSet : List Entry → Type 0
  AreSet [] = Unit {0}
  AreSet (x ∷ xs) = IsSet x × AreSet xs

  one_more : (xs : List Entry) (x : Entry) → AreSet xs → IsSet x → AreSet (xs ++ x ∷ [])
  one_more [] x all one = (one, tt)
  one_more (y ∷ xs) x all one = (all.0, one_more xs x all.1 one)

  both : (ps qs : List Place) → AreParts ps → AreParts qs → AreParts (ps ++ qs)
  both [] qs f g = g
  both (p ∷ ps) qs f g = (f.0, both ps qs f.1 g)

  -- parts one behind another
  laid_parts : (types : List Qualified) (cell : ℕ) (before after : List Sort) → Every IsWhole types → object ≡ before ++ (flat_map cells types ++ after) → length before ≡ cell
      → AreParts (laid k cell types)
  unfolding laid
  laid_parts [] cell before after w e l = tt
  laid_parts (type ∷ types) cell before after w e l =
      let rest = flat_map cells types in
      let split : (cells type ++ rest) ++ after ≡ cells type ++ (rest ++ after) = append_assoc (cells type) rest after in
      let moved : before ++ (cells type ++ (rest ++ after)) ≡ (before ++ cells type) ++ (rest ++ after) = sym (append_assoc before (cells type) (rest ++ after)) in
      let lengths = length-append before (cells type) in
      let counted = are.counted type w.0 in (
        record { whole = w.0; part = record { before = before; after = rest ++ after; is = e ∙ ap (λ r. before ++ r) split; starts = l } },
        laid_parts types (cell + k.cells type) (before ++ cells type) after w.1 (e ∙ ap (λ r. before ++ r) split ∙ moved) (omega (arith, lengths, counted, l)),
      )

  -- those of a place
  parts_of : (p : Place) → IsPlaced IsWhole cells object p → AreParts (laid k p.cell (types_in k p.type))
  unfolding types_in laid
  parts_of p h = by p.type refl
    where
      aggregate : is_aggregate p.type ≡ true → AreParts (laid k p.cell (types_in k p.type))
      aggregate a =
          laid_parts (types_in k p.type) p.cell h.part.before h.part.after (are.parts p.type h.whole)
          (h.part.is ∙ ap (λ c. h.part.before ++ (c ++ h.part.after)) (are.made p.type h.whole a)) h.part.starts

      by : (type : Qualified) → p.type ≡ type → AreParts (laid k p.cell (types_in k p.type))
      by (plain of c v) e = by_word of e
        where
          by_word : (of : CType) → p.type ≡ plain of c v → AreParts (laid k p.cell (types_in k p.type))
          by_word (Struct node) e = aggregate (ap is_aggregate e)
          by_word other e = subst (λ type. AreParts (laid k p.cell (types_in k type))) (sym e) tt
      by (pointer c v below) e = subst (λ type. AreParts (laid k p.cell (types_in k type))) (sym e) tt
      by (array n below) e = aggregate (ap is_aggregate e)

  -- those for which a list in braces is read
  parts_within : (p : Place) (list : List ℕ) → IsPlaced IsWhole cells object p → AreParts (laid k p.cell (types_within k p.type list))
  unfolding types_within laid
  parts_within p list h = by (encloses k p.type list)
    where
      by : (own : Bool) → AreParts (laid k p.cell (cond own (p.type ∷ []) (types_in k p.type)))
      by true = (h, tt)
      by false = parts_of p h

  filled : {ps : List Place} {b : ℕ} {is : List ℕ} {xs ys : List Entry} → Fills k ps b is xs ys → AreParts ps → AreSet xs → AreSet ys
  filled ends f x = x
  filled {xs = xs} (exceeds {b = b}) f x = one_more xs (excess b) x tt
  filled (braces {p = p} {i = i} o inner rest) f x = filled rest f.1 (filled inner (parts_within p (k.initialisers i) f.0) x)
  filled {xs = xs} (whole {p = p} {b = b} {i = i} o takes rest) f x = filled rest f.1 (one_more xs (put p i b) x f.0)
  filled (elided {p = p} {ps = ps} o takes lost rest) f x = filled rest (both (laid k p.cell (types_in k p.type)) ps (parts_of p f.0) f.1) x
  filled {xs = xs} (loses {p = p} {b = b} {i = i} o takes lost) f x = one_more xs (put p i b) x f.0

  -- ---- a whole object

  set_at : (xs : List Entry) (m : ℕ) (x : Entry) → AreSet xs → slice_get xs m ≡ Some x → IsSet x
  set_at [] m x a e = absurd (cc e)
  set_at (y ∷ xs) zero x a e = let same : y ≡ x = cc e in subst IsSet same a.0
  set_at (y ∷ xs) (suc m) x a e = set_at xs m x a.1 e

module _ (k : Known) (IsWhole : Qualified → Type 0) (cells : Qualified → List Sort) (are : AreCells k IsWhole cells) (type : Qualified) (w : IsWhole type) where
  own : IsPlaced IsWhole cells (cells type) (object_place type)
  own = record { whole = w; part = record { before = []; after = []; is = sym (append-nil (cells type)); starts = refl } }

  object_parts : (list : List ℕ) → AreParts k IsWhole cells are (cells type) (laid k 0 (types_of_object k type list))
  unfolding types_of_object laid
  object_parts list = by (encloses k type list)
    where
      by : (enclosed : Bool) → AreParts k IsWhole cells are (cells type) (laid k 0 (cond enclosed (type ∷ []) (types_in k (sized_as type (length list)))))
      by true = (own, tt)
      by false =
          subst (λ t. AreParts k IsWhole cells are (cells type) (laid k 0 (types_in k t))) (sym (same_size type (length list) (are.sized type w)))
          (parts_of k IsWhole cells are (cells type) (object_place type) own)

  planned : (above node : ℕ) (xs : List Entry) → IsPlan k type above node xs → AreSet k IsWhole cells are (cells type) xs
  planned above node xs (by_expression o e) = subst (AreSet k IsWhole cells are (cells type)) (sym e) (own, tt)
  planned above node xs (by_list o fills) = filled k IsWhole cells are (cells type) fills (object_parts (k.initialisers node)) tt

pub set_parts : (k : Known) (IsWhole : Qualified → Type 0) (cells : Qualified → List Sort) → AreCells k IsWhole cells
    → (type : Qualified) (above node : ℕ) (xs : List Entry) → IsWhole type → IsPlan k type above node xs
    → (m : ℕ) (place : Place) (i user : ℕ) → slice_get xs m ≡ Some (put place i user) → IsPlaced IsWhole cells (cells type) place
set_parts k IsWhole cells are type above node xs w plan m place i user e =
    set_at k IsWhole cells are (cells type) xs m (put place i user) (planned k IsWhole cells are type w above node xs plan) e

-- by a test
pub set_tested : (k : Known) (is_whole : Qualified → Bool) (cells : Qualified → List Sort) → AreCells k (λ type. is_whole type ≡ true) cells
    → (type : Qualified) (above node : ℕ) (xs : List Entry) → is_whole type ≡ true → IsPlan k type above node xs
    → (m : ℕ) (place : Place) (i user : ℕ) → slice_get xs m ≡ Some (put place i user) → IsPlaced (λ type. is_whole type ≡ true) cells (cells type) place
set_tested k is_whole cells are type above node xs w plan m place i user e = set_parts k (λ type. is_whole type ≡ true) cells are type above node xs w plan m place i user e
