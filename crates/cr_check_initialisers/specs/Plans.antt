-- Which place each expression of an initialiser initialises (C11 6.7.9), as a relation on the places that are left.
use Rattle.std.specs.Prelude.{◌≡◌, ℕ, ◌+◌, ◌/◌, ◌==◌, List, [], ◌∷◌, ◌++◌, Bool, true, false, max, map, if◌then◌else◌}
use Rattle.cr_check_types.specs.declared.shape.Shape.{Shape}
use Rattle.cr_check_types.specs.Types.{Qualified, plain, pointer, array, type_at}
use Rattle.cr_typed.specs.declared.typed.Put.{Put}
use Rattle.cr_check_initialisers.specs.declared.lines.Line.{Line}
use Rattle.cr_check_initialisers.specs.declared.lines.Line.TheVariants as line
use Rattle.cr_check_initialisers.specs.Known.{Known}
use Rattle.cr_check_initialisers.specs.Places.{Place, object, laid, types_in, types_within, types_of_object, takes, is_lost, opens}

-- an expression with the place that it initialises and the initialised declarator or list that uses it; or a list in braces that has
-- an initialiser more than places
pub data Entry : Type 0 where
  put : Place → ℕ → ℕ → Entry
  excess : ℕ → Entry

-- The initialisers of a list, in order, with the places that are left for them, and the entries before and behind them. An initialiser
-- takes the first place, or the parts of that place stand in its stead.
pub data Fills (k : Known) : List Place → ℕ → List ℕ → List Entry → List Entry → Type 0 where
  -- what is left becomes zero (p21)
  ends : {ps : List Place} {b : ℕ} {xs : List Entry} → Fills k ps b [] xs xs
  -- an initialiser without a place (p2)
  exceeds : {b i : ℕ} {is : List ℕ} {xs : List Entry} → Fills k [] b (i ∷ is) xs (xs ++ excess b ∷ [])
  -- a list in braces, for the first place alone (p17, p20)
  braces : {p : Place} {ps : List Place} {b i : ℕ} {is : List ℕ} {xs ys zs : List Entry} →
      opens k b i ≡ true → Fills k (laid k p.cell (types_within k p.type (k.initialisers i))) i (k.initialisers i) xs ys →
      Fills k ps b is ys zs → Fills k (p ∷ ps) b (i ∷ is) xs zs
  -- an expression for the first place (p11, p13, p14)
  whole : {p : Place} {ps : List Place} {b i : ℕ} {is : List ℕ} {xs ys : List Entry} →
      opens k b i ≡ false → takes k p.type i ≡ true → Fills k ps b is (xs ++ put p i b ∷ []) ys → Fills k (p ∷ ps) b (i ∷ is) xs ys
  -- an expression for a part of the first place: the braces round its parts are left out (p20)
  elided : {p : Place} {ps : List Place} {b i : ℕ} {is : List ℕ} {xs ys : List Entry} →
      opens k b i ≡ false → takes k p.type i ≡ false → is_lost k p.type i ≡ false →
      Fills k (laid k p.cell (types_in k p.type) ++ ps) b (i ∷ is) xs ys → Fills k (p ∷ ps) b (i ∷ is) xs ys
  -- an expression of which it isn't known; what is left of its list isn't judged
  loses : {p : Place} {ps : List Place} {b i : ℕ} {is : List ℕ} {xs : List Entry} →
      opens k b i ≡ false → takes k p.type i ≡ false → is_lost k p.type i ≡ true → Fills k (p ∷ ps) b (i ∷ is) xs (xs ++ put p i b ∷ [])

-- the entries of an object's initialiser, which stands in the initialised declarator `above`
pub data IsPlan (k : Known) (type : Qualified) (above node : ℕ) (xs : List Entry) : Type 0 where
  by_expression : opens k above node ≡ false → xs ≡ put (object type) node above ∷ [] → IsPlan k type above node xs
  by_list : opens k above node ≡ true
      → Fills k (laid k 0 (types_of_object k type (k.initialisers node))) node (k.initialisers node) [] xs → IsPlan k type above node xs

-- ---- lines

abbrev pub entry_of : List Shape → Line → Entry
entry_of shapes (line.Put p) = put (record { cell = p.cell; type = type_at shapes p.row }) p.node p.user
entry_of shapes (line.Excess list) = excess list

unfoldable pub entries_of : List Shape → List Line → List Entry
entries_of shapes lines = map (entry_of shapes) lines

-- ---- the length of an array of unknown size (6.7.9p22)

-- the elements of so many cells that stand before a cell
abbrev pub elements_before : ℕ → ℕ → ℕ
elements_before cell each = if each == 0 then 0 else cell / each

-- the elements of a string literal's array
abbrev pub count_in : Qualified → ℕ
count_in (plain of c v) = 0
count_in (pointer c v t) = 0
count_in (array n t) = n

-- an array of unknown size
abbrev pub is_open : Qualified → Bool
is_open (plain of c v) = false
is_open (pointer c v t) = false
is_open (array n t) = n == 0

-- the elements that an entry asks for: all of a literal for the whole array, else those up to its place's
unfoldable pub asked : Known → ℕ → Entry → ℕ
asked k each (put p i b) = if is_open p.type then count_in (k.seen i).type else elements_before p.cell each + 1
asked k each (excess b) = 0

-- the most that an entry asks for
unfoldable pub most_asked : Known → ℕ → List Entry → ℕ
most_asked k each [] = 0
most_asked k each (x ∷ xs) = max (asked k each x) (most_asked k each xs)

-- the cells of an array's element
abbrev pub cells_of_element : Known → Qualified → ℕ
cells_of_element k (plain of c v) = 0
cells_of_element k (pointer c v t) = 0
cells_of_element k (array n t) = k.cells t

-- the elements of an array of unknown size
abbrev pub length_asked : Known → Qualified → List Entry → ℕ
length_asked k type xs = most_asked k (cells_of_element k type) xs

-- ---- what a plan puts

abbrev pub put_in : Line → List Put
put_in (line.Put p) = p ∷ []
put_in (line.Excess list) = []

abbrev pub puts_of : List Line → List Put
puts_of [] = []
puts_of (x ∷ xs) = put_in x ++ puts_of xs
