-- Steps of the walk over the initialisers of a list.
use Rattle.std.proofs.Common.{◌≡◌, ℕ, List, [], ◌∷◌, ◌++◌, map, sym, ap, subst, ◌∙◌, true, false}
use Rattle.cr_check_types.specs.Types.{type_at}
use Rattle.cr_check_initialisers.specs.declared.source.Source.{Source}
use Rattle.cr_check_initialisers.specs.declared.lines.Line.{Line}
use Rattle.cr_check_initialisers.specs.declared.part.Part.{Part}
use Rattle.cr_check_initialisers.specs.declared.part.Rest.{Rest}
use Rattle.cr_check_initialisers.specs.Known.{Known, known_of}
use Rattle.cr_check_initialisers.specs.Places.{Place, object, laid, types_in, types_within, types_of_object, takes, is_lost, opens}
use Rattle.cr_check_initialisers.specs.Plans.{Entry, put, excess, Fills, ends, exceeds, braces, whole, elided, loses, IsPlan, by_expression, by_list, entry_of, entries_of}
use Rattle.cr_check_initialisers.specs.Steps.{place_of, types_left, places_of, Leads, Goes, Completes}

pub finished : (k : Known) (b : ℕ) (ps qs : List Place) (all rest : List ℕ) (xs ys : List Entry) → Completes k b ps qs all rest xs ys → rest ≡ [] → Fills k ps b all xs ys
finished k b ps qs all rest xs ys h e = h.on ys (subst (λ js. Fills k qs b js ys ys) (sym e) ends)

-- a list in braces
pub in_braces : (s : Source) (b i : ℕ) (ps qs : List Place) (part : Part) (rest : Rest) (list : List ℕ) (xs ys : List Entry)
    → ps ≡ place_of s part ∷ qs → opens (known_of s) b i ≡ true → list ≡ (known_of s).initialisers i
    → types_left s rest ≡ types_within (known_of s) (type_at s.table.now part.row) list
    → Fills (known_of s) (places_of s (record { cell = part.cell; rest = rest })) i ((known_of s).initialisers i) xs ys
    → Goes (known_of s) b i ps qs xs ys true
unfolding places_of
in_braces s b i ps qs part rest list xs ys e o l t f = λ is zs g.
    let k = known_of s in
    let type = type_at s.table.now part.row in
    let inner : Fills k (laid k part.cell (types_within k type (k.initialisers i))) i (k.initialisers i) xs ys =
    subst (λ ts. Fills k (laid k part.cell ts) i (k.initialisers i) xs ys) (t ∙ ap (types_within k type) l) f in
    subst (λ rs. Fills k rs b (i ∷ is) xs zs) (sym e) (braces o inner g)

-- no place is left
pub exceeded : (k : Known) (b i : ℕ) (ps qs : List Place) (xs ys : List Entry) → ps ≡ [] → ys ≡ xs ++ excess b ∷ [] → Goes k b i ps qs xs ys false
exceeded k b i ps qs xs ys e f = λ is.
    subst (λ rs. Fills k rs b (i ∷ is) xs ys) (sym e) (subst (λ ws. Fills k [] b (i ∷ is) xs ws) (sym f) exceeds)

-- ---- an expression, at a place that other places led to

pub begun : (k : Known) (b i : ℕ) (ps : List Place) (xs : List Entry) → Leads k b i ps ps xs
begun k b i ps xs = record { on = λ is zs g. g }

pub taken_whole : (k : Known) (b i : ℕ) (ps qs : List Place) (p : Place) (xs ws ys : List Entry) → opens k b i ≡ false → takes k p.type i ≡ true
    → Leads k b i ps (p ∷ qs) xs → ws ≡ xs → ys ≡ ws ++ put p i b ∷ [] → Goes k b i ps qs xs ys true
taken_whole k b i ps qs p xs ws ys o t h e f = λ is zs g.
    h.on is zs (whole o t (subst (λ us. Fills k qs b is us zs) (f ∙ ap (λ us. us ++ put p i b ∷ []) e) g))

pub lost_whole : (k : Known) (b i : ℕ) (ps qs rs : List Place) (p : Place) (xs ws ys : List Entry) → opens k b i ≡ false → takes k p.type i ≡ false → is_lost k p.type i ≡ true
    → Leads k b i ps (p ∷ qs) xs → ws ≡ xs → ys ≡ ws ++ put p i b ∷ [] → Goes k b i ps rs xs ys false
lost_whole k b i ps qs rs p xs ws ys o t n h e f = λ is.
    h.on is ys (subst (λ us. Fills k (p ∷ qs) b (i ∷ is) xs us) (sym (f ∙ ap (λ us. us ++ put p i b ∷ []) e)) (loses o t n))

pub opened : (k : Known) (b i : ℕ) (ps qs after : List Place) (p : Place) (xs : List Entry) → opens k b i ≡ false → takes k p.type i ≡ false → is_lost k p.type i ≡ false
    → Leads k b i ps (p ∷ qs) xs → after ≡ laid k p.cell (types_in k p.type) ++ qs → Leads k b i ps after xs
opened k b i ps qs after p xs o t n h e = record {
  on = λ is zs g. h.on is zs (elided o t n (subst (λ rs. Fills k rs b (i ∷ is) xs zs) e g));
}

pub led_out : (k : Known) (b i : ℕ) (ps after rs : List Place) (xs ws ys : List Entry) → Leads k b i ps after xs → after ≡ [] → ws ≡ xs → ys ≡ ws ++ excess b ∷ []
    → Goes k b i ps rs xs ys false
led_out k b i ps after rs xs ws ys h a e f = λ is. h.on is ys (exceeded k b i after rs xs ys a (f ∙ ap (λ us. us ++ excess b ∷ []) e) is)

pub led_on : (k : Known) (b i : ℕ) (ps after rs : List Place) (xs : List Entry) → Leads k b i ps after xs → after ≡ rs → Leads k b i ps rs xs
led_on k b i ps after rs xs h e = subst (λ qs. Leads k b i ps qs xs) e h

-- ---- a whole object

pub by_braces : (s : Source) (row above node : ℕ) (rest : Rest) (list : List ℕ) (before : List Line) (xs : List Entry)
    → opens (known_of s) above node ≡ true → before ≡ [] → list ≡ (known_of s).initialisers node
    → types_left s rest ≡ types_of_object (known_of s) (type_at s.table.now row) list
    → Fills (known_of s) (places_of s (record { cell = 0; rest = rest })) node ((known_of s).initialisers node) (entries_of s.table.now before) xs
    → IsPlan (known_of s) (type_at s.table.now row) above node xs
unfolding places_of entries_of
by_braces s row above node rest list before xs o e l t f =
    let k = known_of s in
    let type = type_at s.table.now row in
    let first : Fills k (laid k 0 (types_left s rest)) node (k.initialisers node) [] xs =
    subst (λ (ls : List Line). Fills k (laid k 0 (types_left s rest)) node (k.initialisers node) (map (entry_of s.table.now) ls) xs) e f in
    by_list o (subst (λ ts. Fills k (laid k 0 ts) node (k.initialisers node) [] xs) (t ∙ ap (types_of_object k type) l) first)

pub by_value : (s : Source) (row above node : ℕ) (before : List Line) (xs : List Entry)
    → opens (known_of s) above node ≡ false → before ≡ []
    → xs ≡ entries_of s.table.now before ++ put (object (type_at s.table.now row)) node above ∷ []
    → IsPlan (known_of s) (type_at s.table.now row) above node xs
unfolding entries_of
by_value s row above node before xs o e f =
    by_expression o (f ∙ ap (λ (ls : List Line). map (entry_of s.table.now) ls ++ put (object (type_at s.table.now row)) node above ∷ []) e)
