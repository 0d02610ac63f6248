-- An initialiser has a plan, where types are made of simpler ones.
use Rattle.std.proofs.Common.{◌≡◌, ℕ, zero, suc, ◌+◌, ◌<◌, List, [], ◌∷◌, ◌++◌, Bool, true, false, refl, arith}
use Rattle.std.proofs.lemmas.Bool.{ltb-true, and_parts}
use Rattle.cr_check_types.specs.Types.{Qualified}
use Rattle.cr_check_initialisers.specs.Known.{Known}
use Rattle.cr_check_initialisers.specs.Places.{Place, object, laid, types_in, types_within, types_of_object, takes, is_lost, opens}
use Rattle.cr_check_initialisers.specs.Plans.{Entry, put, excess, Fills, ends, exceeds, braces, whole, elided, loses, IsPlan, by_expression, by_list}
use Rattle.cr_check_initialisers.specs.Steps.{Leads, Goes}
use Rattle.cr_check_initialisers.specs.Laws.{AreSimpler, AreNested}

-- what an initialiser comes to at some places
pub record Step (k : Known) (b i : ℕ) (ps : List Place) (xs : List Entry) : Type 0 where
  pub left : List Place
  pub entries : List Entry
  pub on : Bool
  pub goes : Goes k b i ps left xs entries on

-- it comes to something, or the first place is one of no parts
pub data Try (k : Known) (b i : ℕ) (ps qs : List Place) (xs : List Entry) : Type 0 where
  comes : Step k b i ps xs → Try k b i ps qs xs
  skips : Leads k b i ps qs xs → Try k b i ps qs xs

led : (k : Known) (b i : ℕ) (ps qs rs : List Place) (xs ys : List Entry) (on : Bool) → Leads k b i ps qs xs → Goes k b i qs rs xs ys on → Goes k b i ps rs xs ys on
led k b i ps qs rs xs ys true h g = λ is zs f. h.on is zs (g is zs f)
led k b i ps qs rs xs ys false h g = λ is. h.on is ys (g is)

step_led : (k : Known) (b i : ℕ) (ps qs : List Place) (xs : List Entry) → Leads k b i ps qs xs → Step k b i qs xs → Step k b i ps xs
step_led k b i ps qs xs h s = record { left = s.left; entries = s.entries; on = s.on; goes = led k b i ps qs s.left xs s.entries s.on h s.goes }

try_led : (k : Known) (b i : ℕ) (ps qs rs : List Place) (xs : List Entry) → Leads k b i ps qs xs → Try k b i qs rs xs → Try k b i ps rs xs
try_led k b i ps qs rs xs h (comes s) = comes (step_led k b i ps qs xs h s)
try_led k b i ps qs rs xs h (skips g) = skips (record { on = λ is zs f. h.on is zs (g.on is zs f) })

-- a try of each place of a rank
abbrev Tries : Known → ℕ → ℕ → List Entry → (Qualified → ℕ) → ℕ → Type 0
Tries k b i xs rank most = (p : Place) (qs : List Place) → rank p.type < most → Try k b i (p ∷ qs) qs xs

-- where the first of two places is one of no parts, the second is tried
second_try : (k : Known) (b i : ℕ) (ps rs qs : List Place) (xs : List Entry) → Try k b i ps rs xs → Try k b i rs qs xs → Try k b i ps qs xs
second_try k b i ps rs qs xs (comes s) g = comes s
second_try k b i ps rs qs xs (skips h) g = try_led k b i ps rs qs xs h g

-- of places one behind another
try_laid : (k : Known) (b i : ℕ) (xs : List Entry) (rank : Qualified → ℕ) (most : ℕ) (cell : ℕ) (ts : List Qualified) (qs : List Place)
    → Tries k b i xs rank most → AreSimpler rank most ts → Try k b i (laid k cell ts ++ qs) qs xs
unfolding laid
try_laid k b i xs rank most cell [] qs f h = skips (record { on = λ is zs g. g })
try_laid k b i xs rank most cell (t ∷ ts) qs f h =
    let p : Place = record { cell = cell; type = t } in
    let rest = laid k (cell + k.cells t) ts ++ qs in
    second_try k b i (p ∷ rest) rest qs xs (f p rest h.0) (try_laid k b i xs rank most (cell + k.cells t) ts qs f h.1)

try_parts : (k : Known) (b i : ℕ) (xs : List Entry) (rank : Qualified → ℕ) (most : ℕ) (p : Place) (qs : List Place) → opens k b i ≡ false
    → Tries k b i xs rank most → AreSimpler rank most (types_in k p.type)
    → (whole_place lost : Bool) → takes k p.type i ≡ whole_place → is_lost k p.type i ≡ lost → Try k b i (p ∷ qs) qs xs
try_parts k b i xs rank most p qs o f h true lost t n =
    comes (record { left = qs; entries = xs ++ put p i b ∷ []; on = true; goes = λ is zs g. whole o t g })
try_parts k b i xs rank most p qs o f h false true t n =
    comes (record { left = qs; entries = xs ++ put p i b ∷ []; on = false; goes = λ is. loses o t n })
try_parts k b i xs rank most p qs o f h false false t n =
    try_led k b i (p ∷ qs) (laid k p.cell (types_in k p.type) ++ qs) qs xs (record { on = λ is zs g. elided o t n g })
    (try_laid k b i xs rank most p.cell (types_in k p.type) qs f h)

simpler_than : (rank : Qualified → ℕ) (most more : ℕ) (ts : List Qualified) → most < more + 1 → AreSimpler rank most ts → AreSimpler rank more ts
simpler_than rank most more [] lt h = h
simpler_than rank most more (t ∷ ts) lt h = (omega (arith, lt, h.0), simpler_than rank most more ts lt h.1)

try_place : (k : Known) (b i : ℕ) (xs : List Entry) (rank : Qualified → ℕ) → AreNested k rank → opens k b i ≡ false → (most : ℕ) → Tries k b i xs rank most
try_place k b i xs rank h o zero p qs lt = absurd (omega (arith, lt))
try_place k b i xs rank h o (suc most) p qs lt =
    try_parts k b i xs rank most p qs o (try_place k b i xs rank h o most) (simpler_than rank (rank p.type) most (types_in k p.type) (omega (arith, lt)) (h p.type))
    (takes k p.type i) (is_lost k p.type i) refl refl

first_step : (k : Known) (b i : ℕ) (ps qs : List Place) (xs : List Entry) → Try k b i ps qs xs → Step k b i qs xs → Step k b i ps xs
first_step k b i ps qs xs (comes s) g = s
first_step k b i ps qs xs (skips h) g = step_led k b i ps qs xs h g

expression_step : (k : Known) (b i : ℕ) (xs : List Entry) (rank : Qualified → ℕ) → AreNested k rank → opens k b i ≡ false → (ps : List Place) → Step k b i ps xs
expression_step k b i xs rank h o [] = record { left = []; entries = xs ++ excess b ∷ []; on = false; goes = λ is. exceeds }
expression_step k b i xs rank h o (p ∷ ps) =
    first_step k b i (p ∷ ps) ps xs (try_place k b i xs rank h o (rank p.type + 1) p ps (omega arith)) (expression_step k b i xs rank h o ps)

-- a plan of each list among nodes below a number
abbrev HaveFillings : Known → ℕ → Type 0
HaveFillings k bound = (b : ℕ) → b < bound → (ps : List Place) (is : List ℕ) (xs : List Entry) → (ys : List Entry) × Fills k ps b is xs ys

below_list : (k : Known) (b i : ℕ) → opens k b i ≡ true → i < b
unfolding opens
below_list k b i o = ltb-true i b (and_parts _ _ o).0

braces_step : (k : Known) (b i : ℕ) (xs : List Entry) → HaveFillings k b → opens k b i ≡ true → (ps : List Place) → Step k b i ps xs
braces_step k b i xs f o [] = record { left = []; entries = xs ++ excess b ∷ []; on = false; goes = λ is. exceeds }
braces_step k b i xs f o (p ∷ ps) =
    let inner = f i (below_list k b i o) (laid k p.cell (types_within k p.type (k.initialisers i))) (k.initialisers i) xs in
    record { left = ps; entries = inner.0; on = true; goes = λ is zs g. braces o inner.1 g }

step_by : (k : Known) (b i : ℕ) (xs : List Entry) (rank : Qualified → ℕ) → AreNested k rank → HaveFillings k b → (ps : List Place) (listed : Bool) → opens k b i ≡ listed
    → Step k b i ps xs
step_by k b i xs rank h f ps true o = braces_step k b i xs f o ps
step_by k b i xs rank h f ps false o = expression_step k b i xs rank h o ps

-- a list of one initialiser more
one_more : (k : Known) (b i : ℕ) (is : List ℕ) (ps qs : List Place) (xs us : List Entry) (on : Bool) → Goes k b i ps qs xs us on
    → (ys : List Entry) × Fills k qs b is us ys → (ys : List Entry) × Fills k ps b (i ∷ is) xs ys
one_more k b i is ps qs xs us true g rest = (rest.0, g is rest.0 rest.1)
one_more k b i is ps qs xs us false g rest = (us, g is)

fill_list : (k : Known) (rank : Qualified → ℕ) → AreNested k rank → (b : ℕ) → HaveFillings k b → (is : List ℕ) (ps : List Place) (xs : List Entry)
    → (ys : List Entry) × Fills k ps b is xs ys
fill_list k rank h b f [] ps xs = (xs, ends)
fill_list k rank h b f (i ∷ is) ps xs =
    let s = step_by k b i xs rank h f ps (opens k b i) refl in
    one_more k b i is ps s.left xs s.entries s.on s.goes (fill_list k rank h b f is s.left s.entries)

fillings : (k : Known) (rank : Qualified → ℕ) → AreNested k rank → (bound : ℕ) → HaveFillings k bound
fillings k rank h zero b lt ps is xs = absurd (omega (arith, lt))
fillings k rank h (suc bound) b lt ps is xs =
    fill_list k rank h b (λ c below qs js us. fillings k rank h bound c (omega (arith, lt, below)) qs js us) is ps xs

plan_by : (k : Known) (rank : Qualified → ℕ) → AreNested k rank → (type : Qualified) (above node : ℕ) (listed : Bool) → opens k above node ≡ listed
    → (xs : List Entry) × IsPlan k type above node xs
plan_by k rank h type above node false o = (put (object type) node above ∷ [], by_expression o refl)
plan_by k rank h type above node true o =
    let all = fillings k rank h (node + 1) node (omega arith) (laid k 0 (types_of_object k type (k.initialisers node))) (k.initialisers node) [] in
    (all.0, by_list o all.1)

pub has_plan : (k : Known) (rank : Qualified → ℕ) → AreNested k rank → (type : Qualified) (above node : ℕ) → (xs : List Entry) × IsPlan k type above node xs
has_plan k rank h type above node = plan_by k rank h type above node (opens k above node) refl
