-- Labels, one behind the other.
use Rattle.std.proofs.Common.{◌≡◌, ℕ, zero, suc, ◌+◌, ◌<◌, ◌≤◌, Bool, true, false, ◌||◌, ◌&&◌, Option, Some, None, List, [], ◌∷◌, ◌++◌, length, length-take-le, map, take, slice_index_or, if◌then◌else◌, refl, sym, ap, ◌∙◌, arith, append_assoc}
use Rattle.cr_syntax.specs.declared.node.Kind.{Kind}
use Rattle.cr_syntax.specs.declared.node.Kind.TheVariants as kind
use Rattle.cr_typed.specs.declared.typed.Typed.{Typed}
use Rattle.cr_meaning_operations.specs.Operations.{kind_at, part_at, is_case, is_default, is_mark, value_or, case_of, target_of, labelled, cases_by, has_default_by, marks_by, cases_from, default_from, targets_from}
use Rattle.cr_exec_table.specs.declared.labels.Labels.{Labels}
use Rattle.cr_exec_table.specs.Labels.{default_after, is_label, own_case, own_target, IsAdded}

length_take : {X : Type 0} (k : ℕ) (xs : List X) → k ≤ length xs → 0 + length (take k xs) ≡ k
length_take k xs h = let e = length-take-le k xs h in omega (arith, e)

append_none : {X : Type 0} (xs : List X) → xs ++ [] ≡ xs
append_none [] = refl
append_none (x ∷ xs) = ap (λ r. x ∷ r) (append_none xs)

-- ---- what is no label

pub record IsNone (k : Kind) : Type 0 where
  pub label : is_label k ≡ false
  pub case : is_case k ≡ false
  pub default : is_default k ≡ false
  pub mark : is_mark k ≡ false

pub no_label : (k : Kind) → (k ≡ kind.Case → ⊥) → (k ≡ kind.Default → ⊥) → (k ≡ kind.Label → ⊥) → IsNone k
no_label kind.Case c d l = absurd (c refl)
no_label kind.Default c d l = absurd (d refl)
no_label kind.Label c d l = absurd (l refl)
no_label other c d l = record { label = refl; case = refl; default = refl; mark = refl }

-- ---- one label more

cases_split : {X : Type 0} (c d m : Bool) (x : X) (rest : List X) → (if c then x ∷ rest else (if d || m then rest else []))
    ≡ (if c then x ∷ [] else []) ++ (if c || (d || m) then rest else [])
cases_split true d m x rest = refl
cases_split false true m x rest = refl
cases_split false false true x rest = refl
cases_split false false false x rest = refl

marks_split : {X : Type 0} (c d m : Bool) (x : X) (rest : List X) → (if m then x ∷ rest else (if c || d then rest else []))
    ≡ (if m then x ∷ [] else []) ++ (if c || (d || m) then rest else [])
marks_split true true true x rest = refl
marks_split true false true x rest = refl
marks_split false true true x rest = refl
marks_split false false true x rest = refl
marks_split true d false x rest = refl
marks_split false true false x rest = refl
marks_split false false false x rest = refl

default_split : (c d m rest : Bool) → (if d then true else (if c || m then rest else false)) ≡ (d || ((c || (d || m)) && rest))
default_split c true m rest = refl
default_split true false m rest = refl
default_split false false true rest = refl
default_split false false false rest = refl

mapped_if : {X A : Type 0} (f : X → A) (c : Bool) (x : X) → map f (if c then x ∷ [] else []) ≡ (if c then f x ∷ [] else [])
mapped_if f true x = refl
mapped_if f false x = refl

map_append : {X A : Type 0} (f : X → A) (xs ys : List X) → map f (xs ++ ys) ≡ map f xs ++ map f ys
map_append f [] ys = refl
map_append f (x ∷ xs) ys = ap (λ r. f x ∷ r) (map_append f xs ys)

cases_step : (t : Typed) (m number node : ℕ) → map (case_of number) (cases_by (suc m) t node)
    ≡ own_case t number node ++ map (case_of number) (if is_label (kind_at t node) then cases_by m t (labelled t node) else [])
cases_step t m number node =
    let value = value_or (slice_index_or t.constants (part_at t node 0) None) in
    let rest = cases_by m t (labelled t node) in
    let k = kind_at t node in
    ap (map (case_of number)) (cases_split (is_case k) (is_default k) (is_mark k) value rest)
    ∙ map_append (case_of number) (if is_case k then value ∷ [] else []) (if is_label k then rest else [])
    ∙ ap (λ own. own ++ map (case_of number) (if is_label k then rest else [])) (mapped_if (case_of number) (is_case k) value)

targets_step : (t : Typed) (m number node : ℕ) → map (target_of number) (marks_by (suc m) t node)
    ≡ own_target t number node ++ map (target_of number) (if is_label (kind_at t node) then marks_by m t (labelled t node) else [])
targets_step t m number node =
    let rest = marks_by m t (labelled t node) in
    let k = kind_at t node in
    ap (map (target_of number)) (marks_split (is_case k) (is_default k) (is_mark k) node rest)
    ∙ map_append (target_of number) (if is_mark k then node ∷ [] else []) (if is_label k then rest else [])
    ∙ ap (λ own. own ++ map (target_of number) (if is_label k then rest else [])) (mapped_if (target_of number) (is_mark k) node)

-- a loop's step over a list that is written from the front
pub more : {X : Type 0} (now next own rest rest' whole : List X) → next ≡ now ++ own → rest ≡ own ++ rest' → now ++ rest ≡ whole → next ++ rest' ≡ whole
more now next own rest rest' whole e f h =
    ap (λ n. n ++ rest') e ∙ append_assoc now own rest' ∙ sym (ap (λ r. now ++ r) f) ∙ h

-- the last one
pub last : {X : Type 0} (now next own rest whole : List X) → next ≡ now ++ own → rest ≡ own ++ [] → now ++ rest ≡ whole → next ≡ whole
last now next own rest whole e f h = sym (append_none next) ∙ more now next own rest [] whole e f h

pub cases_more : (t : Typed) (left m number node : ℕ) → left ≡ m + 1 → is_label (kind_at t node) ≡ true
    → map (case_of number) (cases_by left t node) ≡ own_case t number node ++ map (case_of number) (cases_by m t (labelled t node))
cases_more t left m number node e is =
    let f : left ≡ suc m = omega (arith, e) in
    rw f (cases_step t m number node ∙ ap (λ label. own_case t number node ++ map (case_of number) (if label then cases_by m t (labelled t node) else [])) is)

pub cases_last : (t : Typed) (left m number node : ℕ) → left ≡ m + 1 → is_label (kind_at t node) ≡ false
    → map (case_of number) (cases_by left t node) ≡ own_case t number node ++ []
cases_last t left m number node e is =
    let f : left ≡ suc m = omega (arith, e) in
    rw f (cases_step t m number node ∙ ap (λ label. own_case t number node ++ map (case_of number) (if label then cases_by m t (labelled t node) else [])) is)

pub targets_more : (t : Typed) (left m number node : ℕ) → left ≡ m + 1 → is_label (kind_at t node) ≡ true
    → map (target_of number) (marks_by left t node) ≡ own_target t number node ++ map (target_of number) (marks_by m t (labelled t node))
targets_more t left m number node e is =
    let f : left ≡ suc m = omega (arith, e) in
    rw f (targets_step t m number node ∙ ap (λ label. own_target t number node ++ map (target_of number) (if label then marks_by m t (labelled t node) else [])) is)

pub targets_last : (t : Typed) (left m number node : ℕ) → left ≡ m + 1 → is_label (kind_at t node) ≡ false
    → map (target_of number) (marks_by left t node) ≡ own_target t number node ++ []
targets_last t left m number node e is =
    let f : left ≡ suc m = omega (arith, e) in
    rw f (targets_step t m number node ∙ ap (λ label. own_target t number node ++ map (target_of number) (if label then marks_by m t (labelled t node) else [])) is)

-- ---- the first default

after_two : (first : Option ℕ) (own rest : Bool) (number : ℕ) → default_after (default_after first own number) rest number ≡ default_after first (own || rest) number
after_two (Some n) own rest number = refl
after_two None true rest number = refl
after_two None false rest number = refl

pub default_more : (t : Typed) (left m number node : ℕ) (now next whole : Option ℕ) → left ≡ m + 1 → is_label (kind_at t node) ≡ true
    → next ≡ default_after now (is_default (kind_at t node)) number → default_after now (has_default_by left t node) number ≡ whole
    → default_after next (has_default_by m t (labelled t node)) number ≡ whole
default_more t left m number node now next whole e is f h =
    let k = kind_at t node in
    let rest = has_default_by m t (labelled t node) in
    let g : left ≡ suc m = omega (arith, e) in
    let step : has_default_by left t node ≡ (is_default k || rest) =
    rw g (default_split (is_case k) (is_default k) (is_mark k) rest ∙ ap (λ label. is_default k || (label && rest)) is) in
    ap (λ n. default_after n rest number) f ∙ after_two now (is_default k) rest number ∙ sym (ap (λ has. default_after now has number) step) ∙ h

or_false : (b : Bool) → (b || false) ≡ b
or_false true = refl
or_false false = refl

pub default_last : (t : Typed) (left m number node : ℕ) (now next whole : Option ℕ) → left ≡ m + 1 → is_label (kind_at t node) ≡ false
    → next ≡ default_after now (is_default (kind_at t node)) number → default_after now (has_default_by left t node) number ≡ whole → next ≡ whole
default_last t left m number node now next whole e is f h =
    let k = kind_at t node in
    let rest = has_default_by m t (labelled t node) in
    let g : left ≡ suc m = omega (arith, e) in
    let step : has_default_by left t node ≡ is_default k =
    rw g (default_split (is_case k) (is_default k) (is_mark k) rest ∙ ap (λ label. is_default k || (label && rest)) is ∙ or_false (is_default k)) in
    f ∙ sym (ap (λ has. default_after now has number) step) ∙ h

pub default_none : (now : Option ℕ) (number : ℕ) → default_after now false number ≡ now
default_none (Some n) number = refl
default_none None number = refl

pub none_more : {X : Type 0} (xs whole : List X) → xs ++ [] ≡ whole → xs ≡ whole
none_more xs whole h = sym (append_none xs) ∙ h

-- ---- one item more

pub cases_push : (t : Typed) (n item : ℕ) (items : List ℕ) → cases_from t n (items ++ item ∷ [])
    ≡ cases_from t n items ++ map (case_of (n + length items)) (cases_by (length t.nodes) t item)
cases_push t n item [] = let e : n + 0 ≡ n = omega arith in rw e (append_none (map (case_of n) (cases_by (length t.nodes) t item)))
cases_push t n item (first ∷ items) =
    let e : n + length (first ∷ items) ≡ suc n + length items = omega arith in
    rw e (ap (λ r. map (case_of n) (cases_by (length t.nodes) t first) ++ r) (cases_push t (suc n) item items)
    ∙ sym (append_assoc (map (case_of n) (cases_by (length t.nodes) t first)) (cases_from t (suc n) items) (map (case_of (suc n + length items)) (cases_by (length t.nodes) t item))))

pub targets_push : (t : Typed) (n item : ℕ) (items : List ℕ) → targets_from t n (items ++ item ∷ [])
    ≡ targets_from t n items ++ map (target_of (n + length items)) (marks_by (length t.nodes) t item)
targets_push t n item [] = let e : n + 0 ≡ n = omega arith in rw e (append_none (map (target_of n) (marks_by (length t.nodes) t item)))
targets_push t n item (first ∷ items) =
    let e : n + length (first ∷ items) ≡ suc n + length items = omega arith in
    rw e (ap (λ r. map (target_of n) (marks_by (length t.nodes) t first) ++ r) (targets_push t (suc n) item items)
    ∙ sym (append_assoc (map (target_of n) (marks_by (length t.nodes) t first)) (targets_from t (suc n) items) (map (target_of (suc n + length items)) (marks_by (length t.nodes) t item))))

if_after : (has : Bool) (n : ℕ) → (if has then Some n else None) ≡ default_after None has n
if_after true n = refl
if_after false n = refl

pub default_push : (t : Typed) (n item : ℕ) (items : List ℕ) → default_from t n (items ++ item ∷ [])
    ≡ default_after (default_from t n items) (has_default_by (length t.nodes) t item) (n + length items)
default_push t n item [] = let e : n + 0 ≡ n = omega arith in rw e (if_after (has_default_by (length t.nodes) t item) n)
default_push t n item (first ∷ items) =
    let e : n + length (first ∷ items) ≡ suc n + length items = omega arith in
    rw e (by (has_default_by (length t.nodes) t first) (default_push t (suc n) item items))
  where
    by : (has : Bool) → default_from t (suc n) (items ++ item ∷ []) ≡ default_after (default_from t (suc n) items) (has_default_by (length t.nodes) t item) (suc n + length items)
        → (if has then Some n else default_from t (suc n) (items ++ item ∷ []))
        ≡ default_after (if has then Some n else default_from t (suc n) items) (has_default_by (length t.nodes) t item) (suc n + length items)
    by true h = refl
    by false h = h

take_more : {X : Type 0} (xs : List X) (k : ℕ) (d : X) → k < length xs → take (k + 1) xs ≡ take k xs ++ slice_index_or xs k d ∷ []
take_more [] k d lt = absurd (omega (arith, lt))
take_more (x ∷ xs) zero d lt = refl
take_more (x ∷ xs) (suc k) d lt = let e : suc k + 1 ≡ suc (k + 1) = omega arith in rw e (ap (λ r. x ∷ r) (take_more xs k d (omega (arith, lt))))

pub items_cases : (t : Typed) (items : List ℕ) (k item : ℕ) → k < length items → item ≡ slice_index_or items k 0
    → cases_from t 0 (take (k + 1) items) ≡ cases_from t 0 (take k items) ++ map (case_of k) (cases_by (length t.nodes) t item)
items_cases t items k item lt e =
    let n : 0 + length (take k items) ≡ k = length_take k items (omega (arith, lt)) in
    ap (cases_from t 0) (take_more items k 0 lt) ∙ sym (ap (λ i. cases_from t 0 (take k items ++ i ∷ [])) e) ∙ cases_push t 0 item (take k items)
    ∙ ap (λ m. cases_from t 0 (take k items) ++ map (case_of m) (cases_by (length t.nodes) t item)) n

pub items_targets : (t : Typed) (items : List ℕ) (k item : ℕ) → k < length items → item ≡ slice_index_or items k 0
    → targets_from t 0 (take (k + 1) items) ≡ targets_from t 0 (take k items) ++ map (target_of k) (marks_by (length t.nodes) t item)
items_targets t items k item lt e =
    let n : 0 + length (take k items) ≡ k = length_take k items (omega (arith, lt)) in
    ap (targets_from t 0) (take_more items k 0 lt) ∙ sym (ap (λ i. targets_from t 0 (take k items ++ i ∷ [])) e) ∙ targets_push t 0 item (take k items)
    ∙ ap (λ m. targets_from t 0 (take k items) ++ map (target_of m) (marks_by (length t.nodes) t item)) n

pub items_default : (t : Typed) (items : List ℕ) (k item : ℕ) → k < length items → item ≡ slice_index_or items k 0
    → default_from t 0 (take (k + 1) items) ≡ default_after (default_from t 0 (take k items)) (has_default_by (length t.nodes) t item) k
items_default t items k item lt e =
    let n : 0 + length (take k items) ≡ k = length_take k items (omega (arith, lt)) in
    ap (default_from t 0) (take_more items k 0 lt) ∙ sym (ap (λ i. default_from t 0 (take k items ++ i ∷ [])) e) ∙ default_push t 0 item (take k items)
    ∙ ap (λ m. default_after (default_from t 0 (take k items)) (has_default_by (length t.nodes) t item) m) n

pub added_none : (t : Typed) (number node : ℕ) (labels : Labels) (k : Kind) → k ≡ kind_at t node → IsNone k → IsAdded t number node labels labels false
added_none t number node labels k e none =
    let case : is_case (kind_at t node) ≡ false = ap is_case (sym e) ∙ none.case in
    let default : is_default (kind_at t node) ≡ false = ap is_default (sym e) ∙ none.default in
    let mark : is_mark (kind_at t node) ≡ false = ap is_mark (sym e) ∙ none.mark in
    let label : is_label (kind_at t node) ≡ false = ap is_label (sym e) ∙ none.label in
    record {
      told = sym label;
      cases = sym (ap (λ b. labels.cases.items ++ (if b then case_of number (value_or (slice_index_or t.constants (part_at t node 0) None)) ∷ [] else [])) case ∙ append_none labels.cases.items);
      default = sym (ap (λ b. default_after labels.default b number) default ∙ default_none labels.default number);
      targets = sym (ap (λ b. labels.targets.items ++ (if b then target_of number node ∷ [] else [])) mark ∙ append_none labels.targets.items);
    }
