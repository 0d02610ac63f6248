-- What words begin with, by their first one.
use Rattle.std.proofs.Common.{◌≡◌, ℕ, ◌+◌, ◌≤◌, Bool, true, false, List, [], ◌∷◌, codes, refl, sym, ap, subst, ◌∙◌, arith}
use Rattle.std.specs.Fmt.{decimal}
use Rattle.std.specs.Str.{bytes_eq}
use Rattle.std.proofs.lemmas.Slice.Eq.{bytes_eq-Decides}
use Rattle.cr_outside.specs.HasText.{IsText}
use Rattle.cr_formula.specs.Forms.{Form, IsLiteralOf, Quotes, Reads, ReadsTwo, name_of, nesting_of}
use Rattle.cr_formula.specs.declared.words.Head.{Head}
use Rattle.cr_formula.specs.declared.words.Head.TheVariants as head
use Rattle.cr_formula.specs.Forms.Form.{both, either, ends, has, negated, prints, same}

pub behind : (xs ys : List (List ℕ)) (a : List ℕ) → a ∷ xs ≡ a ∷ ys → xs ≡ ys
behind xs ys a is = cc

-- the word with which a formula begins
abbrev head_of : Form → Head
head_of (has text) = head.Has
head_of (prints text) = head.Prints
head_of (ends status) = head.Ends
head_of same = head.Same
head_of (both left right) = head.And
head_of (either left right) = head.Or
head_of (negated one) = head.Not

abbrev first_of : Form → List ℕ
first_of f = name_of (head_of f)

begins : (f : Form) (words rest : List (List ℕ)) → Reads f words rest → (more : List (List ℕ)) × (words ≡ first_of f ∷ more)
begins (has text) words rest it = (codes "(" ∷ it.0 ∷ codes ")" ∷ rest, it.3)
begins (prints text) words rest it = (codes "(" ∷ it.0 ∷ codes ")" ∷ rest, it.2)
begins (ends status) words rest it = (codes "(" ∷ decimal status ∷ codes ")" ∷ rest, it.1)
begins same words rest it = (rest, it)
begins (both left right) words rest it = (codes "(" ∷ it.0, it.2)
begins (either left right) words rest it = (codes "(" ∷ it.0, it.2)
begins (negated one) words rest it = (codes "(" ∷ it.0, it.1)

head_is : (a b : List ℕ) (xs ys : List (List ℕ)) → a ∷ xs ≡ b ∷ ys → a ≡ b
head_is a b xs ys is = cc

-- words that begin otherwise are another formula's
other : (f : Form) (name : List ℕ) (words rest : List (List ℕ)) → bytes_eq name (first_of f) ≡ false → Reads f (name ∷ words) rest → ⊥
other f name words rest differs it =
    let begun = begins f (name ∷ words) rest it in
    let equal : bytes_eq name (first_of f) ≡ true = (bytes_eq-Decides name (first_of f)).1 (head_is name (first_of f) words begun.0 begun.1) in
    let bad : false ≡ true = sym differs ∙ equal in
    cc

pub only_has : (f : Form) (words rest : List (List ℕ)) → Reads f (codes "has" ∷ words) rest
    → (text : List ℕ) × (f ≡ has text) × IsText text × Quotes text words rest
only_has (has text) words rest it = (text, refl, it.2, (it.0, it.1, behind words _ (codes "has") it.3))
only_has f words rest it = absurd (other f (codes "has") words rest refl it)

pub only_prints : (f : Form) (words rest : List (List ℕ)) → Reads f (codes "prints" ∷ words) rest
    → (text : List ℕ) × (f ≡ prints text) × Quotes text words rest
only_prints (prints text) words rest it = (text, refl, (it.0, it.1, behind words _ (codes "prints") it.2))
only_prints f words rest it = absurd (other f (codes "prints") words rest refl it)

pub only_ends : (f : Form) (words rest : List (List ℕ)) → Reads f (codes "ends" ∷ words) rest
    → (status : ℕ) × (f ≡ ends status) × (status ≤ 255) × (words ≡ codes "(" ∷ decimal status ∷ codes ")" ∷ rest)
only_ends (ends status) words rest it = (status, refl, it.0, behind words _ (codes "ends") it.1)
only_ends f words rest it = absurd (other f (codes "ends") words rest refl it)

pub only_same : (f : Form) (words rest : List (List ℕ)) → Reads f (codes "same" ∷ words) rest → (f ≡ same) × (words ≡ rest)
only_same same words rest it = (refl, behind words rest (codes "same") it)
only_same f words rest it = absurd (other f (codes "same") words rest refl it)

pub only_both : (f : Form) (words rest : List (List ℕ)) → Reads f (codes "and" ∷ words) rest
    → (left right : Form) × (f ≡ both left right) × ReadsTwo left right words rest
only_both (both left right) words rest it = (left, right, refl, (it.0, it.1, behind words (codes "(" ∷ it.0) (codes "and") it.2, it.3, it.4))
only_both f words rest it = absurd (other f (codes "and") words rest refl it)

pub only_either : (f : Form) (words rest : List (List ℕ)) → Reads f (codes "or" ∷ words) rest
    → (left right : Form) × (f ≡ either left right) × ReadsTwo left right words rest
only_either (either left right) words rest it = (left, right, refl, (it.0, it.1, behind words (codes "(" ∷ it.0) (codes "or") it.2, it.3, it.4))
only_either f words rest it = absurd (other f (codes "or") words rest refl it)

pub only_negated : (f : Form) (words rest : List (List ℕ)) → Reads f (codes "not" ∷ words) rest
    → (one : Form) × (f ≡ negated one) × (first : List (List ℕ)) × (words ≡ codes "(" ∷ first) × Reads one first (codes ")" ∷ rest)
only_negated (negated one) words rest it = (one, refl, it.0, behind words (codes "(" ∷ it.0) (codes "not") it.1, it.2)
only_negated f words rest it = absurd (other f (codes "not") words rest refl it)

-- words that begin with no such word begin with no formula, and none has no depth
pub no_head : (f : Form) (words rest : List (List ℕ)) → ((h : Head) (more : List (List ℕ)) → words ≡ name_of h ∷ more → ⊥) → Reads f words rest → ⊥
no_head f words rest none it = let begun = begins f words rest it in none (head_of f) begun.0 begun.1

pub no_depth : (f : Form) → nesting_of f ≤ 0 → ⊥
no_depth (both left right) deep = omega arith
no_depth (either left right) deep = omega arith
no_depth (negated one) deep = omega arith
no_depth f deep = omega arith
