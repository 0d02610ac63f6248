-- Words begin with one formula at most.
use Rattle.std.proofs.Common.{◌≡◌, ℕ, ◌^◌, ◌<◌, ◌≤◌, List, [], ◌∷◌, codes, refl, sym, ap, ap₂, subst, ◌∙◌, arith}
use Rattle.std.specs.Fmt.{decimal}
use Rattle.std.proofs.lemmas.Fmt.{decimal_injective}
use Rattle.cr_check_constants.specs.Literals.{inside_of}
use Rattle.cr_check_literals.specs.Characters.{bytes_of}
use Rattle.cr_formula.specs.Forms.{Form, IsLiteralOf, Quotes, Reads, ReadsTwo}
use Rattle.cr_formula.specs.Forms.Form.{both, either, ends, has, negated, prints, same}
use Rattle.cr_formula.proofs.Heads.{behind, only_both, only_either, only_ends, only_has, only_negated, only_prints, only_same}

-- of two equal lists the middle word and what follows
pub third : (a c x y : List ℕ) (xs ys : List (List ℕ)) → a ∷ x ∷ c ∷ xs ≡ a ∷ y ∷ c ∷ ys → (x ≡ y) × (xs ≡ ys)
third a c x y xs ys is = (cc, cc)

pub same_status : (m n : ℕ) → m ≤ 255 → n ≤ 255 → decimal m ≡ decimal n → m ≡ n
same_status m n low small is = decimal_injective m n (omega arith) (omega arith) is

-- one text at most stands in brackets at the front
pub one_quote : (text other : List ℕ) (words rest more : List (List ℕ)) → Quotes text words rest → Quotes other words more → (text ≡ other) × (rest ≡ more)
one_quote text other words rest more it also =
    let found = third (codes "(") (codes ")") it.0 also.0 rest more (sym it.2 ∙ also.2) in
    (it.1.1 ∙ ap (λ literal. bytes_of (inside_of literal)) found.0 ∙ sym also.1.1, found.1)

pub once : (f g : Form) (words others rest more : List (List ℕ)) → words ≡ others → Reads f words rest → Reads g others more → (f ≡ g) × (rest ≡ more)
once (has text) g words others rest more e it also =
    let found = only_has g (codes "(" ∷ it.0 ∷ codes ")" ∷ rest) more (subst (λ ws. Reads g ws more) (sym e ∙ it.3) also) in
    let one = one_quote text found.0 (codes "(" ∷ it.0 ∷ codes ")" ∷ rest) rest more (it.0, it.1, refl) found.3 in
    (ap has one.0 ∙ sym found.1, one.1)
once (prints text) g words others rest more e it also =
    let found = only_prints g (codes "(" ∷ it.0 ∷ codes ")" ∷ rest) more (subst (λ ws. Reads g ws more) (sym e ∙ it.2) also) in
    let one = one_quote text found.0 (codes "(" ∷ it.0 ∷ codes ")" ∷ rest) rest more (it.0, it.1, refl) found.2 in
    (ap prints one.0 ∙ sym found.1, one.1)
once (ends status) g words others rest more e it also =
    let found = only_ends g (codes "(" ∷ decimal status ∷ codes ")" ∷ rest) more (subst (λ ws. Reads g ws more) (sym e ∙ it.1) also) in
    let one = third (codes "(") (codes ")") (decimal status) (decimal found.0) rest more found.3 in
    (ap ends (same_status status found.0 it.0 found.2 one.0) ∙ sym found.1, one.1)
once same g words others rest more e it also =
    let found = only_same g rest more (subst (λ ws. Reads g ws more) (sym e ∙ it) also) in
    (sym found.0, found.1)
once (both left right) g words others rest more e it also =
    let found = only_both g (codes "(" ∷ it.0) more (subst (λ ws. Reads g ws more) (sym e ∙ it.2) also) in
    let two = found.3 in
    let one = once left found.0 it.0 two.0 (codes "," ∷ it.1) (codes "," ∷ two.1) (behind it.0 two.0 (codes "(") two.2) it.3 two.3 in
    let next = once right found.1 it.1 two.1 (codes ")" ∷ rest) (codes ")" ∷ more) (behind it.1 two.1 (codes ",") one.1) it.4 two.4 in
    (ap₂ both one.0 next.0 ∙ sym found.2, behind rest more (codes ")") next.1)
once (either left right) g words others rest more e it also =
    let found = only_either g (codes "(" ∷ it.0) more (subst (λ ws. Reads g ws more) (sym e ∙ it.2) also) in
    let two = found.3 in
    let one = once left found.0 it.0 two.0 (codes "," ∷ it.1) (codes "," ∷ two.1) (behind it.0 two.0 (codes "(") two.2) it.3 two.3 in
    let next = once right found.1 it.1 two.1 (codes ")" ∷ rest) (codes ")" ∷ more) (behind it.1 two.1 (codes ",") one.1) it.4 two.4 in
    (ap₂ either one.0 next.0 ∙ sym found.2, behind rest more (codes ")") next.1)
once (negated inner) g words others rest more e it also =
    let found = only_negated g (codes "(" ∷ it.0) more (subst (λ ws. Reads g ws more) (sym e ∙ it.1) also) in
    let one = once inner found.0 it.0 found.2 (codes ")" ∷ rest) (codes ")" ∷ more) (behind it.0 found.2 (codes "(") found.3) it.2 found.4 in
    (ap negated one.0 ∙ sym found.1, behind rest more (codes ")") one.1)
