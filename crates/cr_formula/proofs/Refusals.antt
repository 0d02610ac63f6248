-- Words that begin with no formula.
use Rattle.std.proofs.Common.{◌≡◌, ℕ, ◌+◌, ◌≤◌, max, List, [], ◌∷◌, codes, refl, sym, ap, subst, ◌∙◌, arith}
use Rattle.cr_formula.specs.Forms.{Form, NoFormula, NoTwo, Reads, ReadsTwo, nesting_of}
use Rattle.cr_formula.specs.Forms.Form.{both, either, negated}
use Rattle.cr_formula.proofs.Heads.{behind, only_both, only_either, only_negated}
use Rattle.cr_formula.proofs.Once.{once}

-- no word of these begins the words
abbrev pub NoneBegins : List ℕ → List (List ℕ) → Type 0
NoneBegins word words = (rest : List (List ℕ)) → words ≡ word ∷ rest → ⊥

pub not_open : (words : List (List ℕ)) (depth : ℕ) → NoneBegins (codes "(") words → NoFormula (codes "not" ∷ words) depth
not_open words depth none f rest it deep = let found = only_negated f words rest it in none found.2 found.3

-- two formulas in brackets are none behind a name
pub no_both : (words : List (List ℕ)) (left : ℕ) → NoTwo words left → NoFormula (codes "and" ∷ words) (left + 1)
no_both words left none f rest it deep =
    let found = only_both f words rest it in
    let depth : max (nesting_of found.0) (nesting_of found.1) + 1 ≤ left + 1 = subst (λ g. nesting_of g ≤ left + 1) found.2 deep in
    none found.0 found.1 rest found.3 (omega arith) (omega arith)

pub no_either : (words : List (List ℕ)) (left : ℕ) → NoTwo words left → NoFormula (codes "or" ∷ words) (left + 1)
no_either words left none f rest it deep =
    let found = only_either f words rest it in
    let depth : max (nesting_of found.0) (nesting_of found.1) + 1 ≤ left + 1 = subst (λ g. nesting_of g ≤ left + 1) found.2 deep in
    none found.0 found.1 rest found.3 (omega arith) (omega arith)

module _ (words inside : List (List ℕ)) (left : ℕ) (opened : words ≡ codes "(" ∷ inside) where
  pub not_one : NoFormula inside left → NoFormula (codes "not" ∷ words) (left + 1)
  not_one none f rest it deep =
      let found = only_negated f words rest it in
      let same : found.2 ≡ inside = behind found.2 inside (codes "(") (sym found.3 ∙ opened) in
      let depth : nesting_of found.0 + 1 ≤ left + 1 = subst (λ g. nesting_of g ≤ left + 1) found.1 deep in
      none found.0 (codes ")" ∷ rest) (subst (λ ws. Reads found.0 ws (codes ")" ∷ rest)) same found.4) (omega arith)

  pub not_close : (one : Form) (after : List (List ℕ)) → Reads one inside after → NoneBegins (codes ")") after → NoFormula (codes "not" ∷ words) (left + 1)
  not_close one after read none f rest it deep =
      let found = only_negated f words rest it in
      let same : inside ≡ found.2 = behind inside found.2 (codes "(") (sym opened ∙ found.3) in
      none rest (once one found.0 inside found.2 after (codes ")" ∷ rest) same read found.4).1

  module _ (one : Form) (after : List (List ℕ)) (read : Reads one inside after) where
    parted_by : (f g : Form) (rest : List (List ℕ)) (it : ReadsTwo f g words rest) → after ≡ codes "," ∷ it.1
    parted_by f g rest it =
        (once one f inside it.0 after (codes "," ∷ it.1) (behind inside it.0 (codes "(") (sym opened ∙ it.2)) read it.3).1

    pub two_comma : NoneBegins (codes ",") after → NoTwo words left
    two_comma none f g rest it low small = none it.1 (parted_by f g rest it)

    module _ (second : List (List ℕ)) (parted : after ≡ codes "," ∷ second) where
      pub two_other : NoFormula second left → NoTwo words left
      two_other none f g rest it low small =
          let same : it.1 ≡ second = behind it.1 second (codes ",") (sym (parted_by f g rest it) ∙ parted) in
          none g (codes ")" ∷ rest) (subst (λ ws. Reads g ws (codes ")" ∷ rest)) same it.4) small

      pub two_close : (next : Form) (end : List (List ℕ)) → Reads next second end → NoneBegins (codes ")") end → NoTwo words left
      two_close next end read_next none f g rest it low small =
          let same : second ≡ it.1 = behind second it.1 (codes ",") (sym parted ∙ parted_by f g rest it) in
          none rest (once next g second it.1 end (codes ")" ∷ rest) same read_next it.4).1
