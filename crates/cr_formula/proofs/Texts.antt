-- Texts of one formula at most.
use Rattle.std.proofs.Common.{◌≡◌, ◌≤◌, ◌++◌, ◌⊎◌, inl, inr, ℕ, List, [], codes, Result, Ok, Err, IfOk, refl, sym, ap, subst, ◌∙◌}
use Rattle.cr_tokens.specs.declared.token.Token.{Token}
use Rattle.cr_tokens.specs.declared.token.TokenFault.{TokenFault}
use Rattle.cr_tokens.specs.declared.token.TokenFault.TheVariants as fault
use Rattle.cr_tokens.specs.Tokens.{HasNoTokens, Tokenizes}
use Rattle.cr_tokens.specs.Runs.{spellings}
use Rattle.cr_tokens.proofs.Wholes.{one_list}
use Rattle.cr_formula.specs.declared.formula.Formula.{Formula}
use Rattle.cr_formula.specs.declared.formula.FormulaFault.{FormulaFault}
use Rattle.cr_formula.specs.declared.formula.FormulaFault.TheVariants as refusal
use Rattle.cr_formula.specs.Forms.{Form, Reads, Spells, TextSpells, form_of, nesting_of}
use Rattle.cr_formula.specs.Laws.{SpellsOneFormula}
use Rattle.cr_formula.proofs.Once.{once}

-- of the one list of a text's tokens
pub reads_of : (text : List ℕ) (tokens : List Token) (f : Form) → Tokenizes text tokens → (it : TextSpells text f) → Reads f (spellings text tokens) []
reads_of text tokens f are it = subst (λ ts. Reads f (spellings text ts) []) (one_list text it.tokens tokens it.tokenizes are) it.reads

-- what was read of the words is the text's
pub read_found : (text : List ℕ) (tokens : List Token) (words : List (List ℕ)) (r : Result Formula FormulaFault) → Tokenizes text tokens → words ≡ spellings text tokens
    → IfOk r (λ f. Reads (form_of f) words [] × (nesting_of (form_of f) ≤ 64)) → IfOk r (λ f. TextSpells text (form_of f))
read_found text tokens words (Ok f) are is it = record {
  tokens = tokens;
  tokenizes = are;
  reads = subst (λ ws. Reads (form_of f) ws []) is it.0;
  shallow = it.1;
}
read_found text tokens words (Err e) are is it = tt

pub read_none : (text : List ℕ) (tokens : List Token) (words : List (List ℕ)) (r : Result Formula FormulaFault) → Tokenizes text tokens → words ≡ spellings text tokens
    → (r ≡ Err refusal.Form → (f : Form) → Reads f words [] → nesting_of f ≤ 64 → ⊥) → r ≡ Err refusal.Form → (f : Form) → TextSpells text f → ⊥
read_none text tokens words r are is none form f it = none form f (subst (λ ws. Reads f ws []) (sym is) (reads_of text tokens f are it)) it.shallow

-- a text without tokens spells none
pub none_spelled : (text : List ℕ) (e : TokenFault) → (e ≡ fault.NoMemory → ⊥) → (e ≡ fault.NoMemory) ⊎ HasNoTokens text → (f : Form) → TextSpells text f → ⊥
none_spelled text e other (inl is) f it = other is
none_spelled text e other (inr none) f it = none it.tokens it.tokenizes

pub one_text : (text : List ℕ) (f g : Form) → TextSpells text f → TextSpells text g → f ≡ g
one_text text f g it also = (once f g (spellings text also.tokens) (spellings text also.tokens) [] [] refl (reads_of text also.tokens f also.tokenizes it) also.reads).0

same_text : (text other : List ℕ) → codes "if:" ++ text ≡ codes "if:" ++ other → text ≡ other
same_text text other is = cc

pub one_formula : SpellsOneFormula
one_formula word f g it also =
    let same = same_text it.0 also.0 (sym it.1 ∙ also.1) in
    one_text also.0 f g (subst (λ t. TextSpells t f) same it.2) also.2

-- what was read of the text behind `if:` is the word's
pub word_found : (word text : List ℕ) (r : Result Formula FormulaFault) → word ≡ codes "if:" ++ text → IfOk r (λ f. TextSpells text (form_of f)) → IfOk r (λ f. Spells word (form_of f))
word_found word text (Ok f) is it = (text, is, it)
word_found word text (Err e) is it = tt

pub word_none : (word text : List ℕ) (r : Result Formula FormulaFault) → word ≡ codes "if:" ++ text → (r ≡ Err refusal.Form → (f : Form) → TextSpells text f → ⊥)
    → r ≡ Err refusal.Form → (f : Form) → Spells word f → ⊥
word_none word text r is none form f it =
    let same = same_text it.0 text (sym it.1 ∙ is) in none form f (subst (λ t. TextSpells t f) same it.2)
