-- The values of an id, as clap answers them.
use Rattle.std.proofs.Common.{◌≡◌, ◌==◌, true, List, [], ◌∷◌, length, get_or, Option, option_map, unwrap_or, Result, Err, refl, sym, ap, ◌∙◌, subst, arith}
use Rattle.std.specs.Borrow.{Bor}
use Rattle.std.specs.Result.{IsErrAnd}
use Rattle.clap.specs.Matches.{matched_of, raw_values}
use Rattle.clap.specs.Walk.{rows_of, texts}
use Rattle.clap.specs.declared.parser.matches.Found.{Found}
use Rattle.clap.proofs.WalkLemmas.{raw_values-rows}
use Rattle.cr_main_words.specs.Splitting.{values_at}
use Rattle.cr_main_words.specs.Words.{Word}
use Rattle.cr_main_words.specs.declared.command.WordFault.{WordFault}
use Rattle.cr_main_words.specs.declared.command.WordFault.TheVariants.{Usage}
use Rattle.cr_main_words.proofs.Rows.{values_at-all_of}

-- the values are those of the rows, and none where there is no row
pub values_are : (f : Found) (id : Word) (values : Option (List Word)) → values ≡ option_map raw_values (matched_of f id) → values_at id (rows_of f) ≡ unwrap_or values []
values_are f id values is = values_at-all_of id (rows_of f) ∙ ap (λ v. unwrap_or v []) (sym (is ∙ raw_values-rows f id))

pub none_of : (values : List (Bor Word)) → length values ≡ 0 → texts values ≡ []
none_of [] none = refl
none_of (x ∷ more) none = absurd (omega arith)

pub empty_of : (values : List (Bor Word)) → texts values ≡ [] → (length values == 0) ≡ true
empty_of [] none = refl
empty_of (x ∷ more) none = cc

pub one_of : (values : List (Bor Word)) (d : Bor Word) → length values ≡ 1 → texts values ≡ (get_or values 0 d).now ∷ []
one_of [] d one = absurd (omega arith)
one_of (x ∷ []) d one = refl
one_of (x ∷ (y ∷ more)) d one = absurd (omega arith)

pub two_of : (values : List (Bor Word)) (d e : Bor Word) → length values ≡ 2 → texts values ≡ (get_or values 0 d).now ∷ ((get_or values 1 e).now ∷ [])
two_of [] d e two = absurd (omega arith)
two_of (x ∷ []) d e two = absurd (omega arith)
two_of (x ∷ (y ∷ [])) d e two = refl
two_of (x ∷ (y ∷ (z ∷ more))) d e two = absurd (omega arith)

-- the fault that is handed on
pub same_fault : {T : Type 0} (r : Result T WordFault) (fault : WordFault) → IsErrAnd r (λ x. x ≡ fault) → r ≡ Err Usage → fault ≡ Usage
same_fault r fault handed is = sym (subst (λ x. IsErrAnd x (λ y. y ≡ fault)) is handed)
