use Rattle.std.proofs.Common.{◌≡◌, inl, inr, [], subst, ◌∙◌, true}
use Rattle.clap.specs.Kinds.{HasKind}
use Rattle.clap.specs.Faults.{fault_of, is_simple_and_free}
use Rattle.clap.specs.Simple.{HasMatchesOf}
use Rattle.clap.specs.Words.{app_of, found_of, kind_of, rows_of}
use Rattle.cr_main_words.specs.Words.{texts_of}
use Rattle.cr_main_words.specs.declared.command.WordFault.TheVariants as fault
use Rattle.cr_main_words.proofs.Results.{all_utf8, app_is_free, app_is_simple, found_all, none_told, the_app}
use Rattle.cr_main_words.proofs.command.parse.Goals as goal

pub returns-in-Ok-try_get_matches_from-clause-found : goal.returns-in-Ok-try_get_matches_from-clause-found
returns-in-Ok-try_get_matches_from-clause-found c =
    let texts = texts_of c.args.list.now in
    let m = c.in-Ok-try_get_matches_from.matches in
    let e : app_of c.in-Ok.command ≡ the_app = c.in-Ok.ensures in
    let none : fault_of the_app texts ≡ [] =
    subst (λ a. is_simple_and_free a ≡ true → fault_of a texts ≡ []) e c.in-Ok-try_get_matches_from.ensures.kinds app_is_free in
    let are = (subst (λ a. HasMatchesOf a texts m) e c.in-Ok-try_get_matches_from.ensures.matches) app_is_simple in
    found_all texts (all_utf8 c.args.list.now) (rows_of (found_of m)) none are.0

pub returns-in-Err-clause-usage : goal.returns-in-Err-clause-usage
returns-in-Err-clause-usage c = λ is said tells.
    let texts = texts_of c.args.list.now in
    let e : app_of c.in-Ok.command ≡ the_app = c.in-Ok.ensures in
    let has : HasKind (fault_of the_app texts) c.in-Err.error =
    subst (λ a. is_simple_and_free a ≡ true → HasKind (fault_of a texts) c.in-Err.error) e c.in-Err.ensures.kinds app_is_free in
    let usage : c.fault_of_kind.result ≡ fault.Usage = cc in
    elim has [
      | inl memory ↦ absurd (c.fault_of_kind.ensures usage (c.kind.ensures ∙ memory))
      | inr among ↦ none_told texts (all_utf8 c.args.list.now) (kind_of c.in-Err.error) said among tells
    ]
