-- The words ask for one thing: two tasks that they give have one limit, one file, and the same answers.
use Rattle.std.proofs.Common.{◌≡◌, ◌≢◌, inl, inr, ◌==◌, ℕ, suc, Bool, true, false, List, [], ◌∷◌, ◌++◌, length, Option, Some, None, if◌then◌else◌, append_assoc, refl, sym, ap, subst, ◌∙◌, arith}
use Rattle.std.proofs.lemmas.Bool.{eqb-true}
use Rattle.cr_gen.specs.Program.{generated}
use Rattle.cr_lawful.specs.Lawful.{IsLawful, limits_of}
use Rattle.cr_outside.specs.Files.{Names}
use Rattle.cr_outside.specs.Question.{Says as Telling}
use Rattle.cr_outside.specs.Test.{asks_test, tells_test}
use Rattle.pass_list.specs.Offers.{levels_on}
use Rattle.cr_reduce.specs.Bench.{Judging}
use Rattle.cr_reduce.specs.Reduction.{Within}
use Rattle.cr_main_words.specs.Laws.{SameSettings, SameSource}
use Rattle.cr_main_words.specs.Names.{IsOwnName, NoSlash, name_of}
use Rattle.cr_main_words.specs.Words.{Word}
use Rattle.cr_main_words.specs.declared.settings.Settings.{Settings}
use Rattle.cr_main_words.specs.declared.source.Source.{Source}
use Rattle.cr_main_words.specs.declared.source.Source.TheVariants as source
use Rattle.cr_main_words.proofs.Giving.{one_settings}
use Rattle.cr_main_task.specs.Headline.{HasAll, enough_for}
use Rattle.cr_main_task.specs.Outside.{Outside}
use Rattle.cr_main_task.specs.Task.{FileHas, FileLacks}
use Rattle.cr_main.specs.Headline.{IsTask}
use Rattle.cr_main.specs.Task.{saves_of, task_of, text_of}

-- a name has one own name: what stands behind its last /

behind : List ℕ → Option (List ℕ)
behind [] = None
behind (b ∷ bs) = elim (behind bs) [ Some own ↦ Some own | None ↦ if b == 47 then Some bs else None ]

own_of : List ℕ → List ℕ
own_of name = elim (behind name) [ Some own ↦ own | None ↦ name ]

not_slash : (b : ℕ) → b ≢ 47 → (b == 47) ≡ false
not_slash b other = elim (b == 47) as (λ t. (b == 47) ≡ t → t ≡ false) [
  | true ↦ λ is. absurd (other (eqb-true b 47 is))
  | false ↦ λ is. refl
] refl

plain_behind : (own : List ℕ) → NoSlash own → behind own ≡ None
unfolding behind
plain_behind [] plain = refl
plain_behind (b ∷ bs) plain = rw (plain_behind bs (λ i below. plain (suc i) (omega arith)), not_slash b (plain 0 (omega arith))) refl

folder_behind : (folder own : List ℕ) → NoSlash own → behind (folder ++ 47 ∷ own) ≡ Some own
unfolding behind
folder_behind [] own plain = rw (plain_behind own plain) refl
folder_behind (b ∷ bs) own plain = rw (folder_behind bs own plain) refl

own_is : (name own : List ℕ) → IsOwnName name own → own ≡ own_of name
unfolding own_of behind
own_is name own it = elim it.last.ends [
  | inl none ↦ subst (λ n. own ≡ own_of n) (sym (it.last.is ∙ ap (λ f. f ++ own) none)) (rw (own_of, plain_behind own it.plain) refl)
  | inr folder ↦ subst (λ n. own ≡ own_of n) (sym (it.last.is ∙ ap (λ f. f ++ own) folder.1 ∙ append_assoc folder.0 (47 ∷ []) own)) (rw (own_of, folder_behind folder.0 own it.plain) refl)
]

pub one_own : (name own other : List ℕ) → IsOwnName name own → IsOwnName name other → own ≡ other
one_own name own other first second = own_is name own first ∙ sym (own_is name other second)

-- the settings that words give are alike, and so are their files
pub same_name : (a b : Source) → SameSource a b → name_of a ≡ name_of b
same_name (source.Named a) (source.Named b) same = same
same_name (source.Named a) (source.Made number items) same = absurd same
same_name (source.Made number items) (source.Named b) same = absurd same
same_name (source.Made number items) (source.Made other more) same = refl

saves_alike : (a b : Source) → SameSource a b → saves_of a ≡ saves_of b
saves_alike (source.Named a) (source.Named b) same = refl
saves_alike (source.Named a) (source.Made number items) same = absurd same
saves_alike (source.Made number items) (source.Named b) same = absurd same
saves_alike (source.Made number items) (source.Made other more) same = refl

pub same_has : (files : Option Names) (a b : Source) → SameSource a b → (bytes : List ℕ) → (text_of b files).Has bytes → (text_of a files).Has bytes
same_has files (source.Named a) (source.Named b) same bytes has = subst (λ n. FileHas files n bytes) (sym same) has
same_has files (source.Named a) (source.Made number items) same bytes has = absurd same
same_has files (source.Made number items) (source.Named b) same bytes has = absurd same
same_has files (source.Made number items) (source.Made other more) same bytes has = has ∙ sym (ap (λ n. generated n items) same.0 ∙ ap (λ n. generated other n) same.1)

pub same_lacks : (files : Option Names) (a b : Source) → SameSource a b → (text_of b files).Lacks → (text_of a files).Lacks
same_lacks files (source.Named a) (source.Named b) same lacks = subst (λ n. FileLacks files n) (sym same) lacks
same_lacks files (source.Named a) (source.Made number items) same lacks = absurd same
same_lacks files (source.Made number items) (source.Named b) same lacks = absurd same
same_lacks files (source.Made number items) (source.Made other more) same lacks = lacks

-- two tasks of the same words
module _ (words : List Word) (most : ℕ) (a b : Settings) (own other : List ℕ) (first : IsTask words most a own) (second : IsTask words most b other) where
  pub alike : SameSettings a b
  alike = one_settings words most a b first.gives second.gives

  pub own_alike : own ≡ other
  own_alike = one_own (name_of b.source) own other (subst (λ n. IsOwnName n own) (same_name a.source b.source alike.source) first.is_own) second.is_own

  pub same_asks : asks_test a.test ≡ asks_test b.test
  same_asks = alike.tests.asks

  pub same_saves : saves_of a.source ≡ saves_of b.source
  same_saves = saves_alike a.source b.source alike.source

  pub same_tells : (says : Telling) (file : List ℕ) (answer : Bool) → tells_test a.test says own file answer → tells_test b.test says other file answer
  same_tells says file answer it = subst (λ o. tells_test b.test says o file answer) own_alike (alike.tests.tells says own file answer it)

  -- what one task has, the other has
  pub all_alike : (says : Telling) (old new : Outside) (before after : Judging) → HasAll (levels_on a.enabled) (task_of a says own) (text_of a.source old.files) old new before after
      → HasAll (levels_on b.enabled) (task_of b says other) (text_of b.source old.files) old new before after
  all_alike says old new before after all = record {
    bytes = all.bytes;
    there = λ file has. all.there file (same_has old.files a.source b.source alike.source file has);
    here = λ lacks. all.here (same_lacks old.files a.source b.source alike.source lacks);
    lawful = subst (λ n. IsLawful (limits_of n) all.bytes) alike.steps all.lawful;
    all_told = λ file. elim (all.all_told file) [
      | inl quiet ↦ inl (sym same_asks ∙ quiet)
      | inr answer ↦ inr (answer.0, same_tells says file answer.0 answer.1)
    ];
    yes = same_tells says all.bytes true all.yes;
    no_file_fault = all.no_file_fault;
    no_output_fault = all.no_output_fault;
    no_judge_fault = all.no_judge_fault;
    enough = subst (λ (on : List Bool). Within b.limit (enough_for (levels_on on) (length all.bytes))) alike.enabled
        (subst (λ l. Within l (enough_for (levels_on a.enabled) (length all.bytes))) alike.limit all.enough);
  }
