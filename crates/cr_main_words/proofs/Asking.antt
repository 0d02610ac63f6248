-- What words ask for: one thing at most, and a plain reduction where no flag stands.
use Rattle.std.proofs.Common.{◌≡◌, ◌↔◌, ℕ, Bool, true, false, Option, None, Some, List, length, [], ◌∷◌, codes, inl, inr, refl, sym, ap, ap₂, ◌∙◌, subst, arith}
use Rattle.std.proofs.lemmas.Bool.{false≢true}
use Rattle.cr_main_words.specs.Flags.{GivesLabel, GivesModes, first_label, flag_words, is_identifier, is_journal, is_resume, is_standing, label_count, once_if, plain_modes, rest_of, times}
use Rattle.cr_main_words.specs.Giving.{HasSettings}
use Rattle.cr_main_words.specs.Laws.{SameSource}
use Rattle.cr_main_words.specs.RequestLaws.{HasNoFlag, SameRequest}
use Rattle.cr_main_words.specs.Requests.{Asks, AsksNothing, HasReduction, HasReplay, IsOfFile, IsReplay, Suits}
use Rattle.cr_main_words.specs.Words.{IsAmong, Word}
use Rattle.cr_main_words.specs.declared.modes.Engine.{Engine}
use Rattle.cr_main_words.specs.declared.modes.Engine.TheVariants as engine
use Rattle.cr_main_words.specs.declared.modes.Modes.{Modes}
use Rattle.cr_main_words.specs.declared.replay.ReplaySettings.{ReplaySettings}
use Rattle.cr_main_words.specs.declared.request.Request.{Request}
use Rattle.cr_main_words.specs.declared.request.Request.TheVariants as request
use Rattle.cr_main_words.specs.declared.settings.Settings.{Settings}
use Rattle.cr_main_words.specs.declared.source.Source.{Source}
use Rattle.cr_main_words.specs.declared.source.Source.TheVariants as source
use Rattle.cr_main_words.proofs.Giving.{one_settings}
use Rattle.cr_main_words.proofs.Replaying.{one_replay}
use Rattle.cr_main_words.proofs.Sifting.{replay_is_refused, stays}

-- ---- flags ask for one kind of modes at most

pub one_answer : (a b : Bool) → once_if a ≡ once_if b → a ≡ b
one_answer true true same = refl
one_answer false false same = refl
one_answer true false same = absurd (omega arith)
one_answer false true same = absurd (omega arith)

one_engine : (a b : Engine) → is_journal a ≡ is_journal b → is_resume a ≡ is_resume b → is_standing a ≡ is_standing b → a ≡ b
one_engine engine.Plain engine.Plain j r s = refl
one_engine engine.Journal engine.Journal j r s = refl
one_engine engine.Resume engine.Resume j r s = refl
one_engine engine.Standing engine.Standing j r s = refl
one_engine engine.Plain engine.Journal j r s = cc
one_engine engine.Plain engine.Resume j r s = cc
one_engine engine.Plain engine.Standing j r s = cc
one_engine engine.Journal engine.Plain j r s = cc
one_engine engine.Journal engine.Resume j r s = cc
one_engine engine.Journal engine.Standing j r s = cc
one_engine engine.Resume engine.Plain j r s = cc
one_engine engine.Resume engine.Journal j r s = cc
one_engine engine.Resume engine.Standing j r s = cc
one_engine engine.Standing engine.Plain j r s = cc
one_engine engine.Standing engine.Journal j r s = cc
one_engine engine.Standing engine.Resume j r s = cc

-- a label too
one_label : (words : List Word) (a b : Option Word) → GivesLabel words a → GivesLabel words b → a ≡ b
one_label words None None first second = refl
one_label words None (Some name) first second = absurd (omega (arith, first, second.0))
one_label words (Some name) None first second = absurd (omega (arith, first.0, second))
one_label words (Some name) (Some other) first second = sym first.1 ∙ second.1

-- ---- words that give no label

pub no_label : (words : List Word) → label_count words ≡ 1 → first_label words ≡ None → (label : Option Word) → GivesLabel words label → ⊥
no_label words one none None given = omega (arith, one, given)
no_label words one none (Some name) given = let both : Some name ≡ None = sym given.1 ∙ none in absurd (cc)

pub unread_label : (words : List Word) (name : Word) → label_count words ≡ 1 → first_label words ≡ Some name → is_identifier name ≡ false → (label : Option Word) → GivesLabel words label → ⊥
unread_label words name one found unread None given = omega (arith, one, given)
unread_label words name one found unread (Some other) given =
    let both : Some name ≡ Some other = sym found ∙ given.1 in
    let same : name ≡ other = cc in false≢true (sym unread ∙ ap is_identifier same ∙ given.2)

pub many_labels : (words : List Word) → (label_count words ≡ 0 → ⊥) → (label_count words ≡ 1 → ⊥) → (label : Option Word) → GivesLabel words label → ⊥
many_labels words some more None given = some given
many_labels words some more (Some name) given = more given.0

-- no bytes are no identifier
pub no_bytes : (name : Word) → length name ≡ 0 → false ≡ is_identifier name
no_bytes [] none = refl
no_bytes (byte ∷ more) none = absurd (omega (arith, none))

-- words that give one
pub read_label : (words : List Word) (name row : Word) → label_count words ≡ 1 → first_label words ≡ Some name → is_identifier name ≡ true → row ≡ name → GivesLabel words (Some row)
read_label words name row one found read is = (one, found ∙ ap Some (sym is), ap is_identifier is ∙ read)

pub one_modes : (words : List Word) (a b : Modes) → GivesModes words a → GivesModes words b → a ≡ b
one_modes words a b first second =
    let engines = one_engine a.engine b.engine
    (one_answer (is_journal a.engine) (is_journal b.engine) (sym first.journal ∙ second.journal))
    (one_answer (is_resume a.engine) (is_resume b.engine) (sym first.resume ∙ second.resume))
    (one_answer (is_standing a.engine) (is_standing b.engine) (sym first.standing ∙ second.standing)) in
    let orders = one_answer a.any_order b.any_order (sym first.any_order ∙ second.any_order) in
    let labels = one_label words a.reached b.reached first.reached second.reached in
    let made : Engine → Bool → Option Word → Modes = λ e o l. record { engine = e; any_order = o; reached = l } in
    ap₂ (λ e o. made e o a.reached) engines orders ∙ ap (made b.engine b.any_order) labels

-- ---- an engine that suits a source suits what is alike

file_alike : (a b : Source) → SameSource a b → IsOfFile a → IsOfFile b
file_alike (source.Named a) (source.Named b) same it = tt
file_alike (source.Named a) (source.Made number items) same it = absurd same
file_alike (source.Made number items) b same it = absurd it

suits_alike : (e : Engine) (a b : Source) → SameSource a b → Suits e a → Suits e b
suits_alike engine.Plain a b same it = tt
suits_alike engine.Journal a b same it = file_alike a b same it
suits_alike engine.Resume a b same it = file_alike a b same it
suits_alike engine.Standing a b same it = tt

-- where the engine doesn't suit, no reduction is asked for
pub no_reduction : (words : List Word) (most : ℕ) (settings : Settings) (modes : Modes) → GivesModes words modes → HasSettings (rest_of words) most settings
    → (Suits modes.engine settings.source → ⊥) → (other : Settings) (others : Modes) → HasReduction words most other others → ⊥
no_reduction words most settings modes given has none other others asks =
    let same = one_settings (rest_of words) most other settings asks.rest has in
    let engines = ap (λ (m : Modes). m.engine) (one_modes words others modes asks.flags given) in
    none (subst (λ e. Suits e settings.source) engines (suits_alike others.engine other.source settings.source same.source asks.suits))

-- ---- what a list asks for, by its first word

pub no_replay : (words others : List Word) (most : ℕ) → IsReplay words others → ((settings : ReplaySettings) → HasReplay others settings → ⊥) → AsksNothing words most
no_replay words others most is none (request.Reduction settings modes) asks = replay_is_refused words others asks.rest.said is asks.rest.tells
no_replay words others most is none (request.Replay settings) asks =
    let both : codes "--replay" ∷ asks.0 ≡ codes "--replay" ∷ others = sym asks.1 ∙ is in
    let same : asks.0 ≡ others = cc in
    none settings (subst (λ w. HasReplay w settings) same asks.2)

-- words ask for one thing at most, but for how its texts are kept
pub one_request : (words : List Word) (most : ℕ) (a b : Request) → Asks words most a → Asks words most b → SameRequest a b
one_request words most (request.Reduction a modes) (request.Reduction b others) first second =
    (one_settings (rest_of words) most a b first.rest second.rest, one_modes words modes others first.flags second.flags)
one_request words most (request.Reduction a modes) (request.Replay b) first second = absurd (replay_is_refused words second.0 first.rest.said second.1 first.rest.tells)
one_request words most (request.Replay a) (request.Reduction b modes) first second = absurd (replay_is_refused words first.0 second.rest.said first.1 second.rest.tells)
one_request words most (request.Replay a) (request.Replay b) first second =
    let both : codes "--replay" ∷ second.0 ≡ codes "--replay" ∷ first.0 = sym second.1 ∙ first.1 in
    let same : second.0 ≡ first.0 = cc in
    one_replay first.0 a b first.2 (subst (λ w. HasReplay w b) same second.2)

-- ---- without a flag

no_flag : (words : List Word) → GivesModes words plain_modes → (flag : Word) → IsAmong flag flag_words → times flag words ≡ 0
no_flag words given flag (inl is) = ap (λ f. times f words) is ∙ given.journal
no_flag words given flag (inr (inl is)) = ap (λ f. times f words) is ∙ given.resume
no_flag words given flag (inr (inr (inl is))) = ap (λ f. times f words) is ∙ given.standing
no_flag words given flag (inr (inr (inr (inl is)))) = ap (λ f. times f words) is ∙ given.any_order
no_flag words given flag (inr (inr (inr (inr more)))) = absurd more

-- words ask for a plain reduction exactly where they have no flag, and give its settings as they stand
pub plain_reduction : (words : List Word) (most : ℕ) (settings : Settings)
    → Asks words most (request.Reduction settings plain_modes) ↔ (HasNoFlag words × HasSettings words most settings)
plain_reduction words most settings = (
  λ asks. let none = no_flag words asks.flags in ((none, asks.flags.reached), subst (λ w. HasSettings w most settings) (stays words none asks.flags.reached) asks.rest),
  λ it. record {
    flags = record {
      journal = it.0.0 (codes "--journal") (inl refl);
      resume = it.0.0 (codes "--resume") (inr (inl refl));
      standing = it.0.0 (codes "--standing") (inr (inr (inl refl)));
      any_order = it.0.0 (codes "--any-order") (inr (inr (inr (inl refl))));
      reached = it.0.1;
    };
    rest = subst (λ w. HasSettings w most settings) (sym (stays words it.0.0 it.0.1)) it.1;
    suits = tt;
  },
)
