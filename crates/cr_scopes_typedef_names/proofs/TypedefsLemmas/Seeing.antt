-- A typedef name sees a typedef.
use Rattle.std.proofs.Common.{◌≡◌, ℕ, zero, suc, ◌<◌, ◌==◌, ◌&&◌, ◌||◌, not, Bool, true, false, List, [], ◌∷◌, Option, None, Some, length, map, slice_get, refl, sym, ap, subst, ◌∙◌, if◌then◌else◌, arith}
use Rattle.std.proofs.lemmas.Bool.{false≢true, or_left, or_right, eq-eqb}
use Rattle.cr_tokens.specs.declared.token.Token.{Token}
use Rattle.cr_syntax.specs.declared.node.Kind.TheVariants as kind
use Rattle.cr_syntax.specs.declared.node.Node.{Node}
use Rattle.cr_syntax.specs.Words.{spelling_at, lexeme_of, lexemes_of}
use Rattle.cr_syntax.specs.Scopes.{is_type}
use Rattle.cr_scopes_events.specs.declared.event.Role.{Role}
use Rattle.cr_scopes_events.specs.declared.event.Role.TheVariants as role
use Rattle.cr_scopes_events.specs.declared.event.Event.{Event}
use Rattle.cr_scopes_events.specs.declared.event.Event.TheVariants as event
use Rattle.cr_scopes_events.specs.declared.naming.Storage.{Storage}
use Rattle.cr_scopes_events.specs.declared.naming.Storage.TheVariants.{TypedefWord, ExternWord, NoWord}
use Rattle.cr_scopes_events.specs.declared.declarator.Derivation.{Derivation}
use Rattle.cr_scopes_events.specs.declared.declarator.Derivation.TheVariants.{Nothing, Function, Other}
use Rattle.cr_scopes_events.specs.Declarators.{declarator_of}
use Rattle.cr_scopes_events.specs.Scripts.{storage_of, role_by}
use Rattle.cr_scopes_events.specs.Events.{events_of}
use Rattle.cr_scopes.specs.Resolved.{with_event, past_of}
use Rattle.cr_scopes.specs.Spelled.{spelling_of, name_of}
use Rattle.cr_scopes_bindings.specs.Visible.{is_named, latest, visible}
use Rattle.cr_scopes_typedef_names.specs.Effects.Effects.{is_typedef, scopes_at, Tells, tells_now, tells_before, Decides}
use Rattle.cr_scopes_typedef_names.proofs.EffectsLemmas.Deciding.{first_decides}
use Rattle.cr_scopes_typedef_names.proofs.EffectsLemmas.Spelled.{all_spelled}
use Rattle.cr_scopes_typedef_names.proofs.ParsedLemmas.Units.{all_types}
use Rattle.cr_scopes_typedef_names.specs.Tellings.Tellings.{is_tag, Telling, by_declaration, by_parameter, by_enumerator, by_tag, by_use, AllNames}
use Rattle.cr_scopes_typedef_names.proofs.TellingsLemmas.Scripts.{all_told}
use Rattle.cr_scopes_typedef_names.specs.Typedefs.Sees.{is_typedef_name, is_of_typedef, IsTypedef}
use Rattle.cr_scopes_typedef_names.specs.Typedefs.Laws

-- the parser's bytes of a token are the file's
same_spelling : (file : List ℕ) (tokens : List Token) (t : ℕ) → spelling_at (map (lexeme_of file) tokens) t ≡ spelling_of file tokens t
same_spelling file [] t = refl
same_spelling file (x ∷ tokens) zero = refl
same_spelling file (x ∷ tokens) (suc t) = same_spelling file tokens t

-- what a token sees is where it is named
named_there : (name : ℕ → ℕ) (past : List Event) (token t : ℕ) → visible name past token ≡ Some t → is_named token past ≡ true
named_there name [] token t e = absurd cc
named_there name (event.Name u r ∷ past) token t e = by (token == u) (is_named token past) e (λ x. named_there name past token t x)
  where
    by : (a b : Bool) → (if a && not b then latest name (name u) zero past else visible name past token) ≡ Some t → (visible name past token ≡ Some t → b ≡ true) → (a || b) ≡ true
    by true b e rest = refl
    by false b e rest = rest e
named_there name (event.Opens ∷ past) token t e = named_there name past token t e
named_there name (event.Closes ∷ past) token t e = named_there name past token t e
named_there name (event.Member u k ∷ past) token t e = named_there name past token t e
named_there name (event.Node i ∷ past) token t e = named_there name past token t e

-- a typedef name's token is one
token_is : (nodes : List Node) (i : ℕ) (n : Node) → slice_get nodes i ≡ Some n → n.kind ≡ kind.TypedefName → is_of_typedef nodes n.first ≡ true
token_is [] i n e k = absurd cc
token_is (m ∷ nodes) zero n e k =
    let same : m ≡ n = cc in
    let own : (is_typedef_name m.kind && (m.first == n.first)) ≡ true =
    (λ j. is_typedef_name ((ap (λ (x : Node). x.kind) same ∙ k) j) && eq-eqb m.first n.first (ap (λ (x : Node). x.first) same) j) in
    or_left (is_typedef_name m.kind && (m.first == n.first)) (is_of_typedef nodes n.first) own
token_is (m ∷ nodes) (suc i) n e k = or_right (is_typedef_name m.kind && (m.first == n.first)) (is_of_typedef nodes n.first) (token_is nodes i n e k)

-- ---- what is told

name_at : (P : ℕ → Role → Type 0) (es : List Event) (k t : ℕ) (r : Role) → AllNames P es → slice_get es k ≡ Some (event.Name t r) → P t r
name_at P [] k t r h e = absurd cc
name_at P (event.Name u s ∷ es) zero t r h e = let one : u ≡ t = cc in let two : s ≡ r = cc in subst (λ x. P x r) one (subst (λ x. P u x) two h.0)
name_at P (event.Opens ∷ es) zero t r h e = absurd cc
name_at P (event.Closes ∷ es) zero t r h e = absurd cc
name_at P (event.Member u j ∷ es) zero t r h e = absurd cc
name_at P (event.Node i ∷ es) zero t r h e = absurd cc
name_at P (event.Name u s ∷ es) (suc k) t r h e = name_at P es k t r h.1 e
name_at P (event.Opens ∷ es) (suc k) t r h e = name_at P es k t r h e
name_at P (event.Closes ∷ es) (suc k) t r h e = name_at P es k t r h e
name_at P (event.Member u j ∷ es) (suc k) t r h e = name_at P es k t r h e
name_at P (event.Node i ∷ es) (suc k) t r h e = name_at P es k t r h e

told_so : (P : ℕ → Role → Type 0) (es : List Event) → AllNames P es → (k t : ℕ) (r : Role) → Tells t r (past_of es k) → P t r
told_so P es h zero t r x = elim x [ ]
told_so P es h (suc k) t r x = by (slice_get es k) refl (λ y. told_so P es h k t r y) x
  where
    here : (e : Event) (past : List Event) → slice_get es k ≡ Some e → (Tells t r past → P t r) → Tells t r (e ∷ past) → P t r
    here (event.Name u s) past q rest tells_now = name_at P es k t r h q
    here e past q rest (tells_before y) = rest y

    by : (o : Option Event) → slice_get es k ≡ o → (Tells t r (past_of es k) → P t r) → Tells t r (with_event o (past_of es k)) → P t r
    by None q rest x = rest x
    by (Some e) q rest x = here e (past_of es k) q rest x

word_is : (s : Storage) (d : Derivation) → is_typedef (role_by s d) ≡ true → s ≡ TypedefWord
word_is TypedefWord d e = refl
word_is ExternWord (Function f) e = absurd (false≢true e)
word_is ExternWord Nothing e = absurd (false≢true e)
word_is ExternWord Other e = absurd (false≢true e)
word_is NoWord (Function f) e = absurd (false≢true e)
word_is NoWord Nothing e = absurd (false≢true e)
word_is NoWord Other e = absurd (false≢true e)

-- what is told as a typedef is declared by a declaration that says so
declared_so : (nodes : List Node) (t : ℕ) (r : Role) → is_typedef r ≡ true → Telling nodes t r → IsTypedef nodes t
declared_so nodes t r u (by_declaration d e) = record { declares = d; says = word_is (storage_of nodes d.own.parts) (declarator_of nodes d.declarator).next (sym (ap is_typedef e) ∙ u) }
declared_so nodes t r u (by_parameter d e) = absurd (false≢true (sym (ap is_typedef e) ∙ u))
declared_so nodes t r u (by_enumerator d e) = absurd (false≢true (sym (ap is_typedef e) ∙ u))
declared_so nodes t r u (by_tag d e) = absurd (tagged r u e)
  where
    tagged : (r : Role) → is_typedef r ≡ true → is_tag r ≡ true → ⊥
    tagged role.Typedef u e = false≢true e
    tagged r u e = false≢true u
declared_so nodes t r u (by_use d e) = absurd (false≢true (sym (ap is_typedef e) ∙ u))

pub all_see : Laws.TypedefNamesSeeTypedefs
all_see file tokens limit nodes items spelled within low are unit apart lawful i n here is token sees =
    let es = events_of tokens nodes items in
    let past = past_of es (length es) in
    let name = name_of file tokens in
    let bytes = spelling_of file tokens in
    let bound = within i n here in
    let few : n.first < length tokens = omega (arith, bound.0, bound.1) in
    let named = named_there name past n.first token sees in
    let parsed = all_types (lexemes_of file tokens) limit tokens nodes items (is_of_typedef nodes) low are unit apart lawful n.first (token_is nodes i n here is) named in
    let typed : is_type (scopes_at bytes past n.first) (bytes n.first) ≡ true =
    sym (λ j. is_type (scopes_at (λ t. same_spelling file tokens t j) past n.first) (same_spelling file tokens n.first j)) ∙ parsed in
    let decides : Decides past (is_type (scopes_at bytes past n.first) (bytes n.first)) (Some token) =
    subst (λ o. Decides past (is_type (scopes_at bytes past n.first) (bytes n.first)) o) sees
    (first_decides name bytes n.first past (all_spelled file tokens n.first few (spelled n.first few)) named) in
    declared_so nodes token decides.0 (sym decides.1.1 ∙ typed) (told_so (Telling nodes) es (all_told tokens nodes items) (length es) token decides.0 decides.1.0)
