-- What is said of the parts of a right side, and of the rest of one: how its events follow what the parser reads.
use Rattle.std.proofs.Common.{◌≡◌, ℕ, ◌<◌, Bool, true, false, List, [], ◌∷◌, ◌++◌, sym, ap, subst}
use Rattle.std.specs.List.{flat_map}
use Rattle.std.proofs.lemmas.List.{append_assoc}
use Rattle.cr_tokens.specs.declared.token.Token.{Token}
use Rattle.cr_syntax.specs.declared.node.Node.{Node}
use Rattle.cr_syntax.specs.declared.part.Part.{Part}
use Rattle.cr_syntax.specs.declared.part.Part.TheVariants as part
use Rattle.cr_syntax.specs.declared.scopes.TypeName.{TypeName}
use Rattle.cr_syntax.specs.Scopes.{Scopes}
use Rattle.cr_syntax.specs.Kept.{AreBelow}
use Rattle.cr_syntax.specs.Symbols as symbol
use Rattle.cr_syntax.specs.Grammar.{Side}
use Rattle.cr_syntax.proofs.Arena.{below_first, below_rest}
use Rattle.cr_scopes_events.specs.declared.event.Event.{Event}
use Rattle.cr_scopes_events.specs.declared.event.Event.TheVariants as event
use Rattle.cr_scopes_events.specs.declared.naming.Storage.{Storage}
use Rattle.cr_scopes_events.specs.declared.naming.Storage.TheVariants.{TypedefWord}
use Rattle.cr_scopes_events.specs.declared.naming.Naming.{Naming}
use Rattle.cr_scopes_events.specs.declared.naming.Naming.TheVariants.{Parameters, Members, Declared}
use Rattle.cr_scopes_events.specs.Values.{before}
use Rattle.cr_scopes_events.specs.Scripts.{kind_at, declares, members_of}
use Rattle.cr_scopes_events.specs.Events.{events_at}
use Rattle.cr_scopes_typedef_names.proofs.ParsedLemmas.Following.{Follows, nothing, in_turn, scoped, Does, does_more}

-- what declares: a declaration, a parameter, or a structure its members
pub data Manner : Type 0 where
  declaring : Manner
  parametric : Manner
  member_wise : Manner

-- how a part is told
pub data PartSort : Type 0 where
  plain : PartSort
  naming : Manner → PartSort
  membering : PartSort
  odd : PartSort

abbrev pub part_sort : Part → PartSort
part_sort part.Declarator = odd
part_sort part.DirectDeclarator = odd
part_sort part.InitDeclarator = naming declaring
part_sort part.ParameterDeclarator = naming parametric
part_sort part.MemberDeclarator = naming member_wise
part_sort part.MemberDeclaration = membering
part_sort p = plain

-- how the rest of a right side is told
pub data SideSort : Type 0 where
  finished : SideSort
  straight : SideSort
  once : SideSort
  twice : SideSort
  closing : SideSort
  body : SideSort
  looping : SideSort
  listing : Manner → SideSort
  members : SideSort
  other : SideSort

abbrev pub with_part : PartSort → SideSort → SideSort
with_part plain finished = straight
with_part plain straight = straight
with_part plain twice = body
with_part plain looping = looping
with_part membering members = members
with_part x y = other

abbrev pub several : PartSort → SideSort → SideSort
several plain finished = straight
several plain once = closing
several (naming m) finished = listing m
several membering finished = members
several x y = other

-- those with nothing between them
abbrev pub many : PartSort → SideSort → SideSort
many plain y = several plain y
many membering y = several membering y
many (naming m) y = other
many odd y = other

abbrev pub valued : SideSort → SideSort
valued finished = straight
valued y = other

abbrev pub clause : SideSort → SideSort
clause looping = looping
clause y = other

abbrev pub opened : SideSort → SideSort
opened body = looping
opened y = other

abbrev pub ended : SideSort → SideSort
ended finished = once
ended once = twice
ended y = other

abbrev pub sort_of : Side → SideSort
sort_of [] = finished
sort_of (symbol.Token l w ∷ s) = sort_of s
sort_of (symbol.Opens l w ∷ s) = sort_of s
sort_of (symbol.Reopens w ∷ s) = sort_of s
sort_of (symbol.Part l p ∷ s) = with_part (part_sort p) (sort_of s)
sort_of (symbol.Optional l p ∷ s) = many (part_sort p) (sort_of s)
sort_of (symbol.Many l p ∷ s) = many (part_sort p) (sort_of s)
sort_of (symbol.List l p ∷ s) = several (part_sort p) (sort_of s)
sort_of (symbol.OptionalList l p ∷ s) = several (part_sort p) (sort_of s)
sort_of (symbol.Tag ∷ s) = sort_of s
sort_of (symbol.TrailingComma ∷ s) = sort_of s
sort_of (symbol.Qualified p ∷ s) = many (part_sort p) (sort_of s)
sort_of (symbol.OptionalQualified p ∷ s) = many (part_sort p) (sort_of s)
sort_of (symbol.Ordinary ∷ s) = sort_of s
sort_of (symbol.TypeIdentifier ∷ s) = other
sort_of (symbol.Declared ∷ s) = other
sort_of (symbol.Enumerates ∷ s) = other
sort_of (symbol.Value ∷ s) = valued (sort_of s)
sort_of (symbol.Enters ∷ s) = other
sort_of (symbol.Begins ∷ s) = opened (sort_of s)
sort_of (symbol.Ends ∷ s) = ended (sort_of s)
sort_of (symbol.Prototype ∷ s) = other
sort_of (symbol.Size ∷ s) = other
sort_of (symbol.Texts ∷ s) = sort_of s
sort_of (symbol.Init ∷ s) = clause (sort_of s)
sort_of (symbol.Clause ∷ s) = clause (sort_of s)
sort_of (symbol.Step ∷ s) = clause (sort_of s)
sort_of (symbol.Else ∷ s) = other

-- the specifiers say `typedef`
abbrev pub is_word : Storage → Bool
is_word TypedefWord = true
is_word w = false

-- the events name in the way of the parser, which has seen `typedef` or not
abbrev pub Agrees : Manner → Naming → Bool → Type 0
Agrees declaring (Declared storage) type = is_word storage ≡ type
Agrees parametric Parameters type = type ≡ false
Agrees member_wise (Members s) type = Unit {0}
Agrees m way type = ⊥

module _ (spelling : ℕ → List ℕ) (typed : ℕ → Bool) (tokens : List Token) (nodes : List Node) where
  abbrev pub at : ℕ → List Event
  at = events_at tokens nodes

  abbrev pub below : ℕ → ℕ → List Event
  below bound = before [] bound at

  abbrev pub Goes : Scopes → Scopes → List Event → Type 0
  Goes c e es = Follows spelling typed c e es

  -- a block at the end, and what stands before it
  pub record IsLoop (c e : Scopes) (ps : List ℕ) : Type 0 where
    pub clauses : List ℕ
    pub last : ℕ
    pub names : List TypeName
    pub is : ps ≡ clauses ++ last ∷ []
    pub follows : Goes c (names ∷ e) (flat_map at clauses ++ (event.Opens ∷ (at last ++ event.Closes ∷ [])))

  pub record IsBody (c e : Scopes) (ps : List ℕ) : Type 0 where
    pub last : ℕ
    pub names : List TypeName
    pub own : List TypeName
    pub is : ps ≡ last ∷ []
    pub follows : Goes c (names ∷ own ∷ e) (at last)

  pub record IsTwice (c e : Scopes) (ps : List ℕ) : Type 0 where
    pub names : List TypeName
    pub own : List TypeName
    pub is : ps ≡ []
    pub scopes : c ≡ names ∷ own ∷ e

  -- so many nodes before the bound, each by its own script
  abbrev pub Lists : ℕ → Scopes → Scopes → Naming → List ℕ → Type 0
  Lists bound c e way ps = Does spelling typed (below bound) c e (flat_map (λ q. declares way nodes q (kind_at nodes q)) ps)

  abbrev pub HasMembers : ℕ → Scopes → Scopes → ℕ → List ℕ → Type 0
  HasMembers bound c e structure ps = Does spelling typed (below bound) c e (flat_map (members_of nodes structure) ps)

  abbrev pub SideSays : SideSort → Bool → Scopes → Scopes → List ℕ → Type 0
  SideSays finished type c e ps = (ps ≡ []) × (c ≡ e)
  SideSays straight type c e ps = Goes c e (flat_map at ps)
  SideSays once type c e ps = (names : List TypeName) × ((ps ≡ []) × (c ≡ names ∷ e))
  SideSays twice type c e ps = IsTwice c e ps
  SideSays closing type c e ps = (names : List TypeName) × Goes c (names ∷ e) (flat_map at ps)
  SideSays body type c e ps = IsBody c e ps
  SideSays looping type c e ps = IsLoop c e ps
  SideSays (listing m) type c e ps = (bound : ℕ) (way : Naming) → AreBelow ps bound → Agrees m way type → Lists bound c e way ps
  SideSays members type c e ps = (bound structure : ℕ) → AreBelow ps bound → HasMembers bound c e structure ps
  SideSays other type c e ps = Unit {0}

  -- nothing is told
  pub stays : {c e : Scopes} {ps : List ℕ} → ps ≡ [] → c ≡ e → Goes c e (flat_map at ps)
  stays {c = c} {e = e} {ps = ps} p q = subst (λ x. Goes c e (flat_map at x)) (sym p) (subst (λ x. Goes c x []) q (nothing spelling typed c))

  list_stays : {c e : Scopes} {ps : List ℕ} (bound : ℕ) (way : Naming) → ps ≡ [] → c ≡ e → Lists bound c e way ps
  list_stays {c = c} {e = e} {ps = ps} bound way p q = subst (λ x. Lists bound c e way x) (sym p) (subst (λ x. Goes c x []) q (nothing spelling typed c))

  members_stay : {c e : Scopes} {ps : List ℕ} (bound structure : ℕ) → ps ≡ [] → c ≡ e → HasMembers bound c e structure ps
  members_stay {c = c} {e = e} {ps = ps} bound structure p q = subst (λ x. HasMembers bound c e structure x) (sym p) (subst (λ x. Goes c x []) q (nothing spelling typed c))

  looped : {c e f : Scopes} (q : ℕ) (qs : List ℕ) → Goes c e (at q) → IsLoop e f qs → IsLoop c f (q ∷ qs)
  looped {c = c} {f = f} q qs x y = record {
    clauses = q ∷ y.clauses;
    last = y.last;
    names = y.names;
    is = ap (λ z. q ∷ z) y.is;
    follows = subst (λ es. Goes c (y.names ∷ f) es) (sym (append_assoc (at q) (flat_map at y.clauses) (event.Opens ∷ (at y.last ++ event.Closes ∷ [])))) (in_turn spelling typed x y.follows);
  }

  -- what is said of a declarator is a record of its own
  module _ (Odd : Scopes → Scopes → ℕ → Type 0) where
    abbrev pub PartSays : PartSort → Bool → Scopes → Scopes → ℕ → Type 0
    PartSays plain type c e q = Goes c e (at q)
    PartSays (naming m) type c e q = (bound : ℕ) (way : Naming) → q < bound → Agrees m way type → Does spelling typed (below bound) c e (declares way nodes q (kind_at nodes q))
    PartSays membering type c e q = (bound structure : ℕ) → q < bound → Does spelling typed (below bound) c e (members_of nodes structure q)
    PartSays odd type c e q = Odd c e q

    -- a part, and the rest behind it
    pub joined : (x : PartSort) (y : SideSort) (r s t : Bool) (c e f : Scopes) (q : ℕ) (qs : List ℕ) → PartSays x r c e q → SideSays y s e f qs → SideSays (with_part x y) t c f (q ∷ qs)
    joined plain finished r s t c e f q qs x y = in_turn spelling typed x (stays y.0 y.1)
    joined plain straight r s t c e f q qs x y = in_turn spelling typed x y
    joined plain twice r s t c e f q qs x y =
        record { last = q; names = y.names; own = y.own; is = ap (λ z. q ∷ z) y.is; follows = subst (λ z. Goes c z (at q)) y.scopes x }
    joined plain looping r s t c e f q qs x y = looped q qs x y
    joined membering members r s t c e f q qs x y = λ bound structure under.
        does_more spelling typed (below bound) (members_of nodes structure q) (flat_map (members_of nodes structure) qs)
        (x bound structure (below_first q qs bound under)) (y bound structure (below_rest q qs bound under))
    joined x y r s t c e f q qs u v = tt

    -- the last part
    pub last_one : (x : PartSort) (y : SideSort) (s t : Bool) (c e f : Scopes) (q : ℕ) (qs : List ℕ) → PartSays x t c e q → SideSays y s e f qs → SideSays (several x y) t c f (q ∷ qs)
    last_one plain finished s t c e f q qs x y = in_turn spelling typed x (stays y.0 y.1)
    last_one plain once s t c e f q qs x y = (y.0, subst (λ z. Goes c (y.0 ∷ f) (at q ++ flat_map at z)) (sym y.1.0) (in_turn spelling typed (subst (λ z. Goes c z (at q)) y.1.1 x) (nothing spelling typed (y.0 ∷ f))))
    last_one (naming m) finished s t c e f q qs x y = λ bound way under agrees.
        does_more spelling typed (below bound) (declares way nodes q (kind_at nodes q)) (flat_map (λ p. declares way nodes p (kind_at nodes p)) qs)
        (x bound way (below_first q qs bound under) agrees) (list_stays bound way y.0 y.1)
    last_one membering finished s t c e f q qs x y = λ bound structure under.
        does_more spelling typed (below bound) (members_of nodes structure q) (flat_map (members_of nodes structure) qs)
        (x bound structure (below_first q qs bound under)) (members_stay bound structure y.0 y.1)
    last_one x y s t c e f q qs u v = tt

    -- a part with more of them behind it
    pub next_one : (x : PartSort) (y : SideSort) (t : Bool) (c e f : Scopes) (q : ℕ) (qs : List ℕ) → PartSays x t c e q → SideSays (several x y) t e f qs → SideSays (several x y) t c f (q ∷ qs)
    next_one plain finished t c e f q qs x y = in_turn spelling typed x y
    next_one plain once t c e f q qs x y = (y.0, in_turn spelling typed x y.1)
    next_one (naming m) finished t c e f q qs x y = λ bound way under agrees.
        does_more spelling typed (below bound) (declares way nodes q (kind_at nodes q)) (flat_map (λ p. declares way nodes p (kind_at nodes p)) qs)
        (x bound way (below_first q qs bound under) agrees) (y bound way (below_rest q qs bound under) agrees)
    next_one membering finished t c e f q qs x y = λ bound structure under.
        does_more spelling typed (below bound) (members_of nodes structure q) (flat_map (members_of nodes structure) qs)
        (x bound structure (below_first q qs bound under)) (y bound structure (below_rest q qs bound under))
    next_one x y t c e f q qs u v = tt

    pub last_many : (x : PartSort) (y : SideSort) (s t : Bool) (c e f : Scopes) (q : ℕ) (qs : List ℕ) → PartSays x t c e q → SideSays y s e f qs → SideSays (many x y) t c f (q ∷ qs)
    last_many plain y s t c e f q qs u v = last_one plain y s t c e f q qs u v
    last_many membering y s t c e f q qs u v = last_one membering y s t c e f q qs u v
    last_many (naming m) y s t c e f q qs u v = tt
    last_many odd y s t c e f q qs u v = tt

    pub next_many : (x : PartSort) (y : SideSort) (s t : Bool) (c e f : Scopes) (q : ℕ) (qs : List ℕ) → PartSays x t c e q → SideSays (many x y) s e f qs → SideSays (many x y) t c f (q ∷ qs)
    next_many plain finished s t c e f q qs x y = in_turn spelling typed x y
    next_many plain once s t c e f q qs x y = (y.0, in_turn spelling typed x y.1)
    next_many membering finished s t c e f q qs x y = λ bound structure under.
        does_more spelling typed (below bound) (members_of nodes structure q) (flat_map (members_of nodes structure) qs)
        (x bound structure (below_first q qs bound under)) (y bound structure (below_rest q qs bound under))
    next_many x y s t c e f q qs u v = tt

  -- none
  pub none_several : (x : PartSort) (y : SideSort) (t : Bool) (c e : Scopes) (ps : List ℕ) → SideSays y t c e ps → SideSays (several x y) t c e ps
  none_several plain finished t c e ps y = stays y.0 y.1
  none_several plain once t c e ps y = (y.0, stays y.1.0 y.1.1)
  none_several (naming m) finished t c e ps y = λ bound way under agrees. list_stays bound way y.0 y.1
  none_several membering finished t c e ps y = λ bound structure under. members_stay bound structure y.0 y.1
  none_several x y t c e ps v = tt

  pub none_many : (x : PartSort) (y : SideSort) (t : Bool) (c e : Scopes) (ps : List ℕ) → SideSays y t c e ps → SideSays (many x y) t c e ps
  none_many plain y t c e ps v = none_several plain y t c e ps v
  none_many membering y t c e ps v = none_several membering y t c e ps v
  none_many (naming m) y t c e ps v = tt
  none_many odd y t c e ps v = tt

  pub none_valued : (y : SideSort) (t : Bool) (c e : Scopes) (ps : List ℕ) → SideSays y t c e ps → SideSays (valued y) t c e ps
  none_valued finished t c e ps y = stays y.0 y.1
  none_valued y t c e ps v = tt

  pub one_valued : (y : SideSort) (s t : Bool) (c e f : Scopes) (q : ℕ) (qs : List ℕ) → Goes c e (at q) → SideSays y s e f qs → SideSays (valued y) t c f (q ∷ qs)
  one_valued finished s t c e f q qs x y = in_turn spelling typed x (stays y.0 y.1)
  one_valued y s t c e f q qs u v = tt

  pub no_clause : (y : SideSort) (s t : Bool) (c e : Scopes) (ps : List ℕ) → SideSays y s c e ps → SideSays (clause y) t c e ps
  no_clause looping s t c e ps y = y
  no_clause y s t c e ps v = tt

  pub one_clause : (y : SideSort) (s t : Bool) (c e f : Scopes) (q : ℕ) (qs : List ℕ) → Goes c e (at q) → SideSays y s e f qs → SideSays (clause y) t c f (q ∷ qs)
  one_clause looping s t c e f q qs x y = looped q qs x y
  one_clause y s t c e f q qs u v = tt

  pub opening : (y : SideSort) (t : Bool) (c e : Scopes) (ps : List ℕ) → SideSays y t ([] ∷ c) e ps → SideSays (opened y) t c e ps
  opening body t c e ps y = record { clauses = []; last = y.last; names = y.own; is = y.is; follows = scoped spelling typed y.follows }
  opening y t c e ps v = tt

  pub ending : (y : SideSort) (t : Bool) (c e : Scopes) (own : List TypeName) (ps : List ℕ) → SideSays y t c e ps → SideSays (ended y) t (own ∷ c) e ps
  ending finished t c e own ps y = (own, (y.0, ap (λ z. own ∷ z) y.1))
  ending once t c e own ps y = record { names = own; own = y.0; is = y.1.0; scopes = ap (λ z. own ∷ z) y.1.1 }
  ending y t c e own ps v = tt
