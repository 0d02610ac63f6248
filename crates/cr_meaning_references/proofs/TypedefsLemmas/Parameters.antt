-- No parameter of a unit that breaks no constraint says `typedef` (C11 6.7.6.3p2, K2).
use Rattle.std.proofs.Common.{◌≡◌, ℕ, zero, suc, ◌<◌, ◌&&◌, inl, inr, true, false, not, List, [], ◌∷◌, Option, None, Some, nat_lt, slice_get, slice_index_or, refl, sym, ap, subst, ◌∙◌, if◌then◌else◌, arith}
use Rattle.std.specs.Option.{is_some}
use Rattle.std.proofs.lemmas.Bool.{false≢true, lt-ltb}
use Rattle.std.proofs.lemmas.Option.{slice_get_within}
use Rattle.cr_syntax.specs.declared.node.Kind.{Kind}
use Rattle.cr_syntax.specs.declared.node.Kind.TheVariants as kind
use Rattle.cr_syntax.specs.declared.node.Node.{Node}
use Rattle.cr_syntax_nodes.proofs.Numbers.{some_at}
use Rattle.cr_scopes_events.specs.declared.naming.Storage.TheVariants.{TypedefWord, NoWord}
use Rattle.cr_scopes_events.specs.Scripts as scripts
use Rattle.cr_scopes_events.specs.Scripts.{words_of, storage_of}
use Rattle.cr_check_enclosing.specs.declared.context.Around.{Around}
use Rattle.cr_check_enclosing.specs.declared.context.Place.TheVariants as place
use Rattle.cr_check_enclosing.specs.Around.{outermost, inside, inside_if, below as below_above, AreAround}
use Rattle.cr_check_types.specs.declared.shape.Shape.{Shape}
use Rattle.cr_check_expressions.specs.declared.least.Break.{Break}
use Rattle.cr_check_declarators.specs.declared.words.Specified.{Specified}
use Rattle.cr_check_declarators.specs.Specifiers.{nothing, storage_fault_of}
use Rattle.cr_check_declarations.specs.declared.tree.Tree.{Tree}
use Rattle.cr_check_declarations.specs.Before.{kind_in, kind_if}
use Rattle.cr_check_declarations.specs.Specifiers.{said_by}
use Rattle.cr_check_declarations.specs.Faults.{has_at, fault_at, token_if, place_of, is_specifier, is_lone, is_whole, are_specifiers}
use Rattle.cr_check_unit.specs.declared.typing.Typing.{Typing}
use Rattle.cr_check_unit.specs.Typing.{cut, entry_at, before_in, IsTyping}
use Rattle.cr_check_unit.specs.Breaks.{IsBroken}
use Rattle.cr_meaning_typing.specs.Typed.Laws.{HoldsAll}
use Rattle.cr_meaning_types.proofs.KnownLemmas.Naming.{holds_all, ruled, specifier_holds, specified_early}
use Rattle.cr_meaning_types.proofs.KnownLemmas.Declaring.{unplaced}
use Rattle.cr_meaning_types.proofs.KnownLemmas.Classes.{Typedefs, SaysTypedef, among_said, parameter_refuses, says_typedef}

-- ---- kinds and places

-- the parts of a parameter stand in one
parameter_place : (k : Kind) (d : ℕ) (a : Around) → k ≡ kind.Parameter → (inside k d a).place ≡ place.Parameter
unfolding inside
parameter_place k d a e = ap (λ c. (inside c d a).place) e

-- what says something has specifiers
first_there : (nodes : List Node) (parts : List ℕ) → storage_of nodes parts ≡ TypedefWord → (s : ℕ) × (slice_get parts 0 ≡ Some s)
first_there nodes [] e = let never : NoWord ≡ TypedefWord = e in absurd cc
first_there nodes (s ∷ rest) e = (s, refl)

alone : (s k w : ℕ) → slice_get (s ∷ []) k ≡ Some w → s ≡ w
alone s zero w f = cc f
alone s (suc k) w f = absurd (cc f)

module _ (u : Tree) (texts : List (List ℕ)) (shapes : List Shape) (t : Typing) (h : IsTyping u texts shapes t) (holds : (b : Break) → IsBroken u texts shapes t b → ⊥)
    (around : AreAround u.nodes.now u.above.now u.around.now)
    (above : (p a k : ℕ) (m : Node) → slice_get u.nodes.now a ≡ Some m → slice_get m.parts k ≡ Some p → slice_index_or u.above.now p None ≡ Some a)
    (below : (p a k : ℕ) (m : Node) → slice_get u.nodes.now a ≡ Some m → slice_get m.parts k ≡ Some p → p < a) where
  abbrev said_at : ℕ → Specified
  said_at i = (entry_at t i).own.specified

  -- ---- specifiers that say `typedef`

  word : (w : ℕ) (own : Node) → slice_get u.nodes.now w ≡ Some own → own.kind ≡ kind.Typedef → Typedefs (said_at w).storage
  word w own at e =
      let r = (ruled u texts shapes t h holds w own at).specified in
      subst (λ (x : Specified). Typedefs x.storage)
      (sym (r ∙ ap (λ k. said_by k (before_in shapes (cut w t)).specified (slice_index_or u.tags.now w None) own) e)) (refl, inl refl)

  kind_of : (w : ℕ) (own : Node) → slice_get u.nodes.now w ≡ Some own → scripts.kind_at u.nodes.now w ≡ Some kind.Typedef → own.kind ≡ kind.Typedef
  kind_of w own at e = let one : Some own.kind ≡ Some kind.Typedef = sym (ap scripts.kind_if at) ∙ e in cc one

  -- one of several words, or the only one
  says : (s : ℕ) (m : Node) → slice_get u.nodes.now s ≡ Some m → SaysTypedef u.nodes.now (words_of u.nodes.now s (scripts.kind_at u.nodes.now s)) → (is_specifier m.kind ≡ true) × Typedefs (said_at s).storage
  says s m at found = by m.kind refl found
    where
      kind_is : scripts.kind_at u.nodes.now s ≡ Some m.kind
      kind_is = ap scripts.kind_if at

      by : (k : Kind) → m.kind ≡ k → SaysTypedef u.nodes.now (words_of u.nodes.now s (scripts.kind_at u.nodes.now s)) → (is_specifier m.kind ≡ true) × Typedefs (said_at s).storage
      by kind.Specifiers e x =
          let w = x.1.0 in
          let among : slice_get m.parts x.0 ≡ Some w = sym (ap (λ o. slice_get (words_of u.nodes.now s o) x.0) (kind_is ∙ ap (λ k. Some k) e) ∙ ap (λ o. slice_get (scripts.parts_if o) x.0) at) ∙ x.1.1.0 in
          let low = below w s x.0 m at among in
          let there = slice_get_within u.nodes.now s m at in
          let own = some_at u.nodes.now w (omega (arith, low, there)) in
          let early = specified_early u texts shapes t h holds s m at w low in
          let said = (ruled u texts shapes t h holds s m at).specified in
          let its = word w own.0 own.1 (kind_of w own.0 own.1 x.1.1.1) in (
            ap is_specifier e,
            subst (λ (y : Specified). Typedefs y.storage) (sym (said ∙ ap (λ k. said_by k (before_in shapes (cut s t)).specified (slice_index_or u.tags.now s None) m) e))
                (among_said (before_in shapes (cut s t)).specified m.parts nothing x.0 w among (subst (λ (y : Specified). Typedefs y.storage) (sym early) its)),
          )
      by k e x =
          let w = x.1.0 in
          let among : slice_get (s ∷ []) x.0 ≡ Some w = sym (ap (λ o. slice_get (words_of u.nodes.now s o) x.0) (kind_is ∙ ap (λ k. Some k) e)) ∙ x.1.1.0 in
          let is = kind_of s m at (ap (scripts.kind_at u.nodes.now) (alone s x.0 w among) ∙ x.1.1.1) in
          (ap is_specifier is, word s m at is)

  -- ---- those of a parameter

  stands : (s d : ℕ) (m n : Node) → slice_get u.nodes.now s ≡ Some m → slice_get u.nodes.now d ≡ Some n → n.kind ≡ kind.Parameter → slice_get n.parts 0 ≡ Some s → place_of u s ≡ place.Parameter
  stands s d m n at up is e =
      ap (λ (a : Around). a.place)
      (around.each s (slice_get_within u.nodes.now s m at)
      ∙ ap (below_above u.nodes.now (λ q. slice_index_or u.around.now q outermost) s) (above s d 0 n up e)
      ∙ ap (λ o. if nat_lt s d then inside_if o d (slice_index_or u.around.now d outermost) else outermost) up
      ∙ ap (λ b. if b then inside n.kind d (slice_index_or u.around.now d outermost) else outermost) (lt-ltb s d (below s d 0 n up e)))
      ∙ parameter_place n.kind d (slice_index_or u.around.now d outermost) is

  -- K2
  stored : (s d : ℕ) (m n : Node) → slice_get u.nodes.now s ≡ Some m → slice_get u.nodes.now d ≡ Some n → n.kind ≡ kind.Parameter → slice_get n.parts 0 ≡ Some s → is_specifier m.kind ≡ true
      → is_some (storage_fault_of (said_at s) (place_of u s) false) ≡ false
  stored s d m n at up is e specifies = sym (ap (λ x. is_some (token_if x token)) judged) ∙ unplaced 2 (token_if (is_whole u s && is_lone (place_of u s)) token) [] only
    where
      token : Option ℕ
      token = storage_fault_of (said_at s) (place_of u s) false

      judged : (is_whole u s && is_lone (place_of u s)) ≡ true
      judged =
          let whole : is_whole u s ≡ true =
          ap (λ o. not (are_specifiers (kind_in u.nodes.now o))) (above s d 0 n up e) ∙ ap (λ o. not (are_specifiers (kind_if o))) up ∙ ap (λ k. not (are_specifiers (Some k))) is in
          let lone : is_lone (place_of u s) ≡ true = ap is_lone (stands s d m n at up is e) in
          (λ j. whole j && lone j)

      only : HoldsAll (fault_at 2 (token_if (is_whole u s && is_lone (place_of u s)) token) ∷ [])
      only x (inl same) = specifier_holds m.kind (has_at shapes (entry_at t s).own) (before_in shapes (cut s t)) u s m specifies (holds_all u texts shapes t h holds s m at) x (inr (inl same))
      only x (inr never) = absurd never

  pub refused : (d : ℕ) (n : Node) → slice_get u.nodes.now d ≡ Some n → n.kind ≡ kind.Parameter → storage_of u.nodes.now n.parts ≡ TypedefWord → ⊥
  refused d n up is e =
      let first = first_there u.nodes.now n.parts e in
      let s = first.0 in
      let low = below s d 0 n up first.1 in
      let there = slice_get_within u.nodes.now d n up in
      let m = some_at u.nodes.now s (omega (arith, low, there)) in
      let own = says s m.0 m.1 (says_typedef u.nodes.now n.parts s first.1 e) in
      let held = stored s d m.0 n m.1 up is first.1 own.0 in
      false≢true (sym held ∙ ap (λ x. is_some (storage_fault_of (said_at s) x false)) (stands s d m.0 n m.1 up is first.1) ∙ parameter_refuses (said_at s).storage own.1)
