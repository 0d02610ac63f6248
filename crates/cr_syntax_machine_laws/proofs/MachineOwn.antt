-- What is spelled depends on its own tokens alone: it is spelled in each text that has their words and spells their names
-- alike, within each limit that lets them stand. And a part has a token at least.
use Rattle.std.proofs.Common.{◌≡◌, ℕ, zero, suc, ◌+◌, ◌<◌, ◌≤◌, Bool, true, false, not, ◌&&◌, ◌||◌, List, [], ◌∷◌, length, Some, refl, sym, ap, subst, ◌∙◌, arith, inl, inr}
use Rattle.std.specs.Prelude.{slice_get, set}
use Rattle.cr_syntax.specs.declared.word.Word.{Word}
use Rattle.cr_syntax.specs.declared.word.Word.TheVariants as word
use Rattle.cr_syntax.specs.declared.node.Kind.{Kind}
use Rattle.cr_syntax.specs.declared.node.Kind.TheVariants as kind
use Rattle.cr_syntax.specs.declared.part.Part.{Part}
use Rattle.cr_syntax.specs.declared.part.Part.TheVariants as part
use Rattle.cr_syntax.specs.Symbols.{Symbol}
use Rattle.cr_syntax.specs.Symbols as symbol
use Rattle.cr_syntax.specs.declared.part.Context.{Context}
use Rattle.cr_syntax.specs.Words.{Lexeme, spelling_at}
use Rattle.cr_syntax.specs.Scopes.{Scopes, is_type, enter}
use Rattle.cr_syntax.specs.Trees.{Trees}
use Rattle.cr_syntax.specs.Context.{past_part, declared_in}
use Rattle.cr_syntax.specs.Grammar.{Side, Alternative}
use Rattle.cr_syntax.specs.Grammar as grammar
use Rattle.cr_syntax.specs.Tables.{side_of, rule_of}
use Rattle.cr_syntax.specs.Spells.{Limit, Free, AtMost, Upto, Leaving, Within, Stands, levels, Is, IsIdentifier, Phrase, Spells, a, rest, AreQualifiers, qualifiers_none, qualifiers_more}
use Rattle.cr_syntax.specs.Spells as spells
use Rattle.cr_syntax.proofs.Alternatives.{side_only}
use Rattle.cr_syntax_machine_laws.proofs.MachineFirst.{none_true}
use Rattle.cr_syntax.proofs.Tests.{both}
use Rattle.cr_syntax_machine_laws.proofs.MachineRuns.{word_same, spelling_same}
use Rattle.cr_syntax_machine.proofs.MachineSpells.{qualifiers_forth, forth, by_declarator, named_within, name_is}

-- A limit that lets stand what another one does, at the tokens before token m.
pub record Lets (limit top : Limit) (m : ℕ) : Type 0 where
  pub within : (i d : ℕ) → i < m → Within limit i d → Within top i d
  pub stands : (i d : ℕ) → i < m → Stands limit i d → Stands top i d

pub lets_itself : (limit : Limit) (m : ℕ) → Lets limit limit m
lets_itself limit m = record { within = λ i d lt w. w; stands = λ i d lt w. w }

pub lets_all : (limit : Limit) (m : ℕ) → Lets limit Free m
lets_all limit m = record { within = λ i d lt w. tt; stands = λ i d lt w. tt }

pub lets_fewer : (k n most : ℕ) → n ≤ k → (m : ℕ) → Lets (Upto k most) (Upto n most) m
lets_fewer k n most le m = record { within = λ i d lt w lt'. w (omega arith); stands = λ i d lt w. tt }

pub lets_upto : (k most m : ℕ) → Lets (AtMost most) (Upto k most) m
lets_upto k most m = record { within = λ i d lt w lt'. w; stands = λ i d lt w. tt }

pub lets_leaving : (k most : ℕ) → Lets (AtMost most) (Leaving k most) k
lets_leaving k most = record { within = λ i d lt w lt'. w; stands = λ i d lt w e. absurd (omega arith) }

-- The texts have the same words from token `low` on to before token `high`, and the same names there, or all names.
pub record Alike (ts us : List Lexeme) (low high : ℕ) (all : Bool) : Type 0 where
  pub words : (i : ℕ) (w : Word) → Is ts i w → low ≤ i → i < high → Is us i w
  pub names : (i : ℕ) → Is ts i word.Identifier → low ≤ i → i < high → spelling_at us i ≡ spelling_at ts i
  pub every : all ≡ true → (k : ℕ) → spelling_at us k ≡ spelling_at ts k

-- texts with the same tokens there
pub same_tokens : {ts us : List Lexeme} {low high : ℕ} → ((i : ℕ) → low ≤ i → i < high → slice_get us i ≡ slice_get ts i) → Alike ts us low high false
same_tokens {ts = ts} {us = us} f = record {
  words = λ i w q ge lt. word_same ts us i (f i ge lt) ∙ q;
  names = λ i q ge lt. spelling_same ts us i (f i ge lt);
  every = λ q. none_true q;
}

-- a text with another token

pub set_there : (ts : List Lexeme) (i : ℕ) (x : Lexeme) → i < length ts → slice_get (set ts i x) i ≡ Some x
set_there [] i x lt = absurd (omega arith)
set_there (t ∷ ts) zero x lt = refl
set_there (t ∷ ts) (suc i) x lt = set_there ts i x (omega arith)

pub set_other : (ts : List Lexeme) (i j : ℕ) (x : Lexeme) → (j ≡ i → ⊥) → slice_get (set ts i x) j ≡ slice_get ts j
set_other [] i j x f = refl
set_other (t ∷ ts) zero zero x f = absurd (f refl)
set_other (t ∷ ts) zero (suc j) x f = refl
set_other (t ∷ ts) (suc i) zero x f = refl
set_other (t ∷ ts) (suc i) (suc j) x f = set_other ts i j x (λ q. f (ap suc q))

-- A side may let a name enter that was said before. In the grammar it is that of a declarator right before it in the side.

abbrev declares : Part → Bool
declares part.Declarator = true
declares _ = false

-- the names that enter are known: all are, or the one said before, or it is a declarator's
abbrev is_ready : Bool → Bool → Side → Bool
is_ready all known [] = true
is_ready all known (symbol.Part l p ∷ s) = is_ready all (declares p) s
is_ready all known (symbol.Enters ∷ s) = (known || all) && is_ready all false s
is_ready all known (_ ∷ s) = is_ready all false s

side_ready : {p : Part} {k : Kind} {s : Side} (all : Bool) → Alternative p k s → is_ready all false s ≡ true
side_ready all grammar.function_definition = refl
side_ready all _ = refl

all_ready : (known : Bool) (s : Side) → is_ready true known s ≡ true
all_ready known [] = refl
all_ready known (symbol.Part l p ∷ s) = all_ready (declares p) s
all_ready true (symbol.Enters ∷ s) = all_ready false s
all_ready false (symbol.Enters ∷ s) = all_ready false s
all_ready known (_ ∷ s) = all_ready false s

pub record Ready (ts us : List Lexeme) (all : Bool) (s : Side) (h : Context) : Type 0 where
  known : Bool
  asks : is_ready all known s ≡ true
  name : known ≡ true → spelling_at us h.name ≡ spelling_at ts h.name

pub ready : {ts us : List Lexeme} {all : Bool} {s : Side} {h : Context} → is_ready all false s ≡ true → Ready ts us all s h
ready q = record { known = false; asks = q; name = λ z. none_true z }

abbrev IsReady : List Lexeme → List Lexeme → Bool → Phrase → Context → Type 0
IsReady ts us all (a p) h = Unit {0}
IsReady ts us all (rest s) h = Ready ts us all s h

module _ (ts us : List Lexeme) (limit top : Limit) (low high : ℕ) (all : Bool) (y : Alike ts us low high all) (lets : Lets limit top high) where
  token : {i : ℕ} {w : Word} → Is ts i w → low ≤ i → i < high → Is us i w
  token q ge lt = y.words _ _ q ge lt

  name_known : (p : Part) {h' : Context} {c e : Scopes} {d i j : ℕ} {t : Trees} → declares p ≡ true → low ≤ i → j ≤ high → Spells ts limit (a p) h' c e d t i j → (h : Context) →
      spelling_at us (past_part h t).name ≡ spelling_at ts (past_part h t).name
  name_known part.Declarator {t = t} q ge le s h =
      let n = named_within by_declarator s in
      subst (λ k. spelling_at us k ≡ spelling_at ts k) (sym (name_is s h)) (y.names (declared_in t) n.2 (omega arith) (omega arith))
  name_known _ q ge le s h = none_true q

  behind : {p : Part} {s : Side} {h' : Context} {c e : Scopes} {d i j : ℕ} {t : Trees} (h : Context) → is_ready all (declares p) s ≡ true → low ≤ i → j ≤ high → Spells ts limit (a p) h' c e d t i j →
      Ready ts us all s (past_part h t)
  behind {p = p} h q ge le s = record { known = declares p; asks = q; name = λ z. name_known p z ge le s h }

  known_or : (b : Bool) (k : ℕ) → (b ≡ true → spelling_at us k ≡ spelling_at ts k) → b || all ≡ true → spelling_at us k ≡ spelling_at ts k
  known_or true k f q = f refl
  known_or false k f q = y.every q k

  carried_qualifiers : {d i j : ℕ} → low ≤ i → j ≤ high → AreQualifiers ts limit d i j → AreQualifiers us top d i j
  carried_qualifiers ge le qualifiers_none = qualifiers_none
  carried_qualifiers {d = d} {i = i} ge le (qualifiers_more (inl q) w k) = let n = qualifiers_forth k in qualifiers_more (inl (token q ge (omega arith))) (lets.stands i d (omega arith) w) (carried_qualifiers (omega arith) le k)
  carried_qualifiers {d = d} {i = i} ge le (qualifiers_more (inr q) w k) = let n = qualifiers_forth k in qualifiers_more (inr (token q ge (omega arith))) (lets.stands i d (omega arith) w) (carried_qualifiers (omega arith) le k)

  carried_name : (c : Scopes) (i : ℕ) {b : Bool} → low ≤ i → i < high → IsIdentifier ts c i b → IsIdentifier us c i b
  carried_name c i {b = b} ge lt q = (token q.0 ge lt, subst (λ z. is_type c z ≡ b) (sym (y.names i q.0 ge lt)) q.1)

  pub carried : {p : Phrase} {h : Context} {c e : Scopes} {d i j : ℕ} {t : Trees} → IsReady ts us all p h → low ≤ i → j ≤ high → Spells ts limit p h c e d t i j → Spells us top p h c e d t i j
  carried r ge le (spells.of_alternative z f s) = spells.of_alternative z f (carried (ready (side_ready all z)) ge le s)
  carried r ge le (spells.of_chain z f s) = spells.of_chain z f (carried tt ge le s)
  carried {h = h} {c = c} {d = d} {i = i} {j = j} {t = t} r ge le (spells.init_declarator_alone {e = e} s) =
      subst (λ z. Spells us top (a part.InitDeclarator) h c (enter (record { name = z; is_type = (past_part h t).type_name }) e) d t i j) (name_known part.Declarator refl ge le s h) (spells.init_declarator_alone (carried tt ge le s))
  carried {h = h} {c = c} {d = d} {i = i} {j = j} {t = t} r ge le (spells.parameter_declarator {e = e} s) =
      subst (λ z. Spells us top (a part.ParameterDeclarator) h c (enter (record { name = z; is_type = (past_part h t).type_name }) e) d t i j) (name_known part.Declarator refl ge le s h) (spells.parameter_declarator (carried tt ge le s))
  carried r ge le (spells.member_declarator s) = spells.member_declarator (carried tt ge le s)
  carried r ge le spells.done = spells.done
  carried {d = d} {i = i} r ge le (spells.token {l = l} q w s) =
      let n = forth s in spells.token (token q ge (omega arith)) (lets.stands i (levels l d) (omega arith) w) (carried (ready r.asks) (omega arith) le s)
  carried {d = d} {i = i} r ge le (spells.opens {l = l} q w s) =
      let n = forth s in spells.opens (token q ge (omega arith)) (lets.within i (levels l d) (omega arith) w) (carried (ready r.asks) (omega arith) le s)
  carried {d = d} {i = i} r ge le (spells.reopens q w v s) =
      let n = forth s in spells.reopens (token q ge (omega arith)) (lets.stands i (d + 1) (omega arith) w) (lets.within i d (omega arith) v) (carried (ready r.asks) (omega arith) le s)
  carried {h = h} r ge le (spells.part x s) =
      let n = forth x in let n' = forth s in spells.part (carried tt ge (omega arith) x) (carried (behind h r.asks ge (omega arith) x) (omega arith) le s)
  carried r ge le (spells.optional_none s) = spells.optional_none (carried (ready r.asks) ge le s)
  carried r ge le (spells.optional_some x s) =
      let n = forth x in let n' = forth s in spells.optional_some (carried tt ge (omega arith) x) (carried (ready r.asks) (omega arith) le s)
  carried r ge le (spells.many_none s) = spells.many_none (carried (ready r.asks) ge le s)
  carried r ge le (spells.many_more x s) =
      let n = forth x in let n' = forth s in spells.many_more (carried tt ge (omega arith) x) (carried (ready r.asks) (omega arith) le s)
  carried r ge le (spells.list_last x s) =
      let n = forth x in let n' = forth s in spells.list_last (carried tt ge (omega arith) x) (carried (ready r.asks) (omega arith) le s)
  carried {d = d} r ge le (spells.list_more {l = l} {j = j} x q w s) =
      let n = forth x in let n' = forth s in spells.list_more (carried tt ge (omega arith) x) (token q (omega arith) (omega arith)) (lets.stands j (levels l d) (omega arith) w) (carried (ready r.asks) (omega arith) le s)
  carried r ge le (spells.list_none s) = spells.list_none (carried (ready r.asks) ge le s)
  carried r ge le (spells.list_some s) = spells.list_some (carried (ready r.asks) ge le s)
  carried {d = d} {i = i} r ge le (spells.tag_none q w s) =
      let n = forth s in spells.tag_none (token q ge (omega arith)) (lets.within i d (omega arith) w) (carried (ready r.asks) (omega arith) le s)
  carried {d = d} {i = i} r ge le (spells.tag_some q w q' w' s) =
      let n = forth s in spells.tag_some (token q ge (omega arith)) (lets.stands i d (omega arith) w) (token q' (omega arith) (omega arith)) (lets.within (i + 1) d (omega arith) w') (carried (ready r.asks) (omega arith) le s)
  carried {d = d} {i = i} r ge le (spells.comma_none q w s) =
      let n = forth s in spells.comma_none (token q ge (omega arith)) (lets.stands i (d + 1) (omega arith) w) (carried (ready r.asks) (omega arith) le s)
  carried {d = d} {i = i} r ge le (spells.comma_some q w q' w' s) =
      let n = forth s in spells.comma_some (token q ge (omega arith)) (lets.stands i (d + 1) (omega arith) w) (token q' (omega arith) (omega arith)) (lets.stands (i + 1) (d + 1) (omega arith) w') (carried (ready r.asks) (omega arith) le s)
  carried r ge le (spells.qualified k x) =
      let n = qualifiers_forth k in let n' = forth x in spells.qualified (carried_qualifiers ge (omega arith) k) (carried tt (omega arith) le x)
  carried r ge le (spells.qualified_none k) = spells.qualified_none (carried_qualifiers ge le k)
  carried r ge le (spells.qualified_some k x) =
      let n = qualifiers_forth k in let n' = forth x in spells.qualified_some (carried_qualifiers ge (omega arith) k) (carried tt (omega arith) le x)
  carried {c = c} {d = d} {i = i} r ge le (spells.ordinary q w s) =
      let n = forth s in spells.ordinary (carried_name c i ge (omega arith) q) (lets.stands i d (omega arith) w) (carried (ready r.asks) (omega arith) le s)
  carried {c = c} {d = d} {i = i} r ge le (spells.type_identifier q f w s) =
      let n = forth s in spells.type_identifier (carried_name c i ge (omega arith) q) f (lets.stands i d (omega arith) w) (carried (ready r.asks) (omega arith) le s)
  carried {h = h} {c = c} {d = d} {i = i} r ge le (spells.declared q f w s) =
      let n = forth s in spells.declared (token q ge (omega arith)) (subst (λ z. h.typed || not (is_type c z) ≡ true) (sym (y.names i q ge (omega arith))) f) (lets.stands i d (omega arith) w) (carried (ready r.asks) (omega arith) le s)
  carried {h = h} {c = c} {d = d} {i = i} {j = j} {t = t} r ge le (spells.enumerates {s = l} {e = e} q w s) =
      let n = forth s in subst (λ z. Spells us top (rest (symbol.Enumerates ∷ l)) h c (enter (record { name = z; is_type = false }) e) d t i j) (y.names i q ge (omega arith))
      (spells.enumerates (token q ge (omega arith)) (lets.stands i d (omega arith) w) (carried (ready r.asks) (omega arith) le s))
  carried r ge le (spells.value_none s) = spells.value_none (carried (ready r.asks) ge le s)
  carried {d = d} {i = i} r ge le (spells.value_some q w x s) =
      let n = forth x in
      let n' = forth s in
      spells.value_some (token q ge (omega arith)) (lets.stands i d (omega arith) w) (carried tt (omega arith) (omega arith) x) (carried (ready r.asks) (omega arith) le s)
  carried {h = h} {e = e} {d = d} {i = i} {j = j} {t = t} r ge le (spells.enters {s = l} {c = c} {own = names} s) =
      let x = both (r.known || all) (is_ready all false l) r.asks in
      spells.enters (subst (λ z. Spells us top (rest l) h (names ∷ enter (record { name = z; is_type = h.type_name }) c) e d t i j) (sym (known_or r.known h.name r.name x.0)) (carried (ready x.1) ge le s))
  carried r ge le (spells.begins s) = spells.begins (carried (ready r.asks) ge le s)
  carried r ge le (spells.ends s) = spells.ends (carried (ready r.asks) ge le s)
  carried r ge le (spells.prototype_none s) = spells.prototype_none (carried (ready r.asks) ge le s)
  carried r ge le (spells.prototype_some x s) =
      let n = forth x in let n' = forth s in spells.prototype_some (carried tt ge (omega arith) x) (carried (ready r.asks) (omega arith) le s)
  carried r ge le (spells.size_none s) = spells.size_none (carried (ready r.asks) ge le s)
  carried r ge le (spells.size_some x s) =
      let n = forth x in let n' = forth s in spells.size_some (carried tt ge (omega arith) x) (carried (ready r.asks) (omega arith) le s)
  carried {d = d} {i = i} r ge le (spells.texts_one q w) = spells.texts_one (token q ge (omega arith)) (lets.stands i d (omega arith) w)
  carried {d = d} {i = i} r ge le (spells.texts_more q w s) =
      let n = forth s in spells.texts_more (token q ge (omega arith)) (lets.stands i d (omega arith) w) (carried (ready r.asks) (omega arith) le s)
  carried r ge le (spells.init_declaration x s) =
      let n = forth x in let n' = forth s in spells.init_declaration (carried tt ge (omega arith) x) (carried (ready r.asks) (omega arith) le s)
  carried r ge le (spells.init_clause s) = spells.init_clause (carried (ready r.asks) ge le s)
  carried {d = d} {i = i} r ge le (spells.clause_none q w s) =
      let n = forth s in spells.clause_none (token q ge (omega arith)) (lets.stands i (d + 1) (omega arith) w) (carried (ready r.asks) (omega arith) le s)
  carried {d = d} r ge le (spells.clause_some {j = j} x q w s) =
      let n = forth x in let n' = forth s in spells.clause_some (carried tt ge (omega arith) x) (token q (omega arith) (omega arith)) (lets.stands j (d + 1) (omega arith) w) (carried (ready r.asks) (omega arith) le s)
  carried {d = d} {i = i} r ge le (spells.step_none q w v s) =
      let n = forth s in spells.step_none (token q ge (omega arith)) (lets.stands i (d + 1) (omega arith) w) (lets.within i d (omega arith) v) (carried (ready r.asks) (omega arith) le s)
  carried {d = d} r ge le (spells.step_some {j = j} x q w v s) =
      let n = forth x in let n' = forth s in spells.step_some (carried tt ge (omega arith) x) (token q (omega arith) (omega arith)) (lets.stands j (d + 1) (omega arith) w) (lets.within j d (omega arith) v) (carried (ready r.asks) (omega arith) le s)
  carried r ge le (spells.else_none s) = spells.else_none (carried (ready r.asks) ge le s)
  carried {d = d} {i = i} r ge le (spells.else_some q w x s) =
      let n = forth x in
      let n' = forth s in
      spells.else_some (token q ge (omega arith)) (lets.within i d (omega arith) w) (carried tt (omega arith) (omega arith) x) (carried (ready r.asks) (omega arith) le s)

-- where all names are the same, each phrase is
phrase_ready : (ts us : List Lexeme) (p : Phrase) (h : Context) → IsReady ts us true p h
phrase_ready ts us (a p) h = tt
phrase_ready ts us (rest s) h = ready (all_ready false s)

pub carried_whole : {ts us : List Lexeme} {limit top : Limit} {p : Phrase} {h : Context} {c e : Scopes} {d i j : ℕ} {t : Trees} → Alike ts us 0 j true → Lets limit top j → Spells ts limit p h c e d t i j → Spells us top p h c e d t i j
carried_whole {ts = ts} {us = us} {limit = limit} {top = top} {p = p} {h = h} {j = j} y l s = carried ts us limit top 0 j true y l (phrase_ready ts us p h) (omega arith) (omega arith) s

-- the same text within another limit
pub within_other : {ts : List Lexeme} {limit top : Limit} {p : Phrase} {h : Context} {c e : Scopes} {d i j : ℕ} {t : Trees} → Lets limit top j → Spells ts limit p h c e d t i j → Spells ts top p h c e d t i j
within_other l s = carried_whole (record { words = λ i w q ge lt. q; names = λ i q ge lt. refl; every = λ q k. refl }) l s

-- A right side that has a token or a part in any case.

abbrev is_solid : Symbol → Bool
is_solid (symbol.Optional l p) = false
is_solid (symbol.Many l p) = false
is_solid (symbol.OptionalList l p) = false
is_solid (symbol.OptionalQualified p) = false
is_solid symbol.Value = false
is_solid symbol.Enters = false
is_solid symbol.Begins = false
is_solid symbol.Ends = false
is_solid symbol.Prototype = false
is_solid symbol.Size = false
is_solid symbol.Else = false
is_solid _ = true

abbrev has_solid : Side → Bool
has_solid [] = false
has_solid (x ∷ s) = is_solid x || has_solid s

abbrev HasToken : Phrase → Type 0
HasToken (a p) = Unit {0}
HasToken (rest s) = has_solid s ≡ true

sides_solid : (k : Kind) → has_solid (side_of k) ≡ true
unfolding rule_of
sides_solid kind.FunctionDefinition = refl
sides_solid _ = refl

-- a part goes on to the right, and so does such a side
pub later : {ts : List Lexeme} {limit : Limit} {p : Phrase} {h : Context} {c e : Scopes} {d i j : ℕ} {t : Trees} → HasToken p → Spells ts limit p h c e d t i j → i < j
later y (spells.of_alternative {k = k} z f s) = later (subst (λ s. has_solid s ≡ true) (side_only z) (sides_solid k)) s
later y (spells.of_chain z f s) = later tt s
later y (spells.init_declarator_alone s) = later tt s
later y (spells.parameter_declarator s) = later tt s
later y (spells.member_declarator s) = later tt s
later y spells.done = none_true y
later y (spells.token q w s) = let n = forth s in omega arith
later y (spells.opens q w s) = let n = forth s in omega arith
later y (spells.reopens q w v s) = let n = forth s in omega arith
later y (spells.part x s) = let n = later tt x in let n' = forth s in omega arith
later y (spells.optional_none s) = later y s
later y (spells.optional_some x s) = let n = later tt x in let n' = forth s in omega arith
later y (spells.many_none s) = later y s
later y (spells.many_more x s) = let n = later tt x in let n' = forth s in omega arith
later y (spells.list_last x s) = let n = later tt x in let n' = forth s in omega arith
later y (spells.list_more x q w s) = let n = forth x in let n' = forth s in omega arith
later y (spells.list_none s) = later y s
later y (spells.list_some s) = later refl s
later y (spells.tag_none q w s) = let n = forth s in omega arith
later y (spells.tag_some q w q' w' s) = let n = forth s in omega arith
later y (spells.comma_none q w s) = let n = forth s in omega arith
later y (spells.comma_some q w q' w' s) = let n = forth s in omega arith
later y (spells.qualified k x) = let n = qualifiers_forth k in let n' = later tt x in omega arith
later y (spells.qualified_none k) = none_true y
later y (spells.qualified_some k x) = let n = qualifiers_forth k in let n' = later tt x in omega arith
later y (spells.ordinary q w s) = let n = forth s in omega arith
later y (spells.type_identifier q f w s) = let n = forth s in omega arith
later y (spells.declared q f w s) = let n = forth s in omega arith
later y (spells.enumerates q w s) = let n = forth s in omega arith
later y (spells.value_none s) = later y s
later y (spells.value_some q w x s) = let n = forth x in let n' = forth s in omega arith
later y (spells.enters s) = later y s
later y (spells.begins s) = later y s
later y (spells.ends s) = later y s
later y (spells.prototype_none s) = later y s
later y (spells.prototype_some x s) = let n = later tt x in let n' = forth s in omega arith
later y (spells.size_none s) = later y s
later y (spells.size_some x s) = let n = later tt x in let n' = forth s in omega arith
later y (spells.texts_one q w) = omega arith
later y (spells.texts_more q w s) = let n = forth s in omega arith
later y (spells.init_declaration x s) = let n = later tt x in let n' = forth s in omega arith
later y (spells.init_clause s) = later refl s
later y (spells.clause_none q w s) = let n = forth s in omega arith
later y (spells.clause_some x q w s) = let n = forth x in let n' = forth s in omega arith
later y (spells.step_none q w v s) = let n = forth s in omega arith
later y (spells.step_some x q w v s) = let n = forth x in let n' = forth s in omega arith
later y (spells.else_none s) = later y s
later y (spells.else_some q w x s) = let n = forth x in let n' = forth s in omega arith
