-- What the machine's laws need of spelling: a part is one tree, its tokens go on to the right, a declarator's name stands
-- in it, and an expression that an assignment operator can stand behind is a unary one.
use Rattle.std.proofs.Common.{◌≡◌, ℕ, ◌<◌, ◌≤◌, Bool, true, List, [], refl, sym, ap, subst, ◌∙◌, arith, false}
use Rattle.std.specs.Prelude.{if◌then◌else◌}
use borrow.Author.Tests.{lt-ltb}
use Rattle.cr_syntax.specs.declared.word.Word.TheVariants as word
use Rattle.cr_syntax.specs.declared.node.Kind.{Kind}
use Rattle.cr_syntax.specs.declared.node.Kind.TheVariants as kind
use Rattle.cr_syntax.specs.declared.part.Part.{Part}
use Rattle.cr_syntax.specs.declared.part.Part.TheVariants as part
use Rattle.cr_syntax.specs.declared.part.Context.{Context}
use Rattle.cr_syntax.specs.Words.{Lexeme, spelling_at}
use Rattle.cr_syntax.specs.Scopes.{Scopes}
use Rattle.cr_syntax.specs.Trees.{Trees, none, node, one, ◌&◌}
use Rattle.cr_syntax.specs.Context.{fresh, past_part, declared_in, declared_name, hears, at_start}
use Rattle.cr_syntax.specs.Grammar as grammar
use Rattle.cr_syntax.specs.Spells.{Limit, Is, Phrase, a, Spells, AreQualifiers, qualifiers_none, qualifiers_more, rest}
use Rattle.cr_syntax.specs.Spells as spells
use Rattle.cr_syntax_machine.specs.Machine.{brought}
use Rattle.cr_syntax_machine.specs.MachineBody.{is_unary}
use Rattle.cr_syntax.specs.Units.{own_parameters, after_first}

-- Rows of trees.

pub and_none : (t : Trees) → t & none ≡ t
and_none none = refl
and_none (node k i j b n) = ap (λ x. node k i j b x) (and_none n)

pub and_and : (t u v : Trees) → (t & u) & v ≡ t & (u & v)
and_and none u v = refl
and_and (node k i j b n) u v = ap (λ x. node k i j b x) (and_and n u v)

-- a tree behind a row, and a row behind both
pub pushed : (t u v : Trees) → (t & u & none) & v ≡ t & (u & v)
pushed t u v = and_and t (u & none) v ∙ ap (λ x. t & x) (and_and u none v)

-- a declarator's own parameters stand in it, whatever stands behind, and what stands behind the first tree is the rest

pub own_alone : (k : Kind) (i j : ℕ) (b n : Trees) → own_parameters (node k i j b n) ≡ own_parameters (one k i j b)
own_alone kind.FunctionDeclarator i j b n = refl
own_alone _ i j b n = refl

pub own_first : {k : Kind} {i j : ℕ} {b t : Trees} → t ≡ one k i j b → (u : Trees) → own_parameters (t & u) ≡ own_parameters t
own_first {k = k} {i = i} {j = j} {b = b} q u = subst (λ x. own_parameters (x & u) ≡ own_parameters x) (sym q) (own_alone k i j b u)

pub after_one : {k : Kind} {i j : ℕ} {b t : Trees} → t ≡ one k i j b → (u : Trees) → after_first (t & u) ≡ u
after_one q u = subst (λ x. after_first (x & u) ≡ u) (sym q) refl

-- A part is one tree, from its first token to the one behind it.
pub is_one : {ts : List Lexeme} {limit : Limit} {p : Part} {h : Context} {c e : Scopes} {d i j : ℕ} {t : Trees} →
    Spells ts limit (a p) h c e d t i j → (k : Kind) × (b : Trees) × (t ≡ one k i j b)
is_one (spells.of_alternative {k = k} {t = t} m f s) = (k, t, refl)
is_one (spells.of_chain m f s) = is_one s
is_one (spells.init_declarator_alone s) = is_one s
is_one (spells.parameter_declarator s) = is_one s
is_one (spells.member_declarator s) = is_one s

pub qualifiers_forth : {ts : List Lexeme} {limit : Limit} {d i j : ℕ} → AreQualifiers ts limit d i j → i ≤ j
qualifiers_forth qualifiers_none = omega arith
qualifiers_forth (qualifiers_more q w k) = let n = qualifiers_forth k in omega arith

-- spelling goes on to the right
pub forth : {ts : List Lexeme} {limit : Limit} {p : Phrase} {h : Context} {c e : Scopes} {d i j : ℕ} {t : Trees} →
    Spells ts limit p h c e d t i j → i ≤ j
forth (spells.of_alternative m f s) = forth s
forth (spells.of_chain m f s) = forth s
forth (spells.init_declarator_alone s) = forth s
forth (spells.parameter_declarator s) = forth s
forth (spells.member_declarator s) = forth s
forth spells.done = omega arith
forth (spells.token q w s) = let n = forth s in omega arith
forth (spells.opens q w s) = let n = forth s in omega arith
forth (spells.reopens q w v s) = let n = forth s in omega arith
forth (spells.part x s) = let n = forth x in let m = forth s in omega arith
forth (spells.optional_none s) = forth s
forth (spells.optional_some x s) = let n = forth x in let m = forth s in omega arith
forth (spells.many_none s) = forth s
forth (spells.many_more x s) = let n = forth x in let m = forth s in omega arith
forth (spells.list_last x s) = let n = forth x in let m = forth s in omega arith
forth (spells.list_more x q w s) = let n = forth x in let m = forth s in omega arith
forth (spells.list_none s) = forth s
forth (spells.list_some s) = forth s
forth (spells.tag_none q w s) = let n = forth s in omega arith
forth (spells.tag_some q w q' w' s) = let n = forth s in omega arith
forth (spells.comma_none q w s) = let n = forth s in omega arith
forth (spells.comma_some q w q' w' s) = let n = forth s in omega arith
forth (spells.qualified k x) = let n = qualifiers_forth k in let m = forth x in omega arith
forth (spells.qualified_none k) = qualifiers_forth k
forth (spells.qualified_some k x) = let n = qualifiers_forth k in let m = forth x in omega arith
forth (spells.ordinary q w s) = let n = forth s in omega arith
forth (spells.type_identifier q f w s) = let n = forth s in omega arith
forth (spells.declared q f w s) = let n = forth s in omega arith
forth (spells.enumerates q w s) = let n = forth s in omega arith
forth (spells.value_none s) = forth s
forth (spells.value_some q w x s) = let n = forth x in let m = forth s in omega arith
forth (spells.enters s) = forth s
forth (spells.begins s) = forth s
forth (spells.ends s) = forth s
forth (spells.prototype_none s) = forth s
forth (spells.prototype_some x s) = let n = forth x in let m = forth s in omega arith
forth (spells.size_none s) = forth s
forth (spells.size_some x s) = let n = forth x in let m = forth s in omega arith
forth (spells.texts_one q w) = omega arith
forth (spells.texts_more q w s) = let n = forth s in omega arith
forth (spells.init_declaration x s) = let n = forth x in let m = forth s in omega arith
forth (spells.init_clause s) = forth s
forth (spells.clause_none q w s) = let n = forth s in omega arith
forth (spells.clause_some x q w s) = let n = forth x in let m = forth s in omega arith
forth (spells.step_none q w v s) = let n = forth s in omega arith
forth (spells.step_some x q w v s) = let n = forth x in let m = forth s in omega arith
forth (spells.else_none s) = forth s
forth (spells.else_some q w x s) = let n = forth x in let m = forth s in omega arith

quiet_start : (p : Part) (h h' : Context) → hears p ≡ false → at_start p h ≡ at_start p h'
quiet_start p h h' q = ap (λ b. elim b as (λ _. Context) [ true ↦ h | false ↦ fresh ]) q ∙ sym (ap (λ b. elim b as (λ _. Context) [ true ↦ h' | false ↦ fresh ]) q)

-- a part that hears nothing of what stands before is spelled behind anything
pub unheard : {ts : List Lexeme} {limit : Limit} {p : Part} {h : Context} {c e : Scopes} {d i j : ℕ} {t : Trees} →
    hears p ≡ false → Spells ts limit (a p) h c e d t i j → (h' : Context) → Spells ts limit (a p) h' c e d t i j
unheard {ts = ts} {limit = limit} {p = p} {h = h} {c = c} {e = e} {d = d} {i = i} {j = j} q (spells.of_alternative {s = r} {t = t} m f s) h' =
    spells.of_alternative m f (subst (λ g. Spells ts limit (rest r) g c e d t i j) (quiet_start p h h' q) s)
unheard {ts = ts} {limit = limit} {p = p} {h = h} {c = c} {e = e} {d = d} {i = i} {j = j} {t = t} q (spells.of_chain {q = r} m f s) h' =
    spells.of_chain m f (subst (λ g. Spells ts limit (a r) g c e d t i j) (quiet_start p h h' q) s)
unheard q (spells.init_declarator_alone s) h' = cc
unheard q (spells.parameter_declarator s) h' = cc
unheard q (spells.member_declarator s) h' = cc

-- the parts that have a name
pub data Names : Part → Type 0 where
  by_declarator : Names part.Declarator
  by_direct : Names part.DirectDeclarator

-- token k is an identifier, among those from i to before j
abbrev pub IsAmong : List Lexeme → ℕ → ℕ → ℕ → Type 0
IsAmong ts i j k = (i ≤ k) × (k < j) × Is ts k word.Identifier

-- they have the same one where other trees stand behind
among_row : {ts : List Lexeme} {limit : Limit} {p : Part} {h : Context} {c e : Scopes} {d i i' j k : ℕ} {t : Trees} →
    Spells ts limit (a p) h c e d t i' j → (u : Trees) → i ≤ i' → j ≤ k → IsAmong ts i' j (declared_in t) → IsAmong ts i k (declared_in (t & u))
among_row {ts = ts} {i = i} {k = k} {t = t} s u ge le n =
    subst (λ m. IsAmong ts i k m) (subst (λ x. declared_in x ≡ declared_in (x & u)) (sym (is_one s).2) refl) (omega arith, omega arith, n.2)

-- the identifier that a declarator declares is one of its tokens
pub named_within : {ts : List Lexeme} {limit : Limit} {p : Part} {h : Context} {c e : Scopes} {d i j : ℕ} {t : Trees} →
    Names p → Spells ts limit (a p) h c e d t i j → IsAmong ts i j (declared_in t)
named_within by_declarator (spells.of_chain grammar.declarator_direct f s) = named_within by_direct s
named_within by_declarator (spells.of_alternative grammar.pointer_declarator f (spells.opens q w (spells.qualified k s))) =
    let n = qualifiers_forth k in let x = named_within by_declarator s in (omega arith, omega arith, x.2)
named_within by_direct (spells.of_chain x f s) = elim x [ ]
named_within by_direct (spells.of_alternative grammar.name_declarator f (spells.declared q g w s)) = let n = forth s in (omega arith, omega arith, q)
named_within by_direct (spells.of_alternative grammar.group_declarator f (spells.opens q w (spells.part {u = u} x s))) = among_row x u (omega arith) (forth s) (named_within by_declarator x)
named_within by_direct (spells.of_alternative grammar.array_declarator f (spells.part {u = u} x s)) = among_row x u (omega arith) (forth s) (named_within by_direct x)
named_within by_direct (spells.of_alternative grammar.function_declarator f (spells.part {u = u} x s)) = among_row x u (omega arith) (forth s) (named_within by_direct x)

-- it is the one that is said after it
pub name_is : {ts : List Lexeme} {limit : Limit} {p : Part} {h' : Context} {c e : Scopes} {d i j : ℕ} {t : Trees} →
    Spells ts limit (a p) h' c e d t i j → (h : Context) → (past_part h t).name ≡ declared_in t
name_is s h = let w = is_one s in subst (λ x. (past_part h x).name ≡ declared_in x) (sym w.2) refl

-- a name that enters behind it
pub brought_is : (ts : List Lexeme) (i k : ℕ) (b : Bool) → k < i → brought ts i k b ≡ record { name = spelling_at ts k; is_type = b }
brought_is ts i k b lt = ap (λ x. record { name = if x then spelling_at ts k else []; is_type = b }) (lt-ltb k i lt)

-- a declared name that enters behind its declarator
pub name_brought : {ts : List Lexeme} {limit : Limit} {h' : Context} {c e : Scopes} {d i j : ℕ} {t : Trees} →
    Spells ts limit (a part.Declarator) h' c e d t i j → (h : Context) → brought ts j (past_part h t).name (past_part h t).type_name ≡ declared_name ts (past_part h t)
name_brought {ts = ts} {j = j} {t = t} s h =
    let n = named_within by_declarator s in
    let m = name_is s h in
    brought_is ts j (past_part h t).name (past_part h t).type_name (omega arith)

-- the parts that a unary expression can be alone, up to a conditional one
pub data Looser : Part → Type 0 where
  conditional : Looser part.Conditional
  logical_or : Looser part.LogicalOr
  logical_and : Looser part.LogicalAnd
  or : Looser part.Or
  xor : Looser part.Xor
  and : Looser part.And
  equality : Looser part.Equality
  relational : Looser part.Relational
  shift : Looser part.Shift
  additive : Looser part.Additive
  multiplicative : Looser part.Multiplicative
  cast : Looser part.Cast

pub unary_in : {ts : List Lexeme} {limit : Limit} {p : Part} {h : Context} {c e : Scopes} {d i j : ℕ} {t : Trees} →
    Looser p → is_unary t ≡ true → Spells ts limit (a p) h c e d t i j → Spells ts limit (a part.Unary) fresh c e d t i j
unary_in conditional u (spells.of_chain grammar.conditional_binary f s) = unary_in logical_or u s
unary_in conditional u (spells.of_alternative grammar.conditional f s) = cc
unary_in logical_or u (spells.of_chain grammar.binary_14 f s) = unary_in logical_and u s
unary_in logical_or u (spells.of_alternative grammar.logical_or f s) = cc
unary_in logical_and u (spells.of_chain grammar.binary_13 f s) = unary_in or u s
unary_in logical_and u (spells.of_alternative grammar.logical_and f s) = cc
unary_in or u (spells.of_chain grammar.binary_12 f s) = unary_in xor u s
unary_in or u (spells.of_alternative grammar.inclusive_or f s) = cc
unary_in xor u (spells.of_chain grammar.binary_11 f s) = unary_in and u s
unary_in xor u (spells.of_alternative grammar.exclusive_or f s) = cc
unary_in and u (spells.of_chain grammar.binary_10 f s) = unary_in equality u s
unary_in and u (spells.of_alternative grammar.and f s) = cc
unary_in equality u (spells.of_chain grammar.binary_9 f s) = unary_in relational u s
unary_in equality u (spells.of_alternative grammar.equal f s) = cc
unary_in equality u (spells.of_alternative grammar.not_equal f s) = cc
unary_in relational u (spells.of_chain grammar.binary_8 f s) = unary_in shift u s
unary_in relational u (spells.of_alternative grammar.less f s) = cc
unary_in relational u (spells.of_alternative grammar.greater f s) = cc
unary_in relational u (spells.of_alternative grammar.less_equal f s) = cc
unary_in relational u (spells.of_alternative grammar.greater_equal f s) = cc
unary_in shift u (spells.of_chain grammar.binary_7 f s) = unary_in additive u s
unary_in shift u (spells.of_alternative grammar.shift_left f s) = cc
unary_in shift u (spells.of_alternative grammar.shift_right f s) = cc
unary_in additive u (spells.of_chain grammar.binary_6 f s) = unary_in multiplicative u s
unary_in additive u (spells.of_alternative grammar.add f s) = cc
unary_in additive u (spells.of_alternative grammar.subtract f s) = cc
unary_in multiplicative u (spells.of_chain grammar.binary_5 f s) = unary_in cast u s
unary_in multiplicative u (spells.of_alternative grammar.multiply f s) = cc
unary_in multiplicative u (spells.of_alternative grammar.divide f s) = cc
unary_in multiplicative u (spells.of_alternative grammar.remainder f s) = cc
unary_in cast u (spells.of_chain grammar.cast_unary f s) = s
unary_in cast u (spells.of_alternative grammar.cast f s) = cc
