-- How many scopes are open behind what is spelled: a declarator with a name opens one, and no other part closes one that
-- was open before it.
use Rattle.std.proofs.Common.{◌≡◌, ℕ, ◌+◌, ◌≤◌, false, List, [], ◌∷◌, length, refl, arith}
use Rattle.cr_syntax.specs.declared.node.Kind.{Kind}
use Rattle.cr_syntax.specs.declared.part.Part.{Part}
use Rattle.cr_syntax.specs.declared.part.Part.TheVariants as part
use Rattle.cr_syntax.specs.Symbols as symbol
use Rattle.cr_syntax.specs.declared.part.Context.{Context}
use Rattle.cr_syntax.specs.Words.{Lexeme, spelling_at}
use Rattle.cr_syntax.specs.Scopes.{Scopes}
use Rattle.cr_syntax.specs.Trees.{Trees}
use Rattle.cr_syntax.specs.Context.{past_part, declared_name}
use Rattle.cr_syntax.specs.Grammar.{Side, Alternative, Chain}
use Rattle.cr_syntax.specs.Grammar as grammar
use Rattle.cr_syntax.specs.Spells.{Limit, Phrase, Spells, a, rest}
use Rattle.cr_syntax.specs.Spells as spells
use Rattle.cr_syntax_machine_laws.proofs.MachineKept.{entered_more}

-- the scopes that a part leaves open
abbrev opened : Part → ℕ
opened part.Declarator = 1
opened part.DirectDeclarator = 1
opened _ = 0

-- those that a right side begins at the least, and those that it ends
abbrev begun : Side → ℕ
begun [] = 0
begun (symbol.Part l p ∷ s) = begun s + opened p
begun (symbol.Qualified p ∷ s) = begun s + opened p
begun (symbol.Declared ∷ s) = begun s + 1
begun (symbol.Begins ∷ s) = begun s + 1
begun (x ∷ s) = begun s

abbrev ended : Side → ℕ
ended [] = 0
ended (symbol.Ends ∷ s) = ended s + 1
ended (x ∷ s) = ended s

abbrev gained : Phrase → ℕ
gained (a p) = opened p
gained (rest s) = begun s

abbrev lost : Phrase → ℕ
lost (a p) = 0
lost (rest s) = ended s

alternative_even : {p : Part} {k : Kind} {s : Side} → Alternative p k s → begun s ≡ ended s + opened p
alternative_even grammar.function_definition = refl
alternative_even _ = refl

chain_even : {p q : Part} → Chain p q → opened q ≡ opened p
chain_even grammar.external_declaration = refl
chain_even _ = refl

scopes_count : {ts : List Lexeme} {limit : Limit} {p : Phrase} {h : Context} {c e : Scopes} {d i j : ℕ} {t : Trees} → Spells ts limit p h c e d t i j → length c + gained p ≤ length e + lost p
scopes_count (spells.of_alternative x f z) = let n = scopes_count z in let m = alternative_even x in omega arith
scopes_count (spells.of_chain x f z) = let n = scopes_count z in let m = chain_even x in omega arith
scopes_count {ts = ts} {c = c} (spells.init_declarator_alone {h = h} {e = e} {t = t} z) = let n = scopes_count z in let m = entered_more (length c) (declared_name ts (past_part h t)) e (omega arith) in omega arith
scopes_count {ts = ts} {c = c} (spells.parameter_declarator {h = h} {e = e} {t = t} z) = let n = scopes_count z in let m = entered_more (length c) (declared_name ts (past_part h t)) e (omega arith) in omega arith
scopes_count (spells.member_declarator z) = let n = scopes_count z in omega arith
scopes_count spells.done = omega arith
scopes_count (spells.token x w z) = let n = scopes_count z in omega arith
scopes_count (spells.opens x w z) = let n = scopes_count z in omega arith
scopes_count (spells.reopens x w v z) = let n = scopes_count z in omega arith
scopes_count (spells.part x z) = let n = scopes_count x in let m = scopes_count z in omega arith
scopes_count (spells.optional_none z) = let n = scopes_count z in omega arith
scopes_count (spells.optional_some x z) = let n = scopes_count x in let m = scopes_count z in omega arith
scopes_count (spells.many_none z) = let n = scopes_count z in omega arith
scopes_count (spells.many_more x z) = let n = scopes_count x in let m = scopes_count z in omega arith
scopes_count (spells.list_last x z) = let n = scopes_count x in let m = scopes_count z in omega arith
scopes_count (spells.list_more x y w z) = let n = scopes_count x in let m = scopes_count z in omega arith
scopes_count (spells.list_none z) = let n = scopes_count z in omega arith
scopes_count (spells.list_some z) = let n = scopes_count z in omega arith
scopes_count (spells.tag_none x w z) = let n = scopes_count z in omega arith
scopes_count (spells.tag_some x w x' w' z) = let n = scopes_count z in omega arith
scopes_count (spells.comma_none x w z) = let n = scopes_count z in omega arith
scopes_count (spells.comma_some x w x' w' z) = let n = scopes_count z in omega arith
scopes_count (spells.qualified k z) = let n = scopes_count z in omega arith
scopes_count (spells.qualified_none k) = omega arith
scopes_count (spells.qualified_some k z) = let n = scopes_count z in omega arith
scopes_count (spells.ordinary x w z) = let n = scopes_count z in omega arith
scopes_count (spells.type_identifier x f w z) = let n = scopes_count z in omega arith
scopes_count (spells.declared x f w z) = let n = scopes_count z in omega arith
scopes_count {ts = ts} {c = c} {i = i} (spells.enumerates {s = s} {e = e} x w z) =
    let n = scopes_count z in
    let m = entered_more (length e) (record { name = spelling_at ts i; is_type = false }) e (omega arith) in
    omega arith
scopes_count (spells.value_none z) = let n = scopes_count z in omega arith
scopes_count (spells.value_some x w y z) = let n = scopes_count y in let m = scopes_count z in omega arith
scopes_count {ts = ts} (spells.enters {h = h} {c = c} z) = let n = scopes_count z in let m = entered_more (length c) (declared_name ts h) c (omega arith) in omega arith
scopes_count (spells.begins z) = let n = scopes_count z in omega arith
scopes_count (spells.ends z) = let n = scopes_count z in omega arith
scopes_count (spells.prototype_none z) = let n = scopes_count z in omega arith
scopes_count (spells.prototype_some x z) = let n = scopes_count x in let m = scopes_count z in omega arith
scopes_count (spells.size_none z) = let n = scopes_count z in omega arith
scopes_count (spells.size_some x z) = let n = scopes_count x in let m = scopes_count z in omega arith
scopes_count (spells.texts_one x w) = omega arith
scopes_count (spells.texts_more x w z) = omega arith
scopes_count (spells.init_declaration x z) = let n = scopes_count x in let m = scopes_count z in omega arith
scopes_count (spells.init_clause z) = let n = scopes_count z in omega arith
scopes_count (spells.clause_none x w z) = let n = scopes_count z in omega arith
scopes_count (spells.clause_some y x w z) = let n = scopes_count y in let m = scopes_count z in omega arith
scopes_count (spells.step_none x w v z) = let n = scopes_count z in omega arith
scopes_count (spells.step_some y x w v z) = let n = scopes_count y in let m = scopes_count z in omega arith
scopes_count (spells.else_none z) = let n = scopes_count z in omega arith
scopes_count (spells.else_some x w y z) = let n = scopes_count y in let m = scopes_count z in omega arith

-- as many scopes are open behind a part as before it
pub scopes_kept : {ts : List Lexeme} {limit : Limit} {p : Part} {h : Context} {c e : Scopes} {d i j : ℕ} {t : Trees} → Spells ts limit (a p) h c e d t i j → length c ≤ length e
scopes_kept z = let n = scopes_count z in omega arith
