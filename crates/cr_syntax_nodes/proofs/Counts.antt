-- How many parts a right side has.
use Rattle.std.proofs.Common.{◌≡◌, ℕ, ◌+◌, List, [], ◌∷◌, Option, None, Some, length, refl, sym, subst, arith}
use Rattle.cr_syntax.specs.declared.node.Node.{Node}
use Rattle.cr_syntax.specs.declared.part.Part.{Part}
use Rattle.cr_syntax.specs.declared.part.Context.{Context}
use Rattle.cr_syntax.specs.Words.{Lexeme}
use Rattle.cr_syntax.specs.Scopes.{Scopes}
use Rattle.cr_syntax.specs.Trees.{Trees, none, node, ◌&◌}
use Rattle.cr_syntax.specs.Kept.{AreBelow, PartsAreBelow, row_in}
use Rattle.cr_syntax.specs.Grammar.{Side}
use Rattle.cr_syntax.specs.Spells.{Limit, Spells, a, rest}
use Rattle.cr_syntax.specs.Spells as spells
use Rattle.cr_syntax.proofs.Arena.{below_first, below_rest, row_at}
use Rattle.cr_syntax_nodes.specs.Nodes.{count, most, more, IsUpTo, IsCounted}
use Rattle.cr_syntax_nodes.proofs.Numbers.{some_at}

joined : (t u : Trees) → count (t & u) ≡ count u + count t
joined none u = omega arith
joined (node k i j p n) u = let e = joined n u in omega (arith, e)

-- the trees of a row are as many as its numbers
pub row_counted : (ns : List Node) → PartsAreBelow ns → (row : List ℕ) → AreBelow row (length ns) → count (row_in ns row) ≡ length row
row_counted ns f [] b = refl
row_counted ns f (p ∷ ps) b =
    let m = some_at ns p (below_first p ps (length ns) b) in
    let e = row_counted ns f ps (below_rest p ps (length ns) b) in
    subst (λ t. count t ≡ length (p ∷ ps)) (sym (row_at ns f p m.0 ps m.1)) (omega (arith, e))

-- a part is one tree
part_one : {ts : List Lexeme} {limit : Limit} {p : Part} {h : Context} {c e : Scopes} {d i j : ℕ} {t : Trees} → Spells ts limit (a p) h c e d t i j → count t ≡ 1
part_one (spells.of_alternative m f s) = refl
part_one (spells.of_chain m f s) = part_one s
part_one (spells.init_declarator_alone s) = part_one s
part_one (spells.parameter_declarator s) = part_one s
part_one (spells.member_declarator s) = part_one s

up_more : (o : Option ℕ) (n : ℕ) → IsUpTo o n → IsUpTo (more o) n
up_more None n x = tt
up_more (Some m) n x = omega (arith, x)

up_one : (o : Option ℕ) (n l : ℕ) → l ≡ n + 1 → IsUpTo o n → IsUpTo (more o) l
up_one None n l q x = tt
up_one (Some m) n l q x = omega (arith, q, x)

-- behind a part, and without one
with_part : {ts : List Lexeme} {limit : Limit} {p : Part} {h : Context} {c e : Scopes} {d i j : ℕ} {t : Trees} → Spells ts limit (a p) h c e d t i j → (u : Trees) → count (t & u) ≡ count u + 1
with_part {t = t} x u = let e = part_one x in let e' = joined t u in omega (arith, e, e')

pub counted : {ts : List Lexeme} {limit : Limit} {s : Side} {h : Context} {c e : Scopes} {d i j : ℕ} {t : Trees} → Spells ts limit (rest s) h c e d t i j → IsCounted s (count t)
counted spells.done = record { least = omega arith; most = omega arith }
counted (spells.token q w s) = let r = counted s in record { least = r.least; most = r.most }
counted (spells.opens q w s) = let r = counted s in record { least = r.least; most = r.most }
counted (spells.reopens q w v s) = let r = counted s in record { least = r.least; most = r.most }
counted (spells.tag_none q w s) = let r = counted s in record { least = r.least; most = r.most }
counted (spells.tag_some q w q' w' s) = let r = counted s in record { least = r.least; most = r.most }
counted (spells.comma_none q w s) = let r = counted s in record { least = r.least; most = r.most }
counted (spells.comma_some q w q' w' s) = let r = counted s in record { least = r.least; most = r.most }
counted (spells.ordinary q w s) = let r = counted s in record { least = r.least; most = r.most }
counted (spells.type_identifier q f w s) = let r = counted s in record { least = r.least; most = r.most }
counted (spells.declared q f w s) = let r = counted s in record { least = r.least; most = r.most }
counted (spells.enumerates q w s) = let r = counted s in record { least = r.least; most = r.most }
counted (spells.enters s) = let r = counted s in record { least = r.least; most = r.most }
counted (spells.begins s) = let r = counted s in record { least = r.least; most = r.most }
counted (spells.ends s) = let r = counted s in record { least = r.least; most = r.most }
counted (spells.optional_none {s = s0} s) = let r = counted s in record { least = r.least; most = up_more (most s0) 0 r.most }
counted (spells.value_none {s = s0} s) = let r = counted s in record { least = r.least; most = up_more (most s0) 0 r.most }
counted (spells.prototype_none {s = s0} s) = let r = counted s in record { least = r.least; most = up_more (most s0) 0 r.most }
counted (spells.size_none {s = s0} s) = let r = counted s in record { least = r.least; most = up_more (most s0) 0 r.most }
counted (spells.else_none {s = s0} s) = let r = counted s in record { least = r.least; most = up_more (most s0) 0 r.most }
counted (spells.list_none s) = let r = counted s in record { least = r.least; most = tt }
counted (spells.many_none s) = let r = counted s in record { least = r.least; most = tt }
counted (spells.clause_none {s = s0} {t = t} q w s) = let r = counted s in record { least = r.least; most = up_more (most s0) (count t) r.most }
counted (spells.step_none {s = s0} {t = t} q w v s) = let r = counted s in record { least = r.least; most = up_more (most s0) (count t) r.most }
counted (spells.part {s = s0} {u = u} x s) = let r = counted s in let n = with_part x u in record { least = omega (arith, n, r.least); most = up_one (most s0) _ _ n r.most }
counted (spells.optional_some {s = s0} {u = u} x s) = let r = counted s in let n = with_part x u in record { least = omega (arith, n, r.least); most = up_one (most s0) _ _ n r.most }
counted (spells.value_some {s = s0} {u = u} q w x s) = let r = counted s in let n = with_part x u in record { least = omega (arith, n, r.least); most = up_one (most s0) _ _ n r.most }
counted (spells.prototype_some {s = s0} {u = u} x s) = let r = counted s in let n = with_part x u in record { least = omega (arith, n, r.least); most = up_one (most s0) _ _ n r.most }
counted (spells.size_some {s = s0} {u = u} x s) = let r = counted s in let n = with_part x u in record { least = omega (arith, n, r.least); most = up_one (most s0) _ _ n r.most }
counted (spells.init_declaration {s = s0} {u = u} x s) = let r = counted s in let n = with_part x u in record { least = omega (arith, n, r.least); most = up_one (most s0) _ _ n r.most }
counted (spells.clause_some {s = s0} {u = u} x q w s) = let r = counted s in let n = with_part x u in record { least = omega (arith, n, r.least); most = up_one (most s0) _ _ n r.most }
counted (spells.step_some {s = s0} {u = u} x q w v s) = let r = counted s in let n = with_part x u in record { least = omega (arith, n, r.least); most = up_one (most s0) _ _ n r.most }
counted (spells.else_some {s = s0} {u = u} q w x s) = let r = counted s in let n = with_part x u in record { least = omega (arith, n, r.least); most = up_one (most s0) _ _ n r.most }
counted (spells.many_more {u = u} x s) = let r = counted s in let n = with_part x u in record { least = omega (arith, n, r.least); most = tt }
counted (spells.list_last x s) = let r = counted s in let n = part_one x in record { least = omega (arith, n, r.least); most = tt }
counted (spells.list_more {u = u} x q w s) = let r = counted s in let n = with_part x u in record { least = omega (arith, n, r.least); most = tt }
counted (spells.list_some s) = let r = counted s in record { least = omega (arith, r.least); most = tt }
counted (spells.init_clause s) = let r = counted s in record { least = r.least; most = r.most }
counted (spells.qualified k x) = let n = part_one x in record { least = omega (arith, n); most = omega (arith, n) }
counted (spells.qualified_none k) = record { least = omega arith; most = omega arith }
counted (spells.qualified_some k x) = let n = part_one x in record { least = omega arith; most = omega (arith, n) }
counted (spells.texts_one q w) = record { least = omega arith; most = omega arith }
counted (spells.texts_more q w s) = record { least = omega arith; most = omega arith }
