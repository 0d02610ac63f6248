-- The laws of declared identifiers.
use Rattle.std.proofs.Common.{refl, ap, arith}
use Rattle.cr_meaning_declarations.specs.Names.Laws
use Rattle.cr_meaning_declarations.proofs.NamesLemmas.First.{first_leaf}
use Rattle.cr_meaning_declarations.proofs.NamesLemmas.Leaves.{is_named, named_once}

pub first_declares_nothing : Laws.FirstDeclaresNothing
first_declares_nothing t unit listed = let x = first_leaf t unit listed in record { own = x.0; at = x.1.0; plain = x.1.1.1 }

pub tokens_are_declared_once : Laws.TokensAreDeclaredOnce
tokens_are_declared_once t unit listed one other n m here there is also first =
    let w = (unit.within other m there).0 in
    named_once t unit listed one other n m n.first here is refl there (ap is_named also) (omega (arith, first)) (omega (arith, first)) (omega (arith, first, w))
