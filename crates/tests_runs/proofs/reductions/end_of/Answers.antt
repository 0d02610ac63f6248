use Rattle.std.proofs.Common.{refl, subst}
use Rattle.cr_tokens.specs.Size.{size_of}
use Rattle.cr_tokens.specs.Tokens.{Tokenizes}
use Rattle.tests_runs.proofs.reductions.end_of.Goals as goal

pub reduce-end-requires-clause-tokenizes : goal.reduce-end-requires-clause-tokenizes
reduce-end-requires-clause-tokenizes g c = λ a b.
    let tokens = c.in-Ok._tokens.list.items in (
      size_of c.args.file.items tokens,
      record {
        tokens = tokens;
        tokenizes = subst (λ file. Tokenizes file tokens) c.deref.ensures.value c.in-Ok.ensures.list;
        is = refl;
      },
    )
