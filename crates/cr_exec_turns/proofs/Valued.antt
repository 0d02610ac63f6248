-- The values of answers, as they are kept.
use Rattle.std.proofs.Common.{◌≡◌, List, [], ◌∷◌, refl, sym, ap, ◌∙◌}
use Rattle.std.specs.List.{AllZip}
use Rattle.cr_meaning.specs.World.{Answer, part}
use Rattle.cr_meaning.specs.Nodes.{value_of, values}
use Rattle.cr_exec_turns.specs.declared.held.Held.{Held}
use Rattle.cr_exec_turns.specs.declared.held.Held.TheVariants as held
use Rattle.cr_exec_turns.specs.Held.{shows, value_in, values_in}

pub value_shown : (h : Held) (a : Answer) → shows h a → value_of a ≡ value_in h
value_shown (held.Part given) (part v events) s = sym s.0
value_shown (held.Part given) other s = absurd s
value_shown held.Next a s = ap value_of s
value_shown held.Broke a s = ap value_of s
value_shown held.Continued a s = ap value_of s
value_shown (held.Jumped label) a s = ap value_of s
value_shown (held.Returned v) a s = ap value_of s

pub values_shown : (done : List Held) (answers : List Answer) → AllZip shows done answers → values answers ≡ values_in done
values_shown [] [] z = refl
values_shown [] (a ∷ answers) z = absurd z
values_shown (h ∷ done) [] z = absurd z
values_shown (h ∷ done) (a ∷ answers) z =
    ap (λ v. v ∷ values answers) (value_shown h a z.0) ∙ ap (λ vs. value_in h ∷ vs) (values_shown done answers z.1)
