-- Answers, and what is kept of them.
use Rattle.std.proofs.Common.{◌≡◌, suc, Result, Ok, Err, List, [], ◌∷◌, ◌++◌, length, refl, sym, ap, ◌∙◌, subst}
use Rattle.std.specs.List.{AllZip}
use Rattle.cr_meaning.specs.World.{World, Answer, part, next}
use Rattle.cr_meaning.specs.Nodes.{Act, value_of, values, last_in}
use Rattle.cr_meaning.specs.Turns.{last_of}
use Rattle.cr_exec_slices.specs.Shown.{Worked, Joined}
use Rattle.cr_exec_slices.specs.declared.nodes.Halted.{Halted}
use Rattle.cr_exec_turns.specs.Held.{shows}
use Rattle.cr_exec_turns.specs.declared.held.Held.{Held}
use Rattle.cr_exec_turns.specs.declared.held.Held.TheVariants as held
use Rattle.cr_exec_statements.specs.Kept.{value_in, values_in, passing}

-- ---- lists of answers

pub same_count : (done : List Held) (answers : List Answer) → AllZip shows done answers → length answers ≡ length done
same_count [] [] z = refl
same_count [] (a ∷ answers) z = absurd z
same_count (h ∷ done) [] z = absurd z
same_count (h ∷ done) (a ∷ answers) z = ap suc (same_count done answers z.1)

-- ---- the last answer

never : (rest : List Held) (h : Held) → AllZip shows (rest ++ h ∷ []) [] → ⊥
never [] h z = z
never (k ∷ rest) h z = z

last_behind : (rest : List Held) (h : Held) (a : Answer) (answers : List Answer) → AllZip shows (rest ++ h ∷ []) (a ∷ answers) → shows h (last_of a answers)
last_behind [] h a [] z = z.0
last_behind [] h a (b ∷ answers) z = absurd z.1
last_behind (k ∷ rest) h a [] z = absurd (never rest h z.1)
last_behind (k ∷ rest) h a (b ∷ answers) z = last_behind rest h b answers z.1

pub last_shown : (done rest : List Held) (h : Held) (answers : List Answer) → done ≡ rest ++ h ∷ [] → AllZip shows done answers → shows h (last_in answers)
last_shown done rest h answers e z = of_all answers (subst (λ (hs : List Held). AllZip shows hs answers) e z)
  where
    of_all : (all : List Answer) → AllZip shows (rest ++ h ∷ []) all → shows h (last_in all)
    of_all [] y = absurd (never rest h y)
    of_all (a ∷ all) y = last_behind rest h a all y

-- ---- results

pub passing_joins : (act : Act) (r : Result (Unit {0}) Halted) (w : World) → Worked act r w → Joined shows act (passing r) w
passing_joins act (Ok done) w h = record { joins = record { answer = next; shown = refl; holds = h.works } }
passing_joins act (Err halted) w h = record { joins = h.works }

pub ending_joins : (act : Act) (halted : Halted) (w : World) → Worked act (Err halted) w → Joined shows act (Err halted) w
ending_joins act halted w h = record { joins = h.works }
