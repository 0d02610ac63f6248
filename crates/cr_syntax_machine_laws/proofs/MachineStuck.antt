-- A text that the machine refuses and another one with the same tokens before: where no test lets the other text's token
-- at that place pass with room for it, the machine reads no tree there.
use Rattle.std.proofs.Common.{◌≡◌, ℕ, ◌<◌, ◌≤◌, Bool, true, false, List, refl, sym, subst, ◌∙◌, arith, inl, inr}
use Rattle.std.specs.Prelude.{slice_get}
use Rattle.std.proofs.Math.Nat.{eq-or-lt_of_le}
use Rattle.std.proofs.lemmas.Bool.{both_ways, or_cases}
use Rattle.cr_syntax.specs.declared.word.Word.{Word}
use Rattle.cr_syntax.specs.declared.word.Word.TheVariants as word
use Rattle.cr_syntax.specs.Words.{Lexeme}
use Rattle.cr_syntax.specs.Scopes.{Scopes, enter}
use Rattle.cr_syntax.specs.Trees.{Trees}
use Rattle.cr_syntax.specs.Spells.{Limit, Is}
use Rattle.cr_syntax.specs.Units.{StandsIn}
use Rattle.cr_syntax_machine.specs.Machine.{Prog, Manner, Test, the, Done, Runs, Allows, passes, levels_at, run_give, run_take, run_pass, run_free, run_seen, run_unseen, run_yes, run_no, run_here, run_look, run_set, run_bring, run_call}
use Rattle.cr_syntax_machine.specs.MachineBody.{body}
use Rattle.cr_syntax_machine_laws.proofs.MachineFirst.{none_true, true_false, yes}
use Rattle.cr_syntax_machine_laws.proofs.MachineRuns.{reach, again, passes_same, brought_same}
use Rattle.cr_syntax_machine_laws.proofs.MachineEnds.{Way, stopped, barring, crowded, naming, Ends, end_stop, end_refuse, end_take, end_crowded, end_pass, end_bar, end_free, end_seen, end_unseen, end_yes, end_no, end_here, end_look, end_set, end_bring, end_behind, end_inside, refused_so}
use Rattle.cr_syntax_machine_laws.proofs.MachineSteady.{enters_low, levels_in, levels_out, fits, tries, IsEager, eager, Finds, finds, Replaced, by_none, by_trial, by_take, Goes, steady}
use Rattle.cr_syntax_machine_laws.proofs.MachineRows.{knows, beyond_done}

-- the levels where a run is refused
abbrev pub levels_by : Way → ℕ
levels_by (stopped d) = d
levels_by (barring x n d) = d
levels_by crowded = 0
levels_by (naming n r) = 0

-- whether only room was wanting for a token
abbrev pub is_crowded : Way → Bool
is_crowded crowded = true
is_crowded _ = false

end_reach : {ts : List Lexeme} {limit : Limit} {p : Prog} {c : Scopes} {i k : ℕ} {w : Way} → Ends body ts limit p c i w k → i ≤ k
end_reach z = reach (refused_so z)

module _ {ts : List Lexeme} {limit : Limit} (floor : ℕ) where
  -- Where a program answers at its first token, its last level is no higher than the first one.
  low_done : (l b : ℕ) (o : Bool) {p : Prog} {c e : Scopes} {i j : ℕ} {t : Trees} → Runs body ts limit p c i (Done t e j) → j ≤ i → Goes ts floor p l b o c i → l ≤ b
  low_done l b o run_give le y = y
  low_done l b o (run_take x a h) le y = let n = reach h in absurd (omega arith)
  low_done l b o (run_pass x h) le y = let n = low_done l _ _ h le y.3 in let n' = y.0 in omega arith
  low_done l b o (run_free x h) le y = low_done l _ _ h le y.2
  low_done l b o (run_seen x h) le y = low_done l _ _ h le y.2
  low_done l b o (run_unseen x h) le y = low_done l _ _ h le y.3
  low_done l b o (run_yes x h) le y = low_done l _ _ h le (y.0 x)
  low_done l b o (run_no x h) le y = low_done l _ _ h le (y.1 x)
  low_done l b o (run_here h) le y = low_done l _ _ h le y
  low_done l b o (run_look h) le y = low_done l _ _ h le y
  low_done l b o (run_set h) le y = low_done l _ _ h le y
  low_done l b o (run_bring h) le y = low_done l _ _ h le y
  low_done l b o {c = c} {i = i} (run_call {g = g} h k) le y =
      let n = reach h in
      let n' = reach k in
      let v = low_done l _ _ k (omega arith) (y.1 _ _ _ (knows g c _ i _ _ h)) in
      let v' = low_done (levels_out g) (levels_in g) false h (omega arith) (steady ts floor g c i b y.0) in
      let v'' = enters_low floor g b y.0 in
      omega arith

  low_end : (l b : ℕ) (o : Bool) {p : Prog} {c : Scopes} {i k : ℕ} {w : Way} → Ends body ts limit p c i w k → k ≤ i → Goes ts floor p l b o c i → levels_by w ≤ b
  low_end l b o end_stop le y = y
  low_end l b o end_refuse le y = absurd y
  low_end l b o (end_take x a z) le y = let n = end_reach z in absurd (omega arith)
  low_end l b o (end_crowded x a) le y = omega arith
  low_end l b o (end_pass x z) le y = let n = low_end l _ _ z le y.3 in let n' = y.0 in omega arith
  low_end l b o (end_bar x) le y = y.0
  low_end l b o (end_free x z) le y = low_end l _ _ z le y.2
  low_end l b o (end_seen x z) le y = low_end l _ _ z le y.2
  low_end l b o (end_unseen x z) le y = low_end l _ _ z le y.3
  low_end l b o (end_yes x z) le y = low_end l _ _ z le (y.0 x)
  low_end l b o (end_no x z) le y = low_end l _ _ z le (y.1 x)
  low_end l b o (end_here z) le y = low_end l _ _ z le y
  low_end l b o (end_look z) le y = low_end l _ _ z le y
  low_end l b o (end_set z) le y = low_end l _ _ z le y
  low_end l b o (end_bring z) le y = low_end l _ _ z le y
  low_end l b o {c = c} {i = i} (end_behind {g = g} h z) le y =
      let n = reach h in
      let n' = end_reach z in
      let v = low_end l _ _ z (omega arith) (y.1 _ _ _ (knows g c _ i _ _ h)) in
      let v' = low_done (levels_out g) (levels_in g) false h (omega arith) (steady ts floor g c i b y.0) in
      let v'' = enters_low floor g b y.0 in
      omega arith
  low_end l b o {c = c} {i = i} (end_inside {g = g} z) le y = let v = low_end (levels_out g) (levels_in g) false z le (steady ts floor g c i b y.0) in let v' = enters_low floor g b y.0 in omega arith

  -- A program that finds its first token goes on behind it, where it isn't refused there for want of room.
  beyond_end : {p : Prog} {c : Scopes} {i k : ℕ} {w : Way} → Ends body ts limit p c i w k → is_crowded w ≡ false → Finds ts p c i → i < k
  beyond_end end_stop q y = absurd y
  beyond_end end_refuse q y = absurd y
  beyond_end (end_take x a z) q y = let n = end_reach z in omega arith
  beyond_end (end_crowded x a) q y = true_false q
  beyond_end (end_pass x z) q y = beyond_end z q (y x)
  beyond_end (end_bar x) q y = absurd (both_ways _ y.0 x)
  beyond_end (end_free x z) q y = beyond_end z q y.1
  beyond_end (end_seen x z) q y = beyond_end z q (y.0 x)
  beyond_end (end_unseen x z) q y = beyond_end z q (y.1 x)
  beyond_end (end_yes x z) q y = beyond_end z q (y.0 x)
  beyond_end (end_no x z) q y = beyond_end z q (y.1 x)
  beyond_end (end_here z) q y = beyond_end z q y
  beyond_end (end_look z) q y = beyond_end z q y
  beyond_end (end_set z) q y = beyond_end z q y
  beyond_end (end_bring z) q y = beyond_end z q y
  beyond_end {c = c} {i = i} (end_behind {g = g} h z) q y = let n = beyond_done h (finds ts g c i y) in let n' = end_reach z in omega arith
  beyond_end {c = c} {i = i} (end_inside {g = g} z) q y = beyond_end z q (finds ts g c i y)

-- a test of `[` that a token doesn't pass
not_tried : (us : List Lexeme) (c : Scopes) (i : ℕ) (x : Test) → tries x ≡ true → passes us c i x ≡ false → Is us i word.LeftBracket → ⊥
not_tried us c i (the word.LeftBracket) q n z = both_ways _ n (yes z)
not_tried us c i _ q n z = none_true q

-- a bracket that stands at token k in the place of a refused one
pub record Stand (us : List Lexeme) (k n : ℕ) : Type 0 where
  pub word : Word
  pub stands : StandsIn n word
  pub is : Is us k word

-- The other text, its limit, and the levels from which on there is no room at token k.
module _ (ts us : List Lexeme) (limit top : Limit) (k floor m : ℕ) (high : floor ≤ m) (alike : (n : ℕ) → n < k → slice_get us n ≡ slice_get ts n)
    (block : (g : Manner) (x : Test) (d : ℕ) (c : Scopes) (i : ℕ) → i ≡ k → m ≤ levels_at g d → fits g x ≡ true → passes us c i x ≡ true → Allows top g i d → ⊥) where
  -- where a test says two things of the texts, it is asked at token k
  at_last : (c : Scopes) (i : ℕ) (x : Test) {b b' : Bool} → i ≤ k → passes ts c i x ≡ b → passes us c i x ≡ b' → (b ≡ b' → ⊥) → i ≡ k
  at_last c i x le q q' f = elim (eq-or-lt_of_le {n = i} {m = k} le) [ inl e ↦ e | inr lt ↦ absurd (f (sym q ∙ sym (passes_same ts us i (alike i lt) c x) ∙ q')) ]

  -- a program that must consume token k gives nothing
  gives_none : {p : Prog} {c e : Scopes} {i j b : ℕ} {t : Trees} → Runs body us top p c i (Done t e j) → i ≡ k → m ≤ b → IsEager b p → ⊥
  gives_none run_give q le y = y
  gives_none {c = c} {i = i} (run_take {m = g} {x = x} {d = d} n a h) q le y = let v = y.0 in block g x d c i q (omega arith) y.1 n a
  gives_none (run_pass n h) q le y = gives_none h q le y.2
  gives_none (run_free n h) q le y = gives_none h q le y
  gives_none (run_seen n h) q le y = gives_none h q le y.0
  gives_none (run_unseen n h) q le y = gives_none h q le y.1
  gives_none (run_yes n h) q le y = gives_none h q le (y.0 n)
  gives_none (run_no n h) q le y = gives_none h q le (y.1 n)
  gives_none {i = i} (run_here h) q le y = gives_none h q le (y i)
  gives_none {c = c} (run_look h) q le y = gives_none h q le (y c)
  gives_none (run_set h) q le y = gives_none h q le y
  gives_none (run_bring h) q le y = gives_none h q le y
  gives_none (run_call {g = g} h h') q le y = let v = y.1 in gives_none h q (omega arith) (eager g y.0)

  -- what is read in one text up to token k is read in the other, or nothing is
  pub same_done : (l b : ℕ) (o : Bool) {p : Prog} {c e f : Scopes} {i j n : ℕ} {t u : Trees} → Runs body ts limit p c i (Done t e j) → Runs body us top p c i (Done u f n) → Goes ts floor p l b o c i → j ≤ k → (j ≡ k → m ≤ l) → Done t e j ≡ Done u f n
  same_done l b o run_give run_give y le z = refl
  same_done l b o (run_take x a h) (run_take x' a' h') y le z = same_done l _ _ h h' y.2 le z
  same_done l b o {c = c} {i = i} (run_take {x = x} v a h) (run_pass v' h') y le z =
      let n = reach h in
      let q = at_last c i x (omega arith) v v' (λ q. true_false q) in
      absurd (omega arith)
  same_done l b o {c = c} {i = i} (run_pass {m = g} {x = x} {d = d} v h) (run_take v' a' h') y le z =
      let n = reach h in
      let q = at_last c i x (omega arith) v v' (λ q. true_false (sym q)) in
      let lt : m ≤ l = z (omega arith) in
      let lt' = low_done floor l _ _ h (omega arith) y.3 in
      absurd (block g x d c i q (omega arith) y.1 v' a')
  same_done l b o (run_pass x h) (run_pass x' h') y le z = same_done l _ _ h h' y.3 le z
  same_done l b o (run_free x h) (run_free x' h') y le z = same_done l _ _ h h' y.2 le z
  same_done l b o (run_seen x h) (run_seen x' h') y le z = same_done l _ _ h h' y.2 le z
  same_done l b o {c = c} {i = i} (run_seen {x = x} v h) (run_unseen v' h') y le z =
      let n = reach h in
      let q = at_last c i x (omega arith) v v' (λ q. true_false q) in
      elim y.1 [
        | inl f ↦ (let n' = beyond_done h (f v) in absurd (omega arith))
        | inr lt ↦ (let lt' : m ≤ l = z (omega arith) in let lt'' = low_done floor l _ _ h (omega arith) y.2 in absurd (omega arith))
      ]
  same_done l b o {c = c} {i = i} (run_unseen {x = x} v h) (run_seen v' h') y le z =
      let n = reach h in
      let q = at_last c i x (omega arith) v v' (λ q. true_false (sym q)) in
      let lt : m ≤ l = z (omega arith) in
      let lt' = low_done floor l _ _ h (omega arith) y.3 in
      absurd (gives_none h' q (omega arith) y.0)
  same_done l b o (run_unseen x h) (run_unseen x' h') y le z = same_done l _ _ h h' y.3 le z
  same_done l b o (run_yes x h) (run_yes x' h') y le z = same_done l _ _ h h' (y.0 x) le z
  same_done l b o (run_yes x h) (run_no x' h') y le z = absurd (both_ways _ x' x)
  same_done l b o (run_no x h) (run_yes x' h') y le z = absurd (both_ways _ x x')
  same_done l b o (run_no x h) (run_no x' h') y le z = same_done l _ _ h h' (y.1 x) le z
  same_done l b o (run_here h) (run_here h') y le z = same_done l _ _ h h' y le z
  same_done l b o (run_look h) (run_look h') y le z = same_done l _ _ h h' y le z
  same_done l b o (run_set h) (run_set h') y le z = same_done l _ _ h h' y le z
  same_done l b o {c = c} {f = f} {i = i} {n = n'} {u = u} (run_bring {k = a} {b = type} {p = p} h) (run_bring h') y le z =
      let n = reach h in
      same_done l _ _ h (subst (λ v. Runs body us top p (enter v c) i (Done u f n')) (brought_same ts us i a type (λ w lt. alike w (omega arith))) h') y le z
  same_done l b o {c = c} {f = f} {i = i} {j = j} {n = n'} {u = u} (run_call {g = g} {f = p} {t = x} {e = e'} {j = j'} h h1) (run_call h' h1') y le z =
      let n = reach h in
      let n1 = reach h1 in
      let w = y.1 x e' j' (knows g c e' i j' x h) in
      let q = same_done (levels_out g) (levels_in g) false h h' (steady ts floor g c i b y.0) (omega arith) (λ q. by j' (omega arith) q w h1) in
      same_done l _ _ h1 (again (λ t e j. Runs body us top (p t) e j (Done u f n')) q h1') w le z
    where
      by : (j' : ℕ) → j' ≤ j → j' ≡ k → {q : Prog} {d e' : Scopes} {v : Trees} → Goes ts floor q l (levels_out g) false d j' → Runs body ts limit q d j' (Done v e' j) → m ≤ levels_out g
      by j' le' q w h1 =
          let lt : m ≤ l = z (omega arith) in
          let lt' = low_done floor l (levels_out g) false h1 (omega arith) w in
          omega arith

  -- where one text is refused at token k, with so many levels or more, nothing is read in the other
  pub stuck : (l b : ℕ) (o : Bool) {p : Prog} {c f : Scopes} {i k' n : ℕ} {w : Way} {u : Trees} → Ends body ts limit p c i w k' → Runs body us top p c i (Done u f n) → k' ≡ k → Goes ts floor p l b o c i → is_crowded w ≡ false → m ≤ levels_by w →
      ((x : Test) (n d : ℕ) → w ≡ barring x n d → Stand us k n) → (o ≡ true → i ≡ k → Is us k word.LeftBracket → ⊥) → ⊥
  stuck l b o end_stop h' e y cr le st inv = elim h' [ ]
  stuck l b o end_refuse h' e y cr le st inv = absurd y
  stuck l b o (end_take x a z) (run_take x' a' h') e y cr le st inv = stuck l _ _ z h' e y.2 cr le st (λ q. none_true q)
  stuck l b o {c = c} {i = i} (end_take {x = x} v a z) (run_pass v' h') e y cr le st inv =
      let n = end_reach z in
      let q = at_last c i x (omega arith) v v' (λ q. true_false q) in
      absurd (omega arith)
  stuck l b o (end_crowded x a) h' e y cr le st inv = true_false cr
  stuck l b o {c = c} {i = i} (end_pass {g = g} {x = x} {d = d} v z) (run_take v' a' h') e y cr le st inv =
      let n = end_reach z in
      let q = at_last c i x (omega arith) v v' (λ q. true_false (sym q)) in
      let lt = low_end floor l _ _ z (omega arith) y.3 in
      block g x d c i q (omega arith) y.1 v' a'
  stuck l b o {c = c} {i = i} (end_pass {x = x} v z) (run_pass v' h') e y cr le st inv =
      stuck l _ _ z h' e y.3 cr le st (λ q e' s. elim (or_cases (tries x) o q) [ inl a ↦ not_tried us c i x a v' (subst (λ j. Is us j word.LeftBracket) (sym e') s) | inr a ↦ inv a e' s ])
  stuck l b o {k' = k'} (end_bar {x = x} {n = n} {d = d} {p = p} v) (run_free v' h') e y cr le st inv = by (st x n d refl) y.1
    where
      by : Stand us k n → Replaced n d o p → ⊥
      by s (by_none f) = f s.word s.stands
      by s (by_trial f q) = inv q e (subst (λ v. Is us k v) (f s.word s.stands) s.is)
      by s (by_take q) = gives_none h' e le q
  stuck l b o (end_free x z) (run_free x' h') e y cr le st inv = stuck l _ _ z h' e y.2 cr le st inv
  stuck l b o (end_seen x z) (run_seen x' h') e y cr le st inv = stuck l _ _ z h' e y.2 cr le st inv
  stuck l b o {c = c} {i = i} (end_seen {x = x} v z) (run_unseen v' h') e y cr le st inv =
      let n = end_reach z in
      let q = at_last c i x (omega arith) v v' (λ q. true_false q) in
      elim y.1 [
        | inl f ↦ (let n' = beyond_end floor z cr (f v) in absurd (omega arith))
        | inr lt ↦ (let lt' = low_end floor l _ _ z (omega arith) y.2 in absurd (omega arith))
      ]
  stuck l b o {c = c} {i = i} (end_unseen {x = x} v z) (run_seen v' h') e y cr le st inv =
      let n = end_reach z in
      let q = at_last c i x (omega arith) v v' (λ q. true_false (sym q)) in
      let lt = low_end floor l _ _ z (omega arith) y.3 in
      gives_none h' q (omega arith) y.0
  stuck l b o (end_unseen x z) (run_unseen x' h') e y cr le st inv = stuck l _ _ z h' e y.3 cr le st inv
  stuck l b o (end_yes x z) (run_yes x' h') e y cr le st inv = stuck l _ _ z h' e (y.0 x) cr le st inv
  stuck l b o (end_yes x z) (run_no x' h') e y cr le st inv = both_ways _ x' x
  stuck l b o (end_no x z) (run_yes x' h') e y cr le st inv = both_ways _ x x'
  stuck l b o (end_no x z) (run_no x' h') e y cr le st inv = stuck l _ _ z h' e (y.1 x) cr le st inv
  stuck l b o (end_here z) (run_here h') e y cr le st inv = stuck l _ _ z h' e y cr le st inv
  stuck l b o (end_look z) (run_look h') e y cr le st inv = stuck l _ _ z h' e y cr le st inv
  stuck l b o (end_set z) (run_set h') e y cr le st inv = stuck l _ _ z h' e y cr le st inv
  stuck l b o {c = c} {f = f} {i = i} {n = n'} {u = u} (end_bring {n = a} {b = type} {p = p} z) (run_bring h') e y cr le st inv =
      let n = end_reach z in
      stuck l _ _ z (subst (λ v. Runs body us top p (enter v c) i (Done u f n')) (brought_same ts us i a type (λ w lt. alike w (omega arith))) h') e y cr le st inv
  stuck l b o {c = c} {f = f} {i = i} {k' = k'} {n = n'} {w = w} {u = u} (end_behind {g = g} {f = p} {t = x} {e = e'} {j = j'} h z) (run_call h' h1') e y cr le st inv =
      let n = reach h in
      let n1 = end_reach z in
      let v = y.1 x e' j' (knows g c e' i j' x h) in
      let q = same_done (levels_out g) (levels_in g) false h h' (steady ts floor g c i b y.0) (omega arith) (λ q. by j' q v z) in
      stuck l _ _ z (again (λ t e j. Runs body us top (p t) e j (Done u f n')) q h1') e v cr le st (λ q. none_true q)
    where
      by : (j' : ℕ) → j' ≡ k → {q : Prog} {d : Scopes} → Goes ts floor q l (levels_out g) false d j' → Ends body ts limit q d j' w k' → m ≤ levels_out g
      by j' q v z = let lt = low_end floor l (levels_out g) false z (omega arith) v in omega arith
  stuck l b o {c = c} {i = i} (end_inside {g = g} z) (run_call h' h1') e y cr le st inv = stuck (levels_out g) (levels_in g) false z h' e (steady ts floor g c i b y.0) cr le st (λ q. none_true q)
