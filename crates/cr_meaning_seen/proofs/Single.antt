-- Of a run there is one sight.
use Rattle.std.proofs.Common.{◌≡◌, refl, sym, ◌∙◌, ap, subst}
use Rattle.cr_meaning.specs.Language.{Acted, went, halts, Reply, gave, ended, Prog}
use Rattle.cr_meaning.specs.Meaning.{body as meaning}
use Rattle.cr_meaning_seen.specs.Laws
use Rattle.cr_meaning_seen.specs.Seen.{sight as c_sight, Sight, Seen, seen_give, seen_act, seen_halt, seen_call, seen_end}

module _ {G V W H T : Type 0} (body : G → Prog G V W H) (sight : Sight G V T) where
  abbrev Same : Reply V W H → Reply V W H → T → T → Type 0
  Same r other all found = (r ≡ other) × (all ≡ found)

  went_same : (v u : V) (t w : W) → (let a : Acted V W H = went v t in a) ≡ went u w → (v ≡ u) × (t ≡ w)
  went_same v u t w e = (cc, cc)

  halts_same : (h x : H) → (let a : Acted V W H = halts h in a) ≡ halts x → h ≡ x
  halts_same h x e = cc

  gave_same : (v u : V) (t w : W) → (let a : Reply V W H = gave v t in a) ≡ gave u w → (v ≡ u) × (t ≡ w)
  gave_same v u t w e = (cc, cc)

  pub one_sight : (p : Prog G V W H) (s : W) (r other : Reply V W H) (all found : T) → Seen body sight p s r all → Seen body sight p s other found → Same r other all found
  one_sight p s r other all found (seen_give e) (seen_give f) = (refl, e ∙ sym f)
  one_sight p s r other all found (seen_halt {h = h} e is) (seen_halt {h = x} f es) = (ap (λ (y : H). ended y) (halts_same h x (sym e ∙ f)), is ∙ sym es)
  one_sight p s r other all found (seen_halt {h = h} e is) (seen_act {t = t} {v = v} f run) = let bad : halts h ≡ went v t = sym e ∙ f in absurd cc
  one_sight p s r other all found (seen_act {t = t} {v = v} e run) (seen_halt {h = x} f es) = let bad : halts x ≡ went v t = sym f ∙ e in absurd cc
  one_sight p s r other all found (seen_act {k = k} {t = t} {v = v} e run) (seen_act {t = w} {v = u} f next) =
      let same = went_same v u t w (sym e ∙ f) in
      let A : V → Type 0 = λ x. Seen body sight (k x) w other found in
      let B : W → Type 0 = λ x. Seen body sight (k v) x other found in
      one_sight (k v) t r other all found run (subst B (sym same.1) (subst A (sym same.0) next))
  one_sight p s r other all found (seen_call {g = g} {k = k} {t = t} {v = v} {inner = inner} {more = more} first run e) (seen_call {t = w} {v = u} {inner = within} {more = rest} start next f) =
      let one = one_sight (body g) s (gave v t) (gave u w) inner within first start in
      let same = gave_same v u t w one.0 in
      let A : V → Type 0 = λ x. Seen body sight (k x) w other rest in
      let B : W → Type 0 = λ x. Seen body sight (k v) x other rest in
      let two = one_sight (k v) t r other more rest run (subst B (sym same.1) (subst A (sym same.0) next)) in
      (two.0, e ∙ (ap (λ x. sight.onto (sight.around g v inner) x) two.1 ∙ (ap (λ x. sight.onto (sight.around g v x) rest) one.1 ∙ (ap (λ x. sight.onto (sight.around g x within) rest) same.0 ∙ sym f))))
  one_sight p s r other all found (seen_call {g = g} {t = t} {v = v} {inner = inner} first run e) (seen_end {h = x} {inner = within} start f) =
      let one = one_sight (body g) s (gave v t) (ended x) inner within first start in let bad : gave v t ≡ ended x = one.0 in absurd cc
  one_sight p s r other all found (seen_end {g = g} {h = h} {inner = inner} first e) (seen_call {t = w} {v = u} {inner = within} start next f) =
      let one = one_sight (body g) s (ended h) (gave u w) inner within first start in let bad : ended h ≡ gave u w = one.0 in absurd cc
  one_sight p s r other all found (seen_end {g = g} {h = h} {inner = inner} first e) (seen_end {h = x} {inner = within} start f) =
      let one = one_sight (body g) s (ended h) (ended x) inner within first start in (one.0, e ∙ (ap (λ y. sight.cut g y) one.1 ∙ sym f))

pub sights_are_one : Laws.SightsAreOne
sights_are_one p program s r other forest found run next = one_sight (meaning p) c_sight program s r other forest found run next
