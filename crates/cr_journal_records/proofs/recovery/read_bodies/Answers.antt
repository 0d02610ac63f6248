use Rattle.std.proofs.Common.{◌≡◌, ◌+◌, ◌*◌, ◌∷◌, ◌++◌, [], List, ℕ, Vec, Ok, Some, None, length, map, refl, sym, ◌∙◌, ap, subst, arith, length-append}
use Rattle.std.proofs.lemmas.List.{map-append}
use Rattle.std.specs.declared.alloc.Global.{Global}
use Rattle.cr_journal_records.specs.Records.{Body}
use Rattle.cr_outside_disk.specs.Moments.{HasLength}
use Rattle.cr_journal_records.specs.Reading.{ShutAt, OpenAt, bodies_of}
use Rattle.cr_journal_records.proofs.Readings.{IsReadTo, nothing_read, open_next, ended_shut, ended_short}
use Rattle.cr_journal_records.proofs.recovery.read_bodies.Goals as goal

pub loop-at-init : goal.loop-at-init
loop-at-init g c = record {
  told = refl;
  ready = c.requires.ready;
  size = refl;
  later = omega arith;
  within = omega arith;
  counts = omega (arith, c.new-bodies.ensures.len);
  behind = λ some. absurd (some c.new-bodies.ensures.items);
  so_far = subst (λ (l : List Body). IsReadTo (g.D.Outside.story c.args.disk.now) 0 l) (ap bodies_of (sym c.new-bodies.ensures.items)) (nothing_read (g.D.Outside.story c.args.disk.now));
}

pub returns-in_default-clause-read : goal.returns-in_default-clause-read
returns-in_default-clause-read g c =
    ended_shut _ c.loop-at.at (bodies_of c.loop-at.bodies.items) c.loop-at.invariant.so_far
    (subst (λ told. ShutAt told c.loop-at.at) c.loop-at.invariant.told (c.read_record.ensures.shut (c.in_ok-body.was ∙ ap Ok c.in_default.is)))

pub returns-clause-read : goal.returns-clause-read
returns-clause-read g c =
    ended_short _ c.loop-at.at c.args.len (bodies_of c.loop-at.bodies.items) c.loop-at.invariant.so_far
    (subst (λ n. HasLength (g.D.Outside.story c.args.disk.now) n) c.requires.size (g.met.D.Disk.has_length c.args.disk.now c.requires.ready)) (omega (arith, c.loop-at-test.false))

pub loop-at-preserved : goal.loop-at-preserved
loop-at-preserved g c =
    let body = c.in-Some.body in
    let found = c.read_record.ensures.opens body (c.in_ok-body.was ∙ ap Ok c.in-Some.is) in
    let is : bodies_of c.push.new.bodies.items ≡ bodies_of c.loop-at.bodies.items ++ body.items ∷ [] =
    ap bodies_of c.in_ok-push.ensures.pushed ∙ map-append (λ (v : Vec ℕ Global). v.items) c.loop-at.bodies.items (body ∷ []) in
    let told = g.D.Outside.story c.args.disk.now in
    let long = subst (λ n. HasLength told n) c.requires.size (g.met.D.Disk.has_length c.args.disk.now c.requires.ready) in
    let opens = subst (λ t. OpenAt t c.loop-at.at body.items) c.loop-at.invariant.told found.1 in
    record {
      told = c.read_record.ensures.same ∙ c.loop-at.invariant.told;
      ready = c.read_record.ensures.ready;
      size = c.read_record.ensures.size ∙ c.loop-at.invariant.size;
      later = omega (arith, c.loop-at.invariant.later, c.read_record.ensures.later);
      within = omega (arith, c.loop-at-test.true);
      counts = omega (arith, c.loop-at.invariant.counts, ap length c.in_ok-push.ensures.pushed, length-append c.loop-at.bodies.items (body ∷ []));
      behind = λ some. omega (arith, c.loop-at-test.true);
      so_far = subst (λ (l : List Body). IsReadTo told (c.loop-at.at + 32) l) (sym is)
          (open_next told c.loop-at.at c.args.len (bodies_of c.loop-at.bodies.items) body.items c.loop-at.invariant.so_far opens found.0 long (omega (arith, c.loop-at-test.true)));
    }
