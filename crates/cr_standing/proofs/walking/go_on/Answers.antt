use Rattle.cr_standing.specs.Walk.{standing_at}
use Rattle.cr_standing_workers.specs.Told.{searching_by}
use Rattle.cr_standing.proofs.Reading.{leads-refl, leads-trans}
use Rattle.cr_standing.proofs.walking.go_on.Goals as goal

pub loop-init : goal.loop-init
loop-init g c = record {
  seats = c.requires.seats;
  say = c.requires.say;
  sound = c.requires.sound;
  leads = leads-refl (searching_by g.P.Passes g.L.Law g.Q.Question c.args.task.now g.S.Subject.told) (standing_at (g.P.Passes.offer c.args.task.now.passes.now) c.args.walk.now);
  within = c.requires.within;
}

pub loop-preserved : goal.loop-preserved
loop-preserved g c =
    let s = searching_by g.P.Passes g.L.Law g.Q.Question c.args.task.now g.S.Subject.told in
    let offer = g.P.Passes.offer c.args.task.now.passes.now in
    record {
      seats = c.in-On.ensures.seats;
      say = c.in-On.ensures.say;
      sound = c.in-On.ensures.says;
      leads = leads-trans s (standing_at offer c.args.walk.now) (standing_at offer c.loop.walk) (standing_at offer c.advance.new.walk) c.loop.invariant.leads c.in-On.ensures.leads;
      within = c.in-On.ensures.within;
    }
