use Rattle.std.proofs.Common.{ap, subst, sym, ◌∙◌}
use Rattle.cg_disk.specs.Model.{view_of}
use Rattle.cg_disk.specs.declared.model_disk.ModelDisk.{ModelDisk}
use Rattle.cg_follow.specs.Stands.{IsFollower}
use Rattle.cg_follower_list.specs.Disks.{Running}
use Rattle.cg_follower_list.proofs.Striking.{left-at-rest, one-follower}
use Rattle.cg_follower_list.proofs.running.Running.crash.Goals as goal

pub new-requires-clause-stands : goal.new-requires-clause-stands
new-requires-clause-stands c =
    let f = c.self.inside.follower in
    let holds = subst (λ (d : ModelDisk). IsFollower (view_of d) f.now) (sym c.into_disk.ensures.disk) c.into_disk.ensures.holds in
    (f.now, left-at-rest (view_of c.into_disk.result) (view_of c.in_ok-disk.disk) _ f.now holds.stands holds.rest c.in_ok-disk.ensures)

pub returns : goal.returns
returns c =
    let f = c.self.inside.follower in
    let holds = subst (λ (d : ModelDisk). IsFollower (view_of d) f.now) (sym c.into_disk.ensures.disk) c.into_disk.ensures.holds in
    let stands = left-at-rest (view_of c.into_disk.result) (view_of c.in_ok-disk.disk) _ f.now holds.stands holds.rest c.in_ok-disk.ensures in
    one-follower (view_of c.in_ok-disk.disk).reads c.new.result f.now c.new.ensures stands ∙ ap (λ (r : Running). r.now) c.self.view_is
