use Rattle.std.proofs.Common.{◌∙◌, refl}
use Rattle.cg_group.specs.Events.{merge}
use Rattle.cg_group.proofs.UpFacts.{AllUp-opened}
use Rattle.cg_group.proofs.group.Group.merge_admitted.Goals as goal

pub enter_regular-requires : goal.enter_regular-requires
enter_regular-requires g c = rw c.in_ok-open.ensures.ok (AllUp-opened c.args.self.now _ c.args.set.now c.requires)

pub returns-clause-ok : goal.returns-clause-ok
unfolding merge
returns-clause-ok g c = (
  rw (c.enter_regular.ensures, c.in_ok-open.ensures.ok, c.next_conf-conf.ensures) refl,
  c.from_vec.ensures ∙ rw (← c.next_conf-conf.ensures) c.in_ok-handed.ensures,
)
