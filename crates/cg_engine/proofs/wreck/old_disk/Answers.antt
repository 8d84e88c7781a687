use Rattle.cg_engine.proofs.wreck.old_disk.Goals as goal

pub create_old-requires-clause-agrees : goal.create_old-requires-clause-agrees
create_old-requires-clause-agrees c = c.what_is_held_agrees.ensures.agrees c.args.core.now c.requires.sound.holds
