use Rattle.std.proofs.Common.{ap, drop, subst}
use Rattle.cg_disk_records.specs.Parts.{stored_in}
use Rattle.cg_store.specs.Opening.{FindsFront}
use Rattle.cg_store.proofs.Chosen.{if_ok_finds}
use Rattle.cg_store.proofs.Sound.{stored-sound}
use Rattle.cg_store.proofs.finding.find.Goals as goal

pub replay-requires-clause-saved : goal.replay-requires-clause-saved
replay-requires-clause-saved c = (subst (FindsFront c.args.id _) c.in-Some.is c.in_ok-front.ensures).saved

pub replay-requires-clause-holds : goal.replay-requires-clause-holds
replay-requires-clause-holds c =
    let saved = (subst (FindsFront c.args.id _) c.in-Some.is c.in_ok-front.ensures).saved in
    (stored-sound c.what_is_held_agrees.ensures.holds (stored_in c.args.id c.in-Some.front.first) saved.fits.agrees saved.stored).holds

pub returns-in-Some : goal.returns-in-Some
returns-in-Some c =
    let front = c.in-Some.front in
    if_ok_finds c.what_is_held_agrees.ensures.holds c.args.id _ front.side front.first (drop 1 c.bodies_on-bodies.result.now) _ c.replay.result
    (subst (FindsFront c.args.id _) c.in-Some.is c.in_ok-front.ensures) (ap (drop 1) c.bodies_on-bodies.ensures) c.replay.ensures
