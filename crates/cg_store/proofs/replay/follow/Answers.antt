use Rattle.std.proofs.Common.{subst, refl}
use Rattle.cg_codec.specs.Taking.{unread_of}
use Rattle.cg_disk_records.specs.Following.{know, green_by_name, make, with_values, after_change}
use Rattle.cg_disk_records.specs.Reading.{actions_reading, ids_reading}
use Rattle.cg_store.specs.Opening.{Follows}
use Rattle.cg_store.specs.Putting.{PutsAll}
use Rattle.cg_store.specs.Stands.{led_by}
use Rattle.cg_store.proofs.Putting.{at_first, refused-puts, unread, unknown, ungreen, unmade, unended, change, is-marked, fits, leads}
use Rattle.cg_store.proofs.Replaying.{if_ok_follows}
use Rattle.cg_store.proofs.Sound.{if_ok_holds}
use Rattle.cg_store.proofs.replay.follow.Goals as goal

pub returns-in-Err-clause-follows : goal.returns-in-Err-clause-follows
returns-in-Err-clause-follows c =
    refused-puts (Follows (led_by c.args.core.now c.args.body.now) c.args.core.now) _ c.refused.result c.in-Err.fault c.refused.ensures
    (λ known. unread c.args.core.now c.args.body.now (at_first c.args.body.now) refl c.in-Err.fault (c.in-Err.ensures.read known))

pub returns-then-not-branch-clause-follows : goal.returns-then-not-branch-clause-follows
returns-then-not-branch-clause-follows c =
    unknown c.args.core.now c.args.body.now (at_first c.args.body.now) refl c.take.new.self.values (unread_of c.in-Ok.fields) c.in-Ok.ensures.read c.put_all.new.core (unread_of c.put_all.new.fields) (subst (PutsAll actions_reading know c.args.core.now (unread_of c.in-Ok.fields) c.put_all.new.core (unread_of c.put_all.new.fields)) c.if-not-branch.true c.in_ok-put_all.ensures)

pub returns-then-not-branch-2-clause-follows : goal.returns-then-not-branch-2-clause-follows
returns-then-not-branch-2-clause-follows c =
    let known = (subst (PutsAll actions_reading know c.args.core.now (unread_of c.in-Ok.fields) c.put_all.new.core (unread_of c.put_all.new.fields)) c.if-not-branch.false c.in_ok-put_all.ensures) in
    ungreen c.args.core.now c.args.body.now (at_first c.args.body.now) refl c.take.new.self.values (unread_of c.in-Ok.fields) c.in-Ok.ensures.read c.put_all.new.core (unread_of c.put_all.new.fields) known c.put_all-2.new.core (unread_of c.put_all-2.new.fields) (subst (PutsAll ids_reading green_by_name c.put_all.new.core (unread_of c.put_all.new.fields) c.put_all-2.new.core (unread_of c.put_all-2.new.fields)) c.if-not-branch-2.true c.in_ok-put_all-2.ensures)

pub returns-then-not-branch-3-clause-follows : goal.returns-then-not-branch-3-clause-follows
returns-then-not-branch-3-clause-follows c =
    let known = (subst (PutsAll actions_reading know c.args.core.now (unread_of c.in-Ok.fields) c.put_all.new.core (unread_of c.put_all.new.fields)) c.if-not-branch.false c.in_ok-put_all.ensures) in
    let green = (subst (PutsAll ids_reading green_by_name c.put_all.new.core (unread_of c.put_all.new.fields) c.put_all-2.new.core (unread_of c.put_all-2.new.fields)) c.if-not-branch-2.false c.in_ok-put_all-2.ensures) in
    unmade c.args.core.now c.args.body.now (at_first c.args.body.now) refl c.take.new.self.values (unread_of c.in-Ok.fields) c.in-Ok.ensures.read c.put_all.new.core (unread_of c.put_all.new.fields) known c.put_all-2.new.core (unread_of c.put_all-2.new.fields) green c.put_all-3.new.core (unread_of c.put_all-3.new.fields) (subst (PutsAll actions_reading make c.put_all-2.new.core (unread_of c.put_all-2.new.fields) c.put_all-3.new.core (unread_of c.put_all-3.new.fields)) c.if-not-branch-3.true c.in_ok-put_all-3.ensures)

pub put_values-requires : goal.put_values-requires
put_values-requires c =
    let known = (subst (PutsAll actions_reading know c.args.core.now (unread_of c.in-Ok.fields) c.put_all.new.core (unread_of c.put_all.new.fields)) c.if-not-branch.false c.in_ok-put_all.ensures) in
    let green = (subst (PutsAll ids_reading green_by_name c.put_all.new.core (unread_of c.put_all.new.fields) c.put_all-2.new.core (unread_of c.put_all-2.new.fields)) c.if-not-branch-2.false c.in_ok-put_all-2.ensures) in
    let made = (subst (PutsAll actions_reading make c.put_all-2.new.core (unread_of c.put_all-2.new.fields) c.put_all-3.new.core (unread_of c.put_all-3.new.fields)) c.if-not-branch-3.false c.in_ok-put_all-3.ensures) in
    let law = c.what_is_held_agrees.ensures in
    law.counts.line c.put_all-3.new.core
    (law.holds.marked c.args.core.now (change c.args.core.now c.args.body.now (at_first c.args.body.now) refl c.take.new.self.values (unread_of c.in-Ok.fields) c.in-Ok.ensures.read c.put_all.new.core (unread_of c.put_all.new.fields) known c.put_all-2.new.core (unread_of c.put_all-2.new.fields) green c.put_all-3.new.core (unread_of c.put_all-3.new.fields) made) c.put_all-3.new.core c.requires.holds (is-marked c.args.core.now c.args.body.now (at_first c.args.body.now) refl c.take.new.self.values (unread_of c.in-Ok.fields) c.in-Ok.ensures.read c.put_all.new.core (unread_of c.put_all.new.fields) known c.put_all-2.new.core (unread_of c.put_all-2.new.fields) green c.put_all-3.new.core (unread_of c.put_all-3.new.fields) made))

pub returns-in-Ok-finish-clause-follows : goal.returns-in-Ok-finish-clause-follows
returns-in-Ok-finish-clause-follows c =
    let known = (subst (PutsAll actions_reading know c.args.core.now (unread_of c.in-Ok.fields) c.put_all.new.core (unread_of c.put_all.new.fields)) c.if-not-branch.false c.in_ok-put_all.ensures) in
    let green = (subst (PutsAll ids_reading green_by_name c.put_all.new.core (unread_of c.put_all.new.fields) c.put_all-2.new.core (unread_of c.put_all-2.new.fields)) c.if-not-branch-2.false c.in_ok-put_all-2.ensures) in
    let made = (subst (PutsAll actions_reading make c.put_all-2.new.core (unread_of c.put_all-2.new.fields) c.put_all-3.new.core (unread_of c.put_all-3.new.fields)) c.if-not-branch-3.false c.in_ok-put_all-3.ensures) in
    if_ok_follows (with_values c.take.new.self.values c.put_all-3.new.core) (led_by c.args.core.now c.args.body.now) c.put_values.new.core _ c.put_values.result
    (leads c.args.core.now c.args.body.now (at_first c.args.body.now) refl c.take.new.self.values (unread_of c.in-Ok.fields) c.in-Ok.ensures.read c.put_all.new.core (unread_of c.put_all.new.fields) known c.put_all-2.new.core (unread_of c.put_all-2.new.fields) green c.put_all-3.new.core (unread_of c.put_all-3.new.fields) made c.in-Ok-finish.ensures) c.put_values.ensures

pub returns-in-Ok-finish-clause-holds : goal.returns-in-Ok-finish-clause-holds
returns-in-Ok-finish-clause-holds c =
    let known = (subst (PutsAll actions_reading know c.args.core.now (unread_of c.in-Ok.fields) c.put_all.new.core (unread_of c.put_all.new.fields)) c.if-not-branch.false c.in_ok-put_all.ensures) in
    let green = (subst (PutsAll ids_reading green_by_name c.put_all.new.core (unread_of c.put_all.new.fields) c.put_all-2.new.core (unread_of c.put_all-2.new.fields)) c.if-not-branch-2.false c.in_ok-put_all-2.ensures) in
    let made = (subst (PutsAll actions_reading make c.put_all-2.new.core (unread_of c.put_all-2.new.fields) c.put_all-3.new.core (unread_of c.put_all-3.new.fields)) c.if-not-branch-3.false c.in_ok-put_all-3.ensures) in
    let read = change c.args.core.now c.args.body.now (at_first c.args.body.now) refl c.take.new.self.values (unread_of c.in-Ok.fields) c.in-Ok.ensures.read c.put_all.new.core (unread_of c.put_all.new.fields) known c.put_all-2.new.core (unread_of c.put_all-2.new.fields) green c.put_all-3.new.core (unread_of c.put_all-3.new.fields) made in
    if_ok_holds c.what_is_held_agrees.ensures.holds c.args.core.now c.put_values.new.core read _ c.put_values.result c.requires.holds
    (if_ok_follows (with_values c.take.new.self.values c.put_all-3.new.core) (after_change c.args.core.now read) c.put_values.new.core _ c.put_values.result
    (fits c.args.core.now c.args.body.now (at_first c.args.body.now) refl c.take.new.self.values (unread_of c.in-Ok.fields) c.in-Ok.ensures.read c.put_all.new.core (unread_of c.put_all.new.fields) known c.put_all-2.new.core (unread_of c.put_all-2.new.fields) green c.put_all-3.new.core (unread_of c.put_all-3.new.fields) made) c.put_values.ensures)

pub returns-in-Err-finish-clause-follows : goal.returns-in-Err-finish-clause-follows
returns-in-Err-finish-clause-follows c =
    let known = (subst (PutsAll actions_reading know c.args.core.now (unread_of c.in-Ok.fields) c.put_all.new.core (unread_of c.put_all.new.fields)) c.if-not-branch.false c.in_ok-put_all.ensures) in
    let green = (subst (PutsAll ids_reading green_by_name c.put_all.new.core (unread_of c.put_all.new.fields) c.put_all-2.new.core (unread_of c.put_all-2.new.fields)) c.if-not-branch-2.false c.in_ok-put_all-2.ensures) in
    let made = (subst (PutsAll actions_reading make c.put_all-2.new.core (unread_of c.put_all-2.new.fields) c.put_all-3.new.core (unread_of c.put_all-3.new.fields)) c.if-not-branch-3.false c.in_ok-put_all-3.ensures) in
    unended c.args.core.now c.args.body.now (at_first c.args.body.now) refl c.take.new.self.values (unread_of c.in-Ok.fields) c.in-Ok.ensures.read c.put_all.new.core (unread_of c.put_all.new.fields) known c.put_all-2.new.core (unread_of c.put_all-2.new.fields) green c.put_all-3.new.core (unread_of c.put_all-3.new.fields) made c.in-Err-finish.ensures.1
