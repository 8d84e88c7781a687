use Rattle.std.proofs.Common.{[], refl, rules, subst}
use Rattle.cg_codec.specs.Taking.{unread_of}
use Rattle.cg_store.specs.Putting.{item_reading, list_reading, item_step, PutsNext, PutsAll}
use Rattle.cg_store.proofs.Putting.{refused-puts, goes-on, stops, ends, list-faulty, list-counted}
use Rattle.cg_store.proofs.replay.put_all.Goals as goal

pub returns-in-Err : goal.returns-in-Err
returns-in-Err c =
    let old = unread_of c.args.fields.now in
    refused-puts (PutsAll (list_reading c.args.list) (item_step c.args.list) c.args.core.now old c.args.core.now (unread_of c.take_count.new.self)) _ c.refused.result c.in-Err.fault c.refused.ensures
    (λ _. list-faulty c.args.list c.args.core.now old c.args.core.now (unread_of c.take_count.new.self) c.in-Err.fault c.in-Err.ensures.0)

pub loop-init : goal.loop-init
loop-init c = ([], search rules, refl)

pub returns-then-not-branch : goal.returns-then-not-branch
returns-then-not-branch c =
    let old = unread_of c.args.fields.now in
    let start = unread_of c.take_count.new.self in
    stops (item_reading c.args.list) (item_step c.args.list) c.args.core.now (list_reading c.args.list) old start c.in-Ok.count (list-counted c.args.list old start c.in-Ok.count c.in-Ok.ensures) c.loop.counter (unread_of c.loop.fields) (unread_of c.put_next.new.fields) c.loop.core c.put_next.new.core c.put_next.new.core (unread_of c.put_next.new.fields) c.loop-test.true
    (subst (PutsNext (item_reading c.args.list) (item_step c.args.list) c.loop.core (unread_of c.loop.fields) c.put_next.new.core (unread_of c.put_next.new.fields)) c.if-not-branch.true c.in_ok-put_next.ensures) c.loop.invariant

pub loop-preserved : goal.loop-preserved
loop-preserved c =
    let next = subst (PutsNext (item_reading c.args.list) (item_step c.args.list) c.loop.core (unread_of c.loop.fields) c.put_next.new.core (unread_of c.put_next.new.fields)) c.if-not-branch.false c.in_ok-put_next.ensures in
    goes-on (item_reading c.args.list) (item_step c.args.list) c.args.core.now c.in-Ok.count (unread_of c.take_count.new.self) c.loop.counter (unread_of c.loop.fields) (unread_of c.put_next.new.fields) c.loop.core c.put_next.new.core next.0 c.loop-test.true next.1 next.2 c.loop.invariant

pub returns : goal.returns
returns c =
    let old = unread_of c.args.fields.now in
    let start = unread_of c.take_count.new.self in
    ends (item_reading c.args.list) (item_step c.args.list) c.args.core.now (list_reading c.args.list) old start c.in-Ok.count (list-counted c.args.list old start c.in-Ok.count c.in-Ok.ensures) c.loop.counter (unread_of c.loop.fields) c.loop.core c.loop-test.false c.loop.invariant
