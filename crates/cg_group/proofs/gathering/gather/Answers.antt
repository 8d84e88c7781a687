use Rattle.std.proofs.Common.{◌≡◌, List, ap, ◌∙◌, fold}
use Rattle.cg_group.specs.State.{GroupState, Configuration}
use Rattle.cg_group.specs.Events.{order_all, receive_all, regulars, gather}
use Rattle.cg_group.specs.Logs.{group_of}
use Rattle.cg_group.specs.Rosters.{regulars_of}
use Rattle.cg_group.proofs.Senders.{senders-order}
use Rattle.cg_group.proofs.gathering.gather.Goals as goal

pub returns-clause-ok : goal.returns-clause-ok
unfolding gather
returns-clause-ok g c =
    let roster = c.args.roster.now in
    let start = group_of c.args.logs.now roster in
    let same = ap (λ (z : List (Configuration _)). record start { configurations = z }) c.make_room.ensures.same in
    let after = group_of c.order_everything.new.logs c.order_everything.new.roster in
    let ordered : after ≡ fold order_all start (regulars_of roster) =
    c.order_everything.ensures ∙ ap (fold order_all (group_of c.make_room.new.logs roster)) c.senders-senders.ensures
    ∙ senders-order c.make_room.new.logs roster c.holds.ensures ∙ ap (λ x. fold order_all x (regulars_of roster)) same in
    let received = rw c.as_slice-2.ensures at c.receive_everything.ensures in
    received ∙ ap (λ (x : GroupState _). fold receive_all x (regulars x)) ordered
