use Rattle.std.proofs.Common.{◌∙◌, ◌++◌, ◌∷◌, [], ap}
use Rattle.cg_base.specs.TextLaws.{OnErr_from}
use Rattle.cg_queue.specs.Lanes.{with_lane}
use Rattle.cg_queue.proofs.lanes.Lanes.push.Goals as goal

pub returns-in_err-make_room-clause-err : goal.returns-in_err-make_room-clause-err
returns-in_err-make_room-clause-err g c = OnErr_from c.from_residual.result c.make_room.ensures.same

pub returns-clause-ok : goal.returns-clause-ok
returns-clause-ok g c = c.push_reserved.ensures ∙ ap (λ f. with_lane f c.args.slot (f c.args.slot ++ c.args.item ∷ [])) c.make_room.ensures.same
