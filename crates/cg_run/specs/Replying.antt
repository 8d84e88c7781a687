-- What the reply to an action comes to in a world.
use Rattle.cg_base.specs.declared.action_id.ActionId.{ActionId}
use Rattle.cg_model.specs.World.{World}
use Rattle.cg_model.specs.Places.{place_of}
use Rattle.cg_session_list.specs.Sessions.{SessionsNoted, with_reply}

-- it is told with its action's place in the order
abbrev pub replied_in : World → SessionsNoted → ActionId → SessionsNoted
replied_in w n id = with_reply n id (place_of w.order id)
