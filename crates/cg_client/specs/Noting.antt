-- What a replica notes of a mark that its queue was given.
use Rattle.std.specs.Prelude.{◌≡◌, Result}
use Rattle.cg_action.specs.declared.action.Action.{Action}
use Rattle.cg_queue.specs.Queue.{QueueView, Marking}
use Rattle.cg_queue.specs.Answers.{Answers}
use Rattle.cg_queue.specs.declared.mark.Mark.{Mark}
use Rattle.cg_queue.specs.declared.mark.QueueFault.{QueueFault}
use Rattle.cg_client.specs.declared.parts.DraftParts.{DraftParts}
use Rattle.cg_client.specs.Replica.{Held, State}
use Rattle.cg_client.specs.Drafts.{turn_with}
use Rattle.cg_client.specs.Marks.{marked}

-- whatever the mark made of a queue, the turn with that queue is marked so
abbrev pub Notes : Held → DraftParts → Action → Result Mark QueueFault → Held → DraftParts → Type 0
Notes held draft a mark noted told =
    (state : State) (old : QueueView) (marking : Marking) → Answers marking old held.queue mark →
    turn_with noted state told ≡ marked (turn_with (record held { queue = old }) state draft) a marking
