-- What single calls ask for.
use Rattle.std.specs.Prelude.{◌≤◌}
use Rattle.cg_action.specs.declared.action.Kind.{Kind}
use Rattle.cg_action.specs.declared.action.Kind.TheVariants.{Update as UpdateKind, Join as JoinKind, Leave as LeaveKind}
use Rattle.cg_queue.specs.Queue.{green_count}
use Rattle.cg_client.specs.declared.request.Request.{Request}
use Rattle.cg_client.specs.declared.request.Request.TheVariants.{Update, Join, Leave}
use Rattle.cg_client.specs.Replica.{Held}
use Rattle.cg_client.specs.Whitening.{line_of}

-- no server is ahead of this replica's own greens in its book, so that the line isn't
abbrev pub IsLineGreen : Held → Type 0
IsLineGreen h = line_of h ≤ green_count h.queue

-- what the action of a request does
abbrev pub kind_of : Request → Kind
kind_of (Update cmds query) = UpdateKind cmds query
kind_of (Join joiner weight) = JoinKind joiner weight
kind_of (Leave server) = LeaveKind server
