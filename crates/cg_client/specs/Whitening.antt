-- How the white count of what a replica holds rises.
use Rattle.std.specs.Prelude.{ℕ, max}
use Rattle.std.specs.Option.{unwrap_or}
use Rattle.cg_queue.specs.Queue.{discarded}
use Rattle.cg_members.specs.Servers.{white_line}
use Rattle.cg_client.specs.Replica.{Held}

-- up to where all servers are known to have come
abbrev pub line_of : Held → ℕ
line_of h = unwrap_or (white_line h.members) 0

-- the white count at a commit: the white line, where that is greater
abbrev pub white_at : Held → ℕ
white_at h = max h.queue.white (line_of h)

-- the white count rises, and the actions up to it are discarded
abbrev pub with_white : Held → Held
with_white h = record h { queue = discarded h.queue (white_at h) }
