use Rattle.cg_codec.specs.Taking.{unread_of}
use Rattle.cg_members.specs.Listed.{server_ids}
use Rattle.cg_records.specs.Reading.{last_of}
use Rattle.cg_records.specs.ItemLoopLaws.{ReadSoFar}
use Rattle.cg_older.specs.Reading.{old_server_reading, old_servers_reading}
use Rattle.cg_older.proofs.servers.take_old_servers.Given as goal

abbrev pub invariant-servers : goal.invariant-servers
invariant-servers l =
    ReadSoFar (λ taken. old_server_reading (last_of (server_ids taken))) (old_servers_reading (unread_of l.fields)) l.count l.counter l.last (server_ids l.servers) l.servers (unread_of l.after)
