use Rattle.std.proofs.Common.{◌≡◌, ◌++◌}
use Rattle.std.specs.List.{flat_map}
use Rattle.cg_members.specs.View.{servers_left}
use Rattle.cg_older.specs.Bytes.{spelled_old_server}
use Rattle.cg_older.proofs.servers.put_old_servers.Given as goal

-- what is written so far and what is still to be written make the whole
abbrev pub invariant-loop-server : goal.invariant-loop-server
invariant-loop-server l =
    l.out.items ++ flat_map spelled_old_server (servers_left l.server-iterator) ≡ l.initial.out.items ++ flat_map spelled_old_server (servers_left l.initial.server-iterator)
