use Rattle.std.proofs.Common.{◌≡◌}
use Rattle.std.specs.List.{list_any}
use Rattle.cg_members.specs.View.{servers_left}
use Rattle.cg_older.specs.Weights.{is_heavy_server}
use Rattle.cg_older.proofs.weights.has_heavy_server.Given as goal

abbrev pub invariant-loop-server : goal.invariant-loop-server
invariant-loop-server l = list_any is_heavy_server (servers_left l.server-iterator) ≡ list_any is_heavy_server l.servers
