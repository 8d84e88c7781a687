use Rattle.std.proofs.Common.{◌≡◌}
use Rattle.std.specs.List.{list_all}
use Rattle.cg_members.specs.View.{servers_left}
use Rattle.cg_disk_records.specs.Agreeing.{is_present}
use Rattle.cg_disk_records.proofs.agreement.are_present.Given as goal

abbrev pub invariant-loop-server : goal.invariant-loop-server
invariant-loop-server l = list_all (is_present l.count l.left) (servers_left l.server-iterator) ≡ list_all (is_present l.count l.left) l.servers
