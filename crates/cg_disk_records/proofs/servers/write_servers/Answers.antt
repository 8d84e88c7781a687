use Rattle.std.proofs.Common.{rules}
use Rattle.cg_base.specs.Fronts.{KeepsFront}
use Rattle.cg_base.specs.TextLaws.{OnErr_from, KeepsFront-is, KeepsFront-through}
use Rattle.cg_codec.specs.Fields.{number32}
use Rattle.cg_disk_records.proofs.servers.write_servers.Goals as goal

-- each step leaves what stood there before at the front
pub returns-in_err-write_server-clause-err : goal.returns-in_err-write_server-clause-err
returns-in_err-write_server-clause-err c =
    let before = c.args.out.now.items in
    let counted = c.put_u32.new.out.items in
    let some = c.loop-server.out.items in
    let left = c.write_server.new.out.items in
    let first : KeepsFront before counted = KeepsFront-is before counted (number32 c.from.result) (search rules) in
    let second : KeepsFront counted some = c.loop-server.invariant.1 in
    let third : KeepsFront some left = search rules in
    OnErr_from c.from_residual-in_err-write_server.result (KeepsFront-through before counted left first (KeepsFront-through counted some left second third))
