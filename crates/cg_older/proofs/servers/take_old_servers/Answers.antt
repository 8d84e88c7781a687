use Rattle.std.proofs.Common.{◌≡◌, ◌≢◌, Ok, Err, ◌∷◌, [], ◌++◌, refl, ◌∙◌, arith}
use Rattle.std.proofs.lemmas.Result.{err_from_is_err_and}
use Rattle.cg_codec.specs.declared.fault.CodecFault.TheVariants.{NoMemory}
use Rattle.cg_codec.specs.Reading.{take_count}
use Rattle.cg_codec.specs.Taking.{unread_of}
use Rattle.cg_codec.specs.ItemLaws.{items_stop, items_end}
use Rattle.cg_members.specs.Listed.{server_ids}
use Rattle.cg_records.specs.Reading.{last_of}
use Rattle.cg_base.specs.AscendingLaws.{AllBelow-more}
use Rattle.cg_records.specs.RecordLaws.{map-push}
use Rattle.cg_records.specs.ItemLoopLaws.{ReadSoFar-none, ReadSoFar-more}
use Rattle.cg_older.specs.Reading.{old_server_reading, old_servers_reading}
use Rattle.cg_older.proofs.ServerFields.{server-ok}
use Rattle.cg_older.proofs.servers.take_old_servers.Goals as goal
use Rattle.cg_members.specs.MemberLaws.{with_server-last}

pub servers-init : goal.servers-init
unfolding old_servers_reading
servers-init c =
    let counted : take_count 32 (unread_of c.args.fields.now) ≡ Ok (c.in_ok-count.count, unread_of c.take_count.new.self) = c.in_ok-count.ensures in
    rw c.empty-servers.ensures
    (ReadSoFar-none (λ taken. old_server_reading (last_of (server_ids taken))) (old_servers_reading (unread_of c.args.fields.now)) c.in_ok-count.count (unread_of c.take_count.new.self) (rw counted))

pub returns-in_err-server : goal.returns-in_err-server
returns-in_err-server c =
    let p = err_from_is_err_and c.from_residual-in_err-server.result c.from_residual-in_err-server.ensures.1 in
    let fault = c.in_err-server.field-0.0 in
    let so_far = c.servers.invariant in
    let read : old_server_reading c.servers.last (unread_of c.servers.after) ≡ Err fault = c.in_err-server.ensures.0 in
    let never : fault ≢ NoMemory = c.in_err-server.ensures.2 in
    let stopped : old_servers_reading (unread_of c.args.fields.now) ≡ Err fault =
    items_stop (λ taken. old_server_reading (last_of (server_ids taken))) c.in_ok-count.count c.servers.counter c.servers.servers (unread_of c.servers.after) fault (old_servers_reading (unread_of c.args.fields.now)) (omega arith) (rw so_far.last_key at read) so_far.rest in
    rw (p.1, p.2) (stopped, refl, never)

pub put-requires : goal.put-requires
put-requires c =
    let read : old_server_reading c.servers.last (unread_of c.servers.after) ≡ Ok (c.in_ok-server.server, unread_of c.take_old_server.new.fields) = c.in_ok-server.ensures in
    (server-ok c.servers.last c.in_ok-server.server (unread_of c.servers.after) (unread_of c.take_old_server.new.fields) read).weight

pub servers-preserved : goal.servers-preserved
servers-preserved c =
    let so_far = c.servers.invariant in
    let server = c.in_ok-server.server in
    let read : old_server_reading c.servers.last (unread_of c.servers.after) ≡ Ok (server, unread_of c.take_old_server.new.fields) = c.in_ok-server.ensures in
    let serves = server-ok c.servers.last server (unread_of c.servers.after) (unread_of c.take_old_server.new.fields) read in
    let below = AllBelow-more (server_ids c.servers.servers) _ server.id serves.above so_far.below in
    let set_is : c.put.new.self ≡ c.servers.servers ++ server ∷ [] = c.put.ensures ∙ with_server-last c.servers.servers server below in
    rw (set_is, c.get-last.ensures.value, map-push)
    (ReadSoFar-more (λ taken. old_server_reading (last_of (server_ids taken))) (old_servers_reading (unread_of c.args.fields.now)) c.in_ok-count.count c.servers.counter c.servers.last (server_ids c.servers.servers) c.servers.servers (unread_of c.servers.after) (unread_of c.take_old_server.new.fields) server server.id so_far (omega arith) (rw so_far.last_key at read) serves.above)

pub returns : goal.returns
returns c = items_end (λ taken. old_server_reading (last_of (server_ids taken))) c.in_ok-count.count c.servers.counter c.servers.servers (unread_of c.servers.after) (old_servers_reading (unread_of c.args.fields.now)) (omega arith) c.servers.invariant.rest
