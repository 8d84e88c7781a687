use Rattle.std.proofs.Common.{◌≡◌, ◌-◌, ◌^◌, Ok, Err, ◌∷◌, [], ◌++◌, refl, arith}
use Rattle.std.proofs.lemmas.Result.{err_from_is_err_and}
use Rattle.cg_action.specs.Reading.{id_reading}
use Rattle.cg_codec.specs.Reading.{take_count}
use Rattle.cg_codec.specs.Taking.{unread_of}
use Rattle.cg_codec.specs.ItemLaws.{items_go_on, items_stop, items_end}
use Rattle.cg_disk_records.specs.Reading.{ids_reading}
use Rattle.cg_older.proofs.lists.take_ids.Goals as goal

pub names-init : goal.names-init
unfolding ids_reading
names-init c =
    let counted : take_count (2 ^ 32 - 1) (unread_of c.args.fields.now) ≡ Ok (c.in_ok-count.count, unread_of c.take_count.new.self) = c.in_ok-count.ensures in
    let all : c.in_ok-count.count - 0 ≡ c.in_ok-count.count = omega arith in
    rw (c.new-ids.ensures, all, counted) refl

pub returns-in_err-id : goal.returns-in_err-id
returns-in_err-id c =
    let p = err_from_is_err_and c.from_residual-in_err-id.result c.from_residual-in_err-id.ensures.1 in
    let fault = c.in_err-id.field-0.0 in
    let stopped : ids_reading (unread_of c.args.fields.now) ≡ Err fault =
    items_stop (λ _. id_reading) c.in_ok-count.count c.names.counter c.names.ids (unread_of c.names.after) fault (ids_reading (unread_of c.args.fields.now)) (omega arith) c.in_err-id.ensures.0 c.names.invariant in
    rw (p.1, p.2) (λ never. stopped, refl)

pub names-preserved : goal.names-preserved
names-preserved c =
    let pushed : c.push.new.self ≡ c.names.ids ++ c.in_ok-id.id ∷ [] = c.in_ok-push.ensures.ok in
    rw pushed (items_go_on (λ _. id_reading) c.in_ok-count.count c.names.counter c.names.ids (unread_of c.names.after) (unread_of c.take_action_id.new.fields) c.in_ok-id.id (ids_reading (unread_of c.args.fields.now)) (omega arith) c.in_ok-id.ensures c.names.invariant)

pub returns : goal.returns
returns c = items_end (λ _. id_reading) c.in_ok-count.count c.names.counter c.names.ids (unread_of c.names.after) (ids_reading (unread_of c.args.fields.now)) (omega arith) c.names.invariant
