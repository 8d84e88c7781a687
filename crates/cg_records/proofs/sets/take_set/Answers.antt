use Rattle.std.proofs.Common.{◌≡◌, ◌≢◌, ◌<◌, Ok, Err, ◌∷◌, [], ◌++◌, refl, ◌∙◌, arith}
use Rattle.std.proofs.lemmas.Result.{err_from_is_err_and}
use Rattle.cg_codec.specs.declared.fault.CodecFault.TheVariants.{NoMemory}
use Rattle.cg_codec.specs.Reading.{take_count}
use Rattle.cg_codec.specs.Taking.{unread_of}
use Rattle.cg_codec.specs.ItemLaws.{items_stop, items_end}
use Rattle.cg_records.specs.Reading.{take_set, take_id_above, last_of}
use Rattle.cg_base.specs.AscendingLaws.{AllBelow-more, with_member-last}
use Rattle.cg_records.specs.ItemLoopLaws.{ReadSoFar-none, ReadSoFar-more}
use Rattle.cg_records.proofs.sets.take_set.Goals as goal
use Rattle.cg_records.specs.PassedLaws.{id_above-ok}

pub members-init : goal.members-init
unfolding take_set
members-init c =
    let counted : take_count 32 (unread_of c.args.f.now) ≡ Ok (c.in_ok-count.count, unread_of c.take_count.new.self) = c.in_ok-count.ensures in
    rw c.empty-set.ensures (ReadSoFar-none (λ taken. take_id_above (last_of taken)) (take_set (unread_of c.args.f.now)) c.in_ok-count.count (unread_of c.take_count.new.self) (rw counted))

pub returns-in_err-id : goal.returns-in_err-id
returns-in_err-id c =
    let p = err_from_is_err_and c.from_residual-in_err-id.result c.from_residual-in_err-id.ensures.1 in
    let fault = c.in_err-id.field-0.0 in
    let so_far = c.members.invariant in
    let read : take_id_above c.members.last (unread_of c.members.after) ≡ Err fault = c.in_err-id.ensures.0 in
    let never : fault ≢ NoMemory = c.in_err-id.ensures.2 in
    let stopped : take_set (unread_of c.args.f.now) ≡ Err fault =
    items_stop (λ taken. take_id_above (last_of taken)) c.in_ok-count.count c.members.counter c.members.set (unread_of c.members.after) fault (take_set (unread_of c.args.f.now)) (omega arith) (rw so_far.last_key at read) so_far.rest in
    rw (p.1, p.2) (stopped, refl, never)

pub members-preserved : goal.members-preserved
members-preserved c =
    let so_far = c.members.invariant in
    let read : take_id_above c.members.last (unread_of c.members.after) ≡ Ok (c.in_ok-id.id, unread_of c.take_id_above.new.f) = c.in_ok-id.ensures in
    let above : c.members.last < c.in_ok-id.id = (id_above-ok c.members.last c.in_ok-id.id (unread_of c.members.after) (unread_of c.take_id_above.new.f) read).0 in
    let below = AllBelow-more c.members.set _ c.in_ok-id.id above so_far.below in
    let set_is : c.add.new.self ≡ c.members.set ++ c.in_ok-id.id ∷ [] = c.add.ensures ∙ with_member-last c.members.set c.in_ok-id.id below in
    rw (set_is, c.get-last.ensures.value)
    (ReadSoFar-more (λ taken. take_id_above (last_of taken)) (take_set (unread_of c.args.f.now)) c.in_ok-count.count c.members.counter c.members.last c.members.set c.members.set (unread_of c.members.after) (unread_of c.take_id_above.new.f) c.in_ok-id.id c.in_ok-id.id so_far (omega arith) (rw so_far.last_key at read) above)

pub returns : goal.returns
returns c = items_end (λ taken. take_id_above (last_of taken)) c.in_ok-count.count c.members.counter c.members.set (unread_of c.members.after) (take_set (unread_of c.args.f.now)) (omega arith) c.members.invariant.rest
