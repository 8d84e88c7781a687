use Rattle.std.proofs.Common.{◌≡◌, ◌≢◌, Ok, Err, ◌∷◌, [], ◌++◌, refl, ◌∙◌, arith}
use Rattle.std.proofs.lemmas.Result.{err_from_is_err_and}
use Rattle.cg_base.specs.Weights.{ids}
use Rattle.cg_codec.specs.declared.fault.CodecFault.TheVariants.{NoMemory}
use Rattle.cg_codec.specs.Reading.{take_count}
use Rattle.cg_codec.specs.Taking.{unread_of}
use Rattle.cg_codec.specs.ItemLaws.{items_stop, items_end}
use Rattle.cg_records.specs.Reading.{take_weight_set, take_weighted_above, last_of}
use Rattle.cg_base.specs.AscendingLaws.{AllBelow-more, with_weight-last}
use Rattle.cg_records.specs.RecordLaws.{map-push}
use Rattle.cg_records.specs.ItemLoopLaws.{ReadSoFar-none, ReadSoFar-more}
use Rattle.cg_records.proofs.sets.take_weight_set.Goals as goal
use Rattle.cg_records.specs.PassedLaws.{weighted_above-ok}

pub members-init : goal.members-init
unfolding take_weight_set
members-init c =
    let counted : take_count 32 (unread_of c.args.f.now) ≡ Ok (c.in_ok-count.count, unread_of c.take_count.new.self) = c.in_ok-count.ensures in
    rw c.empty-set.ensures
    (ReadSoFar-none (λ taken. take_weighted_above (last_of (ids taken))) (take_weight_set (unread_of c.args.f.now)) c.in_ok-count.count (unread_of c.take_count.new.self) (rw counted))

pub returns-in_err-member : goal.returns-in_err-member
returns-in_err-member c =
    let p = err_from_is_err_and c.from_residual-in_err-member.result c.from_residual-in_err-member.ensures.1 in
    let fault = c.in_err-member.field-0.0 in
    let so_far = c.members.invariant in
    let read : take_weighted_above c.members.last (unread_of c.members.after) ≡ Err fault = c.in_err-member.ensures.0 in
    let never : fault ≢ NoMemory = c.in_err-member.ensures.2 in
    let stopped : take_weight_set (unread_of c.args.f.now) ≡ Err fault =
    items_stop (λ taken. take_weighted_above (last_of (ids taken))) c.in_ok-count.count c.members.counter c.members.set (unread_of c.members.after) fault (take_weight_set (unread_of c.args.f.now)) (omega arith) (rw so_far.last_key at read) so_far.rest in
    rw (p.1, p.2) (stopped, refl, never)

pub put-requires : goal.put-requires
put-requires c =
    let read : take_weighted_above c.members.last (unread_of c.members.after) ≡ Ok (c.in_ok-member.member, unread_of c.take_weighted_above.new.f) = c.in_ok-member.ensures in
    (weighted_above-ok c.members.last c.in_ok-member.member (unread_of c.members.after) (unread_of c.take_weighted_above.new.f) read).weight

pub members-preserved : goal.members-preserved
members-preserved c =
    let so_far = c.members.invariant in
    let member = c.in_ok-member.member in
    let read : take_weighted_above c.members.last (unread_of c.members.after) ≡ Ok (member, unread_of c.take_weighted_above.new.f) = c.in_ok-member.ensures in
    let weighs = weighted_above-ok c.members.last member (unread_of c.members.after) (unread_of c.take_weighted_above.new.f) read in
    let below = AllBelow-more (ids c.members.set) _ member.id weighs.above so_far.below in
    let set_is : c.put.new.self ≡ c.members.set ++ member ∷ [] = c.put.ensures ∙ with_weight-last c.members.set member below in
    rw (set_is, c.get-last.ensures.value, map-push)
    (ReadSoFar-more (λ taken. take_weighted_above (last_of (ids taken))) (take_weight_set (unread_of c.args.f.now)) c.in_ok-count.count c.members.counter c.members.last (ids c.members.set) c.members.set (unread_of c.members.after) (unread_of c.take_weighted_above.new.f) member member.id so_far (omega arith) (rw so_far.last_key at read) weighs.above)

pub returns : goal.returns
returns c = items_end (λ taken. take_weighted_above (last_of (ids taken))) c.in_ok-count.count c.members.counter c.members.set (unread_of c.members.after) (take_weight_set (unread_of c.args.f.now)) (omega arith) c.members.invariant.rest
