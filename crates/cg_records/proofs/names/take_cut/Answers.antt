use Rattle.std.proofs.Common.{◌≡◌, ◌≢◌, Ok, Err, ◌∷◌, [], ◌++◌, refl, ◌∙◌, arith}
use Rattle.std.proofs.lemmas.Result.{err_from_is_err_and}
use Rattle.cg_base.specs.Cuts.{creators_in}
use Rattle.cg_codec.specs.declared.fault.CodecFault.TheVariants.{NoMemory}
use Rattle.cg_codec.specs.Reading.{take_count}
use Rattle.cg_codec.specs.Taking.{unread_of}
use Rattle.cg_codec.specs.ItemLaws.{items_stop, items_end}
use Rattle.cg_records.specs.Reading.{take_cut, take_name_above, last_of}
use Rattle.cg_base.specs.AscendingLaws.{AllBelow-more, raise-last}
use Rattle.cg_records.specs.RecordLaws.{map-push}
use Rattle.cg_records.specs.ItemLoopLaws.{ReadSoFar-none, ReadSoFar-more}
use Rattle.cg_records.proofs.names.take_cut.Goals as goal
use Rattle.cg_records.specs.PassedLaws.{name_above-ok}

pub tops-init : goal.tops-init
unfolding take_cut
tops-init c =
    let counted : take_count 32 (unread_of c.args.f.now) ≡ Ok (c.in_ok-count.count, unread_of c.take_count.new.self) = c.in_ok-count.ensures in
    rw c.zero-cut.ensures
    (ReadSoFar-none (λ taken. take_name_above (last_of (creators_in taken))) (take_cut (unread_of c.args.f.now)) c.in_ok-count.count (unread_of c.take_count.new.self) (rw counted))

pub returns-in_err-top : goal.returns-in_err-top
returns-in_err-top c =
    let p = err_from_is_err_and c.from_residual-in_err-top.result c.from_residual-in_err-top.ensures.1 in
    let fault = c.in_err-top.field-0.0 in
    let so_far = c.tops.invariant in
    let read : take_name_above c.tops.last (unread_of c.tops.after) ≡ Err fault = c.in_err-top.ensures.0 in
    let never : fault ≢ NoMemory = c.in_err-top.ensures.2 in
    let stopped : take_cut (unread_of c.args.f.now) ≡ Err fault =
    items_stop (λ taken. take_name_above (last_of (creators_in taken))) c.in_ok-count.count c.tops.counter c.tops.cut (unread_of c.tops.after) fault (take_cut (unread_of c.args.f.now)) (omega arith) (rw so_far.last_key at read) so_far.rest in
    rw (p.1, p.2) (stopped, refl, never)

pub tops-preserved : goal.tops-preserved
tops-preserved c =
    let so_far = c.tops.invariant in
    let top = c.in_ok-top.top in
    let read : take_name_above c.tops.last (unread_of c.tops.after) ≡ Ok (top, unread_of c.take_name_above.new.f) = c.in_ok-top.ensures in
    let named = name_above-ok c.tops.last top (unread_of c.tops.after) (unread_of c.take_name_above.new.f) read in
    let below = AllBelow-more (creators_in c.tops.cut) _ top.creator named.above so_far.below in
    let cut_is : c.raise.new.self ≡ c.tops.cut ++ top ∷ [] = c.raise.ensures ∙ raise-last c.tops.cut top named.index below in
    rw (cut_is, c.get-last.ensures.value, map-push)
    (ReadSoFar-more (λ taken. take_name_above (last_of (creators_in taken))) (take_cut (unread_of c.args.f.now)) c.in_ok-count.count c.tops.counter c.tops.last (creators_in c.tops.cut) c.tops.cut (unread_of c.tops.after) (unread_of c.take_name_above.new.f) top top.creator so_far (omega arith) (rw so_far.last_key at read) named.above)

pub returns : goal.returns
returns c = items_end (λ taken. take_name_above (last_of (creators_in taken))) c.in_ok-count.count c.tops.counter c.tops.cut (unread_of c.tops.after) (take_cut (unread_of c.args.f.now)) (omega arith) c.tops.invariant.rest
