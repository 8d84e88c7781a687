use Rattle.std.proofs.Common.{◌≡◌, ◌-◌, ◌≤◌, inr, length, take, Ok, sym, ◌∙◌, ap, subst, arith}
use Rattle.cg_codec.specs.Laws.{AreBytes}
use Rattle.cg_codec.specs.Reading.{Unread, behind}
use Rattle.cg_codec.specs.Taking.{unread_of}
use Rattle.cg_records.specs.Bytes.{spelled_stable}
use Rattle.cg_records.specs.Limits.{IsStable}
use Rattle.cg_records.specs.Reading.{take_stable}
use Rattle.cg_store.proofs.Repeated.{repeated, recent, left-within}
use Rattle.cg_store.proofs.last_values.LastValues.take.Goals as goal

pub returns-then-is_repeated-clause-read : goal.returns-then-is_repeated-clause-read
returns-then-is_repeated-clause-read c =
    let last = c.args.self.now in
    let n = length last.front.now in
    repeated last.front.now c.args.body.now last.values c.requires (c.is_repeated.ensures c.if-is_repeated.true)
    ∙ ap (λ (u : Unread). Ok (last.values, u)) (sym (c.skip.ensures.left ∙ ap (behind n) c.new-fields.ensures))

pub slice_bounds-front-count : goal.slice_bounds-front-count
slice_bounds-front-count c =
    let bytes : AreBytes c.args.body.now = subst AreBytes (ap (λ (u : Unread). u.bytes) c.new-fields.ensures) c.are_bytes.ensures in
    let left = unread_of c.take_stable.new.f in
    let within : length left.bytes ≤ length c.args.body.now = left-within c.args.body.now c.in_ok-values.values left bytes (sym (ap take_stable c.new-fields.ensures) ∙ c.in_ok-values.ensures) in
    omega (arith, within, c.left.ensures)

pub returns-clause-recent : goal.returns-clause-recent
returns-clause-recent c =
    let bytes : AreBytes c.args.body.now = subst AreBytes (ap (λ (u : Unread). u.bytes) c.new-fields.ensures) c.are_bytes.ensures in
    let left = unread_of c.take_stable.new.f in
    let values = c.in_ok-values.values in
    let is : IsStable values × (take (length c.args.body.now - length left.bytes) c.args.body.now ≡ spelled_stable values) =
    recent c.args.body.now values left bytes (sym (ap take_stable c.new-fields.ensures) ∙ c.in_ok-values.ensures) in
    inr (is.0, ap (λ n. take (length c.args.body.now - n) c.args.body.now) c.left.ensures ∙ is.1)
