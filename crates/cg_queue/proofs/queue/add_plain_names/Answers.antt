use Rattle.std.proofs.Common.{◌≡◌, ◌∙◌, ◌++◌, ◌+◌, ◌-◌, suc, length, ap, sym, arith}
use Rattle.std.proofs.lemmas.Bool.{eqb-true}
use Rattle.cg_base.specs.declared.action_id.ActionId.{ActionId}
use Rattle.cg_base.specs.Cuts.{index_in}
use Rattle.cg_base.specs.IdRuns.{names_above}
use Rattle.cg_queue.specs.Body.{parts_of}
use Rattle.cg_queue.proofs.RowLemmas.{append-nothing}
use Rattle.cg_queue.proofs.Soundness.{OnOk_with}
use Rattle.cg_queue.proofs.PlainReds.{lane-names, plain-listed, plain-begins, plain-ends}
use Rattle.cg_queue.proofs.queue.add_plain_names.Goals as goal
use Rattle.std.proofs.lemmas.List.{nil_from_length}

pub returns-then-is_empty : goal.returns-then-is_empty
returns-then-is_empty c =
    let b = parts_of c.args.body.now in
    let slot = c.args.slot in
    let creator : c.known-creator.result ≡ suc slot = omega arith in
    let none : length b.yellow ≡ 0 = sym c.args.body.now.yellow.ok.0 ∙ eqb-true _ 0 (sym c.is_empty.ensures ∙ c.if-is_empty.true) in
    let is_low = c.get-low.ensures ∙ ap (index_in b.green_cut) creator in
    let is_high = c.get-high.ensures ∙ ap (index_in b.red_cut) creator in
    OnOk_with c.push_run.result c.push_run.ensures.ok (λ put.
    put ∙ ap (λ ids. c.args.ids.now ++ ids)
    (ap (names_above c.get-low.result c.get-high.result) creator ∙ lane-names b slot c.get-low.result c.get-high.result c.requires.lane is_low is_high (nil_from_length b.yellow none)))

pub loop-index-init : goal.loop-index-init
loop-index-init c =
    let b = parts_of c.args.body.now in
    let creator : c.known-creator.result ≡ suc c.args.slot = omega arith in
    ap (λ ids. c.args.ids.now ++ ids) (plain-begins b c.args.slot c.get-low.result c.get-high.result c.requires.lane
    (c.get-low.ensures ∙ ap (index_in b.green_cut) creator) (c.get-high.ensures ∙ ap (index_in b.red_cut) creator))

pub loop-index-preserved : goal.loop-index-preserved
loop-index-preserved c =
    let b = parts_of c.args.body.now in
    let index = c.loop-index.index in
    let creator : c.known-creator.result ≡ suc c.args.slot = omega arith in
    let id : ActionId = record { creator = c.known-creator.result; index = index + 1 } in
    plain-listed b c.args.slot c.get-low.result c.get-high.result c.requires.lane
    (c.get-low.ensures ∙ ap (index_in b.green_cut) creator) (c.get-high.ensures ∙ ap (index_in b.red_cut) creator)
    index (index - c.get-low.result) id c.loop-index.ids c.push_plain.new.ids (omega arith) c.loop-index-test.true (omega arith) creator (omega arith) c.in_ok-push_plain.ensures
    ∙ c.loop-index.invariant

pub returns : goal.returns
returns c =
    let b = parts_of c.args.body.now in
    let index = c.loop-index.index in
    let creator : c.known-creator.result ≡ suc c.args.slot = omega arith in
    sym (append-nothing c.loop-index.ids)
    ∙ ap (λ ids. c.loop-index.ids ++ ids) (sym (plain-ends b c.args.slot c.get-low.result c.get-high.result c.requires.lane
    (c.get-low.ensures ∙ ap (index_in b.green_cut) creator) (c.get-high.ensures ∙ ap (index_in b.red_cut) creator) index (omega arith)))
    ∙ c.loop-index.invariant
