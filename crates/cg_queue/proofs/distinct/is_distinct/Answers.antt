use Rattle.std.proofs.Common.{◌≡◌, ◌<◌, ◌++◌, ◌+◌, [], ◌∷◌, drop, take, suc, false, refl, sym, ap, ◌∙◌, subst, arith}
use Rattle.std.proofs.lemmas.List.{take_all}
use Rattle.cg_base.specs.Ids.{has_name}
use Rattle.cg_base.specs.Cuts.{index_in}
use Rattle.cg_queue.specs.Distinct.{is_distinct}
use Rattle.cg_queue.specs.DistinctLaws.{distinct-behind}
use Rattle.cg_queue.proofs.NoneTwice.{AreBehind, behind-next, new-beyond, not_distinct, placed, taken-next}
use Rattle.cg_queue.proofs.distinct.is_distinct.Goals as goal
use Rattle.cg_queue.proofs.distinct.is_distinct.Goals.{else-id-get-via-then-id-get+else-has_name, else-id-get-via-else-id-get}

pub loop-i-init : goal.loop-i-init
loop-i-init c = record { behind = tt; distinct = refl }

pub returns-then-has_name : goal.returns-then-has_name
returns-then-has_name c =
    let ids = c.args.ids.now in
    let i = c.loop-i.i in
    let id = c.index-ids-i.result in
    sym (ap is_distinct (sym (placed i ids id c.loop-i-test.true c.index-ids-i.is))
    ∙ not_distinct (take i ids) (drop (suc i) ids) id (sym c.has_name.ensures ∙ c.if-has_name.true))

pub loop-i-preserved : goal.loop-i-preserved
loop-i-preserved c =
    let ids = c.args.ids.now in
    let i = c.loop-i.i in
    let id = c.index-ids-i.result in
    let cut = c.loop-i.last in
    let next : take i ids ++ id ∷ [] ≡ take (i + 1) ids =
    taken-next i ids id c.loop-i-test.true c.index-ids-i.is ∙ ap (λ n. take n ids) (let one : suc i ≡ i + 1 = omega arith in one) in
    let new : has_name (take i ids) id ≡ false = elim c.else-id-get.branch [
      | else-id-get-via-then-id-get+else-has_name w ↦ sym w.has_name.ensures ∙ w.if-has_name.false
      | else-id-get-via-else-id-get w ↦
          let top : c.get.result ≡ index_in cut id.creator = c.get.ensures in
          let over : c.get.result < id.index = w.if-id-get.false in
          new-beyond cut (take i ids) id c.loop-i.invariant.behind (omega arith)
    ] in
    record {
      behind = subst (λ l. AreBehind c.raise.new.self l) next
          (subst (λ l. AreBehind l (take i ids ++ id ∷ [])) (sym c.raise.ensures)
          (behind-next cut (take i ids) id c.holds.ensures c.loop-i.invariant.behind));
      distinct = ap is_distinct (sym next) ∙ distinct-behind (take i ids) id c.loop-i.invariant.distinct new;
    }

pub returns : goal.returns
returns c =
    let ids = c.args.ids.now in
    let all : take c.loop-i.i ids ≡ ids = take_all c.loop-i.i ids (omega arith) in
    sym (ap is_distinct (sym all) ∙ c.loop-i.invariant.distinct)
