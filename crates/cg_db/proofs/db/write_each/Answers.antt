use Rattle.std.proofs.Common.{◌≡◌, [], ◌∷◌, length, sym, ap, ◌∙◌, rules, arith}
use Rattle.std.proofs.lemmas.List.{nil_from_length}
use Rattle.std.specs.Vec.Iter.{into_iter_items}
use Rattle.cg_db.specs.View.{of_entries}
use Rattle.cg_db.specs.Plan.{with_changes}
use Rattle.cg_db.proofs.PlanLemmas.{written_more, written_all}
use Rattle.cg_db.proofs.db.write_each.Goals as goal

pub loop-change-preserved : goal.loop-change-preserved
loop-change-preserved c =
    let left = into_iter_items c.loop-change.change-iterator in
    let rest = into_iter_items c.next.new.self in
    let first : left ≡ c.in-Some.change ∷ rest = search rules in
    let total = with_changes (of_entries c.args.map.now.entries) (into_iter_items c.into_iter-change-iterator.result) in
    record {
      same = written_more (of_entries c.loop-change.map.entries) (of_entries c.write_one.new.map.entries) c.in-Some.change left rest total first c.write_one.ensures.changed c.loop-change.invariant.same;
      room = omega (arith, ap length first);
      used = omega (arith, ap length first);
    }

pub returns-clause-changed : goal.returns-clause-changed
returns-clause-changed c =
    let left = into_iter_items c.loop-change.change-iterator in
    let none : left ≡ [] = nil_from_length left (sym c.loop-change.change-iterator.rest.ok.0 ∙ c.in-None.ensures.steps.0) in
    let all : into_iter_items c.into_iter-change-iterator.result ≡ c.args.changes.items = search rules in
    let total = with_changes (of_entries c.args.map.now.entries) (into_iter_items c.into_iter-change-iterator.result) in
    let written = written_all (of_entries c.loop-change.map.entries) left total none c.loop-change.invariant.same in
    rw all at written

pub returns-clause-room : goal.returns-clause-room
returns-clause-room c =
    let left = into_iter_items c.loop-change.change-iterator in
    let none : left ≡ [] = nil_from_length left (sym c.loop-change.change-iterator.rest.ok.0 ∙ c.in-None.ensures.steps.0) in
    let all : into_iter_items c.into_iter-change-iterator.result ≡ c.args.changes.items = search rules in
    omega (arith, ap length none, ap length all)
