use Rattle.std.proofs.Common.{◌≡◌, ◌∙◌, sym, ap, rules, arith, to_z, of_z, to_z-of_z}
use Rattle.std.proofs.lemmas.Int.{ints}
use Rattle.std.specs.Prelude.{Some, None, pos, FitsSigned}
use Rattle.std.specs.Int.{w64}
use Rattle.cg_action.specs.declared.value.Value.TheVariants.{Int}
use Rattle.cg_action.specs.declared.effect.Effect.TheVariants.{Done}
use Rattle.cg_db.specs.Apply.{number_of}
use Rattle.cg_db.specs.Map.{put, value_of}
use Rattle.cg_db.specs.View.{of_entries}
use Rattle.cg_db.proofs.ViewLemmas.{of_entries-updated, value_of-of_entries, Ascends-of_entries}
use Rattle.cg_db.proofs.PlanLemmas.{applied}
use Rattle.cg_db.proofs.AloneLemmas.{run_inc}
use Rattle.cg_db.proofs.db.add_alone.Goals as goal

pub returns-in-Some-clause-ok : goal.returns-in-Some-clause-ok
returns-in-Some-clause-ok c =
    let es = c.args.map.now.entries in
    let key = c.args.key.now in
    let now = c.add_in_place.new.place in
    let has : value_of (of_entries es) key ≡ Some c.in-Some.place.now = value_of-of_entries es key ∙ search rules in
    let updates = (c.get_mut.follows.holds now).3 (search rules) in
    let written = of_entries-updated key c.args.map.now (c.get_mut.follows.lender now) (Some now) updates in
    let by : FitsSigned w64 c.args.by = c.ranges.by in
    let ran = (simp to_z-of_z at c.add_in_place.ensures) (of_entries es) key (Ascends-of_entries es) has in
    ran ∙ ap (λ db. applied db c.add_in_place.result) (sym written)

pub returns-clause-ok : goal.returns-clause-ok
returns-clause-ok c =
    let es = c.args.map.now.entries in
    let key = c.args.key.now in
    let none : value_of (of_entries es) key ≡ None = value_of-of_entries es key ∙ search rules in
    let by : FitsSigned w64 c.args.by = c.ranges.by in
    let put_in : of_entries c.put_entry.new.map.entries ≡ put (of_entries es) key (Int (to_z w64 (of_z w64 c.args.by))) = search rules in
    run_inc (of_entries es) key c.args.by (pos 0) (to_z w64 (of_z w64 c.args.by)) (ap (λ v. number_of v) none) (grind (arith, ints)) (omega (arith, ints)) ∙ ap (λ db. applied db Done) (sym put_in)
