use Rattle.std.proofs.Common.{◌≡◌, [], sym, ◌∙◌, rules}
use Rattle.std.proofs.lemmas.List.{nil_from_length}
use Rattle.std.specs.Vec.Iter.{into_iter_items}
use Rattle.cg_db.specs.Find.{keys_from}
use Rattle.cg_db.specs.Ascending.{Ascends}
use Rattle.cg_db.proofs.ViewLemmas.{Ascends-of_entries}
use Rattle.cg_db.proofs.KeyLemmas.{entries_are}
use Rattle.cg_db.proofs.db.Db.entries.Goals as goal

pub returns-clause-value : goal.returns-clause-value
returns-clause-value c =
    let db = c.args.self.now in
    let left = into_iter_items c.loop-key.key-iterator in
    let none : left ≡ [] = nil_from_length left (sym c.loop-key.key-iterator.rest.ok.0 ∙ c.in-None.ensures.steps.0) in
    let all : into_iter_items c.into_iter-key-iterator.result ≡ keys_from db [] = search rules in
    let up : Ascends db = rw (← c.self.view_is) (Ascends-of_entries c.self.inside.map.entries) in
    entries_are db c.loop-key.entries left (into_iter_items c.into_iter-key-iterator.result) c.loop-key.invariant none all up

pub returns-clause-ascends : goal.returns-clause-ascends
returns-clause-ascends c =
    rw (returns-clause-value c, ← c.self.view_is) (Ascends-of_entries c.self.inside.map.entries)
