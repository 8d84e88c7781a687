use Rattle.std.proofs.Common.{◌≡◌, Bool, List, ℕ, rules}
use Rattle.std.specs.Map.{keys_of}
use Rattle.cg_text.specs.Order.{begins_with}
use Rattle.cg_db.proofs.KeyLemmas.{found_is, sorted_is}
use Rattle.cg_db.proofs.db.Db.keys_from.Goals as goal

pub returns : goal.returns
returns c =
    let es = c.self.inside.map.entries in
    let p : List ℕ → Bool = λ k. begins_with k c.args.prefix.now in
    let all : c.into_iter-key-iterator.result ≡ keys_of es = search rules in
    let is = found_is es p c.loop-key.found.items c.loop-key.key-iterator c.into_iter-key-iterator.result c.loop-key.invariant c.in-None.ensures.steps.0 all in
    rw (← c.self.view_is) (sorted_is es p c.loop-key.found.items c.sort.new.self.items c.keys-key-items.ensures.unique is c.in_ok-sort.ensures.permutation c.in_ok-sort.ensures.sorted)
