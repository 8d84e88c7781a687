use Rattle.std.proofs.Common.{◌≡◌, refl, ◌∙◌, List, [], ℕ}
use Rattle.cg_disk.specs.Law.{is_view_of}
use Rattle.cg_disk.specs.Model.{view_of, state_of}
use Rattle.cg_store.specs.Formats.{Standing, newer}
use Rattle.cg_model.specs.Step.{crashed}
use Rattle.cg_world_events.specs.Nodes.{changed}
use Rattle.cg_world_events.specs.Seen.{FallsTo, fallen, up_seen}
use Rattle.cg_world_events.proofs.Crashing.{falls_to, falls_seen, if_ok_then}
use Rattle.cg_world_events.proofs.rising.stop.Goals as goal

pub from_wreck-requires-clause-falls : goal.from_wreck-requires-clause-falls
from_wreck-requires-clause-falls c =
    let e = c.args.engine in
    let follows = c.holds.ensures.follows in
    (newer follows.standing, falls_to view_of e c.stop.result c.stop.ensures (is_view_of e.store.disk) c.holds.ensures.rest (state_of e.store.disk) refl follows.standing follows.stands)

pub returns : goal.returns
returns c =
    let e = c.args.engine in
    let w = c.stop.result in
    let follows = c.holds.ensures.follows in
    let u = follows.standing in
    let falls = falls_to view_of e w c.stop.ensures (is_view_of e.store.disk) c.holds.ensures.rest (state_of e.store.disk) refl u follows.stands in
    if_ok_then c.from_wreck.result (λ n. (s : Standing) → FallsTo view_of w [] s → n ≡ fallen w s) (λ s. (fill : List ℕ) → s ≡ changed (up_seen view_of e fill) (crashed (up_seen view_of e fill).life))
    (λ s is fill. is (newer u) falls ∙ falls_seen view_of e w c.stop.ensures (is_view_of e.store.disk) c.holds.ensures.rest (state_of e.store.disk) refl u follows.stands fill) c.from_wreck.ensures
