use Rattle.std.proofs.Common.{◌≡◌, IfOk, Option, None, refl, ap, subst, sym, ◌∙◌}
use Rattle.cg_disk.specs.declared.model_disk.ModelDisk.{ModelDisk}
use Rattle.cg_disk.specs.Crashes.{Arms}
use Rattle.cg_disk.specs.Model.{view_of, state_of}
use Rattle.cg_disk.specs.State.{Stops}
use Rattle.cg_disk_records.specs.Crash.{Strike, StopWith}
use Rattle.cg_model.specs.Show.{EventEffects}
use Rattle.cg_model.specs.World.{Node}
use Rattle.cg_engine.specs.Answers.{IsStill}
use Rattle.cg_engine.specs.Engines.{Fallen}
use Rattle.cg_store.specs.Formats.{Standing}
use Rattle.cg_store.specs.Migrating.{standing_left}
use Rattle.cg_world_events.specs.Nodes.{raised_under}
use Rattle.cg_world_events.specs.Seen.{down_seen, FallsTo, fallen}
use Rattle.cg_world_events.specs.SeenLaws.{down-seen}
use Rattle.cg_world_events.proofs.ComingUp.{rises_under, falls_there, stays_under}
use Rattle.cg_world_events.proofs.Crashing.{if_ok_then}
use Rattle.cg_world_events.proofs.rising.recover_engine_under.Goals as goal

pub returns-in-Running : goal.returns-in-Running
returns-in-Running c =
    let w = c.args.resting in
    let x = c.stop_at.new.self in
    let n = c.args.call in
    let fill = c.args.fill.now in
    let made = c.args.made.now in
    let rests = c.into_wreck-wreck.ensures.rests in
    let strike : Strike = record { call = n; fault = StopWith fill } in
    let arms = subst (λ (v : Fallen ModelDisk). Arms Stops n (view_of v.disk) (view_of x.disk)) c.into_wreck-wreck.ensures.wreck c.stop_at.ensures.disk in
    let still = subst (λ (v : Fallen ModelDisk). IsStill v x) c.into_wreck-wreck.ensures.wreck c.stop_at.ensures.rest in
    let e = c.in-Running.engine in
    subst (λ (up : Node × Option EventEffects). IfOk c.go_up.result (λ x. x ≡ up))
    (rises_under view_of w x n fill arms still rests.standing rests.stands (state_of w.disk) refl e c.disarmed.result c.in-Running.green c.in-Running.ensures c.disarmed.ensures.rest c.disarmed.ensures.disk (state_of e.store.disk) refl made
    ∙ sym (ap (λ (n : Node). raised_under made strike n) (down-seen view_of w rests.standing rests.stands))) c.go_up.ensures

pub stay_down-requires : goal.stay_down-requires
stay_down-requires c =
    let w = c.args.resting in
    let x = c.stop_at.new.self in
    let n = c.args.call in
    let fill = c.args.fill.now in
    let rests = c.into_wreck-wreck.ensures.rests in
    let arms = subst (λ (v : Fallen ModelDisk). Arms Stops n (view_of v.disk) (view_of x.disk)) c.into_wreck-wreck.ensures.wreck c.stop_at.ensures.disk in
    let still = subst (λ (v : Fallen ModelDisk). IsStill v x) c.into_wreck-wreck.ensures.wreck c.stop_at.ensures.rest in
    let y = c.in-Down.lost in (
      standing_left rests.standing n Stops fill,
      falls_there view_of w x n fill arms still rests.standing rests.stands (state_of w.disk) refl rests.rest y c.in-Down.ensures.0 c.in-Down.ensures.1 (state_of y.disk) refl,
    )

pub returns-in-Down : goal.returns-in-Down
returns-in-Down c =
    let w = c.args.resting in
    let x = c.stop_at.new.self in
    let n = c.args.call in
    let fill = c.args.fill.now in
    let made = c.args.made.now in
    let rests = c.into_wreck-wreck.ensures.rests in
    let strike : Strike = record { call = n; fault = StopWith fill } in
    let arms = subst (λ (v : Fallen ModelDisk). Arms Stops n (view_of v.disk) (view_of x.disk)) c.into_wreck-wreck.ensures.wreck c.stop_at.ensures.disk in
    let still = subst (λ (v : Fallen ModelDisk). IsStill v x) c.into_wreck-wreck.ensures.wreck c.stop_at.ensures.rest in
    let y = c.in-Down.lost in
    let left = standing_left rests.standing n Stops fill in
    let falls = falls_there view_of w x n fill arms still rests.standing rests.stands (state_of w.disk) refl rests.rest y c.in-Down.ensures.0 c.in-Down.ensures.1 (state_of y.disk) refl in
    let stays = stays_under view_of w x n fill arms still rests.standing rests.stands (state_of w.disk) refl rests.rest y c.in-Down.ensures.0 c.in-Down.ensures.1 (state_of y.disk) refl made in
    if_ok_then c.stay_down.result (λ v. (s : Standing) → FallsTo view_of y fill s → v ≡ (fallen y s, None))
    (λ v. v ≡ raised_under made strike (down_seen view_of w))
    (λ v is. is left falls ∙ stays ∙ sym (ap (λ (n : Node). raised_under made strike n) (down-seen view_of w rests.standing rests.stands))) c.stay_down.ensures
