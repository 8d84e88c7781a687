-- A replica that is read is up: its position is what its lines told, and its database is what the order makes up to there.
use Rattle.std.proofs.Common.{◌≡◌, ◌⊎◌, ℕ, ◌≤◌, List, [], length, Some, None, sym, ap, subst, ◌∙◌, inl, inr}
use Rattle.cg_db.specs.Apply.{fold_actions}
use Rattle.cg_queue.specs.Queue.{green_count}
use Rattle.cg_client.specs.Replica.{Replica}
use Rattle.cg_model.specs.World.{World, no_world, replica_of}
use Rattle.cg_model.specs.Admission.{takes_part}
use Rattle.cg_model.specs.Run.{Step, IsRunFrom}
use Rattle.cg_model.specs.Shown.{order_of, ordered_actions, position_of}
use Rattle.cg_agree_lemmas.specs.MadeAlone.{takes-part, is-running}
use Rattle.cg_agree_lemmas.specs.SoundWorlds.{sound-of, sound-same}
use Rattle.cg_items_agree.proofs.SessionsBehind.{Laws, StandsBehind, stands-behind}
use Rattle.cg_base.specs.ElementLaws.{HasLast, last-of}
use Rattle.cg_model.specs.RunLaws.{world-last, world_of, chronicle_of}

pub record ReadAt (steps : List Step) (p : ℕ) : Type 0 where
  pub replica : Replica
  pub runs : replica_of (world_of steps) p ≡ Some replica
  pub position : position_of p steps ≡ green_count replica.held.queue
  pub within : position_of p steps ≤ length (order_of steps)
  pub db : replica.held.db ≡ fold_actions (ordered_actions steps (position_of p steps))

pub read-at : Laws → (steps : List Step) → IsRunFrom no_world steps → (p : ℕ) → takes_part (world_of steps) p ≡ None → ReadAt steps p
read-at laws steps run p takes =
    let behind = stands-behind laws steps run in
    let w = world_of steps in
    let c = chronicle_of steps in
    let sound = sound-same w c.world behind.stands.same (sound-of c behind.stands.facts) in
    let up = is-running w p (sound.up p ∙ (takes-part w p takes).up) in
    at behind up.replica up.is (last-of steps) where
      at : StandsBehind steps → (r : Replica) → replica_of (world_of steps) p ≡ Some r → (steps ≡ []) ⊎ HasLast steps → ReadAt steps p
      at behind r is (inl none) = absurd (let clash : None ≡ Some r = sym (ap (λ xs. replica_of (world_of xs) p) none) ∙ is in cc)
      at behind r is (inr some) =
          let there : replica_of some.last.world p ≡ Some r =
          ap (λ (v : World). replica_of v p) (sym (world-last no_world some.front some.last)) ∙ ap (λ xs. replica_of (world_of xs) p) (sym some.is) ∙ is in
          let prefix = behind.agree.prefix.held some.front some.last p r ([], some.is) there in
          let db = behind.agree.fold_answers.held some.front some.last p r ([], some.is) there in
          let position = behind.tells.position p r is in
          record {
            replica = r;
            runs = is;
            position = position;
            within = subst (λ n. n ≤ length (order_of steps)) (sym position) (subst (λ xs. green_count r.held.queue ≤ length (order_of xs)) (sym some.is) prefix.0.0);
            db = db ∙ ap (λ xs. fold_actions (ordered_actions xs (green_count r.held.queue))) (sym some.is) ∙ ap (λ n. fold_actions (ordered_actions steps n)) (sym position);
          }
