-- The facts of each replica by itself behind the small step in which one enters a new configuration.
use Rattle.std.proofs.Common.{ℕ}
use Rattle.cg_group.specs.State.{configuration}
use Rattle.cg_model.specs.Chronicle.{Chronicle}
use Rattle.cg_model.specs.Small.{Enters, coming, take_newest, newest_conf, small_step}
use Rattle.cg_agree_lemmas.specs.HeldCommit.{keeps-take_regular}
use Rattle.cg_agree_lemmas.specs.OneselfWorld.{AreOneself, HavePasts, turning-kept}

pub enters-oneself : (c : Chronicle) (p : ℕ) → HavePasts c → AreOneself c → AreOneself (small_step c (Enters p))
unfolding small_step
enters-oneself c p pasts before =
    let g = c.world.group in
    let come : AreOneself (coming c p) = record { memory = before.memory; disk = before.disk; snapshot = before.snapshot } in
    turning-kept (coming c p) p (take_newest g) pasts (keeps-take_regular (newest_conf g) (configuration g (newest_conf g)).members) come
