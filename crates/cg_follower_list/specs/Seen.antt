-- A follower with its disk, as how it stands.
use Rattle.cg_follower_list.specs.Life.{Life, Up, Fallen}
use Rattle.cg_follower_list.specs.declared.follower_state.FollowerState.{FollowerState}
use Rattle.cg_follower_list.specs.declared.follower_state.FollowerState.TheVariants as held

abbrev pub seen : FollowerState → Life
seen (held.Up r) = Up r.now r.armed
seen (held.Down left) = Fallen left
