use Rattle.cg_follow.proofs.Staying.{stay-followers}
use Rattle.cg_follow.proofs.laws.followers_stay_followers.Goals as goal

pub returns : goal.returns
returns g c = stay-followers g.D.Disk.view
