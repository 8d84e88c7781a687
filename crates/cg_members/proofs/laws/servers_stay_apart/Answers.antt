use Rattle.cg_members.specs.MemberLaws.{members_of-apart}
use Rattle.cg_members.proofs.laws.servers_stay_apart.Goals as goal

pub returns : goal.returns
returns c = members_of-apart
