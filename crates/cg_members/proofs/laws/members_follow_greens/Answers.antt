use Rattle.cg_members.specs.MemberLaws.{members_of-more}
use Rattle.cg_members.proofs.laws.members_follow_greens.Goals as goal

pub returns : goal.returns
returns c = members_of-more
