use Rattle.std.proofs.Common.{◌≡◌, None, subst}
use Rattle.cg_follow.specs.declared.event.FollowEvent.{FollowEvent}
use Rattle.cg_follower_list.specs.Followers.{unknown_follower, follower_down, follower_up}
use Rattle.cg_items.specs.Followers.{follow_refusal}
use Rattle.cg_run.proofs.Tests.{second-none}
use Rattle.cg_run.proofs.following.follow_acts.Goals as goal

pub stop-requires : goal.stop-requires
unfolding follow_refusal
stop-requires c =
    let fs = c.args.followers.now in
    let admitted = subst (λ (e : FollowEvent). follow_refusal c.args.world.now.world fs e ≡ None) c.in-Stop.is c.requires in
    second-none (unknown_follower fs c.in-Stop.f) (follower_down fs c.in-Stop.f) admitted

pub recover-requires : goal.recover-requires
unfolding follow_refusal
recover-requires c =
    let fs = c.args.followers.now in
    let admitted = subst (λ (e : FollowEvent). follow_refusal c.args.world.now.world fs e ≡ None) c.in-Recover.is c.requires in
    second-none (unknown_follower fs c.in-Recover.f) (follower_up fs c.in-Recover.f) admitted

pub answer-requires : goal.answer-requires
unfolding follow_refusal
answer-requires c =
    let fs = c.args.followers.now in
    let admitted = subst (λ (e : FollowEvent). follow_refusal c.args.world.now.world fs e ≡ None) c.in-Weak.is c.requires in
    second-none (unknown_follower fs c.in-Weak.f) (follower_down fs c.in-Weak.f) admitted
