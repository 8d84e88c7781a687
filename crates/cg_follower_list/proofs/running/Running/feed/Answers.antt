use Rattle.std.proofs.Common.{◌≡◌, List, ℕ, Err, refl, sym, subst, ◌∙◌}
use Rattle.std.proofs.lemmas.Result.{IfOk-weaker}
use Rattle.cg_disk.specs.Model.{view_of, state_of}
use Rattle.cg_disk.specs.State.{left_by}
use Rattle.cg_disk.specs.declared.model_disk.ModelDisk.{ModelDisk}
use Rattle.cg_follow.specs.Answers.{Feeds}
use Rattle.cg_follow.specs.declared.errors.FollowErr.{FollowErr}
use Rattle.cg_follow.specs.Followed.{Followed}
use Rattle.cg_follow.specs.Stands.{Stands}
use Rattle.cg_follower_list.specs.Followers.{after_feed}
use Rattle.cg_follower_list.specs.Life.{Fallen}
use Rattle.cg_follower_list.specs.Seen.{seen}
use Rattle.cg_follower_list.proofs.Struck.{struck-feed}
use Rattle.cg_follower_list.proofs.running.Running.feed.Goals as goal

pub crash_follower-requires : goal.crash_follower-requires
crash_follower-requires c =
    let old = c.self.inside.follower in
    let begun = c.begin.new.self in
    let disk = c.in-Err-Lost.disk in
    let list = c.args.list.now in
    let ends = subst (λ (f : FollowErr ModelDisk). Feeds view_of begun list (Err f)) c.in-Err-Lost.field-0-is c.in-Err-Lost.ensures.ends in
    let so = struck-feed view_of old begun list disk (state_of begun.disk) (state_of disk) c.self.inside.fill c.args.self
    ends c.begin.ensures.disk c.begin.ensures.same c.self.view_is refl refl in
    (so.left, subst (λ (fill : List ℕ). Stands (left_by (state_of disk) fill) so.left) (sym c.as_slice.ensures) so.stands)

pub returns-in-Err-Lost : goal.returns-in-Err-Lost
returns-in-Err-Lost c =
    let old = c.self.inside.follower in
    let begun = c.begin.new.self in
    let disk = c.in-Err-Lost.disk in
    let list = c.args.list.now in
    let ends = subst (λ (f : FollowErr ModelDisk). Feeds view_of begun list (Err f)) c.in-Err-Lost.field-0-is c.in-Err-Lost.ensures.ends in
    let so = struck-feed view_of old begun list disk (state_of begun.disk) (state_of disk) c.self.inside.fill c.args.self
    ends c.begin.ensures.disk c.begin.ensures.same c.self.view_is refl refl in
    let stands = subst (λ (fill : List ℕ). Stands (left_by (state_of disk) fill) so.left) (sym c.as_slice.ensures) so.stands in
    IfOk-weaker c.crash_follower.result (λ s. (left : Followed) → Stands (left_by (state_of disk) c.as_slice.result.now) left → seen s ≡ Fallen left)
    (λ s. seen s ≡ after_feed list c.args.self.armed c.args.self.now) (λ s is. is so.left stands ∙ so.is) c.crash_follower.ensures
