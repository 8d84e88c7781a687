use Rattle.std.proofs.Common.{◌≡◌, ◌<◌, Some, length, sym, ap, subst, ◌∙◌, rules}
use Rattle.cg_follow.specs.Bytes.{feed_in}
use Rattle.cg_follow.proofs.Feeding.{takes-time}
use Rattle.cg_follow.proofs.Leading.{feed-in}
use Rattle.cg_follow.proofs.follower.Follower.feed.Goals as goal

pub take-requires-clause-is : goal.take-requires-clause-is
take-requires-clause-is g c =
    let actions = c.as_slice.result.now in
    let some : 0 < length actions = search rules in
    let read = feed-in c.followers_are_exact.ensures.exact actions
    (record { some = some; actions = c.in-Ok.ensures.within }) in
    subst (λ l. feed_in c.deref.result.now ≡ Some l) (c.as_slice.ensures ∙ sym c.as_slice-in-Ok.ensures)
    (ap feed_in (c.deref.ensures.value ∙ c.in-Ok.ensures.spelled) ∙ read)

pub returns-in-Ok-clause-time : goal.returns-in-Ok-clause-time
returns-in-Ok-clause-time g c =
    let same = c.as_slice-in-Ok.result.now in
    takes-time g.D.Disk.view c.args.self same c.take.result c.take.ensures.ends
