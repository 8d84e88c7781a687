use Rattle.cg_follow.proofs.Leading.{records-lead, feeds-go-on}
use Rattle.cg_follow.proofs.RecordFields.{records-exact}
use Rattle.cg_follow.proofs.laws.followers_are_exact.Goals as goal

pub returns : goal.returns
returns c =
    let exact = records-exact c.lists_are_exact.ensures.actions c.lists_are_exact.ensures.entries in
    record { exact = exact; lead = records-lead exact; go_on = feeds-go-on }
