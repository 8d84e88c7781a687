use Rattle.std.proofs.Common.{sym, ◌∙◌, ap, fold}
use Rattle.std.proofs.lemmas.List.{drop_all}
use Rattle.cg_group.proofs.RosterFacts.{senders-all, with_sender}
use Rattle.cg_group.proofs.roster.Roster.senders.Goals as goal

pub returns : goal.returns
returns g c =
    let items = c.as_slice-member-items.result.now in
    let none = drop_all c.loop-member.member-index items c.loop-member-test.false in
    rw (← c.self.view_is, ← c.as_slice-member-items.ensures.value)
    (sym (ap (fold with_sender c.loop-member.senders) none) ∙ c.loop-member.invariant
    ∙ senders-all items (rw (← c.as_slice-member-items.ensures.value) at c.self.invariant))
