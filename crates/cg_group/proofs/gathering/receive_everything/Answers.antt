use Rattle.std.proofs.Common.{◌≡◌, ◌∷◌, suc, Some, drop, sym, ap, ◌∙◌, fold, drop-cons, add-one}
use Rattle.std.proofs.lemmas.List.{drop_all}
use Rattle.cg_group.specs.Events.{receive_all}
use Rattle.cg_group.specs.Logs.{group_of}
use Rattle.cg_group.specs.Rosters.{found, regulars_of}
use Rattle.cg_group.proofs.RosterFacts.{found_at}
use Rattle.cg_group.proofs.Senders.{received-next}
use Rattle.cg_group.proofs.gathering.receive_everything.Goals as goal

pub loop-member-preserved : goal.loop-member-preserved
loop-member-preserved g c =
    let members = c.args.members.now in
    let i = c.loop-member.member-index in
    let s = c.member-item.result in
    let left = drop (suc i) members in
    let next : drop i members ≡ s ∷ left = drop-cons members i s c.loop-member-test.true ∙ ap (λ x. x ∷ left) (sym c.member-item.is) in
    let before = rw next at c.loop-member.invariant in
    let there : found members s.id ≡ Some s = rw (← c.member-item.is) at (found_at members 1 i s c.requires.ascends c.loop-member-test.true) in
    let changed = rw (c.regular_in.ensures, c.id.ensures) at c.receive_all_at.ensures in
    rw add-one (received-next c.loop-member.logs c.receive_all_at.new.logs members left s there changed ∙ before)

pub returns : goal.returns
returns g c =
    let members = c.args.members.now in
    let none = drop_all c.loop-member.member-index members c.loop-member-test.false in
    sym (ap (λ z. fold receive_all (group_of c.loop-member.logs members) (regulars_of z)) none) ∙ c.loop-member.invariant
