use Rattle.std.proofs.Common.{◌≡◌, [], fold, drop}
use Rattle.cg_group.proofs.RosterFacts.{with_sender}
use Rattle.cg_group.proofs.roster.Roster.senders.Given as goal

abbrev pub invariant-loop-member : goal.invariant-loop-member
invariant-loop-member g l = fold with_sender l.senders (drop l.member-index l.member-items) ≡ fold with_sender [] l.member-items
