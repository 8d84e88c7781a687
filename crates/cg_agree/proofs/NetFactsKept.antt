-- Every small step keeps the net facts: each of them, from the whole invariant.
use Rattle.std.proofs.Common.{◌≡◌, true}
use Rattle.cg_model.specs.Chronicle.{Chronicle}
use Rattle.cg_model.specs.Facts.{Invariant}
use Rattle.cg_model.specs.FactsNet.{MembersBegun, ReceiptsFixed, Hosted, NetFacts}
use Rattle.cg_model.specs.Small.{Small, small_step}
use Rattle.cg_model.specs.Smalls.{may_make}
use Rattle.cg_agree.proofs.BegunKept.{members_begun-kept}
use Rattle.cg_agree.proofs.FixedKept.{receipts_fixed-kept}
use Rattle.cg_agree_lemmas.specs.GroupKept.{group-kept}
use Rattle.cg_agree_lemmas.specs.GroupSound.{inside-of, closed-of}
use Rattle.cg_agree.proofs.PastKept.{past_left-kept}
use Rattle.cg_agree.proofs.HostedKept.{hosted-kept}
use Rattle.cg_agree_lemmas.specs.UnorderedKept.{unordered_regular-kept}
use Rattle.cg_agree.proofs.AttemptSteps.{group-of}

pub fixed-in : (c : Chronicle) (s : Small) → Invariant c → may_make c s ≡ true → ReceiptsFixed c (small_step c s)
fixed-in c s i m = receipts_fixed-kept c s i.net.hosted m (group-of c i)

pub net-kept : (c : Chronicle) (s : Small) → Invariant c → may_make c s ≡ true → NetFacts (small_step c s)
net-kept c s i m =
    let d = small_step c s in
    let group = group-kept c s i.net.hosted m (group-of c i) in
    record {
      hosted = hosted-kept c s i.net.hosted i.net.phase_sound i.replica.mode_data m;
      phase_sound = group.phases;
      receipts_inside = inside-of d group;
      sender_closed = closed-of d group;
      handed_received = group.handed;
      unordered_regular = unordered_regular-kept c s m i.net.unordered_regular;
      members_begun = members_begun-kept c s i.net.hosted (group-of c i) i.replica.cores i.replica.disk_behind i.replica.mode_data m i.net.members_begun;
      past_left = past_left-kept c s i.net.hosted (group-of c i) i.replica.mode_data m i.net.past_left;
    }

pub members_begun-in : (c : Chronicle) (s : Small) → Invariant c → may_make c s ≡ true → MembersBegun (small_step c s)
members_begun-in c s i m = (net-kept c s i m).members_begun

pub hosted-in : (c : Chronicle) (s : Small) → Invariant c → may_make c s ≡ true → Hosted (small_step c s)
hosted-in c s i m = (net-kept c s i m).hosted
