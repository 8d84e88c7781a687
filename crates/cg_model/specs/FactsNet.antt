-- Facts about the group: who is where, and what each has received.
use Rattle.std.specs.Prelude.{◌≡◌, ℕ, ◌≤◌, ◌<◌, true, false, [], map, length, is_some, IsTrue, IfSome}
use Rattle.cg_members.specs.Servers.{members_of, was_ever}
use Rattle.cg_group.specs.declared.phase.Phase.{Phase}
use Rattle.cg_group.specs.declared.phase.Phase.TheVariants.{Regular, Transitional}
use Rattle.cg_group.specs.State.{phase_of, is_up, is_regular, delivered_to, unordered_of, has_received}
use Rattle.cg_group.specs.Refusals.{sender_at}
use Rattle.cg_model.specs.World.{has_begun, replica_of}
use Rattle.cg_model.specs.Chronicle.{Chronicle, no_chronicle}
use Rattle.cg_model.specs.Looks.{past_of, stood_of, disk_held, snapshots_for, copies_for, told_in, is_regular_in, is_in, conf_of, ordered_in, is_member, received_by_all}

-- a replica in one of the phases of a configuration is a member of it, and a regular one was handed places that are there
abbrev pub IsPhase : Chronicle → ℕ → ℕ → Phase → Type 0
IsPhase c p delivered (Regular conf) = (is_member c conf p ≡ true) × (delivered ≤ length (ordered_in c conf))
IsPhase c p delivered (Transitional conf set) = is_member c conf p ≡ true
IsPhase c p delivered _ = Unit {0}

pub record PhaseSound (c : Chronicle) : Type 0 where
  pub phase : (p : ℕ) → IsPhase c p (delivered_to c.world.group p) (phase_of c.world.group p)
  pub up : (p : ℕ) → is_some (replica_of c.world p) ≡ is_up c.world.group p

-- members alone receive, places that are there; the sender of a place has received it
pub record ReceiptsInside (c : Chronicle) : Type 0 where
  pub places : (conf : ℕ) → length (conf_of c conf).received ≡ length (ordered_in c conf)
  pub member : (conf p place : ℕ) → IsTrue (has_received (conf_of c conf) p place) → IsTrue (is_member c conf p)
  pub sender : (conf place : ℕ) → 0 < place → place ≤ length (ordered_in c conf) →
      IsTrue (has_received (conf_of c conf) (sender_at (conf_of c conf) place) place)

-- who has received a place has received the earlier ones of its sender
abbrev pub SenderClosed : Chronicle → Type 0
SenderClosed c =
    (conf p earlier place : ℕ) → 0 < earlier → earlier < place →
    sender_at (conf_of c conf) earlier ≡ sender_at (conf_of c conf) place →
    IsTrue (has_received (conf_of c conf) p place) → IsTrue (has_received (conf_of c conf) p earlier)

-- what was handed to a replica in its regular phase every member has received
abbrev pub HandedReceived : Chronicle → Type 0
HandedReceived c = (conf p : ℕ) → IsTrue (is_regular_in c conf p) →
    delivered_to c.world.group p ≤ received_by_all c conf

-- only who is regular has messages without a place
abbrev pub UnorderedRegular : Chronicle → Type 0
UnorderedRegular c = (p : ℕ) → is_regular c.world.group p ≡ false → unordered_of c.world.group p ≡ []

-- members have begun; who has begun is or was a server, of the start or as its own greens say; and so was who has told something,
-- as its greens said then
pub record MembersBegun (c : Chronicle) : Type 0 where
  pub member : (conf p : ℕ) → IsTrue (is_member c conf p) → IsTrue (has_begun c.world p)
  pub server : (p : ℕ) → IsTrue (has_begun c.world p) → IsTrue (was_ever (members_of c.start (stood_of c p)) p)
  pub told : (conf p : ℕ) → IfSome (told_in c conf p) (λ t. IsTrue (was_ever (members_of c.start t.greens) p))

-- who has told something in a configuration is a member of it, and is in no earlier one
pub record PastLeft (c : Chronicle) : Type 0 where
  pub member : (conf p : ℕ) → IsTrue (is_some (told_in c conf p)) → IsTrue (is_member c conf p)
  pub left : (conf p earlier : ℕ) → IsTrue (is_some (told_in c conf p)) → earlier < conf → is_in c earlier p ≡ false

-- a replica that has begun has greens and a disk of its own; a joiner has one snapshot at most, and with it the greens that its
-- giver had; before the start there is nothing
pub record Hosted (c : Chronicle) : Type 0 where
  pub past : (p : ℕ) → is_some (past_of c p) ≡ has_begun c.world p
  pub disk : (p : ℕ) → IfSome (disk_held c.world p) (λ h. h.id ≡ p)
  pub copied : (joiner : ℕ) → map (λ x. x.giver) (copies_for c joiner) ≡
      map (λ s. s.giver) (snapshots_for c.world joiner)
  pub once : (joiner : ℕ) → length (snapshots_for c.world joiner) ≤ 1
  pub before : c.world.nodes ≡ [] → c ≡ no_chronicle

pub record NetFacts (c : Chronicle) : Type 0 where
  pub hosted : Hosted c
  pub phase_sound : PhaseSound c
  pub receipts_inside : ReceiptsInside c
  pub sender_closed : SenderClosed c
  pub handed_received : HandedReceived c
  pub unordered_regular : UnorderedRegular c
  pub members_begun : MembersBegun c
  pub past_left : PastLeft c

-- Of a small step, and of an event: where a member isn't regular in a configuration with messages, what it has received there is fixed, and
-- it isn't regular there afterwards.
pub record ReceiptsFixed (c d : Chronicle) : Type 0 where
  pub receipts : (conf p place : ℕ) → 0 < length (ordered_in c conf) → is_regular_in c conf p ≡ false →
      has_received (conf_of d conf) p place ≡ has_received (conf_of c conf) p place
  pub stays_out : (conf p : ℕ) → 0 < length (ordered_in c conf) → is_regular_in c conf p ≡ false →
      is_regular_in d conf p ≡ false
