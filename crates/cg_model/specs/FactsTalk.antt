-- Facts about what the members of a configuration say: each may say it, each says what is due, and each is in the state that
-- what it was handed leads to.
use Rattle.std.specs.Prelude.{◌≡◌, ℕ, suc, ◌+◌, ◌==◌, true, false, ◌||◌, List, [], ◌∷◌, Option, Some, None, map, filter, filter_map, take, drop, length, IsTrue, IfSome}
use Rattle.std.specs.List.{list_all}
use Rattle.cg_base.specs.Cuts.{index_in}
use Rattle.cg_base.specs.Lists.{at_place, count_up}
use Rattle.cg_base.specs.Sets.{has, is_within}
use Rattle.cg_action.specs.declared.action.Action.{Action}
use Rattle.cg_knowledge.specs.declared.summary.Summary.{Summary}
use Rattle.cg_knowledge.specs.Summaries.{remaining}
use Rattle.cg_wire.specs.declared.message.Msg.{Msg}
use Rattle.cg_wire.specs.declared.message.Msg.TheVariants.{GreenItem}
use Rattle.cg_group.specs.declared.phase.Phase.{Phase}
use Rattle.cg_group.specs.declared.phase.Phase.TheVariants.{Regular, Transitional}
use Rattle.cg_group.specs.State.{Sent, phase_of, delivered_to}
use Rattle.cg_client.specs.Replica.{Held, State, RegPrim, TransPrim, Construct, No, Un, NonPrim, Left, Replica}
use Rattle.cg_client.specs.Requests.{is_creating}
use Rattle.cg_states.specs.Construct.{attempt_set}
use Rattle.cg_model.specs.World.{replica_of}
use Rattle.cg_model.specs.Chronicle.{Told, Chronicle}
use Rattle.cg_model.specs.Looks.{told_in, is_regular_in, members_in, ordered_in, sent_by, waiting_in, said_in}
use Rattle.cg_model.specs.Talk.{Talk, no_talk, talk_of, is_ended, is_legal, state_in, summary_in, item_in, announcer_in, act_in, due_items, due_announcement, known_up_to}
use Rattle.cg_model.specs.Levels.{lacks_announcement}

-- what was said in a configuration; and what was handed of it to a member
abbrev pub whole_talk : Chronicle → ℕ → Talk
whole_talk c conf = talk_of (ordered_in c conf)

abbrev pub handed_of : Chronicle → ℕ → ℕ → List (Sent Msg)
handed_of c conf p = take (delivered_to c.world.group p) (ordered_in c conf)

abbrev pub handed_talk : Chronicle → ℕ → ℕ → Talk
handed_talk c conf p = talk_of (handed_of c conf p)

-- every message with a place may stand there, and those of a member that wait for one may follow
pub record TalkLegal (c : Chronicle) : Type 0 where
  pub ordered : (conf : ℕ) → IsTrue (is_legal (members_in c conf) conf no_talk (ordered_in c conf))
  pub waiting : (conf p : ℕ) →
      IsTrue (is_legal (members_in c conf) conf (whole_talk c conf) (map (sent_by p) (waiting_in c conf p)))

-- the summary of what was told
abbrev pub summaries_of : Option Told → List Summary
summaries_of None = []
summaries_of (Some t) = t.summary ∷ []

-- each of the summaries is the one that its sender told in the configuration
abbrev pub AreTold : Chronicle → ℕ → List Summary → Type 0
AreTold c conf [] = Unit {0}
AreTold c conf (s ∷ heard) = (summaries_of (told_in c conf s.id) ≡ s ∷ []) × AreTold c conf heard

-- what a member has said, by kinds: its summary, the items and the announcement that are due behind what it was handed, and
-- actions only in a state that creates
pub record SaysWhatIsDue (set : List ℕ) (conf p : ℕ) (said : List Msg) (t : Talk) (told : Option Told) : Type 0 where
  pub summary : filter_map summary_in said ≡ summaries_of told
  pub items : filter_map item_in said ≡ due_items set t p
  pub announcement : filter_map announcer_in said ≡ due_announcement set t p
  pub actions : is_creating (state_in set conf t p) ≡ false → filter_map act_in said ≡ []

abbrev pub SentIffDue : Chronicle → Type 0
SentIffDue c =
    (conf p : ℕ) → IsTrue (is_regular_in c conf p) →
    SaysWhatIsDue (members_in c conf) conf p (said_in c conf p) (handed_talk c conf p) (told_in c conf p)

-- a summary that was placed is the one that its sender told
abbrev pub HeardIsTold : Chronicle → Type 0
HeardIsTold c = (conf : ℕ) → AreTold c conf (whole_talk c conf).heard

-- ---- states

-- the state of a replica in its transitional phase: in No some member of the attempt has announced nothing that it received
abbrev pub IsTransitional : Chronicle → ℕ → ℕ → Held → State → Type 0
IsTransitional c conf p h (NonPrim regular) = regular ≡ false
IsTransitional c conf p h (No at heard) =
    (at ≡ conf) × (is_within (attempt_set h) heard ≡ false)
    × IsTrue (list_all (λ q. has heard q || lacks_announcement c conf p q) (attempt_set h))
IsTransitional c conf p h Left = Unit {0}
IsTransitional c conf p h TransPrim = Unit {0}
IsTransitional c conf p h Un = Unit {0}
IsTransitional c conf p h _ = ⊥

-- the state of a replica is that to which what it was handed leads
abbrev pub IsStateIn : Chronicle → ℕ → Phase → Replica → Type 0
IsStateIn c p (Regular conf) r = r.state ≡ state_in (members_in c conf) conf (handed_talk c conf p) p
IsStateIn c p (Transitional conf set) r = IsTransitional c conf p r.held r.state
IsStateIn c p _ r = r.state ≡ NonPrim false

abbrev pub ModeFits : Chronicle → Type 0
ModeFits c = (p : ℕ) → IfSome (replica_of c.world p) (IsStateIn c p (phase_of c.world.group p))

-- ---- what is in the messages

-- a green item is that one of the greens which its sender had as it came, at its place
abbrev pub IsContent : List Action → Msg → Type 0
IsContent greens (GreenItem at a) = at_place greens at ≡ Some a
IsContent greens _ = Unit {0}

abbrev pub AreContents : List Action → List Msg → Type 0
AreContents greens [] = Unit {0}
AreContents greens (m ∷ said) = IsContent greens m × AreContents greens said

abbrev pub Content : Chronicle → Type 0
Content c = (conf p : ℕ) → IfSome (told_in c conf p) (λ t. AreContents t.greens (said_in c conf p))

-- ---- the numbers of actions

abbrev pub of_creator : ℕ → List Action → List Action
of_creator p actions = filter (λ a. a.id.creator == p) actions

-- how far a creator's actions are known behind so much of the talk
abbrev pub count_behind : Talk → ℕ → ℕ
count_behind t creator = known_up_to t.heard creator + length (of_creator creator t.acts)

-- the own actions that wait are those that were said and not handed yet
abbrev pub AreOnTheWay : Chronicle → ℕ → ℕ → Held → Type 0
AreOnTheWay c conf p h =
    h.own ≡ drop (length (of_creator p (handed_talk c conf p).acts)) (filter_map act_in (said_in c conf p))

-- behind what a member was handed, where actions are taken: outside of a primary component red, in one green; and who announces
-- an attempt knows all that it is to make green
abbrev pub AreNumbered : Chronicle → ℕ → ℕ → Held → State → Type 0
AreNumbered c conf p h (NonPrim true) =
    ((creator : ℕ) → index_in h.queue.red_cut creator ≡ count_behind (handed_talk c conf p) creator)
    × AreOnTheWay c conf p h
AreNumbered c conf p h RegPrim =
    ((creator : ℕ) → index_in h.queue.green_cut creator ≡ count_behind (handed_talk c conf p) creator)
    × (h.queue.reds ≡ []) × AreOnTheWay c conf p h
AreNumbered c conf p h (Construct at heard) = (creator : ℕ) →
    index_in h.queue.red_cut creator ≡ count_behind (handed_talk c conf p) creator
AreNumbered c conf p h _ = Unit {0}

abbrev pub AreNumberedAt : Chronicle → ℕ → Phase → Replica → Type 0
AreNumberedAt c p (Regular conf) r = AreNumbered c conf p r.held r.state
AreNumberedAt c p _ r = Unit {0}

-- the actions of a member go on where what some member knew as it came ends
pub record ActsNumbered (c : Chronicle) : Type 0 where
  pub said : (conf p : ℕ) → IsTrue (is_ended (members_in c conf) (whole_talk c conf)) →
      IsTrue (has (remaining (whole_talk c conf).heard) p) →
      (let acts = filter_map act_in (said_in c conf p) in
      map (λ a. a.id.index) acts ≡ count_up (suc (known_up_to (whole_talk c conf).heard p)) (length acts))
  pub handed : (p : ℕ) → IfSome (replica_of c.world p) (AreNumberedAt c p (phase_of c.world.group p))

pub record TalkFacts (c : Chronicle) : Type 0 where
  pub talk_legal : TalkLegal c
  pub sent_iff_due : SentIffDue c
  pub heard_is_told : HeardIsTold c
  pub mode_fits : ModeFits c
  pub content : Content c
  pub acts_numbered : ActsNumbered c
