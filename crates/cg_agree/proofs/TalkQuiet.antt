-- The small steps that receive and commit keep the facts about what is said; and a parting keeps them where it keeps the state.
use Rattle.std.proofs.Common.{◌≡◌, ℕ, true, false, List, [], ◌∷◌, ◌++◌, Option, Some, None, IfSome, refl, sym, ap, ap₂, ◌∙◌, ⊎_elim, eqb-true, subst, option_and_then}
use Rattle.std.specs.Prelude.{◌==◌}
use Rattle.std.specs.Option.{option_map_or}
use Rattle.std.proofs.lemmas.Bool.{cases_Bool, cond-true, cond-false, cond_both}
use Rattle.cg_base.specs.FindLaws.{found_passes}
use Rattle.cg_wire.specs.declared.message.Msg.{Msg}
use Rattle.cg_group.specs.declared.phase.Phase.{Phase}
use Rattle.cg_group.specs.declared.phase.Phase.TheVariants.{Transitional}
use Rattle.cg_group.specs.State.{Standing, GroupState, standing_of, phase_of, regular_in, delivered_to, unordered_of, set_standing}
use Rattle.cg_group.specs.Events.{send, send_from, send_all}
use Rattle.cg_group.specs.LookupLaws.{unordered_of-set}
use Rattle.cg_client.specs.Replica.{Held, Replica}
use Rattle.cg_client.specs.Turn.{Turn, begin}
use Rattle.cg_disk_records.specs.Crash.{Disk}
use Rattle.cg_disk_records.specs.Stored.{stored_of, whiten}
use Rattle.cg_model.specs.World.{NodeState, Up, Down as DownLife, Node, node_of, replica_of, running, set_life}
use Rattle.cg_model.specs.Chronicle.{Chronicle}
use Rattle.cg_model.specs.FactsNet.{PhaseSound}
use Rattle.cg_model.specs.FactsTalk.{IsStateIn, TalkFacts}
use Rattle.cg_model.specs.Small.{Receives, Commits, Leaves, small_step, turning_as, turning, commit_as, leaving, take_parting, with_group}
use Rattle.cg_model.specs.Smalls.{may_make}
use Rattle.cg_agree_lemmas.specs.GroupKept.{leaving-regular}
use Rattle.cg_agree_lemmas.specs.GroupTurn.{standing-id}
use Rattle.cg_agree_lemmas.specs.NextThere.{receives-now}
use Rattle.cg_agree_lemmas.specs.NumbersSame.{IsNumberedAs, SameNumbers, numbered-itself}
use Rattle.cg_agree_lemmas.specs.OneSteps.{leaves-step}
use Rattle.cg_agree_lemmas.specs.SmallTalk.{receive-is, receive-same}
use Rattle.cg_agree.proofs.TalkAlone.{replica-set}
use Rattle.cg_agree_lemmas.specs.TalkApart.{Apart, talk-apart}
use Rattle.cg_agree_lemmas.specs.TalkSame.{talk-same}
use Rattle.cg_agree_lemmas.specs.ToldKept.{told-same, told_in-same}
use Rattle.cg_agree_lemmas.specs.TurnTalk.{commit-same}

-- ---- a receipt

pub talk-receives : (c : Chronicle) (p place : ℕ) → PhaseSound c → may_make c (Receives p place) ≡ true → TalkFacts c → TalkFacts (small_step c (Receives p place))
unfolding small_step
talk-receives c p place sound may old =
    let now = receives-now c p place sound may in
    subst (λ (h : GroupState Msg). TalkFacts (with_group c h)) (sym (receive-is c p now.conf place now.regular now.number now.there))
    (talk-same c _ (receive-same c p now.conf place now.regular now.number now.there) (λ q. numbered-itself (replica_of c.world q)) old)

-- ---- a commit

whitened-numbers : (h : Held) → SameNumbers h (whiten h)
unfolding whiten
whitened-numbers h = record { green = refl; red = refl; reds = refl; own = refl }

commit-numbers : (c : Chronicle) (p : ℕ) (r new : Replica) (disk disk' : Disk) → node_of c.world p ≡ Some (record { id = p; life = Up r disk }) → new.state ≡ r.state → SameNumbers r.held new.held →
    (q : ℕ) → IsNumberedAs (replica_of c.world q) (replica_of (set_life c.world p (Up new disk')) q)
commit-numbers c p r new disk disk' node state numbers q = ⊎_elim
    (λ is.
    let before : replica_of c.world q ≡ Some r = ap (replica_of c.world) (eqb-true q p is) ∙ ap (option_and_then (λ (x : Node). running x.life)) node in
    let after : replica_of (set_life c.world p (Up new disk')) q ≡ Some new = replica-set c.world p (Up new disk') q ∙ cond-true (q == p) (Some new) (replica_of c.world q) is in
    subst (λ (o : Option Replica). IsNumberedAs o (replica_of (set_life c.world p (Up new disk')) q)) (sym before) (subst (λ (o : Option Replica). IsNumberedAs (Some r) o) (sym after) (state, numbers)))
    (λ isnt. subst (λ (o : Option Replica). IsNumberedAs (replica_of c.world q) o) (sym (replica-set c.world p (Up new disk') q ∙ cond-false (q == p) (Some new) (replica_of c.world q) isnt)) (numbered-itself (replica_of c.world q)))
    (cases_Bool (q == p))

pub talk-commits : (c : Chronicle) (p : ℕ) → TalkFacts c → TalkFacts (small_step c (Commits p))
unfolding small_step
talk-commits c p old = at (node_of c.world p) refl where
  life : (s : Node) (life : NodeState) → s.life ≡ life → s.id ≡ p → node_of c.world p ≡ Some s → TalkFacts (commit_as c p life)
  life s (Up r disk) is id e =
      let node = e ∙ ap₂ (λ i l. Some (record { id = i; life = l })) id is in
      talk-same c (commit_as c p (Up r disk)) (commit-same c p r disk node)
      (commit-numbers c p r (record r { held = whiten r.held }) disk (record disk { content = stored_of (whiten r.held) }) node refl (whitened-numbers r.held)) old
  life s (DownLife disk green) is id e = old

  at : (o : Option Node) → node_of c.world p ≡ o → TalkFacts (option_map_or (λ s. commit_as c p s.life) o c)
  at None e = old
  at (Some s) e = life s s.life refl (eqb-true s.id p (found_passes (λ (s : Node). s.id == p) c.world.nodes s e)) e

-- ---- a parting

-- what a replica says waits at no other
waits-send_from : (g : GroupState Msg) (p : ℕ) (o : Option (Standing Msg)) (m : Msg) → standing_of g p ≡ o → (q : ℕ) → (q == p) ≡ false → unordered_of (send_from g o m) q ≡ unordered_of g q
unfolding send_from
waits-send_from g p None m e q other = refl
waits-send_from g p (Some s) m e q other =
    let new : Standing Msg = record s { unordered = s.unordered ++ m ∷ [] } in
    cond_both (regular_in s.phase == 0) g (set_standing g new) (λ h. unordered_of h q ≡ unordered_of g q) (λ y. refl)
    (λ n. unordered_of-set g new q ∙ cond-false (q == s.id) new.unordered (unordered_of g q) (ap (λ i. q == i) (standing-id g p s e) ∙ other))

pub waits-sent : (p : ℕ) (ms : List Msg) (g : GroupState Msg) (q : ℕ) → (q == p) ≡ false → unordered_of (send_all g p ms) q ≡ unordered_of g q
unfolding send
waits-sent p [] g q other = refl
waits-sent p (m ∷ ms) g q other = waits-sent p ms (send_from g (standing_of g p) m) q other ∙ waits-send_from g p (standing_of g p) m refl q other

pub waits-turning : (c : Chronicle) (p : ℕ) (part : Turn → Turn) (q : ℕ) → (q == p) ≡ false → unordered_of (turning c p part).world.group q ≡ unordered_of c.world.group q
waits-turning c p part q other = at (node_of c.world p) where
  life : (l : NodeState) → unordered_of (turning_as c p part l).world.group q ≡ unordered_of c.world.group q
  life (Up r disk) = waits-sent p (part (begin r)).sent c.world.group q other
  life (DownLife disk green) = refl

  at : (o : Option Node) → unordered_of (option_map_or (λ s. turning_as c p part s.life) o c).world.group q ≡ unordered_of c.world.group q
  at None = refl
  at (Some s) = life s.life

pub replica-turning : (c : Chronicle) (p : ℕ) (part : Turn → Turn) (q : ℕ) → (q == p) ≡ false → replica_of (turning c p part).world q ≡ replica_of c.world q
replica-turning c p part q other = at (node_of c.world p) where
  life : (l : NodeState) → replica_of (turning_as c p part l).world q ≡ replica_of c.world q
  life (Up r disk) = replica-set c.world p (Up (part (begin r)).replica disk) q ∙ cond-false (q == p) (Some (part (begin r)).replica) (replica_of c.world q) other
  life (DownLife disk green) = refl

  at : (o : Option Node) → replica_of (option_map_or (λ s. turning_as c p part s.life) o c).world q ≡ replica_of c.world q
  at None = refl
  at (Some s) = life s.life

-- the replica's phase behind a parting
abbrev pub parted : Chronicle → ℕ → List ℕ → Phase
parted c p set = Transitional (regular_in (phase_of c.world.group p)) set

pub leaves-apart : (c : Chronicle) (p : ℕ) (set : List ℕ) (own : ℕ) (places : List ℕ) → PhaseSound c → may_make c (Leaves p set own places) ≡ true → Apart c (small_step c (Leaves p set own places)) p (parted c p set)
unfolding small_step
leaves-apart c p set own places sound may =
    let g = c.world.group in
    let d = small_step c (Leaves p set own places) in
    let step = leaves-step c p set own places sound (leaving-regular c p set own places may) in
    let b = leaving c p set own in
    record {
      conf = step.stands.conf;
      phase = step.stands.phase;
      out = λ k. refl;
      delivered = λ q other. step.stands.delivered q ∙ cond-false (q == p) own (delivered_to g q) other;
      waits = λ q other. waits-turning b p (take_parting g p set places) q other
          ∙ unordered_of-set g (record { id = p; phase = parted c p set; delivered = own; unordered = [] }) q ∙ cond-false (q == p) [] (unordered_of g q) other;
      told = told_in-same c d (told-same c (Leaves p set own places) tt);
      replica = λ q other. replica-turning b p (take_parting g p set places) q other;
    }

-- a parting keeps all of them, where the replica's state fits
pub talk-leaves : (c : Chronicle) (p : ℕ) (set : List ℕ) (own : ℕ) (places : List ℕ) → PhaseSound c → may_make c (Leaves p set own places) ≡ true →
    IfSome (replica_of (small_step c (Leaves p set own places)).world p) (IsStateIn (small_step c (Leaves p set own places)) p (parted c p set)) →
    TalkFacts c → TalkFacts (small_step c (Leaves p set own places))
talk-leaves c p set own places sound may state old =
    talk-apart c (small_step c (Leaves p set own places)) p (parted c p set) (leaves-apart c p set own places sound may) state old
