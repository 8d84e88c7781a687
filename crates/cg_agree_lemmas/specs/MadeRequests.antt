-- The steps of requests are made of small steps: the request, its commit, and a crash inside of that.
use Rattle.std.proofs.Common.{◌≡◌, ℕ, true, false, not, List, [], ◌∷◌, Option, None, refl, sym, ap, ◌∙◌, is_some, is_none, subst, append-nil, flat_map}
use Rattle.std.specs.Option.{option_map_or}
use Rattle.std.proofs.lemmas.Bool.{and_from}
use Rattle.cg_action.specs.declared.command.Cmd.{Cmd}
use Rattle.cg_action.specs.declared.query.Query.{Query}
use Rattle.cg_action.specs.declared.action.Kind.{Kind}
use Rattle.cg_action.specs.declared.action.Kind.TheVariants.{Update, Join as JoinKind, Leave as LeaveKind}
use Rattle.cg_base.specs.Sets.{with_member}
use Rattle.cg_group.specs.State.{is_up}
use Rattle.cg_client.specs.Turn.{Turn, begin}
use Rattle.cg_client.specs.Requests.{request}
use Rattle.cg_states.specs.ReplicaStep.{Asks as AsksOf, replica_step}
use Rattle.cg_disk_records.specs.Crash.{EventEnd, Runs, Crashes as EndsInCrash, end_event}
use Rattle.cg_schedule.specs.declared.event.Event.{Event}
use Rattle.cg_schedule.specs.declared.event.Event.TheVariants.{Request, Join, Leave}
use Rattle.cg_model.specs.World.{Node, World, replica_of, is_left}
use Rattle.cg_model.specs.Admission.{first_refusal, takes_part, never_named}
use Rattle.cg_model.specs.AdmissionCalls.{id_used}
use Rattle.cg_model.specs.Show.{Moved, ended}
use Rattle.cg_model.specs.Step.{happens, world_step, quietly, hand}
use Rattle.cg_model.specs.Turns.{Taken, turns_of, taken, taken_as}
use Rattle.cg_model.specs.Small.{Small, Asks, take_request}
use Rattle.cg_model.specs.Smalls.{may_make, smalls_in, turns_as, ending, ending_as}
use Rattle.cg_model.specs.Played.{IsSame}
use Rattle.cg_agree_lemmas.specs.UnorderedKept.{first-none}
use Rattle.cg_agree_lemmas.specs.MadeQuietly.{IsMadeIn}
use Rattle.cg_agree_lemmas.specs.MadeAlone.{TakesPart, takes-part}
use Rattle.cg_agree_lemmas.specs.TurnWorlds.{turn-first, turn-ends, ended_in}
use Rattle.cg_agree_lemmas.specs.EventTurns.{is-up, IsWorld, hand-leads, end-same}
use Rattle.cg_agree_lemmas.specs.SmallWorlds.{small_in, may_in, played_in}
use Rattle.cg_group.specs.RefusalLaws.{refuse_none}

module _ (w : World) (e : Event) (named : List ℕ) (p : ℕ) (kind : Kind) where
  abbrev went : World
  went = record w { named = named }

  -- the event is a request of this kind, and so are its small steps
  pub record IsRequest : Type 0 where
    pub moves : world_step w e ≡ ended (hand (quietly went) p (AsksOf kind))
    pub turns : turns_of w e ≡ taken w p (AsksOf kind)
    pub smalls : smalls_in w e ≡ turns_as (λ q. Asks q kind ∷ []) w e

  pub request-is : IsRequest → is_some (replica_of w p) ≡ true → is_left w p ≡ false → IsMadeIn w e
  unfolding small_in may_in may_make replica_step ended
  request-is is up stays =
      let here = is-up w p up in
      let r = here.replica in
      let disk = here.disk in
      let t = request (begin r) kind in
      let opening : List Small = Asks p kind ∷ [] in
      let k : Taken = record { id = p; before = r; disk = disk; turn = t; ended = end_event disk r.held t } in
      let turns : turns_of w e ≡ k ∷ [] = is.turns ∙ ap (λ (o : Option Node). option_map_or (λ s. taken_as p (AsksOf kind) s.life) o []) here.node in
      let steps : smalls_in w e ≡ ending_as k opening k.ended =
      is.smalls ∙ ap (λ list. made-of list) turns ∙ append-nil (ending_as k opening k.ended) in
      let ends = turn-ends w w.group p r disk t opening here.node (and_from (is_some (replica_of w p)) (not (is_left w p)) up (ap not stays), tt)
      (turn-first w w.group p r disk (take_request kind) here.node) refl in
      let leads = hand-leads (quietly went) p r disk (AsksOf kind) here.node in
      let same : IsSame (played_in w (ending_as k opening k.ended)) (ended (hand (quietly went) p (AsksOf kind))).world =
      end-same w w.group p t k.ended _ _ ends.1 (lined t k.ended leads) in
      rw steps (ends.0, subst (λ (m : Moved). IsSame (played_in w (ending_as k opening k.ended)) m.world) (sym is.moves) same) where
        made-of : List Taken → List Small
        made-of list = flat_map (ending (λ q. Asks q kind ∷ [])) list

        lined : (t : Turn) (end : EventEnd) → IsWorld (hand (quietly went) p (AsksOf kind)).world (ended_in went went.group p t end) →
            IsWorld (ended (hand (quietly went) p (AsksOf kind))).world (ended_in w w.group p t end)
        lined t (Runs r disk) is = record { group = is.group; nodes = is.nodes; snapshots = is.snapshots }
        lined t (EndsInCrash disk green) is = record { group = is.group; nodes = is.nodes; snapshots = is.snapshots }

-- who takes part hasn't left
pub stays-in : (w : World) (p : ℕ) → TakesPart w p → is_left w p ≡ false
stays-in w p takes = refuse_none (is_left w p) _ takes.rest

pub request-made : (w : World) (p : ℕ) (cmds : List Cmd) (query : Option Query) → ((q : ℕ) → is_some (replica_of w q) ≡ is_up w.group q) →
    first_refusal w (Request p cmds query) ≡ None → IsMadeIn w (Request p cmds query)
unfolding first_refusal world_step happens turns_of smalls_in
request-made w p cmds query ups admitted =
    let takes = takes-part w p admitted in
    request-is w (Request p cmds query) w.named p (Update cmds query) (record { moves = refl; turns = refl; smalls = refl }) (ups p ∙ takes.up) (stays-in w p takes)

pub join-made : (w : World) (p joiner weight : ℕ) → ((q : ℕ) → is_some (replica_of w q) ≡ is_up w.group q) →
    first_refusal w (Join p joiner weight) ≡ None → IsMadeIn w (Join p joiner weight)
unfolding first_refusal world_step happens turns_of smalls_in
join-made w p joiner weight ups admitted =
    let takes = takes-part w p (first-none (takes_part w p) (id_used w joiner ∷ []) (ap is_none admitted)).0 in
    request-is w (Join p joiner weight) (with_member w.named joiner) p (JoinKind joiner weight) (record { moves = refl; turns = refl; smalls = refl }) (ups p ∙ takes.up) (stays-in w p takes)

pub leave-made : (w : World) (p server : ℕ) → ((q : ℕ) → is_some (replica_of w q) ≡ is_up w.group q) →
    first_refusal w (Leave p server) ≡ None → IsMadeIn w (Leave p server)
unfolding first_refusal world_step happens turns_of smalls_in
leave-made w p server ups admitted =
    let takes = takes-part w p (first-none (takes_part w p) (never_named w server ∷ []) (ap is_none admitted)).0 in
    request-is w (Leave p server) w.named p (LeaveKind server) (record { moves = refl; turns = refl; smalls = refl }) (ups p ∙ takes.up) (stays-in w p takes)
