-- The step of a merge is made of small steps: a configuration is made, and each member enters it and creates what it kept.
use Rattle.std.proofs.Common.{◌≡◌, ℕ, suc, ◌≤◌, true, false, not, ◌&&◌, List, [], ◌∷◌, Option, Some, None, map, fold, flat_map, length, refl, sym, ap, ap₂, ◌∙◌, subst, option_and_then, arith, eq-eqb}
use Rattle.std.specs.Prelude.{◌==◌}
use Rattle.std.specs.Option.{option_map_or}
use Rattle.std.specs.List.{list_all}
use Rattle.std.proofs.lemmas.Bool.{and_from, cond-true}
use Rattle.std.proofs.lemmas.List.Folds.{flat_map-map, fold-map}
use Rattle.cg_base.specs.Lists.{at_place, Each}
use Rattle.cg_base.specs.Sets.{has, IsSet}
use Rattle.cg_base.specs.Text.{is_nil}
use Rattle.cg_base.specs.ListLaws.{length-more}
use Rattle.cg_wire.specs.declared.message.Msg.{Msg}
use Rattle.cg_group.specs.declared.phase.Phase.{Phase}
use Rattle.cg_group.specs.declared.phase.Phase.TheVariants.{Down, Regular}
use Rattle.cg_group.specs.declared.delivery.Delivery.{Delivery}
use Rattle.cg_group.specs.declared.delivery.Delivery.TheVariants.{Regular as RegularIn}
use Rattle.cg_group.specs.declared.delivery.Handed.{Handed}
use Rattle.cg_group.specs.State.{Standing, Configuration, GroupState, no_configuration, standing_of, configuration, phase_of, regular_in, is_regular, set_standing}
use Rattle.cg_group.specs.Events.{send_all, become_regular, merge}
use Rattle.cg_group.specs.PlaceLaws.{at_place-last}
use Rattle.cg_client.specs.Replica.{Replica}
use Rattle.cg_client.specs.Turn.{Turn, begin}
use Rattle.cg_client.specs.Requests.{settle}
use Rattle.cg_states.specs.ReplicaStep.{Deliveries, replica_step}
use Rattle.cg_disk_records.specs.Crash.{Disk}
use Rattle.cg_schedule.specs.declared.event.Event.TheVariants.{Merge}
use Rattle.cg_model.specs.World.{Node, World, running, node_of, replica_of}
use Rattle.cg_model.specs.Show.{StepInProgress, ended}
use Rattle.cg_model.specs.Step.{happens, world_step, quietly, hand_over, hand_out}
use Rattle.cg_model.specs.Turns.{turns_of, turns_in, taken}
use Rattle.cg_model.specs.Small.{Small, Enters, Settles, make_configuration, newest_conf, take_all, take_newest}
use Rattle.cg_model.specs.Smalls.{is_set, is_between, may_come, may_make, smalls_in, ending, turns_as}
use Rattle.cg_model.specs.FactsLists.{IsRising}
use Rattle.cg_model.specs.Played.{IsSame}
use Rattle.cg_agree_lemmas.specs.PartsTaken.{part-settle}
use Rattle.cg_agree_lemmas.specs.GroupChanges.{DoRise}
use Rattle.cg_agree_lemmas.specs.MadeQuietly.{IsMadeIn, same-lined, set-is}
use Rattle.cg_agree_lemmas.specs.TurnWorlds.{hosted, up_node, runs-hosted, turn-first, part-joins}
use Rattle.cg_agree_lemmas.specs.EventTurns.{IsUp}
use Rattle.cg_agree_lemmas.specs.TogetherWorlds.{IsStill, IsMember, IsGoing, handed_among, smalls_among, turns_among, together}
use Rattle.cg_agree_lemmas.specs.SmallWorlds.{grouped, small_in, may_in, noting_nothing, played_in, MayIn}

-- the turns of a merge are those of its members
pub turns-merge : (w : World) (set : List ℕ) → turns_in w (merge w.group set) ≡ flat_map (λ q. taken w q (Deliveries (RegularIn (suc (length w.group.configurations)) set ∷ []))) set
unfolding merge
turns-merge w set = flat_map-map (λ (h : Handed Msg). taken w h.to (Deliveries h.list)) (λ (p : ℕ). (let h : Handed Msg = record { to = p; list = RegularIn (suc (length w.group.configurations)) set ∷ [] } in h)) set

module _ (w : World) (set : List ℕ) where
  abbrev g : GroupState Msg
  g = w.group

  abbrev pub conf : ℕ
  conf = suc (length g.configurations)

  abbrev fresh_conf : Configuration Msg
  fresh_conf = record { members = set; ordered = []; received = [] }

  abbrev pub made : GroupState Msg
  made = make_configuration g set

  abbrev pub entered : ℕ → Standing Msg
  entered q = record { id = q; phase = Regular conf; delivered = 0; unordered = [] }

  abbrev pub entered-id : (q : ℕ) → (entered q).id ≡ q
  entered-id q = refl

  abbrev pub input : ℕ → List (Delivery Msg)
  input q = RegularIn conf set ∷ []

  abbrev pub block : ℕ → List Small
  block q = Enters q ∷ Settles q ∷ []

  newest-is : (h : GroupState Msg) → h.configurations ≡ made.configurations → newest_conf h ≡ conf
  newest-is h same = ap length same ∙ length-more g.configurations fresh_conf

  conf-is : (h : GroupState Msg) → h.configurations ≡ made.configurations → configuration h conf ≡ fresh_conf
  unfolding configuration
  conf-is h same =
      ap (λ (list : List (Configuration Msg)). option_map_or (λ c. c) (at_place list conf) no_configuration) same
      ∙ ap (λ (o : Option (Configuration Msg)). option_map_or (λ c. c) o no_configuration)
      (at_place-last g.configurations fresh_conf conf (omega arith) ∙ cond-true (conf == suc (length g.configurations)) (Some fresh_conf) None (eq-eqb conf (suc (length g.configurations)) refl))

  -- a member comes from between two configurations
  pub record IsComing (p : ℕ) : Type 0 where
    pub here : IsUp w p
    pub member : has set p ≡ true
    pub out : is_regular g p ≡ false
    pub between : is_between here.replica.state ≡ true

  come-in : (p : ℕ) (is : IsComing p) (v : World) → node_of v p ≡ Some (up_node p is.here.replica is.here.disk) → phase_of v.group p ≡ phase_of g p →
      (not (is_regular v.group p) && option_map_or (λ (r : Replica). is_between r.state) (replica_of v p) false) ≡ true
  come-in p is v node phase =
      and_from _ _ (ap (λ (x : Phase). not (not (regular_in x == 0))) phase ∙ ap not is.out)
      (ap (λ (o : Option Node). option_map_or (λ (r : Replica). is_between r.state) (option_and_then (λ s. running s.life) o) false) node ∙ is.between)

  module _ (p : ℕ) (is : IsComing p) (v : World) (still : IsStill w made entered entered-id input block v p) where
    abbrev r : Replica
    r = is.here.replica

    abbrev disk : Disk
    disk = is.here.disk

    abbrev G : GroupState Msg
    G = set_standing v.group (entered p)

    abbrev u : Turn
    u = take_all (input p) (begin r)

    le : p ≤ p
    le = omega arith

    node : node_of v p ≡ Some (up_node p r disk)
    node = still.nodes p le ∙ is.here.node

    phase : phase_of v.group p ≡ phase_of g p
    unfolding standing_of
    phase = ap (λ (o : Option (Standing Msg)). option_map_or (λ s. s.phase) o Down) (still.standings p le)

    newest : newest_conf v.group ≡ conf
    newest = newest-is v.group still.configurations

    may-enters : may_in v (Enters p) ≡ true
    unfolding may_in may_make
    may-enters =
        let at : configuration v.group (newest_conf v.group) ≡ fresh_conf = ap (configuration v.group) newest ∙ conf-is v.group still.configurations in
        and_from _ _ (and_from _ _ (and_from _ _ (ap (λ (c : Configuration Msg). has c.members p) at ∙ is.member) (come-in p is v node phase))
        refl)
        (ap (λ (c : Configuration Msg). is_nil c.ordered) at)

    enters : small_in v (Enters p) ≡ hosted v p u.replica disk (send_all G p u.sent)
    unfolding small_in become_regular
    enters =
        let taken : take_newest v.group ≡ take_all (input p) =
        ap (λ n. take_all (RegularIn n (configuration v.group n).members ∷ [])) newest
        ∙ ap (λ (c : Configuration Msg). take_all (RegularIn conf c.members ∷ [])) (conf-is v.group still.configurations) in
        turn-first v (become_regular (newest_conf v.group) v.group p) p r disk (take_newest v.group) node
        ∙ ap₂ (λ n part. (let x : Turn = part (begin r) in hosted v p x.replica disk (send_all (become_regular n v.group p) p x.sent))) newest taken

    settled : small_in (hosted v p u.replica disk (send_all G p u.sent)) (Settles p) ≡ hosted v p (settle u).replica disk (send_all G p (settle u).sent)
    unfolding small_in
    settled = part-joins v G p disk u settle part-settle

    whole-turn : replica_step r (Deliveries (input p)) ≡ settle u
    unfolding replica_step
    whole-turn = refl

    may-settle : may_in (hosted v p u.replica disk (send_all G p u.sent)) (Settles p) ≡ true
    unfolding may_in may_make
    may-settle = runs-hosted v p u.replica disk (send_all G p u.sent)

    pub opens-so : MayIn v (block p) × (played_in v (block p) ≡ (let t = replica_step r (Deliveries (input p)) in hosted v p t.replica disk (send_all G p t.sent)))
    opens-so = (
      (may-enters, (subst (λ x. may_in x (Settles p) ≡ true) (sym enters) may-settle, tt)),
      ap (λ x. small_in x (Settles p)) enters ∙ settled ∙ ap (λ (t : Turn). hosted v p t.replica disk (send_all G p t.sent)) (sym whole-turn),
    )

  pub members-of : (list : List ℕ) → Each IsComing list → Each (IsMember w made entered entered-id input block) list
  members-of [] each = tt
  members-of (p ∷ list) each = (record { here = each.0.here; opens = λ v still. opens-so p each.0 v still }, members-of list each.1)

  all-come : (list : List ℕ) → Each IsComing list → list_all (may_come (noting_nothing w)) list ≡ true
  all-come [] each = refl
  all-come (p ∷ list) each = and_from _ _ (come-in p each.0 w each.0.here.node refl) (all-come list each.1)

  pub merge-is : IsSet set → is_nil set ≡ false → IsRising 0 set → IsRising 0 (map (λ s. s.id) w.nodes) → DoRise g → Each IsComing set → IsMadeIn w (Merge set)
  unfolding world_step happens turns_of smalls_in merge ended become_regular small_in may_in may_make
  merge-is is some rise rising rises each =
      let v = grouped w made in
      let behind = fold (become_regular conf) made set in
      let start : StepInProgress = quietly (grouped w behind) in
      let on : IsGoing w made entered entered-id input block v start.world set 0 = record {
        still = record { nodes = λ q above. refl; standings = λ q above. refl; configurations = refl; rises = rises; rising = rising };
        group = refl;
        snapshots = refl;
        nodes = λ q above. refl;
        ids = refl;
        running = λ q. refl;
        disk = λ q. refl;
      } in
      let all = together w made entered entered-id input block set 0 rise (members-of set each) v start on in
      let handed : hand_out w (merge g set) ≡ handed_among w made entered entered-id input block start set =
      fold-map hand_over (λ (p : ℕ). (let h : Handed Msg = record { to = p; list = RegularIn conf set ∷ [] } in h)) start set in
      let turns : turns_in w (merge g set) ≡ turns_among w made entered entered-id input block set = turns-merge w set in
      let steps : turns_as (λ p. Enters p ∷ Settles p ∷ []) w (Merge set) ≡ smalls_among w made entered entered-id input block set = ap (flat_map (ending block)) turns in
      let first : (not (is_nil set) && is_set set && list_all (may_come (noting_nothing w)) set) ≡ true =
      and_from _ _ (and_from _ _ (ap not some) (set-is 1 set is.ascends)) (all-come set each) in
      rw steps (
        (first, all.0),
        subst (λ (x : StepInProgress). IsSame (played_in v (smalls_among w made entered entered-id input block set)) (ended x).world) (sym handed)
            (same-lined (played_in v (smalls_among w made entered entered-id input block set)) (handed_among w made entered entered-id input block start set).world all.1 _),
      )
