-- In each event the turns that stand are reached by its small steps.
use Rattle.cg_agree_lemmas.specs.MadeSplit.{IsLeaving, parted, parted-id, parted-placed, input as parting, block as parts, members-of as leaving-of, turns-split}
use Rattle.cg_agree_lemmas.specs.MadeMerge.{IsComing, entered, entered-id, input as coming, block as comes, members-of as coming-of, turns-merge}
use Rattle.cg_states.specs.ReplicaStep.{Input, Deliveries, Asks as AsksOf, replica_step}
use Rattle.cg_model.specs.Small.{Small, Makes, Enters, Hands, Asks, Settles, make_configuration, take_request}
use Rattle.cg_action.specs.declared.action.Kind.TheVariants.{Update, Join as JoinKind, Leave as LeaveKind}
use Rattle.cg_schedule.specs.declared.event.Event.TheVariants.{Split, Merge, Deliver, Request, Join, Leave}
use Rattle.cg_model.specs.World.{NodeState, Up, Down, Node, World, node_of}
use Rattle.std.proofs.Common.{◌≡◌, ◌++◌, ◌∷◌, ◌∙◌, ◌+◌, List, None, Option, Some, ap, append-nil, flat_map, fold, is_none, length, map, nat_lt, refl, replicate, subst, suc, sym, true, ℕ, []}
use Rattle.std.proofs.lemmas.Bool.{ltb-false}
use Rattle.cg_action.specs.declared.action.Kind.{Kind}
use Rattle.cg_action.specs.declared.command.Cmd.{Cmd}
use Rattle.cg_action.specs.declared.query.Query.{Query}
use Rattle.cg_agree_lemmas.specs.GroupChanges.{DoRise}
use Rattle.cg_agree_lemmas.specs.MadeDeliver.{may-opens, stands-regular}
use Rattle.cg_agree_lemmas.specs.NodeFacts.{node-id}
use Rattle.cg_agree_lemmas.specs.SmallWorlds.{small_in}
use Rattle.cg_agree_lemmas.specs.TogetherWorlds.{IsGoing, smalls_among}
use Rattle.cg_agree_lemmas.specs.TurnWorlds.{turn-first, up_node}
use Rattle.cg_agree_lemmas.specs.TurnsReached.{IsReached, LifeReached, NodeReached, all-reached, reached-alone, reached-later}
use Rattle.cg_agree_lemmas.specs.UnorderedKept.{first-none, refused-not}
use Rattle.cg_model.specs.Admission.{first_refusal, unknown}
use Rattle.cg_model.specs.FactsLists.{IsRising}
use Rattle.cg_model.specs.Show.{StepInProgress}
use Rattle.cg_model.specs.Smalls.{ending, leaving_steps, smalls_in, turns_as}
use Rattle.cg_model.specs.Step.{quietly}
use Rattle.cg_model.specs.Turns.{stands, taken, taken_by, turns_of}
use Rattle.cg_base.specs.Lists.{above_up_to, Each}
use Rattle.cg_client.specs.Replica.{Replica}
use Rattle.cg_client.specs.Turn.{begin}
use Rattle.cg_base.specs.EachLaws.{Each-weaker}
use Rattle.cg_group.specs.Events.{become_regular, become_transitional, deliver, deliveries_at, handed_in_split, send_all}
use Rattle.cg_group.specs.Ready.{ready}
use Rattle.cg_group.specs.Refusals.{deliver_refusal, not_ready, not_regular, not_up}
use Rattle.cg_group.specs.State.{delivered_to, home, is_regular}
use Rattle.cg_group.specs.declared.delivery.Delivery.TheVariants.{Regular as RegularIn}
use Rattle.cg_disk_records.specs.Crash.{Disk}
use Rattle.cg_group.specs.RefusalLaws.{refuse_none}

module _ (w : World) (rising : IsRising 0 (map (λ s. s.id) w.nodes)) (rises : DoRise w.group) where
  pub split-reached : (set : List ℕ) → IsRising 0 set → Each (IsLeaving w set) set →
      Each (λ q. NodeReached w (smalls_in w (Split set)) (Deliveries (handed_in_split w.group set q).list) q (node_of w q)) set
  unfolding smalls_in turns_of
  split-reached set rise each =
      let start : StepInProgress = quietly (record w { group = fold (become_transitional set) w.group set }) in
      let on : IsGoing w w.group (parted w set) (parted-id w set) (parting w set) (parts w set) w start.world set 0 = record {
        still = record { nodes = λ q above. refl; standings = λ q above. refl; configurations = refl; rises = rises; rising = rising };
        group = parted-placed w set set 0 rise w.group (λ q above. refl);
        snapshots = refl;
        nodes = λ q above. refl;
        ids = refl;
        running = λ q. refl;
        disk = λ q. refl;
      } in
      let steps : turns_as (leaving_steps w.group set) w (Split set) ≡ smalls_among w w.group (parted w set) (parted-id w set) (parting w set) (parts w set) set =
      ap (flat_map (ending (leaving_steps w.group set))) (turns-split w set) in
      subst (λ (smalls : List Small). Each (λ q. NodeReached w smalls (Deliveries (handed_in_split w.group set q).list) q (node_of w q)) set) (sym steps)
      (all-reached w w.group (parted w set) (parted-id w set) (parting w set) (parts w set) set 0 rise (leaving-of w set set each) w start on)

  later-made : (set : List ℕ) (smalls : List Small) (list : List ℕ) →
      Each (λ q. NodeReached (record w { group = make_configuration w.group set }) smalls (Deliveries (RegularIn (suc (length w.group.configurations)) set ∷ [])) q (node_of w q)) list →
      Each (λ q. NodeReached w (Makes set ∷ smalls) (Deliveries (RegularIn (suc (length w.group.configurations)) set ∷ [])) q (node_of w q)) list
  unfolding small_in
  later-made set smalls list all =
      Each-weaker (λ q. NodeReached (record w { group = make_configuration w.group set }) smalls (Deliveries (RegularIn (suc (length w.group.configurations)) set ∷ [])) q (node_of w q))
      (λ q. NodeReached w (Makes set ∷ smalls) (Deliveries (RegularIn (suc (length w.group.configurations)) set ∷ [])) q (node_of w q))
      (λ q is. reached-later w (Makes set ∷ []) smalls (Deliveries (RegularIn (suc (length w.group.configurations)) set ∷ [])) q (node_of w q) is) list all

  pub merge-reached : (set : List ℕ) → IsRising 0 set → Each (IsComing w set) set →
      Each (λ q. NodeReached w (smalls_in w (Merge set)) (Deliveries (RegularIn (suc (length w.group.configurations)) set ∷ [])) q (node_of w q)) set
  unfolding smalls_in turns_of become_regular
  merge-reached set rise each =
      let made = make_configuration w.group set in
      let v : World = record w { group = made } in
      let start : StepInProgress = quietly (record w { group = fold (become_regular (suc (length w.group.configurations))) made set }) in
      let on : IsGoing w made (entered w set) (entered-id w set) (coming w set) (comes w set) v start.world set 0 = record {
        still = record { nodes = λ q above. refl; standings = λ q above. refl; configurations = refl; rises = rises; rising = rising };
        group = refl;
        snapshots = refl;
        nodes = λ q above. refl;
        ids = refl;
        running = λ q. refl;
        disk = λ q. refl;
      } in
      let steps : turns_as (λ p. Enters p ∷ Settles p ∷ []) w (Merge set) ≡ smalls_among w made (entered w set) (entered-id w set) (coming w set) (comes w set) set =
      ap (flat_map (ending (λ p. Enters p ∷ Settles p ∷ []))) (turns-merge w set) in
      let all = all-reached w made (entered w set) (entered-id w set) (coming w set) (comes w set) set 0 rise (coming-of w set set each) v start on in
      subst (λ (smalls : List Small). Each (λ q. NodeReached w (Makes set ∷ smalls) (Deliveries (RegularIn (suc (length w.group.configurations)) set ∷ [])) q (node_of w q)) set) (sym steps)
      (later-made set (smalls_among w made (entered w set) (entered-id w set) (coming w set) (comes w set) set) set all)

  -- ---- one replica takes its turn

  node-reached : (q : ℕ) (input : Input) (smalls : List Small) → ((r : Replica) (disk : Disk) → node_of w q ≡ Some (up_node q r disk) → stands (taken_by q r disk (replica_step r input)) ≡ true → IsReached w smalls q (replica_step r input)) →
      NodeReached w smalls input q (node_of w q)
  node-reached q input smalls each = at (node_of w q) refl where
    life : (s : Node) → node_of w q ≡ Some s → (l : NodeState) → s.life ≡ l → LifeReached w smalls input q l
    life s e (Up r disk) is = λ stays. each r disk (e ∙ (λ i. Some (record { id = node-id w q s e i; life = is i }))) stays
    life s e (Down disk green) is = tt

    at : (o : Option Node) → node_of w q ≡ o → NodeReached w smalls input q o
    at None e = tt
    at (Some s) e = life s e s.life refl

  pub deliver-reached : (q count : ℕ) → first_refusal w (Deliver q count) ≡ None →
      NodeReached w (smalls_in w (Deliver q count)) (Deliveries (deliveries_at (home w.group q) (above_up_to (delivered_to w.group q) (delivered_to w.group q + count)))) q (node_of w q)
  unfolding smalls_in turns_of deliver first_refusal deliver_refusal
  deliver-reached q count admitted =
      let g = w.group in
      let from = delivered_to g q in
      let list = deliveries_at (home g q) (above_up_to from (from + count)) in
      let block : ℕ → List Small = λ q. replicate count (Hands q) ++ Settles q ∷ [] in
      let first = first-none (unknown w q) (deliver_refusal g q count ∷ []) (ap is_none admitted) in
      let up = first-none (not_up g q) (not_regular g q ∷ not_ready g q count ∷ []) (ap is_none (first-none (deliver_refusal g q count) [] first.1).0) in
      let regular = first-none (not_regular g q) (not_ready g q count ∷ []) up.1 in
      let enough = refuse_none (nat_lt (ready g q) count) _ (first-none (not_ready g q count) [] regular.1).0 in
      let stands_there = stands-regular g q (refused-not (is_regular g q) _ regular.0) in
      let steps : flat_map (ending block) (taken w q (Deliveries list) ++ []) ≡ flat_map (ending block) (taken w q (Deliveries list)) = ap (flat_map (ending block)) (append-nil (taken w q (Deliveries list))) in
      subst (λ (smalls : List Small). NodeReached w smalls (Deliveries list) q (node_of w q)) (sym steps)
      (node-reached q (Deliveries list) (flat_map (ending block) (taken w q (Deliveries list))) (λ r disk node stays.
      reached-alone w q r disk (Deliveries list) block _ node
      (may-opens w q count rising rises (record { replica = r; disk = disk; node = node }) stands_there (ltb-false (ready g q) count enough)).1 stays))

  asked-one : (q : ℕ) (kind : Kind) (r : Replica) (disk : Disk) → node_of w q ≡ Some (up_node q r disk) → stands (taken_by q r disk (replica_step r (AsksOf kind))) ≡ true →
      IsReached w (flat_map (ending (λ p. Asks p kind ∷ [])) (taken w q (AsksOf kind))) q (replica_step r (AsksOf kind))
  unfolding replica_step small_in
  asked-one q kind r disk node stays =
      reached-alone w q r disk (AsksOf kind) (λ p. Asks p kind ∷ []) (send_all w.group q (take_request kind (begin r)).sent) node (turn-first w w.group q r disk (take_request kind) node) stays

  asks-reached : (q : ℕ) (kind : Kind) → NodeReached w (flat_map (ending (λ p. Asks p kind ∷ [])) (taken w q (AsksOf kind))) (AsksOf kind) q (node_of w q)
  asks-reached q kind = node-reached q (AsksOf kind) (flat_map (ending (λ p. Asks p kind ∷ [])) (taken w q (AsksOf kind))) (λ r disk node stays. asked-one q kind r disk node stays)

  pub request-reached : (q : ℕ) (cmds : List Cmd) (query : Option Query) → NodeReached w (smalls_in w (Request q cmds query)) (AsksOf (Update cmds query)) q (node_of w q)
  unfolding smalls_in turns_of
  request-reached q cmds query = asks-reached q (Update cmds query)

  pub join-reached : (q joiner weight : ℕ) → NodeReached w (smalls_in w (Join q joiner weight)) (AsksOf (JoinKind joiner weight)) q (node_of w q)
  unfolding smalls_in turns_of
  join-reached q joiner weight = asks-reached q (JoinKind joiner weight)

  pub leave-reached : (q server : ℕ) → NodeReached w (smalls_in w (Leave q server)) (AsksOf (LeaveKind server)) q (node_of w q)
  unfolding smalls_in turns_of
  leave-reached q server = asks-reached q (LeaveKind server)
