-- Where a replica that takes a turn in an event runs on, its turn stands among the event's small steps.
use Rattle.std.proofs.Common.{◌≡◌, ℕ, zero, suc, ◌+◌, ◌-◌, true, List, [], ◌∷◌, ◌++◌, flat_map, fold, length, replicate, Option, Some, None, refl, sym, ap, ◌∙◌, subst, is_none, append-nil, arith, nat_lt}
use Rattle.std.specs.Option.{option_map_or}
use Rattle.std.proofs.lemmas.Bool.{ltb-false}
use Rattle.cg_base.specs.Lists.{above_up_to, Each}
use Rattle.cg_base.specs.Sets.{has}
use Rattle.cg_action.specs.declared.action.Kind.{Kind}
use Rattle.cg_action.specs.declared.action.Kind.TheVariants.{Update, Join as JoinKind, Leave as LeaveKind}
use Rattle.cg_wire.specs.declared.message.Msg.{Msg}
use Rattle.cg_group.specs.declared.delivery.Delivery.TheVariants.{Regular as RegularIn}
use Rattle.cg_base.specs.EachLaws.{Each-append}
use Rattle.cg_group.specs.State.{GroupState, delivered_to, home, is_regular}
use Rattle.cg_group.specs.Ready.{ready}
use Rattle.cg_group.specs.Refusals.{deliver_refusal, not_up, not_regular, not_ready}
use Rattle.cg_group.specs.Events.{send_all, deliveries_at, furthest, transitional_places, handed_in_split, with_delivered, become_transitional, become_regular, merge, deliver}
use Rattle.cg_client.specs.Replica.{Replica}
use Rattle.cg_states.specs.ReplicaStep.{Input, Deliveries, Asks as AsksOf, replica_step}
use Rattle.cg_disk_records.specs.Crash.{Disk, Runs, end_event}
use Rattle.cg_schedule.specs.declared.event.Event.{Event}
use Rattle.cg_schedule.specs.declared.event.Event.TheVariants.{Start, Split, Merge, Request, Weak, Dirty, Order, Recover, RecoverStopped, Downgrade, Show, ShowOrder, Gather, End, Receive, Deliver, Rounds, Stop, Fail, Join, Leave, Transfer}
use Rattle.cg_model.specs.World.{Node, World, node_of}
use Rattle.cg_model.specs.Admission.{first_refusal, unknown}
use Rattle.cg_model.specs.Show.{StepInProgress}
use Rattle.cg_model.specs.Step.{quietly}
use Rattle.cg_model.specs.Run.{MayStand}
use Rattle.cg_model.specs.Chronicle.{Chronicle}
use Rattle.cg_model.specs.Turns.{Taken, turns_of, taken, taken_as}
use Rattle.cg_model.specs.Small.{Small, Makes, Enters, Hands, Leaves, Asks, Settles, take_request, small_step}
use Rattle.cg_model.specs.Smalls.{smalls_in, turns_as, leaving_steps, ending, ending_as}
use Rattle.cg_model.specs.FactsLists.{IsRising}
use Rattle.cg_model.specs.Played.{StandsBeside}
use Rattle.cg_agree_lemmas.specs.UnorderedKept.{first-none, refused-not}
use Rattle.cg_agree_lemmas.specs.Standings.{rising-lower}
use Rattle.cg_agree_lemmas.specs.SmallWorlds.{grouped, small_in, played_in}
use Rattle.cg_agree_lemmas.specs.TurnWorlds.{hosted, up_node, turn-first}
use Rattle.cg_agree_lemmas.specs.EventTurns.{IsUp}
use Rattle.cg_agree_lemmas.specs.TogetherWorlds.{IsGoing, smalls_among}
use Rattle.cg_agree_lemmas.specs.MadeDeliver.{stands-regular, may-opens}
use Rattle.cg_agree_lemmas.specs.MadeSplit.{rising-set-list, turns-split, parted, parted-id, parted-placed, members-of as leaving-all, input as parted-input, block as parting, IsLeaving}
use Rattle.cg_agree_lemmas.specs.MadeMerge.{turns-merge, made, entered, entered-id, members-of as coming-all, input as entered-input, block as entering, IsComing}
use Rattle.cg_agree_lemmas.specs.SoundWorlds.{IsSound, sound-of, sound-same}
use Rattle.cg_agree_lemmas.specs.EventMembers.{leaving-members, coming-members}
use Rattle.cg_agree_lemmas.specs.TurnAlong.{IsPartOf, Keeps, RunsThrough, runs-later, runs-alone, together-runs}
use Rattle.cg_agree_lemmas.specs.EventInputs.{IsHanded}
use Rattle.cg_group.specs.RefusalLaws.{refuse_none}

-- a replica that takes such a turn runs on behind it
pub record RunsBehind (w : World) (p : ℕ) (input : Input) : Type 0 where
  pub replica : Replica
  pub disk : Disk
  pub node : node_of w p ≡ Some (up_node p replica disk)
  pub new : Replica
  pub new_disk : Disk
  pub ends : end_event disk replica.held (replica_step replica input) ≡ Runs new new_disk

repeated : (p : ℕ) (n : ℕ) → Each (IsPartOf p) (replicate n (Hands p))
repeated p zero = tt
repeated p (suc n) = (refl, repeated p n)

module _ (w : World) where
  -- a turn of one replica
  one-turn : (p : ℕ) (input : Input) (block : List Small) (g : GroupState Msg) (on : RunsBehind w p input) (list : List Small) → list ≡ flat_map (ending (λ q. block)) (taken w p input) → Each (IsPartOf p) block →
      (let t = replica_step on.replica input in played_in w block ≡ hosted w p t.replica on.disk (send_all g p t.sent)) → RunsThrough w list p (replica_step on.replica input)
  one-turn p input block g on list is parts leads =
      let t = replica_step on.replica input in
      let k : Taken = record { id = p; before = on.replica; disk = on.disk; turn = t; ended = end_event on.disk on.replica.held t } in
      let turns : taken w p input ≡ k ∷ [] = ap (λ (o : Option Node). option_map_or (λ s. taken_as p input s.life) o []) on.node in
      let steps : list ≡ ending_as k block (Runs on.new on.new_disk) = is ∙ ap (flat_map (ending (λ q. block))) turns ∙ append-nil (ending_as k block k.ended) ∙ ap (ending_as k block) on.ends in
      subst (λ xs. RunsThrough w xs p t) (sym steps) (runs-alone w p k block (send_all g p t.sent) on.new on.new_disk refl parts leads)

  -- the steps of one replica are its own
  own-block : (p : ℕ) (block : ℕ → List Small) (input : Input) (on : RunsBehind w p input) → flat_map (ending block) (taken w p input) ≡ flat_map (ending (λ q. block p)) (taken w p input)
  own-block p block input on =
      let t = replica_step on.replica input in
      let k : Taken = record { id = p; before = on.replica; disk = on.disk; turn = t; ended = end_event on.disk on.replica.held t } in
      let turns : taken w p input ≡ k ∷ [] = ap (λ (o : Option Node). option_map_or (λ s. taken_as p input s.life) o []) on.node in
      ap (flat_map (ending block)) turns ∙ sym (ap (flat_map (ending (λ q. block p))) turns)

  asked-runs : (p : ℕ) (kind : Kind) (on : RunsBehind w p (AsksOf kind)) (list : List Small) → list ≡ flat_map (ending (λ q. Asks q kind ∷ [])) (taken w p (AsksOf kind)) →
      RunsThrough w list p (replica_step on.replica (AsksOf kind))
  unfolding small_in replica_step
  asked-runs p kind on list is =
      one-turn p (AsksOf kind) (Asks p kind ∷ []) w.group on list (is ∙ own-block p (λ q. Asks q kind ∷ []) (AsksOf kind) on) (refl, tt) (turn-first w w.group p on.replica on.disk (take_request kind) on.node)

  -- what is handed in a delivery
  deliver-runs : (p count : ℕ) → IsSound w → first_refusal w (Deliver p count) ≡ None →
      (let g = w.group in let from = delivered_to g p in let list = deliveries_at (home g p) (above_up_to from (from + count)) in
      (on : RunsBehind w p (Deliveries list)) → RunsThrough w (smalls_in w (Deliver p count)) p (replica_step on.replica (Deliveries list)))
  unfolding smalls_in turns_of deliver first_refusal deliver_refusal
  deliver-runs p count sound admitted on =
      let g = w.group in
      let from = delivered_to g p in
      let list = deliveries_at (home g p) (above_up_to from (from + count)) in
      let block : ℕ → List Small = λ q. replicate count (Hands q) ++ Settles q ∷ [] in
      let first = first-none (unknown w p) (deliver_refusal w.group p count ∷ []) (ap is_none admitted) in
      let up = first-none (not_up w.group p) (not_regular w.group p ∷ not_ready w.group p count ∷ []) (ap is_none (first-none (deliver_refusal w.group p count) [] first.1).0) in
      let regular = first-none (not_regular w.group p) (not_ready w.group p count ∷ []) up.1 in
      let enough = refuse_none (nat_lt (ready w.group p) count) _ (first-none (not_ready w.group p count) [] regular.1).0 in
      let here : IsUp w p = record { replica = on.replica; disk = on.disk; node = on.node } in
      let opens = may-opens w p count sound.nodes sound.group.rises here (stands-regular w.group p (refused-not (is_regular w.group p) _ regular.0)) (ltb-false (ready w.group p) count enough) in
      one-turn p (Deliveries list) (block p) (with_delivered g p (from + count)) on (flat_map (ending block) (taken w p (Deliveries list) ++ []))
      (ap (flat_map (ending block)) (append-nil (taken w p (Deliveries list))) ∙ own-block p block (Deliveries list) on)
      (Each-append (IsPartOf p) (replicate count (Hands p)) (Settles p ∷ []) (repeated p count) (refl, tt)) opens.1

  parting-parts : (set : List ℕ) (q : ℕ) → Each (IsPartOf q) (leaving_steps w.group set q)
  parting-parts set q =
      let g = w.group in
      let n = furthest g set - delivered_to g q in
      Each-append (IsPartOf q) (replicate n (Hands q)) (Leaves q set (delivered_to g q) (transitional_places (home g q) set (furthest g set)) ∷ Settles q ∷ []) (repeated q n) (refl, (refl, tt))

  split-runs : (set : List ℕ) (p : ℕ) → IsSound w → IsRising 0 set → Each (IsLeaving w set) set → has set p ≡ true →
      (on : RunsBehind w p (Deliveries (handed_in_split w.group set p).list)) → RunsThrough w (smalls_in w (Split set)) p (replica_step on.replica (Deliveries (handed_in_split w.group set p).list))
  unfolding smalls_in turns_of
  split-runs set p sound rise each there on =
      let g = w.group in
      let N = parted w set in
      let named = parted-id w set in
      let input = parted-input w set in
      let block = parting w set in
      let behind = fold (become_transitional set) g set in
      let start : StepInProgress = quietly (grouped w behind) in
      let going : IsGoing w g N named input block w start.world set 0 = record {
        still = record { nodes = λ q above. refl; standings = λ q above. refl; configurations = refl; rises = sound.group.rises; rising = sound.nodes };
        group = parted-placed w set set 0 rise g (λ q above. refl);
        snapshots = refl;
        nodes = λ q above. refl;
        ids = refl;
        running = λ q. refl;
        disk = λ q. refl;
      } in
      let steps : turns_as (leaving_steps g set) w (Split set) ≡ smalls_among w g N named input block set = ap (flat_map (ending block)) (turns-split w set) in
      let runs = together-runs w g N named input block (parting-parts set) set 0 rise (leaving-all w set set each) w start going p there
      (record { replica = on.replica; disk = on.disk; node = on.node; new = on.new; new_disk = on.new_disk; ends = on.ends }) in
      subst (λ list. RunsThrough w list p (replica_step on.replica (Deliveries (handed_in_split g set p).list))) (sym steps) runs

  makes-keeps : (set : List ℕ) (p : ℕ) → Keeps p (Makes set)
  unfolding small_step
  makes-keeps set p c = record { node = refl; past = refl }

  merge-runs : (set : List ℕ) (p : ℕ) → IsSound w → IsRising 0 set → Each (IsComing w set) set → has set p ≡ true →
      (on : RunsBehind w p (Deliveries (RegularIn (suc (length w.group.configurations)) set ∷ []))) →
      RunsThrough w (smalls_in w (Merge set)) p (replica_step on.replica (Deliveries (RegularIn (suc (length w.group.configurations)) set ∷ [])))
  unfolding smalls_in turns_of merge small_in become_regular
  merge-runs set p sound rise each there on =
      let g = made w set in
      let N = entered w set in
      let named = entered-id w set in
      let input = entered-input w set in
      let block = entering w set in
      let v = grouped w g in
      let conf = suc (length w.group.configurations) in
      let start : StepInProgress = quietly (grouped w (fold (become_regular conf) g set)) in
      let going : IsGoing w g N named input block v start.world set 0 = record {
        still = record { nodes = λ q above. refl; standings = λ q above. refl; configurations = refl; rises = sound.group.rises; rising = sound.nodes };
        group = refl;
        snapshots = refl;
        nodes = λ q above. refl;
        ids = refl;
        running = λ q. refl;
        disk = λ q. refl;
      } in
      let steps : turns_as (λ p. Enters p ∷ Settles p ∷ []) w (Merge set) ≡ smalls_among w g N named input block set = ap (flat_map (ending block)) (turns-merge w set) in
      let t = replica_step on.replica (Deliveries (RegularIn conf set ∷ [])) in
      let runs = together-runs w g N named input block (λ q. (refl, (refl, tt))) set 0 rise (coming-all w set set each) v start going p there
      (record { replica = on.replica; disk = on.disk; node = on.node; new = on.new; new_disk = on.new_disk; ends = on.ends }) in
      subst (λ list. RunsThrough w (Makes set ∷ list) p t) (sym steps)
      (runs-later w v (Makes set ∷ []) (smalls_among w g N named input block set) p t refl (makes-keeps set p, tt) runs)

-- a turn in an admitted event
abbrev pub RunsFor : World → List Small → ℕ → Input → Type 0
RunsFor w list p input = (on : RunsBehind w p input) → RunsThrough w list p (replica_step on.replica input)

module _ (c : Chronicle) (w : World) (stands : StandsBeside c w) (p : ℕ) (input : Input) where
  sound : IsSound w
  sound = sound-same w c.world stands.same (sound-of c stands.facts)

  asked : (q : ℕ) (kind : Kind) (list : List Small) → list ≡ flat_map (ending (λ q. Asks q kind ∷ [])) (taken w q (AsksOf kind)) → p ≡ q → input ≡ AsksOf kind → RunsFor w list p input
  asked q kind list is same what =
      subst (RunsFor w list p) (sym what) (λ on. asked-runs w p kind on list (is ∙ ap (λ n. flat_map (ending (λ q. Asks q kind ∷ [])) (taken w n (AsksOf kind))) (sym same)))

  pub event-runs : (e : Event) → MayStand w e → first_refusal w e ≡ None → IsHanded w e p input → RunsFor w (smalls_in w e) p input
  unfolding smalls_in turns_of first_refusal
  event-runs (Start set) may admitted of = absurd of
  event-runs (Split set) may admitted of =
      subst (RunsFor w (smalls_in w (Split set)) p) (sym of.1)
      (split-runs w set p sound (rising-lower 0 1 set (omega arith) (rising-set-list 1 set may.1.ascends)) (leaving-members w sound set admitted) of.0)
  event-runs (Merge set) may admitted of =
      subst (RunsFor w (smalls_in w (Merge set)) p) (sym of.1)
      (merge-runs w set p sound (rising-lower 0 1 set (omega arith) (rising-set-list 1 set may.1.ascends)) (coming-members w sound set admitted) of.0)
  event-runs (Request q cmds query) may admitted of = asked q (Update cmds query) _ refl of.0 of.1
  event-runs (Weak q query) may admitted of = absurd of
  event-runs (Dirty q query) may admitted of = absurd of
  event-runs (Order q) may admitted of = absurd of
  event-runs (Recover q) may admitted of = absurd of
  event-runs (RecoverStopped q call fill) may admitted of = absurd of
  event-runs (Downgrade q) may admitted of = absurd of
  event-runs (Show q) may admitted of = absurd of
  event-runs ShowOrder may admitted of = absurd of
  event-runs Gather may admitted of = absurd of
  event-runs End may admitted of = absurd of
  event-runs (Receive q place) may admitted of = absurd of
  event-runs (Deliver q count) may admitted of =
      subst (λ n. RunsFor w (smalls_in w (Deliver n count)) p input) of.0
      (subst (RunsFor w (smalls_in w (Deliver p count)) p) (sym of.1) (deliver-runs w p count sound (subst (λ n. first_refusal w (Deliver n count) ≡ None) (sym of.0) admitted)))
  event-runs (Rounds count) may admitted of = absurd of
  event-runs (Stop q call fill) may admitted of = absurd of
  event-runs (Fail q call) may admitted of = absurd of
  event-runs (Join q joiner weight) may admitted of = asked q (JoinKind joiner weight) _ refl of.0 of.1
  event-runs (Leave q server) may admitted of = asked q (LeaveKind server) _ refl of.0 of.1
  event-runs (Transfer q joiner pieces) may admitted of = absurd of
