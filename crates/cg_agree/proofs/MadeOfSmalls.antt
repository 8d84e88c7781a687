-- The step of each admitted event, which may stand there, is made of small steps.
use Rattle.std.proofs.Common.{◌≡◌, true, option_and_then, ℕ, zero, suc, ◌+◌, ◌-◌, false, List, [], ◌∷◌, ◌++◌, Option, Some, None, IfSome, map, flat_map, fold, length, replicate, refl, sym, ap, ◌∙◌, subst, is_none, arith, append-nil, if◌then◌else◌}
use Rattle.std.specs.Prelude.{◌==◌, nat_le}
use Rattle.std.specs.Option.{option_map_or}
use Rattle.std.proofs.lemmas.Bool.{cond_both, ne_eqb}
use Rattle.cg_base.specs.Lists.{above_up_to, Each}
use Rattle.cg_action.specs.declared.action.Kind.{Kind}
use Rattle.cg_action.specs.declared.action.Kind.TheVariants.{Update, Join as JoinKind, Leave as LeaveKind}
use Rattle.cg_wire.specs.declared.message.Msg.{Msg}
use Rattle.cg_group.specs.State.{GroupState, delivered_to, unordered_of, home}
use Rattle.cg_group.specs.Refusals.{empty_set, any_of, not_up, merge_refusal}
use Rattle.cg_group.specs.Events.{furthest, handed_in_split, deliveries_at, deliver, regulars, order_all}
use Rattle.cg_base.specs.EachLaws.{Each-append, Each-at}
use Rattle.cg_group.specs.declared.delivery.Delivery.TheVariants.{Regular as RegularIn}
use Rattle.cg_client.specs.Replica.{Held, Replica}
use Rattle.cg_states.specs.ReplicaStep.{Input, Deliveries, Asks as AsksOf}
use Rattle.cg_schedule.specs.declared.event.Event.{Event}
use Rattle.cg_schedule.specs.declared.event.Event.TheVariants.{Start, Split, Merge, Request, Weak, Dirty, Order, Recover, RecoverStopped, Downgrade, Show, ShowOrder, Gather, End, Receive, Deliver, Rounds, Stop, Fail, Join, Leave, Transfer}
use Rattle.cg_model.specs.World.{NodeState, Node, running, World, replica_of, left_replicas}
use Rattle.cg_model.specs.Admission.{first_refusal, unknown, has_left, takes_part, never_named, joiner_left, not_green}
use Rattle.cg_model.specs.AdmissionCalls.{begun_already}
use Rattle.cg_model.specs.Run.{MayStand}
use Rattle.cg_model.specs.Looks.{told_in, snapshot_of, disk_held}
use Rattle.cg_model.specs.Step.{world_step, snapshot_for, stays_down}
use Rattle.cg_model.specs.NodeLaws.{at_node_both}
use Rattle.cg_model.specs.Chronicle.{Chronicle}
use Rattle.cg_model.specs.Turns.{turns_of, taken}
use Rattle.cg_model.specs.Small.{Small, Makes, Enters, Orders, Receives, Hands, Asks, Settles, Copies, Joins, small_step, Recovers}
use Rattle.cg_model.specs.Smalls.{is_between, smalls_in, turns_as, ending, leaving_steps, copy_steps, join_steps, gather_steps, missing}
use Rattle.cg_model.specs.FactsLists.{IsRising}
use Rattle.cg_model.specs.FactsReplica.{IsModeData, GoesOn, IsAsOnDisk}
use Rattle.cg_model.specs.Facts.{Invariant}
use Rattle.cg_model.specs.Played.{IsSame, IsWritten, MayBeMade, StandsBeside, MadeOfSmalls}
use Rattle.cg_model.specs.Noting.{played}
use Rattle.cg_agree_lemmas.specs.Standings.{rising-lower}
use Rattle.cg_agree_lemmas.specs.UnorderedKept.{first-none}
use Rattle.cg_agree_lemmas.specs.MadeQuietly.{IsMadeIn, order-made, receive-made, weak-made, dirty-made, show-made, show_order-made, fail-made, armed-made, start-made}
use Rattle.cg_agree_lemmas.specs.MadeAlone.{takes-part, stop-made, recover-made}
use Rattle.cg_agree_lemmas.specs.MadeTransfer.{transfer-made}
use Rattle.cg_agree_lemmas.specs.MadeRequests.{request-made, join-made, leave-made}
use Rattle.cg_agree_lemmas.specs.MadeDeliver.{deliver-made}
use Rattle.cg_agree_lemmas.specs.MadeSplit.{rising-set-list, split-is, turns-split}
use Rattle.cg_agree_lemmas.specs.MadeMerge.{IsComing, merge-is, turns-merge}
use Rattle.cg_agree_lemmas.specs.MadeGather.{gather-made}
use Rattle.cg_agree_lemmas.specs.UntoldKept.{IsUntoldIn, block-keeps, block-opens}
use Rattle.cg_agree_lemmas.specs.SameSmalls.{same-back, same-then, played-same, may-all-same}
use Rattle.cg_agree_lemmas.specs.SoundWorlds.{IsSound, sound-same, sound-of, untold-next}
use Rattle.cg_agree_lemmas.specs.EventMembers.{not-empty, leaving-members, coming-members}
use Rattle.cg_agree_lemmas.specs.RestFacts.{IsOpening, IsQuiet, IsKept, rest-quiet, rest-with, rest-among, smalls_for, written-kept}
use Rattle.cg_agree_lemmas.specs.SmallWorlds.{played_in, MayIn, RestAlong, may-all, played-world, small-world}
use Rattle.cg_agree_lemmas.specs.MadeOlder.{downgrade-made, stopped-made}
use Rattle.cg_base.specs.Sets.{has}
use Rattle.cg_base.specs.ListLaws.{length-more}
use Rattle.cg_client.specs.Joined.{piece_count}
use Rattle.cg_disk_records.specs.Crash.{StopWith}

-- ---- in which crashes come where disks agree

-- lists of steps without a crash
pub repeats : (P : Small → Type 0) (s : Small) → P s → (n : ℕ) → Each P (replicate n s)
repeats P s is zero = tt
repeats P s is (suc n) = (is, repeats P s is n)

quiet-map : {X : Type 0} (f : X → Small) → ((x : X) → IsQuiet (f x)) → (xs : List X) → Each IsQuiet (map f xs)
quiet-map f each [] = tt
quiet-map f each (x ∷ xs) = (each x, quiet-map f each xs)

quiet-flat : {X : Type 0} (f : X → List Small) → ((x : X) → Each IsQuiet (f x)) → (xs : List X) → Each IsQuiet (flat_map f xs)
quiet-flat f each [] = tt
quiet-flat f each (x ∷ xs) = Each-append IsQuiet (f x) (flat_map f xs) (each x) (quiet-flat f each xs)

pub gather-quiet : (g : GroupState Msg) → Each IsQuiet (gather_steps g)
gather-quiet g =
    let h = fold order_all g (regulars g) in
    Each-append IsQuiet (flat_map (λ p. map (λ m. Orders p) (unordered_of g p)) (regulars g)) (flat_map (λ p. map (Receives p) (missing (home h p) p)) (regulars h))
    (quiet-flat (λ p. map (λ m. Orders p) (unordered_of g p)) (λ p. quiet-map (λ m. Orders p) (λ m. tt) (unordered_of g p)) (regulars g))
    (quiet-flat (λ p. map (Receives p) (missing (home h p) p)) (λ p. quiet-map (Receives p) (λ place. tt) (missing (home h p) p)) (regulars h))

pub transfer-quiet : (w : World) (p joiner pieces : ℕ) → Each IsQuiet (copy_steps w p joiner ++ join_steps w p joiner pieces)
transfer-quiet w p joiner pieces =
    Each-append IsQuiet (copy_steps w p joiner) (join_steps w p joiner pieces)
    (cond_both (option_map_or (λ s. s.giver == p) (snapshot_of w joiner) false) [] (Copies p joiner ∷ []) (Each IsQuiet) (λ y. tt) (λ n. (tt, tt)))
    (at (replica_of w p)) where
      at : (o : Option Replica) → Each IsQuiet (option_map_or (λ r. (let s = snapshot_for w p joiner r in if nat_le (piece_count s.content - s.taken) pieces then Joins joiner ∷ [] else [])) o [])
      at None = tt
      at (Some r) = cond_both (nat_le (piece_count (snapshot_for w p joiner r).content - (snapshot_for w p joiner r).taken) pieces) (Joins joiner ∷ []) [] (Each IsQuiet) (λ y. (tt, tt)) (λ n. tt)

-- ---- an event of a world, beside which a chronicle stands

-- behind the making of a configuration nobody has told anything there
made-untold : (c : Chronicle) (set : List ℕ) (q : ℕ) → told_in c (suc (length c.world.group.configurations)) q ≡ None →
    IfSome (replica_of c.world q) (λ r. (is_between r.state ≡ true) × (r.held.id ≡ q)) → IsUntoldIn (suc (length c.world.group.configurations)) (small_step c (Makes set)) q
unfolding small_step
made-untold c set q untold between = record { told = untold; newest = length-more c.world.group.configurations _; between = between }

made-kept : (c : Chronicle) (set : List ℕ) (q : ℕ) → IsKept c (small_step c (Makes set)) q
unfolding small_step
made-kept c set q = record { node = refl; past = refl }

module _ (c : Chronicle) (w : World) (same : IsSame w c.world) (sound : IsSound w) (written : (p : ℕ) → IsWritten c p)
    (untold : (p : ℕ) → told_in c (suc (length c.world.group.configurations)) p ≡ None) (named : (p : ℕ) → IfSome (replica_of c.world p) (λ r. r.held.id ≡ p)) where
  abbrev pub IsMadeBeside : Event → Type 0
  IsMadeBeside e = MayBeMade c (smalls_in w e) × IsSame (played c (smalls_in w e)).world (world_step w e).world

  -- they may be made in the chronicle's world too
  may-beside : (smalls : List Small) → MayIn w smalls → MayIn c.world smalls
  may-beside smalls may = may-all-same smalls w c.world same may

  -- the event's small steps are these
  made-of : (e : Event) → IsMadeIn w e → RestAlong c (smalls_in w e) → IsMadeBeside e
  made-of e made rest =
      let smalls = smalls_in w e in (
        may-all c smalls (may-beside smalls made.0) rest,
        subst (λ v. IsSame v (world_step w e).world) (sym (played-world c smalls))
            (same-then (played_in c.world smalls) (played_in w smalls) (world_step w e).world
            (same-back (played_in w smalls) (played_in c.world smalls) (played-same smalls w c.world same)) made.1),
      )

  made-quietly : (e : Event) → IsMadeIn w e → Each IsQuiet (smalls_in w e) → IsMadeBeside e
  made-quietly e made quiet = made-of e made (rest-quiet (smalls_in w e) c quiet)

  -- one replica takes a turn
  rest-turn : (e : Event) (p : ℕ) (input : Input) (block : ℕ → List Small) → ((q : ℕ) → Each (IsOpening q) (block q)) → smalls_in w e ≡ flat_map (ending block) (taken w p input) →
      IsMadeIn w e → RestAlong c (smalls_in w e)
  rest-turn e p input block openings is made =
      let list : smalls_in w e ≡ smalls_for w (λ q. input) block (p ∷ []) = is ∙ ap (flat_map (ending block)) (sym (append-nil (taken w p input))) in
      rw list (rest-among w (λ q. input) block openings (p ∷ []) 0 (omega arith, tt) c written (may-beside (smalls_for w (λ q. input) block (p ∷ [])) (subst (MayIn w) list made.0)))

  asked-rest : (e : Event) (p : ℕ) (kind : Kind) → smalls_in w e ≡ flat_map (ending (λ q. Asks q kind ∷ [])) (taken w p (AsksOf kind)) → IsMadeIn w e →
      IsMadeBeside e
  asked-rest e p kind is made = made-of e made (rest-turn e p (AsksOf kind) (λ q. Asks q kind ∷ []) (λ q. (refl, tt)) is made)

  deliver-rest : (p count : ℕ) → IsMadeIn w (Deliver p count) → RestAlong c (smalls_in w (Deliver p count))
  unfolding smalls_in turns_of deliver
  deliver-rest p count is =
      let g = w.group in
      let from = delivered_to g p in
      let list = deliveries_at (home g p) (above_up_to from (from + count)) in
      let block : ℕ → List Small = λ q. replicate count (Hands q) ++ Settles q ∷ [] in
      rest-turn (Deliver p count) p (Deliveries list) block (λ q. Each-append (IsOpening q) (replicate count (Hands q)) (Settles q ∷ []) (repeats (IsOpening q) (Hands q) refl count) (refl, tt))
      (ap (flat_map (ending block)) (append-nil (taken w p (Deliveries list)))) is

  split-rest : (set : List ℕ) → IsRising 0 set → IsMadeIn w (Split set) → RestAlong c (smalls_in w (Split set))
  unfolding smalls_in turns_of
  split-rest set rise is =
      let g = w.group in
      let block = leaving_steps g set in
      let openings : (q : ℕ) → Each (IsOpening q) (block q) = λ q. Each-append (IsOpening q) (replicate (furthest g set - delivered_to g q) (Hands q)) _
      (repeats (IsOpening q) (Hands q) refl (furthest g set - delivered_to g q)) (refl, (refl, tt)) in
      let list : smalls_in w (Split set) ≡ smalls_for w (λ q. Deliveries (handed_in_split g set q).list) block set = ap (flat_map (ending block)) (turns-split w set) in
      rw list (rest-among w (λ q. Deliveries (handed_in_split g set q).list) block openings set 0 rise c written
      (may-beside (smalls_for w (λ q. Deliveries (handed_in_split g set q).list) block set) (subst (MayIn w) list is.0)))

  -- who comes has told nothing where it comes
  pub coming-untold : (set : List ℕ) → Each (IsComing w set) set → (q : ℕ) → has set q ≡ true → IsUntoldIn (suc (length c.world.group.configurations)) (small_step c (Makes set)) q
  coming-untold set coming q there =
      made-untold c set q (untold q)
      (both-of (replica_of c.world q) (named q) (subst (λ (o : Option Replica). IfSome o (λ r. is_between r.state ≡ true)) (same.running q) (between (Each-at (IsComing w set) set q coming there)))) where
        between : IsComing w set q → IfSome (replica_of w q) (λ r. is_between r.state ≡ true)
        between at = subst (λ (o : Option Node). IfSome (option_and_then (λ s. running s.life) o) (λ r. is_between r.state ≡ true)) (sym at.here.node) at.between

        both-of : (o : Option Replica) → IfSome o (λ r. r.held.id ≡ q) → IfSome o (λ r. is_between r.state ≡ true) → IfSome o (λ r. (is_between r.state ≡ true) × (r.held.id ≡ q))
        both-of None a b = tt
        both-of (Some r) a b = (b, a)

  merge-rest : (set : List ℕ) → IsRising 0 set → Each (IsComing w set) set → IsMadeIn w (Merge set) → RestAlong c (smalls_in w (Merge set))
  unfolding smalls_in turns_of
  merge-rest set rise coming is =
      let block : ℕ → List Small = λ q. Enters q ∷ Settles q ∷ [] in
      let input : ℕ → Input = λ q. Deliveries (RegularIn (suc (length w.group.configurations)) set ∷ []) in
      let conf = suc (length c.world.group.configurations) in
      let d = small_step c (Makes set) in
      let list : turns_as block w (Merge set) ≡ smalls_for w input block set = ap (flat_map (ending block)) (turns-merge w set) in
      let all : MayIn c.world (Makes set ∷ smalls_for w input block set) =
      may-beside (Makes set ∷ smalls_for w input block set) (subst (λ xs. MayIn w (Makes set ∷ xs)) list is.0) in
      let may : MayIn d.world (smalls_for w input block set) = subst (λ v. MayIn v (smalls_for w input block set)) (sym (small-world c (Makes set))) all.1 in (
        tt,
        rw list (rest-with w input block (λ q. (refl, (refl, tt))) (IsUntoldIn conf) (block-opens conf) (block-keeps conf) set 0 rise d
            (λ q there. (
              written-kept c d q (made-kept c set q) (written q),
              coming-untold set coming q there,
            )) may),
      )

  armed-rest : (p call : ℕ) (fill : List ℕ) → RestAlong c (smalls_in w (Stop p (suc call) fill))
  unfolding smalls_in
  armed-rest p call fill = rw (ne_eqb (suc call) 0 (λ e. (let clash : suc call ≡ 0 = e in cc))) tt

  pub made : (e : Event) → MayStand w e → first_refusal w e ≡ None → IsMadeBeside e
  unfolding smalls_in turns_of first_refusal
  made (Start set) stand admitted = made-quietly (Start set) (start-made w set stand.0 stand.1) (tt, tt)
  made (Split set) stand admitted =
      let rise = rising-lower 0 1 set (omega arith) (rising-set-list 1 set stand.1.ascends) in
      let is = split-is w set rise sound.nodes sound.group.rises (leaving-members w sound set admitted) in
      made-of (Split set) is (split-rest set rise is)
  made (Merge set) stand admitted =
      let rise = rising-lower 0 1 set (omega arith) (rising-set-list 1 set stand.1.ascends) in
      let some = not-empty set (first-none (empty_set set) (any_of (unknown w) set ∷ any_of (not_up w.group) set ∷ any_of (has_left w) set ∷ merge_refusal w.group set (left_replicas w) ∷ []) (ap is_none admitted)).0 in
      let is = merge-is w set stand.1 some rise sound.nodes sound.group.rises (coming-members w sound set admitted) in
      made-of (Merge set) is (merge-rest set rise (coming-members w sound set admitted) is)
  made (Request p cmds query) stand admitted = asked-rest (Request p cmds query) p (Update cmds query) refl (request-made w p cmds query sound.up admitted)
  made (Weak p query) stand admitted = made-quietly (Weak p query) (weak-made w p query) tt
  made (Dirty p query) stand admitted = made-quietly (Dirty p query) (dirty-made w p query) tt
  made (Order p) stand admitted = made-quietly (Order p) (order-made w p admitted) (tt, tt)
  made (Recover p) stand admitted = made-quietly (Recover p) (recover-made w p admitted) (tt, tt)
  made (RecoverStopped p call fill) stand admitted =
      made-quietly (RecoverStopped p call fill) (stopped-made w p call fill sound.nodes admitted)
      (at_node_both (λ (life : NodeState). []) (Recovers p ∷ []) (Each IsQuiet) (λ life. tt) (tt, tt) w p (stays_down (record { call = call; fault = StopWith fill })))
  made (Downgrade p) stand admitted = made-quietly (Downgrade p) (downgrade-made w p sound.nodes) tt
  made (Show p) stand admitted = made-quietly (Show p) (show-made w p) tt
  made ShowOrder stand admitted = made-quietly ShowOrder (show_order-made w) tt
  made Gather stand admitted = made-quietly Gather (gather-made w sound.group.rises sound.group.fits) (gather-quiet w.group)
  made End stand admitted = absurd stand
  made (Receive p place) stand admitted = made-quietly (Receive p place) (receive-made w p place admitted) (tt, tt)
  made (Deliver p count) stand admitted =
      let is = deliver-made w p count sound.up sound.nodes sound.group.rises admitted in
      made-of (Deliver p count) is (deliver-rest p count is)
  made (Rounds count) stand admitted = absurd stand
  made (Stop p zero fill) stand admitted =
      made-of (Stop p 0 fill) (stop-made w p fill (sound.up p ∙ (takes-part w p admitted).up)) (written p, tt)
  made (Stop p (suc call) fill) stand admitted = made-of (Stop p (suc call) fill) (armed-made w p call fill sound.nodes) (armed-rest p call fill)
  made (Fail p call) stand admitted = made-quietly (Fail p call) (fail-made w p call sound.nodes) tt
  made (Join p joiner weight) stand admitted = asked-rest (Join p joiner weight) p (JoinKind joiner weight) refl (join-made w p joiner weight sound.up admitted)
  made (Leave p server) stand admitted = asked-rest (Leave p server) p (LeaveKind server) refl (leave-made w p server sound.up admitted)
  made (Transfer p joiner pieces) stand admitted =
      made-quietly (Transfer p joiner pieces)
      (transfer-made w p joiner pieces (sound.up p ∙ (takes-part w p (first-none (takes_part w p) (never_named w joiner ∷ begun_already w joiner ∷ joiner_left w p joiner ∷ not_green w p joiner ∷ []) (ap is_none admitted)).0).up) (sound.served joiner) (sound.once joiner) admitted)
      (transfer-quiet w p joiner pieces)

-- what stands on the disks agrees where all is at rest
pub written-of : (c : Chronicle) (w : World) → StandsBeside c w → (p : ℕ) → IsWritten c p
written-of c w stands p = record {
  up = subst (λ (o : Option Replica). IfSome o (λ r. IfSome (disk_held c.world p) (λ disk. GoesOn r.held disk × IsAsOnDisk r.held disk r.state))) (stands.same.running p)
      (subst (λ (h : Option Held). IfSome (replica_of w p) (λ r. IfSome h (λ disk. GoesOn r.held disk × IsAsOnDisk r.held disk r.state))) (stands.same.disk p) (stands.rests.replica.disk_agrees.up p));
  greens = stands.rests.replica.disk_agrees.greens p;
}

pub sound-beside : (c : Chronicle) (w : World) → StandsBeside c w → IsSound w
sound-beside c w stands = sound-same w c.world stands.same (sound-of c stands.facts)

pub named-beside : (c : Chronicle) → Invariant c → (p : ℕ) → IfSome (replica_of c.world p) (λ r. r.held.id ≡ p)
named-beside c facts p = at (replica_of c.world p) (facts.replica.mode_data p) where
  at : (o : Option Replica) → IfSome o (IsModeData c p) → IfSome o (λ r. r.held.id ≡ p)
  at None is = tt
  at (Some r) is = is.id

-- the step of every admitted event is made of small steps
pub made-of-smalls : MadeOfSmalls
made-of-smalls c w e stands stand admitted =
    let all = made c w stands.same (sound-beside c w stands) (written-of c w stands) (untold-next c stands.facts) (named-beside c stands.facts) e stand admitted in
    (all.0, same-back (played c (smalls_in w e)).world (world_step w e).world all.1)

-- ---- behind all events
