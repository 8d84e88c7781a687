-- What a turn does meets nothing, also where the turn is struck: its steps may be made as the first of the event.
use Rattle.std.proofs.Common.{◌≡◌, ℕ, suc, ◌+◌, ◌-◌, true, List, [], ◌∷◌, ◌++◌, None, flat_map, length, replicate, refl, sym, subst, append-nil, ⊎_elim}
use Rattle.cg_base.specs.Lists.{above_up_to, Each}
use Rattle.cg_base.specs.Sets.{has}
use Rattle.cg_action.specs.declared.action.Kind.TheVariants.{Update, Join as JoinKind, Leave as LeaveKind}
use Rattle.cg_group.specs.declared.delivery.Delivery.TheVariants.{Regular as RegularIn}
use Rattle.cg_group.specs.State.{delivered_to, home}
use Rattle.cg_group.specs.Events.{furthest, handed_in_split, deliveries_at, deliver}
use Rattle.cg_base.specs.EachLaws.{Each-append, Each-weaker, Each-has}
use Rattle.cg_states.specs.ReplicaStep.{Input, Deliveries, Asks as AsksOf}
use Rattle.cg_schedule.specs.declared.event.Event.{Event}
use Rattle.cg_schedule.specs.declared.event.Event.TheVariants.{Start, Split, Merge, Request, Weak, Dirty, Order, Recover, RecoverStopped, Downgrade, Show, ShowOrder, Gather, End, Receive, Deliver, Rounds, Stop, Fail, Join, Leave, Transfer}
use Rattle.cg_model.specs.World.{World}
use Rattle.cg_model.specs.Admission.{first_refusal}
use Rattle.cg_model.specs.Chronicle.{Chronicle}
use Rattle.cg_model.specs.Turns.{turns_of, taken}
use Rattle.cg_model.specs.Small.{Small, Makes, Enters, Hands, Asks, Settles, make_configuration, small_step}
use Rattle.cg_model.specs.Smalls.{smalls_in, leaving_steps, turn_steps}
use Rattle.cg_model.specs.Played.{IsSame, MayBeMade, StandsBeside}
use Rattle.cg_model.specs.Total.{MeetNone, TurnsMeetNone, before_turns}
use Rattle.cg_agree_lemmas.specs.EventMembers.{leaving-members, coming-members}
use Rattle.cg_agree_lemmas.specs.MadeDeliver.{delivering, may-opens}
use Rattle.cg_agree_lemmas.specs.MadeMerge.{turns-merge, entered, entered-id, input as merging, members-of as merging-of}
use Rattle.cg_agree.proofs.MadeOfSmalls.{repeats, sound-beside, named-beside, written-of, coming-untold}
use Rattle.cg_agree_lemmas.specs.MadeSplit.{turns-split, parted, parted-id, input, members-of}
use Rattle.cg_agree_lemmas.specs.RestFacts.{IsQuiet, rest-quiet, IsTaken, taken-cases}
use Rattle.cg_agree_lemmas.specs.SameSmalls.{small-same, may-all-same}
use Rattle.cg_agree_lemmas.specs.SmallWorlds.{grouped, small_in, MayIn, may-all, small-world}
use Rattle.cg_agree_lemmas.specs.SoundWorlds.{IsSound, untold-next}
use Rattle.cg_agree_lemmas.specs.TogetherWorlds.{IsMember}
use Rattle.cg_agree_lemmas.specs.UntoldKept.{block-opens}

each-both : (P Q R : ℕ → Type 0) → ((q : ℕ) → P q → Q q → R q) → (xs : List ℕ) → Each P xs → Each Q xs → Each R xs
each-both P Q R f [] a b = tt
each-both P Q R f (x ∷ xs) a b = (f x a.0 b.0, each-both P Q R f xs a.1 b.1)

-- ---- the turns of several replicas

module _ (c : Chronicle) (w : World) (steps : ℕ → List Small) where
  turns-each : (input : ℕ → Input) (set : List ℕ) → Each (λ q. MeetNone c (steps q)) set → TurnsMeetNone c steps (flat_map (λ q. taken w q (input q)) set)
  turns-each input [] each = tt
  turns-each input (p ∷ rest) each = ⊎_elim
      (λ none. subst (λ list. TurnsMeetNone c steps (list ++ flat_map (λ q. taken w q (input q)) rest)) (sym none) (turns-each input rest each.1))
      (λ (t : IsTaken w p (input p)). subst (λ list. TurnsMeetNone c steps (list ++ flat_map (λ q. taken w q (input q)) rest)) (sym t.is)
      (subst (λ n. MeetNone c (steps n)) (sym t.id) each.0, turns-each input rest each.1))
      (taken-cases w p (input p))

  turns-one : (p : ℕ) (input : Input) → MeetNone c (steps p) → TurnsMeetNone c steps (taken w p input)
  turns-one p input none = subst (TurnsMeetNone c steps) (append-nil (taken w p input)) (turns-each (λ q. input) (p ∷ []) (none, tt))

-- ---- each event

-- what may be made meets nothing
module _ (c : Chronicle) (w : World) (stands : StandsBeside c w) (meets : (smalls : List Small) → MayBeMade c smalls → MeetNone c smalls) where
  sound : IsSound w
  sound = sound-beside c w stands

  -- steps that need nothing beside the world
  quietly : (smalls : List Small) → Each IsQuiet smalls → MayIn w smalls → MeetNone c smalls
  quietly smalls quiet may = meets smalls (may-all c smalls (may-all-same smalls w c.world stands.same may) (rest-quiet smalls c quiet))

  split-turns : (set : List ℕ) → first_refusal w (Split set) ≡ None → TurnsMeetNone c (leaving_steps w.group set) (turns_of w (Split set))
  unfolding turns_of first_refusal
  split-turns set admitted =
      let g = w.group in
      let members = members-of w set set (leaving-members w sound set admitted) in
      let handed : ℕ → Input = λ q. Deliveries (handed_in_split g set q).list in
      subst (TurnsMeetNone c (leaving_steps g set)) (sym (turns-split w set))
      (turns-each c w (leaving_steps g set) handed set
      (Each-weaker (IsMember w g (parted w set) (parted-id w set) (input w set) (leaving_steps g set)) (λ q. MeetNone c (leaving_steps g set q)) (λ q m.
      quietly (leaving_steps g set q)
      (Each-append IsQuiet (replicate (furthest g set - delivered_to g q) (Hands q)) _ (repeats IsQuiet (Hands q) tt (furthest g set - delivered_to g q)) (tt, (tt, tt)))
      (m.opens w (record { nodes = λ q above. refl; standings = λ q above. refl; configurations = refl; rises = sound.group.rises; rising = sound.nodes })).0) set members))

  merge-turns : (set : List ℕ) → MayBeMade c (smalls_in w (Merge set)) → first_refusal w (Merge set) ≡ None →
      TurnsMeetNone c (λ p. Makes set ∷ Enters p ∷ Settles p ∷ []) (turns_of w (Merge set))
  unfolding turns_of first_refusal smalls_in small_in
  merge-turns set may admitted =
      let g = w.group in
      let conf = suc (length w.group.configurations) in
      let coming = coming-members w sound set admitted in
      let v = grouped w (make_configuration g set) in
      let d = small_step c (Makes set) in
      let block : ℕ → List Small = λ q. Enters q ∷ Settles q ∷ [] in
      let given : ℕ → Input = λ q. Deliveries (RegularIn conf set ∷ []) in
      let members = merging-of w set set coming in
      let same : IsSame v d.world = subst (IsSame v) (sym (small-world c (Makes set))) (small-same w c.world (Makes set) stands.same) in
      subst (TurnsMeetNone c (λ p. Makes set ∷ block p)) (sym (turns-merge w set))
      (turns-each c w (λ p. Makes set ∷ block p) given set
      (each-both (IsMember w (make_configuration g set) (entered w set) (entered-id w set) (merging w set) block) (λ q. has set q ≡ true) (λ q. MeetNone c (Makes set ∷ block q)) (λ q m there.
      meets (Makes set ∷ block q) (
        may.0,
        tt,
        may-all d (block q)
            (may-all-same (block q) v d.world same
            (m.opens v (record { nodes = λ q above. refl; standings = λ q above. refl; configurations = refl; rises = sound.group.rises; rising = sound.nodes })).0)
            (block-opens (suc (length c.world.group.configurations)) d q
            (coming-untold c w stands.same sound (written-of c w stands) (untold-next c stands.facts) (named-beside c stands.facts) set coming q there)),
      )) set members (Each-has set)))

  deliver-turns : (p count : ℕ) → first_refusal w (Deliver p count) ≡ None → TurnsMeetNone c (λ q. replicate count (Hands q) ++ Settles q ∷ []) (turns_of w (Deliver p count))
  unfolding turns_of deliver
  deliver-turns p count admitted =
      let g = w.group in
      let from = delivered_to g p in
      let list = deliveries_at (home g p) (above_up_to from (from + count)) in
      let steps : ℕ → List Small = λ q. replicate count (Hands q) ++ Settles q ∷ [] in
      let is = delivering w p count sound.up admitted in
      turns-each c w steps (λ q. Deliveries list) (p ∷ []) (
        quietly (steps p) (Each-append IsQuiet (replicate count (Hands p)) (Settles p ∷ []) (repeats IsQuiet (Hands p) tt count) (tt, tt))
            (may-opens w p count sound.nodes sound.group.rises is.here is.in_group is.enough).0,
        tt,
      )

  -- What each turn of an admitted event does meets nothing.
  pub turns-meet : (e : Event) → MayBeMade c (smalls_in w e) → first_refusal w e ≡ None → TurnsMeetNone c (λ p. before_turns e ++ turn_steps w e p) (turns_of w e)
  unfolding turns_of
  turns-meet (Split set) may admitted = split-turns set admitted
  turns-meet (Merge set) may admitted = merge-turns set may admitted
  turns-meet (Deliver p count) may admitted = deliver-turns p count admitted
  turns-meet (Request p cmds query) may admitted = turns-one c w (λ q. Asks q (Update cmds query) ∷ []) p (AsksOf (Update cmds query)) (tt, tt)
  turns-meet (Join p joiner weight) may admitted = turns-one c w (λ q. Asks q (JoinKind joiner weight) ∷ []) p (AsksOf (JoinKind joiner weight)) (tt, tt)
  turns-meet (Leave p server) may admitted = turns-one c w (λ q. Asks q (LeaveKind server) ∷ []) p (AsksOf (LeaveKind server)) (tt, tt)
  turns-meet (Start set) may admitted = tt
  turns-meet (Weak p query) may admitted = tt
  turns-meet (Dirty p query) may admitted = tt
  turns-meet (Order p) may admitted = tt
  turns-meet (Recover p) may admitted = tt
  turns-meet (RecoverStopped p call fill) may admitted = tt
  turns-meet (Downgrade p) may admitted = tt
  turns-meet (Show p) may admitted = tt
  turns-meet ShowOrder may admitted = tt
  turns-meet Gather may admitted = tt
  turns-meet End may admitted = tt
  turns-meet (Receive p place) may admitted = tt
  turns-meet (Rounds count) may admitted = tt
  turns-meet (Stop p call fill) may admitted = tt
  turns-meet (Fail p call) may admitted = tt
  turns-meet (Transfer p joiner pieces) may admitted = tt
