-- The step of a split is made of small steps: each member is handed what another one was, leaves, and creates what it kept.
use Rattle.std.proofs.Common.{◌≡◌, ℕ, suc, ◌+◌, ◌-◌, ◌≤◌, ◌<◌, true, false, not, ◌&&◌, List, [], ◌∷◌, ◌++◌, Option, Some, map, fold, flat_map, length, replicate, refl, sym, ap, ap₂, ◌∙◌, ⊎_elim, eqb-true, subst, max, arith}
use Rattle.std.specs.Prelude.{◌==◌}
use Rattle.std.specs.Option.{option_map_or}
use Rattle.std.proofs.lemmas.Bool.{or_cases}
use Rattle.std.proofs.lemmas.List.Folds.{flat_map-map, fold-map}
use Rattle.cg_base.specs.Lists.{above_up_to, Each}
use Rattle.cg_base.specs.Sets.{has, Ascends}
use Rattle.cg_base.specs.ListLaws.{fold_max-from}
use Rattle.cg_wire.specs.declared.message.Msg.{Msg}
use Rattle.cg_group.specs.declared.phase.Phase.{Phase}
use Rattle.cg_group.specs.declared.phase.Phase.TheVariants.{Down, Transitional}
use Rattle.cg_group.specs.declared.delivery.Delivery.{Delivery}
use Rattle.cg_group.specs.declared.delivery.Delivery.TheVariants.{Transitional as TransitionalIn}
use Rattle.cg_group.specs.declared.delivery.Handed.{Handed}
use Rattle.cg_group.specs.State.{Standing, Configuration, GroupState, standing_of, configuration, phase_of, regular_in, is_regular, home, delivered_to, has_received, set_standing}
use Rattle.cg_group.specs.Ready.{ready_in}
use Rattle.cg_group.specs.Refusals.{sender_at}
use Rattle.cg_group.specs.Events.{send_all, deliveries_at, furthest, transitional_places, handed_in_split, become_transitional, split}
use Rattle.cg_group.specs.LookupLaws.{standing_of-set, put-other}
use Rattle.cg_client.specs.Replica.{Replica}
use Rattle.cg_client.specs.Turn.{Turn, begin}
use Rattle.cg_client.specs.Requests.{settle}
use Rattle.cg_states.specs.ReplicaStep.{Deliveries, replica_step}
use Rattle.cg_disk_records.specs.Crash.{Disk}
use Rattle.cg_schedule.specs.declared.event.Event.TheVariants.{Split}
use Rattle.cg_model.specs.World.{World}
use Rattle.cg_model.specs.Show.{StepInProgress, ended}
use Rattle.cg_model.specs.Step.{happens, world_step, quietly, hand, hand_over, hand_out}
use Rattle.cg_model.specs.Turns.{turns_of, turns_in, taken}
use Rattle.cg_model.specs.Small.{Small, Hands, Leaves, Settles, take_all}
use Rattle.cg_model.specs.Smalls.{may_make, ascend_within, hold_received, hold_earlier, smalls_in, leaving_steps, ending, turns_as}
use Rattle.cg_model.specs.FactsLists.{IsRising}
use Rattle.cg_model.specs.Played.{IsSame}
use Rattle.cg_agree_lemmas.specs.GroupChanges.{DoRise, placed, sent-dropped}
use Rattle.cg_agree_lemmas.specs.MadeQuietly.{IsMadeIn, same-lined}
use Rattle.cg_agree_lemmas.specs.TurnWorlds.{hosted, runs-hosted}
use Rattle.cg_agree_lemmas.specs.EventTurns.{IsUp}
use Rattle.cg_agree_lemmas.specs.HandWorlds.{standing, handed_to, hands-all, taken-append, ready-later, phase-stands, delivered-stands, home-stands}
use Rattle.cg_agree_lemmas.specs.LeaveWorlds.{past_standing, left_to, leaves, settles-left, may-places}
use Rattle.cg_agree_lemmas.specs.MadeDeliver.{StandsRegular, begun-handed}
use Rattle.cg_agree_lemmas.specs.TogetherWorlds.{IsStill, IsMember, IsGoing, handed_among, smalls_among, turns_among, together}
use Rattle.cg_agree_lemmas.specs.SmallWorlds.{grouped, small_in, may_in, played_in, MayIn, played-append, may-append}

-- ---- lists

-- a set's list rises
pub rising-set-list : (low : ℕ) (set : List ℕ) → Ascends low set → IsRising low set
rising-set-list low [] a = tt
rising-set-list low (p ∷ set) a = (a.0, rising-set-list (suc p) set a.2)

-- the greatest of numbers is no less than each, and no more than what none is more than
pub greatest-each : (f : ℕ → ℕ) (set : List ℕ) (m p : ℕ) → has set p ≡ true → f p ≤ fold max m (map f set)
greatest-each f [] m p there = absurd (let clash : false ≡ true = there in cc)
greatest-each f (q ∷ set) m p there = ⊎_elim
    (λ here. (let same : q ≡ p = eqb-true q p here in let rest : max m (f q) ≤ fold max (max m (f q)) (map f set) = fold_max-from (max m (f q)) (map f set) in
    subst (λ x. f x ≤ fold max (max m (f q)) (map f set)) same (let le : f q ≤ max m (f q) = max-right m (f q) in omega (arith, rest, le))))
    (λ later. greatest-each f set (max m (f q)) p later)
    (or_cases (q == p) (has set p) there) where
      max-right : (m n : ℕ) → n ≤ max m n
      max-right m n = omega arith

pub greatest-below : (f : ℕ → ℕ) (set : List ℕ) (m n : ℕ) → m ≤ n → Each (λ q. f q ≤ n) set → fold max m (map f set) ≤ n
greatest-below f [] m n le each = le
greatest-below f (q ∷ set) m n le each = greatest-below f set (max m (f q)) n (let a : m ≤ n = le in let b : f q ≤ n = each.0 in both m (f q) n a b) each.1 where
  both : (a b n : ℕ) → a ≤ n → b ≤ n → max a b ≤ n
  both a b n x y = omega arith

-- ---- the split

split-to : (g : GroupState Msg) (set : List ℕ) (q : ℕ) → (handed_in_split g set q).to ≡ q
unfolding handed_in_split
split-to g set q = refl

-- the turns of a split are those of its members
module _ (w : World) (set : List ℕ) where
  turned-is : (list : List ℕ) → flat_map (λ q. taken w (handed_in_split w.group set q).to (Deliveries (handed_in_split w.group set q).list)) list ≡ flat_map (λ q. taken w q (Deliveries (handed_in_split w.group set q).list)) list
  turned-is [] = refl
  turned-is (q ∷ list) = ap₂ (λ xs ys. xs ++ ys) (ap (λ n. taken w n (Deliveries (handed_in_split w.group set q).list)) (split-to w.group set q)) (turned-is list)

  pub turns-split : turns_in w (split w.group set) ≡ flat_map (λ q. taken w q (Deliveries (handed_in_split w.group set q).list)) set
  unfolding split
  turns-split = flat_map-map (λ (h : Handed Msg). taken w h.to (Deliveries h.list)) (handed_in_split w.group set) set ∙ turned-is set

module _ (w : World) (set : List ℕ) where
  abbrev g : GroupState Msg
  g = w.group

  abbrev last : ℕ
  last = furthest g set

  abbrev pub parted : ℕ → Standing Msg
  parted q = record { id = q; phase = Transitional (regular_in (phase_of g q)) set; delivered = delivered_to g q; unordered = [] }

  abbrev pub parted-id : (q : ℕ) → (parted q).id ≡ q
  parted-id q = refl

  abbrev pub input : ℕ → List (Delivery Msg)
  input q = (handed_in_split g set q).list

  abbrev pub block : ℕ → List Small
  block q = leaving_steps g set q

  -- the group behind the split
  pub parted-placed : (list : List ℕ) (low : ℕ) → IsRising low list → (h : GroupState Msg) → ((q : ℕ) → low ≤ q → standing_of h q ≡ standing_of g q) →
      fold (become_transitional set) h list ≡ placed parted parted-id h list
  unfolding become_transitional
  parted-placed [] low rise h same = refl
  parted-placed (q ∷ list) low rise h same =
      let one : set_standing h (record { id = q; phase = Transitional (regular_in (phase_of h q)) set; delivered = delivered_to h q; unordered = [] }) ≡ set_standing h (parted q) =
      ap (λ (o : Option (Standing Msg)). (let s : Standing Msg = record { id = q; phase = Transitional (regular_in (option_map_or (λ s. s.phase) o Down)) set; delivered = option_map_or (λ s. s.delivered) o 0; unordered = [] } in set_standing h s)) (same q rise.0) in
      let first : low ≤ q = rise.0 in
      ap (λ x. fold (become_transitional set) x list) one
      ∙ parted-placed list (suc q) rise.1 (set_standing h (parted q))
      (λ k above. standing_of-set h (parted q) k ∙ put-other (standing_of h) q (Some (parted q)) k (λ e. (let is : k ≡ q = e in omega arith)) ∙ same k (omega arith))

  -- a member: it is up, stands regular in the group, and every member of its configuration has received as much as some member of the set was handed
  pub record IsLeaving (p : ℕ) : Type 0 where
    pub here : IsUp w p
    pub stands : StandsRegular g p
    pub member : has set p ≡ true
    pub reached : last ≤ ready_in (home g p) 0
    pub closed : (q earlier place : ℕ) → 0 < earlier → earlier < place → sender_at (home g p) earlier ≡ sender_at (home g p) place →
        has_received (home g p) q place ≡ true → has_received (home g p) q earlier ≡ true

  module _ (p : ℕ) (is : IsLeaving p) (v : World) (still : IsStill w g parted parted-id input block v p) where
    abbrev s : Standing Msg
    s = is.stands.standing

    abbrev r : Replica
    r = is.here.replica

    abbrev disk : Disk
    disk = is.here.disk

    abbrev conf : Configuration Msg
    conf = configuration v.group (regular_in s.phase)

    abbrev from : ℕ
    from = delivered_to g p

    abbrev places : List ℕ
    places = transitional_places (home g p) set last

    stands-still : standing_of v.group p ≡ Some s
    stands-still = still.standings p (let le : p ≤ p = omega arith in le) ∙ is.stands.is

    phase-is : phase_of g p ≡ s.phase
    phase-is = ap (λ (o : Option (Standing Msg)). option_map_or (λ s. s.phase) o Down) is.stands.is

    from-is : delivered_to v.group p ≡ from
    from-is = ap (λ (o : Option (Standing Msg)). option_map_or (λ s. s.delivered) o 0) (still.standings p (let le : p ≤ p = omega arith in le))

    conf-is : conf ≡ home g p
    unfolding configuration
    conf-is = ap₂ (λ (list : List (Configuration Msg)) (x : Phase). configuration (record g { configurations = list }) (regular_in x)) still.configurations (sym phase-is)

    reaches : from ≤ last
    reaches = greatest-each (delivered_to g) set 0 p is.member

    -- the places that are handed in its regular phase
    abbrev early : List (Delivery Msg)
    early = deliveries_at (home g p) (above_up_to from last)

    abbrev late : List (Delivery Msg)
    late = TransitionalIn (regular_in (phase_of g p)) set ∷ deliveries_at (home g p) places

    abbrev t1 : Turn
    t1 = take_all early (begin r)

    abbrev turn : Turn
    turn = settle (take_all late t1)

    abbrev now : Turn → ℕ → World
    now t n = handed_to v v.group p disk s is.stands.named is.stands.regular t n

    abbrev gone : Turn → World
    gone t = left_to v v.group p disk s is.stands.named is.stands.regular set from t

    first-handed : MayIn v (replicate (last - from) (Hands p)) × (played_in v (replicate (last - from) (Hands p)) ≡ now t1 last)
    first-handed =
        let begins = begun-handed v p r disk s still.rising still.rises (still.nodes p (let le : p ≤ p = omega arith in le) ∙ is.here.node) stands-still is.stands.named is.stands.regular
        ∙ ap (now (begin r)) from-is in
        let some : last - from ≤ ready_in conf from =
        (let all : last ≤ ready_in conf 0 = subst (λ c. last ≤ ready_in c 0) (sym conf-is) is.reached in
        let le : from ≤ last = reaches in
        let enough : from + (last - from) ≤ ready_in conf 0 = omega (arith, all, le) in
        subst (λ n. last - from ≤ ready_in conf n) (let same : 0 + from ≡ from = omega arith in same) (ready-later conf from 0 (last - from) enough)) in
        let all = hands-all v v.group p disk s is.stands.named is.stands.regular (last - from) (begin r) from some in
        let count : from + (last - from) ≡ last = (let le : from ≤ last = reaches in omega (arith, le)) in (
          subst (λ x. MayIn x (replicate (last - from) (Hands p))) (sym begins) all.0,
          ap (λ x. played_in x (replicate (last - from) (Hands p))) begins ∙ all.1
              ∙ ap₂ (λ c n. now (take_all (deliveries_at c (above_up_to from last)) (begin r)) n) conf-is count,
        )

    may-go : may_in (now t1 last) (Leaves p set from places) ≡ true
    unfolding may_in may_make
    may-go =
        let h = set_standing v.group (standing v v.group p disk s is.stands.named is.stands.regular t1 last) in
        let home_is = home-stands v v.group p disk s is.stands.named is.stands.regular t1 last ∙ conf-is in
        let count = delivered-stands v v.group p disk s is.stands.named is.stands.regular t1 last in
        let regular : is_regular h p ≡ true = ap (λ (x : Phase). not (regular_in x == 0)) (phase-stands v v.group p disk s is.stands.named is.stands.regular t1 last) ∙ ap not is.stands.regular in
        ap₂ (λ (c : Configuration Msg) n. is_regular h p && ascend_within n (length c.ordered) places && hold_received c p n places && hold_earlier c n places) home_is count
        ∙ ap (λ b. b && ascend_within last (length (home g p).ordered) places && hold_received (home g p) p last places && hold_earlier (home g p) last places) regular
        ∙ may-places (home g p) set p last is.member is.closed

    went-away : small_in (now t1 last) (Leaves p set from places) ≡ gone (take_all late t1)
    went-away = leaves v v.group p disk s is.stands.named is.stands.regular set from t1 last places
        ∙ ap₂ (λ (x : Phase) c. gone (take_all (TransitionalIn (regular_in x) set ∷ deliveries_at c places) t1)) (sym phase-is) conf-is

    settled : small_in (gone (take_all late t1)) (Settles p) ≡ gone turn
    settled = settles-left v v.group p disk s is.stands.named is.stands.regular set from (take_all late t1)

    may-settle : may_in (gone (take_all late t1)) (Settles p) ≡ true
    unfolding may_in may_make
    may-settle = runs-hosted v p (take_all late t1).replica disk (set_standing v.group (past_standing v v.group p disk s is.stands.named is.stands.regular set from))

    whole-turn : replica_step r (Deliveries (input p)) ≡ turn
    unfolding replica_step handed_in_split
    whole-turn = ap settle (taken-append early late (begin r))

    ends-so : gone turn ≡ hosted v p turn.replica disk (send_all (set_standing v.group (parted p)) p turn.sent)
    ends-so = ap (hosted v p turn.replica disk)
        (ap (λ (x : Phase). (let s : Standing Msg = record { id = p; phase = Transitional (regular_in x) set; delivered = from; unordered = [] } in set_standing v.group s)) (sym phase-is)
        ∙ sym (sent-dropped turn.sent v.group (parted p) p refl refl))

    pub opens-so : MayIn v (block p) × (played_in v (block p) ≡ (let t = replica_step r (Deliveries (input p)) in hosted v p t.replica disk (send_all (set_standing v.group (parted p)) p t.sent)))
    opens-so =
        let first = first-handed in
        let steps = replicate (last - from) (Hands p) in
        let two : List Small = Leaves p set from places ∷ Settles p ∷ [] in (
          may-append v steps two first.0
              (subst (λ x. MayIn x two) (sym first.1) (may-go, (subst (λ x. may_in x (Settles p) ≡ true) (sym went-away) may-settle, tt))),
          played-append v steps two ∙ ap (λ x. played_in x two) first.1 ∙ ap (λ x. small_in x (Settles p)) went-away ∙ settled ∙ ends-so
              ∙ ap (λ (t : Turn). hosted v p t.replica disk (send_all (set_standing v.group (parted p)) p t.sent)) (sym whole-turn),
        )

  pub members-of : (list : List ℕ) → Each IsLeaving list → Each (IsMember w g parted parted-id input block) list
  members-of [] each = tt
  members-of (p ∷ list) each = (record { here = each.0.here; opens = λ v still. opens-so p each.0 v still }, members-of list each.1)

  pub split-is : IsRising 0 set → IsRising 0 (map (λ s. s.id) w.nodes) → DoRise g → Each IsLeaving set → IsMadeIn w (Split set)
  unfolding world_step happens turns_of smalls_in split ended
  split-is rise rising rises each =
      let behind = fold (become_transitional set) g set in
      let start : StepInProgress = quietly (grouped w behind) in
      let of_group = parted-placed set 0 rise g (λ q above. refl) in
      let on : IsGoing w g parted parted-id input block w start.world set 0 = record {
        still = record { nodes = λ q above. refl; standings = λ q above. refl; configurations = refl; rises = rises; rising = rising };
        group = of_group;
        snapshots = refl;
        nodes = λ q above. refl;
        ids = refl;
        running = λ q. refl;
        disk = λ q. refl;
      } in
      let all = together w g parted parted-id input block set 0 rise (members-of set each) w start on in
      let handed : hand_out w (split g set) ≡ handed_among w g parted parted-id input block start set = fold-map hand_over (handed_in_split g set) start set ∙ handed-is start set in
      let turns : turns_in w (split g set) ≡ turns_among w g parted parted-id input block set = turns-split w set in
      let steps : turns_as (leaving_steps g set) w (Split set) ≡ smalls_among w g parted parted-id input block set = ap (flat_map (ending block)) turns in
      rw steps (
        all.0,
        subst (λ (x : StepInProgress). IsSame (played_in w (smalls_among w g parted parted-id input block set)) (ended x).world) (sym handed)
            (same-lined (played_in w (smalls_among w g parted parted-id input block set)) (handed_among w g parted parted-id input block start set).world all.1 _),
      ) where
        handed-is : (go : StepInProgress) (list : List ℕ) → fold (λ go q. hand_over go (handed_in_split g set q)) go list ≡ fold (λ go q. hand go q (Deliveries (input q))) go list
        handed-is go [] = refl
        handed-is go (q ∷ list) = ap (λ x. fold (λ go q. hand_over go (handed_in_split g set q)) x list) (one go q) ∙ handed-is (hand go q (Deliveries (input q))) list where
          one : (go : StepInProgress) (q : ℕ) → hand_over go (handed_in_split g set q) ≡ hand go q (Deliveries (input q))
          one go q = ap (λ n. hand go n (Deliveries (input q))) (split-to g set q)
