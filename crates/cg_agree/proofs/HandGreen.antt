-- A place that is handed to a regular member of a primary component keeps all greens on one line.
use Rattle.std.proofs.Common.{◌≡◌, ℕ, suc, ◌≤◌, ◌<◌, Bool, true, false, cond, not, List, [], ◌∷◌, ◌++◌, Option, Some, None, IfSome, option_map, length, take, drop, find, fold, refl, sym, ap, ap₂, ◌∙◌, ⊎_elim, subst, arith, eqb-true, eq-eqb, append-nil, length-append, if◌then◌else◌}
use Rattle.std.specs.Prelude.{◌==◌, slice_get, option_and_then}
use Rattle.std.specs.Option.{option_map_or}
use Rattle.std.specs.List.{cons_option}
use Rattle.std.proofs.lemmas.Bool.{cases_Bool, cond-true, cond-false}
use Rattle.std.proofs.lemmas.List.{append_assoc}
use Rattle.cg_base.specs.Lists.{at_place}
use Rattle.cg_base.specs.Sets.{has}
use Rattle.cg_action.specs.declared.action.Action.{Action}
use Rattle.cg_wire.specs.declared.message.Msg.{Msg}
use Rattle.cg_wire.specs.declared.message.Msg.TheVariants.{Action as ActionMsg, State as StateMsg, GreenItem, RedItem, Cpc}
use Rattle.cg_group.specs.declared.phase.Phase.TheVariants.{Regular}
use Rattle.cg_group.specs.declared.delivery.Delivery.TheVariants.{Message}
use Rattle.cg_group.specs.State.{Sent, Configuration, GroupState, phase_of, is_regular, regular_in, delivered_to, configuration}
use Rattle.cg_group.specs.Events.{delivery_at, with_delivered}
use Rattle.cg_client.specs.Replica.{State, RegPrim, Replica}
use Rattle.cg_client.specs.Turn.{Turn, begin}
use Rattle.cg_client.specs.Marks.{can_be_green, mark_green, place_green}
use Rattle.cg_states.specs.ReplicaStep.{after_delivery as take_one, on_message}
use Rattle.cg_disk_records.specs.Crash.{Disk}
use Rattle.cg_group.specs.LookupLaws.{at-cond, eqb_comm}
use Rattle.cg_model.specs.World.{Up, Node, node_of, replica_of, running}
use Rattle.cg_model.specs.Chronicle.{Past, Attempt, Chronicle}
use Rattle.cg_model.specs.Fronts.{Front}
use Rattle.cg_model.specs.Looks.{past_of, greens_of, stood_of, is_at, is_in, conf_at, ordered_in, attempt_at, no_attempt, top_of, installation, left_count, on_disk, disk_held}
use Rattle.cg_model.specs.Talk.{act_in, acts_in}
use Rattle.cg_model.specs.Levels.{line_at, count_in, reached_in, reached_at}
use Rattle.cg_model.specs.FactsAttempts.{LevelsStand}
use Rattle.cg_model.specs.FactsGreens.{InstalledCount, Spine, IsOnLine, IsHandedGreen}
use Rattle.cg_model.specs.Small.{Hands, small_step, after_turn, newly_green, with_greens, attempts_behind, levels_behind, opened_by, is_entry, is_installation, entering, installing, handed_next, take_next, turning_as}
use Rattle.cg_agree_lemmas.specs.ChronicleFacts.{node_of-set, past_of-turn, greens_of-own, greens_of-other}
use Rattle.cg_agree_lemmas.specs.GroupTurn.{Moved, moved-handed, moved-sent, regular-moved}
use Rattle.cg_agree_lemmas.specs.HandNext.{take-next}
use Rattle.cg_agree_lemmas.specs.Reach.{greatest-bounds, greatest-grows}
use Rattle.cg_agree.proofs.OneLine.{IsOnTop, level-on_top, handed-front}
use Rattle.cg_agree_lemmas.specs.ActsWay.{drop-behind}

-- ---- the turn

-- behind a message a member of a primary component is in its state still, and its action is green
pub record GreenTurn (t u : Turn) (acts : List Action) : Type 0 where
  pub state : u.replica.state ≡ t.replica.state
  pub prim : u.replica.held.prim ≡ t.replica.held.prim
  pub greens : u.replica.held.queue.greens ≡ t.replica.held.queue.greens ++ acts

same-turn : (t : Turn) → GreenTurn t t []
same-turn t = record { state = refl; prim = refl; greens = sym (append-nil t.replica.held.queue.greens) }

marks-green : (t : Turn) (a : Action) → can_be_green t.replica.held a ≡ true → GreenTurn t (mark_green t a) (a ∷ [])
unfolding mark_green place_green
marks-green t a can = subst (λ u. GreenTurn t u (a ∷ [])) (sym (cond-true (can_be_green t.replica.held a) (place_green t a) t can)) (record { state = refl; prim = refl; greens = refl })

pub prim-turn : (from : ℕ) (m : Msg) (t : Turn) → ((a : Action) → act_in m ≡ Some a → can_be_green t.replica.held a ≡ true) →
    GreenTurn t (on_message RegPrim from m t) (acts_in (record { from = from; message = m } ∷ []))
unfolding on_message
prim-turn from (ActionMsg a) t can = marks-green t a (can a refl)
prim-turn from (StateMsg s) t can = same-turn t
prim-turn from (GreenItem at a) t can = same-turn t
prim-turn from (RedItem a) t can = same-turn t
prim-turn from (Cpc id conf) t can = same-turn t

attempts-same : (attempts : List Attempt) (p : ℕ) (greens : List Action) (old new : Replica) → old.state ≡ RegPrim → new.state ≡ RegPrim → attempts_behind attempts p greens old new ≡ attempts
attempts-same attempts p greens old new e f =
    ap₂ (λ x y. if is_entry x y then entering greens new.held attempts new.held.vulnerable else if is_installation x y then installing p attempts new.held.vulnerable else attempts) e f

levels-same : (c : Chronicle) (old new : Replica) → old.state ≡ RegPrim → new.state ≡ RegPrim → levels_behind c old new ≡ c.levels
levels-same c old new e f = ap₂ (λ x y. if is_installation x y then c.levels ++ opened_by c new.held.vulnerable else c.levels) e f

acts-append : (xs ys : List (Sent Msg)) → acts_in (xs ++ ys) ≡ acts_in xs ++ acts_in ys
acts-append [] ys = refl
acts-append (x ∷ xs) ys = with_first (act_in x.message) (acts-append xs ys) where
  with_first : (o : Option Action) → acts_in (xs ++ ys) ≡ acts_in xs ++ acts_in ys → cons_option o (acts_in (xs ++ ys)) ≡ cons_option o (acts_in xs) ++ acts_in ys
  with_first None e = e
  with_first (Some a) e = ap (λ zs. a ∷ zs) e

-- ---- the step

-- a regular member of a primary component is to be handed a place, and its action is the next one of its creator
pub record HandsPrimary (c : Chronicle) (p conf : ℕ) (r : Replica) (disk : Disk) (s : Sent Msg) (x : Past) : Type 0 where
  pub node : node_of c.world p ≡ Some (record { id = p; life = Up r disk })
  pub past : past_of c p ≡ Some x
  pub regular : phase_of c.world.group p ≡ Regular conf
  pub number : (conf == 0) ≡ false
  pub next : slice_get (ordered_in c conf) (delivered_to c.world.group p) ≡ Some s
  pub state : r.state ≡ RegPrim
  pub fits : (a : Action) → act_in s.message ≡ Some a → can_be_green r.held a ≡ true

module _ (c : Chronicle) (p conf : ℕ) (r : Replica) (disk : Disk) (s : Sent Msg) (x : Past) (h : HandsPrimary c p conf r disk s x) where
  abbrev g : GroupState Msg
  g = c.world.group

  abbrev count : ℕ
  count = delivered_to g p

  abbrev pub green_turn : Turn
  green_turn = on_message r.state s.from s.message (begin r)

  abbrev pub green_behind : Chronicle
  green_behind = after_turn (handed_next c p) p r disk green_turn

  turn-is : take_next g p (begin r) ≡ green_turn
  unfolding delivery_at take_one
  turn-is =
      ap (λ (k : ℕ). fold take_one (begin r) (delivery_at (configuration g k) (suc count))) (ap regular_in h.regular)
      ∙ ap (λ (o : Option (Sent Msg)). fold take_one (begin r) (option_map_or (λ s. Message (suc count) s.from s.message ∷ []) o [])) h.next

  pub green-step : small_step c (Hands p) ≡ green_behind
  unfolding small_step
  green-step =
      ap (λ (o : Option Node). option_map_or (λ s. turning_as (handed_next c p) p (take_next g p) s.life) o (handed_next c p)) h.node
      ∙ ap (after_turn (handed_next c p) p r disk) turn-is

  turned : GreenTurn (begin r) green_turn (acts_in (s ∷ []))
  turned = subst (λ (st : State). GreenTurn (begin r) (on_message st s.from s.message (begin r)) (acts_in (s ∷ []))) (sym h.state) (prim-turn s.from s.message (begin r) h.fits)

  still : green_turn.replica.state ≡ RegPrim
  still = turned.state ∙ h.state

  newly : newly_green r green_turn.replica ≡ acts_in (s ∷ [])
  newly = ap (drop (length r.held.queue.greens)) turned.greens ∙ drop-behind r.held.queue.greens (acts_in (s ∷ []))

  -- the member's greens grow by the action that it is handed, and those of others are as before
  pub greens-own : greens_of green_behind p ≡ greens_of c p ++ acts_in (s ∷ [])
  greens-own = greens_of-own (handed_next c p) p r disk green_turn x h.past ∙ ap (λ xs. greens_of c p ++ xs) newly

  pub greens-other : (q : ℕ) → (q ≡ p → ⊥) → greens_of green_behind q ≡ greens_of c q
  greens-other q other = greens_of-other (handed_next c p) p r disk green_turn q other

  stood-same : (q : ℕ) → stood_of green_behind q ≡ stood_of c q
  stood-same q =
      let new = newly_green r green_turn.replica in
      ap (λ (o : Option Past). option_map_or (λ x. x.stood) o []) (past_of-turn (handed_next c p) p r disk green_turn q)
      ∙ at-cond (λ (o : Option Past). option_map_or (λ x. x.stood) o []) (q == p) (option_map (with_greens new) (past_of c q)) (past_of c q)
      ∙ ap (λ xs. cond (q == p) xs (stood_of c q)) (kept new (past_of c q)) ∙ both (q == p) (stood_of c q) where
        kept : (new : List Action) (o : Option Past) → option_map_or (λ x. x.stood) (option_map (with_greens new) o) [] ≡ option_map_or (λ x. x.stood) o []
        kept new None = refl
        kept new (Some y) = refl

        both : (b : Bool) (xs : List Action) → cond b xs xs ≡ xs
        both true xs = refl
        both false xs = refl

  regular-group : is_regular g p ≡ true
  regular-group = ap (λ y. not (regular_in y == 0)) h.regular ∙ ap not h.number

  moved : Moved g green_behind.world.group p (suc count) green_turn.sent
  moved =
      let handed = moved-handed g p (suc count) regular-group in
      moved-sent green_turn.sent g (with_delivered g p (suc count)) p (suc count) [] handed (regular-moved g (with_delivered g p (suc count)) p (suc count) [] handed regular-group)

  ordered-same : (k : ℕ) → ordered_in green_behind k ≡ ordered_in c k
  ordered-same k = ap (λ (y : Configuration Msg). y.ordered) (moved.conf k)

  in-same : (k q : ℕ) → is_in green_behind k q ≡ is_in c k q
  in-same k q = ap (is_at k) (moved.phase q)

  attempts-is : green_behind.attempts ≡ c.attempts
  attempts-is = attempts-same c.attempts p (greens_of c p ++ newly_green r green_turn.replica) r green_turn.replica h.state still

  levels-is : green_behind.levels ≡ c.levels
  levels-is = levels-same (handed_next c p) r green_turn.replica h.state still

  top-is : top_of green_behind ≡ top_of c
  top-is = ap length levels-is

  attempt-is : (level : ℕ) → attempt_at green_behind level ≡ attempt_at c level
  attempt-is level = ap₂ (λ (xs : List Attempt) ls. option_map_or (λ a. a) (option_and_then (λ k. find (λ a. a.conf == k) xs) (at_place ls level)) (no_attempt c.start)) attempts-is levels-is

  line-is : (level : ℕ) → line_at green_behind level ≡ line_at c level
  line-is level = ap (λ (a : Attempt). installation a ++ acts_in (ordered_in green_behind a.conf)) (attempt-is level)
      ∙ ap (λ xs. installation (attempt_at c level) ++ acts_in xs) (ordered-same (attempt_at c level).conf)

  greens-more : (q : ℕ) → length (greens_of c q) ≤ length (greens_of green_behind q)
  greens-more q = ⊎_elim
      (λ y. subst (λ k. length (greens_of c k) ≤ length (greens_of green_behind k)) (sym (eqb-true q p y))
      (let e = ap length greens-own ∙ length-append (greens_of c p) (acts_in (s ∷ [])) in omega arith))
      (λ n. (let e = ap length (greens-other q (λ is. (let clash : true ≡ false = sym (eq-eqb q p is) ∙ n in cc))) in omega arith))
      (cases_Bool (q == p))

  count-grows : (a : Attempt) (q : ℕ) → count_in c a q ≤ count_in green_behind a q
  count-grows a q =
      let more = greens-more q in
      subst (λ b. count_in c a q ≤ (if b then length (greens_of green_behind q) else left_count a q)) (sym (in-same a.conf q))
      (either (is_in c a.conf q) (length (greens_of c q)) (length (greens_of green_behind q)) (left_count a q) more) where
        either : (b : Bool) (m n k : ℕ) → m ≤ n → cond b m k ≤ cond b n k
        either true m n k le = le
        either false m n k le = omega arith

  -- what some member of a level really has doesn't fall
  pub reached-grows : (level : ℕ) → reached_at c level ≤ reached_at green_behind level
  reached-grows level =
      let a = attempt_at c level in
      subst (λ b. reached_in c a ≤ reached_in green_behind b) (sym (attempt-is level))
      (greatest-grows (count_in c a) (count_in green_behind a) a.installed a.installed (λ q is. (is, count-grows a q)))

  -- what was on top is so still
  pub top-kept : (xs : List Action) → IsOnTop c xs → IsOnTop green_behind xs
  top-kept xs on =
      let more = reached-grows (top_of c) in
      let here = on.count in
      record {
        front = subst (λ k. Front xs (line_at green_behind k)) (sym top-is) (subst (Front xs) (sym (line-is (top_of c))) on.front);
        count = subst (λ k. length xs ≤ reached_at green_behind k) (sym top-is) (omega arith);
      }

  -- ---- the member itself

  -- it goes on along the line of its level
  pub handed-on : (a : Attempt) → a.conf ≡ conf → greens_of c p ≡ installation a ++ acts_in (take count (ordered_in c a.conf)) →
      greens_of green_behind p ≡ installation a ++ acts_in (take (suc count) (ordered_in green_behind a.conf))
  handed-on a is so_far =
      let next : slice_get (ordered_in c a.conf) count ≡ Some s = subst (λ k. slice_get (ordered_in c k) count ≡ Some s) (sym is) h.next in
      greens-own ∙ ap (λ xs. xs ++ acts_in (s ∷ [])) so_far ∙ append_assoc (installation a) (acts_in (take count (ordered_in c a.conf))) (acts_in (s ∷ []))
      ∙ ap (λ xs. installation a ++ xs) (sym (acts-append (take count (ordered_in c a.conf)) (s ∷ [])) ∙ ap acts_in (sym (take-next (ordered_in c a.conf) count s next)))
      ∙ ap (λ xs. installation a ++ acts_in (take (suc count) xs)) (sym (ordered-same a.conf))

  handed-number : delivered_to green_behind.world.group p ≡ suc count
  handed-number = moved.delivered p ∙ cond-true (p == p) (suc count) (delivered_to g p) (eq-eqb p p refl)

  -- a member of a primary component goes on being one of the attempt that opened its level
  pub line-kept : IsOnLine c p r → IsOnLine green_behind p green_turn.replica
  line-kept on =
      let level = r.held.prim.index in
      let same : attempt_at green_behind green_turn.replica.held.prim.index ≡ attempt_at c level = ap (attempt_at green_behind) (ap (λ pr. pr.index) turned.prim) ∙ attempt-is level in
      let at : (attempt_at c level).conf ≡ conf = on.conf ∙ ap conf_at h.regular in
      record {
        conf = ap (λ (a : Attempt). a.conf) same ∙ on.conf ∙ ap conf_at (sym (moved.phase p));
        member = ap (λ (a : Attempt). has a.set p) same ∙ on.member;
        greens = subst (λ a. IsHandedGreen green_behind p a green_turn.replica.state) (sym same) (subst (IsHandedGreen green_behind p (attempt_at c level)) (sym still)
            (handed-on (attempt_at c level) at (subst (IsHandedGreen c p (attempt_at c level)) h.state on.greens)
            ∙ ap (λ n. installation (attempt_at c level) ++ acts_in (take n (ordered_in green_behind (attempt_at c level).conf))) (sym handed-number)));
      }

  -- its greens are on top
  pub own-on_top : IsOnLine c p r → has (attempt_at c r.held.prim.index).installed p ≡ true → LevelsStand green_behind → InstalledCount green_behind → Spine green_behind →
      0 < r.held.prim.index → r.held.prim.index ≤ top_of green_behind → IsOnTop green_behind (greens_of green_behind p)
  own-on_top on installed stands counts spine some le =
      let level = r.held.prim.index in
      let a = attempt_at c level in
      let at : a.conf ≡ conf = on.conf ∙ ap conf_at h.regular in
      let so_far = subst (IsHandedGreen c p a) h.state on.greens in
      let here : is_in green_behind a.conf p ≡ true = in-same a.conf p ∙ ap (is_at a.conf) h.regular ∙ eq-eqb conf a.conf (sym at) in
      let mine : count_in green_behind a p ≡ length (greens_of green_behind p) = cond-true (is_in green_behind a.conf p) (length (greens_of green_behind p)) (left_count a p) here in
      let most : count_in green_behind a p ≤ reached_in green_behind a = greatest-bounds (count_in green_behind a) a.installed p installed in
      let same = attempt-is level in
      level-on_top green_behind level (greens_of green_behind p) stands counts spine some le
      (handed-front green_behind level (suc count) (greens_of green_behind p)
      (subst (λ b. greens_of green_behind p ≡ installation b ++ acts_in (take (suc count) (ordered_in green_behind b.conf))) (sym same) (handed-on a at so_far)))
      (subst (λ b. length (greens_of green_behind p) ≤ reached_in green_behind b) (sym same) (subst (λ n. n ≤ reached_in green_behind a) mine most))

  -- ---- all greens

  disk-same : (q : ℕ) → disk_held green_behind.world q ≡ disk_held c.world q
  disk-same q =
      ap (λ (o : Option Node). option_map (λ s. on_disk s.life) o) (node_of-set c.world p (Up green_turn.replica disk) q)
      ∙ at-cond (λ (o : Option Node). option_map (λ s. on_disk s.life) o) (p == q) (Some (record { id = p; life = Up green_turn.replica disk })) (node_of c.world q)
      ∙ ⊎_elim
      (λ y. cond-true (p == q) (Some disk.content) (disk_held c.world q) y ∙ sym (ap (λ (o : Option Node). option_map (λ s. on_disk s.life) o) h.node) ∙ ap (disk_held c.world) (eqb-true p q y))
      (λ n. cond-false (p == q) (Some disk.content) (disk_held c.world q) n)
      (cases_Bool (p == q))

  replica-other : (q : ℕ) → (q == p) ≡ false → replica_of green_behind.world q ≡ replica_of c.world q
  replica-other q other =
      ap (option_and_then (λ (y : Node). running y.life)) (node_of-set c.world p (Up green_turn.replica disk) q
      ∙ cond-false (p == q) (Some (record { id = p; life = Up green_turn.replica disk })) (node_of c.world q) (eqb_comm p q ∙ other))

  some-on : {X : Type 0} (o : Option X) (xs ys : List Action) → ys ≡ xs →
      IfSome o (λ z. Front xs (line_at c (top_of c)) × (length xs ≤ reached_at c (top_of c))) →
      IfSome o (λ z. Front ys (line_at green_behind (top_of green_behind)) × (length ys ≤ reached_at green_behind (top_of green_behind)))
  some-on None xs ys e is = is
  some-on (Some z) xs ys e is = let on = top-kept xs (record { front = is.0; count = is.1 }) in rw e (on.front, on.count)

  any-on : {X : Type 0} (o : Option X) (xs : List Action) → IsOnTop green_behind xs →
      IfSome o (λ z. Front xs (line_at green_behind (top_of green_behind)) × (length xs ≤ reached_at green_behind (top_of green_behind)))
  any-on None xs on = tt
  any-on (Some z) xs on = (on.front, on.count)

  abbrev OnBehind : List Action → Type 0
  OnBehind xs = Front xs (line_at green_behind (top_of green_behind)) × (length xs ≤ reached_at green_behind (top_of green_behind))
