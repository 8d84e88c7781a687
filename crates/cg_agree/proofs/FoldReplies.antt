-- A reply that a step of a run gives is read from the order up to its own request; each is given once; and it is given exactly where
-- the request's creator passes its place and lives since it made it.
use Rattle.std.proofs.Common.{◌⊎◌, ◌↔◌, ◌≡◌, ℕ, suc, ◌+◌, ◌≤◌, ◌<◌, nat_lt, nat_le, Bool, true, false, not, ◌&&◌, ◌||◌, is_some, List, [], ◌∷◌, ◌++◌, filter, drop, length, if◌then◌else◌, Option, Some, None, Contains, refl, sym, ap, ap₂, ◌∙◌, subst, inl, inr, option_and_then, option_map, arith, eq-eqb, append_assoc}
use Rattle.std.specs.Prelude.{◌==◌}
use Rattle.std.proofs.lemmas.Bool.{cases_Bool, cases_lt, and_parts, cond-true, ltb-true, leb-true, lt-ltb, le-leb, false_from_ne_true}
use Rattle.std.proofs.lemmas.List.{map-append}
use Rattle.cg_base.specs.Lists.{Each}
use Rattle.cg_base.specs.declared.action_id.ActionId.{ActionId}
use Rattle.cg_base.specs.Cuts.{index_in}
use Rattle.cg_base.specs.Ids.{same_id, has_name}
use Rattle.cg_base.specs.BoolLaws.{and_false}
use Rattle.cg_base.specs.IdLaws.{same_id-self}
use Rattle.cg_action.specs.declared.action.Action.{Action}
use Rattle.cg_action.specs.declared.entry.DbEntry.{DbEntry}
use Rattle.cg_db.specs.Apply.{apply, fold_actions}
use Rattle.cg_db.specs.Find.{answer, query_of}
use Rattle.cg_queue.specs.Queue.{names_of}
use Rattle.cg_report.specs.declared.entry.Reply.{Reply}
use Rattle.cg_client.specs.Replica.{Replica, created}
use Rattle.cg_client.specs.Turn.{Turn}
use Rattle.cg_client.specs.Marks.{is_first, after_owed, reply_to, given_to}
use Rattle.cg_states.specs.ReplicaStep.{replica_step}
use Rattle.cg_disk_records.specs.Crash.{Disk, EventEnd, Runs, Crashes, end_event}
use Rattle.cg_model.specs.World.{Node, World, has_begun, running, node_of, replica_of}
use Rattle.cg_model.specs.Show.{StepInProgress}
use Rattle.cg_model.specs.Step.{happens}
use Rattle.cg_model.specs.Run.{Step}
use Rattle.cg_model.specs.Shown.{order_of, made_action, made_actions, position_of}
use Rattle.cg_model.specs.Agreement.{through, is_down_in, is_created_in, lives_since, IsDue}
use Rattle.cg_model.specs.Chronicle.{Chronicle}
use Rattle.cg_model.specs.Fronts.{Front}
use Rattle.cg_model.specs.Looks.{greens_of}
use Rattle.cg_model.specs.FactsReplica.{AreBooked}
use Rattle.cg_model.specs.Smalls.{smalls_in}
use Rattle.cg_model.specs.Played.{AlwaysHolds}
use Rattle.cg_agree_lemmas.specs.FrontFacts.{Front-of_append, split_by_Front}
use Rattle.cg_disk_records.specs.Holds.{run_on, cut_behind, Rising}
use Rattle.cg_agree.proofs.ShownActions.{each-action, actions-shown}
use Rattle.cg_agree.proofs.FoldHeld.{IsInOrder, in-order}
use Rattle.cg_disk_records.specs.CutRaiseLaws.{rising-behind}
use Rattle.cg_agree.proofs.CreatorNumbered.{order-runs}
use Rattle.cg_agree_lemmas.specs.TurnWorlds.{life_at}
use Rattle.cg_agree_lemmas.specs.TurnReplies.{db_behind, replies_in}
use Rattle.cg_agree_lemmas.specs.RepliesPlaced.{IsIn, plain, times, times-both, reply_ids, ids_in}
use Rattle.cg_agree_lemmas.specs.DiskEnds.{end-cases}
use Rattle.cg_agree.proofs.RunSteps.{IsStepAt, StandsFor, stands-for}
use Rattle.cg_agree_lemmas.specs.OwedNames.{own_name, is_behind}
use Rattle.cg_agree_lemmas.specs.StepSays.{SaysSo}
use Rattle.cg_agree_lemmas.specs.EventSays.{made_by, replies_by}
use Rattle.cg_agree.proofs.EventMeets.{SaidOnly, KeptIn, TurnsIn, Meets, Stays, Turns, Falls, Wakes, Begins}
use Rattle.cg_agree_lemmas.specs.EventRuns.{event-runs}
use Rattle.cg_agree_lemmas.specs.GreensBehind.{greens-through}
use Rattle.cg_agree_lemmas.specs.LivesSince.{lives-next}
use Rattle.cg_agree.proofs.OwedRun.{LivesAt, OwedAt, step-shows}
use Rattle.cg_agree_lemmas.specs.NamesTimes.{named-times, times-named, times-passing, times-failing, times-once, in-times, times-contains, contains-in, placed-within, within-placed}
use Rattle.cg_agree.proofs.OwedKept.{meets, runs-now, created-now, was, says, turned-lives, owed-next, owed-run}
use Rattle.cg_disk_records.specs.RunMarkLaws.{run-names}
use Rattle.cg_model.specs.RunLaws.{world_of, chronicle_of}
use Rattle.cg_disk_records.specs.HeldLaws.{whitened-created}

-- ---- where a reply comes from

-- the action that a reply answers
record AnswersAt (db : List DbEntry) (actions : List Action) (r : Reply) : Type 0 where
  before : List Action
  action : Action
  after : List Action
  is : actions ≡ before ++ action ∷ after
  reply : r ≡ reply_to action (apply (db_behind db before) action)

in-both : {X : Type 0} (xs ys : List X) (x : X) → IsIn (xs ++ ys) x → IsIn xs x ⊎ IsIn ys x
in-both [] ys x there = inr there
in-both (y ∷ xs) ys x (inl here) = inl (inl here)
in-both (y ∷ xs) ys x (inr later) = elim (in-both xs ys x later) [ inl front ↦ inl (inr front) | inr back ↦ inr back ]

reply-at : (owed : List ActionId) (db : List DbEntry) (actions : List Action) (r : Reply) → IsIn (replies_in owed db actions) r → AnswersAt db actions r
reply-at owed db [] r there = absurd there
reply-at owed db (a ∷ actions) r there = elim (in-both (given_to owed a (apply db a)) (replies_in (after_owed owed a.id) (apply db a).db actions) r there) [
  | inl here ↦ record { before = []; action = a; after = actions; is = refl; reply = given (is_first owed a.id) here }
  | inr later ↦
      let rest = reply-at (after_owed owed a.id) (apply db a).db actions r later in
      record { before = a ∷ rest.before; action = rest.action; after = rest.after; is = ap (λ xs. a ∷ xs) rest.is; reply = rest.reply }
] where
  given : (b : Bool) → IsIn (if b then reply_to a (apply db a) ∷ [] else []) r → r ≡ reply_to a (apply db a)
  given true (inl here) = sym here
  given true (inr none) = absurd none
  given false none = absurd none

two-there : (first between after : List Reply) (r again : Reply) (list : List Reply) → list ≡ first ++ r ∷ (between ++ again ∷ after) → r.id ≡ again.id → 2 ≤ times r.id (reply_ids list)
two-there first between after r again list is same =
    let id = r.id in
    let self : same_id id id ≡ true = same_id-self id in
    let other : same_id again.id id ≡ true = subst (λ x. same_id x id ≡ true) same self in
    let all : times id (reply_ids list) ≡ times id (reply_ids first ++ id ∷ (reply_ids between ++ again.id ∷ reply_ids after)) =
    ap (λ rs. times id (reply_ids rs)) is
    ∙ ap (times id) (map-append (λ (r : Reply). r.id) first (r ∷ (between ++ again ∷ after)) ∙ ap (λ ids. reply_ids first ++ id ∷ ids) (map-append (λ (r : Reply). r.id) between (again ∷ after))) in
    let outer = times-both id (reply_ids first) (id ∷ (reply_ids between ++ again.id ∷ reply_ids after)) in
    let inner = times-both id (reply_ids between) (again.id ∷ reply_ids after) in
    let one : times id (id ∷ (reply_ids between ++ again.id ∷ reply_ids after)) ≡ suc (times id (reply_ids between ++ again.id ∷ reply_ids after)) =
    cond-true (same_id id id) (suc (times id (reply_ids between ++ again.id ∷ reply_ids after))) (times id (reply_ids between ++ again.id ∷ reply_ids after)) self in
    let two : times id (again.id ∷ reply_ids after) ≡ suc (times id (reply_ids after)) = cond-true (same_id again.id id) (suc (times id (reply_ids after))) (times id (reply_ids after)) other in
    omega arith

-- what passes a test is no more
fewer : (t : ActionId → Bool) (id : ActionId) (ids : List ActionId) → times id (filter t ids) ≤ times id ids
fewer t id ids = elim (cases_Bool (t id)) [
  | inl passes ↦ (let same = times-passing t id ids passes in omega arith)
  | inr fails ↦ (let none = times-failing t id ids fails in omega arith)
]

-- a name in the second of two lists
named-later : (xs ys : List ActionId) (id : ActionId) → has_name ys id ≡ true → has_name (xs ++ ys) id ≡ true
named-later [] ys id there = there
named-later (x ∷ xs) ys id there = or-later (same_id id x) (has_name (xs ++ ys) id) (named-later xs ys id there) where
  or-later : (a b : Bool) → b ≡ true → (a || b) ≡ true
  or-later true b e = refl
  or-later false b e = e

named-back : (xs ys : List ActionId) (id : ActionId) → has_name xs id ≡ false → has_name (xs ++ ys) id ≡ true → has_name ys id ≡ true
named-back [] ys id none there = there
named-back (x ∷ xs) ys id none there = at (same_id id x) none there (λ first. λ e. named-back xs ys id first e) where
  at : (b : Bool) → (b || has_name xs id) ≡ false → (b || has_name (xs ++ ys) id) ≡ true → (has_name xs id ≡ false → has_name (xs ++ ys) id ≡ true → has_name ys id ≡ true) → has_name ys id ≡ true
  at true off on again = absurd (let clash : true ≡ false = off in cc)
  at false off on again = again off on

-- the replica that runs on
abbrev replica_in : EventEnd → Replica → Replica
replica_in (Runs x disk) other = x
replica_in (Crashes disk green) other = other

-- ---- a step of a run

module _ (always : AlwaysHolds) (earlier : List Step) (s : Step) (is : IsStepAt earlier s) where
  abbrev now : List Step
  now = through earlier s

  abbrev w : World
  w = world_of earlier

  abbrev h : StepInProgress
  h = happens w s.event

  abbrev c : Chronicle
  c = chronicle_of earlier

  abbrev d : Chronicle
  d = chronicle_of now

  owed : (p : ℕ) → OwedAt earlier p
  owed = owed-run always earlier is.before

  owed_now : (p : ℕ) → OwedAt now p
  owed_now = owed-next always earlier s is owed

  before : StandsFor earlier
  before = stands-for always earlier is.before

  behind : StandsFor now
  behind = stands-for always now is.behind

  -- the replica took a turn, and runs on
  record IsTurned (p : ℕ) : Type 0 where
    old : Replica
    new : Replica
    turn : Turn
    base : ℕ
    was : replica_of w p ≡ Some old
    runs : replica_of (world_of now) p ≡ Some new
    says : SaysSo p base old.held turn
    low : base ≤ created old.held
    greens : greens_of d p ≡ greens_of c p ++ says.answered.more
    said : SaidOnly h p (names_of turn.made) turn.replies
    lives : (i : ℕ) → lives_since (own_name p i) now ≡ (nat_lt base i && nat_le i (created new.held))
    more : created old.held ≤ created new.held

  -- or nothing is answered, and no reply is due
  record IsQuiet (p : ℕ) : Type 0 where
    made : List ActionId
    said : SaidOnly h p made []
    undue : position_of p earlier < position_of p now → (i : ℕ) → lives_since (own_name p i) now ≡ true → ⊥

  dead : (p i : ℕ) → lives_since (own_name p i) now ≡ false → lives_since (own_name p i) now ≡ true → ⊥
  dead p i none lives = (let clash : true ≡ false = sym lives ∙ none in cc)

  -- who isn't up behind the step lives since nothing
  down-undue : (p : ℕ) → replica_of (world_of now) p ≡ None → (i : ℕ) → lives_since (own_name p i) now ≡ true → ⊥
  down-undue p runs i lives = dead p i (at runs) lives where
    at : replica_of (world_of now) p ≡ None → lives_since (own_name p i) now ≡ false
    at e = (subst (LivesAt now p) e (owed_now p).lives) i

  -- nor does one that wasn't up before it, and has made nothing in it
  fresh-undue : (p : ℕ) → replica_of w p ≡ None → ((i : ℕ) → is_created_in (own_name p i) s ≡ false) → (i : ℕ) → lives_since (own_name p i) now ≡ true → ⊥
  fresh-undue p off none i lives =
      dead p i (lives-next (own_name p i) earlier s ∙ ap₂ (λ (a b : Bool). (a && not (is_down_in p s)) || b) ((subst (LivesAt earlier p) off (owed p).lives) i) (none i)) lives

  stays-quiet : (p : ℕ) → KeptIn w h.world p → SaidOnly h p [] [] → IsQuiet p
  stays-quiet p kept said = record { made = []; said = said; undue = at (replica_of w p) refl } where
    at : (o : Option Replica) → replica_of w p ≡ o → position_of p earlier < position_of p now → (i : ℕ) → lives_since (own_name p i) now ≡ true → ⊥
    at None e less i lives = down-undue p (runs-now always earlier s is owed p ∙ kept.runs ∙ e) i lives
    at (Some r) e less i lives =
        let one = before.tells.position p r e in
        let two = behind.tells.position p r (runs-now always earlier s is owed p ∙ kept.runs ∙ e) in
        omega arith

  -- a turn that ends with the replica running on
  module _ (p : ℕ) (turn : TurnsIn w s.event h p) where
    abbrev t : Turn
    t = replica_step turn.replica turn.input

    ended-created : (x : Replica) (disk : Disk) → end_event turn.disk turn.replica.held t ≡ Runs x disk → created x.held ≡ created t.replica.held
    ended-created = end-cases turn.disk turn.replica.held t (λ e. (x : Replica) (disk : Disk) → e ≡ Runs x disk → created x.held ≡ created t.replica.held)
        (λ quiet disk content x y e. ap (λ (r : Replica). created r.held) (sym (ap (λ z. replica_in z x) e)))
        (λ does disk content x y e. ap (λ (r : Replica). created r.held) (sym (ap (λ z. replica_in z x) e)) ∙ whitened-created t.replica.held)
        (λ kept disk green content x y e. absurd (let clash : Crashes disk green ≡ Runs x y = e in cc))
        (λ lost disk green content x y e. absurd (let clash : Crashes disk green ≡ Runs x y = e in cc))

    before-up : replica_of w p ≡ Some turn.replica
    before-up = ap (λ (o : Option Node). option_and_then (λ s. running s.life) o) turn.before

    there : has_begun c.world p ≡ true
    there = at (node_of c.world p) (sym (before.stands.same.running p) ∙ before-up) where
      at : (o : Option Node) → option_and_then (λ s. running s.life) o ≡ Some turn.replica → is_some o ≡ true
      at None e = absurd (let clash : None ≡ Some turn.replica = e in cc)
      at (Some x) e = refl

    turned : (x : Replica) (disk : Disk) → end_event turn.disk turn.replica.held t ≡ Runs x disk → IsTurned p
    turned x disk e =
        let of_owed = was always earlier s is owed p turn in
        let tells_so = says always earlier s is owed p turn in
        let up : replica_of (world_of now) p ≡ Some x =
        runs-now always earlier s is owed p ∙ ap (λ (o : Option Node). option_and_then (λ s. running s.life) o) turn.behind ∙ ap (λ z. running (life_at z)) e in
        let told : SaidOnly h p (names_of t.made) t.replies = subst (λ z. SaidOnly h p (made_by t z) (replies_by t z)) e turn.said in
        let same = ended-created x disk e in
        let through_smalls = event-runs c w before.stands p turn.input s.event is.may is.admitted turn.of
        (record { replica = turn.replica; disk = turn.disk; node = turn.before; new = x; new_disk = disk; ends = e }) in
        record {
          old = turn.replica;
          new = x;
          turn = t;
          base = of_owed.base;
          was = before-up;
          runs = up;
          says = tells_so;
          low = of_owed.owing.low;
          greens = ap (λ (y : Chronicle). greens_of y p) is.chronicle
              ∙ greens-through c w (smalls_in w s.event) p turn.replica t tells_so.answered.more before.stands.same (before.stands.facts.net.hosted.past p ∙ there)
              (sym (before.stands.same.running p) ∙ before-up) tells_so.answered.greens through_smalls;
          said = told;
          lives = turned-lives always earlier s is owed p turn x up same told;
          more = (let reached : created x.held ≡ created turn.replica.held + tells_so.count = same ∙ tells_so.reached in omega arith);
        }

    crashed : (disk : Disk) (green : List ActionId) → end_event turn.disk turn.replica.held t ≡ Crashes disk green → IsQuiet p
    crashed disk green e = record {
      made = [];
      said = subst (λ z. SaidOnly h p (made_by t z) (replies_by t z)) e turn.said;
      undue = λ less. down-undue p (runs-now always earlier s is owed p ∙ ap (λ (o : Option Node). option_and_then (λ s. running s.life) o) turn.behind ∙ ap (λ z. running (life_at z)) e);
    }

    turn-outcome : IsQuiet p ⊎ IsTurned p
    turn-outcome = at (end_event turn.disk turn.replica.held t) refl where
      at : (e : EventEnd) → end_event turn.disk turn.replica.held t ≡ e → IsQuiet p ⊎ IsTurned p
      at (Runs x disk) e = inr (turned x disk e)
      at (Crashes disk green) e = inl (crashed disk green e)

  outcome : (p : ℕ) → IsQuiet p ⊎ IsTurned p
  outcome p = at (meets always earlier s is owed p) where
    at : Meets w s.event h p → IsQuiet p ⊎ IsTurned p
    at (Stays kept said) = inl (stays-quiet p kept said)
    at (Turns turn) = turn-outcome p turn
    at (Falls x) = inl (record { made = []; said = x.said; undue = λ less. down-undue p (runs-now always earlier s is owed p ∙ ap (λ (o : Option Node). option_and_then (λ s. running s.life) o) x.node) })
    at (Wakes x) = inl (record {
      made = x.made;
      said = x.said;
      undue = λ less. fresh-undue p x.none (λ i. created-now always earlier s is owed p i x.made x.said.made
          ∙ ap (λ (b : Bool). has_name x.made (own_name p i) && not b) x.event ∙ and_false (has_name x.made (own_name p i)));
    })
    at (Begins x) = inl (record { made = []; said = x.said; undue = λ less. fresh-undue p x.none (λ i. created-now always earlier s is owed p i [] x.said.made) })

  -- ---- what is answered

  -- a reply that the step gives is one of its creator's turn
  given-by : (r : Reply) → Contains s.entry.replies r → (x : IsTurned r.id.creator) × IsIn x.turn.replies r
  given-by r there = at (outcome r.id.creator) where
    in_step : IsIn (plain h.replies) r
    in_step = contains-in (plain h.replies) r (subst (λ rs. Contains rs r) (step-shows earlier s is).replies there)

    at : IsQuiet r.id.creator ⊎ IsTurned r.id.creator → (x : IsTurned r.id.creator) × IsIn x.turn.replies r
    at (inl quiet) = elim (quiet.said.from r refl in_step) [ inl none ↦ absurd none | inr none ↦ absurd none ]
    at (inr turned) = elim (turned.said.from r refl in_step) [ inl none ↦ absurd none | inr new ↦ (turned, new) ]

  -- the names of the replies to a replica's own actions
  abbrev step_ids : List ActionId
  step_ids = reply_ids s.entry.replies

  step-times : (id : ActionId) → times id step_ids ≡ times id (ids_in h.replies)
  step-times id = ap (λ rs. times id (reply_ids rs)) (step-shows earlier s is).replies

  quiet-times : (id : ActionId) → IsQuiet id.creator → times id step_ids ≡ 0
  quiet-times id quiet = step-times id ∙ quiet.said.count id.index

  turned-times : (id : ActionId) (x : IsTurned id.creator) → times id step_ids ≡ times id (filter (is_behind id.creator x.base) (names_of x.says.answered.more))
  turned-times id x = step-times id ∙ x.said.count id.index ∙ zero-plus (times id (reply_ids x.turn.replies)) ∙ ap (times id) x.says.replies where
    zero-plus : (n : ℕ) → 0 + n ≡ n
    zero-plus n = omega arith

  -- ---- a reply

  booked-front : (xs ys : List Action) → AreBooked d (xs ++ ys) → AreBooked d xs
  booked-front [] ys booked = tt
  booked-front (x ∷ xs) ys booked = (booked.0, booked-front xs ys booked.1)

  at-middle : (P : Action → Type 0) (xs : List Action) (a : Action) (ys : List Action) → Each P (xs ++ a ∷ ys) → P a
  at-middle P [] a ys each = each.0
  at-middle P (x ∷ xs) a ys each = at-middle P xs a ys each.1

  names-both : (xs ys : List Action) → names_of (xs ++ ys) ≡ names_of xs ++ names_of ys
  names-both xs ys = map-append (λ (a : Action). a.id) xs ys

  db-both : (xs ys : List Action) (db : List DbEntry) → db_behind db (xs ++ ys) ≡ db_behind (db_behind db xs) ys
  db-both [] ys db = refl
  db-both (x ∷ xs) ys db = db-both xs ys (apply db x).db

  pub fold-reply : (r : Reply) → Contains s.entry.replies r →
      (before after : List ActionId) × (a : Action) × (order_of now ≡ before ++ r.id ∷ after) × (made_action now r.id ≡ Some a)
      × (let applied = apply (fold_actions (made_actions now before)) a in
      (r.effect ≡ applied.effect) × (r.answer ≡ option_map (answer applied.db) (query_of a.kind)))
  fold-reply r there =
      let given = given-by r there in
      let x = given.0 in
      let more = x.says.answered.more in
      let old = x.old.held in
      let from = reply-at old.owed old.db more r (subst (λ rs. IsIn rs r) x.says.answered.replies given.1) in
      let a = from.action in
      let G = greens_of c r.id.creator in
      let first = G ++ from.before in
      let here = in-order now behind r.id.creator x.new x.runs in
      let all : greens_of d r.id.creator ≡ first ++ a ∷ from.after = x.greens ∙ ap (λ xs. G ++ xs) from.is ∙ sym (append_assoc G from.before (a ∷ from.after)) in
      let front : Front (names_of (first ++ a ∷ from.after)) (order_of now) = subst (λ xs. Front (names_of xs) (order_of now)) all here.front in
      let booked : AreBooked d (first ++ a ∷ from.after) = subst (AreBooked d) all here.booked in
      let named : r.id ≡ a.id = ap (λ (y : Reply). y.id) from.reply in
      let rest = drop (length (names_of (first ++ a ∷ from.after))) (order_of now) in
      let placed : order_of now ≡ names_of first ++ r.id ∷ (names_of from.after ++ rest) =
      split_by_Front (names_of (first ++ a ∷ from.after)) (order_of now) front
      ∙ ap (λ ids. ids ++ rest) (names-both first (a ∷ from.after))
      ∙ append_assoc (names_of first) (a.id ∷ names_of from.after) rest
      ∙ ap (λ id. names_of first ++ id ∷ (names_of from.after ++ rest)) (sym named) in
      let each = each-action now behind (first ++ a ∷ from.after) front booked in
      let found : made_action now r.id ≡ Some a = ap (made_action now) named ∙ at-middle (λ a. made_action now a.id ≡ Some a) first a from.after each in
      let short : Front (names_of first) (order_of now) =
      Front-of_append (names_of first) (names_of (a ∷ from.after)) (order_of now) (subst (λ ids. Front ids (order_of now)) (names-both first (a ∷ from.after)) front) in
      let those : made_actions now (names_of first) ≡ first = actions-shown now behind first short (booked-front first (a ∷ from.after) booked) in
      let was_order = in-order earlier before r.id.creator x.old x.was in
      let db : fold_actions (made_actions now (names_of first)) ≡ db_behind old.db from.before = ap fold_actions those ∙ db-both G from.before [] ∙ ap (λ db. db_behind db from.before) (sym was_order.core.made_of.db) in
      let reply : r ≡ reply_to a (apply (fold_actions (made_actions now (names_of first))) a) = from.reply ∙ ap (λ db. reply_to a (apply db a)) (sym db) in
      (names_of first, names_of from.after ++ rest, a, placed, found, (ap (λ (y : Reply). y.effect) reply, ap (λ (y : Reply). y.answer) reply))

  -- ---- no reply is given twice

  pub fold-once : (first between after : List Reply) (r again : Reply) → s.entry.replies ≡ first ++ r ∷ (between ++ again ∷ after) → r.id ≡ again.id → ⊥
  fold-once first between after r again list same = at (outcome r.id.creator) where
    at-least : 2 ≤ times r.id step_ids
    at-least = two-there first between after r again s.entry.replies list same

    at : IsQuiet r.id.creator ⊎ IsTurned r.id.creator → ⊥
    at (inl quiet) = (let two = at-least in let none = quiet-times r.id quiet in omega arith)
    at (inr x) =
        let two = at-least in
        let ids = names_of x.says.answered.more in
        let cut = x.old.held.queue.green_cut in
        let core = (in-order earlier before r.id.creator x.old x.was).core in
        let rising : Rising 0 cut = subst (Rising 0) (sym core.made_of.green_cut) (rising-behind [] (names_of (greens_of c r.id.creator)) tt) in
        let once = times-once cut ids r.id rising x.says.answered.run in
        let is_times = turned-times r.id x in
        let most : times r.id (filter (is_behind r.id.creator x.base) ids) ≤ times r.id ids = fewer (is_behind r.id.creator x.base) r.id ids in
        omega arith

  -- ---- when a reply is given

  module _ (first after : List ActionId) (id : ActionId) (placed : order_of now ≡ first ++ id ∷ after) where
    order-runs-now : run_on [] (order_of now) ≡ true
    order-runs-now = ap (run_on []) behind.tells.order ∙ order-runs d (world_of now) behind.stands

    -- of a turn: the order's place is behind the greens before it, and among those behind it, where the name became green in it
    module _ (x : IsTurned id.creator) where
      abbrev p : ℕ
      p = id.creator

      abbrev G : List Action
      G = greens_of c p

      abbrev more : List Action
      more = x.says.answered.more

      was_order : IsInOrder earlier p x.old
      was_order = in-order earlier before p x.old x.was

      now_order : IsInOrder now p x.new
      now_order = in-order now behind p x.new x.runs

      abbrev cut : List ActionId
      cut = x.old.held.queue.green_cut

      rising : Rising 0 cut
      rising = subst (Rising 0) (sym was_order.core.made_of.green_cut) (rising-behind [] (names_of G) tt)

      front-all : Front (names_of G ++ names_of more) (order_of now)
      front-all = subst (λ ids. Front ids (order_of now)) (names-both G more) (subst (λ xs. Front (names_of xs) (order_of now)) x.greens now_order.front)

      front-old : Front (names_of G) (order_of now)
      front-old = Front-of_append (names_of G) (names_of more) (order_of now) front-all

      count : (xs : List Action) → length (names_of xs) ≡ length xs
      count [] = refl
      count (a ∷ xs) = ap suc (count xs)

      position-old : position_of p earlier ≡ length (names_of G)
      position-old = before.tells.position p x.old x.was ∙ was_order.count ∙ sym (count G)

      position-new : position_of p now ≡ length (names_of G ++ names_of more)
      position-new = behind.tells.position p x.new x.runs ∙ now_order.count ∙ ap length x.greens ∙ sym (count (G ++ more)) ∙ ap length (names-both G more)

      -- a name that is newly green
      new-numbers : has_name (names_of more) id ≡ (nat_lt (index_in cut id.creator) id.index && nat_le id.index (index_in (cut_behind cut (names_of more)) id.creator))
      new-numbers = run-names cut (names_of more) id rising x.says.answered.run

      old-numbers : has_name (names_of G) id ≡ (nat_lt (index_in [] id.creator) id.index && nat_le id.index (index_in (cut_behind [] (names_of G)) id.creator))
      old-numbers = run-names [] (names_of G) id tt was_order.core.contiguous.greens

      given-due : 1 ≤ times id step_ids → IsDue earlier s id (suc (length first))
      given-due some = elim (cases_Bool (is_behind p x.base id)) [
        | inr other ↦ absurd (let none = times-failing (is_behind p x.base) id (names_of more) other in let all = turned-times id x in omega arith)
        | inl mine ↦
            let passes = times-passing (is_behind p x.base) id (names_of more) mine in
            let all = turned-times id x in
            let there : has_name (names_of more) id ≡ true = times-named id (names_of more) (omega arith) in
            let numbers = and_parts (nat_lt (index_in cut id.creator) id.index) (nat_le id.index (index_in (cut_behind cut (names_of more)) id.creator)) (sym new-numbers ∙ there) in
            let above : index_in cut id.creator < id.index = ltb-true (index_in cut id.creator) id.index numbers.0 in
            let below : id.index ≤ index_in (cut_behind cut (names_of more)) id.creator = leb-true id.index (index_in (cut_behind cut (names_of more)) id.creator) numbers.1 in
            let reached : index_in (cut_behind cut (names_of more)) id.creator ≡ index_in x.turn.replica.held.queue.green_cut id.creator = ap (λ k. index_in k id.creator) (sym x.says.answered.cut) in
            let green : index_in x.turn.replica.held.queue.green_cut id.creator ≤ created x.old.held = x.says.green in
            let total : created x.old.held ≤ created x.new.held = x.more in
            let whole : has_name (names_of G ++ names_of more) id ≡ true = named-later (names_of G) (names_of more) id there in
            let within = placed-within (order_of now) first after (names_of G ++ names_of more) id order-runs-now placed front-all whole in
            let late : length (names_of G) ≤ length first = not-early above in
            let low = position-old in
            let high = position-new in
            let from : x.base < id.index = ltb-true x.base id.index (and_parts (id.creator == p) (nat_lt x.base id.index) mine).1 in
            ((omega arith, omega arith), x.lives id.index ∙ ap₂ (λ a b. a && b) (lt-ltb x.base id.index from) (le-leb id.index (created x.new.held) (omega arith)))
      ] where
        not-early : index_in cut id.creator < id.index → length (names_of G) ≤ length first
        not-early above = elim (cases_lt (length first) (length (names_of G))) [
          | inr far ↦ far
          | inl less ↦
              let named : has_name (names_of G) id ≡ true = within-placed first after (names_of G) id (subst (Front (names_of G)) placed front-old) less in
              let numbers = and_parts (nat_lt (index_in [] id.creator) id.index) (nat_le id.index (index_in (cut_behind [] (names_of G)) id.creator)) (sym old-numbers ∙ named) in
              let low : id.index ≤ index_in (cut_behind [] (names_of G)) id.creator = leb-true id.index (index_in (cut_behind [] (names_of G)) id.creator) numbers.1 in
              let same : index_in cut id.creator ≡ index_in (cut_behind [] (names_of G)) id.creator = ap (λ k. index_in k id.creator) was_order.core.made_of.green_cut in
              absurd (omega arith)
        ]

      due-given : IsDue earlier s id (suc (length first)) → 1 ≤ times id step_ids
      due-given due =
          let low = position-old in
          let high = position-new in
          let passed_from = due.0.0 in
          let passed_to = due.0.1 in
          let whole : has_name (names_of G ++ names_of more) id ≡ true = within-placed first after (names_of G ++ names_of more) id (subst (Front (names_of G ++ names_of more)) placed front-all) (omega arith) in
          let there : has_name (names_of more) id ≡ true = not-before (omega arith) whole in
          let lived = and_parts (nat_lt x.base id.index) (nat_le id.index (created x.new.held)) (sym (x.lives id.index) ∙ due.1) in
          let mine : is_behind p x.base id ≡ true = ap₂ (λ a b. a && b) (eq-eqb id.creator p refl) lived.0 in
          let passes = times-passing (is_behind p x.base) id (names_of more) mine in
          let some = named-times id (names_of more) there in
          let all = turned-times id x in
          omega arith
        where
          not-before : length (names_of G) ≤ length first → has_name (names_of G ++ names_of more) id ≡ true → has_name (names_of more) id ≡ true
          not-before far whole = named-back (names_of G) (names_of more) id (false_from_ne_true (has_name (names_of G) id) (λ y.
              let within = placed-within (order_of now) first after (names_of G) id order-runs-now placed front-old y in omega arith)) whole

    given-is_due : 1 ≤ times id step_ids → IsDue earlier s id (suc (length first))
    given-is_due some = at (outcome id.creator) where
      at : IsQuiet id.creator ⊎ IsTurned id.creator → IsDue earlier s id (suc (length first))
      at (inl quiet) = absurd (let le = some in let none = quiet-times id quiet in omega arith)
      at (inr x) = given-due x some

    due-is_given : IsDue earlier s id (suc (length first)) → 1 ≤ times id step_ids
    due-is_given due = at (outcome id.creator) where
      at : IsQuiet id.creator ⊎ IsTurned id.creator → 1 ≤ times id step_ids
      at (inl quiet) = absurd (quiet.undue (let from = due.0.0 in let to = due.0.1 in omega arith) id.index due.1)
      at (inr x) = due-given x due

    pub fold-when : Contains step_ids id ↔ IsDue earlier s id (suc (length first))
    fold-when = (λ there. given-is_due (in-times id step_ids (contains-in step_ids id there)), λ due. times-contains id step_ids (due-is_given due))
