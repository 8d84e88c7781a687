-- A replica is at rest with its disk: what stands there is what it holds, but for reds, and who creates keeps no request. Its whole
-- step ends so, and it begins so.
use Rattle.std.proofs.Common.{◌≡◌, ℕ, suc, ◌-◌, ◌≤◌, true, false, List, [], ◌∷◌, fold, drop, length, Option, Some, None, IfSome, refl, sym, ap, ◌∙◌, subst, arith, option_and_then, option_map, if◌then◌else◌}
use Rattle.std.specs.Prelude.{◌==◌, nat_le}
use Rattle.std.proofs.lemmas.Bool.{cond_both}
use Rattle.cg_base.specs.Cuts.{index_in}
use Rattle.cg_action.specs.declared.action.Action.{Action}
use Rattle.cg_queue.specs.Queue.{Marks, Gaps, placed_red, names_of}
use Rattle.cg_queue.specs.declared.mark.Mark.TheVariants.{Placed, Known}
use Rattle.cg_base.specs.declared.weighted.Weighted.{Weighted}
use Rattle.cg_client.specs.Replica.{Held, State, RegPrim, TransPrim, ExchangeStates, ExchangeActions, Construct, No, Un, NonPrim, Left, Replica}
use Rattle.cg_client.specs.Turn.{Turn, begin}
use Rattle.cg_client.specs.Marks.{marked}
use Rattle.cg_client.specs.Summary.{redden, forget_own, own_to_red}
use Rattle.cg_disk_records.specs.Stored.{stored_of, whiten, recovery_turn}
use Rattle.cg_disk_records.specs.Commit.{commits}
use Rattle.cg_states.specs.ReplicaStep.{Input, replica_step}
use Rattle.cg_disk_records.specs.Crash.{Disk, whitened, end_event, recovered}
use Rattle.cg_model.specs.World.{NodeState, Up, Down, Node, running}
use Rattle.cg_model.specs.Looks.{on_disk}
use Rattle.cg_model.specs.FactsReplica.{GoesOn, IsAsOnDisk, IsEmptyIn}
use Rattle.cg_disk_records.specs.CutRaiseLaws.{behind-rises}
use Rattle.cg_agree_lemmas.specs.HeldMarks.{IsOneself, rising-red}
use Rattle.cg_agree_lemmas.specs.HeldOwn.{own-reddened, created-same}
use Rattle.cg_agree_lemmas.specs.DiskEnds.{end-cases}
use Rattle.cg_agree_lemmas.specs.TurnWorlds.{life_at}
use Rattle.cg_agree_lemmas.specs.TurnValues.{even-own_to_red}
use Rattle.cg_agree_lemmas.specs.DiskAhead.{OwnRuns, keeping-of, goes-further}
use Rattle.cg_agree_lemmas.specs.AttemptNew.{HasNoRecordYet, IsNewIn, step-tracked, as-on-disk}
use Rattle.cg_agree_lemmas.specs.KeptEmpty.{step-empty, step-behind}

abbrev pub IsAtRest : Replica → Held → Type 0
IsAtRest r disk = IsEmptyIn r.held r.state × GoesOn r.held disk × IsAsOnDisk r.held disk r.state

abbrev pub LifeRests : NodeState → Type 0
LifeRests (Up r disk) = IsAtRest r disk.content
LifeRests (Down disk green) = Unit {0}

abbrev pub NodeRests : Option Node → Type 0
NodeRests None = Unit {0}
NodeRests (Some s) = LifeRests s.life

-- ---- the same, as the facts say it

life-in : (l : NodeState) → IfSome (running l) (λ r. GoesOn r.held (on_disk l) × IsAsOnDisk r.held (on_disk l) r.state) → IfSome (running l) (λ r. IsEmptyIn r.held r.state) → LifeRests l
life-in (Up r disk) agrees empty = (empty, agrees.0, agrees.1)
life-in (Down disk green) agrees empty = tt

pub node-in : (o : Option Node) →
    IfSome (option_and_then (λ s. running s.life) o) (λ r. IfSome (option_map (λ s. on_disk s.life) o) (λ disk. GoesOn r.held disk × IsAsOnDisk r.held disk r.state)) →
    IfSome (option_and_then (λ s. running s.life) o) (λ r. IsEmptyIn r.held r.state) → NodeRests o
node-in None agrees empty = tt
node-in (Some s) agrees empty = life-in s.life agrees empty

life-agrees : (l : NodeState) → LifeRests l → IfSome (running l) (λ r. GoesOn r.held (on_disk l) × IsAsOnDisk r.held (on_disk l) r.state)
life-agrees (Up r disk) is = (is.1, is.2)
life-agrees (Down disk green) is = tt

pub node-agrees : (o : Option Node) → NodeRests o →
    IfSome (option_and_then (λ s. running s.life) o) (λ r. IfSome (option_map (λ s. on_disk s.life) o) (λ disk. GoesOn r.held disk × IsAsOnDisk r.held disk r.state))
node-agrees None is = tt
node-agrees (Some s) is = life-agrees s.life is

life-empty : (l : NodeState) → LifeRests l → IfSome (running l) (λ r. IsEmptyIn r.held r.state)
life-empty (Up r disk) is = is.0
life-empty (Down disk green) is = tt

pub node-empty : (o : Option Node) → NodeRests o → IfSome (option_and_then (λ s. running s.life) o) (λ r. IsEmptyIn r.held r.state)
node-empty None is = tt
node-empty (Some s) is = life-empty s.life is

-- ---- a step

no-less : (n : ℕ) → n - n ≡ 0
no-less n = omega arith

-- what is held stands there just so
goes-on-same : (h : Held) → GoesOn h (stored_of h)
goes-on-same h = record {
  white = refl;
  green = refl;
  red = λ creator. omega arith;
  yellow = refl;
  yellow_valid = refl;
  prim = refl;
  attempt_index = refl;
  vulnerable = refl;
  created = refl;
  own = sym (ap (λ n. drop n h.own) (no-less (length h.own)));
}

same-reds : (h : Held) (state : State) → IsAsOnDisk h (stored_of h) state
same-reds h (Construct conf heard) = refl
same-reds h (No conf heard) = refl
same-reds h Un = refl
same-reds h RegPrim = tt
same-reds h TransPrim = tt
same-reds h (ExchangeStates conf set heard) = tt
same-reds h (ExchangeActions conf summaries accepted) = tt
same-reds h (NonPrim regular) = tt
same-reds h Left = tt

empty-same : (h new : Held) (state : State) → new.buffered ≡ h.buffered → IsEmptyIn h state → IsEmptyIn new state
empty-same h new RegPrim e is = e ∙ is
empty-same h new (NonPrim true) e is = e ∙ is
empty-same h new Left e is = e ∙ is
empty-same h new (NonPrim false) e is = tt
empty-same h new (Construct conf heard) e is = tt
empty-same h new (No conf heard) e is = tt
empty-same h new Un e is = tt
empty-same h new TransPrim e is = tt
empty-same h new (ExchangeStates conf set heard) e is = tt
empty-same h new (ExchangeActions conf summaries accepted) e is = tt

whitened-buffer : (h : Held) → (whiten h).buffered ≡ h.buffered
unfolding whiten
whitened-buffer h = refl

-- Behind its step a replica is at rest, where it was.
pub turn-rests : (r : Replica) (disk : Disk) (input : Input) → IsAtRest r disk.content → OwnRuns r.held → HasNoRecordYet r r.state → IsNewIn r input →
    LifeRests (life_at (end_event disk r.held (replica_step r input)))
turn-rests r disk input rests own none new = end-cases disk r.held t (λ e. LifeRests (life_at e)) kept committed (λ stays d green is. tt) (λ gone d green is. tt) where
  t : Turn
  t = replica_step r input

  empty : IsEmptyIn t.replica.held t.replica.state
  empty = step-empty r input rests.0

  kept : commits r.held t ≡ false → (d : Disk) → d.content ≡ disk.content → IsAtRest t.replica d.content
  kept quiet d is =
      let keeping = keeping-of r.held t quiet in
      let further = step-behind r input own keeping.unnoted in
      subst (IsAtRest t.replica) (sym is) (
        empty,
        goes-further disk.content r.held t.replica.held rests.1 further.0 keeping.values,
        as-on-disk r t disk.content (step-tracked r input none new) keeping.values rests.2,
      )

  committed : commits r.held t ≡ true → (d : Disk) → d.content ≡ stored_of (whiten t.replica.held) → IsAtRest (whitened t.replica) d.content
  committed does d is =
      let h = whiten t.replica.held in
      subst (IsAtRest (whitened t.replica)) (sym is) (
        empty-same t.replica.held h t.replica.state (whitened-buffer t.replica.held) empty,
        goes-on-same h,
        same-reds h t.replica.state,
      )

-- ---- who begins, and who comes up from a disk

-- what a red mark leaves
pub record LeavesRest (old new : Held) : Type 0 where
  pub white : new.queue.white ≡ old.queue.white
  pub green_cut : new.queue.green_cut ≡ old.queue.green_cut
  pub yellow : new.queue.yellow ≡ old.queue.yellow

marked-rest : (t : Turn) (a : Action) → LeavesRest t.replica.held (redden t a).replica.held
marked-rest t a =
    let q = t.replica.held.queue in
    let cut = index_in q.red_cut a.id.creator in
    cond_both (nat_le a.id.index cut) (Marks Known q) (if a.id.index == suc cut then Marks Placed (placed_red q a) else Gaps cut) (λ m. LeavesRest t.replica.held (marked t a m).replica.held)
    (λ y. record { white = refl; green_cut = refl; yellow = refl })
    (λ n. cond_both (a.id.index == suc cut) (Marks Placed (placed_red q a)) (Gaps cut) (λ m. LeavesRest t.replica.held (marked t a m).replica.held)
    (λ y. record { white = refl; green_cut = refl; yellow = refl })
    (λ n. record { white = refl; green_cut = refl; yellow = refl }))

reddened-rest : (list : List Action) (t : Turn) → LeavesRest t.replica.held (fold redden t list).replica.held
reddened-rest [] t = record { white = refl; green_cut = refl; yellow = refl }
reddened-rest (a ∷ list) t =
    let one = marked-rest t a in
    let rest = reddened-rest list (redden t a) in
    record { white = rest.white ∙ one.white; green_cut = rest.green_cut ∙ one.green_cut; yellow = rest.yellow ∙ one.yellow }

pub own-rest : (t : Turn) → LeavesRest t.replica.held (own_to_red t).replica.held
unfolding own_to_red
own-rest t = let rest = reddened-rest t.replica.held.own (forget_own t) in record { white = rest.white; green_cut = rest.green_cut; yellow = rest.yellow }

drop-whole : (xs : List Action) → drop (length xs) xs ≡ []
drop-whole [] = refl
drop-whole (x ∷ xs) = drop-whole xs

drop-all : (xs ys : List Action) → ys ≡ [] → ys ≡ drop (length xs - length ys) xs
drop-all xs [] none = sym (ap (λ n. drop n xs) (let same : length xs - 0 ≡ length xs = omega arith in same) ∙ drop-whole xs)
drop-all xs (y ∷ ys) none = absurd (let clash : y ∷ ys ≡ [] = none in cc)

-- Who comes up from its disk is at rest.
pub recovered-rests : (start : List Weighted) (disk : Disk) (all : List Action) → IsOneself start disk.content all → IsAtRest (recovered disk) disk.content
unfolding recovery_turn
recovered-rests start disk all is =
    let h = disk.content in
    let t = begin (record { held = h; state = NonPrim false }) in
    let u = own_to_red t in
    let values = (even-own_to_red t).values in
    let rest = own-rest t in
    let red = own-reddened start all t is in
    subst (λ (s : State). IsEmptyIn u.replica.held s × GoesOn u.replica.held h × IsAsOnDisk u.replica.held h s) (sym (even-own_to_red t).state) (
      tt,
      record {
        white = rest.white;
        green = rest.green_cut;
        red = λ creator. subst (λ cut. index_in h.queue.red_cut creator ≤ index_in cut creator) (sym red.red_cut) (behind-rises h.queue.red_cut (names_of h.own) creator (rising-red start h all is));
        yellow = rest.yellow;
        yellow_valid = values.yellow_valid;
        prim = values.prim;
        attempt_index = values.attempt_index;
        vulnerable = values.vulnerable;
        created = created-same start all t is;
        own = drop-all h.own u.replica.held.own red.own;
      },
      tt,
    )

-- Who begins outside of a configuration is at rest.
pub begun-rests : (h : Held) → IsAtRest (record { held = h; state = NonPrim false }) h
begun-rests h = (
  tt,
  record {
    white = refl;
    green = refl;
    red = λ creator. omega arith;
    yellow = refl;
    yellow_valid = refl;
    prim = refl;
    attempt_index = refl;
    vulnerable = refl;
    created = refl;
    own = sym (ap (λ n. drop n h.own) (no-less (length h.own)));
  },
  tt,
)
