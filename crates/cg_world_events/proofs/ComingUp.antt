-- A replica comes up from a disk that stands for a state, or stays down where a stop that was armed is reached.
use Rattle.std.proofs.Common.{◌≡◌, ◌<◌, ◌+◌, ℕ, Bool, true, false, cond, List, [], Option, Some, None, refl, sym, ◌∙◌, ap, subst, arith}
use Rattle.std.specs.Prelude.{IfSome}
use Rattle.std.specs.Option.{option_map}
use Rattle.std.proofs.lemmas.Bool.{le-leb, lt-leb}
use Rattle.cg_base.specs.declared.action_id.ActionId.{ActionId}
use Rattle.cg_disk.specs.Crashes.{armed_at, unarmed, Arms, Disarms}
use Rattle.cg_disk.specs.Sides.{Image}
use Rattle.cg_disk.specs.State.{DiskState, DiskStrike, Stops, left_by}
use Rattle.cg_disk.specs.View.{DiskView, IsSynced, IsAtRest}
use Rattle.cg_journal.specs.Strikes.{IsUnstruck, strike_of}
use Rattle.cg_disk_records.specs.Crash.{Disk, Strike, StopWith, recovered, disk_recovered}
use Rattle.cg_disk_records.specs.Recovery.{recovery_calls, has_moved, recovery_outcome, is_reached}
use Rattle.cg_disk_records.specs.Stored.{Stored, recovery_turn}
use Rattle.cg_store.specs.Defined.{strike_at}
use Rattle.cg_store.specs.Formats.{Standing, StandsFor, opened, disk_in}
use Rattle.cg_store.specs.MigratedLaws.{migrates_as_defined}
use Rattle.cg_store.specs.Migrating.{IsLostOpening, standing_left}
use Rattle.cg_store.specs.Opening.{IsNoStore}
use Rattle.cg_store.specs.Stands.{Stands, checkpointed, disk_of}
use Rattle.cg_engine.specs.Answers.{IsRecovered, IsStill}
use Rattle.cg_engine.specs.Defined.{strike_from}
use Rattle.cg_engine.specs.Engines.{Up as UpEngine, Fallen, IsSame, told}
use Rattle.cg_model.specs.Show.{EventEffects, news_of_recovery}
use Rattle.cg_model.specs.World.{Up, Down, Node}
use Rattle.cg_model.specs.Step.{risen}
use Rattle.cg_world_events.specs.Nodes.{node, raised, raised_under}
use Rattle.cg_world_events.specs.RestingLaws.{stays_unarmed}
use Rattle.cg_world_events.specs.Seen.{state_at, disk_seen, up_seen, FallsTo, fallen}
use Rattle.cg_world_events.specs.SeenLaws.{disk-seen, state-at}

-- a disk that stands for a state is a store, also where it might be of the older format
no_standing : (s : Standing) → None ≡ Some s → ⊥
no_standing s e = cc

pub is_store : (id : ℕ) (old new : DiskView) (s : Standing) → StandsFor id old.reads s → IsNoStore id old new → ⊥
is_store id old new s stands none = no_standing s (sym none.stands_for_none ∙ stands)

-- nothing is armed behind calls that weren't struck, where nothing was
pub unarmed_behind : (old new : DiskView) (s z : DiskState) → old.state ≡ Some s → IfSome old.state (λ s. s.strike ≡ None) →
    IsUnstruck old new → new.state ≡ Some z → z.strike ≡ None
unarmed_behind old new s z before none unstruck after =
    stays_unarmed old new s z unstruck before (subst (λ x. IfSome x (λ s. s.strike ≡ None)) before none) after

abbrev came_up : {D : Type 0} → (D → DiskView) → List ActionId → UpEngine D → List ActionId → Node × Option EventEffects
came_up view made e green = (up_seen view e [], Some (news_of_recovery made e.replica.held green))

-- ---- it comes up

-- from a disk that stands for this; behind the recovery nothing is armed
module _ {D : Type 0} (view : D → DiskView) (w : Fallen D) (u : Standing) (stands : StandsFor w.id (view w.disk).reads u)
    (before e : UpEngine D) (green : List ActionId) (is : IsRecovered view w before green) (same : IsSame before e)
    (reads : (view e.store.disk).reads ≡ (view before.store.disk).reads)
    (z : DiskState) (after : (view e.store.disk).state ≡ Some z) (none : z.strike ≡ None) where
  standing_is : is.standing ≡ u
  standing_is = let both : Some is.standing ≡ Some u = sym is.stands ∙ stands in cc

  content_is : is.standing.on.content ≡ u.on.content
  content_is = ap (λ (x : Standing). x.on.content) standing_is

  unwritten_is : e.store.unwritten ≡ (recovery_turn u.on.content).known
  unwritten_is = same.unwritten ∙ is.unwritten ∙ ap (λ (c : Stored). (recovery_turn c).known) content_is

  id_is : e.store.id ≡ w.id
  id_is = same.id ∙ is.id_is

  still_stands : Stands e.store.id (view e.store.disk).reads (opened u)
  still_stands =
      subst (λ (id : ℕ). Stands id (view e.store.disk).reads (opened u)) (sym id_is)
      (subst (λ (c : Image). Stands w.id c (opened u)) (sym reads)
      (subst (λ (x : Standing). Stands w.id (view before.store.disk).reads (opened x)) standing_is is.reached.stands))

  disk_is : disk_seen view e [] ≡ disk_recovered (disk_in [] u)
  disk_is =
      disk-seen view e [] (opened u) z still_stands after
      ∙ (λ i. record (disk_of (unwritten_is i) (opened u)) { armed = option_map (strike_from (view e.store.disk).time []) (none i) })
      ∙ ap (λ (d : Disk). record d { unwritten = (recovery_turn u.on.content).known }) (migrates_as_defined.opened_is u)

  replica_is : e.replica ≡ recovered (disk_in [] u)
  replica_is = same.replica ∙ is.replica ∙ ap (λ (c : Stored). (recovery_turn c).replica) content_is

  green_is : green ≡ told w u.on.content
  green_is = is.green_is ∙ ap (λ (c : Stored). told w c) content_is

  pub rises_seen : (made : List ActionId) → came_up view made e green ≡ raised (fallen w u) (risen made (fallen w u).life)
  rises_seen made = λ i. (node (id_is i) (Up (replica_is i) (disk_is i)), Some (news_of_recovery made (replica_is i).held (green_is i)))

-- ---- with a stop that is armed

-- where it is reached or isn't
pub risen_reached : (made : List ActionId) (p : ℕ) (strike : Strike) (disk : Disk) (green : List ActionId) → is_reached disk strike ≡ true →
    raised_under made strike (node p (Down disk green)) ≡ (node p (Down (recovery_outcome disk strike) green), None)
risen_reached made p strike disk green is = rw is refl

pub risen_passed : (made : List ActionId) (p : ℕ) (strike : Strike) (disk : Disk) (green : List ActionId) → is_reached disk strike ≡ false →
    raised_under made strike (node p (Down disk green)) ≡ raised (node p (Down disk green)) (risen made (Down disk green))
risen_passed made p strike disk green is = rw is refl

module _ {D : Type 0} (view : D → DiskView) (w x : Fallen D) (n : ℕ) (fill : List ℕ) (arms : Arms Stops n (view w.disk) (view x.disk)) (still : IsStill w x)
    (u : Standing) (stands : StandsFor w.id (view w.disk).reads u) (s : DiskState) (before : (view w.disk).state ≡ Some s) where
  abbrev strike : Strike
  strike = record { call = n; fault = StopWith fill }

  abbrev struck_at : DiskStrike
  struck_at = record { call = (view w.disk).time + n; blow = Stops }

  -- the disk on which it is armed
  pub armed_stands : StandsFor x.id (view x.disk).reads u
  armed_stands =
      subst (λ (id : ℕ). StandsFor id (view x.disk).reads u) (sym still.id_is)
      (subst (λ (c : Image). StandsFor w.id c u) (sym arms.reads) stands)

  armed_state : (view x.disk).state ≡ Some (armed_at ((view w.disk).time + n) Stops s)
  armed_state = arms.state ∙ ap (option_map (armed_at ((view w.disk).time + n) Stops)) before

  told_is : (h : Stored) → told x h ≡ told w h
  told_is h = λ i. told (record { disk = w.disk; id = w.id; count = still.count_is i; green = still.green_is i }) h

  fallen_is : fallen x u ≡ fallen w u
  fallen_is = λ i. node (still.id_is i) (Down (disk_in [] u) (told_is u.on.content i))

  -- it comes up: then the stop is still ahead
  module _ (e f : UpEngine D) (green : List ActionId) (is : IsRecovered view x e green) (same : IsSame e f) (disarms : Disarms (view e.store.disk) (view f.store.disk))
      (z : DiskState) (after : (view e.store.disk).state ≡ Some z) where
    standing_is' : is.standing ≡ u
    standing_is' = let both : Some is.standing ≡ Some u = sym is.stands ∙ armed_stands in cc

    strike_stays : z.strike ≡ Some struck_at
    strike_stays =
        let here : strike_of (view x.disk) ≡ Some (Some struck_at) = ap (option_map (λ (s : DiskState). s.strike)) armed_state in
        let there : strike_of (view e.store.disk) ≡ Some z.strike = ap (option_map (λ (s : DiskState). s.strike)) after in
        let both : Some z.strike ≡ Some (Some struck_at) = sym there ∙ is.reached.unstruck.stays ∙ here in
        cc

    ahead : (view e.store.disk).time < (view w.disk).time + n
    ahead =
        let there : strike_of (view e.store.disk) ≡ Some (Some struck_at) = ap (option_map (λ (s : DiskState). s.strike)) after ∙ ap Some strike_stays in
        subst (λ o. IfSome o (λ strike. IfSome strike (λ (s : DiskStrike). (view e.store.disk).time < s.call))) there is.reached.unstruck.ahead

    passed : is_reached (disk_in [] u) strike ≡ false
    passed =
        let calls : recovery_calls is.standing.format ≡ recovery_calls u.format = ap (λ (x : Standing). recovery_calls x.format) standing_is' in
        let time : (view e.store.disk).time ≡ (view x.disk).time + recovery_calls is.standing.format = is.reached.time in
        lt-leb n (recovery_calls u.format) (omega (arith, ahead, calls, time, arms.time))

    pub rises_under : (made : List ActionId) → came_up view made f green ≡ raised_under made strike (fallen w u)
    rises_under made =
        rises_seen view x u armed_stands e f green is same disarms.reads (unarmed z) (disarms.state ∙ ap (option_map unarmed) after) refl made
        ∙ ap (λ (f : Node). raised f (risen made f.life)) fallen_is
        ∙ sym (risen_passed made w.id strike (disk_in [] u) (told w u.on.content) passed)

  -- it stays down: the stop was reached
  module _ (rest : IsAtRest (view w.disk)) (y : Fallen D) (lost : IsLostOpening x.id (view x.disk) (view y.disk)) (down : IsStill x y) (z : DiskState) (after : (view y.disk).state ≡ Some z) where
    call_is : lost.call ≡ n
    call_is =
        let hit = lost.struck.reached (armed_at ((view w.disk).time + n) Stops s) armed_state in
        let same : hit.0 ≡ struck_at = let both : Some hit.0 ≡ Some struck_at = sym hit.1 in cc in
        let call : hit.0.call ≡ (view w.disk).time + n = ap (λ (s : DiskStrike). s.call) same in
        omega (arith, call, hit.2, lost.time, arms.time)

    pub reached : is_reached (disk_in [] u) strike ≡ true
    reached = le-leb n (recovery_calls u.format) (omega (arith, (lost.stood u armed_stands).within, call_is))

    abbrev left : Standing
    left = standing_left u n Stops fill

    still_at_rest : IsAtRest (view x.disk)
    still_at_rest = record {
      only = λ c may. rest.only c ((arms.images c).0 may) ∙ sym arms.reads;
      clean = subst (λ o. IfSome o IsSynced) (sym armed_state) (subst (λ o. IfSome o IsSynced) before rest.clean);
    }

    pub falls_there : FallsTo view y fill left
    falls_there =
        let cut = (lost.stood u armed_stands).told still_at_rest (armed_at ((view w.disk).time + n) Stops s) z armed_state after in
        let same : cut.strike ≡ struck_at = let both : Some cut.strike ≡ Some struck_at = sym cut.armed in cc in
        let there : StandsFor x.id (left_by z fill) (standing_left u lost.call cut.strike.blow fill) = cut.fills fill in
        let so : standing_left u lost.call cut.strike.blow fill ≡ left = λ i. standing_left u (call_is i) (ap (λ (s : DiskStrike). s.blow) same i) fill in
        subst (λ (id : ℕ). StandsFor id (left_by (state_at (view y.disk)) fill) left) (sym down.id_is)
        (subst (λ (d : DiskState). StandsFor x.id (left_by d fill) left) (sym (state-at view y.disk z after))
        (subst (λ (v : Standing). StandsFor x.id (left_by z fill) v) so there))

    -- what it held and is to tell is as before
    content_stays : left.on.content ≡ u.on.content
    content_stays = at (has_moved u.format (strike_at n Stops fill)) where
      at : (b : Bool) → (cond b (checkpointed u.on) u.on).content ≡ u.on.content
      at true = refl
      at false = refl

    names_stay : told y left.on.content ≡ told w u.on.content
    names_stay = ap (told y) content_stays ∙ (λ i. told (record { disk = w.disk; id = w.id; count = down.count_is i; green = down.green_is i }) u.on.content) ∙ told_is u.on.content

    pub stays_under : (made : List ActionId) → (let stays : Node × Option EventEffects = (fallen y left, None) in stays ≡ raised_under made strike (fallen w u))
    stays_under made =
        (λ i. (node ((down.id_is ∙ still.id_is) i) (Down (migrates_as_defined.struck u n Stops fill i) (names_stay i)), None))
        ∙ sym (risen_reached made w.id strike (disk_in [] u) (told w u.on.content) reached)
