-- Every small step keeps the fact that who has told something in a configuration is a member of it, and in no earlier one.
use Rattle.std.proofs.Common.{◌≡◌, ℕ, ◌<◌, ◌≤◌, Bool, true, false, cond, not, ◌&&◌, ◌⊎◌, inl, inr, List, [], ◌∷◌, ◌++◌, map, find, filter_map, fold, Option, Some, None, IfSome, refl, sym, ap, ap₂, subst, ◌∙◌, arith, eqb-true, eq-eqb, ⊎_elim, is_some, option_and_then}
use Rattle.std.specs.Prelude.{◌==◌, is_none}
use Rattle.std.specs.Option.{option_map_or}
use Rattle.std.proofs.lemmas.Bool.{cases_Bool, cond-true, cond-false, and_parts, and_from, not-true, ne_eqb, false_from_ne_true}
use Rattle.cg_base.specs.declared.weighted.Weighted.{Weighted}
use Rattle.cg_base.specs.Weights.{ids}
use Rattle.cg_base.specs.FindLaws.{found_before}
use Rattle.cg_knowledge.specs.declared.summary.Summary.{Summary}
use Rattle.cg_group.specs.declared.phase.Phase.{Phase}
use Rattle.cg_group.specs.declared.phase.Phase.TheVariants.{Down, Alone, Regular, Transitional}
use Rattle.cg_group.specs.State.{phase_of, is_regular, regular_in}
use Rattle.cg_client.specs.Replica.{Replica}
use Rattle.cg_client.specs.Requests.{settle}
use Rattle.cg_client.specs.Summary.{summary_of}
use Rattle.cg_client.specs.Turn.{Turn, begin}
use Rattle.cg_disk_records.specs.Crash.{Disk}
use Rattle.cg_model.specs.World.{World, Up, Node, running, node_of, replica_of, has_begun}
use Rattle.cg_model.specs.Step.{begin_replica}
use Rattle.cg_model.specs.Chronicle.{Told, Chronicle}
use Rattle.cg_model.specs.Looks.{told_in, is_at, is_member, greens_of}
use Rattle.cg_model.specs.Talk.{summary_in}
use Rattle.cg_model.specs.FactsNet.{PhaseSound, PastLeft, Hosted}
use Rattle.cg_model.specs.FactsReplica.{IsModeData}
use Rattle.cg_model.specs.Small.{start, Small, Starts, Makes, Enters, Orders, Receives, Hands, Leaves, Asks, Settles, Commits, Crashes, Recovers, Copies, Joins, small_step, turning_as, coming, take_newest, newest_conf, after_turn, take_request}
use Rattle.cg_model.specs.Smalls.{may_make, is_between, is_running}
use Rattle.cg_agree_lemmas.specs.EntersTurn.{told-newest}
use Rattle.cg_agree_lemmas.specs.GroupKept.{begins-step, orders-conf, receives-conf, leaving-regular}
use Rattle.cg_agree_lemmas.specs.GroupSound.{GroupSound, phase-made}
use Rattle.cg_agree_lemmas.specs.HandsKept.{hosted}
use Rattle.cg_agree_lemmas.specs.Keyed.{find-none}
use Rattle.cg_agree.proofs.MoreThere.{MembersMore, members-more, more-one}
use Rattle.cg_agree_lemmas.specs.NextThere.{orders-now, receives-now}
use Rattle.cg_agree_lemmas.specs.OneSteps.{OneStep, MayEnter, may-enter, turns-step, hands-step, leaves-step, enters-step, commits-step, copies-step, crashes-step, recovers-step, joins-step, may-join, coming-is_up}
use Rattle.cg_agree_lemmas.specs.SmallTalk.{conf-there}
use Rattle.cg_agree_lemmas.specs.ToldKept.{told-same, told_in-same}
use Rattle.cg_model.specs.Played.{with_world}

-- ---- what an entry tells

-- a replica that comes into the newest configuration
pub record EntersNow (c : Chronicle) (p : ℕ) : Type 0 where
  pub replica : Replica
  pub disk : Disk
  pub node : node_of c.world p ≡ Some (record { id = p; life = Up replica disk })
  pub id : replica.held.id ≡ p
  pub between : is_between replica.state ≡ true
  pub may : MayEnter c p

pub enters-now : (c : Chronicle) (p : ℕ) → PhaseSound c → IfSome (replica_of c.world p) (IsModeData c p) → may_make c (Enters p) ≡ true → EntersNow c p
unfolding may_make
enters-now c p sound mode may =
    let enter = may-enter c p may in
    let sits = hosted c.world p (sound.up p ∙ coming-is_up c p sound enter.comes) in
    let runs : replica_of c.world p ≡ Some sits.replica = ap (option_and_then (λ (x : Node). running x.life)) sits.node in
    let data_of = subst (λ (o : Option Replica). IfSome o (IsModeData c p)) runs mode in
    let parts = and_parts (not (is_regular c.world.group p)) (option_map_or (λ r. is_between r.state) (replica_of c.world p) false) enter.comes in
    record {
      replica = sits.replica;
      disk = sits.disk;
      node = sits.node;
      id = data_of.id;
      between = sym (ap (λ (o : Option Replica). option_map_or (λ r. is_between r.state) o false) runs) ∙ parts.1;
      may = enter;
    }

-- its turn, and what it tells
abbrev pub entry_turn : Chronicle → Replica → Turn
entry_turn c r = take_newest c.world.group (begin r)

abbrev pub entry_told : Chronicle → ℕ → Replica → Told
entry_told c p r = record { summary = summary_of (entry_turn c r).replica.held (newest_conf c.world.group); greens = greens_of c p }

pub enters-is : (c : Chronicle) (p : ℕ) (now : EntersNow c p) → small_step c (Enters p) ≡ after_turn (coming c p) p now.replica now.disk (entry_turn c now.replica)
unfolding small_step
enters-is c p now = ap (λ (o : Option Node). option_map_or (λ s. turning_as (coming c p) p (take_newest c.world.group) s.life) o (coming c p)) now.node

pub enters-told : (c : Chronicle) (p : ℕ) (now : EntersNow c p) → (small_step c (Enters p)).told ≡ c.told ++ entry_told c p now.replica ∷ []
enters-told c p now =
    let turn = told-newest c.world.group now.replica now.between in
    ap (λ (d : Chronicle). d.told) (enters-is c p now)
    ∙ ap (λ xs. c.told ++ map (λ s. made-told s) (filter_map summary_in xs)) turn.sent where
      made-told : Summary → Told
      made-told s = record { summary = s; greens = greens_of c p }

-- the summary is of the configuration, and of its sender
pub summary-conf : (c : Chronicle) (r : Replica) → (entry_told c 0 r).summary.conf ≡ newest_conf c.world.group
unfolding summary_of
summary-conf c r = refl

pub summary-id : (c : Chronicle) (p : ℕ) (now : EntersNow c p) → (entry_told c p now.replica).summary.id ≡ p
unfolding summary_of
summary-id c p now = (told-newest c.world.group now.replica now.between).id ∙ now.id

none-there : {X : Type 0} (o : Option X) → is_none o ≡ true → o ≡ None
none-there None e = refl
none-there (Some x) e = absurd (let clash : false ≡ true = e in cc)

-- what was told of each behind an entry
pub told_in-enters : (c : Chronicle) (p : ℕ) (now : EntersNow c p) (k q : ℕ) →
    told_in (small_step c (Enters p)) k q ≡ cond ((k == newest_conf c.world.group) && (q == p)) (Some (entry_told c p now.replica)) (told_in c k q)
told_in-enters c p now k q =
    ap (find test) (enters-told c p now) ∙ ⊎_elim here other (cases_Bool ((k == new) && (q == p))) where
      new : ℕ
      new = newest_conf c.world.group

      one : Told
      one = entry_told c p now.replica

      test : Told → Bool
      test t = (t.summary.conf == k) && (t.summary.id == q)

      passes : test one ≡ ((new == k) && (p == q))
      passes = ap₂ (λ a b. (a == k) && (b == q)) (summary-conf c now.replica) (summary-id c p now)

      here : ((k == new) && (q == p)) ≡ true → find test (c.told ++ one ∷ []) ≡ cond ((k == new) && (q == p)) (Some one) (told_in c k q)
      here y =
          let parts = and_parts (k == new) (q == p) y in
          let none : find test c.told ≡ None = ap₂ (told_in c) (eqb-true k new parts.0) (eqb-true q p parts.1) ∙ none-there (told_in c new p) now.may.untold in
          let is : test one ≡ true = passes ∙ and_from (new == k) (p == q) (eq-eqb new k (sym (eqb-true k new parts.0))) (eq-eqb p q (sym (eqb-true q p parts.1))) in
          find-none test c.told (one ∷ []) none ∙ cond-true (test one) (Some one) None is ∙ sym (cond-true ((k == new) && (q == p)) (Some one) (told_in c k q) y)

      isnt : ((k == new) && (q == p)) ≡ false → test one ≡ false
      isnt n = false_from_ne_true (test one) (λ y.
          let parts = and_parts (new == k) (p == q) (sym passes ∙ y) in
          let clash : true ≡ false = sym (and_from (k == new) (q == p) (eq-eqb k new (sym (eqb-true new k parts.0))) (eq-eqb q p (sym (eqb-true p q parts.1)))) ∙ n in cc)

      other : ((k == new) && (q == p)) ≡ false → find test (c.told ++ one ∷ []) ≡ cond ((k == new) && (q == p)) (Some one) (told_in c k q)
      other n = by (find test c.told) refl ∙ sym (cond-false ((k == new) && (q == p)) (Some one) (told_in c k q) n) where
        by : (o : Option Told) → find test c.told ≡ o → find test (c.told ++ one ∷ []) ≡ find test c.told
        by None e = find-none test c.told (one ∷ []) e ∙ cond-false (test one) (Some one) None (isnt n) ∙ sym e
        by (Some t) e = found_before test c.told (one ∷ []) t e ∙ sym e

-- ---- the fact

-- the phase of one replica changes
past-one : (c d : Chronicle) (p : ℕ) (now : Phase) (n : ℕ) (is : Bool) → OneStep c d p now n is → MembersMore c d → d.told ≡ c.told →
    ((conf earlier : ℕ) → is_some (told_in c conf p) ≡ true → earlier < conf → is_at earlier now ≡ false) → PastLeft c → PastLeft d
past-one c d p now n is step more same own old = record {
  member = λ conf q told. more conf q (old.member conf q (ap is_some (sym (told_in-same c d same conf q)) ∙ told));
  left = λ conf q earlier told lt.
      let was = ap is_some (sym (told_in-same c d same conf q)) ∙ told in
      ap (is_at earlier) (step.stands.phase q) ∙ ⊎_elim
      (λ y. ap (is_at earlier) (cond-true (q == p) now (phase_of c.world.group q) y) ∙ own conf earlier (ap (λ x. is_some (told_in c conf x)) (sym (eqb-true q p y)) ∙ was) lt)
      (λ f. ap (is_at earlier) (cond-false (q == p) now (phase_of c.world.group q) f) ∙ old.left conf q earlier was lt)
      (cases_Bool (q == p));
}

-- phases are as before
past-same : (c d : Chronicle) → ((q : ℕ) → phase_of d.world.group q ≡ phase_of c.world.group q) → MembersMore c d → d.told ≡ c.told → PastLeft c → PastLeft d
past-same c d phase more same old = record {
  member = λ conf q told. more conf q (old.member conf q (ap is_some (sym (told_in-same c d same conf q)) ∙ told));
  left = λ conf q earlier told lt. ap (is_at earlier) (phase q) ∙ old.left conf q earlier (ap is_some (sym (told_in-same c d same conf q)) ∙ told) lt;
}

-- a transitional phase is of the configuration of the regular one before
parted-at : (earlier : ℕ) (x : Phase) (set : List ℕ) → not (regular_in x == 0) ≡ true → is_at earlier (Transitional (regular_in x) set) ≡ is_at earlier x
parted-at earlier Down set e = absurd (let clash : false ≡ true = e in cc)
parted-at earlier Alone set e = absurd (let clash : false ≡ true = e in cc)
parted-at earlier (Regular k) set e = refl
parted-at earlier (Transitional k s) set e = absurd (let clash : false ≡ true = e in cc)

-- an entry
past-enters : (c : Chronicle) (p : ℕ) → PhaseSound c → EntersNow c p → MembersMore c (small_step c (Enters p)) → PastLeft c → PastLeft (small_step c (Enters p))
past-enters c p sound now more old = record {
  member = λ conf q told. ⊎_elim
      (λ was. more conf q (old.member conf q was))
      (λ new. more conf q (subst (λ x. is_member c x q ≡ true) (sym new.0) (subst (λ x. is_member c (newest_conf c.world.group) x ≡ true) (sym new.1) now.may.member)))
      (either conf q told);
  left = λ conf q earlier told lt.
      let step = enters-step c p sound now.may.comes in
      ap (is_at earlier) (step.stands.phase q) ∙ ⊎_elim
      (λ y. ap (is_at earlier) (cond-true (q == p) (Regular (newest_conf c.world.group)) (phase_of c.world.group q) y)
      ∙ ne_eqb (newest_conf c.world.group) earlier (λ e. (let le = within conf q told in omega arith)))
      (λ f. ap (is_at earlier) (cond-false (q == p) (Regular (newest_conf c.world.group)) (phase_of c.world.group q) f) ∙ ⊎_elim
      (λ was. old.left conf q earlier was lt)
      (λ new. absurd (let clash : true ≡ false = sym (eq-eqb q p new.1) ∙ f in cc))
      (either conf q told))
      (cases_Bool (q == p));
} where
  new : ℕ
  new = newest_conf c.world.group

  either : (conf q : ℕ) → is_some (told_in (small_step c (Enters p)) conf q) ≡ true → (is_some (told_in c conf q) ≡ true) ⊎ ((conf ≡ new) × (q ≡ p))
  either conf q told = ⊎_elim
      (λ y. (let parts = and_parts (conf == new) (q == p) y in inr (eqb-true conf new parts.0, eqb-true q p parts.1)))
      (λ n. inl (sym (ap is_some (told_in-enters c p now conf q ∙ cond-false ((conf == new) && (q == p)) (Some (entry_told c p now.replica)) (told_in c conf q) n)) ∙ told))
      (cases_Bool ((conf == new) && (q == p)))

  within : (conf q : ℕ) → is_some (told_in (small_step c (Enters p)) conf q) ≡ true → conf ≤ new
  within conf q told = ⊎_elim (λ was. (conf-there c.world.group conf q (old.member conf q was)).1) (λ is. (let e = is.0 in omega arith)) (either conf q told)

-- replicas begin
past-begun : (c : Chronicle) (set : List Weighted) (replicas : List ℕ) (w : World) → PastLeft (with_world c w) → PastLeft (with_world c (fold (begin_replica set) w replicas))
past-begun c set [] w old = old
past-begun c set (p ∷ replicas) w old =
    let step = begins-step c set w p in
    past-begun c set replicas (begin_replica set w p)
    (past-one (with_world c w) (with_world c (begin_replica set w p)) p Alone 0 true step (more-one (with_world c w) _ p Alone 0 true step) refl (λ conf earlier told lt. refl) old)

past-world : (c : Chronicle) (set : List Weighted) → PastLeft (with_world c (fold (begin_replica set) c.world (ids set))) → PastLeft (start c set)
past-world c set old = record { member = old.member; left = old.left }

pub past_left-kept : (c : Chronicle) (s : Small) → Hosted c → GroupSound c → ((q : ℕ) → IfSome (replica_of c.world q) (IsModeData c q)) → may_make c s ≡ true → PastLeft c → PastLeft (small_step c s)
unfolding small_step may_make
past_left-kept c (Starts set) nodes sound mode m old = past-world c set (past-begun c set (ids set) c.world old)
past_left-kept c (Makes set) nodes sound mode m old =
    past-same c _ (phase-made c (small_step c (Makes set)) set refl (λ q. refl)) (members-more c (Makes set) nodes m sound) (told-same c (Makes set) tt) old
past_left-kept c (Enters p) nodes sound mode m old = past-enters c p sound.phases (enters-now c p sound.phases (mode p) m) (members-more c (Enters p) nodes m sound) old
past_left-kept c (Orders p) nodes sound mode m old =
    let next = orders-now c p sound.phases (λ k. (sound.confs k).places) m in
    past-same c _ (orders-conf c p next.conf next.stands next.message next.rest next.at).phase (members-more c (Orders p) nodes m sound) (told-same c (Orders p) tt) old
past_left-kept c (Receives p place) nodes sound mode m old =
    past-same c _ (receives-conf c p place (receives-now c p place sound.phases m)).phase (members-more c (Receives p place) nodes m sound) (told-same c (Receives p place) tt) old
past_left-kept c (Hands p) nodes sound mode m old =
    past-one c _ p _ _ true (hands-step c p sound.phases (and_parts _ _ m).0) (members-more c (Hands p) nodes m sound) (told-same c (Hands p) tt) (λ conf earlier told lt. old.left conf p earlier told lt) old
past_left-kept c (Leaves p set own places) nodes sound mode m old =
    let regular = leaving-regular c p set own places m in
    past-one c _ p _ own true (leaves-step c p set own places sound.phases regular) (members-more c (Leaves p set own places) nodes m sound) (told-same c (Leaves p set own places) tt)
    (λ conf earlier told lt. parted-at earlier (phase_of c.world.group p) set regular ∙ old.left conf p earlier told lt) old
past_left-kept c (Asks p kind) nodes sound mode m old =
    past-one c _ p _ _ _ (turns-step c p (take_request kind) sound.phases) (members-more c (Asks p kind) nodes m sound) (told-same c (Asks p kind) tt) (λ conf earlier told lt. old.left conf p earlier told lt) old
past_left-kept c (Settles p) nodes sound mode m old =
    past-one c _ p _ _ _ (turns-step c p settle sound.phases) (members-more c (Settles p) nodes m sound) (told-same c (Settles p) tt) (λ conf earlier told lt. old.left conf p earlier told lt) old
past_left-kept c (Commits p) nodes sound mode m old =
    past-one c _ p _ _ _ (commits-step c p sound.phases) (members-more c (Commits p) nodes m sound) (told-same c (Commits p) tt) (λ conf earlier told lt. old.left conf p earlier told lt) old
past_left-kept c (Crashes p) nodes sound mode m old =
    past-one c _ p Down 0 false (crashes-step c p m) (members-more c (Crashes p) nodes m sound) (told-same c (Crashes p) tt) (λ conf earlier told lt. refl) old
past_left-kept c (Recovers p) nodes sound mode m old =
    let parts = and_parts (has_begun c.world p) (not (is_running c p)) m in
    past-one c _ p Alone 0 true (recovers-step c p nodes parts.0 (not-true (is_running c p) parts.1)) (members-more c (Recovers p) nodes m sound) (told-same c (Recovers p) tt) (λ conf earlier told lt. refl) old
past_left-kept c (Copies p joiner) nodes sound mode m old =
    past-one c _ p _ _ _ (copies-step c p joiner sound.phases) (members-more c (Copies p joiner) nodes m sound) (told-same c (Copies p joiner) tt) (λ conf earlier told lt. old.left conf p earlier told lt) old
past_left-kept c (Joins joiner) nodes sound mode m old =
    past-one c _ joiner Alone 0 true (joins-step c joiner (may-join c joiner m)) (members-more c (Joins joiner) nodes m sound) (told-same c (Joins joiner) tt) (λ conf earlier told lt. refl) old
