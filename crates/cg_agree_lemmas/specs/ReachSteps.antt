-- In each small step a configuration with messages goes on: who isn't regular there doesn't become so and receives nothing more.
use Rattle.std.proofs.Common.{◌≡◌, ℕ, suc, ◌≤◌, ◌<◌, true, false, not, ◌&&◌, List, [], ◌∷◌, ◌++◌, Option, Some, None, length, fold, refl, sym, ap, ◌∙◌, ⊎_elim, subst, arith, eqb-true, eq-eqb}
use Rattle.std.specs.Prelude.{◌==◌, is_none}
use Rattle.std.specs.Option.{option_map_or}
use Rattle.std.proofs.lemmas.Bool.{cases_Bool, cond-true, cond-false, cond_both, cases_lt, and_parts, false_from_ne_true}
use Rattle.cg_base.specs.declared.weighted.Weighted.{Weighted}
use Rattle.cg_base.specs.Text.{is_nil}
use Rattle.cg_base.specs.Weights.{ids}
use Rattle.cg_base.specs.ListLaws.{at_place-past, is_nil-none}
use Rattle.cg_wire.specs.declared.message.Msg.{Msg}
use Rattle.cg_group.specs.declared.phase.Phase.TheVariants.{Down, Alone, Regular, Transitional}
use Rattle.cg_group.specs.State.{Configuration, Standing, GroupState, no_configuration, standing_of, phase_of, regular_in, is_regular, delivered_to, unordered_of, configuration, has_received, set_standing}
use Rattle.cg_group.specs.Events.{come_up, go_down, become_regular, send, send_from, send_all, with_delivered}
use Rattle.cg_group.specs.Refusals.{receive_refusal, not_up, not_regular, no_such_place, already_received, earlier_missing}
use Rattle.cg_group.specs.LookupLaws.{phase_of-set, configuration-set_standing, standing_of-down}
use Rattle.cg_group.specs.PlaceLaws.{at_place-append}
use Rattle.cg_client.specs.Turn.{Turn, begin}
use Rattle.cg_client.specs.Requests.{settle}
use Rattle.cg_disk_records.specs.Crash.{recovered}
use Rattle.cg_model.specs.World.{NodeState, Up, Down as DownLife, World, node_of, replica_of}
use Rattle.cg_model.specs.Step.{begin_replica}
use Rattle.cg_model.specs.Chronicle.{Chronicle}
use Rattle.cg_model.specs.Fronts.{Front}
use Rattle.cg_model.specs.Looks.{conf_of, told_in, is_regular_at, is_regular_in, is_member, ordered_in, snapshot_of}
use Rattle.cg_model.specs.FactsNet.{PhaseSound, IsPhase, ReceiptsInside}
use Rattle.cg_model.specs.Small.{Small, Starts, Makes, Enters, Orders, Receives, Hands, Leaves, Asks, Settles, Commits, Crashes, Recovers, Copies, Joins, small_step, turning_as, turning, make_configuration, newest_conf, commit_as, crash_as, recover_as, copy_as, join_with, coming, take_newest, handed_next, take_next, leaving, take_parting, take_request, become_past}
use Rattle.cg_model.specs.Smalls.{may_make, may_enter, may_come}
use Rattle.cg_agree_lemmas.specs.FrontFacts.{Front-refl, Front-append}
use Rattle.cg_agree_lemmas.specs.GroupTurn.{standing-id}
use Rattle.cg_agree_lemmas.specs.HandsKept.{regular-phase}
use Rattle.cg_agree_lemmas.specs.OrdersTalk.{Ordered}
use Rattle.cg_agree_lemmas.specs.OrdersWorld.{OrdersAt, ordered-step, step-is}
use Rattle.cg_agree_lemmas.specs.SmallTalk.{conf-there, receive-is, receive-same, some-waits, within-phase}
use Rattle.cg_agree_lemmas.specs.UnorderedKept.{regular-where_ordered, first-none, refused-not}
use Rattle.cg_agree_lemmas.specs.TalkFrame.{SameTalk}
use Rattle.cg_agree_lemmas.specs.ReachFacts.{GoesOnIn}

-- a configuration as it was, in which nobody becomes regular
pub record Fixed (conf : ℕ) (g h : GroupState Msg) : Type 0 where
  pub conf_same : configuration h conf ≡ configuration g conf
  pub stays : (p : ℕ) → is_regular_at conf (phase_of g p) ≡ false → is_regular_at conf (phase_of h p) ≡ false

module _ (conf : ℕ) where
  pub fixed-refl : (g : GroupState Msg) → Fixed conf g g
  fixed-refl g = record { conf_same = refl; stays = λ p out. out }

  pub fixed-then : (f g h : GroupState Msg) → Fixed conf f g → Fixed conf g h → Fixed conf f h
  fixed-then f g h a b = record { conf_same = b.conf_same ∙ a.conf_same; stays = λ p out. b.stays p (a.stays p out) }

  -- one replica stands otherwise, and isn't regular there, or was so before
  pub fixed-set : (g : GroupState Msg) (s : Standing Msg) → (is_regular_at conf (phase_of g s.id) ≡ false → is_regular_at conf s.phase ≡ false) → Fixed conf g (set_standing g s)
  fixed-set g s here = record {
    conf_same = configuration-set_standing g s conf;
    stays = λ p out. ap (is_regular_at conf) (phase_of-set g s p) ∙ ⊎_elim
        (λ is. ap (is_regular_at conf) (cond-true (p == s.id) s.phase (phase_of g p) is) ∙ here (ap (λ q. is_regular_at conf (phase_of g q)) (sym (eqb-true p s.id is)) ∙ out))
        (λ isnt. ap (is_regular_at conf) (cond-false (p == s.id) s.phase (phase_of g p) isnt) ∙ out)
        (cases_Bool (p == s.id));
  }

  -- it stands in the phase in which it stood
  pub fixed-own : (g : GroupState Msg) (p : ℕ) (s new : Standing Msg) → standing_of g p ≡ Some s → new.id ≡ s.id → new.phase ≡ s.phase → Fixed conf g (set_standing g new)
  fixed-own g p s new e id phase =
      let was : phase_of g new.id ≡ s.phase = ap (phase_of g) (id ∙ standing-id g p s e) ∙ ap (λ (o : Option (Standing Msg)). option_map_or (λ s. s.phase) o Down) e in
      fixed-set g new (λ out. ap (is_regular_at conf) (phase ∙ sym was) ∙ out)

  fixed-send_from : (g : GroupState Msg) (p : ℕ) (o : Option (Standing Msg)) (m : Msg) → standing_of g p ≡ o → Fixed conf g (send_from g o m)
  unfolding send_from
  fixed-send_from g p None m e = fixed-refl g
  fixed-send_from g p (Some s) m e =
      cond_both (regular_in s.phase == 0) g (set_standing g (record s { unordered = s.unordered ++ m ∷ [] })) (Fixed conf g)
      (λ y. fixed-refl g) (λ n. fixed-own g p s (record s { unordered = s.unordered ++ m ∷ [] }) e refl refl)

  pub fixed-sent : (p : ℕ) (ms : List Msg) (g : GroupState Msg) → Fixed conf g (send_all g p ms)
  unfolding send
  fixed-sent p [] g = fixed-refl g
  fixed-sent p (m ∷ ms) g =
      let one = send_from g (standing_of g p) m in
      fixed-then g one (send_all one p ms) (fixed-send_from g p (standing_of g p) m refl) (fixed-sent p ms one)

  fixed-handed : (g : GroupState Msg) (p n : ℕ) → Fixed conf g (with_delivered g p n)
  fixed-handed g p n = at (standing_of g p) refl where
    at : (o : Option (Standing Msg)) → standing_of g p ≡ o → Fixed conf g (option_map_or (λ s. set_standing g (record s { delivered = n })) o g)
    at None e = fixed-refl g
    at (Some s) e = fixed-own g p s (record s { delivered = n }) e refl refl

  fixed-up : (g : GroupState Msg) (p : ℕ) → Fixed conf g (come_up g p)
  unfolding come_up
  fixed-up g p = fixed-set g (record { id = p; phase = Alone; delivered = 0; unordered = [] }) (λ out. refl)

  fixed-begun : (set : List Weighted) (replicas : List ℕ) (w : World) → Fixed conf w.group (fold (begin_replica set) w replicas).group
  fixed-begun set [] w = fixed-refl w.group
  fixed-begun set (p ∷ replicas) w =
      fixed-then w.group (begin_replica set w p).group (fold (begin_replica set) (begin_replica set w p) replicas).group (fixed-up w.group p) (fixed-begun set replicas (begin_replica set w p))

  fixed-down : (g : GroupState Msg) (p : ℕ) → Fixed conf g (go_down g p)
  unfolding configuration go_down
  fixed-down g p = record {
    conf_same = refl;
    stays = λ q out. down q out;
  } where
    down : (q : ℕ) → is_regular_at conf (phase_of g q) ≡ false → is_regular_at conf (phase_of (go_down g p) q) ≡ false
    down q out = ap (λ (o : Option (Standing Msg)). is_regular_at conf (option_map_or (λ s. s.phase) o Down)) (standing_of-down g p q) ∙ ⊎_elim
        (λ is. ap (λ (o : Option (Standing Msg)). is_regular_at conf (option_map_or (λ s. s.phase) o Down)) (cond-true (q == p) None (standing_of g q) is))
        (λ isnt. ap (λ (o : Option (Standing Msg)). is_regular_at conf (option_map_or (λ s. s.phase) o Down)) (cond-false (q == p) None (standing_of g q) isnt) ∙ out)
        (cases_Bool (q == p))

  fixed-parted : (g : GroupState Msg) (p : ℕ) (set : List ℕ) (own : ℕ) → Fixed conf g (become_past g p set own)
  fixed-parted g p set own = fixed-set g (record { id = p; phase = Transitional (regular_in (phase_of g p)) set; delivered = own; unordered = [] }) (λ out. refl)

  -- a configuration of another number is made, or entered
  fixed-made : (g : GroupState Msg) (set : List ℕ) → conf ≤ length g.configurations → Fixed conf g (make_configuration g set)
  unfolding configuration standing_of
  fixed-made g set le = record {
    conf_same = ap (λ (o : Option (Configuration Msg)). option_map_or (λ c. c) o no_configuration)
        (at_place-append g.configurations (record { members = set; ordered = []; received = [] } ∷ []) conf le);
    stays = λ p out. out;
  }

  fixed-entered : (g : GroupState Msg) (at p : ℕ) → (at ≡ conf → ⊥) → Fixed conf g (become_regular at g p)
  unfolding become_regular
  fixed-entered g at p other =
      fixed-set g (record { id = p; phase = Regular at; delivered = 0; unordered = [] }) (λ out. false_from_ne_true (at == conf) (λ y. other (eqb-true at conf y)))

  -- ---- in a chronicle

  fixed-turning_as : (c : Chronicle) (p : ℕ) (part : Turn → Turn) (life : NodeState) → Fixed conf c.world.group (turning_as c p part life).world.group
  fixed-turning_as c p part (Up r disk) = fixed-sent p (part (begin r)).sent c.world.group
  fixed-turning_as c p part (DownLife disk green) = fixed-refl c.world.group

  at-some : {X : Type 0} (o : Option X) (change : X → Chronicle) (c : Chronicle) → ((x : X) → Fixed conf c.world.group (change x).world.group) →
      Fixed conf c.world.group (option_map_or change o c).world.group
  at-some None change c each = fixed-refl c.world.group
  at-some (Some x) change c each = each x

  fixed-turning : (c : Chronicle) (p : ℕ) (part : Turn → Turn) → Fixed conf c.world.group (turning c p part).world.group
  fixed-turning c p part = at-some (node_of c.world p) (λ s. turning_as c p part s.life) c (λ s. fixed-turning_as c p part s.life)

  -- a turn behind a change of the group
  fixed-both : (g : GroupState Msg) (c : Chronicle) (p : ℕ) (part : Turn → Turn) → Fixed conf g c.world.group → Fixed conf g (turning c p part).world.group
  fixed-both g c p part first = fixed-then g c.world.group (turning c p part).world.group first (fixed-turning c p part)

  fixed-commit_as : (c : Chronicle) (p : ℕ) (life : NodeState) → Fixed conf c.world.group (commit_as c p life).world.group
  fixed-commit_as c p (Up r disk) = fixed-refl c.world.group
  fixed-commit_as c p (DownLife disk green) = fixed-refl c.world.group

  fixed-crash_as : (c : Chronicle) (p : ℕ) (life : NodeState) → Fixed conf c.world.group (crash_as c p life).world.group
  fixed-crash_as c p (Up r disk) = fixed-down c.world.group p
  fixed-crash_as c p (DownLife disk green) = fixed-refl c.world.group

  fixed-recover_as : (c : Chronicle) (life : NodeState) → Fixed conf c.world.group (recover_as c life).world.group
  fixed-recover_as c (Up r disk) = fixed-refl c.world.group
  fixed-recover_as c (DownLife disk green) = fixed-up c.world.group (recovered disk).held.id

  -- what is fixed goes on
  pub fixed-goes_on : (c d : Chronicle) → Fixed conf c.world.group d.world.group → GoesOnIn c d conf
  fixed-goes_on c d f = record {
    members = ap (λ (k : Configuration Msg). k.members) f.conf_same;
    ordered = subst (λ (k : Configuration Msg). Front (ordered_in c conf) k.ordered) (sym f.conf_same) (Front-refl (ordered_in c conf));
    stays = f.stays;
    receipts = λ p place out le. ap (λ (k : Configuration Msg). has_received k p place) f.conf_same;
    fresh = λ lt. absurd (let same : length (ordered_in d conf) ≡ length (ordered_in c conf) = ap (λ (k : Configuration Msg). length k.ordered) f.conf_same in omega arith);
  }

  -- ---- a place is received

  received-goes_on : (c d : Chronicle) → SameTalk c d → GoesOnIn c d conf
  received-goes_on c d same = record {
    members = same.members conf;
    ordered = subst (Front (ordered_in c conf)) (sym (same.ordered conf)) (Front-refl (ordered_in c conf));
    stays = λ p out. ap (is_regular_at conf) (same.phase p) ∙ out;
    receipts = λ p place out le. same.receipts conf p place out;
    fresh = λ lt. absurd (let is : length (ordered_in d conf) ≡ length (ordered_in c conf) = ap length (same.ordered conf) in omega arith);
  }

  receives-goes_on : (c : Chronicle) (p place : ℕ) → PhaseSound c → is_regular c.world.group p ≡ true → GoesOnIn c (small_step c (Receives p place)) conf
  unfolding small_step
  receives-goes_on c p place sound regular =
      let phase = regular-phase (phase_of c.world.group p) regular in
      let member = (subst (IsPhase c p (delivered_to c.world.group p)) phase.is (sound.phase p)).0 in
      let range = conf-there c.world.group phase.at p member in
      subst (λ (h : GroupState Msg). GoesOnIn c (record c { world = record c.world { group = h } }) conf) (sym (receive-is c p phase.at place phase.is range.0 range.1))
      (received-goes_on c _ (receive-same c p phase.at place phase.is range.0 range.1))

  -- ---- a message gets its place

  ordered-goes_on : (c d : Chronicle) (p at : ℕ) (m : Msg) (rest : List Msg) → Ordered c d p at m rest → GoesOnIn c d conf
  ordered-goes_on c d p at m rest o = record {
    members = o.members conf;
    ordered = subst (Front (ordered_in c conf)) (sym (o.ordered conf)) (cond_both (conf == at) (ordered_in c at ++ record { from = p; message = m } ∷ []) (ordered_in c conf) (Front (ordered_in c conf))
        (λ y. subst (λ k. Front (ordered_in c conf) (ordered_in c k ++ record { from = p; message = m } ∷ [])) (eqb-true conf at y) (Front-append (ordered_in c conf) (record { from = p; message = m } ∷ [])))
        (λ n. Front-refl (ordered_in c conf)));
    stays = λ q out. ap (is_regular_at conf) (o.phase q) ∙ out;
    receipts = λ q place out le. o.receipts conf q place out le;
    fresh = λ lt q out. ⊎_elim
        (λ y. fresh-at (eqb-true conf at y) q out)
        (λ n. absurd (let is : length (ordered_in d conf) ≡ length (ordered_in c conf) = ap length (o.ordered conf ∙ cond-false (conf == at) _ (ordered_in c conf) n) in omega arith))
        (cases_Bool (conf == at));
  } where
    fresh-at : conf ≡ at → (q : ℕ) → is_regular_in d conf q ≡ false → has_received (conf_of d conf) q (suc (length (ordered_in c conf))) ≡ false
    fresh-at is q out =
        let own : is_regular_in d conf p ≡ true = ap (is_regular_at conf) (o.phase p ∙ o.regular) ∙ eq-eqb at conf (sym is) in
        let other = false_from_ne_true (q == p) (λ y. absurd (let clash : true ≡ false = sym own ∙ ap (is_regular_in d conf) (sym (eqb-true q p y)) ∙ out in cc)) in
        subst (λ k. has_received (conf_of d k) q (suc (length (ordered_in c k))) ≡ false) (sym is) (o.fresh q other)

  ordered-regular : (c : Chronicle) (p : ℕ) (sound : PhaseSound c) (inside : ReceiptsInside c) (s : Standing Msg) → standing_of c.world.group p ≡ Some s →
      is_regular c.world.group p ≡ true → (list : List Msg) → s.unordered ≡ list → (length list == 0) ≡ false → GoesOnIn c (small_step c (Orders p)) conf
  ordered-regular c p sound inside s e regular [] is none = absurd (let clash : true ≡ false = none in cc)
  ordered-regular c p sound inside s e regular (m ∷ rest) is none =
      let phase = regular-phase (phase_of c.world.group p) regular in
      let member = (subst (IsPhase c p (delivered_to c.world.group p)) phase.is (sound.phase p)).0 in
      let range = conf-there c.world.group phase.at p member in
      let at : OrdersAt c p phase.at s m rest = record {
        standing = e;
        id = standing-id c.world.group p s e;
        regular = sym (ap (λ (o : Option (Standing Msg)). option_map_or (λ s. s.phase) o Down) e) ∙ phase.is;
        waited = is;
        number = range.0;
        there = range.1;
        places = inside.places phase.at;
        within = λ k q here. within-phase c q k (phase_of c.world.group q) refl (sound.phase q) here;
      } in
      subst (λ d. GoesOnIn c d conf) (sym (step-is c p phase.at s m rest at)) (ordered-goes_on c _ p phase.at m rest (ordered-step c p phase.at s m rest at))

  orders-goes_on : (c : Chronicle) (p : ℕ) → PhaseSound c → ReceiptsInside c → (o : Option (Standing Msg)) → standing_of c.world.group p ≡ o →
      is_regular c.world.group p ≡ true → (length (unordered_of c.world.group p) == 0) ≡ false → GoesOnIn c (small_step c (Orders p)) conf
  orders-goes_on c p sound inside None e regular some =
      absurd (let clash : false ≡ true = sym (ap (λ (o : Option (Standing Msg)). not (regular_in (option_map_or (λ s. s.phase) o Down) == 0)) e) ∙ regular in cc)
  orders-goes_on c p sound inside (Some s) e regular some =
      ordered-regular c p sound inside s e regular s.unordered refl (sym (ap (λ (o : Option (Standing Msg)). length (option_map_or (λ s. s.unordered) o []) == 0) e) ∙ some)

  -- ---- each small step

  -- the configuration has a number, where something is said in it
  pub said-there : (c : Chronicle) → 0 < length (ordered_in c conf) → conf ≤ length c.world.group.configurations
  unfolding configuration
  said-there c some = ⊎_elim
      (λ (past : length c.world.group.configurations < conf). absurd (let none : length (ordered_in c conf) ≡ 0 = ap (λ (o : Option (Configuration Msg)). length (option_map_or (λ c. c) o no_configuration).ordered) (at_place-past c.world.group.configurations conf past) in omega arith))
      (λ le. le) (cases_lt (length c.world.group.configurations) conf)

  -- nobody enters a configuration in which something is said
  entered-other : (c : Chronicle) (p : ℕ) → may_enter c p ≡ true → 0 < length (ordered_in c conf) → newest_conf c.world.group ≡ conf → ⊥
  entered-other c p may some is =
      let new = newest_conf c.world.group in
      let parts = and_parts (is_member c new p && may_come c p && is_none (told_in c new p)) (is_nil (ordered_in c new)) may in
      is_nil-none (ordered_in c new) parts.1 (subst (λ k. 0 < length (ordered_in c k)) (sym is) some)

  received-regular : (g : GroupState Msg) (p place : ℕ) → is_none (receive_refusal g p place) ≡ true → is_regular g p ≡ true
  unfolding receive_refusal
  received-regular g p place e =
      let up = first-none (not_up g p) (not_regular g p ∷ no_such_place g p place ∷ already_received g p place ∷ earlier_missing g p place ∷ []) e in
      let regular = first-none (not_regular g p) (no_such_place g p place ∷ already_received g p place ∷ earlier_missing g p place ∷ []) up.1 in
      refused-not (is_regular g p) _ regular.0

  -- A configuration in which something is said goes on in each small step.
  pub goes_on-kept : (c : Chronicle) (s : Small) → PhaseSound c → ReceiptsInside c → may_make c s ≡ true → 0 < length (ordered_in c conf) → GoesOnIn c (small_step c s) conf
  unfolding small_step may_make
  goes_on-kept c (Starts set) sound inside m some = fixed-goes_on c _ (fixed-begun set (ids set) c.world)
  goes_on-kept c (Makes set) sound inside m some = fixed-goes_on c _ (fixed-made c.world.group set (said-there c some))
  goes_on-kept c (Enters p) sound inside m some =
      let g = c.world.group in
      fixed-goes_on c _ (fixed-both g (coming c p) p (take_newest g) (fixed-entered g (newest_conf g) p (entered-other c p m some)))
  goes_on-kept c (Orders p) sound inside m some =
      orders-goes_on c p sound inside (standing_of c.world.group p) refl (regular-where_ordered c.world.group p m) (some-waits c.world.group p m)
  goes_on-kept c (Receives p place) sound inside m some = receives-goes_on c p place sound (received-regular c.world.group p place m)
  goes_on-kept c (Hands p) sound inside m some =
      let g = c.world.group in
      fixed-goes_on c _ (fixed-both g (handed_next c p) p (take_next g p) (fixed-handed g p (suc (delivered_to g p))))
  goes_on-kept c (Leaves p set own places) sound inside m some =
      let g = c.world.group in
      fixed-goes_on c _ (fixed-both g (leaving c p set own) p (take_parting g p set places) (fixed-parted g p set own))
  goes_on-kept c (Asks p kind) sound inside m some = fixed-goes_on c _ (fixed-turning c p (take_request kind))
  goes_on-kept c (Settles p) sound inside m some = fixed-goes_on c _ (fixed-turning c p settle)
  goes_on-kept c (Commits p) sound inside m some = fixed-goes_on c _ (at-some (node_of c.world p) (λ s. commit_as c p s.life) c (λ s. fixed-commit_as c p s.life))
  goes_on-kept c (Crashes p) sound inside m some = fixed-goes_on c _ (at-some (node_of c.world p) (λ s. crash_as c p s.life) c (λ s. fixed-crash_as c p s.life))
  goes_on-kept c (Recovers p) sound inside m some = fixed-goes_on c _ (at-some (node_of c.world p) (λ s. recover_as c s.life) c (λ s. fixed-recover_as c s.life))
  goes_on-kept c (Copies p joiner) sound inside m some = fixed-goes_on c _ (at-some (replica_of c.world p) (copy_as c p joiner) c (λ r. fixed-refl c.world.group))
  goes_on-kept c (Joins joiner) sound inside m some =
      fixed-goes_on c _ (at-some (snapshot_of c.world joiner) (λ s. join_with c joiner s.content) c (λ s. fixed-up c.world.group joiner))
