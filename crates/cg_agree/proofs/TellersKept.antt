-- Who told something in a configuration in which nothing has a place yet, and in no later one, has the greens that it had then: behind each
-- small step.
use Rattle.std.proofs.Common.{◌≡◌, ℕ, ◌<◌, Bool, true, false, cond, not, ◌&&◌, List, [], ◌∷◌, ◌++◌, length, Option, Some, None, refl, sym, ap, ◌∙◌, subst, arith, inl, inr, option_and_then, eqb-true}
use Rattle.std.specs.Prelude.{◌==◌}
use Rattle.std.specs.Option.{option_map_or}
use Rattle.std.proofs.lemmas.Bool.{cases_Bool, cond-true, cond-false, and_parts, not-true}
use Rattle.cg_base.specs.Weights.{ids}
use Rattle.cg_base.specs.Text.{is_nil}
use Rattle.cg_base.specs.ListLaws.{at_place-past}
use Rattle.cg_wire.specs.declared.message.Msg.{Msg}
use Rattle.cg_group.specs.State.{Sent, Configuration, configuration, no_configuration}
use Rattle.cg_group.specs.Events.{with_message, with_receipt}
use Rattle.cg_group.specs.GrownLaws.{ordered-message, ordered-receipt}
use Rattle.cg_client.specs.Replica.{Replica}
use Rattle.cg_client.specs.Turn.{begin}
use Rattle.cg_disk_records.specs.Crash.{Disk}
use Rattle.cg_model.specs.World.{Up, Node, running, node_of, has_begun}
use Rattle.cg_model.specs.Chronicle.{Told, Chronicle}
use Rattle.cg_model.specs.Looks.{greens_of, told_in, conf_of, ordered_in}
use Rattle.cg_model.specs.FactsExchange.{TellersStill}
use Rattle.cg_model.specs.Facts.{Invariant}
use Rattle.cg_model.specs.Played.{AtRest}
use Rattle.cg_model.specs.Small.{Small, Starts, Makes, Enters, Orders, Receives, Hands, Leaves, Asks, Settles, Commits, Crashes, Recovers, Copies, Joins, small_step, newly_green, coming, take_newest, newest_conf, take_request}
use Rattle.cg_model.specs.Smalls.{may_make, is_between, is_running}
use Rattle.cg_client.specs.Requests.{settle}
use Rattle.cg_agree_lemmas.specs.GroupKept.{orders-conf, receives-conf, leaving-regular}
use Rattle.cg_agree_lemmas.specs.GroupSound.{made-is}
use Rattle.cg_agree.proofs.FixedKept.{confs-begun}
use Rattle.cg_agree_lemmas.specs.NextThere.{orders-now, receives-now}
use Rattle.cg_agree_lemmas.specs.OneSteps.{turns-step, hands-step, leaves-step, enters-step, commits-step, copies-step, crashes-step, recovers-step, joins-step, may-join, may-enter}
use Rattle.cg_agree_lemmas.specs.ToldKept.{IsUntold, told-same, told_in-same}
use Rattle.cg_agree.proofs.PastKept.{EntersNow, enters-now, entry_told, told_in-enters}
use Rattle.cg_agree_lemmas.specs.EntryGreens.{entry-greens, nothing-new}
use Rattle.cg_agree.proofs.TellersStill.{turn-same, greens-stay}

-- ---- a configuration without messages had none before

behind-message : (C : Configuration Msg) (p : ℕ) (m : Msg) → (with_message C p m).ordered ≡ [] → ⊥
behind-message C p m e = some (record { from = p; message = m }) C.ordered (sym (ordered-message C p m) ∙ e) where
  some : (x : Sent Msg) (xs : List (Sent Msg)) → xs ++ x ∷ [] ≡ [] → ⊥
  some x [] e = let clash : true ≡ false = ap is_nil (sym e) in cc
  some x (y ∷ xs) e = let clash : true ≡ false = ap is_nil (sym e) in cc

module _ (c : Chronicle) (i : Invariant c) (conf : ℕ) where
  back-same : (d : Chronicle) → conf_of d conf ≡ conf_of c conf → ordered_in d conf ≡ [] → ordered_in c conf ≡ []
  back-same d same e = sym (ap (λ (x : Configuration Msg). x.ordered) same) ∙ e

  unsaid-before : (s : Small) → may_make c s ≡ true → ordered_in (small_step c s) conf ≡ [] → ordered_in c conf ≡ []
  unfolding small_step may_make configuration
  unsaid-before (Starts set) m = back-same (small_step c (Starts set)) (confs-begun c set (ids set) c.world conf)
  unsaid-before (Makes set) m = λ e. elim (made-is c.world.group set conf) [
    | inl same ↦ back-same (small_step c (Makes set)) same e
    | inr new ↦
        let past : length c.world.group.configurations < conf = (let at = new.0 in omega arith) in
        ap (λ (o : Option (Configuration Msg)). (option_map_or (λ x. x) o no_configuration).ordered) (at_place-past c.world.group.configurations conf past)
  ]
  unsaid-before (Enters p) m = back-same (small_step c (Enters p)) ((enters-step c p i.net.phase_sound (may-enter c p m).comes).stands.conf conf)
  unsaid-before (Orders p) m = λ e.
      let next = orders-now c p i.net.phase_sound (λ k. i.net.receipts_inside.places k) m in
      let step = orders-conf c p next.conf next.stands next.message next.rest next.at in
      elim (cases_Bool (conf == next.conf)) [
        | inl here ↦ absurd (behind-message (conf_of c next.conf) p next.message
            (sym (ap (λ (x : Configuration Msg). x.ordered) (step.changed conf ∙ cond-true (conf == next.conf) (with_message (conf_of c next.conf) p next.message) (conf_of c conf) here)) ∙ e))
        | inr there ↦ back-same (small_step c (Orders p)) (step.changed conf ∙ cond-false (conf == next.conf) (with_message (conf_of c next.conf) p next.message) (conf_of c conf) there) e
      ]
  unsaid-before (Receives p place) m = λ e.
      let next = receives-now c p place i.net.phase_sound m in
      let step = receives-conf c p place next in
      elim (cases_Bool (conf == next.conf)) [
        | inl here ↦
            ap (ordered_in c) (eqb-true conf next.conf here) ∙ sym (ordered-receipt (conf_of c next.conf) p place)
            ∙ sym (ap (λ (x : Configuration Msg). x.ordered) (step.changed conf ∙ cond-true (conf == next.conf) (with_receipt (conf_of c next.conf) p place) (conf_of c conf) here)) ∙ e
        | inr there ↦ back-same (small_step c (Receives p place)) (step.changed conf ∙ cond-false (conf == next.conf) (with_receipt (conf_of c next.conf) p place) (conf_of c conf) there) e
      ]
  unsaid-before (Hands p) m = back-same (small_step c (Hands p)) ((hands-step c p i.net.phase_sound (and_parts _ _ m).0).stands.conf conf)
  unsaid-before (Leaves p set own places) m = back-same (small_step c (Leaves p set own places)) ((leaves-step c p set own places i.net.phase_sound (leaving-regular c p set own places m)).stands.conf conf)
  unsaid-before (Asks p kind) m = back-same (small_step c (Asks p kind)) ((turns-step c p (take_request kind) i.net.phase_sound).stands.conf conf)
  unsaid-before (Settles p) m = back-same (small_step c (Settles p)) ((turns-step c p settle i.net.phase_sound).stands.conf conf)
  unsaid-before (Commits p) m = back-same (small_step c (Commits p)) ((commits-step c p i.net.phase_sound).stands.conf conf)
  unsaid-before (Crashes p) m = back-same (small_step c (Crashes p)) ((crashes-step c p m).stands.conf conf)
  unsaid-before (Recovers p) m =
      let parts = and_parts (has_begun c.world p) (not (is_running c p)) m in
      back-same (small_step c (Recovers p)) ((recovers-step c p i.net.hosted parts.0 (not-true (is_running c p) parts.1)).stands.conf conf)
  unsaid-before (Copies p joiner) m = back-same (small_step c (Copies p joiner)) ((copies-step c p joiner i.net.phase_sound).stands.conf conf)
  unsaid-before (Joins joiner) m = back-same (small_step c (Joins joiner)) ((joins-step c joiner (may-join c joiner m)).stands.conf conf)

-- ---- who told something there has those greens still

entered-greens : (c : Chronicle) (i : Invariant c) (q : ℕ) (now : EntersNow c q) (p : ℕ) → greens_of (small_step c (Enters q)) p ≡ greens_of c p
unfolding small_step
entered-greens c i q now p = turn-same c (coming c q) q (take_newest c.world.group) i refl refl (λ r disk node. none r disk node) p where
  same-replica : (r : Replica) (disk : Disk) → node_of c.world q ≡ Some (record { id = q; life = Up r disk }) → now.replica ≡ r
  same-replica r disk node = ap (λ (o : Option Node). option_map_or (λ r. r) (option_and_then (λ s. running s.life) o) r) (sym now.node ∙ node)

  none : (r : Replica) (disk : Disk) → node_of c.world q ≡ Some (record { id = q; life = Up r disk }) → newly_green r (take_newest c.world.group (begin r)).replica ≡ []
  none r disk node =
      nothing-new r (take_newest c.world.group (begin r)).replica
      (entry-greens c.world.group r (subst (λ (x : Replica). is_between x.state ≡ true) (same-replica r disk node) now.between))

still-later : (c : Chronicle) (s : Small) → Invariant c → may_make c s ≡ true → AtRest c s → IsUntold s → TellersStill c → TellersStill (small_step c s)
still-later c s i may rest untold old conf p t told none last =
    let d = small_step c s in
    let same : (k q : ℕ) → told_in d k q ≡ told_in c k q = told_in-same c d (told-same c s untold) in
    let was : told_in c conf p ≡ Some t = sym (same conf p) ∙ told in
    let before = unsaid-before c i conf s may none in
    let alone : (later : ℕ) → conf < later → told_in c later p ≡ None = λ later less. sym (same later p) ∙ last later less in
    greens-stay c i conf p t was alone s may rest untold before ∙ old conf p t was before alone

still-entered : (c : Chronicle) (q : ℕ) → Invariant c → (may : may_make c (Enters q) ≡ true) → EntersNow c q → TellersStill c → TellersStill (small_step c (Enters q))
still-entered c q i may now old conf p t told none last =
    let d = small_step c (Enters q) in
    let new = newest_conf c.world.group in
    elim (cases_Bool ((conf == new) && (p == q))) [
      | inl is ↦
          let parts = and_parts (conf == new) (p == q) is in
          let one : Some (entry_told c q now.replica) ≡ Some t = sym (told_in-enters c q now conf p ∙ cond-true ((conf == new) && (p == q)) (Some (entry_told c q now.replica)) (told_in c conf p) is) ∙ told in
          entered-greens c i q now p ∙ ap (greens_of c) (eqb-true p q parts.1) ∙ ap (λ (o : Option Told). option_map_or (λ x. x.greens) o []) one
      | inr isnt ↦
          let was : told_in c conf p ≡ Some t = sym (told_in-enters c q now conf p ∙ cond-false ((conf == new) && (p == q)) (Some (entry_told c q now.replica)) (told_in c conf p) isnt) ∙ told in
          let alone : (later : ℕ) → conf < later → told_in c later p ≡ None = λ later less. back (told_in c later p) ((later == new) && (p == q)) (entry_told c q now.replica) (sym (told_in-enters c q now later p) ∙ last later less) in
          entered-greens c i q now p ∙ old conf p t was (unsaid-before c i conf (Enters q) may none) alone
    ] where
      back : (o : Option Told) (b : Bool) (x : Told) → cond b (Some x) o ≡ None → o ≡ None
      back o true x e = absurd (let clash : Some x ≡ None = e in cc)
      back o false x e = e

pub tellers-kept : (c : Chronicle) (s : Small) → Invariant c → may_make c s ≡ true → AtRest c s → TellersStill c → TellersStill (small_step c s)
tellers-kept c (Enters q) i may rest old = still-entered c q i may (enters-now c q i.net.phase_sound (i.replica.mode_data q) may) old
tellers-kept c (Starts set) i may rest old = still-later c (Starts set) i may rest tt old
tellers-kept c (Makes set) i may rest old = still-later c (Makes set) i may rest tt old
tellers-kept c (Orders p) i may rest old = still-later c (Orders p) i may rest tt old
tellers-kept c (Receives p place) i may rest old = still-later c (Receives p place) i may rest tt old
tellers-kept c (Hands p) i may rest old = still-later c (Hands p) i may rest tt old
tellers-kept c (Leaves p set own places) i may rest old = still-later c (Leaves p set own places) i may rest tt old
tellers-kept c (Asks p kind) i may rest old = still-later c (Asks p kind) i may rest tt old
tellers-kept c (Settles p) i may rest old = still-later c (Settles p) i may rest tt old
tellers-kept c (Commits p) i may rest old = still-later c (Commits p) i may rest tt old
tellers-kept c (Crashes p) i may rest old = still-later c (Crashes p) i may rest tt old
tellers-kept c (Recovers p) i may rest old = still-later c (Recovers p) i may rest tt old
tellers-kept c (Copies p joiner) i may rest old = still-later c (Copies p joiner) i may rest tt old
tellers-kept c (Joins joiner) i may rest old = still-later c (Joins joiner) i may rest tt old
