-- Who isn't regular in a configuration says nothing more there.
use Rattle.std.proofs.Common.{◌≡◌, ℕ, suc, true, false, cond, not, List, [], ◌∷◌, ◌++◌, append-nil, length, map, Option, refl, sym, ap, ◌∙◌, arith, inl, inr, eqb-true, eq-eqb}
use Rattle.std.specs.Prelude.{◌==◌}
use Rattle.std.specs.Option.{option_map_or}
use Rattle.std.proofs.lemmas.Bool.{cases_Bool, cond-true, cond-false, and_parts, not-true, ne_eqb}
use Rattle.std.proofs.lemmas.Option.{slice_get_past}
use Rattle.cg_base.specs.Weights.{ids}
use Rattle.cg_wire.specs.declared.message.Msg.{Msg}
use Rattle.cg_group.specs.State.{Sent, Configuration, configuration, no_configuration}
use Rattle.cg_group.specs.Events.{with_message, with_receipt}
use Rattle.cg_client.specs.Requests.{settle}
use Rattle.cg_model.specs.World.{has_begun}
use Rattle.cg_model.specs.Chronicle.{Chronicle}
use Rattle.cg_model.specs.Looks.{conf_of, ordered_in, is_regular_at, is_regular_in, placed_of}
use Rattle.cg_model.specs.FactsNet.{Hosted}
use Rattle.cg_model.specs.Small.{Small, Starts, Makes, Enters, Orders, Receives, Hands, Leaves, Asks, Settles, Commits, Crashes, Recovers, Copies, Joins, small_step, take_request, make_configuration}
use Rattle.cg_model.specs.Smalls.{may_make, is_running}
use Rattle.cg_agree_lemmas.specs.SaidSoFar.{placed-append}
use Rattle.cg_agree_lemmas.specs.GroupKept.{orders-conf, receives-conf, leaving-regular}
use Rattle.cg_agree_lemmas.specs.GroupSound.{GroupSound, made-is}
use Rattle.cg_agree.proofs.FixedKept.{confs-begun, orders-phase}
use Rattle.cg_agree_lemmas.specs.NextThere.{orders-now, receives-now}
use Rattle.cg_agree_lemmas.specs.OneSteps.{turns-step, hands-step, leaves-step, enters-step, commits-step, copies-step, crashes-step, recovers-step, joins-step, may-join, may-enter}

-- the same messages stand there
same-said : (c d : Chronicle) (p : ℕ) → ((k : ℕ) → conf_of d k ≡ conf_of c k) → (conf q : ℕ) → placed_of q (ordered_in d conf) ≡ placed_of q (ordered_in c conf)
same-said c d p same conf q = ap (λ (x : Configuration Msg). placed_of q x.ordered) (same conf)

-- a configuration that nobody has made has no messages
beyond : (c : Chronicle) (conf : ℕ) → conf ≡ suc (length c.world.group.configurations) → ordered_in c conf ≡ []
unfolding configuration
beyond c conf e = ap (ordered_in c) e ∙ ap (λ (o : Option (Configuration Msg)). (option_map_or (λ x. x) o no_configuration).ordered) (slice_get_past c.world.group.configurations (length c.world.group.configurations) (omega arith))

none-made : (c : Chronicle) (set : List ℕ) (conf q : ℕ) → placed_of q (configuration (make_configuration c.world.group set) conf).ordered ≡ placed_of q (ordered_in c conf)
none-made c set conf q = elim (made-is c.world.group set conf) [
  | inl same ↦ ap (λ (x : Configuration Msg). placed_of q x.ordered) same
  | inr new ↦ new-said new
]
  where
    new-said : (conf ≡ suc (length c.world.group.configurations)) × (configuration (make_configuration c.world.group set) conf ≡ record { members = set; ordered = []; received = [] }) →
        placed_of q (configuration (make_configuration c.world.group set) conf).ordered ≡ placed_of q (ordered_in c conf)
    new-said new = ap (λ (x : Configuration Msg). placed_of q x.ordered) new.1 ∙ sym (ap (placed_of q) (beyond c conf new.0))

own-none : (q p : ℕ) (m : Msg) → (p ≡ q → ⊥) → placed_of q (record { from = p; message = m } ∷ []) ≡ []
own-none q p m other = ap (λ b. map (λ (s : Sent Msg). s.message) (cond b (record { from = p; message = m } ∷ []) [])) (ne_eqb p q other)

message-said : (C : Configuration Msg) (p : ℕ) (m : Msg) (q : ℕ) → (p ≡ q → ⊥) → placed_of q (with_message C p m).ordered ≡ placed_of q C.ordered
unfolding with_message
message-said C p m q other =
    placed-append q C.ordered (record { from = p; message = m } ∷ []) ∙ ap (λ xs. placed_of q C.ordered ++ xs) (own-none q p m other) ∙ append-nil (placed_of q C.ordered)

receipt-said : (C : Configuration Msg) (p place q : ℕ) → placed_of q (with_receipt C p place).ordered ≡ placed_of q C.ordered
unfolding with_receipt
receipt-said C p place q = refl

pub said-out : (c : Chronicle) (s : Small) → Hosted c → may_make c s ≡ true → GroupSound c → (conf q : ℕ) → is_regular_in (small_step c s) conf q ≡ false →
    placed_of q (ordered_in (small_step c s) conf) ≡ placed_of q (ordered_in c conf)
unfolding small_step may_make
said-out c (Starts set) nodes m old conf q out = ap (λ (x : Configuration Msg). placed_of q x.ordered) (confs-begun c set (ids set) c.world conf)
said-out c (Makes set) nodes m old conf q out = none-made c set conf q
said-out c (Enters p) nodes m old conf q out = same-said c (small_step c (Enters p)) p (enters-step c p old.phases (may-enter c p m).comes).stands.conf conf q
said-out c (Orders p) nodes m old conf q out =
    let next = orders-now c p old.phases (λ k. (old.confs k).places) m in
    let step = orders-conf c p next.conf next.stands next.message next.rest next.at in
    let phase = orders-phase c p next.conf next.stands next.message next.rest next.at in
    elim (cases_Bool (conf == next.conf)) [
      | inl here ↦
          let same : conf ≡ next.conf = eqb-true conf next.conf here in
          let other : p ≡ q → ⊥ = (λ e. (let clash : true ≡ false = sym (ap (is_regular_at conf) (step.phase p ∙ phase) ∙ eq-eqb next.conf conf (sym same)) ∙ ap (is_regular_in (small_step c (Orders p)) conf) e ∙ out in cc)) in
          ap (λ (x : Configuration Msg). placed_of q x.ordered) (step.changed conf ∙ cond-true (conf == next.conf) (with_message (conf_of c next.conf) p next.message) (conf_of c conf) here)
          ∙ message-said (conf_of c next.conf) p next.message q other ∙ ap (λ k. placed_of q (ordered_in c k)) (sym same)
      | inr there ↦ ap (λ (x : Configuration Msg). placed_of q x.ordered) (step.changed conf ∙ cond-false (conf == next.conf) (with_message (conf_of c next.conf) p next.message) (conf_of c conf) there)
    ]
said-out c (Receives p place) nodes m old conf q out =
    let next = receives-now c p place old.phases m in
    let step = receives-conf c p place next in
    elim (cases_Bool (conf == next.conf)) [
      | inl here ↦
          ap (λ (x : Configuration Msg). placed_of q x.ordered) (step.changed conf ∙ cond-true (conf == next.conf) (with_receipt (conf_of c next.conf) p place) (conf_of c conf) here)
          ∙ receipt-said (conf_of c next.conf) p place q ∙ ap (λ k. placed_of q (ordered_in c k)) (sym (eqb-true conf next.conf here))
      | inr there ↦ ap (λ (x : Configuration Msg). placed_of q x.ordered) (step.changed conf ∙ cond-false (conf == next.conf) (with_receipt (conf_of c next.conf) p place) (conf_of c conf) there)
    ]
said-out c (Hands p) nodes m old conf q out = same-said c (small_step c (Hands p)) p (hands-step c p old.phases (and_parts _ _ m).0).stands.conf conf q
said-out c (Leaves p set own places) nodes m old conf q out = same-said c (small_step c (Leaves p set own places)) p (leaves-step c p set own places old.phases (leaving-regular c p set own places m)).stands.conf conf q
said-out c (Asks p kind) nodes m old conf q out = same-said c (small_step c (Asks p kind)) p (turns-step c p (take_request kind) old.phases).stands.conf conf q
said-out c (Settles p) nodes m old conf q out = same-said c (small_step c (Settles p)) p (turns-step c p settle old.phases).stands.conf conf q
said-out c (Commits p) nodes m old conf q out = same-said c (small_step c (Commits p)) p (commits-step c p old.phases).stands.conf conf q
said-out c (Crashes p) nodes m old conf q out = same-said c (small_step c (Crashes p)) p (crashes-step c p m).stands.conf conf q
said-out c (Recovers p) nodes m old conf q out =
    let parts = and_parts (has_begun c.world p) (not (is_running c p)) m in
    same-said c (small_step c (Recovers p)) p (recovers-step c p nodes parts.0 (not-true (is_running c p) parts.1)).stands.conf conf q
said-out c (Copies p joiner) nodes m old conf q out = same-said c (small_step c (Copies p joiner)) p (copies-step c p joiner old.phases).stands.conf conf q
said-out c (Joins joiner) nodes m old conf q out = same-said c (small_step c (Joins joiner)) joiner (joins-step c joiner (may-join c joiner m)).stands.conf conf q
