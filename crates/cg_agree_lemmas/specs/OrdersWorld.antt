-- The small step in which a message gets its place, and that it keeps the facts about what is said.
use Rattle.std.proofs.Common.{◌≡◌, ℕ, suc, ◌≤◌, ◌<◌, true, false, cond, List, [], ◌∷◌, ◌++◌, Option, Some, None, length, refl, sym, ap, ap₂, ◌∙◌, ⊎_elim, eqb-true, eq-eqb, subst, arith}
use Rattle.std.specs.Prelude.{◌==◌}
use Rattle.std.specs.Option.{option_map_or}
use Rattle.std.proofs.lemmas.Bool.{cases_Bool, cond-true, cond-false}
use Rattle.cg_base.specs.Lists.{at_place}
use Rattle.cg_base.specs.Sets.{has}
use Rattle.cg_wire.specs.declared.message.Msg.{Msg}
use Rattle.cg_group.specs.declared.phase.Phase.TheVariants.{Regular, Down}
use Rattle.cg_group.specs.State.{Configuration, Standing, GroupState, standing_of, phase_of, regular_in, delivered_to, unordered_of, configuration, has_received, set_standing, set_configuration}
use Rattle.cg_group.specs.Events.{order, order_from, with_message}
use Rattle.cg_group.specs.LookupLaws.{phase_of-set, unordered_of-set, delivered_to-set, standing_of-set_configuration, configuration-set, at-cond, eqb_comm}
use Rattle.cg_group.specs.PlaceLaws.{at_place-append, at_place-last}
use Rattle.cg_model.specs.Chronicle.{Chronicle}
use Rattle.cg_model.specs.Looks.{conf_of, is_regular_in, members_in, ordered_in}
use Rattle.cg_model.specs.Small.{Orders, small_step, with_group}
use Rattle.cg_agree_lemmas.specs.GroupTurn.{put-same}
use Rattle.cg_agree_lemmas.specs.HandsTalk.{SaidFacts}
use Rattle.cg_agree_lemmas.specs.OrdersTalk.{Ordered, legal-ordered-kept, says-ordered-kept, told-ordered-kept, modes-ordered-kept}

-- a replica's oldest message is to get a place, and what other facts say of it
pub record OrdersAt (c : Chronicle) (p conf : ℕ) (s : Standing Msg) (m : Msg) (rest : List Msg) : Type 0 where
  pub standing : standing_of c.world.group p ≡ Some s
  pub id : s.id ≡ p
  pub regular : s.phase ≡ Regular conf
  pub waited : s.unordered ≡ m ∷ rest
  pub number : 0 < conf
  pub there : conf ≤ length c.world.group.configurations
  pub places : length (conf_of c conf).received ≡ length (ordered_in c conf)
  pub within : (k q : ℕ) → is_regular_in c k q ≡ true → delivered_to c.world.group q ≤ length (ordered_in c k)

module _ (c : Chronicle) (p conf : ℕ) (s : Standing Msg) (m : Msg) (rest : List Msg) (h : OrdersAt c p conf s m rest) where
  abbrev pub g : GroupState Msg
  g = c.world.group

  abbrev pub old : Configuration Msg
  old = conf_of c conf

  abbrev pub stands : Standing Msg
  stands = record s { unordered = rest }

  abbrev pub one : GroupState Msg
  one = set_standing g stands

  abbrev pub now : GroupState Msg
  now = set_configuration one conf (with_message old p m)

  order-is : order g p ≡ now
  unfolding order order_from
  order-is =
      ap (λ (o : Option (Standing Msg)). option_map_or (λ s. order_from g s s.unordered) o g) h.standing
      ∙ ap (order_from g s) h.waited
      ∙ ap₂ (λ (k i : ℕ). set_configuration one k (with_message (configuration g k) i m)) (ap regular_in h.regular) h.id

  abbrev pub behind : Chronicle
  behind = with_group c now

  pub step-is : small_step c (Orders p) ≡ behind
  unfolding small_step
  step-is = ap (with_group c) order-is

  pub conf-is : (k : ℕ) → conf_of behind k ≡ cond (k == conf) (with_message old p m) (conf_of c k)
  unfolding set_standing configuration
  conf-is k = configuration-set one conf (with_message old p m) h.number h.there k

  looked : {Y : Type 0} (f : Configuration Msg → Y) (k : ℕ) → f (conf_of behind k) ≡ cond (k == conf) (f (with_message old p m)) (f (conf_of c k))
  looked f k = ap f (conf-is k) ∙ at-cond f (k == conf) (with_message old p m) (conf_of c k)

  phase-of : phase_of g p ≡ Regular conf
  phase-of = ap (λ (o : Option (Standing Msg)). option_map_or (λ s. s.phase) o Down) h.standing ∙ h.regular

  of-standing : {Y : Type 0} (f : Option (Standing Msg) → Y) (q : ℕ) → f (standing_of now q) ≡ f (standing_of one q)
  of-standing f q = ap f (standing_of-set_configuration one conf (with_message old p m) q)

  received-before : (q place : ℕ) → place ≤ length (ordered_in c conf) → has_received (with_message old p m) q place ≡ has_received old q place
  unfolding has_received with_message
  received-before q place le =
      ap (λ (o : Option (List ℕ)). option_map_or (λ set. has set q) o false) (at_place-append old.received ((p ∷ []) ∷ []) place (omega (arith, h.places)))

  received-new : (q : ℕ) → (q == p) ≡ false → has_received (with_message old p m) q (suc (length (ordered_in c conf))) ≡ false
  unfolding has_received with_message
  received-new q other =
      let n = suc (length old.received) in
      ap (λ k. option_map_or (λ set. has set q) (at_place (old.received ++ (p ∷ []) ∷ []) (suc k)) false) (sym h.places)
      ∙ ap (λ (o : Option (List ℕ)). option_map_or (λ set. has set q) o false) (at_place-last old.received (p ∷ []) n (omega arith) ∙ cond-true (n == n) (Some (p ∷ [])) None (eq-eqb n n refl))
      ∙ not-member other where
        not-member : (q == p) ≡ false → has (p ∷ []) q ≡ false
        not-member isnt = rw (eqb_comm p q, isnt) refl

  pub ordered-step : Ordered c behind p conf m rest
  unfolding with_message
  ordered-step = record {
    regular = phase-of;
    members = λ k. looked (λ (x : Configuration Msg). x.members) k ∙ put-same (λ k. members_in c k) conf (members_in c conf) refl k;
    ordered = λ k. looked (λ (x : Configuration Msg). x.ordered) k;
    phase = λ q. of-standing (λ (o : Option (Standing Msg)). option_map_or (λ s. s.phase) o Down) q ∙ phase_of-set g stands q
        ∙ ap (λ i. cond (q == i) s.phase (phase_of g q)) h.id ∙ put-same (phase_of g) p s.phase (ap (λ (o : Option (Standing Msg)). option_map_or (λ s. s.phase) o Down) h.standing) q;
    delivered = λ q. of-standing (λ (o : Option (Standing Msg)). option_map_or (λ s. s.delivered) o 0) q ∙ delivered_to-set g stands q
        ∙ ap (λ i. cond (q == i) s.delivered (delivered_to g q)) h.id ∙ put-same (delivered_to g) p s.delivered (ap (λ (o : Option (Standing Msg)). option_map_or (λ s. s.delivered) o 0) h.standing) q;
    waited = ap (λ (o : Option (Standing Msg)). option_map_or (λ s. s.unordered) o []) h.standing ∙ h.waited;
    waits = λ q. of-standing (λ (o : Option (Standing Msg)). option_map_or (λ s. s.unordered) o []) q ∙ unordered_of-set g stands q
        ∙ ap (λ i. cond (q == i) rest (unordered_of g q)) h.id;
    told = λ k q. refl;
    replica = λ q. refl;
    receipts = λ k q place out le. looked (λ (x : Configuration Msg). has_received x q place) k ∙ ⊎_elim
        (λ is. cond-true (k == conf) (has_received (with_message old p m) q place) (has_received (conf_of c k) q place) is
        ∙ received-before q place (subst (λ (x : ℕ). place ≤ length (ordered_in c x)) (eqb-true k conf is) le) ∙ ap (λ x. has_received (conf_of c x) q place) (sym (eqb-true k conf is)))
        (λ isnt. cond-false (k == conf) (has_received (with_message old p m) q place) (has_received (conf_of c k) q place) isnt)
        (cases_Bool (k == conf));
    fresh = λ q other. looked (λ (x : Configuration Msg). has_received x q (suc (length (ordered_in c conf)))) conf
        ∙ cond-true (conf == conf) (has_received (with_message old p m) q (suc (length (ordered_in c conf)))) (has_received (conf_of c conf) q (suc (length (ordered_in c conf)))) (eq-eqb conf conf refl)
        ∙ received-new q other;
    within = h.within;
  }

  -- a message that gets its place keeps the facts about what is said
  pub orders-said : SaidFacts c → SaidFacts (small_step c (Orders p))
  orders-said said = subst SaidFacts (sym step-is) (record {
    legal = legal-ordered-kept c behind p conf m rest ordered-step said.legal;
    says = says-ordered-kept c behind p conf m rest ordered-step said.says;
    told = told-ordered-kept c behind p conf m rest ordered-step said.legal said.says said.told;
    modes = modes-ordered-kept c behind p conf m rest ordered-step said.modes;
  })
