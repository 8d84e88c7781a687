-- The small steps that order and receive keep the facts about what is said.
use Rattle.std.proofs.Common.{◌≡◌, ℕ, zero, suc, ◌≤◌, ◌<◌, Bool, true, false, cond, not, List, [], ◌∷◌, Option, Some, None, option_map, ◌||◌, length, refl, sym, ap, ◌∙◌, ⊎_elim, eqb-true, eq-eqb, subst, arith}
use Rattle.std.specs.Prelude.{◌==◌, is_none}
use Rattle.std.specs.Option.{option_map_or}
use Rattle.std.proofs.lemmas.Bool.{cases_Bool, cases_lt, cond-true, cond-false, false_from_ne_true}
use Rattle.cg_base.specs.Lists.{at_place}
use Rattle.cg_base.specs.Sets.{has, with_member}
use Rattle.cg_base.specs.SetLaws.{has-with_member}
use Rattle.cg_base.specs.ListLaws.{at_place-past}
use Rattle.cg_wire.specs.declared.message.Msg.{Msg}
use Rattle.cg_group.specs.declared.phase.Phase.{Phase}
use Rattle.cg_group.specs.declared.phase.Phase.TheVariants.{Down, Alone, Regular, Transitional}
use Rattle.cg_group.specs.State.{Configuration, Standing, GroupState, no_configuration, standing_of, phase_of, is_regular, regular_in, delivered_to, unordered_of, configuration, has_received, set_configuration}
use Rattle.cg_group.specs.declared.reason.Reason.{Reason}
use Rattle.cg_group.specs.Events.{receive, with_receipt}
use Rattle.cg_group.specs.Refusals.{order_refusal, not_up, not_regular, nothing_to_order}
use Rattle.cg_group.specs.LookupLaws.{standing_of-set_configuration, configuration-set, at-cond, at_place-changed, eqb_comm}
use Rattle.cg_model.specs.World.{replica_of}
use Rattle.cg_model.specs.Chronicle.{Chronicle}
use Rattle.cg_model.specs.Looks.{conf_of, is_regular_at, is_regular_in, members_in, ordered_in}
use Rattle.cg_model.specs.FactsNet.{PhaseSound, IsPhase, ReceiptsInside}
use Rattle.cg_model.specs.Small.{Orders, small_step, with_group}
use Rattle.cg_model.specs.Smalls.{may_make}
use Rattle.cg_agree_lemmas.specs.HandsTalk.{SaidFacts}
use Rattle.cg_agree_lemmas.specs.HandsKept.{regular-phase}
use Rattle.cg_agree_lemmas.specs.GroupTurn.{standing-id, put-same}
use Rattle.cg_agree_lemmas.specs.OrdersWorld.{orders-said}
use Rattle.cg_agree_lemmas.specs.UnorderedKept.{regular-where_ordered, first-none}
use Rattle.cg_agree_lemmas.specs.TalkFrame.{SameTalk, shown-itself}

-- a configuration with a member is there
pub conf-there : (g : GroupState Msg) (conf p : ℕ) → has (configuration g conf).members p ≡ true → (0 < conf) × (conf ≤ length g.configurations)
unfolding configuration
conf-there g zero p h = absurd (let clash : false ≡ true = h in cc)
conf-there g (suc n) p h = (
  omega arith,
  ⊎_elim
      (λ past. absurd (let clash : false ≡ true = sym (ap (λ (o : Option (Configuration Msg)). has (option_map_or (λ c. c) o no_configuration).members p) (at_place-past g.configurations (suc n) past)) ∙ h in cc))
      (λ le. le) (cases_lt (length g.configurations) (suc n)),
)

pub within-phase : (c : Chronicle) (q k : ℕ) (phase : Phase) → phase_of c.world.group q ≡ phase → IsPhase c q (delivered_to c.world.group q) phase → is_regular_at k phase ≡ true →
    delivered_to c.world.group q ≤ length (ordered_in c k)
within-phase c q k Down at is here = absurd (let clash : false ≡ true = here in cc)
within-phase c q k Alone at is here = absurd (let clash : false ≡ true = here in cc)
within-phase c q k (Regular conf) at is here = subst (λ (x : ℕ). delivered_to c.world.group q ≤ length (ordered_in c x)) (eqb-true conf k here) is.1
within-phase c q k (Transitional conf set) at is here = absurd (let clash : false ≡ true = here in cc)

-- ---- a place is received

module _ (c : Chronicle) (p conf place : ℕ) (regular : phase_of c.world.group p ≡ Regular conf) (number : 0 < conf) (there : conf ≤ length c.world.group.configurations) where
  abbrev pub g : GroupState Msg
  g = c.world.group

  abbrev pub new : Configuration Msg
  new = with_receipt (conf_of c conf) p place

  pub receive-is : receive g p place ≡ set_configuration g conf new
  unfolding receive
  receive-is = ap (λ (k : ℕ). set_configuration g k (with_receipt (configuration g k) p place)) (ap regular_in regular)

  abbrev pub behind : Chronicle
  behind = with_group c (set_configuration g conf new)

  looked : {Y : Type 0} (f : Configuration Msg → Y) (k : ℕ) → f (conf_of behind k) ≡ cond (k == conf) (f new) (f (conf_of c k))
  looked f k = ap f (configuration-set g conf new number there k) ∙ at-cond f (k == conf) new (conf_of c k)

  received-other : (q at : ℕ) → (q == p) ≡ false → has_received new q at ≡ has_received (conf_of c conf) q at
  unfolding has_received with_receipt
  received-other q at other =
      ap (λ (o : Option (List ℕ)). option_map_or (λ set. has set q) o false) (at_place-changed (λ set. with_member set p) (conf_of c conf).received place at)
      ∙ ⊎_elim
      (λ is. ap (λ b. option_map_or (λ set. has set q) (cond b (option_map (λ set. with_member set p) (at_place (conf_of c conf).received at)) (at_place (conf_of c conf).received at)) false) is
      ∙ one (at_place (conf_of c conf).received at))
      (λ isnt. ap (λ b. option_map_or (λ set. has set q) (cond b (option_map (λ set. with_member set p) (at_place (conf_of c conf).received at)) (at_place (conf_of c conf).received at)) false) isnt)
      (cases_Bool (at == place)) where
        or-none : (b : Bool) → (b || false) ≡ b
        or-none true = refl
        or-none false = refl

        one : (o : Option (List ℕ)) → option_map_or (λ set. has set q) (option_map (λ set. with_member set p) o) false ≡ option_map_or (λ set. has set q) o false
        one None = refl
        one (Some set) = has-with_member set p q ∙ ap (λ b. has set q || b) (eqb_comm p q ∙ other) ∙ or-none (has set q)

  pub receive-same : SameTalk c behind
  unfolding with_receipt
  receive-same = record {
    members = λ k. looked (λ (x : Configuration Msg). x.members) k ∙ put-same (λ k. members_in c k) conf (members_in c conf) refl k;
    ordered = λ k. looked (λ (x : Configuration Msg). x.ordered) k ∙ put-same (λ k. ordered_in c k) conf (ordered_in c conf) refl k;
    phase = λ q. ap (λ (o : Option (Standing Msg)). option_map_or (λ s. s.phase) o Down) (standing_of-set_configuration g conf new q);
    delivered = λ q. ap (λ (o : Option (Standing Msg)). option_map_or (λ s. s.delivered) o 0) (standing_of-set_configuration g conf new q);
    waits = λ q. ap (λ (o : Option (Standing Msg)). option_map_or (λ s. s.unordered) o []) (standing_of-set_configuration g conf new q);
    told = λ k q. refl;
    replica = λ q. shown-itself (replica_of c.world q);
    receipts = λ k q at out. looked (λ (x : Configuration Msg). has_received x q at) k ∙ ⊎_elim
        (λ is.
        let own : is_regular_in c conf p ≡ true = ap (is_regular_at conf) regular ∙ eq-eqb conf conf refl in
        let not_own : (q == p) ≡ false = other-one q own (ap (λ x. is_regular_in c x q) (sym (eqb-true k conf is)) ∙ out) in
        cond-true (k == conf) (has_received new q at) (has_received (conf_of c k) q at) is ∙ received-other q at not_own ∙ ap (λ x. has_received (conf_of c x) q at) (sym (eqb-true k conf is)))
        (λ isnt. cond-false (k == conf) (has_received new q at) (has_received (conf_of c k) q at) isnt) (cases_Bool (k == conf));
  } where
    other-one : (q : ℕ) → is_regular_in c conf p ≡ true → is_regular_in c conf q ≡ false → (q == p) ≡ false
    other-one q own out = false_from_ne_true (q == p) (λ is. absurd (let clash : true ≡ false = sym own ∙ ap (is_regular_in c conf) (sym (eqb-true q p is)) ∙ out in cc))

-- ---- a message gets its place

pub refused-nothing : (b : Bool) (r : Reason) → cond b (Some r) None ≡ None → b ≡ false
refused-nothing true r e = absurd (let clash : Some r ≡ None = e in cc)
refused-nothing false r e = refl

pub some-waits : (g : GroupState Msg) (p : ℕ) → is_none (order_refusal g p) ≡ true → (length (unordered_of g p) == 0) ≡ false
unfolding order_refusal
some-waits g p e =
    let up = first-none (not_up g p) (not_regular g p ∷ nothing_to_order g p ∷ []) e in
    let next = first-none (not_regular g p) (nothing_to_order g p ∷ []) up.1 in
    let last = first-none (nothing_to_order g p) [] next.1 in
    refused-nothing (length (unordered_of g p) == 0) _ last.0

orders-at : (c : Chronicle) (p : ℕ) → PhaseSound c → ReceiptsInside c → SaidFacts c → (o : Option (Standing Msg)) → standing_of c.world.group p ≡ o →
    is_regular c.world.group p ≡ true → (length (unordered_of c.world.group p) == 0) ≡ false → SaidFacts (small_step c (Orders p))
orders-at c p sound inside said None e regular some =
    absurd (let clash : false ≡ true = sym (ap (λ (o : Option (Standing Msg)). not (regular_in (option_map_or (λ s. s.phase) o Down) == 0)) e) ∙ regular in cc)
orders-at c p sound inside said (Some s) e regular some =
    waits s.unordered refl (sym (ap (λ (o : Option (Standing Msg)). length (option_map_or (λ s. s.unordered) o []) == 0) e) ∙ some) where
      waits : (list : List Msg) → s.unordered ≡ list → (length list == 0) ≡ false → SaidFacts (small_step c (Orders p))
      waits [] is none = absurd (let clash : true ≡ false = none in cc)
      waits (m ∷ rest) is none =
          let phase = regular-phase (phase_of c.world.group p) regular in
          let member = (subst (IsPhase c p (delivered_to c.world.group p)) phase.is (sound.phase p)).0 in
          let range = conf-there c.world.group phase.at p member in
          orders-said c p phase.at s m rest (record {
            standing = e;
            id = standing-id c.world.group p s e;
            regular = sym (ap (λ (o : Option (Standing Msg)). option_map_or (λ s. s.phase) o Down) e) ∙ phase.is;
            waited = is;
            number = range.0;
            there = range.1;
            places = inside.places phase.at;
            within = λ k q here. within-phase c q k (phase_of c.world.group q) refl (sound.phase q) here;
          }) said

pub orders-kept : (c : Chronicle) (p : ℕ) → PhaseSound c → ReceiptsInside c → may_make c (Orders p) ≡ true → SaidFacts c → SaidFacts (small_step c (Orders p))
unfolding may_make
orders-kept c p sound inside may said =
    orders-at c p sound inside said (standing_of c.world.group p) refl (regular-where_ordered c.world.group p may) (some-waits c.world.group p may)
