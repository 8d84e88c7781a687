-- What a message that is to get its place, and a place that is to be received, are: as the tests of the group let them through.
use Rattle.std.proofs.Common.{◌≡◌, ℕ, zero, suc, ◌-◌, ◌<◌, ◌≤◌, true, false, not, List, [], ◌∷◌, length, Option, Some, None, refl, sym, ap, subst, ◌∙◌, arith, ⊎_elim, option_map, find}
use Rattle.std.specs.Prelude.{◌==◌, is_none}
use Rattle.std.specs.Option.{option_map_or}
use Rattle.std.proofs.lemmas.Bool.{cases_lt}
use Rattle.cg_base.specs.Lists.{at_place, above_up_to}
use Rattle.cg_base.specs.Sets.{has}
use Rattle.cg_base.specs.ListLaws.{at_place-past}
use Rattle.cg_wire.specs.declared.message.Msg.{Msg}
use Rattle.cg_group.specs.declared.phase.Phase.TheVariants.{Down, Regular}
use Rattle.cg_group.specs.declared.reason.Reason.TheVariants.{EarlierMissing}
use Rattle.cg_group.specs.State.{Standing, GroupState, standing_of, phase_of, is_regular, regular_in, delivered_to, home, configuration, has_received}
use Rattle.cg_group.specs.Refusals.{sender_at, is_missing, receive_refusal, not_up, not_regular, no_such_place, already_received, earlier_missing}
use Rattle.cg_model.specs.Chronicle.{Chronicle}
use Rattle.cg_model.specs.Looks.{conf_of, members_in, ordered_in}
use Rattle.cg_model.specs.FactsNet.{PhaseSound, IsPhase}
use Rattle.cg_model.specs.Small.{Orders, Receives}
use Rattle.cg_model.specs.Smalls.{may_make}
use Rattle.cg_agree_lemmas.specs.ConfSound.{nothing-missing}
use Rattle.cg_agree_lemmas.specs.GroupTurn.{standing-id}
use Rattle.cg_agree_lemmas.specs.HandsKept.{regular-phase}
use Rattle.cg_agree_lemmas.specs.OrdersWorld.{OrdersAt}
use Rattle.cg_agree_lemmas.specs.SmallTalk.{conf-there, some-waits, within-phase, refused-nothing}
use Rattle.cg_agree_lemmas.specs.UnorderedKept.{regular-where_ordered, first-none, refused-not}

-- a message of a replica that may be ordered
pub record OrdersNow (c : Chronicle) (p : ℕ) : Type 0 where
  pub conf : ℕ
  pub stands : Standing Msg
  pub message : Msg
  pub rest : List Msg
  pub at : OrdersAt c p conf stands message rest
  pub member : has (members_in c conf) p ≡ true

orders-stood : (c : Chronicle) (p : ℕ) (sound : PhaseSound c) → ((k : ℕ) → length (conf_of c k).received ≡ length (ordered_in c k)) → (s : Standing Msg) →
    standing_of c.world.group p ≡ Some s → is_regular c.world.group p ≡ true → (list : List Msg) → s.unordered ≡ list → (length list == 0) ≡ false → OrdersNow c p
orders-stood c p sound places s e regular [] is none = absurd (let clash : true ≡ false = none in cc)
orders-stood c p sound places s e regular (m ∷ rest) is none =
    let phase = regular-phase (phase_of c.world.group p) regular in
    let member = (subst (IsPhase c p (delivered_to c.world.group p)) phase.is (sound.phase p)).0 in
    let range = conf-there c.world.group phase.at p member in
    record {
      conf = phase.at;
      stands = s;
      message = m;
      rest = rest;
      member = member;
      at = record {
        standing = e;
        id = standing-id c.world.group p s e;
        regular = sym (ap (λ (o : Option (Standing Msg)). option_map_or (λ s. s.phase) o Down) e) ∙ phase.is;
        waited = is;
        number = range.0;
        there = range.1;
        places = places phase.at;
        within = λ k q here. within-phase c q k (phase_of c.world.group q) refl (sound.phase q) here;
      };
    }

pub orders-now : (c : Chronicle) (p : ℕ) → PhaseSound c → ((k : ℕ) → length (conf_of c k).received ≡ length (ordered_in c k)) → may_make c (Orders p) ≡ true → OrdersNow c p
unfolding may_make
orders-now c p sound places may = at (standing_of c.world.group p) refl where
  g : GroupState Msg
  g = c.world.group

  regular : is_regular g p ≡ true
  regular = regular-where_ordered g p may

  at : (o : Option (Standing Msg)) → standing_of g p ≡ o → OrdersNow c p
  at None e = absurd (let clash : false ≡ true = sym (ap (λ (o : Option (Standing Msg)). not (regular_in (option_map_or (λ s. s.phase) o Down) == 0)) e) ∙ regular in cc)
  at (Some s) e = orders-stood c p sound places s e regular s.unordered refl
      (sym (ap (λ (o : Option (Standing Msg)). length (option_map_or (λ s. s.unordered) o []) == 0) e) ∙ some-waits g p may)

-- a place that may be received
pub record ReceivesNow (c : Chronicle) (p place : ℕ) : Type 0 where
  pub conf : ℕ
  pub regular : phase_of c.world.group p ≡ Regular conf
  pub number : 0 < conf
  pub there : conf ≤ length c.world.group.configurations
  pub member : has (members_in c conf) p ≡ true
  pub above : 0 < place
  pub within : place ≤ length (ordered_in c conf)
  pub earlier : (k : ℕ) → 0 < k → k < place → sender_at (conf_of c conf) k ≡ sender_at (conf_of c conf) place → has_received (conf_of c conf) p k ≡ true

place-there : {X : Type 0} (xs : List X) (place : ℕ) → is_none (at_place xs place) ≡ false → (0 < place) × (place ≤ length xs)
place-there xs place some = (
  above place some,
  ⊎_elim
      (λ (past : length xs < place). absurd (let clash : true ≡ false = sym (ap (λ (o : Option _). is_none o) (at_place-past xs place past)) ∙ some in cc))
      (λ (le : place ≤ length xs). le) (cases_lt (length xs) place),
) where
  above : (n : ℕ) → is_none (at_place xs n) ≡ false → 0 < n
  above zero e = absurd (let clash : true ≡ false = e in cc)
  above (suc n) e = omega arith

none-mapped : (o : Option ℕ) → option_map EarlierMissing o ≡ None → o ≡ None
none-mapped None e = refl
none-mapped (Some x) e = absurd (let clash : Some (EarlierMissing x) ≡ None = e in cc)

pub receives-now : (c : Chronicle) (p place : ℕ) → PhaseSound c → may_make c (Receives p place) ≡ true → ReceivesNow c p place
unfolding may_make receive_refusal
receives-now c p place sound may =
    let g = c.world.group in
    let one = first-none (not_up g p) (not_regular g p ∷ no_such_place g p place ∷ already_received g p place ∷ earlier_missing g p place ∷ []) may in
    let two = first-none (not_regular g p) (no_such_place g p place ∷ already_received g p place ∷ earlier_missing g p place ∷ []) one.1 in
    let three = first-none (no_such_place g p place) (already_received g p place ∷ earlier_missing g p place ∷ []) two.1 in
    let four = first-none (already_received g p place) (earlier_missing g p place ∷ []) three.1 in
    let five = first-none (earlier_missing g p place) [] four.1 in
    let regular : is_regular g p ≡ true = refused-not (is_regular g p) _ two.0 in
    let phase = regular-phase (phase_of g p) regular in
    let member = (subst (IsPhase c p (delivered_to g p)) phase.is (sound.phase p)).0 in
    let range = conf-there g phase.at p member in
    let at : regular_in (phase_of g p) ≡ phase.at = ap regular_in phase.is in
    let inside = place-there (home g p).ordered place (refused-nothing (is_none (at_place (home g p).ordered place)) _ three.0) in
    let none : find (is_missing (home g p) p place) (above_up_to 0 (place - 1)) ≡ None = none-mapped _ five.0 in
    record {
      conf = phase.at;
      regular = phase.is;
      number = range.0;
      there = range.1;
      member = member;
      above = inside.0;
      within = subst (λ k. place ≤ length (configuration g k).ordered) at inside.1;
      earlier = nothing-missing (conf_of c phase.at) p place (subst (λ k. find (is_missing (configuration g k) p place) (above_up_to 0 (place - 1)) ≡ None) at none);
    }
