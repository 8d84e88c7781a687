-- What events ask of the world in which they are admitted: it follows from the facts, and it holds of two worlds that are one.
use Rattle.std.proofs.Common.{◌≡◌, ℕ, zero, suc, ◌≤◌, ◌<◌, Bool, true, false, not, List, [], ◌∷◌, Option, Some, None, IfSome, map, length, refl, sym, ap, ◌∙◌, subst, eqb-true, eq-eqb, is_some, option_map, arith}
use Rattle.std.specs.Prelude.{◌==◌}
use Rattle.std.specs.Option.{option_map_or}
use Rattle.cg_base.specs.Lists.{at_place, Each}
use Rattle.cg_base.specs.Sets.{has}
use Rattle.cg_base.specs.ListLaws.{at_place-past}
use Rattle.cg_members.specs.Servers.{is_server}
use Rattle.cg_wire.specs.declared.message.Msg.{Msg}
use Rattle.cg_group.specs.declared.phase.Phase.{Phase}
use Rattle.cg_group.specs.declared.phase.Phase.TheVariants.{Down, Alone, Regular, Transitional}
use Rattle.cg_group.specs.State.{Configuration, GroupState, no_configuration, configuration, is_up, is_regular, regular_in, phase_of, has_received, delivered_to}
use Rattle.cg_group.specs.Ready.{ready_in}
use Rattle.cg_group.specs.Refusals.{sender_at}
use Rattle.cg_client.specs.Replica.{State, RegPrim, TransPrim, ExchangeStates, ExchangeActions, Construct, No, Un, NonPrim, Left, Replica}
use Rattle.cg_model.specs.World.{TransferState, World, replica_of, is_left_state}
use Rattle.cg_model.specs.Chronicle.{Told, Chronicle}
use Rattle.cg_model.specs.Looks.{told_in, is_regular_at, is_member, snapshot_of, snapshots_for}
use Rattle.cg_model.specs.FactsLists.{IsRising, AreReceived}
use Rattle.cg_model.specs.FactsNet.{IsPhase}
use Rattle.cg_model.specs.FactsTalk.{IsStateIn, IsTransitional}
use Rattle.cg_model.specs.Facts.{Invariant}
use Rattle.cg_model.specs.Smalls.{is_between}
use Rattle.cg_model.specs.Played.{IsSame, GivenSnapshot}
use Rattle.cg_agree_lemmas.specs.GroupChanges.{DoRise}
use Rattle.cg_agree_lemmas.specs.GatherPlaces.{IsFit, Fits}
use Rattle.cg_agree_lemmas.specs.MadeTransfer.{served-found}
use Rattle.cg_agree_lemmas.specs.SameSmalls.{as_given, first-given}
use Rattle.cg_agree_lemmas.specs.GivenKept.{length-mapped}

-- what they ask of the group
pub record IsSoundGroup (g : GroupState Msg) : Type 0 where
  pub rises : DoRise g
  pub fits : Fits g
  pub handed : (conf q : ℕ) → not (regular_in (phase_of g q) == 0) ≡ true → regular_in (phase_of g q) ≡ conf → delivered_to g q ≤ ready_in (configuration g conf) 0
  pub closed : (conf q earlier place : ℕ) → 0 < earlier → earlier < place → sender_at (configuration g conf) earlier ≡ sender_at (configuration g conf) place →
      has_received (configuration g conf) q place ≡ true → has_received (configuration g conf) q earlier ≡ true

-- and of the world
pub record IsSound (w : World) : Type 0 where
  pub group : IsSoundGroup w.group
  pub up : (p : ℕ) → is_some (replica_of w p) ≡ is_up w.group p
  pub nodes : IsRising 0 (map (λ s. s.id) w.nodes)
  pub served : (joiner : ℕ) (s : TransferState) → snapshot_of w joiner ≡ Some s → is_server s.content.members joiner ≡ true
  pub once : (joiner : ℕ) → length (snapshots_for w joiner) ≤ 1
  pub between : (p : ℕ) → IfSome (replica_of w p) (λ r. is_regular w.group p ≡ false → is_left_state r.state ≡ false → is_between r.state ≡ true)

-- ---- of two worlds that are one

pub sound-same : (w v : World) → IsSame w v → IsSound v → IsSound w
sound-same w v same is = record {
  group = subst IsSoundGroup (sym same.group) is.group;
  up = λ p. ap is_some (same.running p) ∙ is.up p ∙ ap (λ g. is_up g p) (sym same.group);
  nodes = subst (IsRising 0) (sym same.nodes) is.nodes;
  served = λ joiner s found. served-of joiner s found (snapshot_of v joiner) refl;
  once = λ joiner. subst (λ n. n ≤ 1)
      (sym (length-mapped as_given (snapshots_for v joiner)) ∙ ap length (sym (same.given joiner)) ∙ length-mapped as_given (snapshots_for w joiner)) (is.once joiner);
  between = λ p. subst (λ (o : Option Replica). IfSome o (λ r. is_regular w.group p ≡ false → is_left_state r.state ≡ false → is_between r.state ≡ true)) (sym (same.running p))
      (subst (λ (g : GroupState Msg). IfSome (replica_of v p) (λ r. is_regular g p ≡ false → is_left_state r.state ≡ false → is_between r.state ≡ true)) (sym same.group) (is.between p));
} where
  served-of : (joiner : ℕ) (s : TransferState) → snapshot_of w joiner ≡ Some s → (o : Option TransferState) → snapshot_of v joiner ≡ o → is_server s.content.members joiner ≡ true
  served-of joiner s found None e = absurd (let clash : Some (as_given s) ≡ None = sym (ap (option_map as_given) found) ∙ first-given w.snapshots v.snapshots same.given joiner ∙ ap (option_map as_given) e in cc)
  served-of joiner s found (Some t) e =
      let content = ap (λ (o : Option GivenSnapshot). option_map_or (λ x. x.content) o s.content) (sym (ap (option_map as_given) e) ∙ sym (first-given w.snapshots v.snapshots same.given joiner) ∙ ap (option_map as_given) found) in
      subst (λ h. is_server h.members joiner ≡ true) content (is.served joiner t e)

-- ---- from the facts

fits-of : (list : List (Configuration Msg)) → AreReceived list → ((n : ℕ) → (let c = option_map_or (λ c. c) (at_place list n) no_configuration in length c.received ≡ length c.ordered)) → Each IsFit list
fits-of [] each long = tt
fits-of (c ∷ list) each long = (record { rising = each.0; long = long 1 }, fits-of list each.1 later) where
  later : (n : ℕ) → (let c = option_map_or (λ c. c) (at_place list n) no_configuration in length c.received ≡ length c.ordered)
  later zero = refl
  later (suc n) = long (suc (suc n))

module _ (c : Chronicle) (inv : Invariant c) where
  abbrev g : GroupState Msg
  g = c.world.group

  regular-at : (x : Phase) (conf : ℕ) → not (regular_in x == 0) ≡ true → regular_in x ≡ conf → is_regular_at conf x ≡ true
  regular-at (Regular at) conf regular same = eq-eqb at conf same
  regular-at Down conf regular same = absurd (let clash : false ≡ true = regular in cc)
  regular-at Alone conf regular same = absurd (let clash : false ≡ true = regular in cc)
  regular-at (Transitional at set) conf regular same = absurd (let clash : false ≡ true = regular in cc)

  handed-few : (conf q : ℕ) → not (regular_in (phase_of g q) == 0) ≡ true → regular_in (phase_of g q) ≡ conf → delivered_to g q ≤ ready_in (configuration g conf) 0
  unfolding ready_in
  handed-few conf q regular same = inv.net.handed_received conf q (regular-at (phase_of g q) conf regular same)

  -- a configuration that isn't made yet has no members
  unmade : (conf p : ℕ) → length g.configurations < conf → is_member c conf p ≡ false
  unfolding configuration
  unmade conf p past = ap (λ (o : Option (Configuration Msg)). has (option_map_or (λ c. c) o no_configuration).members p) (at_place-past g.configurations conf past)

  nobody : (p : ℕ) → is_member c 0 p ≡ false
  unfolding configuration
  nobody p = refl

  abbrev next : ℕ
  next = suc (length g.configurations)

  unmade-next : (p : ℕ) → is_member c next p ≡ false
  unmade-next p = unmade next p (let less : length g.configurations < suc (length g.configurations) = omega arith in less)

  -- nobody has told anything there
  pub untold-next : (p : ℕ) → told_in c next p ≡ None
  untold-next p = at (told_in c next p) refl where
    at : (o : Option Told) → told_in c next p ≡ o → told_in c next p ≡ None
    at None e = e
    at (Some t) e = absurd (let clash : true ≡ false = sym (inv.net.past_left.member next p (ap is_some e)) ∙ unmade-next p in cc)

  from-between : (x : Phase) (p count : ℕ) (r : Replica) → IsPhase c p count x → not (regular_in x == 0) ≡ false → IsStateIn c p x r → is_left_state r.state ≡ false → is_between r.state ≡ true
  from-between (Regular conf) p count r is out state stays =
      let none : conf ≡ 0 = eqb-true conf 0 (is-zero (conf == 0) out) in
      absurd (let clash : true ≡ false = sym is.0 ∙ ap (λ n. is_member c n p) none ∙ nobody p in cc) where
        is-zero : (b : Bool) → not b ≡ false → b ≡ true
        is-zero true e = refl
        is-zero false e = absurd (let clash : true ≡ false = e in cc)
  from-between (Transitional conf set) p count r is out state stays = in-state r.state state stays where
    in-state : (s : State) → IsTransitional c conf p r.held s → is_left_state s ≡ false → is_between s ≡ true
    in-state TransPrim t l = refl
    in-state Un t l = refl
    in-state (No at heard) t l = refl
    in-state (NonPrim regular) t l = ap not t
    in-state Left t l = absurd (let clash : true ≡ false = l in cc)
    in-state RegPrim t l = absurd t
    in-state (ExchangeStates at set heard) t l = absurd t
    in-state (ExchangeActions at heard accepted) t l = absurd t
    in-state (Construct at heard) t l = absurd t
  from-between Down p count r is out state stays = ap is_between state
  from-between Alone p count r is out state stays = ap is_between state

  between-of : (p : ℕ) (o : Option Replica) → IfSome o (IsStateIn c p (phase_of g p)) → IfSome o (λ r. is_regular g p ≡ false → is_left_state r.state ≡ false → is_between r.state ≡ true)
  between-of p None is = tt
  between-of p (Some r) is = λ out stays. from-between (phase_of g p) p (delivered_to g p) r (inv.net.phase_sound.phase p) out is stays

  sound-group : IsSoundGroup g
  unfolding configuration
  sound-group = record {
    rises = inv.lists.standings;
    fits = fits-of g.configurations inv.lists.received inv.net.receipts_inside.places;
    handed = handed-few;
    closed = inv.net.sender_closed;
  }

  pub sound-of : IsSound c.world
  sound-of = record {
    group = sound-group;
    up = inv.net.phase_sound.up;
    nodes = inv.lists.nodes;
    served = λ joiner s found. served-found joiner c.world.snapshots s inv.lists.served found;
    once = inv.net.hosted.once;
    between = λ p. between-of p (replica_of c.world p) (inv.talk.mode_fits p);
  }
