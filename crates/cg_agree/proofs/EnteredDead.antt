-- Who had entered an attempt and has no record of it any more shows that it is over.
use Rattle.std.proofs.Common.{◌≡◌, ℕ, ◌≤◌, nat_le, true, false, not, ◌&&◌, List, [], ◌∷◌, Option, Some, None, IfSome, is_some, is_none, option_map, refl, sym, ap, ◌∙◌, subst, inl, inr, arith, eq-eqb, eqb-true}
use Rattle.std.specs.Prelude.{◌==◌, option_and_then}
use Rattle.std.specs.Option.{option_map_or}
use Rattle.std.proofs.lemmas.Bool.{cases_Bool, and_from, and_parts, le-leb}
use Rattle.std.proofs.lemmas.Option.{same_Some}
use Rattle.cg_base.specs.Sets.{has}
use Rattle.cg_base.specs.FindLaws.{found_passes}
use Rattle.cg_records.specs.declared.primary.Primary.{Primary}
use Rattle.cg_records.specs.declared.vulnerable.Vulnerable.{Vulnerable}
use Rattle.cg_vote.specs.Quorum.{is_quorum}
use Rattle.cg_knowledge.specs.declared.summary.Summary.{Summary}
use Rattle.cg_knowledge.specs.Summaries.{remaining}
use Rattle.cg_knowledge.specs.Primary.{known_primary}
use Rattle.cg_knowledge.specs.Vulnerable.{decided, is_cleared}
use Rattle.cg_knowledge.specs.Verdict.{decides, all_cleared}
use Rattle.cg_group.specs.declared.phase.Phase.{Phase}
use Rattle.cg_group.specs.declared.phase.Phase.TheVariants.{Down, Alone, Regular, Transitional}
use Rattle.cg_group.specs.State.{Standing, phase_of, standing_of, is_up}
use Rattle.cg_wire.specs.declared.message.Msg.{Msg}
use Rattle.cg_client.specs.Replica.{Held, State, RegPrim, TransPrim, ExchangeStates, ExchangeActions, Construct, No, Un, NonPrim, Left, Replica}
use Rattle.cg_model.specs.Attempts.{held_in}
use Rattle.cg_model.specs.World.{Node, replica_of, running}
use Rattle.cg_model.specs.Chronicle.{Told, Attempt, Chronicle}
use Rattle.cg_model.specs.Looks.{attempt_of, attempt_at, conf_at, core_of, is_regular_in, is_regular_at}
use Rattle.cg_model.specs.Fronts.{When, IsSomeWith}
use Rattle.cg_model.specs.Levels.{is_dead, is_record_of}
use Rattle.cg_model.specs.FactsReplica.{IsModeData, IsCounted, IsInAttempt, HasModeData}
use Rattle.cg_model.specs.FactsExchange.{IsRecord, HasRecord, KnowsLevels}
use Rattle.cg_model.specs.FactsAttempts.{is_without, is_no}
use Rattle.cg_model.specs.Facts.{Invariant}
use Rattle.cg_agree_lemmas.specs.HandsKept.{hosted}
use Rattle.cg_agree_lemmas.specs.ReachWorld.{when-is}
use Rattle.cg_agree_lemmas.specs.EndCovers.{OfEach}
use Rattle.cg_agree_lemmas.specs.EndQuorum.{cleared-each, none-cleared}
use Rattle.cg_agree_lemmas.specs.Knowledge.{known-of, some-sender, Cleared, Kept, becomes}
use Rattle.cg_agree_lemmas.specs.TurnParts.{record_left}
use Rattle.cg_agree_lemmas.specs.PlanEnd.{AtPlanEnd, mine-among}
use Rattle.cg_agree.proofs.ClearedDead.{cleared-dead}
use Rattle.cg_agree.proofs.EnteredBefore.{entered-record}
use Rattle.cg_agree.proofs.RecordsMove.{IsDecided}

-- ---- who had entered it

-- the record of a summary, or of what is held, is of the attempt of the configuration
record-is : (conf : ℕ) (o : Option Vulnerable) → is_record_of conf o ≡ true → (v : Vulnerable) × (o ≡ Some v) × (v.attempt ≡ conf)
record-is conf None is = absurd (let clash : false ≡ true = is in cc)
record-is conf (Some v) is = (v, refl, eqb-true v.attempt conf is)

-- who is regular is up
regular-there : (c : Chronicle) (conf p : ℕ) → is_regular_in c conf p ≡ true → is_up c.world.group p ≡ true
regular-there c conf p regular = at (standing_of c.world.group p) regular where
  at : (o : Option (Standing Msg)) → is_regular_at conf (option_map_or (λ s. s.phase) o Down) ≡ true → is_some o ≡ true
  at None e = absurd (let clash : false ≡ true = e in cc)
  at (Some s) e = refl

regular-conf : (conf : ℕ) (x : Phase) → is_regular_at conf x ≡ true → conf_at x ≡ conf
regular-conf conf Down e = absurd (let clash : false ≡ true = e in cc)
regular-conf conf Alone e = absurd (let clash : false ≡ true = e in cc)
regular-conf conf (Regular at) e = eqb-true at conf e
regular-conf conf (Transitional at set) e = absurd (let clash : false ≡ true = e in cc)

-- a quorum decides where no record stays
no-record : (heard : List Summary) → decides heard ≡ true → OfEach (λ s. is_none (decided heard s.vulnerable) ≡ true) heard
unfolding decides
no-record heard holds = cleared-each heard (and_parts (is_quorum (known_primary heard).set (remaining heard)) (all_cleared heard) holds).1

module _ (c : Chronicle) (i : Invariant c) (conf p : ℕ) (a : Attempt) (found : attempt_of c conf ≡ Some a) (entered : has a.entered p ≡ true) (member : has a.set p ≡ true) where
  conf-is : a.conf ≡ conf
  conf-is = eqb-true a.conf conf (found_passes (λ (a : Attempt). a.conf == conf) c.attempts a found)

  data-of : (r : Replica) → replica_of c.world p ≡ Some r → IsModeData c p r
  data-of r up = subst (λ (o : Option Replica). IfSome o (IsModeData c p)) up (i.replica.mode_data p)

  -- in the attempt's configuration it has its record
  own-there : (r : Replica) → replica_of c.world p ≡ Some r → conf_at (phase_of c.world.group p) ≡ conf → is_record_of a.conf r.held.vulnerable ≡ true
  own-there r up here =
      let data' = data-of r up in
      let at = ap (attempt_of c) here ∙ found in
      let counted = subst (λ (o : Option Attempt). IfSome o (λ a. IsCounted a r)) at data'.counted in
      entered-record c r.held (phase_of c.world.group p) a at r.state data'.data_of (sym counted.entered ∙ ap (has a.entered) data'.id ∙ entered)

  -- without its record it isn't regular there any more, and shows it
  pub old-dead : (old : Held) → core_of c p ≡ Some old → old.prim.index ≤ a.from → is_record_of a.conf old.vulnerable ≡ false → is_dead c a ≡ true
  old-dead old core low without = elim (cases_Bool (is_regular_in c conf p)) [
    | inl regular ↦
        let sits = hosted c.world p (i.net.phase_sound.up p ∙ regular-there c conf p regular) in
        let same : Some old ≡ Some sits.replica.held = sym core ∙ ap (λ (o : Option Node). option_map (λ s. held_in s.life) o) sits.node in
        let own = own-there sits.replica (ap (λ (o : Option Node). option_and_then (λ s. running s.life) o) sits.node) (regular-conf conf (phase_of c.world.group p) regular) in
        absurd (let clash : true ≡ false = sym own ∙ sym (ap (λ (o : Option Held). is_record_of a.conf (option_map_or (λ h. h.vulnerable) o None)) same) ∙ without in cc)
    | inr out ↦
        let one = subst (λ (o : Option Attempt). IfSome o (λ a. IfSome (core_of c p) (λ h. When (is_without a p h.prim.index h.vulnerable) (is_dead c a ≡ true)))) found (i.attempt.dead_evidence.member conf p out) in
        let two = subst (λ (o : Option Held). IfSome o (λ h. When (is_without a p h.prim.index h.vulnerable) (is_dead c a ≡ true))) core one in
        when-is (is_without a p old.prim.index old.vulnerable) (is_dead c a ≡ true)
        (and_from (has a.set p && nat_le old.prim.index a.from) (not (is_record_of a.conf old.vulnerable)) (and_from (has a.set p) (nat_le old.prim.index a.from) member (le-leb old.prim.index a.from low)) (ap not without)) two
  ]

  -- ---- it comes into a configuration

  -- the attempt of its record is that of its configuration
  here-is : (x : Attempt) (r : Replica) (q : ℕ) → attempt_of c (conf_at (phase_of c.world.group p)) ≡ Some x → r.held.vulnerable ≡ Some (record { attempt = x.conf; from = x.from; set = x.set; bits = q ∷ [] }) →
      is_record_of a.conf r.held.vulnerable ≡ true → conf_at (phase_of c.world.group p) ≡ conf
  here-is x r q at mine is =
      let same : x.conf ≡ a.conf = eqb-true x.conf a.conf (ap (is_record_of a.conf) (sym mine) ∙ is) in
      let number : x.conf ≡ conf_at (phase_of c.world.group p) = eqb-true x.conf (conf_at (phase_of c.world.group p)) (found_passes (λ (a : Attempt). a.conf == conf_at (phase_of c.world.group p)) c.attempts x at) in
      sym number ∙ same ∙ conf-is

  pub come-dead : (r : Replica) → replica_of c.world p ≡ Some r → core_of c p ≡ Some r.held → r.held.prim.index ≤ a.from → (v : Option Vulnerable) → v ≡ record_left r.state r.held.vulnerable → is_record_of a.conf v ≡ false → is_dead c a ≡ true
  come-dead r up core low v left without = elim (cases_Bool (is_record_of a.conf r.held.vulnerable)) [
    | inr none ↦ old-dead r.held core low none
    | inl is ↦ at is r.state refl (data-of r up).data_of (ap (is_record_of a.conf) (sym left) ∙ without)
  ]
    where
      at : is_record_of a.conf r.held.vulnerable ≡ true → (state : State) → r.state ≡ state → HasModeData c r.held (phase_of c.world.group p) state → is_record_of a.conf (record_left state r.held.vulnerable) ≡ false → is_dead c a ≡ true
      at is TransPrim state data' none =
          let here = here-is (attempt_at c r.held.prim.index) r r.held.id data'.0.opened data'.0.mine is in
          let same : attempt_at c r.held.prim.index ≡ a = same_Some (attempt_at c r.held.prim.index) a (sym data'.0.opened ∙ ap (attempt_of c) here ∙ found) in
          let index = data'.0.index in
          let from = ap (λ (x : Attempt). x.from) same in absurd (omega (arith, index, from, low))
      at is (No k heard) state data' none = short (attempt_of c (conf_at (phase_of c.world.group p))) refl data'
          (when-is (is_no r.state) _ (ap is_no state) (subst (λ (o : Option Replica). IfSome o (λ r. When (is_no r.state) (IsSomeWith (attempt_of c (conf_at (phase_of c.world.group p))) (λ a. is_dead c a ≡ true)))) up (i.attempt.dead_evidence.cut_short p)))
        where
          short : (o : Option Attempt) → attempt_of c (conf_at (phase_of c.world.group p)) ≡ o → HasModeData c r.held (phase_of c.world.group p) (No k heard) → IsSomeWith (attempt_of c (conf_at (phase_of c.world.group p))) (λ a. is_dead c a ≡ true) → is_dead c a ≡ true
          short None e inside dead = absurd (subst (λ (o : Option Attempt). IsSomeWith o (λ a. is_dead c a ≡ true)) e dead)
          short (Some x) e inside dead =
              let mine = (subst (λ (o : Option Attempt). IsInAttempt r.held o) e inside).0 in
              let here = here-is x r r.held.id e mine is in
              subst (λ (o : Option Attempt). IsSomeWith o (λ a. is_dead c a ≡ true)) (ap (attempt_of c) here ∙ found) dead
      at is RegPrim state data' none = absurd (let clash : true ≡ false = sym is ∙ none in cc)
      at is (ExchangeStates k set heard) state data' none = absurd (let clash : true ≡ false = sym is ∙ none in cc)
      at is (ExchangeActions k heard n) state data' none = absurd (let clash : true ≡ false = sym is ∙ none in cc)
      at is (Construct k heard) state data' none = absurd (let clash : true ≡ false = sym is ∙ none in cc)
      at is Un state data' none = absurd (let clash : true ≡ false = sym is ∙ none in cc)
      at is (NonPrim regular) state data' none = absurd (let clash : true ≡ false = sym is ∙ none in cc)
      at is Left state data' none = absurd (let clash : true ≡ false = sym is ∙ none in cc)

  -- ---- a plan is through at it

  -- its record was cleared
  was-cleared : (r : Replica) (k : ℕ) (heard : List Summary) → AtPlanEnd c p r k heard → (v : Vulnerable) → r.held.vulnerable ≡ Some v → v.attempt ≡ a.conf → (now : Option Vulnerable) → IsDecided heard k r now → is_record_of a.conf now ≡ false →
      is_cleared heard v ≡ true
  was-cleared r k heard end v mine of now (inl decided') without = elim (becomes heard v) [
    | Cleared cleared none ↦ cleared
    | Kept kept same ↦ absurd (let clash : true ≡ false = sym (ap (is_record_of a.conf) (decided' ∙ ap (decided heard) mine ∙ same) ∙ eq-eqb v.attempt a.conf of) ∙ without in cc)
  ]
  was-cleared r k heard end v mine of now (inr attempted) without = none-cleared heard v (ap (λ o. is_none (decided heard o)) (sym (sym end.holds.vulnerable ∙ mine)) ∙ mine-among c p r k heard end (λ s. is_none (decided heard s.vulnerable) ≡ true) (no-record heard attempted.0))

  anything : (heard : List Summary) → OfEach (λ s. Unit {0}) heard
  anything [] = tt
  anything (s ∷ heard) = (tt, anything heard)

  pub through-dead : (r : Replica) → core_of c p ≡ Some r.held → (k : ℕ) (heard : List Summary) → AtPlanEnd c p r k heard → r.held.prim.index ≤ (known_primary heard).index → (known_primary heard).index ≤ a.from →
      (now : Option Vulnerable) → IsDecided heard k r now → is_record_of a.conf now ≡ false → is_dead c a ≡ true
  through-dead r core k heard end rises low now decided' without = elim (cases_Bool (is_record_of a.conf r.held.vulnerable)) [
    | inr none ↦ old-dead r.held core (omega arith) none
    | inl is ↦
        let own = record-is a.conf r.held.vulnerable is in
        let v = own.0 in
        let knows : KnowsLevels c end.mine = subst (λ (o : Option Told). IfSome o (KnowsLevels c)) end.found (i.exchange.summary_of_sender.levels k p) in
        let told : end.mine.summary.vulnerable ≡ Some v = sym end.holds.vulnerable ∙ own.1 in
        let number : end.mine.summary.conf ≡ k = eqb-true end.mine.summary.conf k (and_parts (end.mine.summary.conf == k) (end.mine.summary.id == p)
        (found_passes (λ (t : Told). (t.summary.conf == k) && (t.summary.id == p)) c.told end.mine end.found)).0 in
        let before : option_map_or (λ v. v.attempt) end.mine.summary.vulnerable 0 ≡ v.attempt = ap (λ (o : Option Vulnerable). option_map_or (λ v. v.attempt) o 0) told in
        let of : v.attempt ≡ conf = own.2 ∙ conf-is in
        let earlier = knows.record_earlier in
        let has_record = subst (λ (o : Option Vulnerable). HasRecord c end.mine.summary.id end.mine.summary.prim.index o) told knows.has_record in
        let fits = subst (λ (o : Option Attempt). IsSomeWith o (λ a. IsRecord a v)) (ap (attempt_of c) of ∙ found) has_record.2 in
        let known = known-of (λ s. Unit {0}) heard (some-sender heard p end.listed) (anything heard) in
        let index = ap (λ (x : Primary). x.index) known.prim ∙ known.index in
        cleared-dead c i conf k a found (omega (arith, number, before, of, earlier)) heard v end.each of fits.0 fits.1 (omega (arith, index, low))
        (was-cleared r k heard end v own.1 own.2 now decided' without)
  ]
