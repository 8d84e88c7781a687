-- The group facts together, and that they are kept where one replica stands otherwise, where one configuration grows, and where
-- one is made.
use Rattle.std.proofs.Common.{◌≡◌, ℕ, zero, suc, ◌<◌, ◌≤◌, Bool, true, false, cond, List, [], ◌∷◌, length, Option, Some, None, refl, sym, ap, subst, ◌∙◌, arith, eqb-true, eq-eqb, ⊎_elim, ◌⊎◌, inl, inr, is_some, length-append}
use Rattle.std.specs.Prelude.{◌==◌}
use Rattle.std.specs.Option.{option_map_or}
use Rattle.std.proofs.lemmas.Bool.{cases_Bool, cases_lt, cases_eq, cond-true, cond-false, ne_eqb}
use Rattle.cg_base.specs.Sets.{has}
use Rattle.cg_base.specs.ListLaws.{at_place-past}
use Rattle.cg_wire.specs.declared.message.Msg.{Msg}
use Rattle.cg_group.specs.declared.phase.Phase.{Phase}
use Rattle.cg_group.specs.declared.phase.Phase.TheVariants.{Down, Alone, Regular, Transitional}
use Rattle.cg_group.specs.State.{Configuration, GroupState, Standing, no_configuration, phase_of, is_up, delivered_to, configuration, has_received, standing_of}
use Rattle.cg_group.specs.GrownLaws.{Grows}
use Rattle.cg_group.specs.PlaceLaws.{at_place-append, at_place-last}
use Rattle.cg_model.specs.World.{replica_of}
use Rattle.cg_model.specs.Chronicle.{Chronicle}
use Rattle.cg_model.specs.Looks.{conf_of, is_regular_at, is_regular_in, received_by_all}
use Rattle.cg_model.specs.FactsNet.{PhaseSound, IsPhase, ReceiptsInside, SenderClosed, HandedReceived}
use Rattle.cg_model.specs.Small.{make_configuration}
use Rattle.cg_agree_lemmas.specs.ConfSound.{ConfSound, by_all, by_all-grows}
use Rattle.cg_agree_lemmas.specs.OneSteps.{OneStep}
use Rattle.cg_agree_lemmas.specs.SmallTalk.{conf-there}

pub record GroupSound (c : Chronicle) : Type 0 where
  pub phases : PhaseSound c
  pub confs : (k : ℕ) → ConfSound (conf_of c k)
  pub handed : HandedReceived c

pub inside-of : (c : Chronicle) → GroupSound c → ReceiptsInside c
inside-of c s = record {
  places = λ k. (s.confs k).places;
  member = λ k p place got. (s.confs k).member p place got;
  sender = λ k place pos le. (s.confs k).sender place pos le;
}

pub closed-of : (c : Chronicle) → GroupSound c → SenderClosed c
closed-of c s = λ k p earlier place pos lt same got. (s.confs k).closed p earlier place pos lt same got

pub sound-of : (c : Chronicle) → PhaseSound c → ReceiptsInside c → SenderClosed c → HandedReceived c → GroupSound c
sound-of c phases inside closed handed = record {
  phases = phases;
  confs = λ k. record {
    places = inside.places k;
    member = λ p place got. inside.member k p place got;
    sender = λ place pos le. inside.sender k place pos le;
    closed = λ p earlier place pos lt same got. closed k p earlier place pos lt same got;
  };
  handed = handed;
}

-- ---- one replica stands otherwise

module _ (c d : Chronicle) (p : ℕ) (now : Phase) (n : ℕ) (is : Bool) (step : OneStep c d p now n is) where
  phase-in : (q m : ℕ) (x : Phase) → IsPhase c q m x → IsPhase d q m x
  phase-in q m Down h = h
  phase-in q m Alone h = h
  phase-in q m (Regular k) h =
      (ap (λ (x : Configuration Msg). has x.members q) (step.stands.conf k) ∙ h.0, subst (λ (x : Configuration Msg). m ≤ length x.ordered) (sym (step.stands.conf k)) h.1)
  phase-in q m (Transitional k set) h = ap (λ (x : Configuration Msg). has x.members q) (step.stands.conf k) ∙ h

  phase-at : IsPhase c p n now → PhaseSound c → (q : ℕ) → IsPhase d q (delivered_to d.world.group q) (phase_of d.world.group q)
  phase-at own old q = ⊎_elim
      (λ y.
      let phase = step.stands.phase q ∙ cond-true (q == p) now (phase_of c.world.group q) y in
      let count = step.stands.delivered q ∙ cond-true (q == p) n (delivered_to c.world.group q) y in
      subst (λ x. IsPhase d q (delivered_to d.world.group q) x) (sym phase) (subst (λ m. IsPhase d q m now) (sym count)
      (subst (λ x. IsPhase d x n now) (sym (eqb-true q p y)) (phase-in p n now own))))
      (λ f.
      let phase = step.stands.phase q ∙ cond-false (q == p) now (phase_of c.world.group q) f in
      let count = step.stands.delivered q ∙ cond-false (q == p) n (delivered_to c.world.group q) f in
      subst (λ x. IsPhase d q (delivered_to d.world.group q) x) (sym phase) (subst (λ m. IsPhase d q m (phase_of c.world.group q)) (sym count)
      (phase-in q (delivered_to c.world.group q) (phase_of c.world.group q) (old.phase q))))
      (cases_Bool (q == p))

  pub phases-one : IsPhase c p n now → PhaseSound c → PhaseSound d
  phases-one own old = record {
    phase = phase-at own old;
    up = λ q. step.runs q ∙ ap (cond (q == p) is) (old.up q) ∙ sym (step.stands.up q);
  }

  pub handed-one : ((k : ℕ) → is_regular_at k now ≡ true → n ≤ received_by_all c k) → HandedReceived c → HandedReceived d
  handed-one own old k q regular = ⊎_elim
      (λ y.
      let phase = step.stands.phase q ∙ cond-true (q == p) now (phase_of c.world.group q) y in
      let count = step.stands.delivered q ∙ cond-true (q == p) n (delivered_to c.world.group q) y in
      subst (λ m. m ≤ received_by_all d k) (sym count) (subst (λ (x : Configuration Msg). n ≤ by_all x) (sym (step.stands.conf k)) (own k (ap (is_regular_at k) (sym phase) ∙ regular))))
      (λ f.
      let phase = step.stands.phase q ∙ cond-false (q == p) now (phase_of c.world.group q) f in
      let count = step.stands.delivered q ∙ cond-false (q == p) n (delivered_to c.world.group q) f in
      subst (λ m. m ≤ received_by_all d k) (sym count)
      (subst (λ (x : Configuration Msg). delivered_to c.world.group q ≤ by_all x) (sym (step.stands.conf k)) (old k q (ap (is_regular_at k) (sym phase) ∙ regular))))
      (cases_Bool (q == p))

  pub sound-one : IsPhase c p n now → ((k : ℕ) → is_regular_at k now ≡ true → n ≤ received_by_all c k) → GroupSound c → GroupSound d
  sound-one own handed old = record {
    phases = phases-one own old.phases;
    confs = λ k. subst ConfSound (sym (step.stands.conf k)) (old.confs k);
    handed = handed-one handed old.handed;
  }

-- ---- one configuration grows

-- one configuration has become another, and replicas stand as before
pub record ConfStep (c d : Chronicle) (conf : ℕ) (D : Configuration Msg) : Type 0 where
  pub changed : (k : ℕ) → conf_of d k ≡ cond (k == conf) D (conf_of c k)
  pub phase : (q : ℕ) → phase_of d.world.group q ≡ phase_of c.world.group q
  pub delivered : (q : ℕ) → delivered_to d.world.group q ≡ delivered_to c.world.group q
  pub up : (q : ℕ) → is_up d.world.group q ≡ is_up c.world.group q
  pub runs : (q : ℕ) → is_some (replica_of d.world q) ≡ is_some (replica_of c.world q)

module _ (c d : Chronicle) (conf : ℕ) (D : Configuration Msg) (step : ConfStep c d conf D) where
  -- what holds of each configuration
  at-conf : (R : ℕ → Configuration Msg → Type 0) → R conf D → ((k : ℕ) → R k (conf_of c k)) → (k : ℕ) → R k (conf_of d k)
  at-conf R here each k = ⊎_elim
      (λ y. subst (R k) (sym (step.changed k ∙ cond-true (k == conf) D (conf_of c k) y)) (subst (λ x. R x D) (sym (eqb-true k conf y)) here))
      (λ f. subst (R k) (sym (step.changed k ∙ cond-false (k == conf) D (conf_of c k) f)) (each k))
      (cases_Bool (k == conf))

  module _ (p : ℕ) (grows : Grows p (conf_of c conf) D) where
    longer : (k : ℕ) → length (conf_of c k).ordered ≤ length (conf_of d k).ordered
    longer = at-conf (λ k x. length (conf_of c k).ordered ≤ length x.ordered)
        (let long = ap length grows.ordered ∙ length-append (conf_of c conf).ordered grows.rest in omega arith) (λ k. omega arith)

    pub members : (q k : ℕ) → has (conf_of c k).members q ≡ true → has (conf_of d k).members q ≡ true
    members q = at-conf (λ k x. has (conf_of c k).members q ≡ true → has x.members q ≡ true) (λ h. ap (λ set. has set q) grows.members ∙ h) (λ k h. h)

    more : (k : ℕ) → by_all (conf_of c k) ≤ by_all (conf_of d k)
    more = at-conf (λ k x. by_all (conf_of c k) ≤ by_all x) (by_all-grows p (conf_of c conf) D grows) (λ k. omega arith)

    phase-in-grown : (q m : ℕ) (x : Phase) → IsPhase c q m x → IsPhase d q m x
    phase-in-grown q m Down h = h
    phase-in-grown q m Alone h = h
    phase-in-grown q m (Regular k) h = (members q k h.0, (let long = longer k in let le = h.1 in omega arith))
    phase-in-grown q m (Transitional k set) h = members q k h

    pub sound-grown : ConfSound D → GroupSound c → GroupSound d
    sound-grown here old = record {
      phases = record {
        phase = λ q. subst (λ m. IsPhase d q m (phase_of d.world.group q)) (sym (step.delivered q)) (subst (IsPhase d q (delivered_to c.world.group q)) (sym (step.phase q))
            (phase-in-grown q (delivered_to c.world.group q) (phase_of c.world.group q) (old.phases.phase q)));
        up = λ q. step.runs q ∙ old.phases.up q ∙ sym (step.up q);
      };
      confs = at-conf (λ k x. ConfSound x) here old.confs;
      handed = λ k q regular.
          let le = old.handed k q (ap (is_regular_at k) (sym (step.phase q)) ∙ regular) in
          let far = more k in
          let same = step.delivered q in
          omega arith;
    }

-- ---- a configuration is made

abbrev pub new_configuration : List ℕ → Configuration Msg
new_configuration set = record { members = set; ordered = []; received = [] }

-- it is the next one, and all others are as before
pub made-is : (g : GroupState Msg) (set : List ℕ) (k : ℕ) →
    (configuration (make_configuration g set) k ≡ configuration g k) ⊎ ((k ≡ suc (length g.configurations)) × (configuration (make_configuration g set) k ≡ new_configuration set))
unfolding configuration
made-is g set k = ⊎_elim
    (λ (past : length g.configurations < k). ⊎_elim
    (λ is. inr (
      is,
      ap (λ (o : Option (Configuration Msg)). option_map_or (λ c. c) o no_configuration)
          (at_place-last g.configurations (new_configuration set) k past ∙ cond-true (k == suc (length g.configurations)) (Some (new_configuration set)) None (eq-eqb k (suc (length g.configurations)) is)),
    ))
    (λ isnt. inl (ap (λ (o : Option (Configuration Msg)). option_map_or (λ c. c) o no_configuration)
    (at_place-last g.configurations (new_configuration set) k past ∙ cond-false (k == suc (length g.configurations)) (Some (new_configuration set)) None (ne_eqb k (suc (length g.configurations)) isnt)
    ∙ sym (at_place-past g.configurations k past))))
    (cases_eq k (suc (length g.configurations))))
    (λ (le : k ≤ length g.configurations). inl (ap (λ (o : Option (Configuration Msg)). option_map_or (λ c. c) o no_configuration)
    (at_place-append g.configurations (new_configuration set ∷ []) k le)))
    (cases_lt (length g.configurations) k)

nothing-received : (set : List ℕ) (p place : ℕ) → has_received (new_configuration set) p place ≡ false
unfolding has_received
nothing-received set p zero = refl
nothing-received set p (suc n) = refl

pub new-sound : (set : List ℕ) → ConfSound (new_configuration set)
new-sound set = record {
  places = refl;
  member = λ p place got. absurd (let clash : true ≡ false = sym got ∙ nothing-received set p place in cc);
  sender = λ place pos le. absurd (let none : place ≤ 0 = le in omega arith);
  closed = λ p earlier place pos lt same got. absurd (let clash : true ≡ false = sym got ∙ nothing-received set p place in cc);
}

module _ (c d : Chronicle) (set : List ℕ) (is : d.world.group ≡ make_configuration c.world.group set) (runs : (q : ℕ) → is_some (replica_of d.world q) ≡ is_some (replica_of c.world q)) where
  -- a configuration with a member is as before
  pub same-where_member : (k p : ℕ) → has (conf_of c k).members p ≡ true → conf_of d k ≡ conf_of c k
  same-where_member k p member = ap (λ (g : GroupState Msg). configuration g k) is ∙ ⊎_elim
      (λ same. same)
      (λ new. absurd (let range = conf-there c.world.group k p member in let le = range.1 in let at = new.0 in omega arith))
      (made-is c.world.group set k)

  standing-made : (q : ℕ) → standing_of d.world.group q ≡ standing_of c.world.group q
  unfolding standing_of
  standing-made q = ap (λ (g : GroupState Msg). standing_of g q) is

  pub phase-made : (q : ℕ) → phase_of d.world.group q ≡ phase_of c.world.group q
  phase-made q = ap (λ (o : Option (Standing Msg)). option_map_or (λ s. s.phase) o Down) (standing-made q)

  count-made : (q : ℕ) → delivered_to d.world.group q ≡ delivered_to c.world.group q
  count-made q = ap (λ (o : Option (Standing Msg)). option_map_or (λ s. s.delivered) o 0) (standing-made q)

  phase-in-made : (q m : ℕ) (x : Phase) → IsPhase c q m x → IsPhase d q m x
  phase-in-made q m Down h = h
  phase-in-made q m Alone h = h
  phase-in-made q m (Regular k) h =
      let same = same-where_member k q h.0 in
      (ap (λ (x : Configuration Msg). has x.members q) same ∙ h.0, subst (λ (x : Configuration Msg). m ≤ length x.ordered) (sym same) h.1)
  phase-in-made q m (Transitional k set) h = ap (λ (x : Configuration Msg). has x.members q) (same-where_member k q h) ∙ h

  pub member-of : (k q : ℕ) (x : Phase) → IsPhase c q (delivered_to c.world.group q) x → is_regular_at k x ≡ true → has (conf_of c k).members q ≡ true
  member-of k q Down h e = absurd (let clash : false ≡ true = e in cc)
  member-of k q Alone h e = absurd (let clash : false ≡ true = e in cc)
  member-of k q (Regular at) h e = subst (λ x. has (conf_of c x).members q ≡ true) (eqb-true at k e) h.0
  member-of k q (Transitional at set) h e = absurd (let clash : false ≡ true = e in cc)

  pub sound-made : GroupSound c → GroupSound d
  sound-made old = record {
    phases = record {
      phase = λ q. subst (λ m. IsPhase d q m (phase_of d.world.group q)) (sym (count-made q)) (subst (IsPhase d q (delivered_to c.world.group q)) (sym (phase-made q))
          (phase-in-made q (delivered_to c.world.group q) (phase_of c.world.group q) (old.phases.phase q)));
      up = λ q. runs q ∙ old.phases.up q ∙ ap (λ (o : Option (Standing Msg)). is_some o) (sym (standing-made q));
    };
    confs = λ k. subst ConfSound (ap (λ (g : GroupState Msg). configuration g k) (sym is)) (⊎_elim
        (λ same. subst ConfSound (sym same) (old.confs k)) (λ new. subst ConfSound (sym new.1) (new-sound set)) (made-is c.world.group set k));
    handed = λ k q regular.
        let was : is_regular_in c k q ≡ true = ap (is_regular_at k) (sym (phase-made q)) ∙ regular in
        let same = same-where_member k q (member-of k q (phase_of c.world.group q) (old.phases.phase q) was) in
        subst (λ m. m ≤ received_by_all d k) (sym (count-made q)) (subst (λ (x : Configuration Msg). delivered_to c.world.group q ≤ by_all x) (sym same) (old.handed k q was));
  }
