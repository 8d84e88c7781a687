-- Who lacks an announcement shows that an attempt is over: who is out and never entered it, and who was cut short.
use Rattle.std.proofs.Common.{◌≡◌, ℕ, ◌≤◌, ◌<◌, Bool, true, false, not, ◌&&◌, ◌||◌, List, [], ◌∷◌, length, length-append, filter_map, Option, Some, None, IfSome, refl, sym, ap, ◌∙◌, subst, inl, inr, arith, eq-eqb, eqb-true, if◌then◌else◌}
use Rattle.std.specs.Prelude.{◌==◌}
use Rattle.std.specs.Option.{option_map_or}
use Rattle.std.specs.List.{list_any, list_all}
use Rattle.std.proofs.lemmas.Bool.{cases_Bool, cases_eq, and_from, or_cases, or_left, or_right, not-true, false_from_ne_true}
use Rattle.std.proofs.lemmas.List.Elements.{filter_map-append}
use Rattle.cg_base.specs.Sets.{has, is_within}
use Rattle.cg_base.specs.MemberLaws.{list_any_in}
use Rattle.cg_base.specs.BoolLaws.{or_else}
use Rattle.cg_base.specs.FindLaws.{found_passes}
use Rattle.cg_records.specs.declared.vulnerable.Vulnerable.{Vulnerable}
use Rattle.cg_group.specs.declared.phase.Phase.{Phase}
use Rattle.cg_group.specs.declared.phase.Phase.TheVariants.{Down, Alone, Regular, Transitional}
use Rattle.cg_group.specs.State.{phase_of, has_received, delivered_to}
use Rattle.cg_group.specs.Ready.{all_received}
use Rattle.cg_client.specs.Replica.{State, RegPrim, TransPrim, ExchangeStates, ExchangeActions, Construct, No, Un, NonPrim, Left, Replica}
use Rattle.cg_states.specs.Construct.{attempt_set}
use Rattle.cg_knowledge.specs.Summaries.{gone}
use Rattle.cg_knowledge.specs.Verdict.{decides}
use Rattle.cg_model.specs.World.{replica_of}
use Rattle.cg_model.specs.Chronicle.{Attempt, Chronicle}
use Rattle.cg_model.specs.Looks.{attempt_of, conf_at, conf_of, members_in, ordered_in, placed_of, waiting_in, received_by_all, is_regular_in, is_regular_at}
use Rattle.cg_model.specs.Fronts.{When, IsSomeWith}
use Rattle.cg_model.specs.Talk.{Talk, announcer_in, state_in, is_full, is_through, is_announced}
use Rattle.cg_model.specs.Levels.{announced_at, lacks_announcement, is_out_lacking, is_installed, is_live, is_dead}
use Rattle.cg_model.specs.FactsNet.{PhaseSound, IsPhase}
use Rattle.cg_model.specs.FactsTalk.{ModeFits, IsStateIn, IsTransitional, handed_talk}
use Rattle.cg_model.specs.FactsReplica.{IsModeData, HasModeData, IsInAttempt, IsCounted, has_entered, is_attempting, is_primary}
use Rattle.cg_model.specs.FactsAttempts.{AnnouncedEntered, InstalledAnnounced, entered_in, is_no}
use Rattle.cg_agree_lemmas.specs.Reach.{passes}
use Rattle.cg_agree_lemmas.specs.ReachFacts.{all-at}
use Rattle.cg_agree_lemmas.specs.ReachWorld.{when-is}
use Rattle.cg_agree.proofs.OneAttemptKept.{announced-said}
use Rattle.cg_agree_lemmas.specs.ListStill.{when-from}

-- ---- choices

-- a place that all have received each member has
got-by : (d : Chronicle) (conf place q : ℕ) → all_received (conf_of d conf) place ≡ true → has (members_in d conf) q ≡ true → has_received (conf_of d conf) q place ≡ true
unfolding all_received
got-by d conf place q all member = all-at (λ q. has_received (conf_of d conf) q place) (members_in d conf) q all member

-- ---- who lacks an announcement

-- who has entered an attempt is of its set
abbrev pub EnteredWithin : Chronicle → Type 0
EnteredWithin c = (conf : ℕ) → IfSome (attempt_of c conf) (λ a. is_within a.entered a.set ≡ true)

module _ (d : Chronicle) (entered : AnnouncedEntered d) (announced : InstalledAnnounced d) (conf : ℕ) (b : Attempt) (found : attempt_of d conf ≡ Some b) where
  conf-is : b.conf ≡ conf
  conf-is = eqb-true b.conf conf (found_passes (λ (a : Attempt). a.conf == conf) d.attempts b found)

  announcer-entered : (q : ℕ) → 0 < announced_at d conf q → has b.entered q ≡ true
  announcer-entered q some =
      let placed = announced-said (ordered_in d conf) 0 q some in
      let e = ap (λ (xs : List ℕ). length xs) (filter_map-append announcer_in (placed_of q (ordered_in d conf)) (waiting_in d conf q)) in
      let both = length-append (filter_map announcer_in (placed_of q (ordered_in d conf))) (filter_map announcer_in (waiting_in d conf q)) in
      let is : entered_in d conf q ≡ true = entered conf q (omega (arith, e, both, placed)) in
      sym (ap (λ (o : Option Attempt). option_map_or (λ a. has_entered a q) o false) found) ∙ is

  installed-place : (q : ℕ) → is_installed b ≡ true → has b.set q ≡ true → (0 < announced_at d conf q) × (announced_at d conf q ≤ received_by_all d conf)
  installed-place q is member =
      let fact = subst (λ (o : Option Attempt). IfSome o (λ a. When (has a.set q) ((0 < announced_at d conf q) × (announced_at d conf q ≤ received_by_all d conf)))) found
      (announced conf q (ap (λ (o : Option Attempt). option_map_or is_installed o false) found ∙ is)) in
      when-is (has b.set q) _ member fact

  -- it isn't installed, and a member that is out lacks an announcement
  pub lacking-dead : (p q : ℕ) → has b.set p ≡ true → has b.set q ≡ true → is_regular_in d conf p ≡ false → lacks_announcement d conf p q ≡ true → is_installed b ≡ false → is_dead d b ≡ true
  lacking-dead p q member other out lacks none =
      and_from (not (is_installed b)) (list_any (is_out_lacking d b) b.set || not (is_live d b)) (ap not none)
      (or_left (list_any (is_out_lacking d b) b.set) (not (is_live d b)) (list_any_in (is_out_lacking d b) b.set p member
      (and_from (not (is_regular_in d b.conf p)) (list_any (lacks_announcement d b.conf p) b.set)
      (ap not (ap (λ k. is_regular_in d k p) conf-is ∙ out))
      (list_any_in (lacks_announcement d b.conf p) b.set q other (ap (λ k. lacks_announcement d k p q) conf-is ∙ lacks)))))

  -- A member that is out and never entered it.
  pub never-entered : (p : ℕ) → has b.set p ≡ true → is_regular_in d conf p ≡ false → has b.entered p ≡ false → is_dead d b ≡ true
  never-entered p member out without = lacking-dead p p member member out
      (ap (λ n. (n == 0) || not (has_received (conf_of d conf) p n)) silent)
      (false_from_ne_true (is_installed b) (λ is. (let place = (installed-place p is member).0 in let e = silent in absurd (omega arith)))) where
        silent : announced_at d conf p ≡ 0
        silent = elim (cases_eq (announced_at d conf p) 0) [
          | inl zeroth ↦ zeroth
          | inr some ↦ absurd (let clash : true ≡ false = sym (announcer-entered p (omega arith)) ∙ without in cc)
        ]

  -- A member that is out lacks the announcement of another one, of which it has received none.
  pub short-dead : (p q : ℕ) → has (members_in d conf) p ≡ true → has b.set p ≡ true → has b.set q ≡ true → is_regular_in d conf p ≡ false → lacks_announcement d conf p q ≡ true → is_dead d b ≡ true
  short-dead p q listed member other out lacks = lacking-dead p q member other out lacks (false_from_ne_true (is_installed b) (λ is. never is)) where
    never : is_installed b ≡ true → ⊥
    never is =
        let place = installed-place q is other in
        let all = passes (all_received (conf_of d conf)) (length (ordered_in d conf)) (announced_at d conf q) place.0 place.1 in
        let got = got-by d conf (announced_at d conf q) p all listed in
        elim (or_cases (announced_at d conf q == 0) (not (has_received (conf_of d conf) p (announced_at d conf q))) lacks) [
          | inl none ↦ (let e = eqb-true (announced_at d conf q) 0 none in let lt = place.0 in absurd (omega arith))
          | inr without ↦ (let clash : true ≡ false = sym got ∙ not-true (has_received (conf_of d conf) p (announced_at d conf q)) without in cc)
        ]

-- ---- cut short

-- some member isn't heard
unheard : (set heard : List ℕ) → is_within set heard ≡ false → (q : ℕ) × (has set q ≡ true) × (has heard q ≡ false)
unheard [] heard e = absurd (let clash : true ≡ false = e in cc)
unheard (q ∷ set) heard e = elim (cases_Bool (has heard q)) [
  | inl is ↦ (let rest = unheard set heard (sym (ap (λ b. b && is_within set heard) is) ∙ e) in (rest.0, or_right (q == rest.0) (has set rest.0) rest.1, rest.2))
  | inr without ↦ (q, or_left (q == q) (has set q) (eq-eqb q q refl), without)
]

-- nobody is cut short in its regular phase
abbrev Choice : Bool → State → State → State
Choice b x y = if b then x else y

never-no : (set : List ℕ) (conf : ℕ) (t : Talk) (me : ℕ) → is_no (state_in set conf t me) ≡ false
never-no set conf t me = one (is_full set t) (is_through t) (has (gone t.heard) me) (decides t.heard) (is_announced t) where
  one : (a b g e u : Bool) → is_no (Choice (not a) (ExchangeStates conf set t.heard) (Choice (not b) (ExchangeActions conf t.heard t.accepted)
      (Choice g Left (Choice (not e) (NonPrim true) (Choice u RegPrim (Construct conf t.announced)))))) ≡ false
  one false b g e u = refl
  one true false g e u = refl
  one true true true e u = refl
  one true true false false u = refl
  one true true false true true = refl
  one true true false true false = refl

module _ (d : Chronicle) (entered : AnnouncedEntered d) (announced : InstalledAnnounced d) (sound : PhaseSound d) (modes : ModeFits d)
    (holds : (p : ℕ) → IfSome (replica_of d.world p) (IsModeData d p)) (within : EnteredWithin d) where
  abbrev IsShort : ℕ → Type 0
  IsShort k = IsSomeWith (attempt_of d k) (λ a. is_dead d a ≡ true)

  -- in its transitional phase
  short-there : (p : ℕ) (r : Replica) (k : ℕ) (others : List ℕ) (at' : ℕ) (heard : List ℕ) → phase_of d.world.group p ≡ Transitional k others → has (members_in d k) p ≡ true → IsModeData d p r →
      r.state ≡ No at' heard → IsTransitional d k p r.held (No at' heard) → IsShort k
  short-there p r k others at' heard phase listed data' is trans = at (attempt_of d k) refl in-attempt counted where
    in-attempt : IsInAttempt r.held (attempt_of d k)
    in-attempt = subst (λ (x : Phase). IsInAttempt r.held (attempt_of d (conf_at x))) phase (subst (λ (s : State). HasModeData d r.held (phase_of d.world.group p) s) is data'.data_of)

    counted : IfSome (attempt_of d k) (λ a. has_entered a r.held.id ≡ true)
    counted = subst (λ (x : Phase). IfSome (attempt_of d (conf_at x)) (λ a. has_entered a r.held.id ≡ true)) phase (of (attempt_of d (conf_at (phase_of d.world.group p))) data'.counted) where
      of : (o : Option Attempt) → IfSome o (λ a. IsCounted a r) → IfSome o (λ a. has_entered a r.held.id ≡ true)
      of None all = tt
      of (Some a) one = one.entered ∙ ap (λ (s : State). is_attempting s || is_primary s) is

    at : (o : Option Attempt) → attempt_of d k ≡ o → IsInAttempt r.held o → IfSome o (λ a. has_entered a r.held.id ≡ true) → IsSomeWith o (λ a. is_dead d a ≡ true)
    at None e inside is = absurd inside
    at (Some a) e inside is =
        let set_is : attempt_set r.held ≡ a.set = ap (λ (v : Option Vulnerable). option_map_or (λ v. v.set) v []) inside.0 in
        let one = unheard a.set heard (ap (λ l. is_within l heard) (sym set_is) ∙ trans.1) in
        let each = all-at (λ q. has heard q || lacks_announcement d k p q) a.set one.0 (ap (list_all (λ q. has heard q || lacks_announcement d k p q)) (sym set_is) ∙ trans.2) one.1 in
        let lacks : lacks_announcement d k p one.0 ≡ true = or_else (has heard one.0) (lacks_announcement d k p one.0) one.2 each in
        let inset = subst (λ (o : Option Attempt). IfSome o (λ a. is_within a.entered a.set ≡ true)) e (within k) in
        let member : has a.set p ≡ true = ap (has a.set) (sym data'.id) ∙ all-at (has a.set) a.entered r.held.id inset is in
        short-dead d entered announced k a e p one.0 listed member one.1 (ap (is_regular_at k) phase) lacks

  -- Who was cut short shows that the attempt is over.
  pub cut-short : (p : ℕ) → IfSome (replica_of d.world p) (λ r. When (is_no r.state) (IsShort (conf_at (phase_of d.world.group p))))
  cut-short p = at (replica_of d.world p) (modes p) (holds p) where
    of_state : (r : Replica) (k : ℕ) (others : List ℕ) → phase_of d.world.group p ≡ Transitional k others → has (members_in d k) p ≡ true → IsModeData d p r → (s : State) → r.state ≡ s → is_no s ≡ true → IsTransitional d k p r.held s → IsShort k
    of_state r k others phase listed data' (No at' heard) is short trans = short-there p r k others at' heard phase listed data' is trans
    of_state r k others phase listed data' RegPrim is short trans = absurd trans
    of_state r k others phase listed data' TransPrim is short trans = absurd (let clash : false ≡ true = short in cc)
    of_state r k others phase listed data' (ExchangeStates a b e) is short trans = absurd trans
    of_state r k others phase listed data' (ExchangeActions a b e) is short trans = absurd trans
    of_state r k others phase listed data' (Construct a b) is short trans = absurd trans
    of_state r k others phase listed data' Un is short trans = absurd (let clash : false ≡ true = short in cc)
    of_state r k others phase listed data' (NonPrim b) is short trans = absurd (let clash : false ≡ true = short in cc)
    of_state r k others phase listed data' Left is short trans = absurd (let clash : false ≡ true = short in cc)

    of_phase : (r : Replica) → IsModeData d p r → is_no r.state ≡ true → (x : Phase) → phase_of d.world.group p ≡ x → (n : ℕ) → IsPhase d p n x → IsStateIn d p x r → IsShort (conf_at x)
    of_phase r data' short Down phase n member mode = absurd (let clash : true ≡ false = sym short ∙ ap is_no mode in cc)
    of_phase r data' short Alone phase n member mode = absurd (let clash : true ≡ false = sym short ∙ ap is_no mode in cc)
    of_phase r data' short (Regular k) phase n member mode = absurd (let clash : true ≡ false = sym short ∙ ap is_no mode ∙ never-no (members_in d k) k (handed_talk d k p) p in cc)
    of_phase r data' short (Transitional k others) phase n member mode = of_state r k others phase member data' r.state refl short mode

    at : (o : Option Replica) → IfSome o (IsStateIn d p (phase_of d.world.group p)) → IfSome o (IsModeData d p) → IfSome o (λ r. When (is_no r.state) (IsShort (conf_at (phase_of d.world.group p))))
    at None mode data' = tt
    at (Some r) mode data' = when-from (is_no r.state) (IsShort (conf_at (phase_of d.world.group p)))
        (λ short. of_phase r data' short (phase_of d.world.group p) refl (delivered_to d.world.group p) (sound.phase p) mode)
