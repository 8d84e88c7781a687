-- What a small step never takes back, whole; and that small steps keep the facts.
use Rattle.std.proofs.Common.{◌≡◌, ℕ, ◌<◌, Bool, true, false, not, List, [], ◌∷◌, ◌⊎◌, inl, inr, length, refl, sym, ap, ap₂, ◌∙◌, arith, eqb-true, ⊎_elim}
use Rattle.std.specs.Prelude.{◌==◌}
use Rattle.std.proofs.lemmas.Bool.{cases_Bool, cond-true, cond-false, and_parts, not-true}
use Rattle.cg_base.specs.Weights.{ids}
use Rattle.cg_wire.specs.declared.message.Msg.{Msg}
use Rattle.cg_group.specs.declared.phase.Phase.{Phase}
use Rattle.cg_group.specs.declared.phase.Phase.TheVariants.{Down, Alone}
use Rattle.cg_group.specs.State.{Sent, Configuration}
use Rattle.cg_group.specs.Events.{with_message, with_receipt}
use Rattle.cg_group.specs.GrownLaws.{Grows, Grows-message, Grows-receipt}
use Rattle.cg_client.specs.Requests.{settle}
use Rattle.cg_model.specs.World.{has_begun}
use Rattle.cg_model.specs.Chronicle.{Chronicle}
use Rattle.cg_model.specs.Looks.{conf_of, members_in, ordered_in}
use Rattle.cg_model.specs.Talk.{no_talk, talk_of, is_full}
use Rattle.cg_model.specs.FactsNet.{Hosted}
use Rattle.cg_model.specs.FactsTalk.{whole_talk}
use Rattle.cg_model.specs.FactsBooks.{ListsGrow}
use Rattle.cg_model.specs.Facts.{Invariant, Moves}
use Rattle.cg_model.specs.Played.{AtRest, KeptBySmalls}
use Rattle.cg_model.specs.Small.{Small, Starts, Makes, Enters, Orders, Receives, Hands, Leaves, Asks, Settles, Commits, Crashes, Recovers, Copies, Joins, small_step, take_request}
use Rattle.cg_model.specs.Smalls.{may_make, is_running}
use Rattle.cg_agree.proofs.FixedKept.{confs-begun}
use Rattle.cg_agree_lemmas.specs.GroupKept.{orders-conf, receives-conf, leaving-regular}
use Rattle.cg_agree_lemmas.specs.GroupSound.{GroupSound, ConfStep, made-is}
use Rattle.cg_agree.proofs.GrowsKept.{grows-greens, grows-index, grows-told, grows-heard, grows-attempts, grows-levels, heard-rest}
use Rattle.cg_agree.proofs.InstalledCountKept.{installed_count-kept}
use Rattle.cg_agree.proofs.InvariantKept.{invariant-now}
use Rattle.cg_agree.proofs.NetFactsKept.{fixed-in}
use Rattle.cg_agree_lemmas.specs.NextThere.{orders-now, receives-now}
use Rattle.cg_agree_lemmas.specs.OneSteps.{OneStep, turns-step, hands-step, leaves-step, enters-step, commits-step, copies-step, crashes-step, recovers-step, joins-step, may-join, may-enter}
use Rattle.cg_agree.proofs.OrderNow.{lists-reached, lists-reach}
use Rattle.cg_agree.proofs.TalkFactsKept.{talk_legal-kept}
use Rattle.cg_agree.proofs.AttemptSteps.{group-of}

-- ---- a configuration keeps its members, or nothing is said in it

abbrev KeepsMembers : Chronicle → Chronicle → Type 0
KeepsMembers c d = (k : ℕ) → (members_in d k ≡ members_in c k) ⊎ (ordered_in d k ≡ [])

members-one : (c d : Chronicle) (p : ℕ) (now : Phase) (n : ℕ) (is : Bool) → OneStep c d p now n is → KeepsMembers c d
members-one c d p now n is step k = inl (ap (λ (x : Configuration Msg). x.members) (step.stands.conf k))

members-grown : (c d : Chronicle) (conf p : ℕ) (D : Configuration Msg) → ConfStep c d conf D → Grows p (conf_of c conf) D → KeepsMembers c d
members-grown c d conf p D step grows k = inl (⊎_elim
    (λ y. ap (λ (x : Configuration Msg). x.members) (step.changed k ∙ cond-true (k == conf) D (conf_of c k) y) ∙ grows.members ∙ ap (members_in c) (sym (eqb-true k conf y)))
    (λ f. ap (λ (x : Configuration Msg). x.members) (step.changed k ∙ cond-false (k == conf) D (conf_of c k) f))
    (cases_Bool (k == conf)))

members-kept : (c : Chronicle) (s : Small) → Hosted c → may_make c s ≡ true → GroupSound c → KeepsMembers c (small_step c s)
unfolding small_step may_make
members-kept c (Starts set) nodes m old = λ k. inl (ap (λ (x : Configuration Msg). x.members) (confs-begun c set (ids set) c.world k))
members-kept c (Makes set) nodes m old = λ k. ⊎_elim
    (λ same. inl (ap (λ (x : Configuration Msg). x.members) same)) (λ new. inr (ap (λ (x : Configuration Msg). x.ordered) new.1)) (made-is c.world.group set k)
members-kept c (Enters p) nodes m old = members-one c _ p _ 0 true (enters-step c p old.phases (may-enter c p m).comes)
members-kept c (Orders p) nodes m old =
    let next = orders-now c p old.phases (λ k. (old.confs k).places) m in
    members-grown c _ next.conf p (with_message (conf_of c next.conf) p next.message) (orders-conf c p next.conf next.stands next.message next.rest next.at)
    (Grows-message (conf_of c next.conf) p next.message (old.confs next.conf).places)
members-kept c (Receives p place) nodes m old =
    let next = receives-now c p place old.phases m in
    members-grown c _ next.conf p (with_receipt (conf_of c next.conf) p place) (receives-conf c p place next)
    (Grows-receipt (conf_of c next.conf) p place next.above next.within (old.confs next.conf).places)
members-kept c (Hands p) nodes m old = members-one c _ p _ _ true (hands-step c p old.phases (and_parts _ _ m).0)
members-kept c (Leaves p set own places) nodes m old = members-one c _ p _ own true (leaves-step c p set own places old.phases (leaving-regular c p set own places m))
members-kept c (Asks p kind) nodes m old = members-one c _ p _ _ _ (turns-step c p (take_request kind) old.phases)
members-kept c (Settles p) nodes m old = members-one c _ p _ _ _ (turns-step c p settle old.phases)
members-kept c (Commits p) nodes m old = members-one c _ p _ _ _ (commits-step c p old.phases)
members-kept c (Crashes p) nodes m old = members-one c _ p Down 0 false (crashes-step c p m)
members-kept c (Recovers p) nodes m old =
    let parts = and_parts (has_begun c.world p) (not (is_running c p)) m in
    members-one c _ p Alone 0 true (recovers-step c p nodes parts.0 (not-true (is_running c p) parts.1))
members-kept c (Copies p joiner) nodes m old = members-one c _ p _ _ _ (copies-step c p joiner old.phases)
members-kept c (Joins joiner) nodes m old = members-one c _ joiner Alone 0 true (joins-step c joiner (may-join c joiner m))

-- ---- what all have told

module _ (c : Chronicle) (s : Small) (i : Invariant c) (may : may_make c s ≡ true) where
  -- where nothing has a place, all have told only if there are no members, and then nobody says anything
  heard-none : (conf : ℕ) → ordered_in c conf ≡ [] → is_full (members_in c conf) (whole_talk c conf) ≡ true →
      (whole_talk (small_step c s) conf).heard ≡ (whole_talk c conf).heard
  heard-none conf none full =
      let d = small_step c s in
      ⊎_elim
      (λ same. (let empty : is_full (members_in d conf) no_talk ≡ true = ap₂ (λ set list. is_full set (talk_of list)) same (sym none) ∙ full in
      heard-rest (members_in d conf) conf (ordered_in d conf) no_talk empty ((talk_legal-kept c s i may).ordered conf) ∙ sym (ap (λ list. (talk_of list).heard) none)))
      (λ unsaid. ap (λ list. (talk_of list).heard) (unsaid ∙ sym none))
      (members-kept c s i.net.hosted may (group-of c i) conf)

  heard-kept : (conf : ℕ) → is_full (members_in c conf) (whole_talk c conf) ≡ true → (whole_talk (small_step c s) conf).heard ≡ (whole_talk c conf).heard
  heard-kept conf full = at (ordered_in c conf) refl where
    at : (list : List (Sent Msg)) → ordered_in c conf ≡ list → (whole_talk (small_step c s) conf).heard ≡ (whole_talk c conf).heard
    at [] none = heard-none conf none full
    at (x ∷ list) some =
        let long : length (ordered_in c conf) ≡ length (x ∷ list) = ap length some in
        let said : 0 < length (ordered_in c conf) = omega (arith, long) in
        grows-heard c s i may conf said full

-- ---- all of it

pub lists_grow-kept : (c : Chronicle) (s : Small) → Invariant c → may_make c s ≡ true → AtRest c s → ListsGrow c (small_step c s)
lists_grow-kept c s i may rest = record {
  greens = grows-greens c s i may rest;
  index = grows-index c s i may rest;
  told = grows-told c s i may;
  heard = heard-kept c s i may;
  attempts = grows-attempts c s;
  levels = grows-levels c s;
  reached = lists-reached c s i may rest;
  reach = lists-reach c s i may rest (installed_count-kept c s i may rest i.attempt.left_out);
}

pub moves-kept : (c : Chronicle) (s : Small) → Invariant c → may_make c s ≡ true → AtRest c s → Moves c (small_step c s)
moves-kept c s i may rest = record { receipts_fixed = fixed-in c s i may; lists_grow = lists_grow-kept c s i may rest }

-- Small steps keep the facts, and take nothing back.
pub kept-by-smalls : KeptBySmalls
kept-by-smalls c s i may rest = (invariant-now c s i may rest, moves-kept c s i may rest)
