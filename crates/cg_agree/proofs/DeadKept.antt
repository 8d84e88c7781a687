-- An attempt that is over stays over: nobody can install it any more.
use Rattle.std.proofs.Common.{◌≡◌, ℕ, zero, suc, ◌≤◌, ◌<◌, Bool, true, false, not, ◌||◌, List, [], ◌∷◌, length, Option, Some, IfSome, refl, sym, ap, ◌∙◌, subst, inl, inr, arith, eq-eqb, eqb-true}
use Rattle.std.specs.Prelude.{◌==◌, slice_get}
use Rattle.std.specs.Option.{option_map_or}
use Rattle.std.specs.List.{list_any}
use Rattle.std.proofs.lemmas.Bool.{cases_Bool, cases_eq, and_parts, and_from, not-true, or_cases, or_left, or_right, false_from_ne_true, ne_eqb}
use Rattle.cg_base.specs.Sets.{has}
use Rattle.cg_knowledge.specs.declared.summary.Summary.{Summary}
use Rattle.cg_base.specs.SetLaws.{has-without}
use Rattle.cg_base.specs.MemberLaws.{list_any_in}
use Rattle.cg_base.specs.FindLaws.{found_passes}
use Rattle.cg_vote.specs.Quorum.{is_quorum}
use Rattle.cg_vote.specs.QuorumLaws.{meet}
use Rattle.cg_knowledge.specs.Summaries.{senders, gone, remaining}
use Rattle.cg_group.specs.State.{Sent, Configuration, has_received}
use Rattle.cg_group.specs.Ready.{all_received}
use Rattle.cg_wire.specs.declared.message.Msg.{Msg}
use Rattle.cg_client.specs.Replica.{Replica}
use Rattle.cg_model.specs.Chronicle.{Attempt, Chronicle}
use Rattle.cg_model.specs.Looks.{conf_of, members_in, ordered_in, is_regular_at, is_regular_in, attempt_of, received_by_all}
use Rattle.cg_model.specs.Talk.{no_talk, talk_of}
use Rattle.cg_model.specs.Levels.{prim_at, announced_at, lacks_announcement, is_out_lacking, is_installed, is_live, is_dead}
use Rattle.cg_model.specs.FactsNet.{ReceiptsInside, ReceiptsFixed}
use Rattle.cg_model.specs.FactsTalk.{whole_talk}
use Rattle.cg_model.specs.FactsAttempts.{IsAttempt}
use Rattle.cg_model.specs.Facts.{Invariant}
use Rattle.cg_agree_lemmas.specs.Reach.{passes}
use Rattle.cg_agree_lemmas.specs.ReachFacts.{GoesOnIn, all-at, any-more}
use Rattle.cg_agree_lemmas.specs.Announced.{announced-front, announced-behind, senders-members}
use Rattle.cg_agree_lemmas.specs.SameAttempt.{SameAttempt}
use Rattle.cg_agree.proofs.AttemptSteps.{WhyInstalled, AllAnnounced, Before, Installing}

-- ---- members

-- one of them passes the test
pub some-of : (t : ℕ → Bool) (set : List ℕ) → list_any t set ≡ true → (p : ℕ) × (has set p ≡ true) × (t p ≡ true)
some-of t [] e = absurd (let clash : false ≡ true = e in cc)
some-of t (q ∷ set) e = elim (or_cases (t q) (list_any t set) e) [
  | inl here ↦ (q, or_left (q == q) (has set q) (eq-eqb q q refl), here)
  | inr later ↦ (let rest = some-of t set later in (rest.0, or_right (q == rest.0) (has set rest.0) rest.1, rest.2))
]

pub received-one : (C : Configuration Msg) (place q : ℕ) → all_received C place ≡ true → has C.members q ≡ true → has_received C q place ≡ true
unfolding all_received
received-one C place q all member = all-at (λ q. has_received C q place) C.members q all member

pub remaining-senders : (heard : List Summary) (q : ℕ) → has (remaining heard) q ≡ true → has (senders heard) q ≡ true
unfolding remaining
remaining-senders heard q is = (and_parts (has (senders heard) q) (not (has (gone heard) q)) (sym (has-without (senders heard) (gone heard) q) ∙ is)).0

-- ---- a configuration of an attempt has messages

nobody-sent : (k : ℕ) → has (senders []) k ≡ true → ⊥
unfolding senders
nobody-sent k e = let clash : false ≡ true = e in cc

pub said-by : (list : List (Sent Msg)) (q : ℕ) → has (senders (talk_of list).heard) q ≡ true → 0 < length list
said-by [] q is = absurd (nobody-sent q is)
said-by (s ∷ list) q is = omega arith

-- somebody remains in it, who has told something
pub said-attempt : (c : Chronicle) (conf : ℕ) (a : Attempt) → Invariant c → attempt_of c conf ≡ Some a → 0 < length (ordered_in c conf)
said-attempt c conf a i e =
    let shape = subst (λ (o : Option Attempt). IfSome o (IsAttempt c conf)) e (i.attempt.attempt_shape conf) in
    let quorum : is_quorum (prim_at c a.from).set (remaining (whole_talk c conf).heard) ≡ true = ap (λ s. is_quorum (prim_at c a.from).set s) (sym shape.parts.set) ∙ shape.quorum in
    let share = meet (prim_at c a.from).set (remaining (whole_talk c conf).heard) (remaining (whole_talk c conf).heard) quorum quorum in
    said-by (ordered_in c conf) share.member (remaining-senders (whole_talk c conf).heard share.member share.is_in_one)

-- ---- what a member that is out lacks

-- past the last place nobody has received anything
received-beyond : (C : Configuration Msg) (p place : ℕ) → length C.received ≤ place → has_received C p (suc place) ≡ false
unfolding has_received
received-beyond C p place le = at C.received place le where
  at : (sets : List (List ℕ)) (n : ℕ) → length sets ≤ n → option_map_or (λ set. has set p) (slice_get sets n) false ≡ false
  at [] n le = refl
  at (s ∷ sets) zero le = absurd (omega arith)
  at (s ∷ sets) (suc n) le = at sets n (omega arith)

module _ (c d : Chronicle) (conf : ℕ) (on : GoesOnIn c d conf) (fixed : ReceiptsFixed c d) (inside : ReceiptsInside c) (said : 0 < length (ordered_in c conf)) where
  pub lacks-still : (p q : ℕ) → is_regular_in c conf p ≡ false → lacks_announcement c conf p q ≡ true → lacks_announcement d conf p q ≡ true
  lacks-still p q out lacks = elim (cases_eq (announced_at c conf q) 0) [
    | inl none ↦ elim (announced-behind (ordered_in c conf) (ordered_in d conf) q on.ordered none) [
      | inl still ↦ ap (λ n. (n == 0) || not (has_received (conf_of d conf) p n)) still
      | inr later ↦ or_right (announced_at d conf q == 0) (not (has_received (conf_of d conf) p (announced_at d conf q)))
          (ap not (fixed.receipts conf p (announced_at d conf q) said out ∙ beyond (announced_at d conf q) later))
    ]
    | inr some ↦
        let same = announced-front (ordered_in c conf) (ordered_in d conf) q on.ordered (omega arith) in
        let not_got = not-true (has_received (conf_of c conf) p (announced_at c conf q)) (right (announced_at c conf q == 0) _ (ne_eqb (announced_at c conf q) 0 some) lacks) in
        or_right (announced_at d conf q == 0) (not (has_received (conf_of d conf) p (announced_at d conf q)))
        (ap not (ap (has_received (conf_of d conf) p) same ∙ fixed.receipts conf p (announced_at c conf q) said out ∙ not_got))
  ]
    where
      beyond : (place : ℕ) → length (ordered_in c conf) < place → has_received (conf_of c conf) p place ≡ false
      beyond zero lt = absurd (omega arith)
      beyond (suc place) lt = received-beyond (conf_of c conf) p place (let e = inside.places conf in omega arith)

      right : (b e : Bool) → b ≡ false → (b || e) ≡ true → e ≡ true
      right true e is or = absurd (let clash : true ≡ false = is in cc)
      right false e is or = or

  out-still : (a b : Attempt) → b.conf ≡ a.conf → b.set ≡ a.set → a.conf ≡ conf → (p : ℕ) → is_out_lacking c a p ≡ true → is_out_lacking d b p ≡ true
  out-still a b same set_is at p out =
      let parts = and_parts (not (is_regular_in c a.conf p)) (list_any (lacks_announcement c a.conf p) a.set) out in
      let outside : is_regular_in c conf p ≡ false = ap (λ k. is_regular_in c k p) (sym at) ∙ not-true (is_regular_in c a.conf p) parts.0 in
      let here : b.conf ≡ conf = same ∙ at in
      and_from (not (is_regular_in d b.conf p)) (list_any (lacks_announcement d b.conf p) b.set)
      (ap not (ap (λ k. is_regular_in d k p) here ∙ on.stays p outside))
      (subst (λ s. list_any (lacks_announcement d b.conf p) s ≡ true) (sym set_is)
      (any-more (lacks_announcement c a.conf p) (lacks_announcement d b.conf p) a.set
      (λ q lacks. ap (λ k. lacks_announcement d k p q) here ∙ lacks-still p q outside (ap (λ k. lacks_announcement c k p q) (sym at) ∙ lacks)) parts.1))

  live-less : (a b : Attempt) → b.conf ≡ a.conf → b.set ≡ a.set → a.conf ≡ conf → is_live d b ≡ true → is_live c a ≡ true
  live-less a b same set_is at live =
      any-more (is_regular_in d b.conf) (is_regular_in c a.conf) a.set
      (λ q is. elim (cases_Bool (is_regular_in c conf q)) [
        | inl here ↦ ap (λ k. is_regular_in c k q) at ∙ here
        | inr out ↦ absurd (let clash : true ≡ false = sym is ∙ ap (λ k. is_regular_in d k q) (same ∙ at) ∙ on.stays q out in cc)
      ]) (ap (list_any (is_regular_in d b.conf)) (sym set_is) ∙ live)

  -- it is over still, where nobody has installed it
  pub dead-still : (a b : Attempt) → SameAttempt a b → a.conf ≡ conf → is_installed b ≡ false → is_dead c a ≡ true → is_dead d b ≡ true
  dead-still a b same at none dead =
      let parts = and_parts (not (is_installed a)) (list_any (is_out_lacking c a) a.set || not (is_live c a)) dead in
      and_from (not (is_installed b)) (list_any (is_out_lacking d b) b.set || not (is_live d b)) (ap not none)
      (elim (or_cases (list_any (is_out_lacking c a) a.set) (not (is_live c a)) parts.1) [
        | inl out ↦ or_left (list_any (is_out_lacking d b) b.set) (not (is_live d b))
            (subst (λ s. list_any (is_out_lacking d b) s ≡ true) (sym same.set)
            (any-more (is_out_lacking c a) (is_out_lacking d b) a.set (λ p lacking. out-still a b same.conf same.set at p lacking) out))
        | inr gone ↦ or_right (list_any (is_out_lacking d b) b.set) (not (is_live d b))
            (ap not (false_from_ne_true (is_live d b) (λ live. (let clash : true ≡ false = sym (live-less a b same.conf same.set at live) ∙ not-true (is_live c a) gone in cc))))
      ])

-- ---- nobody installs it

-- a member of the attempt's set is one of the configuration
pub set-members : (c : Chronicle) (i : Invariant c) (conf : ℕ) (a : Attempt) → attempt_of c conf ≡ Some a → (q : ℕ) → has a.set q ≡ true → has (members_in c conf) q ≡ true
set-members c i conf a e q member =
    let shape = subst (λ (o : Option Attempt). IfSome o (IsAttempt c conf)) e (i.attempt.attempt_shape conf) in
    let listed : has (remaining (whole_talk c conf).heard) q ≡ true = ap (λ l. has l q) (sym shape.parts.set) ∙ member in
    senders-members (members_in c conf) conf (ordered_in c conf) no_talk q (i.talk.talk_legal.ordered conf) (λ k none. absurd (nobody-sent k none))
    (remaining-senders (whole_talk c conf).heard q listed)

-- who is about to install an attempt shows that it isn't over
pub installing-alive : (c : Chronicle) (i : Invariant c) (p : ℕ) (r : Replica) (ins : Installing c p r) → is_dead c ins.a ≡ false
installing-alive c i p r ins = false_from_ne_true (is_dead c ins.a) (λ dead. at ins.why (and_parts (not (is_installed ins.a)) (list_any (is_out_lacking c ins.a) ins.a.set || not (is_live c ins.a)) dead)) where
  conf_is : ins.a.conf ≡ ins.conf
  conf_is = eqb-true ins.a.conf ins.conf (found_passes (λ (a : Attempt). a.conf == ins.conf) c.attempts ins.a ins.found)

  live : is_live c ins.a ≡ true
  live = list_any_in (is_regular_in c ins.a.conf) ins.a.set p ins.member (ap (λ k. is_regular_in c k p) conf_is ∙ ap (is_regular_at ins.conf) ins.regular ∙ eq-eqb ins.conf ins.conf refl)

  got : (place q : ℕ) → 0 < place → place ≤ received_by_all c ins.a.conf → has ins.a.set q ≡ true → has_received (conf_of c ins.a.conf) q place ≡ true
  got place q some le member =
      let all = passes (all_received (conf_of c ins.a.conf)) (length (ordered_in c ins.a.conf)) place some le in
      received-one (conf_of c ins.a.conf) place q all (ap (λ k. has (members_in c k) q) conf_is ∙ set-members c i ins.conf ins.a ins.found q member)

  at : WhyInstalled c ins.a → (not (is_installed ins.a) ≡ true) × ((list_any (is_out_lacking c ins.a) ins.a.set || not (is_live c ins.a)) ≡ true) → ⊥
  at (Before installed) parts = let clash : true ≡ false = sym installed ∙ not-true (is_installed ins.a) parts.0 in cc
  at (AllAnnounced each) parts = elim (or_cases (list_any (is_out_lacking c ins.a) ins.a.set) (not (is_live c ins.a)) parts.1) [
    | inl out ↦
        let one = some-of (is_out_lacking c ins.a) ins.a.set out in
        let lacking = (and_parts (not (is_regular_in c ins.a.conf one.0)) (list_any (lacks_announcement c ins.a.conf one.0) ins.a.set) one.2).1 in
        let other = some-of (lacks_announcement c ins.a.conf one.0) ins.a.set lacking in
        let place = each other.0 other.1 in
        elim (or_cases (announced_at c ins.a.conf other.0 == 0) (not (has_received (conf_of c ins.a.conf) one.0 (announced_at c ins.a.conf other.0))) other.2) [
          | inl none ↦ (let e = eqb-true (announced_at c ins.a.conf other.0) 0 none in let lt = place.0 in absurd (omega arith))
          | inr without ↦ (let clash : true ≡ false = sym (got (announced_at c ins.a.conf other.0) one.0 place.0 place.1 one.1) ∙ not-true (has_received (conf_of c ins.a.conf) one.0 (announced_at c ins.a.conf other.0)) without in cc)
        ]
    | inr gone ↦ (let clash : true ≡ false = sym live ∙ not-true (is_live c ins.a) gone in cc)
  ]
