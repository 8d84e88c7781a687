-- The place that is handed next: the talk with it, and the state of the member to whom it is handed.
use Rattle.std.proofs.Common.{◌≡◌, ℕ, zero, suc, true, false, List, [], ◌∷◌, ◌++◌, take, Option, Some, None, fold, refl, sym, ap, ◌∙◌}
use Rattle.std.specs.Prelude.{slice_get}
use Rattle.std.proofs.lemmas.Bool.{and_parts}
use Rattle.cg_base.specs.Sets.{has}
use Rattle.cg_knowledge.specs.Summaries.{gone, remaining}
use Rattle.cg_knowledge.specs.Verdict.{decides}
use Rattle.cg_wire.specs.declared.message.Msg.{Msg}
use Rattle.cg_group.specs.declared.delivery.Delivery.TheVariants.{Message}
use Rattle.cg_group.specs.State.{Sent}
use Rattle.cg_client.specs.Replica.{Replica}
use Rattle.cg_client.specs.Turn.{begin}
use Rattle.cg_states.specs.Construct.{attempt_set}
use Rattle.cg_states.specs.ReplicaStep.{on_message, after_delivery as take_delivery}
use Rattle.cg_model.specs.Talk.{Talk, no_talk, hears, talk_of, is_ended, may_say, is_legal, state_in}
use Rattle.cg_agree_lemmas.specs.TalkEarly.{early-legal, early-none}
use Rattle.cg_agree_lemmas.specs.HandKept.{hand-message}

module _ {X : Type 0} where
  abbrev either : X → Option X → X
  either d None = d
  either d (Some x) = x

  -- one more element of the front
  pub take-next : (xs : List X) (n : ℕ) (x : X) → slice_get xs n ≡ Some x → take (suc n) xs ≡ take n xs ++ x ∷ []
  take-next [] n x e = absurd (let clash : None ≡ Some x = e in cc)
  take-next (y ∷ xs) zero x e = ap (λ z. z ∷ []) (ap (either y) e)
  take-next (y ∷ xs) (suc n) x e = ap (λ zs. y ∷ zs) (take-next xs n x e)

pub talk-append : (t : Talk) (xs ys : List (Sent Msg)) → fold hears t (xs ++ ys) ≡ fold hears (fold hears t xs) ys
talk-append t [] ys = refl
talk-append t (x ∷ xs) ys = talk-append (hears t x) xs ys

-- what stands at a place may be said behind what stands before it
pub legal-at : (set : List ℕ) (conf : ℕ) (t : Talk) (list : List (Sent Msg)) (n : ℕ) (s : Sent Msg) → is_legal set conf t list ≡ true → slice_get list n ≡ Some s →
    may_say set conf (fold hears t (take n list)) s.from s.message ≡ true
legal-at set conf t [] n s legal e = absurd (let clash : None ≡ Some s = e in cc)
legal-at set conf t (x ∷ list) zero s legal e =
    let may = (and_parts (may_say set conf t x.from x.message) (is_legal set conf (hears t x) list) legal).0 in
    ap (λ (z : Sent Msg). may_say set conf t z.from z.message) (sym (ap (either x) e)) ∙ may
legal-at set conf t (x ∷ list) (suc n) s legal e =
    legal-at set conf (hears t x) list n s (and_parts (may_say set conf t x.from x.message) (is_legal set conf (hears t x) list) legal).1 e

-- a front of a legal talk is legal
pub legal-front : (set : List ℕ) (conf : ℕ) (t : Talk) (list : List (Sent Msg)) (n : ℕ) → is_legal set conf t list ≡ true → is_legal set conf t (take n list) ≡ true
legal-front set conf t list zero legal = refl
legal-front set conf t [] (suc n) legal = refl
legal-front set conf t (x ∷ list) (suc n) legal =
    let parts = and_parts (may_say set conf t x.from x.message) (is_legal set conf (hears t x) list) legal in
    rw parts.0 (legal-front set conf (hears t x) list n parts.1)

-- the state of a member behind the next place
pub state-handed : (set : List ℕ) (conf me place : ℕ) (list : List (Sent Msg)) (n : ℕ) (s : Sent Msg) (r : Replica) →
    is_legal set conf no_talk list ≡ true → slice_get list n ≡ Some s → r.held.id ≡ me → r.state ≡ state_in set conf (talk_of (take n list)) me →
    (let t = talk_of (take n list) in is_ended set t ≡ true → has (gone t.heard) me ≡ false → decides t.heard ≡ true → attempt_set r.held ≡ remaining t.heard) →
    (take_delivery (begin r) (Message place s.from s.message)).replica.state ≡ state_in set conf (talk_of (take (suc n) list)) me
unfolding take_delivery
state-handed set conf me place list n s r legal e id at attempt =
    let t = talk_of (take n list) in
    let early = early-legal set conf (take n list) no_talk (early-none set) (legal-front set conf no_talk list n legal) in
    let may = legal-at set conf no_talk list n s legal e in
    let next : talk_of (take (suc n) list) ≡ hears t s = ap talk_of (take-next list n s e) ∙ talk-append no_talk (take n list) (s ∷ []) in
    ap (λ st. (on_message st s.from s.message (begin r)).replica.state) at
    ∙ hand-message set conf me t early (begin r) id at attempt s.from s.message may
    ∙ ap (λ (u : Talk). state_in set conf u me) (sym next)
