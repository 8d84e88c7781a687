-- The end of a plan at a member: all members were heard, each as it told, and the member still holds what it told itself.
use Rattle.std.proofs.Common.{◌≡◌, ℕ, suc, Bool, true, false, not, ◌&&◌, List, [], ◌∷◌, Option, Some, None, IfSome, refl, sym, ap, ◌∙◌, subst, eq-eqb, eqb-true, if◌then◌else◌}
use Rattle.std.specs.Prelude.{◌==◌}
use Rattle.std.specs.Option.{option_map_or}
use Rattle.std.proofs.lemmas.Bool.{and_parts}
use Rattle.cg_action.specs.declared.action.Action.{Action}
use Rattle.cg_base.specs.Sets.{has}
use Rattle.cg_base.specs.Choice.{Either}
use Rattle.cg_base.specs.FindLaws.{found_passes}
use Rattle.cg_knowledge.specs.declared.summary.Summary.{Summary}
use Rattle.cg_knowledge.specs.Summaries.{senders, gone}
use Rattle.cg_knowledge.specs.Verdict.{decides}
use Rattle.cg_wire.specs.declared.message.Msg.{Msg}
use Rattle.cg_wire.specs.declared.message.Msg.TheVariants.{Action as ActionMsg, State as StateMsg, GreenItem, RedItem, Cpc}
use Rattle.cg_client.specs.Replica.{Held, State, RegPrim, TransPrim, ExchangeStates, ExchangeActions, Construct, No, Un, NonPrim, Left, Replica}
use Rattle.cg_model.specs.Chronicle.{Told, Chronicle}
use Rattle.cg_model.specs.Looks.{greens_of, told_in, is_regular_at, is_regular_in, members_in}
use Rattle.cg_model.specs.Talk.{Talk, hears_from, is_full, is_through, is_ended, is_announced, state_behind, state_in}
use Rattle.cg_model.specs.Fronts.{IsSomeWith}
use Rattle.cg_model.specs.FactsTalk.{AreTold, summaries_of, whole_talk}
use Rattle.cg_model.specs.FactsExchange.{HoldsStill, IsInExchange, IsUnmoved, IsGoingOn, best_told}
use Rattle.cg_model.specs.Facts.{Invariant}
use Rattle.cg_agree_lemmas.specs.EndCovers.{OfEach}
use Rattle.cg_agree_lemmas.specs.EndQuorum.{both-each}
use Rattle.cg_agree_lemmas.specs.Knowledge.{sender-told}
use Rattle.cg_agree_lemmas.specs.TalkEarly.{all-member}
use Rattle.cg_agree_lemmas.specs.TurnKinds.{EndsWith}
use Rattle.cg_agree_lemmas.specs.HandsNow.{HandsNow, new, set, before, count, behind, running-now, behind-next, hand-state, whole-through, whole-ended}

-- ---- which talk a message ends

-- a choice that isn't the first
abbrev Choice : Bool → State → State → State
Choice b x y = if b then x else y

pub ended-behind : (conf : ℕ) (t : Talk) (me : ℕ) (m : Msg) (at : ℕ) (heard : List Summary) → EndsWith (state_behind conf t me) m at heard → ⊥
ended-behind conf t me m at heard ends = one (has (gone t.heard) me) ends where
  three : (b : Bool) → EndsWith (Choice b RegPrim (Construct conf t.announced)) m at heard → ⊥
  three true e = e
  three false e = e

  two : (b : Bool) → EndsWith (Choice b (NonPrim true) (Choice (is_announced t) RegPrim (Construct conf t.announced))) m at heard → ⊥
  two true e = e
  two false e = three (is_announced t) e

  one : (b : Bool) → EndsWith (Choice b Left (Choice (not (decides t.heard)) (NonPrim true) (Choice (is_announced t) RegPrim (Construct conf t.announced)))) m at heard → ⊥
  one true e = e
  one false e = two (not (decides t.heard)) e

-- the plan that ends is that of the talk with the message
heard-ends : (set : List ℕ) (conf : ℕ) (t : Talk) (me from : ℕ) (m : Msg) (at : ℕ) (heard : List Summary) → EndsWith (state_in set conf t me) m at heard →
    (conf ≡ at) × ((hears_from t from m).heard ≡ heard)
heard-ends set conf t me from m at heard ends = one (is_full set t) m ends where
  states : (m : Msg) → EndsWith (ExchangeStates conf set t.heard) m at heard → (conf ≡ at) × ((hears_from t from m).heard ≡ heard)
  states (StateMsg s) e = (e.0, sym e.1)
  states (ActionMsg a) e = absurd e
  states (GreenItem place a) e = absurd e
  states (RedItem a) e = absurd e
  states (Cpc id of_conf) e = absurd e

  actions : (m : Msg) → EndsWith (ExchangeActions conf t.heard t.accepted) m at heard → (conf ≡ at) × ((hears_from t from m).heard ≡ heard)
  actions (StateMsg s) e = absurd e
  actions (ActionMsg a) e = absurd e
  actions (GreenItem place a) e = (e.0, sym e.1)
  actions (RedItem a) e = (e.0, sym e.1)
  actions (Cpc id of_conf) e = absurd e

  two : (b : Bool) (m : Msg) → EndsWith (Choice (not b) (ExchangeActions conf t.heard t.accepted) (state_behind conf t me)) m at heard → (conf ≡ at) × ((hears_from t from m).heard ≡ heard)
  two true m e = absurd (ended-behind conf t me m at heard e)
  two false m e = actions m e

  one : (b : Bool) (m : Msg) → EndsWith (Choice (not b) (ExchangeStates conf set t.heard) (Choice (not (is_through t)) (ExchangeActions conf t.heard t.accepted) (state_behind conf t me))) m at heard →
      (conf ≡ at) × ((hears_from t from m).heard ≡ heard)
  one true m e = two (is_through t) m e
  one false m e = states m e

-- a state behind an exchange
abbrev pub is_behind : State → Bool
is_behind (NonPrim true) = true
is_behind (Construct conf heard) = true
is_behind RegPrim = true
is_behind Left = true
is_behind _ = false

pub behind-ended : (set : List ℕ) (conf : ℕ) (t : Talk) (me : ℕ) → is_behind (state_in set conf t me) ≡ true → is_ended set t ≡ true
behind-ended set conf t me e = one (is_full set t) (is_through t) e where
  one : (b d : Bool) → is_behind (Choice (not b) (ExchangeStates conf set t.heard) (Choice (not d) (ExchangeActions conf t.heard t.accepted) (state_behind conf t me))) ≡ true → (b && d) ≡ true
  one true true e = refl
  one true false e = absurd (let clash : false ≡ true = e in cc)
  one false d e = absurd (let clash : false ≡ true = e in cc)

-- ---- what is still held

-- what a member in an exchange still holds of what it told, unless it has left
still-held : (c : Chronicle) (conf : ℕ) (t : Told) (h : Held) (greens : List Action) (state : State) (m : Msg) (at : ℕ) (heard : List Summary) → EndsWith state m at heard →
    has (gone heard) h.id ≡ false → IsInExchange c conf t h greens state → HoldsStill t h
still-held c conf t h greens (ExchangeStates at' members all) m at heard ends here is = is.holds
still-held c conf t h greens (ExchangeActions at' all accepted) m at heard ends here is =
    going (best_told c conf all) (subst (λ b. Either b (IsUnmoved t h greens) (IsSomeWith (best_told c conf all) (λ best. IsGoingOn all accepted best t h greens))) (ap (λ l. has (gone l) h.id) (same m ends) ∙ here) is) where
      same : (m : Msg) → EndsWith (ExchangeActions at' all accepted) m at heard → all ≡ heard
      same (StateMsg s) e = absurd e
      same (ActionMsg a) e = absurd e
      same (GreenItem place a) e = sym e.1
      same (RedItem a) e = sym e.1
      same (Cpc id of_conf) e = absurd e

      going : (o : Option Told) → IsSomeWith o (λ best. IsGoingOn all accepted best t h greens) → HoldsStill t h
      going None e = absurd e
      going (Some best) e = e.holds
still-held c conf t h greens RegPrim m at heard ends here is = absurd ends
still-held c conf t h greens TransPrim m at heard ends here is = absurd ends
still-held c conf t h greens (Construct at' all) m at heard ends here is = absurd ends
still-held c conf t h greens (No at' all) m at heard ends here is = absurd ends
still-held c conf t h greens Un m at heard ends here is = absurd ends
still-held c conf t h greens (NonPrim regular) m at heard ends here is = absurd ends
still-held c conf t h greens Left m at heard ends here is = absurd ends

-- ---- the end of a plan at a member

pub record AtPlanEnd (c : Chronicle) (p : ℕ) (r : Replica) (conf : ℕ) (heard : List Summary) : Type 0 where
  pub whole : (whole_talk c conf).heard ≡ heard
  pub ended : is_ended (members_in c conf) (whole_talk c conf) ≡ true
  pub each : AreTold c conf heard
  pub mine : Told
  pub found : told_in c conf p ≡ Some mine
  pub holds : HoldsStill mine r.held
  pub listed : has (senders heard) p ≡ true
  pub regular : is_regular_in c conf p ≡ true

pub plan-end : (c : Chronicle) (p : ℕ) (i : Invariant c) (n : HandsNow c p) (at : ℕ) (heard : List Summary) → EndsWith n.replica.state n.next.message at heard →
    has (gone heard) n.replica.held.id ≡ false → is_behind (new c p i n).state ≡ true → (n.conf ≡ at) × AtPlanEnd c p n.replica n.conf heard
plan-end c p i n at heard ends here after =
    let ends' = subst (λ (s : State). EndsWith s n.next.message at heard) n.state ends in
    let both = heard-ends (set c p i n) n.conf (before c p i n) p n.next.from n.next.message at heard ends' in
    let ended = behind-ended (set c p i n) n.conf (behind c p i n) p (ap is_behind (sym (hand-state c p i n)) ∙ after) in
    let same = whole-through c n.conf p (suc (count c p i n)) i.talk.talk_legal ended in
    let heard-now : (behind c p i n).heard ≡ heard = ap (λ (t : Talk). t.heard) (behind-next c p i n) ∙ both.1 in
    let whole = same.heard ∙ heard-now in
    let regular : is_regular_in c n.conf p ≡ true = ap (is_regular_at n.conf) n.regular ∙ eq-eqb n.conf n.conf refl in
    let inside = i.exchange.exchange_progress n.conf p regular in
    let held : IsSomeWith (told_in c n.conf p) (λ t. IsInExchange c n.conf t n.replica.held (greens_of c p) n.replica.state) =
    subst (λ (o : Option Replica). IfSome o (λ r. IsSomeWith (told_in c n.conf p) (λ t. IsInExchange c n.conf t r.held (greens_of c p) r.state))) (running-now c p i n) inside in
    let own = told (told_in c n.conf p) held in (
      both.0,
      record {
        whole = whole;
        ended = whole-ended c n.conf p (suc (count c p i n)) i.talk.talk_legal ended;
        each = subst (AreTold c n.conf) whole (i.talk.heard_is_told n.conf);
        mine = own.0;
        found = own.1;
        holds = still-held c n.conf own.0 n.replica.held (greens_of c p) n.replica.state n.next.message at heard ends here own.2;
        listed = ap (λ l. has (senders l) p) (sym heard-now) ∙ all-member (has (senders (behind c p i n).heard)) (set c p i n) p n.member (and_parts (is_full (set c p i n) (behind c p i n)) (is_through (behind c p i n)) ended).0;
        regular = regular;
      },
    )
  where
    told : (o : Option Told) → IsSomeWith o (λ t. IsInExchange c n.conf t n.replica.held (greens_of c p) n.replica.state) →
        (t : Told) × (o ≡ Some t) × IsInExchange c n.conf t n.replica.held (greens_of c p) n.replica.state
    told None e = absurd e
    told (Some t) e = (t, refl, e)

-- what holds of all that was told in the configuration holds of each summary that was heard
pub told-each : (c : Chronicle) (conf : ℕ) (P : Summary → Type 0) → ((q : ℕ) (t : Told) → told_in c conf q ≡ Some t → P t.summary) →
    (heard : List Summary) → AreTold c conf heard → OfEach P heard
told-each c conf P each [] told = tt
told-each c conf P each (s ∷ heard) told = (one (told_in c conf s.id) refl told.0, told-each c conf P each heard told.1) where
  one : (o : Option Told) → told_in c conf s.id ≡ o → summaries_of o ≡ s ∷ [] → P s
  one None e same = absurd (let clash : [] ≡ s ∷ [] = same in cc)
  one (Some t) e same = subst P (ap (first t.summary) same) (each s.id t e) where
    first : Summary → List Summary → Summary
    first d [] = d
    first d (x ∷ xs) = x

-- a member's own summary is what it told
pub own-told : (c : Chronicle) (p conf : ℕ) (mine : Told) → told_in c conf p ≡ Some mine → (q : ℕ) (t : Told) → told_in c conf q ≡ Some t → t.summary.id ≡ p → t.summary ≡ mine.summary
own-told c p conf mine found q t e id =
    let named : t.summary.id ≡ q = eqb-true t.summary.id q (and_parts (t.summary.conf == conf) (t.summary.id == q) (found_passes (λ (t : Told). (t.summary.conf == conf) && (t.summary.id == q)) c.told t e)).1 in
    let same : Some t ≡ Some mine = sym e ∙ ap (told_in c conf) (sym named ∙ id) ∙ found in
    ap (λ (o : Option Told). option_map_or (λ x. x.summary) o t.summary) same

-- what holds of each summary that was heard holds of the member's own
pub mine-among : (c : Chronicle) (p : ℕ) (r : Replica) (conf : ℕ) (heard : List Summary) (end : AtPlanEnd c p r conf heard) (P : Summary → Type 0) → OfEach P heard → P end.mine.summary
mine-among c p r conf heard end P each =
    let own = told-each c conf (λ s. s.id ≡ p → s ≡ end.mine.summary) (own-told c p conf end.mine end.found) heard end.each in
    let sent = sender-told (λ s. (s.id ≡ p → s ≡ end.mine.summary) × P s) heard p end.listed (both-each (λ s. s.id ≡ p → s ≡ end.mine.summary) P heard own each) in
    subst P (sent.holds.0 sent.id) sent.holds.1
