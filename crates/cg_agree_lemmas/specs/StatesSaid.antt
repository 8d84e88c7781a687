-- What the state of a regular member says of what was handed to it, and what a message without an action counts.
use Rattle.std.proofs.Common.{◌≡◌, ℕ, ◌+◌, Bool, true, false, not, List, Some, None, length, refl, sym, ap, ◌∙◌, ⊎_elim, if◌then◌else◌}
use Rattle.std.proofs.lemmas.Bool.{cases_Bool, and_from}
use Rattle.cg_base.specs.Sets.{has}
use Rattle.cg_knowledge.specs.declared.summary.Summary.{Summary}
use Rattle.cg_knowledge.specs.Summaries.{gone}
use Rattle.cg_knowledge.specs.Verdict.{decides}
use Rattle.cg_wire.specs.declared.message.Msg.{Msg}
use Rattle.cg_wire.specs.declared.message.Msg.TheVariants.{Action as ActionMsg, State as StateMsg, GreenItem, RedItem, Cpc}
use Rattle.cg_client.specs.Replica.{State, RegPrim, ExchangeStates, ExchangeActions, Construct, NonPrim, Left}
use Rattle.cg_client.specs.Turn.{Turn}
use Rattle.cg_client.specs.Requests.{is_creating}
use Rattle.cg_states.specs.ReplicaStep.{on_message}
use Rattle.cg_model.specs.Talk.{Talk, hears_from, is_full, is_through, is_ended, is_announced as all_announced, act_in, known_up_to, state_in}
use Rattle.cg_model.specs.FactsTalk.{of_creator, count_behind}
use Rattle.cg_agree_lemmas.specs.ActsSaid.{not-creating}

-- no regular state is one of these
pub never : (set : List ℕ) (conf : ℕ) (t : Talk) (me : ℕ) (P : State → Type 0) → ((at : ℕ) (s : List ℕ) (x : List Summary) → P (ExchangeStates at s x))
    → ((at : ℕ) (x : List Summary) (n : ℕ) → P (ExchangeActions at x n)) → P Left → P (NonPrim true) → P RegPrim → ((at : ℕ) (s : List ℕ) → P (Construct at s)) → P (state_in set conf t me)
never set conf t me P a b c d e f = at (is_full set t) (is_through t) (has (gone t.heard) me) (decides t.heard) (all_announced t) where
  at : (full through left decided told : Bool) → P (if not full then ExchangeStates conf set t.heard else if not through then ExchangeActions conf t.heard t.accepted
      else if left then Left else if not decided then NonPrim true else if told then RegPrim else Construct conf t.announced)
  at false through left decided told = a conf set t.heard
  at true false left decided told = b conf t.heard t.accepted
  at true true true decided told = c
  at true true false false told = d
  at true true false true true = e
  at true true false true false = f conf t.announced

-- who has left takes nothing
pub left-none : (from : ℕ) (m : Msg) (t : Turn) → on_message Left from m t ≡ t
unfolding on_message
left-none from (ActionMsg a) t = refl
left-none from (StateMsg x) t = refl
left-none from (GreenItem k a) t = refl
left-none from (RedItem a) t = refl
left-none from (Cpc i k) t = refl

-- the state in which an attempt is announced says what was handed
pub record IsAnnouncing (set : List ℕ) (t : Talk) : Type 0 where
  pub ended : is_ended set t ≡ true
  pub decided : decides t.heard ≡ true
  pub few : all_announced t ≡ false

pub announcing : (set : List ℕ) (conf : ℕ) (t : Talk) (me at : ℕ) (heard : List ℕ) → state_in set conf t me ≡ Construct at heard → IsAnnouncing set t
announcing set conf t me at heard e = by (is_full set t) (is_through t) (has (gone t.heard) me) (decides t.heard) (all_announced t) refl refl refl refl e where
  by : (full through left decided told : Bool) → is_full set t ≡ full → is_through t ≡ through → decides t.heard ≡ decided → all_announced t ≡ told →
      (if not full then ExchangeStates conf set t.heard else if not through then ExchangeActions conf t.heard t.accepted
      else if left then Left else if not decided then NonPrim true else if told then RegPrim else Construct conf t.announced) ≡ Construct at heard → IsAnnouncing set t
  by false through left decided told a b c d e = absurd (let clash : ExchangeStates conf set t.heard ≡ Construct at heard = e in cc)
  by true false left decided told a b c d e = absurd (let clash : ExchangeActions conf t.heard t.accepted ≡ Construct at heard = e in cc)
  by true true true decided told a b c d e = absurd (let clash : Left ≡ Construct at heard = e in cc)
  by true true false false told a b c d e = absurd (let clash : NonPrim true ≡ Construct at heard = e in cc)
  by true true false true true a b c d e = absurd (let clash : RegPrim ≡ Construct at heard = e in cc)
  by true true false true false a b c d e = record { ended = and_from (is_full set t) (is_through t) a b; decided = c; few = d }

-- where no quorum was
pub undecided : (set : List ℕ) (conf : ℕ) (t : Talk) (me : ℕ) → state_in set conf t me ≡ NonPrim true → decides t.heard ≡ false
undecided set conf t me e = at (is_full set t) (is_through t) (has (gone t.heard) me) (decides t.heard) (all_announced t) e where
  at : (full through left decided told : Bool) → (if not full then ExchangeStates conf set t.heard else if not through then ExchangeActions conf t.heard t.accepted
      else if left then Left else if not decided then NonPrim true else if told then RegPrim else Construct conf t.announced) ≡ NonPrim true → decided ≡ false
  at false through left decided told e = absurd (let clash : ExchangeStates conf set t.heard ≡ NonPrim true = e in cc)
  at true false left decided told e = absurd (let clash : ExchangeActions conf t.heard t.accepted ≡ NonPrim true = e in cc)
  at true true true decided told e = absurd (let clash : Left ≡ NonPrim true = e in cc)
  at true true false false told e = refl
  at true true false true true e = absurd (let clash : RegPrim ≡ NonPrim true = e in cc)
  at true true false true false e = absurd (let clash : Construct conf t.announced ≡ NonPrim true = e in cc)

-- one that creates has come to the end of the plan
pub creating-ended : (set : List ℕ) (conf : ℕ) (t : Talk) (me : ℕ) → is_creating (state_in set conf t me) ≡ true → is_ended set t ≡ true
creating-ended set conf t me creating = ⊎_elim (λ y. y) (λ n. absurd (let clash : true ≡ false = sym creating ∙ not-creating set conf t me n in cc)) (cases_Bool (is_ended set t))

-- a message without an action counts nothing
pub count-quiet : (t : Talk) (from : ℕ) (m : Msg) → act_in m ≡ None → (hears_from t from m).heard ≡ t.heard → (creator : ℕ) → count_behind (hears_from t from m) creator ≡ count_behind t creator
count-quiet t from (ActionMsg a) none heard creator = absurd (let clash : Some a ≡ None = none in cc)
count-quiet t from (StateMsg s) none heard creator = ap (λ h. known_up_to h creator + length (of_creator creator t.acts)) heard
count-quiet t from (GreenItem at a) none heard creator = refl
count-quiet t from (RedItem a) none heard creator = refl
count-quiet t from (Cpc i k) none heard creator = refl
