-- What a row of places makes of a member that was waiting for announcements, in its transitional configuration: all announcements come before
-- the first action, by which it installs its attempt; and the row's actions become yellow one after another.
use Rattle.std.proofs.Common.{List, None, [], ap, ap₂, arith, cond, false, length, not, refl, subst, suc, sym, true, ℕ, ◌&&◌, ◌++◌, ◌+◌, ◌||◌, ◌∙◌, ◌∷◌, ◌≡◌}
use Rattle.std.proofs.lemmas.Bool.{and_from, and_parts, cond-true, cond_both}
use Rattle.std.proofs.lemmas.List.{map-append}
use Rattle.std.specs.Prelude.{◌==◌}
use Rattle.cg_action.specs.declared.action.Action.{Action}
use Rattle.cg_agree_lemmas.specs.ActsOrdered.{heard-ended}
use Rattle.cg_agree_lemmas.specs.HandMarks.{counted-next, made-so, one_of, raised-next}
use Rattle.cg_agree_lemmas.specs.HeldAll.{installed_by}
use Rattle.cg_agree_lemmas.specs.HeldInstall.{IsAllYellow, with_yellow_mark, yellow-oneself, yellow-placed}
use Rattle.cg_agree_lemmas.specs.HeldMarks.{IsOneself, rising-red}
use Rattle.cg_agree_lemmas.specs.HeldMessages.{installed-all, installed-yellow, no-yellow}
use Rattle.cg_disk_records.specs.RunLaws.{cut_behind-append}
use Rattle.cg_agree_lemmas.specs.StatesSaid.{count-quiet}
use Rattle.cg_agree_lemmas.specs.TurnKinds.{installs-to}
use Rattle.cg_agree_lemmas.specs.TurnValues.{even-mark_yellow}
use Rattle.cg_model.specs.FactsReplica.{is_attempting}
use Rattle.cg_model.specs.FactsTalk.{count_behind, of_creator}
use Rattle.cg_model.specs.Talk.{Talk, act_in, is_announced as all_announced, hears_from, is_ended, known_up_to, may_go_on, may_say}
use Rattle.cg_base.specs.Cuts.{index_in, raise}
use Rattle.cg_base.specs.Sets.{is_within, with_member, has}
use Rattle.cg_base.specs.declared.weighted.Weighted.{Weighted}
use Rattle.cg_client.specs.Install.{install}
use Rattle.cg_client.specs.Marks.{mark_yellow, marked}
use Rattle.cg_client.specs.Replica.{Held, No, Replica, State, TransPrim, Un}
use Rattle.cg_client.specs.Turn.{Turn, go_to}
use Rattle.cg_states.specs.Construct.{attempt_set, is_announced}
use Rattle.cg_states.specs.No.{no_with}
use Rattle.cg_knowledge.specs.Summaries.{remaining}
use Rattle.cg_knowledge.specs.Verdict.{decides}
use Rattle.cg_queue.specs.Queue.{marked_yellow, names_of}
use Rattle.cg_states.specs.ReplicaStep.{on_message}
use Rattle.cg_wire.specs.declared.message.Msg.{Msg}
use Rattle.cg_wire.specs.declared.message.Msg.TheVariants.{Action as ActionMsg, Cpc, GreenItem, RedItem, State as StateMsg}

-- all that is yellow are the actions of this talk, which are known up to what it counts
pub record IsMarked (start : List Weighted) (p : ℕ) (x : Talk) (h : Held) (all : List Action) : Type 0 where
  pub oneself : IsOneself start h all
  pub yellow : IsAllYellow h
  pub names : h.queue.yellow ≡ names_of x.acts
  pub counts : (creator : ℕ) → index_in h.queue.red_cut creator ≡ count_behind x creator
  pub id : h.id ≡ p

-- behind this talk it lacks an announcement, or it has them all and no action came, or it has installed its attempt by one
pub data InRow (start : List Weighted) (k p : ℕ) (old : Held) (x : Talk) (u : Replica) : Type 0 where
  Waits : (few : all_announced x ≡ false) (none : x.acts ≡ []) (state : u.state ≡ No k x.announced) (held : u.held ≡ old) → InRow start k p old x u
  Knows : (none : x.acts ≡ []) (state : u.state ≡ Un) (held : u.held ≡ old) → InRow start k p old x u
  Marked : (state : u.state ≡ TransPrim) (all : List Action) (marked : IsMarked start p x u.held all) → InRow start k p old x u

module _ (start : List Weighted) (p : ℕ) (x : Talk) (from : ℕ) where
  -- the next action of its creator, which is another one, becomes yellow
  mark : (t : Turn) (all : List Action) (a : Action) → IsMarked start p x t.replica.held all → a.id.index ≡ suc (count_behind x a.id.creator) → (a.id.creator ≡ p → ⊥) →
      IsMarked start p (hears_from x from (ActionMsg a)) (mark_yellow t a).replica.held all
  unfolding mark_yellow
  mark t all a is next other =
      let h = t.replica.held in
      let first : a.id.index ≡ suc (index_in h.queue.red_cut a.id.creator) = next ∙ ap suc (sym (is.counts a.id.creator)) in
      let made = made-so h a (λ mine. absurd (other (mine ∙ is.id))) in
      let behind : (mark_yellow t a).replica.held ≡ with_yellow_mark start h all is.oneself is.yellow a =
      ap (λ b. (cond b t (marked t a (marked_yellow h.queue a))).replica.held) made
      ∙ ap (λ m. (marked t a m).replica.held) (yellow-placed start h all is.oneself is.yellow a first) in
      subst (λ (h : Held). IsMarked start p (hears_from x from (ActionMsg a)) h all) (sym behind) (record {
        oneself = yellow-oneself start h all is.oneself is.yellow a first;
        yellow = cut_behind-append h.queue.green_cut h.queue.yellow (a.id ∷ []) ∙ ap (λ c. raise c a.id) is.yellow;
        names = ap (λ ids. ids ++ a.id ∷ []) is.names ∙ sym (map-append (λ (b : Action). b.id) x.acts (a ∷ []));
        counts = λ q. raised-next h.queue.red_cut a (rising-red start h all is.oneself) first q ∙ ap (λ n. n + one_of a q) (is.counts q) ∙ sym (counted-next x a q);
        id = is.id;
      })

module _ (start : List Weighted) (k p : ℕ) (old : Held) (before : List Action) (oneself : IsOneself start old before) (mine : old.id ≡ p) (set : List ℕ) (x : Talk) (from : ℕ)
    (ended : is_ended set x ≡ true) (decided : decides x.heard ≡ true) (attempt : attempt_set old ≡ remaining x.heard)
    (known : (creator : ℕ) → index_in old.queue.red_cut creator ≡ known_up_to x.heard creator) where
  -- an action here is the next of its creator, another one
  abbrev IsNext : Msg → Type 0
  IsNext m = (a : Action) → m ≡ ActionMsg a → (a.id.index ≡ suc (count_behind x a.id.creator)) × (a.id.creator ≡ p → ⊥)

  no-message : (m : Msg) → may_say set k x from m ≡ true → (t : Turn) → all_announced x ≡ false → x.acts ≡ [] → t.replica.state ≡ No k x.announced → t.replica.held ≡ old →
      InRow start k p old (hears_from x from m) (on_message (No k x.announced) from m t).replica
  unfolding on_message
  no-message (ActionMsg a) may t few none state held =
      let told = (and_parts ((a.id.creator == from) && may_go_on set x from) (not (decides x.heard) || all_announced x) may).1 in
      absurd (let clash : true ≡ false = sym told ∙ ap₂ (λ a b. not a || b) decided few in cc)
  no-message (StateMsg s) may t few none state held = Waits (ap (λ l. is_within (remaining l) x.announced) (heard-ended set k x from (StateMsg s) may ended) ∙ few) none state held
  no-message (GreenItem at a) may t few none state held = Waits few none state held
  no-message (RedItem a) may t few none state held = Waits few none state held
  no-message (Cpc id at) may t few none state held =
      let more = with_member x.announced from in
      let one = and_parts ((((id == from) && (at == k)) && may_go_on set x from) && decides x.heard) (not (has x.announced from)) may in
      let two = and_parts (((id == from) && (at == k)) && may_go_on set x from) (decides x.heard) one.0 in
      let three = and_parts ((id == from) && (at == k)) (may_go_on set x from) two.0 in
      let stays = (and_parts (is_ended set x) (has (remaining x.heard) from) three.1).1 in
      let counts : is_announced t.replica.held k from id at ≡ true =
      and_from ((id == from) && (at == k)) (has (attempt_set t.replica.held) from) three.0 (ap (λ h. has (attempt_set h) from) held ∙ ap (λ l. has l from) attempt ∙ stays) in
      subst (λ (u : Turn). InRow start k p old (hears_from x from (Cpc id at)) u.replica) (sym (cond-true (is_announced t.replica.held k from id at) (no_with t k more) t counts))
      (cond_both (is_within (attempt_set t.replica.held) more) (go_to t Un) (go_to t (No k more)) (λ u. InRow start k p old (hears_from x from (Cpc id at)) u.replica)
      (λ y. Knows none refl held)
      (λ n. Waits (ap (λ l. is_within l more) (sym attempt ∙ ap attempt_set (sym held)) ∙ n) none refl held))

  un-message : (m : Msg) → IsNext m → (t : Turn) → x.acts ≡ [] → t.replica.state ≡ Un → t.replica.held ≡ old → InRow start k p old (hears_from x from m) (on_message Un from m t).replica
  unfolding on_message
  un-message (ActionMsg a) next t none state held =
      let own : IsOneself start t.replica.held before = subst (λ (h : Held). IsOneself start h before) (sym held) oneself in
      let done = installed-all start before t own in
      let here = next a refl in
      Marked refl (before ++ installed_by t.replica.held) (mark start p x from (install t) (before ++ installed_by t.replica.held) a (record {
        oneself = done.is;
        yellow = installed-yellow start before t own;
        names = no-yellow t ∙ sym (ap names_of none);
        counts = λ q. (let e : length (of_creator q x.acts) ≡ 0 = ap (λ xs. length (of_creator q xs)) none in
            let f : count_behind x q ≡ known_up_to x.heard q = omega (arith, e) in
            ap (λ cut. index_in cut q) (done.red_cut ∙ ap (λ (h : Held). h.queue.red_cut) held) ∙ known q ∙ sym f);
        id = (installs-to t TransPrim (ap is_attempting state) refl).id ∙ ap (λ (h : Held). h.id) held ∙ mine;
      }) here.0 here.1)
  un-message (StateMsg s) next t none state held = Knows none state held
  un-message (GreenItem at a) next t none state held = Knows none state held
  un-message (RedItem a) next t none state held = Knows none state held
  un-message (Cpc id at) next t none state held = Knows none state held

  -- a message without an action
  still-marked : (m : Msg) → may_say set k x from m ≡ true → act_in m ≡ None → (hears_from x from m).acts ≡ x.acts → (h : Held) (all : List Action) → IsMarked start p x h all → IsMarked start p (hears_from x from m) h all
  still-marked m may none acts h all is = record {
    oneself = is.oneself;
    yellow = is.yellow;
    names = is.names ∙ ap names_of (sym acts);
    counts = λ q. is.counts q ∙ sym (count-quiet x from m none (heard-ended set k x from m may ended) q);
    id = is.id;
  }

  trans-message : (m : Msg) → may_say set k x from m ≡ true → IsNext m → (t : Turn) (all : List Action) → t.replica.state ≡ TransPrim → IsMarked start p x t.replica.held all →
      InRow start k p old (hears_from x from m) (on_message TransPrim from m t).replica
  unfolding on_message
  trans-message (ActionMsg a) may next t all state is = let here = next a refl in Marked ((even-mark_yellow t a).state ∙ state) all (mark start p x from t all a is here.0 here.1)
  trans-message (StateMsg s) may next t all state is = Marked state all (still-marked (StateMsg s) may refl refl t.replica.held all is)
  trans-message (GreenItem at a) may next t all state is = Marked state all (still-marked (GreenItem at a) may refl refl t.replica.held all is)
  trans-message (RedItem a) may next t all state is = Marked state all (still-marked (RedItem a) may refl refl t.replica.held all is)
  trans-message (Cpc id at) may next t all state is = Marked state all (still-marked (Cpc id at) may refl refl t.replica.held all is)

  -- one message
  pub row-message : (m : Msg) → may_say set k x from m ≡ true → IsNext m → (t : Turn) → InRow start k p old x t.replica → InRow start k p old (hears_from x from m) (on_message t.replica.state from m t).replica
  row-message m may next t (Waits few none state held) =
      subst (λ (s : State). InRow start k p old (hears_from x from m) (on_message s from m t).replica) (sym state) (no-message m may t few none state held)
  row-message m may next t (Knows none state held) =
      subst (λ (s : State). InRow start k p old (hears_from x from m) (on_message s from m t).replica) (sym state) (un-message m next t none state held)
  row-message m may next t (Marked state all marked) =
      subst (λ (s : State). InRow start k p old (hears_from x from m) (on_message s from m t).replica) (sym state) (trans-message m may next t all state marked)
