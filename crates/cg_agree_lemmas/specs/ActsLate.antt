-- Where a quorum was, no action is said before all that remain have announced the attempt.
use Rattle.std.proofs.Common.{◌≡◌, ℕ, true, false, not, ◌&&◌, ◌||◌, List, [], ◌∷◌, take, fold, refl, sym, ap₂, ◌∙◌, eqb, ⊎_elim}
use Rattle.std.specs.Prelude.{◌==◌}
use Rattle.std.proofs.lemmas.Bool.{cases_Bool, and_parts, false_from_ne_true, not-true, or_left}
use Rattle.cg_base.specs.Sets.{has, is_within, with_member}
use Rattle.cg_base.specs.SetLaws.{has-with_member}
use Rattle.cg_base.specs.MemberLaws.{list_all_in}
use Rattle.cg_action.specs.declared.action.Action.{Action}
use Rattle.cg_knowledge.specs.Summaries.{senders, remaining}
use Rattle.cg_knowledge.specs.Verdict.{decides}
use Rattle.cg_wire.specs.declared.message.Msg.{Msg}
use Rattle.cg_wire.specs.declared.message.Msg.TheVariants.{Action as ActionMsg, State as StateMsg, GreenItem, RedItem, Cpc}
use Rattle.cg_group.specs.State.{Sent, delivered_to}
use Rattle.cg_client.specs.Replica.{Construct}
use Rattle.cg_model.specs.Chronicle.{Chronicle}
use Rattle.cg_model.specs.Looks.{members_in, ordered_in}
use Rattle.cg_model.specs.Talk.{Talk, no_talk, hears_from, hears, is_full, is_through, is_ended, is_announced, may_go_on, may_say, is_legal, state_in}
use Rattle.cg_model.specs.FactsTalk.{TalkLegal, handed_talk}
use Rattle.cg_agree_lemmas.specs.ActsSaid.{handed-parts}
use Rattle.cg_agree_lemmas.specs.ReachFacts.{all-at}
use Rattle.cg_agree_lemmas.specs.StatesSaid.{announcing}
use Rattle.cg_agree_lemmas.specs.TalkEarly.{IsEarly, early-hears, early-none, not_full}

abbrev pub IsLate : List ℕ → Talk → Type 0
IsLate set t = is_ended set t ≡ true → decides t.heard ≡ true → is_announced t ≡ false → t.acts ≡ []

-- what may be said next keeps it so
late-hears : (set : List ℕ) (conf : ℕ) (t : Talk) (from : ℕ) (m : Msg) → IsEarly set t → IsLate set t → may_say set conf t from m ≡ true → IsLate set (hears_from t from m)
late-hears set conf t from m early late may = λ ended decided few. ⊎_elim
    (λ (was : is_ended set t ≡ true). by m may ended decided few was)
    (λ (yet : is_ended set t ≡ false). before m may yet)
    (cases_Bool (is_ended set t)) where
      act-on : (a : Action) → may_say set conf t from (ActionMsg a) ≡ true → (is_ended set t ≡ true) × ((not (decides t.heard) || is_announced t) ≡ true)
      act-on a may =
          let outer = and_parts ((a.id.creator == from) && may_go_on set t from) (not (decides t.heard) || is_announced t) may in
          ((and_parts (is_ended set t) (has (remaining t.heard) from) (and_parts (a.id.creator == from) (may_go_on set t from) outer.0).1).0, outer.1)

      before : (m : Msg) → may_say set conf t from m ≡ true → is_ended set t ≡ false → (hears_from t from m).acts ≡ []
      before (StateMsg s) may yet = (early.quiet yet).1
      before (GreenItem at a) may yet = (early.quiet yet).1
      before (RedItem a) may yet = (early.quiet yet).1
      before (Cpc id at) may yet = (early.quiet yet).1
      before (ActionMsg a) may yet = absurd (let clash : true ≡ false = sym (act-on a may).0 ∙ yet in cc)

      fewer : is_within (remaining t.heard) (with_member t.announced from) ≡ false → is_within (remaining t.heard) t.announced ≡ false
      fewer few = false_from_ne_true (is_within (remaining t.heard) t.announced) (λ all.
          (let more : is_within (remaining t.heard) (with_member t.announced from) ≡ true = list_all_in (has (with_member t.announced from)) (remaining t.heard)
          (λ q is. has-with_member t.announced from q ∙ or_left (has t.announced q) (eqb from q) (all-at (has t.announced) (remaining t.heard) q all is)) in
          let clash : true ≡ false = sym more ∙ few in cc))

      by : (m : Msg) → may_say set conf t from m ≡ true → is_ended set (hears_from t from m) ≡ true → decides (hears_from t from m).heard ≡ true → is_announced (hears_from t from m) ≡ false →
          is_ended set t ≡ true → (hears_from t from m).acts ≡ []
      by (StateMsg s) may ended decided few was =
          let outer = and_parts ((has set from && (s.id == from)) && (s.conf == conf)) (not (has (senders t.heard) from)) may in
          let member = (and_parts (has set from) (s.id == from) (and_parts (has set from && (s.id == from)) (s.conf == conf) outer.0).0).0 in
          let partly = not_full set t from member (not-true (has (senders t.heard) from) outer.1) in
          absurd (let clash : true ≡ false = sym (and_parts (is_full set t) (is_through t) was).0 ∙ partly in cc)
      by (GreenItem at a) may ended decided few was = late was decided few
      by (RedItem a) may ended decided few was = late was decided few
      by (Cpc id at) may ended decided few was = late was decided (fewer few)
      by (ActionMsg a) may ended decided few was = absurd (let clash : true ≡ false = sym (act-on a may).1 ∙ ap₂ (λ x y. not x || y) decided few in cc)

late-legal : (set : List ℕ) (conf : ℕ) (list : List (Sent Msg)) (t : Talk) → IsEarly set t → IsLate set t → is_legal set conf t list ≡ true → IsLate set (fold hears t list)
late-legal set conf [] t early late legal = late
late-legal set conf (s ∷ list) t early late legal =
    let parts = and_parts (may_say set conf t s.from s.message) (is_legal set conf (hears t s) list) legal in
    late-legal set conf list (hears t s) (early-hears set conf t s.from early s.message parts.0) (late-hears set conf t s.from s.message early late parts.0) parts.1

-- to a member that waits for announcements no action was handed
pub none-handed : (c : Chronicle) (conf p at : ℕ) (heard : List ℕ) → TalkLegal c → state_in (members_in c conf) conf (handed_talk c conf p) p ≡ Construct at heard → (handed_talk c conf p).acts ≡ []
none-handed c conf p at heard legal state =
    let set = members_in c conf in
    let is = announcing set conf (handed_talk c conf p) p at heard state in
    late-legal set conf (take (delivered_to c.world.group p) (ordered_in c conf)) no_talk (early-none set) (λ a b d. refl) (handed-parts c conf legal p).0 is.ended is.decided is.few
