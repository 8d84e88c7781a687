-- A message that gets its place keeps what is in messages and how actions are numbered.
use Rattle.std.proofs.Common.{◌≡◌, ℕ, true, false, not, ◌&&◌, List, ◌∷◌, Option, Some, None, IfSome, map, filter_map, refl, sym, ap, ap₂, subst, ◌∙◌, ⊎_elim, eqb-true, eq-eqb}
use Rattle.std.specs.Prelude.{◌==◌}
use Rattle.std.proofs.lemmas.Bool.{cases_Bool, and_parts, not-true}
use Rattle.cg_base.specs.Sets.{has}
use Rattle.cg_knowledge.specs.Summaries.{senders, remaining}
use Rattle.cg_wire.specs.declared.message.Msg.{Msg}
use Rattle.cg_wire.specs.declared.message.Msg.TheVariants.{Action as ActionMsg, State as StateMsg, GreenItem, RedItem, Cpc}
use Rattle.cg_group.specs.State.{phase_of}
use Rattle.cg_group.specs.declared.phase.Phase.TheVariants.{Regular}
use Rattle.cg_model.specs.World.{replica_of}
use Rattle.cg_model.specs.Chronicle.{Told, Chronicle}
use Rattle.cg_model.specs.Looks.{told_in, is_regular_at, is_regular_in, members_in, sent_by, said_in}
use Rattle.cg_model.specs.Talk.{Talk, talk_of, hears_from, is_full, is_through, is_ended, may_say, is_legal, act_in, known_up_to}
use Rattle.cg_model.specs.FactsNet.{PhaseSound, ReceiptsInside}
use Rattle.cg_model.specs.FactsTalk.{whole_talk, AreContents, Content, AreNumberedAt, ActsNumbered, TalkLegal, SentIffDue, TalkFacts}
use Rattle.cg_model.specs.Small.{Orders, small_step}
use Rattle.cg_model.specs.Smalls.{may_make}
use Rattle.cg_agree_lemmas.specs.ActsSaid.{no-acts}
use Rattle.cg_agree_lemmas.specs.NextThere.{orders-now}
use Rattle.cg_agree_lemmas.specs.NumbersSame.{numbered-at, numbered-itself, AreInRow}
use Rattle.cg_agree_lemmas.specs.OrdersTalk.{Ordered, said-same, handed-same, whole-here, ordered-other, waited-own}
use Rattle.cg_agree_lemmas.specs.OrdersWorld.{ordered-step, step-is, behind}
use Rattle.cg_agree_lemmas.specs.SmallTalk.{orders-kept}
use Rattle.cg_agree_lemmas.specs.TalkEarly.{not_full}
use Rattle.cg_agree_lemmas.specs.TalkSame.{said-of, talk-from}

-- behind the end of the plan no summary is heard
pub heard-ended : (set : List ℕ) (conf : ℕ) (t : Talk) (from : ℕ) (m : Msg) → may_say set conf t from m ≡ true → is_ended set t ≡ true → (hears_from t from m).heard ≡ t.heard
heard-ended set conf t from (StateMsg s) may ended =
    let outer = and_parts ((has set from && (s.id == from)) && (s.conf == conf)) (not (has (senders t.heard) from)) may in
    let member = (and_parts (has set from) (s.id == from) (and_parts (has set from && (s.id == from)) (s.conf == conf) outer.0).0).0 in
    let partly = not_full set t from member (not-true (has (senders t.heard) from) outer.1) in
    absurd (let clash : true ≡ false = sym (and_parts (is_full set t) (is_through t) ended).0 ∙ partly in cc)
heard-ended set conf t from (GreenItem at a) may ended = refl
heard-ended set conf t from (RedItem a) may ended = refl
heard-ended set conf t from (Cpc id at) may ended = refl
heard-ended set conf t from (ActionMsg a) may ended = refl

module _ (c d : Chronicle) (p conf : ℕ) (m : Msg) (rest : List Msg) (step : Ordered c d p conf m rest) where
  said-here : (k q : ℕ) → said_in d k q ≡ said_in c k q
  said-here k q = said-same c d p conf m rest step k q

  content-ordered : Content c → Content d
  content-ordered old k q = subst (λ o. IfSome o (λ t. AreContents t.greens (said_in d k q))) (sym (step.told k q)) (at (told_in c k q) (old k q)) where
    at : (o : Option Told) → IfSome o (λ t. AreContents t.greens (said_in c k q)) → IfSome o (λ t. AreContents t.greens (said_in d k q))
    at None are = tt
    at (Some t) are = subst (AreContents t.greens) (sym (said-here k q)) are

  may : TalkLegal c → may_say (members_in c conf) conf (whole_talk c conf) p m ≡ true
  may legal =
      let all : is_legal (members_in c conf) conf (whole_talk c conf) (map (sent_by p) (m ∷ rest)) ≡ true =
      ap (λ xs. is_legal (members_in c conf) conf (whole_talk c conf) (map (sent_by p) xs)) (sym (waited-own c d p conf m rest step)) ∙ legal.waiting conf p in
      (and_parts (may_say (members_in c conf) conf (whole_talk c conf) p m) (is_legal (members_in c conf) conf (hears_from (whole_talk c conf) p m) (map (sent_by p) rest)) all).0

  row-here : TalkLegal c → SentIffDue c → ActsNumbered c → (q : ℕ) → has (remaining (whole_talk d conf).heard) q ≡ true →
      AreInRow (known_up_to (whole_talk d conf).heard q) (filter_map act_in (said_in d conf q))
  row-here legal says old q stays = subst (λ xs. AreInRow (known_up_to (whole_talk d conf).heard q) (filter_map act_in xs)) (sym (said-here conf q)) (⊎_elim
      (λ ended.
      let heard : (whole_talk d conf).heard ≡ (whole_talk c conf).heard =
      ap (λ (t : Talk). t.heard) (whole-here c d p conf m rest step) ∙ heard-ended (members_in c conf) conf (whole_talk c conf) p m (may legal) ended in
      subst (λ h. AreInRow (known_up_to h q) (filter_map act_in (said_in c conf q))) (sym heard) (old.said conf q ended (ap (λ h. has (remaining h) q) (sym heard) ∙ stays)))
      (λ early. subst (AreInRow (known_up_to (whole_talk d conf).heard q)) (sym (no-acts c conf legal says early q)) refl)
      (cases_Bool (is_ended (members_in c conf) (whole_talk c conf))))

  row-there : ActsNumbered c → (k q : ℕ) → (k == conf) ≡ false → is_ended (members_in d k) (whole_talk d k) ≡ true → has (remaining (whole_talk d k).heard) q ≡ true →
      AreInRow (known_up_to (whole_talk d k).heard q) (filter_map act_in (said_in d k q))
  row-there old k q other ended stays =
      let whole : whole_talk d k ≡ whole_talk c k = ap talk_of (ordered-other c d p conf m rest step k other) in
      subst (λ (t : Talk). AreInRow (known_up_to t.heard q) (filter_map act_in (said_in d k q))) (sym whole)
      (subst (λ xs. AreInRow (known_up_to (whole_talk c k).heard q) (filter_map act_in xs)) (sym (said-here k q))
      (old.said k q (ap₂ is_ended (sym (step.members k)) (sym whole) ∙ ended) (ap (λ (t : Talk). has (remaining t.heard) q) (sym whole) ∙ stays)))

  regular-there : (k q : ℕ) → phase_of c.world.group q ≡ Regular k → is_regular_in c k q ≡ true
  regular-there k q is = ap (is_regular_at k) is ∙ eq-eqb k k refl

  acts-ordered : TalkLegal c → SentIffDue c → ActsNumbered c → ActsNumbered d
  acts-ordered legal says old = record {
    said = λ k q ended stays. ⊎_elim
        (λ y. subst (λ x. AreInRow (known_up_to (whole_talk d x).heard q) (filter_map act_in (said_in d x q))) (sym (eqb-true k conf y))
        (row-here legal says old q (subst (λ x. has (remaining (whole_talk d x).heard) q ≡ true) (eqb-true k conf y) stays)))
        (λ n. row-there old k q n ended stays) (cases_Bool (k == conf));
    handed = λ q. subst (λ x. IfSome (replica_of d.world q) (AreNumberedAt d q x)) (sym (step.phase q))
        (subst (λ o. IfSome o (AreNumberedAt d q (phase_of c.world.group q))) (sym (step.replica q))
        (numbered-at c d q (phase_of c.world.group q) (λ k is. (handed-same c d p conf m rest step k q (regular-there k q is), said-here k q))
        (replica_of c.world q) (replica_of c.world q) (numbered-itself (replica_of c.world q)) (old.handed q)));
  }

pub talk-orders : (c : Chronicle) (p : ℕ) → PhaseSound c → ReceiptsInside c → may_make c (Orders p) ≡ true → TalkFacts c → TalkFacts (small_step c (Orders p))
talk-orders c p sound inside may old =
    let now = orders-now c p sound inside.places may in
    let step = ordered-step c p now.conf now.stands now.message now.rest now.at in
    let d = behind c p now.conf now.stands now.message now.rest now.at in
    let is = step-is c p now.conf now.stands now.message now.rest now.at in
    talk-from (small_step c (Orders p)) (orders-kept c p sound inside may (said-of c old))
    (subst Content (sym is) (content-ordered c d p now.conf now.message now.rest step old.content))
    (subst ActsNumbered (sym is) (acts-ordered c d p now.conf now.message now.rest step old.talk_legal old.sent_iff_due old.acts_numbered))
