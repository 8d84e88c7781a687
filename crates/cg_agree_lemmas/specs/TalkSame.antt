-- A step that says nothing and hands nothing keeps all facts about what is said, where states and numbers are the same.
use Rattle.std.proofs.Common.{◌≡◌, ℕ, true, [], ◌++◌, Option, Some, None, IfSome, filter_map, take, sym, ap, ap₂, subst, ◌∙◌, if◌then◌else◌}
use Rattle.cg_base.specs.Sets.{has}
use Rattle.cg_knowledge.specs.Summaries.{remaining}
use Rattle.cg_group.specs.State.{phase_of}
use Rattle.cg_model.specs.World.{replica_of}
use Rattle.cg_model.specs.Chronicle.{Told, Chronicle}
use Rattle.cg_model.specs.Looks.{told_in, is_regular_at, members_in, placed_of, said_in}
use Rattle.cg_model.specs.Talk.{Talk, talk_of, act_in, is_ended, known_up_to}
use Rattle.cg_model.specs.FactsTalk.{whole_talk, handed_talk, AreContents, Content, AreNumberedAt, ActsNumbered, TalkFacts}
use Rattle.cg_agree_lemmas.specs.HandsTalk.{SaidFacts}
use Rattle.cg_agree_lemmas.specs.NumbersSame.{IsNumberedAs, numbered-at, AreInRow}
use Rattle.cg_agree_lemmas.specs.TalkFrame.{SameTalk, same-said}

pub said-of : (c : Chronicle) → TalkFacts c → SaidFacts c
said-of c t = record { legal = t.talk_legal; says = t.sent_iff_due; told = t.heard_is_told; modes = t.mode_fits }

-- with what is in messages and how actions are numbered they are all
pub talk-from : (c : Chronicle) → SaidFacts c → Content c → ActsNumbered c → TalkFacts c
talk-from c said content acts = record {
  talk_legal = said.legal;
  sent_iff_due = said.says;
  heard_is_told = said.told;
  mode_fits = said.modes;
  content = content;
  acts_numbered = acts;
}

module _ (c d : Chronicle) (same : SameTalk c d) where
  pub said-alike : (k q : ℕ) → said_in d k q ≡ said_in c k q
  said-alike k q = ap₂ (λ xs ys. placed_of q xs ++ ys) (same.ordered k)
      (ap₂ (λ b xs. if b then xs else []) (ap (is_regular_at k) (same.phase q)) (same.waits q))

  handed-alike : (k q : ℕ) → handed_talk d k q ≡ handed_talk c k q
  handed-alike k q = ap₂ (λ n xs. talk_of (take n xs)) (same.delivered q) (same.ordered k)

  whole-alike : (k : ℕ) → whole_talk d k ≡ whole_talk c k
  whole-alike k = ap talk_of (same.ordered k)

  pub content-same : Content c → Content d
  content-same old k q = subst (λ o. IfSome o (λ t. AreContents t.greens (said_in d k q))) (sym (same.told k q)) (at (told_in c k q) (old k q)) where
    at : (o : Option Told) → IfSome o (λ t. AreContents t.greens (said_in c k q)) → IfSome o (λ t. AreContents t.greens (said_in d k q))
    at None are = tt
    at (Some t) are = subst (AreContents t.greens) (sym (said-alike k q)) are

  pub acts-same : ((q : ℕ) → IsNumberedAs (replica_of c.world q) (replica_of d.world q)) → ActsNumbered c → ActsNumbered d
  acts-same numbers old = record {
    said = λ k q ended stays.
        let ended' : is_ended (members_in c k) (whole_talk c k) ≡ true = ap₂ is_ended (sym (same.members k)) (sym (whole-alike k)) ∙ ended in
        let stays' : has (remaining (whole_talk c k).heard) q ≡ true = ap (λ (t : Talk). has (remaining t.heard) q) (sym (whole-alike k)) ∙ stays in
        subst (λ (t : Talk). AreInRow (known_up_to t.heard q) (filter_map act_in (said_in d k q))) (sym (whole-alike k))
        (subst (λ xs. AreInRow (known_up_to (whole_talk c k).heard q) (filter_map act_in xs)) (sym (said-alike k q)) (old.said k q ended' stays'));
    handed = λ q. subst (λ x. IfSome (replica_of d.world q) (AreNumberedAt d q x)) (sym (same.phase q))
        (numbered-at c d q (phase_of c.world.group q) (λ k is. (handed-alike k q, said-alike k q)) (replica_of c.world q) (replica_of d.world q) (numbers q) (old.handed q));
  }

  pub talk-same : ((q : ℕ) → IsNumberedAs (replica_of c.world q) (replica_of d.world q)) → TalkFacts c → TalkFacts d
  talk-same numbers old =
      talk-from d (same-said c d same (said-of c old)) (content-same old.content) (acts-same numbers old.acts_numbered)
