-- One replica's turn keeps what is in messages and how actions are numbered, where it keeps them of that replica.
use Rattle.std.proofs.Common.{◌≡◌, ℕ, true, false, List, [], ◌++◌, Option, Some, None, IfSome, filter_map, refl, sym, ap, ap₂, ◌∙◌, ⊎_elim, eqb-true, eq-eqb, subst, if◌then◌else◌}
use Rattle.std.specs.Prelude.{◌==◌}
use Rattle.std.proofs.lemmas.Bool.{cases_Bool, cond-true, cond-false, false_from_ne_true}
use Rattle.cg_base.specs.Sets.{has}
use Rattle.cg_knowledge.specs.Summaries.{remaining}
use Rattle.cg_wire.specs.declared.message.Msg.{Msg}
use Rattle.cg_group.specs.State.{phase_of, unordered_of}
use Rattle.cg_client.specs.Replica.{Replica}
use Rattle.cg_model.specs.World.{replica_of}
use Rattle.cg_model.specs.Chronicle.{Told, Chronicle}
use Rattle.cg_model.specs.Looks.{told_in, is_regular_in, members_in, placed_of, said_in}
use Rattle.cg_model.specs.Talk.{Talk, act_in, is_ended, known_up_to}
use Rattle.cg_model.specs.FactsTalk.{whole_talk, AreContents, Content, AreNumbered, AreNumberedAt, ActsNumbered}
use Rattle.cg_agree_lemmas.specs.NumbersSame.{numbered-at, numbered-itself, contents-both, AreInRow}
use Rattle.cg_agree_lemmas.specs.TalkKept.{Turns, FitsAt, members-same, ordered-same, regular-same, whole-same, one-conf, said-other, said-own, handed-other}

module _ (c d : Chronicle) (p conf n : ℕ) (sent : List Msg) (r : Replica) (turn : Turns c d p n sent r) (fits : FitsAt c p conf n sent r) where
  whole-turn : (k : ℕ) → whole_talk d k ≡ whole_talk c k
  whole-turn k = whole-same c d p conf n sent r turn fits k

  said-away : (k : ℕ) → (conf == k) ≡ false → said_in d k p ≡ said_in c k p
  said-away k away =
      let out : is_regular_in c k p ≡ false = false_from_ne_true (is_regular_in c k p) (λ y. absurd (let clash : false ≡ true = sym away ∙ eq-eqb conf k (one-conf c d p conf n sent r turn fits k y) in cc)) in
      ap₂ (λ xs ys. placed_of p xs ++ ys) (ordered-same c d p conf n sent r turn fits k)
      (ap (λ b. if b then unordered_of d.world.group p else []) (regular-same c d p conf n sent r turn fits k p ∙ out) ∙ sym (ap (λ b. if b then unordered_of c.world.group p else []) out))

  by-both : (R : ℕ → ℕ → Type 0) → R conf p → ((k : ℕ) → (conf == k) ≡ false → R k p) → ((k q : ℕ) → (q == p) ≡ false → R k q) → (k q : ℕ) → R k q
  by-both R here away other k q = ⊎_elim
      (λ y. subst (R k) (sym (eqb-true q p y)) (⊎_elim (λ same. subst (λ x. R x p) (eqb-true conf k same) here) (λ differs. away k differs) (cases_Bool (conf == k))))
      (λ n. other k q n) (cases_Bool (q == p))

  -- ---- contents

  as-before : (k q : ℕ) → said_in d k q ≡ said_in c k q → (o : Option Told) → IfSome o (λ t. AreContents t.greens (said_in c k q)) → IfSome o (λ t. AreContents t.greens (said_in d k q))
  as-before k q same None are = tt
  as-before k q same (Some t) are = subst (AreContents t.greens) (sym same) are

  and-more : (o : Option Told) → IfSome o (λ t. AreContents t.greens sent) → IfSome o (λ t. AreContents t.greens (said_in c conf p)) → IfSome o (λ t. AreContents t.greens (said_in d conf p))
  and-more None new are = tt
  and-more (Some t) new are = subst (AreContents t.greens) (sym (said-own c d p conf n sent r turn fits)) (contents-both t.greens (said_in c conf p) sent are new)

  pub content-turn : IfSome (told_in c conf p) (λ t. AreContents t.greens sent) → Content c → Content d
  content-turn new old = by-both (λ k q. IfSome (told_in d k q) (λ t. AreContents t.greens (said_in d k q)))
      (subst (λ o. IfSome o (λ t. AreContents t.greens (said_in d conf p))) (sym (turn.told conf p)) (and-more (told_in c conf p) new (old conf p)))
      (λ k away. subst (λ o. IfSome o (λ t. AreContents t.greens (said_in d k p))) (sym (turn.told k p)) (as-before k p (said-away k away) (told_in c k p) (old k p)))
      (λ k q other. subst (λ o. IfSome o (λ t. AreContents t.greens (said_in d k q))) (sym (turn.told k q)) (as-before k q (said-other c d p conf n sent r turn fits k q other) (told_in c k q) (old k q)))

  -- ---- numbers

  row-as : ActsNumbered c → (k q : ℕ) → said_in d k q ≡ said_in c k q → is_ended (members_in d k) (whole_talk d k) ≡ true → has (remaining (whole_talk d k).heard) q ≡ true →
      AreInRow (known_up_to (whole_talk d k).heard q) (filter_map act_in (said_in d k q))
  row-as old k q same ended stays =
      subst (λ (t : Talk). AreInRow (known_up_to t.heard q) (filter_map act_in (said_in d k q))) (sym (whole-turn k))
      (subst (λ xs. AreInRow (known_up_to (whole_talk c k).heard q) (filter_map act_in xs)) (sym same)
      (old.said k q (ap₂ is_ended (sym (members-same c d p conf n sent r turn fits k)) (sym (whole-turn k)) ∙ ended) (ap (λ (t : Talk). has (remaining t.heard) q) (sym (whole-turn k)) ∙ stays)))

  -- the actions of the replica go on in their row
  abbrev pub RowGoesOn : Type 0
  RowGoesOn = is_ended (members_in c conf) (whole_talk c conf) ≡ true → has (remaining (whole_talk c conf).heard) p ≡ true →
      AreInRow (known_up_to (whole_talk c conf).heard p) (filter_map act_in (said_in c conf p ++ sent))

  pub acts-turn : RowGoesOn → AreNumbered d conf p r.held r.state → ActsNumbered c → ActsNumbered d
  acts-turn row own old = record {
    said = by-both (λ k q. is_ended (members_in d k) (whole_talk d k) ≡ true → has (remaining (whole_talk d k).heard) q ≡ true → AreInRow (known_up_to (whole_talk d k).heard q) (filter_map act_in (said_in d k q)))
        (λ ended stays. subst (λ (t : Talk). AreInRow (known_up_to t.heard p) (filter_map act_in (said_in d conf p))) (sym (whole-turn conf))
        (subst (λ xs. AreInRow (known_up_to (whole_talk c conf).heard p) (filter_map act_in xs)) (sym (said-own c d p conf n sent r turn fits))
        (row (ap₂ is_ended (sym (members-same c d p conf n sent r turn fits conf)) (sym (whole-turn conf)) ∙ ended) (ap (λ (t : Talk). has (remaining t.heard) p) (sym (whole-turn conf)) ∙ stays))))
        (λ k away. row-as old k p (said-away k away))
        (λ k q other. row-as old k q (said-other c d p conf n sent r turn fits k q other));
    handed = λ q. ⊎_elim
        (λ y. subst (λ x. IfSome (replica_of d.world x) (AreNumberedAt d x (phase_of d.world.group x))) (sym (eqb-true q p y))
        (subst (λ o. IfSome o (AreNumberedAt d p (phase_of d.world.group p))) (sym (turn.replica p ∙ cond-true (p == p) (Some r) (replica_of c.world p) (eq-eqb p p refl)))
        (subst (λ x. AreNumberedAt d p x r) (sym (turn.phase p ∙ fits.regular)) own)))
        (λ other. subst (λ x. IfSome (replica_of d.world q) (AreNumberedAt d q x)) (sym (turn.phase q))
        (subst (λ o. IfSome o (AreNumberedAt d q (phase_of c.world.group q))) (sym (turn.replica q ∙ cond-false (q == p) (Some r) (replica_of c.world q) other))
        (numbered-at c d q (phase_of c.world.group q) (λ k is. (handed-other c d p conf n sent r turn fits k q other, said-other c d p conf n sent r turn fits k q other))
        (replica_of c.world q) (replica_of c.world q) (numbered-itself (replica_of c.world q)) (old.handed q))))
        (cases_Bool (q == p));
  }
