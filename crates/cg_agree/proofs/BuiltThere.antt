-- A member that begins an attempt at the end of its plan: it has the most updated member's greens, knows all that some member knew, and
-- has the common yellow list.
use Rattle.std.proofs.Common.{◌≡◌, ℕ, suc, true, false, List, [], Option, Some, None, IfSome, refl, sym, ap, ◌∙◌, subst, eqb-true}
use Rattle.std.specs.Prelude.{option_and_then}
use Rattle.std.specs.Option.{option_map_or}
use Rattle.std.proofs.lemmas.Bool.{and_parts, false_from_ne_true}
use Rattle.cg_base.specs.Cuts.{index_in}
use Rattle.cg_base.specs.Sets.{has}
use Rattle.cg_queue.specs.Queue.{names_of}
use Rattle.cg_knowledge.specs.declared.summary.Summary.{Summary}
use Rattle.cg_knowledge.specs.Summaries.{gone, most_updated}
use Rattle.cg_knowledge.specs.Yellow.{common_yellow}
use Rattle.cg_client.specs.Replica.{State, Construct, Replica, yellow_of}
use Rattle.cg_model.specs.Chronicle.{Told, Chronicle}
use Rattle.cg_model.specs.Fronts.{IsSomeWith}
use Rattle.cg_model.specs.Looks.{greens_of, told_in, is_regular_at, members_in}
use Rattle.cg_model.specs.Talk.{Talk, hears_from, is_full, is_through, is_ended, known_up_to}
use Rattle.cg_model.specs.Facts.{Invariant}
use Rattle.cg_model.specs.FactsReplica.{IsCore, is_exchanging}
use Rattle.cg_model.specs.FactsTalk.{handed_talk, whole_talk}
use Rattle.cg_model.specs.FactsExchange.{best_told}
use Rattle.cg_model.specs.Small.{Hands, small_step}
use Rattle.cg_model.specs.Smalls.{may_make}
use Rattle.cg_agree.proofs.AnswersOwn.{knows-at-end}
use Rattle.cg_agree.proofs.ClearedDead.{IsToldIn, each-told}
use Rattle.cg_agree.proofs.CoreKept.{cores_core-kept}
use Rattle.cg_agree.proofs.EndReached.{best-of}
use Rattle.cg_agree.proofs.ExchangeBehind.{message-now, up-now, told-now, handed-now}
use Rattle.cg_agree_lemmas.specs.ExchangeHands.{HasBuilt}
use Rattle.cg_agree.proofs.ExchangeKept.{exchanged, out-there, through-state}
use Rattle.cg_agree_lemmas.specs.HandsNow.{HandsNow, new, behind, behind-next, count, hand-state, running-now, whole-through}
use Rattle.cg_agree_lemmas.specs.HeldMarks.{IsOneself}
use Rattle.cg_agree_lemmas.specs.PlanEnd.{AtPlanEnd, is_behind, behind-ended}
use Rattle.cg_agree.proofs.PlanThere.{end-fits}
use Rattle.cg_agree.proofs.ToldBeside.{told-id, told-fits}
use Rattle.cg_agree_lemmas.specs.TurnKinds.{HasAttempted}
use Rattle.cg_disk_records.specs.Holds.{cut_behind}

module _ (c : Chronicle) (p : ℕ) (i : Invariant c) (may : may_make c (Hands p) ≡ true) (n : HandsNow c p) (is : is_exchanging n.replica.state ≡ true) (conf : ℕ) (heard : List Summary)
    (end : AtPlanEnd c p n.replica conf heard) (begun : HasAttempted conf heard n.replica (new c p i n)) where
  abbrev d : Chronicle
  d = small_step c (Hands p)

  abbrev members : List ℕ
  members = members_in c n.conf

  abbrev before : Talk
  before = handed_talk c n.conf p

  -- its configuration is that of the plan
  pub conf-is : n.conf ≡ conf
  conf-is = eqb-true n.conf conf (sym (ap (is_regular_at conf) n.regular) ∙ end.regular)

  -- the plan is through with the message, and it wasn't before
  ended-now : is_ended members (behind c p i n) ≡ true
  ended-now = behind-ended members n.conf (behind c p i n) p (ap is_behind (sym (hand-state c p i n) ∙ begun.state))

  heard-behind : (behind c p i n).heard ≡ heard
  heard-behind = sym (whole-through c n.conf p (suc (count c p i n)) i.talk.talk_legal ended-now).heard ∙ ap (λ k. (whole_talk c k).heard) conf-is ∙ end.whole

  yet : is_ended members before ≡ false
  yet = false_from_ne_true (is_ended members before) (λ ended.
      let parts = and_parts (is_full members before) (is_through before) ended in
      let clash : true ≡ false = sym is ∙ ap is_exchanging (through-state c p i may n parts.0 parts.1) ∙ out-there c p i may n in cc)

  name : (new c p i n).held.id ≡ p
  name = begun.id ∙ n.data_of.id

  -- what it has built
  built-now : IsSomeWith (best_told d conf heard) (λ best. (greens_of d p ≡ best.greens) × (yellow_of (new c p i n).held ≡ common_yellow heard))
  built-now =
      let built : HasBuilt d n.conf (new c p i n).held (greens_of d p) (Construct conf []) =
      subst (λ (s : State). HasBuilt d n.conf (new c p i n).held (greens_of d p) s) begun.state (exchanged c p i may n is).1 in
      let same : (handed_talk d n.conf (new c p i n).held.id).heard ≡ heard = ap (λ q. (handed_talk d n.conf q).heard) name ∙ ap (λ (t : Talk). t.heard) (handed-now c p i may n) ∙ heard-behind in
      subst (λ k. IsSomeWith (best_told d k heard) (λ best. (greens_of d p ≡ best.greens) × (yellow_of (new c p i n).held ≡ common_yellow heard))) conf-is
      (subst (λ (l : List Summary). IsSomeWith (best_told d n.conf l) (λ best. (greens_of d p ≡ best.greens) × (yellow_of (new c p i n).held ≡ common_yellow l))) same built)

  -- it knows all that some member knew
  red-now : (q : ℕ) → index_in (new c p i n).held.queue.red_cut q ≡ known_up_to heard q
  red-now q =
      let next : behind c p i n ≡ hears_from before n.next.from n.next.message = behind-next c p i n in
      let whole : (hears_from before n.next.from n.next.message).heard ≡ heard = ap (λ (t : Talk). t.heard) (sym next) ∙ heard-behind in
      let here : has (gone (hears_from before n.next.from n.next.message).heard) p ≡ false = ap (λ l. has (gone l) p) whole ∙ ap (has (gone heard)) (sym n.data_of.id) ∙ begun.remains in
      ap (λ (x : Replica). index_in x.held.queue.red_cut q) (message-now c p i may n)
      ∙ knows-at-end c p i n.conf n.replica n.next n.regular (running-now c p i n) n.found yet (ap (is_ended members) (sym next) ∙ ended-now) here q
      ∙ ap (λ l. known_up_to l q) whole

  -- what the most updated member told is what was heard of it
  told-is : (b : Summary) → most_updated heard ≡ Some b → (best : Told) → told_in c conf b.id ≡ Some best → best.summary ≡ b
  told-is b most best there =
      let one = best-of (IsToldIn c conf) heard b most (each-told c conf heard end.each) in
      let same : best ≡ one.told = ap (λ (o : Option Told). option_map_or (λ x. x) o best) (sym there ∙ one.found) in
      ap (λ (t : Told). t.summary) same ∙ one.is

  -- its facts by itself
  oneself-now : IsOneself d.start (new c p i n).held (greens_of d p)
  oneself-now =
      let core : IsCore d (new c p i n).held (greens_of d p) =
      subst (λ (o : Option Replica). IfSome o (λ r. IsCore d r.held (greens_of d p))) (up-now c p i may n) ((cores_core-kept c (Hands p) i may (end-fits c p i)).memory p) in
      record { made_of = core.made_of; contiguous = core.contiguous; yellow_closed = core.yellow_closed }

  -- the most updated member, and what the member has of it
  pub record Built : Type 0 where
    pub best : Told
    pub most : most_updated heard ≡ Some best.summary
    pub found : told_in c conf best.summary.id ≡ Some best
    pub greens : greens_of d p ≡ best.greens
    pub yellow : yellow_of (new c p i n).held ≡ common_yellow heard
    pub cut : (new c p i n).held.queue.green_cut ≡ best.summary.green_cut
    pub red : (q : ℕ) → index_in (new c p i n).held.queue.red_cut q ≡ known_up_to heard q
    pub oneself : IsOneself d.start (new c p i n).held (greens_of d p)

  pub built : Built
  built = of_best (most_updated heard) refl built-now where
    of_told : (b : Summary) → most_updated heard ≡ Some b → (o : Option Told) → told_in d conf b.id ≡ o → IsSomeWith o (λ best. (greens_of d p ≡ best.greens) × (yellow_of (new c p i n).held ≡ common_yellow heard)) → Built
    of_told b most None e has_it = absurd has_it
    of_told b most (Some best) e has_it =
        let there : told_in c conf b.id ≡ Some best = sym (told-now c p i may n conf b.id) ∙ e in
        let id = told-id c i conf b.id best there in
        let fits = told-fits c i conf b.id best there in
        let oneself = oneself-now in
        record {
          best = best;
          most = most ∙ ap Some (sym (told-is b most best there));
          found = ap (told_in c conf) id ∙ there;
          greens = has_it.0;
          yellow = has_it.1;
          cut = oneself.made_of.green_cut ∙ ap (λ xs. cut_behind [] (names_of xs)) has_it.0 ∙ sym fits.green_cut;
          red = red-now;
          oneself = oneself;
        }

    of_best : (o : Option Summary) → most_updated heard ≡ o → IsSomeWith (option_and_then (λ s. told_in d conf s.id) o) (λ best. (greens_of d p ≡ best.greens) × (yellow_of (new c p i n).held ≡ common_yellow heard)) → Built
    of_best None most has_it = absurd has_it
    of_best (Some b) most has_it = of_told b most (told_in d conf b.id) refl has_it
