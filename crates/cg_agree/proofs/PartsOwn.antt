-- A member holds its own parts of a plan: where it is the most updated one it has discarded no more than all have, and of a creator
-- of which it knows the most it has no more green than the most updated member.
use Rattle.std.proofs.Common.{◌≡◌, ℕ, suc, ◌<◌, ◌≤◌, true, List, [], ◌∷◌, length, max, Option, Some, None, IfSome, refl, sym, ap, subst, ◌∙◌, arith}
use Rattle.std.specs.Prelude.{nat_lt, flat_map}
use Rattle.std.specs.Option.{option_map_or}
use Rattle.std.proofs.lemmas.Bool.{cond_both}
use Rattle.cg_base.specs.Cuts.{index_in}
use Rattle.cg_action.specs.declared.action.Action.{Action}
use Rattle.cg_knowledge.specs.declared.summary.Summary.{Summary}
use Rattle.cg_knowledge.specs.Summaries.{most_updated}
use Rattle.cg_members.specs.Servers.{members_of, was_ever}
use Rattle.cg_plan.specs.declared.parts.Part.{Part}
use Rattle.cg_plan.specs.declared.parts.Part.TheVariants.{Greens, Reds}
use Rattle.cg_plan.specs.declared.parts.SentPart.{SentPart}
use Rattle.cg_plan.specs.Plan.{green_part, red_part, reds_of, creators, farthest, least_greens, least_reds, plan_of}
use Rattle.cg_base.specs.Lists.{Each}
use Rattle.cg_base.specs.EachLaws.{Each-append, Each-weaker}
use Rattle.cg_client.specs.Replica.{Held}
use Rattle.cg_model.specs.Chronicle.{Told, Chronicle}
use Rattle.cg_model.specs.Looks.{told_in}
use Rattle.cg_model.specs.Facts.{Invariant}
use Rattle.cg_model.specs.FactsExchange.{HasReached}
use Rattle.cg_model.specs.FactsReplica.{IsLined, IsMadeOf}
use Rattle.cg_model.specs.FactsTalk.{AreTold}
use Rattle.cg_agree_lemmas.specs.EndCovers.{OfEach}
use Rattle.cg_agree.proofs.EndReached.{best-bounds}
use Rattle.cg_agree_lemmas.specs.EverServer.{was_ever-front}
use Rattle.cg_agree_lemmas.specs.HandsContent.{IsTold, best-told}
use Rattle.cg_agree_lemmas.specs.KnownBounds.{farther-of}
use Rattle.cg_agree_lemmas.specs.PartHeld.{HoldsPart}
use Rattle.cg_agree.proofs.ToldBeside.{told-of, told-fits, told-front, IsBest}
use Rattle.cg_agree_lemmas.specs.WhiteBelow.{IsWitnessed, white-least}

-- ---- whose each part is

-- a part is of the most updated member's greens above the least count, or of the reds of the one that knows the most
abbrev pub IsPartOf : Option Summary → (ℕ → Option Summary) → Option ℕ → ℕ → Part → Type 0
IsPartOf best holder low sender (Greens from to) = IfSome best (λ b. IfSome low (λ l. (sender ≡ b.id) × (from ≡ suc l) × (to ≡ b.green_count))) × (best ≡ None → ⊥) × (low ≡ None → ⊥)
IsPartOf best holder low sender (Reds creator from to) =
    IfSome best (λ b. IfSome (holder creator) (λ h. (sender ≡ h.id) × (index_in b.green_cut creator < from) × (to ≡ index_in h.red_cut creator))) × (best ≡ None → ⊥) × (holder creator ≡ None → ⊥)

module _ (o : Option Summary) (f : ℕ → Option Summary) (l : Option ℕ) where
  -- a part of a plan that these make
  abbrev IsOf : SentPart → Type 0
  IsOf turn = IsPartOf o f l turn.sender turn.part

  -- the part of greens is so
  green-of : (best : Option Summary) (low : Option ℕ) → o ≡ best → l ≡ low → Each IsOf (green_part best low)
  green-of None low e d = tt
  green-of (Some b) None e d = tt
  green-of (Some b) (Some low) e d =
      cond_both (nat_lt low b.green_count) (record { sender = b.id; part = Greens (suc low) b.green_count } ∷ []) [] (Each IsOf)
      (λ y. (
        (
          subst (λ x. IfSome x (λ b'. IfSome l (λ l'. (b.id ≡ b'.id) × (suc low ≡ suc l') × (b.green_count ≡ b'.green_count)))) (sym e)
              (subst (λ x. IfSome x (λ l'. (b.id ≡ b.id) × (suc low ≡ suc l') × (b.green_count ≡ b.green_count))) (sym d) (refl, refl, refl)),
          (λ none. (let clash : Some b ≡ None = sym e ∙ none in cc)),
          (λ none. (let clash : Some low ≡ None = sym d ∙ none in cc)),
        ),
        tt,
      ))
      (λ n. tt)

  -- a creator's part is so
  red-of : (creator : ℕ) (best holder : Option Summary) (low : Option ℕ) → o ≡ best → f creator ≡ holder → Each IsOf (red_part creator best holder low)
  red-of creator None holder low e d = tt
  red-of creator (Some b) None low e d = tt
  red-of creator (Some b) (Some h) None e d = tt
  red-of creator (Some b) (Some h) (Some low) e d =
      let from = max low (index_in b.green_cut creator) in
      let to = index_in h.red_cut creator in
      let above : index_in b.green_cut creator < suc from = omega arith in
      cond_both (nat_lt from to) (record { sender = h.id; part = Reds creator (suc from) to } ∷ []) [] (Each IsOf)
      (λ y. (
        (
          subst (λ x. IfSome x (λ b'. IfSome (f creator) (λ h'. (h.id ≡ h'.id) × (index_in b'.green_cut creator < suc from) × (to ≡ index_in h'.red_cut creator)))) (sym e)
              (subst (λ x. IfSome x (λ h'. (h.id ≡ h'.id) × (index_in b.green_cut creator < suc from) × (to ≡ index_in h'.red_cut creator))) (sym d) (refl, above, refl)),
          (λ none. (let clash : Some b ≡ None = sym e ∙ none in cc)),
          (λ none. (let clash : Some h ≡ None = sym d ∙ none in cc)),
        ),
        tt,
      ))
      (λ n. tt)

-- the parts of all creators are so
all-of : (heard : List Summary) (list : List ℕ) → Each (IsOf (most_updated heard) (farthest heard) (least_greens heard)) (flat_map (reds_of heard) list)
unfolding reds_of
all-of heard [] = tt
all-of heard (creator ∷ list) =
    Each-append (IsOf (most_updated heard) (farthest heard) (least_greens heard)) (reds_of heard creator) (flat_map (reds_of heard) list)
    (red-of (most_updated heard) (farthest heard) (least_greens heard) creator (most_updated heard) (farthest heard creator) (least_reds heard creator) refl refl) (all-of heard list)

-- each part of a plan is so
pub parts-of : (heard : List Summary) → Each (λ (turn : SentPart). IsPartOf (most_updated heard) (farthest heard) (least_greens heard) turn.sender turn.part) (plan_of heard)
unfolding plan_of
parts-of heard =
    Each-append (IsOf (most_updated heard) (farthest heard) (least_greens heard)) (green_part (most_updated heard) (least_greens heard)) (flat_map (reds_of heard) (creators heard))
    (green-of (most_updated heard) (farthest heard) (least_greens heard) (most_updated heard) (least_greens heard) refl refl) (all-of heard (creators heard))

-- ---- what a member holds

module _ (c : Chronicle) (i : Invariant c) (conf : ℕ) where
  -- each summary that was heard was told
  each-told : (heard : List Summary) → AreTold c conf heard → OfEach (IsTold c conf) heard
  each-told [] are = tt
  each-told (s ∷ heard) are = (are.0, each-told heard are.1)

  -- the member that knows the most of a creator told what was heard of it
  farthest-told : (heard : List Summary) (creator : ℕ) → AreTold c conf heard → IfSome (farthest heard creator) (IsTold c conf)
  unfolding farthest
  farthest-told heard creator are = farther-of (IsTold c conf) creator heard None tt (each-told heard are)

  -- who told a summary is who it is of
  same-told : (p : ℕ) (mine : Told) (s : Summary) → told_in c conf p ≡ Some mine → IsTold c conf s → p ≡ s.id → mine.summary ≡ s
  same-told p mine s found is id =
      let told = told-of c i conf s is in
      let same : Some mine ≡ Some told.0 = sym found ∙ ap (told_in c conf) id ∙ told.1 in
      ap (λ (o : Option Told). option_map_or (λ x. x.summary) o mine.summary) same ∙ told.2

  -- what the most updated member has discarded all that remain have
  pub white-held : (heard : List Summary) (b : IsBest c i conf heard) → AreTold c conf heard → (h : Held) → IsLined c h b.best.greens → IsMadeOf c.start h b.best.greens →
      IfSome (least_greens heard) (λ low. h.queue.white ≤ low)
  white-held heard b are h lined made =
      white-least c heard b.best h b.best.greens lined made refl b.most (told-fits c i conf b.best.summary.id b.best b.found).left (witnessed heard are (best-bounds heard b.best.summary b.most)) where
        witnessed : (list : List Summary) → AreTold c conf list → OfEach (λ s. s.green_count ≤ b.best.summary.green_count) list → Each (IsWitnessed c b.best) list
        witnessed [] are le = tt
        witnessed (s ∷ list) are le =
            let told = told-of c i conf s are.0 in
            let of = told.0 in
            let lines = subst (λ (o : Option Told). IfSome o (λ by. IfSome (told_in c conf s.id) (HasReached c.start by))) b.found (i.exchange.summary_lines conf b.best.summary.id s.id) in
            let was = subst (λ (o : Option Told). IfSome o (λ t. was_ever (members_of c.start t.greens) s.id ≡ true)) told.1 (i.net.members_begun.told conf s.id) in
            let below : of.summary.green_count ≤ b.best.summary.green_count = subst (λ (x : Summary). x.green_count ≤ b.best.summary.green_count) (sym told.2) le.0 in (
              record {
                of = of;
                is = told.2;
                reached = subst (λ (o : Option Told). IfSome o (HasReached c.start b.best)) told.1 lines;
                ever = was_ever-front c.start of.greens b.best.greens s.id (told-front c i conf s.id b.best.summary.id of b.best told.1 b.found below) was;
              },
              witnessed list are.1 le.1,
            )

  -- a member that goes on from what it told, where the most updated one has its greens
  pub record HoldsAll (p : ℕ) (heard : List Summary) (best mine : Told) (h : Held) (all : List Action) : Type 0 where
    pub white : p ≡ best.summary.id → IfSome (least_greens heard) (λ low. h.queue.white ≤ low)
    pub count : mine.summary.green_count ≤ length all
    pub green : (creator : ℕ) → index_in h.queue.green_cut creator ≤ index_in best.summary.green_cut creator
    pub red : (creator : ℕ) → index_in mine.summary.red_cut creator ≤ index_in h.queue.red_cut creator

  -- it holds each part of the plan that is its own
  pub parts-held : (p : ℕ) (heard : List Summary) (b : IsBest c i conf heard) (mine : Told) (h : Held) (all : List Action) → AreTold c conf heard → told_in c conf p ≡ Some mine →
      HoldsAll p heard b.best mine h all → Each (λ (turn : SentPart). turn.sender ≡ p → HoldsPart h all turn.part) (plan_of heard)
  parts-held p heard b mine h all are found holds =
      Each-weaker (λ (turn : SentPart). IsPartOf (most_updated heard) (farthest heard) (least_greens heard) turn.sender turn.part) (λ (turn : SentPart). turn.sender ≡ p → HoldsPart h all turn.part)
      (λ turn is own. one turn.sender turn.part is own) (plan_of heard) (parts-of heard)
    where
      told-best : IsTold c conf b.best.summary
      told-best = subst (λ (o : Option Summary). IfSome o (IsTold c conf)) b.most (best-told c conf heard are)

      one : (sender : ℕ) (part : Part) → IsPartOf (most_updated heard) (farthest heard) (least_greens heard) sender part → sender ≡ p → HoldsPart h all part
      one sender (Greens from to) is own = greens (least_greens heard) refl (subst (λ (o : Option Summary). IfSome o (λ b. IfSome (least_greens heard) (λ l. (sender ≡ b.id) × (from ≡ suc l) × (to ≡ b.green_count)))) b.most is.0) where
        greens : (o : Option ℕ) → least_greens heard ≡ o → IfSome o (λ l. (sender ≡ b.best.summary.id) × (from ≡ suc l) × (to ≡ b.best.summary.green_count)) → HoldsPart h all (Greens from to)
        greens None e parts = absurd (is.2 e)
        greens (Some l) e parts =
            let id : p ≡ b.best.summary.id = sym own ∙ parts.0 in
            let low = subst (λ (o : Option ℕ). IfSome o (λ low. h.queue.white ≤ low)) e (holds.white id) in
            let same = ap (λ (x : Summary). x.green_count) (same-told p mine b.best.summary found told-best id) in
            let most = holds.count in
            let from_is = parts.1 in
            let to_is = parts.2 in
            (omega arith, omega arith)
      one sender (Reds creator from to) is own =
          reds (farthest heard creator) refl (farthest-told heard creator are)
          (subst (λ (o : Option Summary). IfSome o (λ b. IfSome (farthest heard creator) (λ h. (sender ≡ h.id) × (index_in b.green_cut creator < from) × (to ≡ index_in h.red_cut creator)))) b.most is.0) where
            reds : (o : Option Summary) → farthest heard creator ≡ o → IfSome o (IsTold c conf) →
                IfSome o (λ x. (sender ≡ x.id) × (index_in b.best.summary.green_cut creator < from) × (to ≡ index_in x.red_cut creator)) → HoldsPart h all (Reds creator from to)
            reds None e told parts = absurd (is.2 e)
            reds (Some x) e told parts =
                let same = ap (λ (y : Summary). index_in y.red_cut creator) (same-told p mine x found told (sym own ∙ parts.0)) in
                let low = holds.green creator in
                let high = holds.red creator in
                let from_is = parts.1 in
                let to_is = parts.2 in
                (omega arith, omega arith)
