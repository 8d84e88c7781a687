-- As a plan ends a member that remains has as many greens as each that was heard had: so the exchange's progress says behind the step.
use Rattle.std.proofs.Common.{◌≡◌, ℕ, suc, ◌≤◌, true, false, cond, ◌&&◌, List, [], ◌∷◌, ◌++◌, length, take, fold, Option, Some, None, IfSome, is_some, refl, sym, ap, ap₂, ◌∙◌, subst, inl, inr, arith, eq-eqb, eqb-true}
use Rattle.std.specs.Prelude.{◌==◌, nat_lt, option_and_then}
use Rattle.std.specs.Option.{option_map_or}
use Rattle.std.proofs.lemmas.Bool.{cases_Bool, cond-true, and_parts, cond_both, or_cases, or_left, ltb-true, ltb-false}
use Rattle.cg_base.specs.Sets.{has}
use Rattle.cg_action.specs.declared.action.Action.{Action}
use Rattle.cg_knowledge.specs.declared.summary.Summary.{Summary}
use Rattle.cg_knowledge.specs.Summaries.{senders, leads, leader, most_updated}
use Rattle.cg_group.specs.State.{phase_of, delivered_to}
use Rattle.cg_client.specs.Replica.{State, NonPrim, Replica}
use Rattle.cg_client.specs.Turn.{begin}
use Rattle.cg_model.specs.World.{Node, node_of, replica_of, running, Up}
use Rattle.cg_model.specs.Chronicle.{Told, Chronicle}
use Rattle.cg_model.specs.Looks.{greens_of, told_in, is_regular_at, is_regular_in, members_in, ordered_in}
use Rattle.cg_model.specs.Talk.{Talk, talk_of, is_full, is_through}
use Rattle.cg_model.specs.Fronts.{IsSomeWith}
use Rattle.cg_model.specs.FactsTalk.{handed_talk, whole_talk}
use Rattle.cg_model.specs.FactsExchange.{IsSummary, HasTakenOver, IsInExchange, best_told, ExchangeProgress}
use Rattle.cg_model.specs.FactsAttempts.{BitsWitness}
use Rattle.cg_model.specs.Facts.{Invariant}
use Rattle.cg_model.specs.Small.{Small, Starts, Makes, Enters, Orders, Receives, Hands, Leaves, Asks, Settles, Commits, Crashes, Recovers, Copies, Joins, newly_green, after_turn, handed_next, take_next, small_step}
use Rattle.cg_model.specs.Smalls.{may_make}
use Rattle.cg_agree_lemmas.specs.ChronicleFacts.{node_of-set}
use Rattle.cg_agree_lemmas.specs.EndCovers.{OfEach}
use Rattle.cg_agree_lemmas.specs.EndQuorum.{both-each}
use Rattle.cg_agree_lemmas.specs.Knowledge.{sender-told}
use Rattle.cg_agree_lemmas.specs.TalkEarly.{all-member}
use Rattle.cg_agree_lemmas.specs.CoresKept.{greens-turn}
use Rattle.cg_agree_lemmas.specs.OneSteps.{hands-step}
use Rattle.cg_agree_lemmas.specs.ToldKept.{told-same, told_in-same}
use Rattle.cg_agree_lemmas.specs.TurnKinds.{HasDecided}
use Rattle.cg_agree_lemmas.specs.HandsNow.{HandsNow, hands-regular, new, behind, count, hand-state, whole-through}
use Rattle.cg_agree_lemmas.specs.PlanEnd.{AtPlanEnd, is_behind, behind-ended}
use Rattle.cg_agree_lemmas.specs.RecordKept.{turn-is}
use Rattle.cg_agree.proofs.ClearedDead.{IsToldIn, each-told}
use Rattle.cg_agree.proofs.BitsKept.{Reaches, bits_witness-kept}

-- ---- the most updated member has the most greens

leads-more : (s t : Summary) → leads s t ≡ true → t.green_count ≤ s.green_count
leads-more s t e = elim (or_cases (nat_lt t.green_count s.green_count) ((s.green_count == t.green_count) && nat_lt s.id t.id) e) [
  | inl more ↦ (let lt = ltb-true t.green_count s.green_count more in omega arith)
  | inr same ↦ (let e = eqb-true s.green_count t.green_count (and_parts (s.green_count == t.green_count) (nat_lt s.id t.id) same).0 in omega arith)
]

leads-less : (s t : Summary) → leads s t ≡ false → s.green_count ≤ t.green_count
leads-less s t e = elim (cases_Bool (nat_lt t.green_count s.green_count)) [
  | inl more ↦ absurd (let clash : true ≡ false = sym (or_left (nat_lt t.green_count s.green_count) ((s.green_count == t.green_count) && nat_lt s.id t.id) more) ∙ e in cc)
  | inr less ↦ ltb-false t.green_count s.green_count less
]

-- each of the summaries and the best so far have no more than the best of all
leader-bounds : (heard : List Summary) (low : Summary) → (best : Summary) × (fold leader (Some low) heard ≡ Some best) × (low.green_count ≤ best.green_count) × OfEach (λ s. s.green_count ≤ best.green_count) heard
leader-bounds [] low = (low, refl, (omega arith), tt)
leader-bounds (s ∷ heard) low = elim (cases_Bool (leads s low)) [
  | inl more ↦
      let rest = leader-bounds heard s in
      let le = leads-more s low more in
      let high = rest.2 in
      (rest.0, ap (λ b. fold leader (cond b (Some s) (Some low)) heard) more ∙ rest.1, (omega arith), (high, rest.3))
  | inr less ↦
      let rest = leader-bounds heard low in
      let le = leads-less s low less in
      let high = rest.2 in
      (rest.0, ap (λ b. fold leader (cond b (Some s) (Some low)) heard) less ∙ rest.1, high, ((omega arith), rest.3))
]

pub best-bounds : (heard : List Summary) (best : Summary) → most_updated heard ≡ Some best → OfEach (λ s. s.green_count ≤ best.green_count) heard
unfolding most_updated
best-bounds [] best e = tt
best-bounds (s ∷ heard) best e =
    let all = leader-bounds heard s in
    let same : all.0 ≡ best = ap (λ o. option_map_or (λ x. x) o all.0) (sym all.1 ∙ e) in
    subst (λ (x : Summary). (s.green_count ≤ x.green_count) × OfEach (λ s. s.green_count ≤ x.green_count) heard) same (all.2, all.3)

leader-of : (P : Summary → Type 0) (heard : List Summary) (o : Option Summary) → IfSome o P → OfEach P heard → IfSome (fold leader o heard) P
leader-of P [] o is each = is
leader-of P (s ∷ heard) None is each = leader-of P heard (Some s) each.0 each.1
leader-of P (s ∷ heard) (Some best) is each =
    leader-of P heard (leader (Some best) s) (cond_both (leads s best) (Some s) (Some best) (λ o. IfSome o P) (λ y. each.0) (λ n. is)) each.1

-- and is one of them
pub best-of : (P : Summary → Type 0) (heard : List Summary) (best : Summary) → most_updated heard ≡ Some best → OfEach P heard → P best
unfolding most_updated
best-of P heard best e each = subst (λ o. IfSome o P) e (leader-of P heard None tt each)

-- ---- the end of a plan without a quorum

module _ (c : Chronicle) (p : ℕ) (i : Invariant c) (may : may_make c (Hands p) ≡ true) (progress : ExchangeProgress (small_step c (Hands p))) (n : HandsNow c p) (conf : ℕ) (heard : List Summary)
    (decided : HasDecided heard n.replica (new c p i n)) (end : AtPlanEnd c p n.replica conf heard) where
  abbrev d : Chronicle
  d = small_step c (Hands p)

  -- the member's configuration is that of the plan
  conf-is : n.conf ≡ conf
  conf-is = eqb-true n.conf conf (sym (ap (is_regular_at conf) n.regular) ∙ end.regular)

  turn-now : d ≡ after_turn (handed_next c p) p n.replica n.disk (take_next c.world.group p (begin n.replica))
  unfolding small_step
  turn-now = turn-is (handed_next c p) p (take_next c.world.group p) n.replica n.disk n.node

  up-now : replica_of d.world p ≡ Some (new c p i n)
  up-now =
      ap (λ (x : Chronicle). replica_of x.world p) turn-now
      ∙ ap (λ (o : Option Node). option_and_then (λ s. running s.life) o) (node_of-set (handed_next c p).world p (Up (new c p i n) n.disk) p
      ∙ cond-true (p == p) (Some (record { id = p; life = Up (new c p i n) n.disk })) (node_of c.world p) (eq-eqb p p refl))

  pub greens-now : greens_of d p ≡ greens_of c p ++ newly_green n.replica (new c p i n)
  greens-now = ap (λ (x : Chronicle). greens_of x p) turn-now ∙ greens-turn (handed_next c p) p n.replica n.disk (take_next c.world.group p (begin n.replica)) i.net.hosted.past n.node

  regular-now : is_regular_in d conf p ≡ true
  regular-now =
      let step = hands-step c p i.net.phase_sound (hands-regular c p may) in
      ap (is_regular_at conf) (step.stands.phase p ∙ cond-true (p == p) (phase_of c.world.group p) (phase_of c.world.group p) (eq-eqb p p refl)) ∙ end.regular

  handed-now : handed_talk d conf p ≡ behind c p i n
  handed-now =
      let step = hands-step c p i.net.phase_sound (hands-regular c p may) in
      let delivered : delivered_to d.world.group p ≡ suc (count c p i n) = step.stands.delivered p ∙ cond-true (p == p) (suc (delivered_to c.world.group p)) (delivered_to c.world.group p) (eq-eqb p p refl) in
      let list : ordered_in d conf ≡ ordered_in c n.conf = ap (λ x. x.ordered) (step.stands.conf conf) ∙ ap (ordered_in c) (sym conf-is) in
      ap₂ (λ k xs. talk_of (take k xs)) delivered list

  told-now : (k q : ℕ) → told_in d k q ≡ told_in c k q
  told-now k q = told_in-same c d (told-same c (Hands p) tt) k q

  -- the summaries that the member has heard are those of the plan
  heard-behind : (behind c p i n).heard ≡ heard
  heard-behind =
      let ended = behind-ended (members_in c n.conf) n.conf (behind c p i n) p (ap is_behind (sym (hand-state c p i n) ∙ decided.state)) in
      sym (whole-through c n.conf p (suc (count c p i n)) i.talk.talk_legal ended).heard ∙ ap (λ k. (whole_talk c k).heard) conf-is ∙ end.whole

  heard-now : (handed_talk d conf (new c p i n).held.id).heard ≡ heard
  heard-now = ap (λ q. (handed_talk d conf q).heard) (decided.id ∙ n.data_of.id) ∙ ap (λ (t : Talk). t.heard) handed-now ∙ heard-behind

  told : OfEach (IsToldIn c conf) heard
  told = each-told c conf heard end.each

  -- what the best of them told, and that the member has its greens now
  pub record Best : Type 0 where
    pub summary : Summary
    pub most : most_updated heard ≡ Some summary
    pub told_by : Told
    pub found : told_in c conf summary.id ≡ Some told_by
    pub greens : greens_of d p ≡ told_by.greens

  pub best-now : Best
  best-now = of_told (told_in d conf p) (subst (λ (s : State). IsSomeWith (told_in d conf p) (λ t. IsInExchange d conf t (new c p i n).held (greens_of d p) s)) decided.state
      (subst (λ (o : Option Replica). IfSome o (λ r. IsSomeWith (told_in d conf p) (λ t. IsInExchange d conf t r.held (greens_of d p) r.state))) up-now (progress conf p regular-now))) where
        of_best : (t : Told) (o : Option Summary) → most_updated heard ≡ o → IsSomeWith (option_and_then (λ s. told_in d conf s.id) o) (λ best. HasTakenOver heard best t (new c p i n).held (greens_of d p)) → Best
        of_best t None most is = absurd is
        of_best t (Some b) most is = at (told_in d conf b.id) refl is where
          at : (o : Option Told) → told_in d conf b.id ≡ o → IsSomeWith o (λ best. HasTakenOver heard best t (new c p i n).held (greens_of d p)) → Best
          at None e is = absurd is
          at (Some best) e is = record { summary = b; most = most; told_by = best; found = sym (told-now conf b.id) ∙ e; greens = is.greens }

        of_told : (o : Option Told) → IsSomeWith o (λ t. IsInExchange d conf t (new c p i n).held (greens_of d p) (NonPrim true)) → Best
        of_told None is = absurd is
        of_told (Some t) is =
            of_best t (most_updated heard) refl (subst (λ (l : List Summary). IsSomeWith (best_told d conf l) (λ best. HasTakenOver l best t (new c p i n).held (greens_of d p))) heard-now is)

  -- a summary's count is that of its greens
  counted : (s : Summary) (t : Told) → IsToldIn c conf s → told_in c conf s.id ≡ Some t → length t.greens ≡ s.green_count
  counted s t is e =
      let same : is.told ≡ t = ap (λ o. option_map_or (λ x. x) o is.told) (sym is.found ∙ e) in
      let fits = subst (λ (o : Option Told). IfSome o (IsSummary c)) e (i.exchange.summary_of_sender.fits conf s.id) in
      sym fits.count ∙ ap (λ (x : Told). x.summary.green_count) (sym same) ∙ ap (λ (x : Summary). x.green_count) is.is

  pub best-reached : (q : ℕ) (t : Told) → told_in c conf q ≡ Some t → length t.greens ≤ length (greens_of c p ++ newly_green n.replica (new c p i n))
  best-reached q t e =
      let b = best-now.summary in
      let bounds = best-bounds heard b best-now.most in
      let best_is = best-of (IsToldIn c conf) heard b best-now.most told in
      let member = i.net.past_left.member conf q (ap is_some e) in
      let full = (and_parts (is_full (members_in c conf) (whole_talk c conf)) (is_through (whole_talk c conf)) end.ended).0 in
      let sent : has (senders heard) q ≡ true = ap (λ l. has (senders l) q) (sym end.whole) ∙ all-member (has (senders (whole_talk c conf).heard)) (members_in c conf) q member full in
      let who = sender-told (λ s. IsToldIn c conf s × (s.green_count ≤ b.green_count)) heard q sent (both-each (IsToldIn c conf) (λ s. s.green_count ≤ b.green_count) heard told bounds) in
      let mine = counted who.who t who.holds.0 (ap (told_in c conf) who.id ∙ e) in
      let most = counted b best-now.told_by best_is best-now.found in
      let now = ap (λ (xs : List Action). length xs) (sym greens-now ∙ best-now.greens) in
      let le = who.holds.1 in
      omega (arith, mine, most, now, le)

-- ---- bits, where the exchange's progress stands behind the step

reaches-of : (c : Chronicle) (s : Small) → may_make c s ≡ true → ExchangeProgress (small_step c s) → Reaches c s
reaches-of c (Hands p) may progress = λ i n conf heard decided end q t e. best-reached c p i may progress n conf heard decided end q t e
reaches-of c (Starts set) may progress = tt
reaches-of c (Makes set) may progress = tt
reaches-of c (Enters p) may progress = tt
reaches-of c (Orders p) may progress = tt
reaches-of c (Receives p place) may progress = tt
reaches-of c (Leaves p set own places) may progress = tt
reaches-of c (Asks p kind) may progress = tt
reaches-of c (Settles p) may progress = tt
reaches-of c (Commits p) may progress = tt
reaches-of c (Crashes p) may progress = tt
reaches-of c (Recovers p) may progress = tt
reaches-of c (Copies p joiner) may progress = tt
reaches-of c (Joins joiner) may progress = tt

pub bits-kept : (c : Chronicle) (s : Small) → Invariant c → may_make c s ≡ true → ExchangeProgress (small_step c s) → BitsWitness (small_step c s)
bits-kept c s i may progress = bits_witness-kept c s i may (reaches-of c s may progress)
