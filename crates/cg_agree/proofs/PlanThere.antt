-- As a plan ends a member that remains has all greens of the most updated one, and takes the common yellow list over whole.
use Rattle.std.proofs.Common.{◌≡◌, ℕ, suc, ◌≤◌, true, false, List, [], ◌∷◌, length, take, Some, refl, sym, ap, ◌∙◌, subst, ⊎_elim, arith, leb-true}
use Rattle.std.specs.Prelude.{slice_get}
use Rattle.std.proofs.lemmas.Bool.{cases_Bool}
use Rattle.cg_base.specs.Cuts.{index_in}
use Rattle.cg_base.specs.Sets.{has, is_within}
use Rattle.cg_action.specs.declared.action.Action.{Action}
use Rattle.cg_queue.specs.Queue.{names_of}
use Rattle.cg_knowledge.specs.declared.summary.Summary.{Summary}
use Rattle.cg_knowledge.specs.Summaries.{senders, gone}
use Rattle.cg_knowledge.specs.Yellow.{common_yellow}
use Rattle.cg_plan.specs.Items.{items_of_plan}
use Rattle.cg_plan.specs.Plan.{plan_of}
use Rattle.cg_plan.specs.Progress.{is_done}
use Rattle.cg_wire.specs.declared.message.Msg.{Msg}
use Rattle.cg_wire.specs.declared.message.Msg.TheVariants.{Action as ActionMsg, State as StateMsg, GreenItem, RedItem, Cpc}
use Rattle.cg_group.specs.declared.phase.Phase.TheVariants.{Regular}
use Rattle.cg_group.specs.State.{Sent, phase_of, delivered_to}
use Rattle.cg_client.specs.Replica.{Held, State, ExchangeStates, ExchangeActions, Replica}
use Rattle.cg_client.specs.Turn.{Turn, begin}
use Rattle.cg_states.specs.ExchangeActions.{progress, mark_item, take_item}
use Rattle.cg_states.specs.PlanEnd.{usable_names}
use Rattle.cg_model.specs.World.{replica_of}
use Rattle.cg_model.specs.Chronicle.{Told, Chronicle}
use Rattle.cg_model.specs.Looks.{members_in, ordered_in}
use Rattle.cg_model.specs.Talk.{Talk, hears_from, is_full, is_through, state_behind, state_in}
use Rattle.cg_model.specs.Facts.{Invariant}
use Rattle.cg_disk_records.specs.Holds.{run_on, cut_behind, Rising}
use Rattle.cg_model.specs.FactsTalk.{AreTold, handed_talk}
use Rattle.cg_agree.proofs.AnswersOwn.{due-green, due-red, still, ended-known}
use Rattle.cg_agree.proofs.ClearedDead.{IsToldIn, each-told}
use Rattle.cg_agree.proofs.CoreKept.{has_all, done_count, EndFits}
use Rattle.cg_disk_records.specs.CutRaiseLaws.{rising-behind}
use Rattle.cg_agree_lemmas.specs.EndCovers.{OfEach, of_each-weaker}
use Rattle.cg_agree_lemmas.specs.EndQuorum.{both-each}
use Rattle.cg_agree.proofs.EndReached.{best-bounds}
use Rattle.cg_agree.proofs.ExchangeThere.{id, state, heard_before, heard_behind, in_exchange, in-states, in-actions, best, near, unmoved-behind, behind-green, behind-red, take-here, front-cut}
use Rattle.cg_agree_lemmas.specs.HandsNow.{running-now}
use Rattle.cg_agree_lemmas.specs.HeldExchange.{FitsCommon}
use Rattle.cg_agree_lemmas.specs.HeldMarks.{are_within, rising-green}
use Rattle.cg_agree_lemmas.specs.KnownBounds.{known-each}
use Rattle.cg_agree_lemmas.specs.PlanEnd.{told-each, ended-behind}
use Rattle.cg_agree_lemmas.specs.PlanItems.{plan-greens}
use Rattle.cg_agree_lemmas.specs.PlanProgress.{IsBehind, greens_there, taken-all}
use Rattle.cg_agree.proofs.ToldBeside.{told-fits, told-front, IsBest}
use Rattle.cg_agree_lemmas.specs.TurnKinds.{EndsWith}
use Rattle.cg_agree_lemmas.specs.YellowMeets.{FitsBest, each-group, common-next, common-known, reds-named, usable-all}

-- what is held behind all items
pub record IsEnded (heard : List Summary) (best : Told) (h : Held) (all : List Action) : Type 0 where
  pub greens : all ≡ best.greens
  pub cut : h.queue.green_cut ≡ best.summary.green_cut
  pub usable : usable_names h.queue (common_yellow heard).list ≡ (common_yellow heard).list
  pub fits : FitsCommon h heard

each-all : (P : ℕ → Summary → Type 0) (heard : List Summary) → ((q : ℕ) → OfEach (P q) heard) → OfEach (λ x. (q : ℕ) → P q x) heard
each-all P [] each = tt
each-all P (x ∷ heard) each = ((λ q. (each q).0), each-all P heard (λ q. (each q).1))

-- a plan that is done has no more items
pub done-all : (heard : List Summary) (k : ℕ) → is_done (progress heard k) ≡ true → length (items_of_plan (plan_of heard)) ≤ k
unfolding is_done
done-all heard k e = leb-true (length (items_of_plan (plan_of heard))) k e

-- what was told in a configuration fits the greens of the most updated member
fits-one : (c : Chronicle) (i : Invariant c) (conf : ℕ) (heard : List Summary) (b : IsBest c i conf heard) (x : Summary) → IsToldIn c conf x → x.green_count ≤ b.best.summary.green_count → FitsBest b.best.summary.green_cut x
fits-one c i conf heard b x is le =
    let t = is.told in
    let fits = told-fits c i conf x.id t is.found in
    let top = told-fits c i conf b.best.summary.id b.best b.found in
    let below : t.summary.green_count ≤ b.best.summary.green_count = subst (λ (y : Summary). y.green_count ≤ b.best.summary.green_count) (sym is.is) le in
    let front = told-front c i conf x.id b.best.summary.id t b.best is.found b.found below in
    subst (FitsBest b.best.summary.green_cut) is.is (record {
      next = fits.yellow_next;
      rising = subst (Rising 0) (sym fits.green_cut) (rising-behind [] (names_of t.greens) tt);
      below = λ q. (
          let high = front-cut t.greens b.best.greens q front in
          let mine = ap (λ cut. index_in cut q) fits.green_cut in
          let most = ap (λ cut. index_in cut q) top.green_cut in
          omega arith);
    })

module _ (c : Chronicle) (p : ℕ) (i : Invariant c) (conf : ℕ) (r : Replica) (s : Sent Msg) (regular : phase_of c.world.group p ≡ Regular conf) (runs : replica_of c.world p ≡ Some r)
    (next : slice_get (ordered_in c conf) (delivered_to c.world.group p) ≡ Some s) where
  abbrev members : List ℕ
  members = members_in c conf

  abbrev before : Talk
  before = handed_talk c conf p

  abbrev mine : Told
  mine = (in_exchange c p i conf r s regular runs next).mine

  each-fits : (heard : List Summary) (are : AreTold c conf heard) (full : is_within members (senders heard) ≡ true) → OfEach (FitsBest (best c p i conf r s regular runs next heard are full).best.summary.green_cut) heard
  each-fits heard are full =
      let b = best c p i conf r s regular runs next heard are full in
      of_each-weaker (λ x. IsToldIn c conf x × (x.green_count ≤ b.best.summary.green_count)) (FitsBest b.best.summary.green_cut) (λ x both. fits-one c i conf heard b x both.0 both.1) heard
      (both-each (IsToldIn c conf) (λ x. x.green_count ≤ b.best.summary.green_count) heard (each-told c conf heard are) (best-bounds heard b.best.summary b.most))

  -- behind all items the member is at the end
  pub ended-there : (heard : List Summary) (k : ℕ) (are : AreTold c conf heard) (full : is_within members (senders heard) ≡ true) (here : has (gone heard) p ≡ false) (h : Held) →
      IsBehind c.start heard (near c p i conf r s regular runs next heard are full here).0 k (best c p i conf r s regular runs next heard are full).best mine h → length (items_of_plan (plan_of heard)) ≤ k →
      IsEnded heard (best c p i conf r s regular runs next heard are full).best h (take (greens_there (near c p i conf r s regular runs next heard are full here).0 k (best c p i conf r s regular runs next heard are full).best mine) (best c p i conf r s regular runs next heard are full).best.greens)
  ended-there heard k are full here h is done =
      let b = best c p i conf r s regular runs next heard are full in
      let low = (near c p i conf r s regular runs next heard are full here).0 in
      let beside = (near c p i conf r s regular runs next heard are full here).1 in
      let all = take (greens_there low k b.best mine) b.best.greens in
      let yellow = (common_yellow heard).list in
      let count = beside.count in
      let below = beside.below in
      let above = beside.above in
      let past = plan-greens heard b.best.summary low beside.most beside.least k done in
      let whole : all ≡ b.best.greens = taken-all (greens_there low k b.best mine) b.best.greens (omega arith) in
      let cut : h.queue.green_cut ≡ b.best.summary.green_cut = is.oneself.made_of.green_cut ∙ ap (λ xs. cut_behind [] (names_of xs)) whole ∙ sym beside.cut in
      let up : Rising 0 b.best.summary.green_cut = subst (Rising 0) (sym beside.cut) (rising-behind [] (names_of b.best.greens) tt) in
      let goes : run_on h.queue.green_cut yellow ≡ true =
      ap (λ gc. run_on gc yellow) cut ∙ common-next heard b.best.summary b.most up (each-group (FitsBest b.best.summary.green_cut) heard (each-fits heard are full)) in
      let knows = ended-known c p i conf r s regular runs next heard k are full here h is done in
      let within = told-each c conf (λ x. are_within x.red_cut x.yellow.list ≡ true) (λ q t e. (told-fits c i conf q t e).yellow_known) heard are in
      let lower = each-all (λ q x. index_in x.red_cut q ≤ index_in h.queue.red_cut q) heard (λ q. subst (λ n. OfEach (λ x. index_in x.red_cut q ≤ n) heard) (sym (knows q)) (known-each heard q)) in
      let known : are_within h.queue.red_cut yellow ≡ true = common-known heard h.queue.red_cut
      (each-group (λ x. (are_within x.red_cut x.yellow.list ≡ true) × ((q : ℕ) → index_in x.red_cut q ≤ index_in h.queue.red_cut q)) heard
      (both-each (λ x. are_within x.red_cut x.yellow.list ≡ true) (λ x. (q : ℕ) → index_in x.red_cut q ≤ index_in h.queue.red_cut q) heard within lower)) in
      let rising = rising-green c.start h all is.oneself in
      let named = reds-named h.queue.green_cut (names_of h.queue.reds) yellow rising is.oneself.contiguous.reds goes (ap (λ rc. are_within rc yellow) (sym is.oneself.made_of.red_cut) ∙ known) in
      let usable = usable-all h.queue h.queue.green_cut yellow rising named goes in
      record {
        greens = whole;
        cut = cut;
        usable = usable;
        fits = record { next = ap (run_on h.queue.green_cut) usable ∙ goes; known = ap (are_within h.queue.red_cut) usable ∙ known };
      }

  -- ---- the common yellow list fits

  fits-few : is_full members before ≡ false → (m : Msg) → s.message ≡ m → (at : ℕ) (heard : List Summary) → EndsWith (ExchangeStates conf members before.heard) m at heard →
      has_all (ExchangeStates conf members before.heard) m ≡ true → has (gone heard) p ≡ false → is_done (progress heard 0) ≡ true → FitsCommon (mark_item (begin r) m).replica.held heard
  fits-few few (StateMsg x) is at heard ends full here done =
      let more = (hears_from before s.from (StateMsg x)).heard in
      let are = subst (λ m. AreTold c conf (hears_from before s.from m).heard) is (heard_behind c p i conf r s regular runs next) in
      let stays : has (gone more) p ≡ false = ap (λ l. has (gone l) p) (sym ends.1) ∙ here in
      let over : is_done (progress more 0) ≡ true = ap (λ l. is_done (progress l 0)) (sym ends.1) ∙ done in
      subst (FitsCommon r.held) (sym ends.1)
      (ended-there more 0 are full stays r.held (unmoved-behind c p i conf r s regular runs next more are full stays (still c p i conf r s regular runs next few)) (done-all more 0 over)).fits
  fits-few few (ActionMsg a) is at heard ends full here done = absurd ends
  fits-few few (GreenItem place a) is at heard ends full here done = absurd ends
  fits-few few (RedItem a) is at heard ends full here done = absurd ends
  fits-few few (Cpc k cf) is at heard ends full here done = absurd ends

  fits-item : is_full members before ≡ true → (m : Msg) → s.message ≡ m → (at : ℕ) (heard : List Summary) → EndsWith (ExchangeActions conf before.heard before.accepted) m at heard →
      has (gone heard) p ≡ false → is_done (progress heard (suc before.accepted)) ≡ true → FitsCommon (mark_item (begin r) m).replica.held heard
  fits-item full (GreenItem place a) is at heard ends here done =
      let m = GreenItem place a in
      let due = due-green c p i conf r s regular runs next place a is in
      let stays : has (gone before.heard) p ≡ false = ap (λ l. has (gone l) p) (sym ends.1) ∙ here in
      let over : is_done (progress before.heard (suc before.accepted)) ≡ true = ap (λ l. is_done (progress l (suc before.accepted))) (sym ends.1) ∙ done in
      subst (FitsCommon (mark_item (begin r) m).replica.held) (sym ends.1)
      (subst (λ (u : Turn). FitsCommon u.replica.held before.heard) (take-here c p i conf r s regular runs next m stays)
      (ended-there before.heard (suc before.accepted) (heard_before c p i conf r s regular runs next) full stays (take_item (begin r) before.heard m).replica.held
      (behind-green c p i conf r s regular runs next place a is due full stays) (done-all before.heard (suc before.accepted) over)).fits)
  fits-item full (RedItem a) is at heard ends here done =
      let m = RedItem a in
      let due = due-red c p i conf r s regular runs next a is in
      let stays : has (gone before.heard) p ≡ false = ap (λ l. has (gone l) p) (sym ends.1) ∙ here in
      let over : is_done (progress before.heard (suc before.accepted)) ≡ true = ap (λ l. is_done (progress l (suc before.accepted))) (sym ends.1) ∙ done in
      subst (FitsCommon (mark_item (begin r) m).replica.held) (sym ends.1)
      (subst (λ (u : Turn). FitsCommon u.replica.held before.heard) (take-here c p i conf r s regular runs next m stays)
      (ended-there before.heard (suc before.accepted) (heard_before c p i conf r s regular runs next) full stays (take_item (begin r) before.heard m).replica.held
      (behind-red c p i conf r s regular runs next a is due full stays) (done-all before.heard (suc before.accepted) over)).fits)
  fits-item full (ActionMsg a) is at heard ends here done = absurd ends
  fits-item full (StateMsg x) is at heard ends here done = absurd ends
  fits-item full (Cpc k cf) is at heard ends here done = absurd ends

  -- where all have told and the plan is through nothing ends
  opened : is_full members before ≡ true → is_through before ≡ true → state_in members conf before p ≡ state_behind conf before p
  opened full through = rw (full, through) refl

  over : is_full members before ≡ true → is_through before ≡ true → r.state ≡ state_behind conf before p
  over full through = state c p i conf r s regular runs next ∙ opened full through

  pub fits-there : (at : ℕ) (heard : List Summary) → EndsWith r.state s.message at heard → has_all r.state s.message ≡ true → has (gone heard) r.held.id ≡ false → is_done (progress heard (done_count r.state)) ≡ true →
      FitsCommon (mark_item (begin r) s.message).replica.held heard
  fits-there at heard ends all here done =
      let stays : has (gone heard) p ≡ false = ap (has (gone heard)) (sym (id c p i conf r s regular runs next)) ∙ here in
      ⊎_elim
      (λ (full : is_full members before ≡ true). ⊎_elim
      (λ (through : is_through before ≡ true). absurd (ended-behind conf before p s.message at heard (subst (λ (st : State). EndsWith st s.message at heard) (over full through) ends)))
      (λ (yet : is_through before ≡ false).
      let is = in-actions c p i conf r s regular runs next full yet in
      fits-item full s.message refl at heard (subst (λ (st : State). EndsWith st s.message at heard) is ends) stays (ap (λ (st : State). is_done (progress heard (done_count st))) (sym is) ∙ done))
      (cases_Bool (is_through before)))
      (λ (few : is_full members before ≡ false).
      let is = in-states c p i conf r s regular runs next few in
      fits-few few s.message refl at heard (subst (λ (st : State). EndsWith st s.message at heard) is ends) (ap (λ (st : State). has_all st s.message) (sym is) ∙ all) stays
      (ap (λ (st : State). is_done (progress heard (done_count st))) (sym is) ∙ done))
      (cases_Bool (is_full members before))

-- The common yellow list fits a member at the end of its plan.
pub end-fits : (c : Chronicle) (p : ℕ) → Invariant c → EndFits c p
end-fits c p i = λ n at heard ends all here done. fits-there c p i n.conf n.replica n.next n.regular (running-now c p i n) n.found at heard ends all here done
