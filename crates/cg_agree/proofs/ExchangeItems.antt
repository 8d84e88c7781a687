-- A member in an exchange, to whom a place is handed: it holds what it told as the first item is waited for, and goes on behind each item.
use Rattle.std.proofs.Common.{◌≡◌, ℕ, suc, ◌≤◌, true, false, List, [], ◌++◌, length, drop, take, Option, Some, sym, ap, ◌∙◌, subst, ⊎_elim, arith}
use Rattle.std.specs.Prelude.{slice_get}
use Rattle.std.proofs.lemmas.Bool.{cases_Bool}
use Rattle.cg_base.specs.Sets.{has, is_within}
use Rattle.cg_base.specs.Choice.{Either}
use Rattle.cg_action.specs.declared.action.Action.{Action}
use Rattle.cg_queue.specs.Queue.{names_of}
use Rattle.cg_knowledge.specs.declared.summary.Summary.{Summary}
use Rattle.cg_knowledge.specs.Summaries.{senders, gone}
use Rattle.cg_plan.specs.Items.{items_of_plan}
use Rattle.cg_plan.specs.Plan.{plan_of}
use Rattle.cg_wire.specs.declared.message.Msg.{Msg}
use Rattle.cg_group.specs.declared.phase.Phase.TheVariants.{Regular}
use Rattle.cg_group.specs.State.{Sent, phase_of, delivered_to}
use Rattle.cg_client.specs.Replica.{Held, ExchangeActions, Replica}
use Rattle.cg_client.specs.Turn.{Turn, begin}
use Rattle.cg_states.specs.ExchangeActions.{take_item}
use Rattle.cg_model.specs.World.{replica_of}
use Rattle.cg_model.specs.Chronicle.{Told, Chronicle}
use Rattle.cg_model.specs.Fronts.{IsSomeWith}
use Rattle.cg_model.specs.Looks.{greens_of, members_in, ordered_in}
use Rattle.cg_model.specs.Talk.{Talk, is_full, is_through}
use Rattle.cg_model.specs.Facts.{Invariant}
use Rattle.cg_disk_records.specs.Holds.{cut_behind}
use Rattle.cg_model.specs.FactsTalk.{AreTold, handed_talk}
use Rattle.cg_model.specs.FactsExchange.{IsUnmoved, IsGoingOn, best_told, IsInExchange}
use Rattle.cg_agree_lemmas.specs.ExchangeHands.{EndsAs, grown-front}
use Rattle.cg_agree_lemmas.specs.ExchangeStill.{holds-still}
use Rattle.cg_agree.proofs.ExchangeThere.{id, core, oneself, heard_before, in_exchange, best, near, best-is, unmoved-behind, unmoved-gone, going-at, before-greens, greens-count, take-gone, take-here, white-item}
use Rattle.cg_agree_lemmas.specs.FrontFacts.{take-Front, Front-takes}
use Rattle.cg_agree_lemmas.specs.HeldMarks.{rising-green}
use Rattle.cg_agree_lemmas.specs.PlanProgress.{IsBehind, greens_there}
use Rattle.cg_agree.proofs.PlanThere.{ended-there}
use Rattle.cg_agree.proofs.ToldBeside.{told-fits, told-front}
use Rattle.cg_agree_lemmas.specs.TurnValues.{even-take_item}
use Rattle.cg_agree_lemmas.specs.YellowItems.{above_green, IsStillYellow, above-all, yellow-item}

module _ (c : Chronicle) (p : ℕ) (i : Invariant c) (conf : ℕ) (r : Replica) (s : Sent Msg) (regular : phase_of c.world.group p ≡ Regular conf) (runs : replica_of c.world p ≡ Some r)
    (next : slice_get (ordered_in c conf) (delivered_to c.world.group p) ≡ Some s) where
  abbrev members : List ℕ
  members = members_in c conf

  abbrev before : Talk
  before = handed_talk c conf p

  abbrev mine : Told
  mine = (in_exchange c p i conf r s regular runs next).mine

  -- the most updated member of those that were heard, and so many greens all that remain have
  abbrev top : (heard : List Summary) → AreTold c conf heard → is_within members (senders heard) ≡ true → Told
  top heard are full = (best c p i conf r s regular runs next heard are full).best

  abbrev low : (heard : List Summary) → AreTold c conf heard → is_within members (senders heard) ≡ true → has (gone heard) p ≡ false → ℕ
  low heard are full here = (near c p i conf r s regular runs next heard are full here).0

  -- the greens behind so many items
  abbrev greens-at : (heard : List Summary) → AreTold c conf heard → is_within members (senders heard) ≡ true → has (gone heard) p ≡ false → ℕ → List Action
  greens-at heard are full here k = take (greens_there (low heard are full here) k (top heard are full) mine) (top heard are full).greens

  -- what is held behind so many items
  abbrev Behind : (heard : List Summary) → AreTold c conf heard → is_within members (senders heard) ≡ true → has (gone heard) p ≡ false → ℕ → Held → Type 0
  Behind heard are full here k h = IsBehind c.start heard (low heard are full here) k (top heard are full) mine h

  -- what a member that has left holds, and one that remains
  left-in : (heard : List Summary) (k : ℕ) (h : Held) (all : List Action) → h.id ≡ p → has (gone heard) p ≡ true → IsUnmoved mine h all → IsInExchange c conf mine h all (ExchangeActions conf heard k)
  left-in heard k h all id left is =
      subst (λ b. Either b (IsUnmoved mine h all) (IsSomeWith (best_told c conf heard) (λ best. IsGoingOn heard k best mine h all))) (sym (ap (has (gone heard)) id ∙ left)) is

  here-in : (heard : List Summary) (k : ℕ) (are : AreTold c conf heard) (full : is_within members (senders heard) ≡ true) (h : Held) (all : List Action) → h.id ≡ p → has (gone heard) p ≡ false →
      IsGoingOn heard k (top heard are full) mine h all → IsInExchange c conf mine h all (ExchangeActions conf heard k)
  here-in heard k are full h all id here is =
      subst (λ b. Either b (IsUnmoved mine h all) (IsSomeWith (best_told c conf heard) (λ best. IsGoingOn heard k best mine h all))) (sym (ap (has (gone heard)) id ∙ here))
      (subst (λ (o : Option Told). IsSomeWith o (λ best. IsGoingOn heard k best mine h all)) (sym (best-is c p i conf r s regular runs next heard (best c p i conf r s regular runs next heard are full))) is)

  -- ---- the first item

  -- a member that has changed nothing has the greens of the first item
  first-greens : (heard : List Summary) (are : AreTold c conf heard) (full : is_within members (senders heard) ≡ true) (here : has (gone heard) p ≡ false) → IsUnmoved mine r.held (greens_of c p) →
      greens_of c p ≡ greens-at heard are full here 0
  first-greens heard are full here same =
      let b = best c p i conf r s regular runs next heard are full in
      let beside = (near c p i conf r s regular runs next heard are full here).1 in
      let found = (in_exchange c p i conf r s regular runs next).found in
      let above = beside.above in
      let count = (told-fits c i conf p mine found).count in
      let front = told-front c i conf p b.best.summary.id mine b.best found b.found beside.below in
      let many : length mine.greens ≡ greens_there (low heard are full here) 0 b.best mine = omega arith in
      same.greens ∙ take-Front mine.greens b.best.greens front ∙ ap (λ k. take k b.best.greens) many

  pub first-item : (heard : List Summary) (are : AreTold c conf heard) (full : is_within members (senders heard) ≡ true) → IsUnmoved mine r.held (greens_of c p) →
      IsInExchange c conf mine r.held (greens_of c p) (ExchangeActions conf heard 0)
  first-item heard are full same = ⊎_elim
      (λ (left : has (gone heard) p ≡ true). left-in heard 0 r.held (greens_of c p) (id c p i conf r s regular runs next) left same)
      (λ (here : has (gone heard) p ≡ false).
      let fits = told-fits c i conf p mine (in_exchange c p i conf r s regular runs next).found in
      let made = (core c p i conf r s regular runs next).made_of in
      let cut : r.held.queue.green_cut ≡ mine.summary.green_cut = made.green_cut ∙ ap (λ xs. cut_behind [] (names_of xs)) same.greens ∙ sym fits.green_cut in
      here-in heard 0 are full r.held (greens_of c p) (id c p i conf r s regular runs next) here (record {
        holds = same.holds;
        greens = first-greens heard are full here same ∙ ap (λ k. take k (top heard are full).greens) (sym (greens-count c p i conf r s regular runs next heard 0 are full here));
        red = (unmoved-behind c p i conf r s regular runs next heard are full here same).red;
        yellow = same.yellow ∙ sym (ap (λ gc. above_green gc mine.summary.yellow.list) cut ∙ above-all mine.summary.green_cut mine.summary.yellow.list fits.yellow_next);
      }))
      (cases_Bool (has (gone heard) p))

  -- ---- behind an item

  -- the greens grow up to the next item's
  next-greens : (m : Msg) (new : List Action) (full : is_full members before ≡ true) (yet : is_through before ≡ false) (here : has (gone before.heard) p ≡ false) →
      Behind before.heard (heard_before c p i conf r s regular runs next) full here (suc before.accepted) (take_item (begin r) before.heard m).replica.held →
      new ≡ (take_item (begin r) before.heard m).replica.held.queue.greens →
      greens_of c p ++ drop (length r.held.queue.greens) new ≡ greens-at before.heard (heard_before c p i conf r s regular runs next) full here (suc before.accepted)
  next-greens m new full yet here is same =
      let are = heard_before c p i conf r s regular runs next in
      let heard = before.heard in
      let b = top heard are full in
      let l = low heard are full here in
      let k = before.accepted in
      let w = r.held.queue.white in
      let made = (core c p i conf r s regular runs next).made_of in
      let beside = (near c p i conf r s regular runs next heard are full here).1 in
      let count = beside.count in
      let below = beside.below in
      let above = beside.above in
      let xs = greens-at heard are full here k in
      let ys = greens-at heard are full here (suc k) in
      let old : greens_of c p ≡ xs = before-greens c p i conf r s regular runs next full yet here in
      let kept : r.held.queue.greens ≡ drop w xs = made.kept ∙ ap (drop w) old in
      let gained : new ≡ drop w ys = same ∙ is.oneself.made_of.kept ∙ ap (λ k. drop k ys) (white-item (begin r) heard m) in
      let within : w ≤ length xs = subst (λ zs. w ≤ length zs) old made.white in
      ap (λ zs. zs ++ drop (length r.held.queue.greens) new) old
      ∙ ap (λ zs. xs ++ drop (length zs) new) kept ∙ ap (λ zs. xs ++ drop (length (drop w xs)) zs) gained
      ∙ grown-front w xs ys within (Front-takes (greens_there l k b mine) (greens_there l (suc k) b mine) b.greens (omega arith))

  -- what it told is still held
  next-held : (m : Msg) (all : List Action) (full : is_full members before ≡ true) (yet : is_through before ≡ false) (here : has (gone before.heard) p ≡ false) →
      Behind before.heard (heard_before c p i conf r s regular runs next) full here (suc before.accepted) (take_item (begin r) before.heard m).replica.held →
      all ≡ greens-at before.heard (heard_before c p i conf r s regular runs next) full here (suc before.accepted) →
      IsGoingOn before.heard (suc before.accepted) (top before.heard (heard_before c p i conf r s regular runs next) full) mine (take_item (begin r) before.heard m).replica.held all
  next-held m all full yet here is greens =
      let are = heard_before c p i conf r s regular runs next in
      let heard = before.heard in
      let was = going-at c p i conf r s regular runs next full yet here in
      let taken = take_item (begin r) heard m in
      let yellow : IsStillYellow mine.summary.yellow.list taken.replica.held =
      subst (λ (u : Turn). IsStillYellow mine.summary.yellow.list u.replica.held) (sym (take-here c p i conf r s regular runs next m here))
      (yellow-item mine.summary.yellow.list (begin r) m (rising-green c.start r.held (greens_of c p) (oneself c p i conf r s regular runs next)) was.yellow) in
      record {
        holds = holds-still mine r.held taken.replica.held (even-take_item (begin r) heard m).values was.holds;
        greens = greens ∙ ap (λ k. take k (top heard are full).greens) (sym (greens-count c p i conf r s regular runs next heard (suc before.accepted) are full here));
        red = is.red;
        yellow = yellow;
      }

  -- behind an item a member that has left is as before, and one that remains goes on
  pub next-item : (m : Msg) (new all : List Action) (full : is_full members before ≡ true) (yet : is_through before ≡ false) →
      ((here : has (gone before.heard) p ≡ false) → Behind before.heard (heard_before c p i conf r s regular runs next) full here (suc before.accepted) (take_item (begin r) before.heard m).replica.held) →
      new ≡ (take_item (begin r) before.heard m).replica.held.queue.greens → (new ≡ r.held.queue.greens → all ≡ greens_of c p) → all ≡ greens_of c p ++ drop (length r.held.queue.greens) new →
      IsInExchange c conf mine (take_item (begin r) before.heard m).replica.held all (ExchangeActions conf before.heard (suc before.accepted))
  next-item m new all full yet behind same none more =
      let are = heard_before c p i conf r s regular runs next in
      let heard = before.heard in
      let taken = take_item (begin r) heard m in
      let name : taken.replica.held.id ≡ p = (even-take_item (begin r) heard m).values.id ∙ id c p i conf r s regular runs next in
      ⊎_elim
      (λ (left : has (gone heard) p ≡ true).
      let is : taken ≡ begin r = take-gone c p i conf r s regular runs next m left in
      let greens : all ≡ greens_of c p = none (same ∙ ap (λ (u : Turn). u.replica.held.queue.greens) is) in
      left-in heard (suc before.accepted) taken.replica.held all name left
      (subst (λ (u : Turn). IsUnmoved mine u.replica.held all) (sym is) (subst (IsUnmoved mine r.held) (sym greens) (unmoved-gone c p i conf r s regular runs next full yet left))))
      (λ (here : has (gone heard) p ≡ false).
      here-in heard (suc before.accepted) are full taken.replica.held all name here
      (next-held m all full yet here (behind here) (more ∙ next-greens m new full yet here (behind here) same)))
      (cases_Bool (has (gone heard) p))

  -- ---- the end of the plan

  -- at the end of the plan
  pub ends-first : (heard : List Summary) (are : AreTold c conf heard) (full : is_within members (senders heard) ≡ true) (here : has (gone heard) p ≡ false) → IsUnmoved mine r.held (greens_of c p) →
      length (items_of_plan (plan_of heard)) ≤ 0 → EndsAs heard (top heard are full) mine r.held (greens_of c p)
  ends-first heard are full here same done =
      let end = ended-there c p i conf r s regular runs next heard 0 are full here r.held (unmoved-behind c p i conf r s regular runs next heard are full here same) done in
      record { greens = first-greens heard are full here same ∙ end.greens; usable = end.usable; vulnerable = same.holds.vulnerable }

  pub ends-item : (m : Msg) (new all : List Action) (full : is_full members before ≡ true) (yet : is_through before ≡ false) (here : has (gone before.heard) p ≡ false) →
      Behind before.heard (heard_before c p i conf r s regular runs next) full here (suc before.accepted) (take_item (begin r) before.heard m).replica.held →
      new ≡ (take_item (begin r) before.heard m).replica.held.queue.greens → all ≡ greens_of c p ++ drop (length r.held.queue.greens) new →
      length (items_of_plan (plan_of before.heard)) ≤ suc before.accepted →
      EndsAs before.heard (top before.heard (heard_before c p i conf r s regular runs next) full) mine (take_item (begin r) before.heard m).replica.held all
  ends-item m new all full yet here is same more done =
      let are = heard_before c p i conf r s regular runs next in
      let taken = take_item (begin r) before.heard m in
      let greens = more ∙ next-greens m new full yet here is same in
      let end = ended-there c p i conf r s regular runs next before.heard (suc before.accepted) are full here taken.replica.held is done in
      record { greens = greens ∙ end.greens; usable = end.usable; vulnerable = (next-held m all full yet here is greens).holds.vulnerable }
