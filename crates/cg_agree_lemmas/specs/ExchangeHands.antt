-- A member in an exchange, to whom a place is handed: what it holds as the plan goes on, and at its end with and without a quorum.
use Rattle.std.proofs.Common.{◌≡◌, ℕ, zero, suc, ◌≤◌, true, false, List, [], ◌∷◌, ◌++◌, length, drop, Option, Some, None, refl, sym, ap, ap₂, ◌∙◌, subst, arith}
use Rattle.std.specs.Prelude.{option_and_then}
use Rattle.std.proofs.lemmas.Bool.{cond_both}
use Rattle.cg_base.specs.Sets.{has}
use Rattle.cg_base.specs.Choice.{Either}
use Rattle.cg_action.specs.declared.action.Action.{Action}
use Rattle.cg_records.specs.declared.yellow.Yellow.{Yellow}
use Rattle.cg_knowledge.specs.declared.summary.Summary.{Summary}
use Rattle.cg_knowledge.specs.Summaries.{gone, most_updated}
use Rattle.cg_knowledge.specs.Vulnerable.{decided}
use Rattle.cg_knowledge.specs.Verdict.{decides}
use Rattle.cg_knowledge.specs.Yellow.{common_yellow}
use Rattle.cg_plan.specs.declared.parts.Part.{Part}
use Rattle.cg_plan.specs.Plan.{plan_of}
use Rattle.cg_plan.specs.Progress.{is_done, turn_of}
use Rattle.cg_client.specs.Replica.{Held, State, ExchangeActions, Construct, NonPrim, Left, Replica, yellow_of}
use Rattle.cg_client.specs.Turn.{Turn, go_to, with_held}
use Rattle.cg_client.specs.Requests.{empty_buffer}
use Rattle.cg_states.specs.ExchangeActions.{progress, send_part, go_on}
use Rattle.cg_states.specs.PlanEnd.{usable_names, take_over, attempt, decide, end_plan}
use Rattle.cg_model.specs.Chronicle.{Told, Chronicle}
use Rattle.cg_model.specs.Fronts.{Front, IsSomeWith}
use Rattle.cg_model.specs.Looks.{told_in}
use Rattle.cg_model.specs.FactsTalk.{handed_talk}
use Rattle.cg_model.specs.FactsExchange.{IsUnmoved, IsGoingOn, HasTakenOver, best_told, IsInExchange}
use Rattle.cg_agree_lemmas.specs.FrontFacts.{split_by_Front}

-- ---- lists

-- what a list has more than its front, read off what both keep
pub grown-front : {X : Type 0} (w : ℕ) (xs ys : List X) → w ≤ length xs → Front xs ys → xs ++ drop (length (drop w xs)) (drop w ys) ≡ ys
grown-front zero xs ys le front = sym (split_by_Front xs ys front)
grown-front (suc w) [] ys le front = absurd (omega arith)
grown-front (suc w) (x ∷ xs) [] le front = absurd front
grown-front (suc w) (x ∷ xs) (y ∷ ys) le front = ap₂ (λ z zs. z ∷ zs) front.0 (grown-front w xs ys (omega arith) front.1)

-- ---- what is the same in both chronicles

-- what was told is the same, so the most updated member's is
pub best-same : (c d : Chronicle) (conf : ℕ) (heard : List Summary) → ((k q : ℕ) → told_in d k q ≡ told_in c k q) → best_told d conf heard ≡ best_told c conf heard
best-same c d conf heard told = at (most_updated heard) where
  at : (o : Option Summary) → option_and_then (λ s. told_in d conf s.id) o ≡ option_and_then (λ s. told_in c conf s.id) o
  at None = refl
  at (Some s) = told conf s.id

-- a part that is sent changes nothing of the replica
pub sent-replica : (t : Turn) (o : Option Part) → (send_part t o).replica ≡ t.replica
unfolding send_part
sent-replica t None = refl
sent-replica t (Some part) = refl

-- ---- as the plan goes on

-- a member that begins an attempt has the greens of the most updated one, and the common yellow list
abbrev pub HasBuilt : Chronicle → ℕ → Held → List Action → State → Type 0
HasBuilt d conf h all (Construct at announced) =
    (let heard = (handed_talk d conf h.id).heard in IsSomeWith (best_told d conf heard) (λ best. (all ≡ best.greens) × (yellow_of h ≡ common_yellow heard)))
HasBuilt d conf h all _ = Unit {0}

-- what a member holds behind a message
abbrev pub HoldsThen : Chronicle → ℕ → Told → List Action → Turn → Type 0
HoldsThen d conf mine all u = IsInExchange d conf mine u.replica.held all u.replica.state × HasBuilt d conf u.replica.held all u.replica.state

-- what a member has at its end
pub record EndsAs (heard : List Summary) (best mine : Told) (h : Held) (all : List Action) : Type 0 where
  pub greens : all ≡ best.greens
  pub usable : usable_names h.queue (common_yellow heard).list ≡ (common_yellow heard).list
  pub vulnerable : h.vulnerable ≡ mine.summary.vulnerable

-- what it holds then of what it told is the same
emptied : (mine : Told) (h : Held) (all : List Action) → IsUnmoved mine h all → IsUnmoved mine (record h { buffered = [] }) all
emptied mine h all is = record {
  holds = record { prim = is.holds.prim; attempt_index = is.holds.attempt_index; vulnerable = is.holds.vulnerable; yellow_valid = is.holds.yellow_valid };
  yellow = is.yellow;
  greens = is.greens;
  red_cut = is.red_cut;
}

module _ (c d : Chronicle) (conf p : ℕ) (mine : Told) (told : (k q : ℕ) → told_in d k q ≡ told_in c k q) (heard : List Summary) (handed : (handed_talk d conf p).heard ≡ heard) (all : List Action) where
  abbrev Then : Turn → Type 0
  Then u = HoldsThen d conf mine all u

  -- the common list is taken over whole
  yellow-over : (h : Held) → usable_names h.queue (common_yellow heard).list ≡ (common_yellow heard).list → yellow_of (take_over h heard) ≡ common_yellow heard
  unfolding take_over
  yellow-over h usable = ap (λ xs. (let y : Yellow = record { valid = (common_yellow heard).valid; list = xs } in y)) usable

  -- of a fact about the summaries that were heard and the most updated member
  by-heard : (P : List Summary → Told → Type 0) (best : Told) (q : ℕ) → q ≡ p → best_told c conf heard ≡ Some best → P heard best →
      (let l = (handed_talk d conf q).heard in IsSomeWith (best_told d conf l) (P l))
  by-heard P best q id most is =
      subst (λ (l : List Summary). IsSomeWith (best_told d conf l) (P l)) (sym (ap (λ x. (handed_talk d conf x).heard) id ∙ handed))
      (subst (λ (o : Option Told). IsSomeWith o (P heard)) (sym (best-same c d conf heard told ∙ most)) is)

  decide-there : (t : Turn) (at : ℕ) (best : Told) → t.replica.held.id ≡ p → best_told c conf heard ≡ Some best → EndsAs heard best mine t.replica.held all →
      Then (decide (with_held t (take_over t.replica.held heard)) at heard)
  unfolding decide attempt take_over
  decide-there t at best id most ends =
      let h = t.replica.held in
      let over = with_held t (take_over h heard) in
      let yellow = yellow-over h ends.usable in
      let taken : HasTakenOver heard best mine (take_over h heard) all = record { greens = ends.greens; prim = refl; yellow = yellow; vulnerable = ap (decided heard) ends.vulnerable } in
      cond_both (decides heard) (attempt over at heard) (go_to over (NonPrim true)) Then
      (λ y. (tt, by-heard (λ l best. (all ≡ best.greens) × (yellow_of (take_over h heard) ≡ common_yellow l)) best h.id id most (ends.greens, yellow)))
      (λ n. (by-heard (λ l best. HasTakenOver l best mine (take_over h heard) all) best h.id id most taken, tt))

  end-there : (t : Turn) (at k : ℕ) (best : Told) → t.replica.held.id ≡ p → best_told c conf heard ≡ Some best → IsInExchange c conf mine t.replica.held all (ExchangeActions at heard k) →
      (has (gone heard) t.replica.held.id ≡ false → EndsAs heard best mine t.replica.held all) → Then (end_plan t at heard)
  unfolding end_plan
  end-there t at k best id most is ends =
      let h = t.replica.held in
      cond_both (has (gone heard) h.id) (go_to (empty_buffer t) Left) (decide (with_held t (take_over h heard)) at heard) Then
      (λ left. (emptied mine h all (subst (λ b. Either b (IsUnmoved mine h all) (IsSomeWith (best_told c conf heard) (λ best. IsGoingOn heard k best mine h all))) left is), tt))
      (λ here. decide-there t at best id most (ends here))

  -- What a member holds as it goes on behind so many items.
  pub going-there : (t : Turn) (at k : ℕ) (best : Told) → t.replica.held.id ≡ p → best_told c conf heard ≡ Some best → IsInExchange c conf mine t.replica.held all (ExchangeActions at heard k) →
      (is_done (progress heard k) ≡ true → has (gone heard) t.replica.held.id ≡ false → EndsAs heard best mine t.replica.held all) → Then (go_on t at heard k)
  unfolding go_on
  going-there t at k best id most is ends =
      let going = go_to t (ExchangeActions at heard k) in
      let o = turn_of (plan_of heard) t.replica.held.id k in
      let sent = send_part going o in
      let same : sent.replica ≡ going.replica = sent-replica going o in
      let now : IsInExchange c conf mine sent.replica.held all (ExchangeActions at heard k) = subst (λ (x : Replica). IsInExchange c conf mine x.held all (ExchangeActions at heard k)) (sym same) is in
      cond_both (is_done (progress heard k)) (end_plan sent at heard) sent Then
      (λ done. end-there sent at k best (ap (λ (x : Replica). x.held.id) same ∙ id) most now
      (λ here. subst (λ (x : Replica). EndsAs heard best mine x.held all) (sym same) (ends done (ap (λ (x : Replica). has (gone heard) x.held.id) (sym same) ∙ here))))
      (λ yet. subst (λ (x : Replica). IsInExchange d conf mine x.held all x.state × HasBuilt d conf x.held all x.state) (sym same) (
        subst (λ (q : Option Told). Either (has (gone heard) t.replica.held.id) (IsUnmoved mine t.replica.held all) (IsSomeWith q (λ best. IsGoingOn heard k best mine t.replica.held all)))
            (sym (best-same c d conf heard told)) is,
        tt,
      ))
