-- What a recovery shows as made are its replica's own actions, made with the greens that it has.
use Rattle.std.proofs.Common.{◌≡◌, ℕ, suc, ◌<◌, ◌≤◌, Bool, true, false, ◌&&◌, List, [], ◌∷◌, ◌++◌, filter, fold, sym, ap, ◌∙◌, subst, arith, eqb-true, leb-true, nat_lt, nat_le, if◌then◌else◌}
use Rattle.std.specs.Prelude.{◌==◌}
use Rattle.std.proofs.lemmas.Bool.{and_parts, cond_both, ltb-true}
use Rattle.cg_base.specs.Lists.{Each}
use Rattle.cg_base.specs.EachLaws.{Each-append, Each-weaker}
use Rattle.cg_base.specs.declared.action_id.ActionId.{ActionId}
use Rattle.cg_base.specs.declared.weighted.Weighted.{Weighted}
use Rattle.cg_base.specs.Cuts.{index_in}
use Rattle.cg_action.specs.declared.action.Action.{Action}
use Rattle.cg_queue.specs.Queue.{Marks, Gaps, placed_red, names_of, green_count}
use Rattle.cg_queue.specs.declared.mark.Mark.TheVariants.{Placed, Known}
use Rattle.cg_client.specs.Replica.{Held, NonPrim}
use Rattle.cg_client.specs.Turn.{Turn, begin}
use Rattle.cg_client.specs.Marks.{marked}
use Rattle.cg_client.specs.Summary.{redden, forget_own, own_to_red}
use Rattle.cg_disk_records.specs.Stored.{recovery_turn}
use Rattle.cg_disk_records.specs.Crash.{Disk, recovered}
use Rattle.cg_disk_records.specs.Holds.{cut_behind}
use Rattle.cg_model.specs.Show.{unshown}
use Rattle.cg_agree_lemmas.specs.HeldMarks.{IsOneself, are_within, rising-green, counted}
use Rattle.cg_agree_lemmas.specs.HeldAll.{run-within}
use Rattle.cg_agree_lemmas.specs.HeldCommit.{recovered-oneself, recovered-id}
use Rattle.cg_agree_lemmas.specs.BookedRows.{each-with_red}
use Rattle.cg_agree_lemmas.specs.StepMakes.{IsOwnNow}

-- Of a replica that is down, of which so many were shown as made: its own actions beyond are the last ones, made with the greens that
-- it has.
pub record IsOwnLast (n p : ℕ) (h : Held) : Type 0 where
  pub kept : List Action
  pub made : List Action
  pub own : h.own ≡ kept ++ made
  pub now : Each (λ a. a.green_line ≡ green_count h.queue) made
  pub below : Each (λ a. a.id.index ≤ n) kept
  pub red : index_in h.queue.red_cut p ≤ n

-- ---- own actions become red

module _ (Fine : Action → Type 0) where
  redden-reds : (t : Turn) (a : Action) → Fine a → Each Fine t.replica.held.queue.reds → Each Fine (redden t a).replica.held.queue.reds
  redden-reds t a fine each =
      let q = t.replica.held.queue in
      let cut = index_in q.red_cut a.id.creator in
      cond_both (nat_le a.id.index cut) (Marks Known q) (if a.id.index == suc cut then Marks Placed (placed_red q a) else Gaps cut) (λ m. Each Fine (marked t a m).replica.held.queue.reds)
      (λ y. each)
      (λ n. cond_both (a.id.index == suc cut) (Marks Placed (placed_red q a)) (Gaps cut) (λ m. Each Fine (marked t a m).replica.held.queue.reds)
      (λ y. each-with_red Fine q.reds a fine each)
      (λ n. each))

  reddens-reds : (list : List Action) (t : Turn) → Each Fine list → Each Fine t.replica.held.queue.reds → Each Fine (fold redden t list).replica.held.queue.reds
  reddens-reds [] t new each = each
  reddens-reds (a ∷ list) t new each = reddens-reds list (redden t a) new.1 (redden-reds t a new.0 each)

  own-reds : (t : Turn) → Each Fine t.replica.held.own → Each Fine t.replica.held.queue.reds → Each Fine (own_to_red t).replica.held.queue.reds
  unfolding own_to_red
  own-reds t own each = reddens-reds t.replica.held.own (forget_own t) own each

-- ---- what wasn't shown

-- an action beyond what was shown has this line
abbrev IsBeyondLined : ℕ → ℕ → ℕ → Action → Type 0
IsBeyondLined n p k a = a.id.creator ≡ p → n < a.id.index → a.green_line ≡ k

reds-lined : (far : List ActionId) (n p k : ℕ) (reds : List Action) → index_in far p ≤ n → are_within far (names_of reds) ≡ true → Each (IsBeyondLined n p k) reds
reds-lined far n p k [] le within = tt
reds-lined far n p k (a ∷ reds) le within =
    let parts = and_parts (nat_le a.id.index (index_in far a.id.creator)) (are_within far (names_of reds)) within in
    let below : a.id.index ≤ index_in far a.id.creator = leb-true a.id.index (index_in far a.id.creator) parts.0 in
    ((λ mine more. (let here : index_in far a.id.creator ≡ index_in far p = ap (index_in far) mine in absurd (omega arith))), reds-lined far n p k reds le parts.1)

-- what passes a test
passed : (P Q : Action → Type 0) (t : Action → Bool) → ((a : Action) → t a ≡ true → Q a → P a) → (xs : List Action) → Each Q xs → Each P (filter t xs)
passed P Q t of [] each = tt
passed P Q t of (a ∷ xs) each = cond_both (t a) (a ∷ filter t xs) (filter t xs) (Each P) (λ y. (of a y each.0, passed P Q t of xs each.1)) (λ n. passed P Q t of xs each.1)

pub recovery-makes : (made : List ActionId) (start : List Weighted) (p : ℕ) (disk : Disk) (all : List Action) → IsOneself start disk.content all → disk.content.id ≡ p → IsOwnLast (index_in made p) p disk.content →
    Each (IsOwnNow (recovered disk).held) (unshown made (recovered disk).held)
unfolding recovery_turn
recovery-makes made start p disk all is mine last =
    let h = disk.content in
    let t = begin (record { held = h; state = NonPrim false }) in
    let r = recovered disk in
    let n = index_in made p in
    let k = green_count h.queue in
    let far = cut_behind h.queue.green_cut (names_of h.queue.reds) in
    let cut : index_in h.queue.red_cut p ≡ index_in far p = ap (λ c. index_in c p) is.made_of.red_cut in
    let low : index_in h.queue.red_cut p ≤ n = last.red in
    let reds : Each (IsBeyondLined n p k) h.queue.reds =
    reds-lined far n p k h.queue.reds (omega arith) (run-within h.queue.green_cut (names_of h.queue.reds) (rising-green start h all is) is.contiguous.reds) in
    let own : Each (IsBeyondLined n p k) h.own =
    subst (Each (IsBeyondLined n p k)) (sym last.own) (Each-append (IsBeyondLined n p k) last.kept last.made
    (Each-weaker (λ a. a.id.index ≤ n) (IsBeyondLined n p k) (λ a le mine more. absurd (omega arith)) last.kept last.below)
    (Each-weaker (λ a. a.green_line ≡ k) (IsBeyondLined n p k) (λ a line mine more. line) last.made last.now)) in
    let named : r.held.id ≡ p = recovered-id h ∙ mine in
    let count : k ≡ green_count r.held.queue = counted start h all is ∙ sym (counted start r.held all (recovered-oneself start h all is)) in
    passed (IsOwnNow r.held) (IsBeyondLined n p k) (λ a. (a.id.creator == r.held.id) && nat_lt (index_in made r.held.id) a.id.index)
    (λ a test lined. (
    let parts = and_parts (a.id.creator == r.held.id) (nat_lt (index_in made r.held.id) a.id.index) test in
    let of : a.id.creator ≡ r.held.id = eqb-true a.id.creator r.held.id parts.0 in
    let more : index_in made r.held.id < a.id.index = ltb-true (index_in made r.held.id) a.id.index parts.1 in
    let same : index_in made r.held.id ≡ n = ap (index_in made) named in
    (of, lined (of ∙ named) (omega arith) ∙ count)
    )) r.held.queue.reds (own-reds (IsBeyondLined n p k) t own reds)
