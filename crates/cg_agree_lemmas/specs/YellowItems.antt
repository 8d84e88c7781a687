-- The yellow names that a member told, behind the items of a plan: those that aren't green.
use Rattle.std.proofs.Common.{◌≡◌, ℕ, suc, ◌<◌, ◌≤◌, Bool, true, false, cond, not, ◌&&◌, List, [], ◌∷◌, filter, refl, sym, ap, ◌∙◌, ⊎_elim, inl, inr, arith, eqb-true}
use Rattle.std.specs.Prelude.{◌==◌, nat_lt, nat_le}
use Rattle.std.specs.List.{list_all}
use Rattle.std.proofs.lemmas.Bool.{cases_eq, cases_lt, cond-true, cond_both, and_parts, not-true, lt-ltb, le-ltb, leb-false}
use Rattle.cg_base.specs.declared.action_id.ActionId.{ActionId}
use Rattle.cg_base.specs.Cuts.{index_in, raise}
use Rattle.cg_base.specs.Ids.{same_id}
use Rattle.cg_base.specs.IdLaws.{same_id-true, same_id-false}
use Rattle.cg_base.specs.BoolLaws.{and_false}
use Rattle.cg_action.specs.declared.action.Action.{Action}
use Rattle.cg_queue.specs.Queue.{Marks, Gaps, green_count, marked_red, placed_red}
use Rattle.cg_queue.specs.declared.mark.Mark.TheVariants.{Placed, Known}
use Rattle.cg_wire.specs.declared.message.Msg.{Msg}
use Rattle.cg_wire.specs.declared.message.Msg.TheVariants.{Action as ActionMsg, State as StateMsg, GreenItem, RedItem, Cpc}
use Rattle.cg_client.specs.Replica.{Held}
use Rattle.cg_client.specs.Turn.{Turn}
use Rattle.cg_client.specs.Marks.{is_unmade, marked, mark_red, can_be_green, place_green, mark_green}
use Rattle.cg_states.specs.ExchangeActions.{mark_item}
use Rattle.cg_disk_records.specs.Holds.{run_on, Rising}
use Rattle.cg_disk_records.specs.CutRaiseLaws.{index-same, index-other}
use Rattle.cg_agree_lemmas.specs.EndCuts.{run-above}

-- the names that aren't green
abbrev pub above_green : List ActionId → List ActionId → List ActionId
above_green cut ids = filter (λ id. nat_lt (index_in cut id.creator) id.index) ids

abbrev pub IsStillYellow : List ActionId → Held → Type 0
IsStillYellow ids h = h.queue.yellow ≡ above_green h.queue.green_cut ids

-- names that run on behind the greens are all there
pub above-all : (cut ids : List ActionId) → run_on cut ids ≡ true → above_green cut ids ≡ ids
above-all cut ids run = each ids (run-above ids cut cut run (λ p. (let le : index_in cut p ≤ index_in cut p = omega arith in le))) where
  each : (ids : List ActionId) → list_all (λ id. not (nat_le id.index (index_in cut id.creator))) ids ≡ true → above_green cut ids ≡ ids
  each [] above = refl
  each (id ∷ ids) above =
      let parts = and_parts (not (nat_le id.index (index_in cut id.creator))) (list_all (λ id. not (nat_le id.index (index_in cut id.creator))) ids) above in
      let lt = leb-false id.index (index_in cut id.creator) (not-true (nat_le id.index (index_in cut id.creator)) parts.0) in
      cond-true (nat_lt (index_in cut id.creator) id.index) (id ∷ above_green cut ids) (above_green cut ids) (lt-ltb (index_in cut id.creator) id.index lt)
      ∙ ap (λ xs. id ∷ xs) (each ids parts.1)

-- ---- one more is green

and-yes : (b : Bool) → (b && true) ≡ b
and-yes true = refl
and-yes false = refl

-- which names are above the cut that is raised to the next one
raised-test : (cut : List ActionId) (id x : ActionId) → Rising 0 cut → id.index ≡ suc (index_in cut id.creator) →
    nat_lt (index_in (raise cut id) x.creator) x.index ≡ (nat_lt (index_in cut x.creator) x.index && not (same_id x id))
raised-test cut id x rising next = ⊎_elim
    (λ (same : id.creator ≡ x.creator).
    let here = index-same cut id rising x.creator same in
    let at : index_in cut id.creator ≡ index_in cut x.creator = ap (index_in cut) same in
    ⊎_elim
    (λ (this : x.index ≡ id.index).
    le-ltb (index_in (raise cut id) x.creator) x.index (omega arith)
    ∙ sym (ap (λ b. nat_lt (index_in cut x.creator) x.index && not b) (same_id-true x id (sym same) this) ∙ and_false (nat_lt (index_in cut x.creator) x.index)))
    (λ (other : x.index ≡ id.index → ⊥).
    beside (index_in cut x.creator) (index_in (raise cut id) x.creator) x.index id.index (omega arith) (omega arith) other
    ∙ sym (ap (λ b. nat_lt (index_in cut x.creator) x.index && not b) (same_id-false x id (inr other)) ∙ and-yes (nat_lt (index_in cut x.creator) x.index)))
    (cases_eq x.index id.index))
    (λ (other : id.creator ≡ x.creator → ⊥).
    ap (λ n. nat_lt n x.index) (index-other cut id rising x.creator other)
    ∙ sym (ap (λ b. nat_lt (index_in cut x.creator) x.index && not b) (same_id-false x id (inl (λ e. other (sym e)))) ∙ and-yes (nat_lt (index_in cut x.creator) x.index)))
    (cases_eq id.creator x.creator)
  where
    beside : (low high n k : ℕ) → k ≡ suc low → high ≡ k → (n ≡ k → ⊥) → nat_lt high n ≡ nat_lt low n
    beside low high n k next is apart = ⊎_elim
        (λ (lt : k < n). lt-ltb high n (omega arith) ∙ sym (lt-ltb low n (omega arith)))
        (λ (le : n ≤ k). ⊎_elim (λ (same : n ≡ k). absurd (apart same)) (λ (less : n ≡ k → ⊥). le-ltb high n (omega arith) ∙ sym (le-ltb low n (omega arith))) (cases_eq n k))
        (cases_lt k n)

raised-step : (N : ActionId → Bool) (x : ActionId) (fs gs : List ActionId) → filter N fs ≡ gs → (a e : Bool) → e ≡ (a && N x) → filter N (cond a (x ∷ fs) fs) ≡ cond e (x ∷ gs) gs
raised-step N x fs gs rest true e same = ap (λ xs. cond (N x) (x ∷ xs) xs) rest ∙ ap (λ b. cond b (x ∷ gs) gs) (sym same)
raised-step N x fs gs rest false e same = rest ∙ ap (λ b. cond b (x ∷ gs) gs) (sym same)

above-raised : (cut : List ActionId) (id : ActionId) (ids : List ActionId) → Rising 0 cut → id.index ≡ suc (index_in cut id.creator) →
    filter (λ x. not (same_id x id)) (above_green cut ids) ≡ above_green (raise cut id) ids
above-raised cut id [] rising next = refl
above-raised cut id (x ∷ ids) rising next =
    raised-step (λ x. not (same_id x id)) x (above_green cut ids) (above_green (raise cut id) ids) (above-raised cut id ids rising next)
    (nat_lt (index_in cut x.creator) x.index) (nat_lt (index_in (raise cut id) x.creator) x.index) (raised-test cut id x rising next)

-- ---- marks

yellow-green : (ids : List ActionId) (t : Turn) (a : Action) → Rising 0 t.replica.held.queue.green_cut → IsStillYellow ids t.replica.held → IsStillYellow ids (mark_green t a).replica.held
unfolding mark_green can_be_green place_green
yellow-green ids t a rising is =
    let gc = t.replica.held.queue.green_cut in
    cond_both (can_be_green t.replica.held a) (place_green t a) t (λ u. IsStillYellow ids u.replica.held)
    (λ y.
    let next = eqb-true a.id.index (suc (index_in gc a.id.creator)) (and_parts (a.id.index == suc (index_in gc a.id.creator)) (not (is_unmade t.replica.held a)) y).0 in
    ap (λ (xs : List ActionId). filter (λ x. not (same_id x a.id)) xs) is ∙ above-raised gc a.id ids rising next)
    (λ n. is)

yellow-red : (ids : List ActionId) (t : Turn) (a : Action) → IsStillYellow ids t.replica.held → IsStillYellow ids (mark_red t a).replica.held
unfolding mark_red
yellow-red ids t a is =
    let q = t.replica.held.queue in
    let cut = index_in q.red_cut a.id.creator in
    cond_both (is_unmade t.replica.held a) t (marked t a (marked_red q a)) (λ u. IsStillYellow ids u.replica.held) (λ y. is)
    (λ n. cond_both (nat_le a.id.index cut) (Marks Known q) (cond (a.id.index == suc cut) (Marks Placed (placed_red q a)) (Gaps cut)) (λ m. IsStillYellow ids (marked t a m).replica.held) (λ y. is)
    (λ z. cond_both (a.id.index == suc cut) (Marks Placed (placed_red q a)) (Gaps cut) (λ m. IsStillYellow ids (marked t a m).replica.held) (λ y. is) (λ w. is)))

-- An item leaves those that aren't green.
pub yellow-item : (ids : List ActionId) (t : Turn) (m : Msg) → Rising 0 t.replica.held.queue.green_cut → IsStillYellow ids t.replica.held → IsStillYellow ids (mark_item t m).replica.held
yellow-item ids t (GreenItem place a) rising is =
    cond_both (place == suc (green_count t.replica.held.queue)) (mark_green t a) t (λ u. IsStillYellow ids u.replica.held) (λ y. yellow-green ids t a rising is) (λ n. is)
yellow-item ids t (RedItem a) rising is = yellow-red ids t a is
yellow-item ids t (ActionMsg a) rising is = is
yellow-item ids t (StateMsg s) rising is = is
yellow-item ids t (Cpc id conf) rising is = is
