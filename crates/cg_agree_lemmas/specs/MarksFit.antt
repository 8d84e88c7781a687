-- Marks that change what they are counted by fit: a green mark by which the greens are one more, a red one behind which the action is
-- known, and all marks of an installation.
use Rattle.std.proofs.Common.{◌≡◌, ℕ, suc, ◌≤◌, ◌+◌, true, false, ◌&&◌, List, [], ◌∷◌, ◌++◌, fold, length, length-append, cond, refl, ap, ◌∙◌, arith, inl, inr, not}
use Rattle.std.specs.Prelude.{◌==◌, nat_le}
use Rattle.std.proofs.lemmas.Bool.{cases_Bool, cases_lt, or_left, or_right, cond-true, cond-false, cond_both, and_from, le-leb, lt-leb, ne_eqb, eq-eqb}
use Rattle.cg_base.specs.declared.weighted.Weighted.{Weighted}
use Rattle.cg_base.specs.Cuts.{index_in}
use Rattle.cg_action.specs.declared.action.Action.{Action}
use Rattle.cg_queue.specs.Queue.{green_count, marked_red, placed_red, Marks, Gaps}
use Rattle.cg_queue.specs.declared.mark.Mark.TheVariants.{Placed, Known}
use Rattle.cg_client.specs.Turn.{Turn}
use Rattle.cg_client.specs.Marks.{is_unmade, can_be_green, marked, mark_red, place_green, mark_green, mark_green_at}
use Rattle.cg_client.specs.Install.{valid_yellow, yellow_green}
use Rattle.cg_disk_records.specs.Holds.{run_on}
use Rattle.cg_model.specs.Total.{fits_green, fits_red, all_fit, CanInstall}
use Rattle.cg_agree_lemmas.specs.HeldMarks.{IsOneself, are_within}
use Rattle.cg_agree_lemmas.specs.HeldInstall.{green-run}
use Rattle.cg_agree_lemmas.specs.HeldAll.{valid-named, valid-run, valid-known, yellow-named, reds-green}

abbrev greens : Turn → ℕ
greens t = length t.replica.held.queue.greens

-- ---- green marks

-- a green mark adds at most one
green-more : (t : Turn) (a : Action) → greens (mark_green t a) ≤ suc (greens t)
unfolding mark_green place_green
green-more t a = cond_both (can_be_green t.replica.held a) (place_green t a) t (λ u. greens u ≤ suc (greens t))
    (λ y. (let e = longer t.replica.held.queue.greens in omega (arith, e))) (λ n. omega arith) where
      longer : (xs : List Action) → length (xs ++ a ∷ []) ≡ suc (length xs)
      longer [] = refl
      longer (x ∷ xs) = ap suc (longer xs)

greens-more : (t : Turn) (list : List Action) → greens (fold mark_green t list) ≤ greens t + length list
greens-more t [] = omega arith
greens-more t (a ∷ list) =
    let one = green-more t a in
    let rest = greens-more (mark_green t a) list in
    omega (arith, one, rest)

-- one that doesn't fit adds none
green-none : (t : Turn) (a : Action) → can_be_green t.replica.held a ≡ false → mark_green t a ≡ t
unfolding mark_green
green-none t a cant = cond-false (can_be_green t.replica.held a) (place_green t a) t cant

-- where each adds one, all fit
pub all-fit : (t : Turn) (list : List Action) → greens (fold mark_green t list) ≡ greens t + length list → all_fit t list ≡ true
all-fit t [] e = refl
all-fit t (a ∷ list) e = elim (cases_Bool (can_be_green t.replica.held a)) [
  | inl can ↦
      let one = green-more t a in
      let rest = greens-more (mark_green t a) list in
      let all = e in
      and_from (can_be_green t.replica.held a) (all_fit (mark_green t a) list) can (all-fit (mark_green t a) list (omega (arith, one, rest, all)))
  | inr cant ↦
      let same : greens (mark_green t a) ≡ greens t = ap greens (green-none t a cant) in
      let rest = greens-more (mark_green t a) list in
      let all = e in
      absurd (omega (arith, same, rest, all))
]

-- all marks of an installation fit
pub can-install : (start : List Weighted) (all : List Action) (t : Turn) → IsOneself start t.replica.held all → CanInstall t
can-install start all t is =
    let h = t.replica.held in
    let named = valid-named start h all is in
    let first = green-run start all t (valid_yellow h) is (ap (run_on h.queue.green_cut) named ∙ valid-run start h all is) (ap (are_within h.queue.red_cut) named ∙ valid-known start h all is) in
    let u = yellow_green t in
    let second = reds-green start (all ++ valid_yellow h) u first.is in
    record {
      named = elim (cases_Bool h.yellow_valid) [ inl valid ↦ rw valid (yellow-named start h all is) | inr none ↦ rw none tt ];
      yellow = all-fit t (valid_yellow h) (ap length first.kept ∙ length-append h.queue.greens (valid_yellow h));
      reds = all-fit u u.replica.held.queue.reds (ap length second.kept ∙ length-append u.replica.held.queue.greens u.replica.held.queue.reds);
    }

-- a green mark at the next place behind which one more is green fits
pub green-fits : (t : Turn) (place : ℕ) (a : Action) → place ≤ suc (green_count t.replica.held.queue) →
    (place ≡ suc (green_count t.replica.held.queue) → green_count (mark_green_at t place a).replica.held.queue ≡ suc (green_count t.replica.held.queue)) → fits_green t.replica.held place a ≡ true
green-fits t place a low more =
    let count = green_count t.replica.held.queue in
    elim (cases_lt count place) [
      | inr le ↦ or_left (nat_le place count) ((place == suc count) && can_be_green t.replica.held a) (le-leb place count le)
      | inl lt ↦
          let next : place ≡ suc count = omega (arith, low, lt) in
          or_right (nat_le place count) ((place == suc count) && can_be_green t.replica.held a)
          (and_from (place == suc count) (can_be_green t.replica.held a) (eq-eqb place (suc count) next) (elim (cases_Bool (can_be_green t.replica.held a)) [
            | inl can ↦ can
            | inr cant ↦
                let same : green_count (mark_green_at t place a).replica.held.queue ≡ count =
                ap (λ (u : Turn). green_count u.replica.held.queue) (cond-true (place == suc count) (mark_green t a) t (eq-eqb place (suc count) next) ∙ green-none t a cant) in
                let all = more next in
                absurd (omega (arith, same, all))
          ]))
    ]

-- ---- red marks

-- one behind which the action is known fits
pub red-fits : (t : Turn) (a : Action) → is_unmade t.replica.held a ≡ false → a.id.index ≤ index_in (mark_red t a).replica.held.queue.red_cut a.id.creator → fits_red t.replica.held a ≡ true
unfolding mark_red
red-fits t a made known =
    let q = t.replica.held.queue in
    let cut = index_in q.red_cut a.id.creator in
    let test = nat_le a.id.index (suc cut) in
    and_from test (not (is_unmade t.replica.held a)) (elim (cases_lt (suc cut) a.id.index) [
      | inr le ↦ le-leb a.id.index (suc cut) le
      | inl lt ↦
          let far : nat_le a.id.index cut ≡ false = lt-leb a.id.index cut (omega (arith, lt)) in
          let apart : (a.id.index == suc cut) ≡ false = ne_eqb a.id.index (suc cut) (λ e. absurd (omega (arith, lt, e))) in
          let gap : marked_red q a ≡ Gaps cut =
          cond-false (nat_le a.id.index cut) (Marks Known q) (cond (a.id.index == suc cut) (Marks Placed (placed_red q a)) (Gaps cut)) far
          ∙ cond-false (a.id.index == suc cut) (Marks Placed (placed_red q a)) (Gaps cut) apart in
          let same : index_in (cond (is_unmade t.replica.held a) t (marked t a (marked_red q a))).replica.held.queue.red_cut a.id.creator ≡ cut =
          cond_both (is_unmade t.replica.held a) t (marked t a (marked_red q a)) (λ u. index_in u.replica.held.queue.red_cut a.id.creator ≡ cut) (λ y. refl)
          (λ n. ap (λ m. index_in (marked t a m).replica.held.queue.red_cut a.id.creator) gap) in
          absurd (omega (arith, lt, same, known))
    ]) (ap not made)
