-- The names of the actions that a replica knows: of each creator those up to its index in the red cut, each once.
use Rattle.std.proofs.Common.{◌≡◌, ℕ, zero, suc, ◌≤◌, Bool, true, false, not, ◌&&◌, List, [], ◌∷◌, ◌++◌, refl, sym, ap, ◌∙◌, subst, inl, inr, arith}
use Rattle.std.specs.Prelude.{nat_lt, nat_le}
use Rattle.std.specs.List.{list_all}
use Rattle.std.proofs.lemmas.Bool.{cases_Bool, and_parts, and_from, or_cases, false_from_ne_true}
use Rattle.cg_base.specs.declared.action_id.ActionId.{ActionId}
use Rattle.cg_base.specs.Ids.{has_name, same_id}
use Rattle.cg_base.specs.IdLaws.{same_id-is}
use Rattle.cg_base.specs.Cuts.{index_in}
use Rattle.cg_action.specs.declared.action.Action.{Action}
use Rattle.cg_queue.specs.Queue.{names_of}
use Rattle.cg_client.specs.Replica.{Held}
use Rattle.cg_client.specs.Chosen.{plain_reds}
use Rattle.cg_disk_records.specs.Holds.{run_on, cut_behind, Rising}
use Rattle.cg_disk_records.specs.CutRaiseLaws.{rising-behind}
use Rattle.cg_disk_records.specs.RunLaws.{cut_behind-append, run_on-append}
use Rattle.cg_disk_records.specs.RunMarkLaws.{run-names}
use Rattle.cg_model.specs.Chronicle.{Chronicle}
use Rattle.cg_model.specs.FactsReplica.{IsCore}
use Rattle.cg_agree_lemmas.specs.NamesTimes.{named-times, times-named, times-passing, times-failing, times-once}
use Rattle.cg_agree_lemmas.specs.RepliesPlaced.{times, times-both}
use Rattle.cg_queue.specs.NameLaws.{names-filter}

-- the name is of an action, and none behind the cut
abbrev pub is_up_to : List ActionId → ActionId → Bool
is_up_to cut id = nat_lt 0 id.index && nat_le id.index (index_in cut id.creator)

-- the names are those up to the cut, each once
pub record AreUpTo (cut ids : List ActionId) : Type 0 where
  pub once : (id : ActionId) → times id ids ≤ 1
  pub known : (id : ActionId) → has_name ids id ≡ is_up_to cut id

-- ---- how often

pub not-named : (id : ActionId) (ids : List ActionId) → has_name ids id ≡ false → times id ids ≡ 0
not-named id ids none = at (times id ids) refl where
  at : (n : ℕ) → times id ids ≡ n → times id ids ≡ 0
  at zero is = is
  at (suc n) is =
      let there = times-named id ids (omega arith) in
      absurd (let clash : true ≡ false = sym there ∙ none in cc)

-- names that stand there once are there as often as the others
pub same-times : (id : ActionId) (xs ys : List ActionId) → times id xs ≤ 1 → times id ys ≤ 1 →
    has_name xs id ≡ has_name ys id → times id xs ≡ times id ys
same-times id xs ys one other same = elim (cases_Bool (has_name xs id)) [
  | inl there ↦
      let here = named-times id xs there in
      let also = named-times id ys (sym same ∙ there) in
      omega arith
  | inr none ↦ not-named id xs none ∙ sym (not-named id ys (sym same ∙ none))
]

pub as-often : (cut xs ys : List ActionId) → AreUpTo cut xs → AreUpTo cut ys → (id : ActionId) →
    times id xs ≡ times id ys
as-often cut xs ys one other id = same-times id xs ys (one.once id) (other.once id) (one.known id ∙ sym (other.known id))

-- names that are there as often as others
pub named-as : (id : ActionId) (xs ys : List ActionId) → times id xs ≡ times id ys → has_name xs id ≡ has_name ys id
named-as id xs ys same = elim (cases_Bool (has_name xs id)) [
  | inl there ↦ there ∙ sym (times-named id ys (let here = named-times id xs there in omega arith))
  | inr none ↦ none ∙ sym (false_from_ne_true (has_name ys id) (λ there.
      let here = named-times id ys there in
      let zero_times = not-named id xs none in
      absurd (omega arith)))
]

pub up-to-as : (cut xs ys : List ActionId) → ((id : ActionId) → times id xs ≡ times id ys) → AreUpTo cut ys →
    AreUpTo cut xs
up-to-as cut xs ys same is = record {
  once = λ id. (let as_often = same id in let most = is.once id in omega arith);
  known = λ id. named-as id xs ys (same id) ∙ is.known id;
}

-- ---- what runs on

pub run-up-to : (ids : List ActionId) → run_on [] ids ≡ true → AreUpTo (cut_behind [] ids) ids
run-up-to ids run = record { once = λ id. times-once [] ids id tt run; known = λ id. run-names [] ids id tt run }

all-there : (t : ActionId → Bool) (ids : List ActionId) (id : ActionId) → list_all t ids ≡ true → 1 ≤ times id ids →
    t id ≡ true
all-there t ids id all some = at ids all (times-named id ids some) where
  at : (ids : List ActionId) → list_all t ids ≡ true → has_name ids id ≡ true → t id ≡ true
  at [] all named = absurd (let clash : false ≡ true = named in cc)
  at (x ∷ ids) all named =
      let parts = and_parts (t x) (list_all t ids) all in
      elim (or_cases (same_id id x) (has_name ids id) named) [
        | inl here ↦ ap t (same_id-is id x here) ∙ parts.0
        | inr later ↦ at ids parts.1 later
      ]

module _ (c : Chronicle) (h : Held) (greens : List Action) (core : IsCore c h greens) where
  abbrev reds : List ActionId
  reds = names_of h.queue.reds

  abbrev yellow : List ActionId
  yellow = h.queue.yellow

  green-cut : h.queue.green_cut ≡ cut_behind [] (names_of greens)
  green-cut = core.made_of.green_cut

  rising-green : Rising 0 h.queue.green_cut
  rising-green = subst (Rising 0) (sym green-cut) (rising-behind [] (names_of greens) tt)

  -- the greens and then the reds
  pub all-known : AreUpTo h.queue.red_cut (names_of greens ++ reds)
  all-known =
      let runs : run_on [] (names_of greens ++ reds) ≡ true =
      run_on-append [] (names_of greens) reds
      ∙ and_from (run_on [] (names_of greens)) (run_on (cut_behind [] (names_of greens)) reds) core.contiguous.greens (ap (λ cut. run_on cut reds) (sym green-cut) ∙ core.contiguous.reds) in
      let cut : cut_behind [] (names_of greens ++ reds) ≡ h.queue.red_cut =
      cut_behind-append [] (names_of greens) reds ∙ ap (λ cut. cut_behind cut reds) (sym green-cut) ∙ sym core.made_of.red_cut in
      subst (λ cut. AreUpTo cut (names_of greens ++ reds)) cut (run-up-to (names_of greens ++ reds) runs)

  -- a yellow name is that of a red action
  yellow-red : (id : ActionId) → has_name yellow id ≡ true → has_name reds id ≡ true
  yellow-red id named =
      let above = and_parts (nat_lt (index_in h.queue.green_cut id.creator) id.index) (nat_le id.index (index_in (cut_behind h.queue.green_cut yellow) id.creator))
      (sym (run-names h.queue.green_cut yellow id rising-green core.yellow_closed.next) ∙ named) in
      let below : nat_le id.index (index_in h.queue.red_cut id.creator) ≡ true =
      all-there (λ id. nat_le id.index (index_in h.queue.red_cut id.creator)) yellow id core.yellow_closed.known (named-times id yellow named) in
      run-names h.queue.green_cut reds id rising-green core.contiguous.reds
      ∙ and_from (nat_lt (index_in h.queue.green_cut id.creator) id.index) (nat_le id.index (index_in (cut_behind h.queue.green_cut reds) id.creator)) above.0
      (ap (λ cut. nat_le id.index (index_in cut id.creator)) (sym core.made_of.red_cut) ∙ below)

  -- the yellow names and then those of the other reds are there as often as the reds
  marked-times : (id : ActionId) → times id (yellow ++ names_of (plain_reds h.queue)) ≡ times id reds
  marked-times id =
      let both = times-both id yellow (names_of (plain_reds h.queue)) in
      let plain = ap (times id) (names-filter (λ id. not (has_name yellow id)) h.queue.reds) in
      elim (cases_Bool (has_name yellow id)) [
        | inl there ↦
            let none = times-failing (λ id. not (has_name yellow id)) id reds (ap not there) in
            let one = named-times id yellow there in
            let most = times-once h.queue.green_cut yellow id rising-green core.yellow_closed.next in
            let red = named-times id reds (yellow-red id there) in
            let once = times-once h.queue.green_cut reds id rising-green core.contiguous.reds in
            omega arith
        | inr other ↦
            let all = times-passing (λ id. not (has_name yellow id)) id reds (ap not other) in
            let none = not-named id yellow other in
            omega arith
      ]

  -- the greens, and then the marked ones
  pub line-known : AreUpTo h.queue.red_cut (names_of greens ++ (yellow ++ names_of (plain_reds h.queue)))
  line-known =
      let marked = yellow ++ names_of (plain_reds h.queue) in
      up-to-as h.queue.red_cut (names_of greens ++ marked) (names_of greens ++ reds)
      (λ id.
      let same = marked-times id in
      let one = times-both id (names_of greens) marked in
      let other = times-both id (names_of greens) reds in
      omega arith)
      all-known
