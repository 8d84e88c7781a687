-- An action that a replica has created stands among its own, its reds or its greens: also as its line shows them.
use Rattle.std.proofs.Common.{◌≡◌, ◌≤◌, true, false, not, ◌&&◌, ◌||◌, List, [], ◌∷◌, ◌++◌, filter, Contains, sym, ap, ap₂, ◌∙◌, subst, inl, inr, arith, eqb-true, append_assoc, ◌<◌}
use Rattle.std.specs.Prelude.{◌==◌}
use Rattle.std.proofs.lemmas.Bool.{cases_Bool, cases_lt, cond-true, cond-false, and_parts, or_cases, lt-ltb, le-leb}
use Rattle.std.proofs.lemmas.List.Elements.{Contains-append_left, Contains-append_right}
use Rattle.cg_base.specs.declared.action_id.ActionId.{ActionId}
use Rattle.cg_base.specs.Ids.{has_name, same_id}
use Rattle.cg_base.specs.Cuts.{index_in}
use Rattle.cg_base.specs.IdLaws.{same_name}
use Rattle.cg_base.specs.ElementLaws.{contains-later, contains-here}
use Rattle.cg_action.specs.declared.action.Action.{Action}
use Rattle.cg_queue.specs.Queue.{QueueView, names_of}
use Rattle.cg_client.specs.Replica.{Held, created}
use Rattle.cg_client.specs.Queries.{plain_reds}
use Rattle.cg_model.specs.Chronicle.{Chronicle}
use Rattle.cg_model.specs.FactsReplica.{IsCore}
use Rattle.cg_disk_records.specs.Holds.{run_on, cut_behind, Rising}
use Rattle.cg_disk_records.specs.HeldLaws.{created-behind}
use Rattle.cg_disk_records.specs.CutRaiseLaws.{rising-behind}
use Rattle.cg_disk_records.specs.RunMarkLaws.{run-names}

-- ---- names and elements

pub contains-named : (ids : List ActionId) (id : ActionId) → has_name ids id ≡ true → Contains ids id
contains-named [] id is = absurd (let clash : false ≡ true = is in cc)
contains-named (x ∷ ids) id is = elim (or_cases (same_id id x) (has_name ids id) is) [
  | inl here ↦
      let parts = and_parts (id.creator == x.creator) (id.index == x.index) here in
      subst (λ (y : ActionId). Contains (x ∷ ids) y) (sym (same_name id x (eqb-true id.creator x.creator parts.0) (eqb-true id.index x.index parts.1))) (contains-here x ids)
  | inr later ↦ contains-later x ids id (contains-named ids id later)
]

-- ---- reds that aren't yellow

module _ (yellow : List ActionId) where
  abbrev plain : List Action → List Action
  plain reds = filter (λ a. not (has_name yellow a.id)) reds

  same-named : (id x : ActionId) → same_id id x ≡ true → has_name yellow x ≡ has_name yellow id
  same-named id x is =
      let parts = and_parts (id.creator == x.creator) (id.index == x.index) is in
      ap (has_name yellow) (sym (same_name id x (eqb-true id.creator x.creator parts.0) (eqb-true id.index x.index parts.1)))

  plain-named : (reds : List Action) (id : ActionId) → has_name (names_of reds) id ≡ true → has_name yellow id ≡ false → has_name (names_of (plain reds)) id ≡ true
  plain-named [] id is out = is
  plain-named (a ∷ reds) id is out = elim (cases_Bool (same_id id a.id)) [
    | inl here ↦
        let keeps : not (has_name yellow a.id) ≡ true = ap not (same-named id a.id here ∙ out) in
        ap (λ (xs : List Action). has_name (names_of xs) id) (cond-true (not (has_name yellow a.id)) (a ∷ plain reds) (plain reds) keeps) ∙ ap (λ b. b || has_name (names_of (plain reds)) id) here
    | inr other ↦
        let rest = plain-named reds id (sym (ap (λ b. b || has_name (names_of reds) id) other) ∙ is) out in
        elim (cases_Bool (not (has_name yellow a.id))) [
          | inl keeps ↦
              ap (λ (xs : List Action). has_name (names_of xs) id) (cond-true (not (has_name yellow a.id)) (a ∷ plain reds) (plain reds) keeps) ∙ ap (λ b. b || has_name (names_of (plain reds)) id) other ∙ rest
          | inr drops ↦ ap (λ (xs : List Action). has_name (names_of xs) id) (cond-false (not (has_name yellow a.id)) (a ∷ plain reds) (plain reds) drops) ∙ rest
        ]
  ]

-- ---- what is created

between : (cut ids : List ActionId) (id : ActionId) → Rising 0 cut → run_on cut ids ≡ true → index_in cut id.creator < id.index → id.index ≤ index_in (cut_behind cut ids) id.creator → Contains ids id
between cut ids id rising run low high =
    contains-named ids id (run-names cut ids id rising run ∙ ap₂ (λ a b. a && b) (lt-ltb (index_in cut id.creator) id.index low) (le-leb id.index (index_in (cut_behind cut ids) id.creator) high))

module _ (c : Chronicle) (h : Held) (all : List Action) (core : IsCore c h all) (id : ActionId) (mine : id.creator ≡ h.id) where
  abbrev q : QueueView
  q = h.queue

  green-rises : Rising 0 q.green_cut
  green-rises = subst (Rising 0) (sym core.made_of.green_cut) (rising-behind [] (names_of all) tt)

  red-rises : Rising 0 q.red_cut
  red-rises = subst (Rising 0) (sym core.made_of.red_cut) (rising-behind q.green_cut (names_of q.reds) green-rises)

  green-there : 1 ≤ id.index → id.index ≤ index_in q.green_cut id.creator → Contains (names_of all) id
  green-there some low =
      between [] (names_of all) id tt core.contiguous.greens (omega arith) (subst (λ cut. id.index ≤ index_in cut id.creator) core.made_of.green_cut low)

  red-there : index_in q.green_cut id.creator < id.index → id.index ≤ index_in q.red_cut id.creator → Contains (names_of (plain_reds q) ++ q.yellow) id
  red-there low high =
      let named : has_name (names_of q.reds) id ≡ true =
      run-names q.green_cut (names_of q.reds) id green-rises core.contiguous.reds
      ∙ ap₂ (λ a b. a && b) (lt-ltb (index_in q.green_cut id.creator) id.index low)
      (le-leb id.index (index_in (cut_behind q.green_cut (names_of q.reds)) id.creator) (subst (λ cut. id.index ≤ index_in cut id.creator) core.made_of.red_cut high)) in
      elim (cases_Bool (has_name q.yellow id)) [
        | inl marked ↦ Contains-append_right (names_of (plain_reds q)) q.yellow id (contains-named q.yellow id marked)
        | inr not_marked ↦ Contains-append_left (names_of (plain_reds q)) q.yellow id (contains-named (names_of (plain_reds q)) id (plain-named q.yellow q.reds id named not_marked))
      ]

  own-there : index_in q.red_cut id.creator < id.index → id.index ≤ created h → Contains (names_of h.own) id
  own-there low high =
      let behind : index_in (cut_behind q.red_cut (names_of h.own)) id.creator ≡ created h =
      ap (index_in (cut_behind q.red_cut (names_of h.own))) mine ∙ created-behind q.red_cut h.id h.own red-rises core.contiguous.own core.contiguous.mine in
      between q.red_cut (names_of h.own) id red-rises core.contiguous.own low (omega arith)

  pub created-there : 1 ≤ id.index → id.index ≤ created h → Contains (((names_of h.own ++ names_of (plain_reds q)) ++ q.yellow) ++ names_of all) id
  created-there some high =
      let own = names_of h.own in
      let reds = names_of (plain_reds q) in
      let others = (own ++ reds) ++ q.yellow in
      elim (cases_lt (index_in q.red_cut id.creator) id.index) [
        | inl beyond ↦ Contains-append_left others (names_of all) id (Contains-append_left (own ++ reds) q.yellow id (Contains-append_left own reds id (own-there beyond high)))
        | inr known ↦ elim (cases_lt (index_in q.green_cut id.creator) id.index) [
          | inl red ↦ Contains-append_left others (names_of all) id
              (subst (λ (ids : List ActionId). Contains ids id) (sym (append_assoc own reds q.yellow)) (Contains-append_right own (reds ++ q.yellow) id (red-there red known)))
          | inr low ↦ Contains-append_right others (names_of all) id (green-there some low)
        ]
      ]
