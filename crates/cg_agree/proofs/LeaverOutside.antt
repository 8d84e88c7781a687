-- A member that is out of a level's configuration covers the level, where its yellow names begin with those of the actions that it hadn't
-- been handed there and that all who are out have received.
use Rattle.std.proofs.Common.{◌≡◌, ℕ, zero, suc, ◌+◌, ◌-◌, ◌≤◌, ◌<◌, true, false, List, [], ◌∷◌, ◌++◌, Option, Some, None, take, refl, sym, ap, ◌∙◌, ⊎_elim, subst, arith, append-nil}
use Rattle.std.specs.Option.{option_map_or}
use Rattle.std.specs.List.{cons_option}
use Rattle.std.proofs.lemmas.Bool.{cases_lt}
use Rattle.std.proofs.lemmas.List.{append_assoc, map-append}
use Rattle.cg_base.specs.declared.action_id.ActionId.{ActionId}
use Rattle.cg_base.specs.Lists.{at_place, count_up, above_up_to}
use Rattle.cg_action.specs.declared.action.Action.{Action}
use Rattle.cg_queue.specs.Queue.{names_of}
use Rattle.cg_wire.specs.declared.message.Msg.{Msg}
use Rattle.cg_group.specs.State.{Sent}
use Rattle.cg_model.specs.Chronicle.{Chronicle}
use Rattle.cg_model.specs.Fronts.{Front}
use Rattle.cg_model.specs.Looks.{ordered_in, is_regular_in, is_member, received_outside, top_of, attempt_at, installation}
use Rattle.cg_model.specs.Talk.{act_in, acts_in}
use Rattle.cg_model.specs.Levels.{reach_at}
use Rattle.cg_model.specs.FactsAttempts.{LevelsStand}
use Rattle.cg_model.specs.FactsGreens.{InstalledCount, CoversLevel}
use Rattle.cg_agree_lemmas.specs.FrontFacts.{Front-trans, Front-append, Front-behind, Front-takes, Front-map}
use Rattle.cg_agree.proofs.LeaverReach.{level-frozen, line_outside, reach-outside}
use Rattle.cg_agree_lemmas.specs.Reach.{acts-front}

-- ---- actions at places

abbrev pub act_at : List (Sent Msg) → ℕ → List Action
act_at ordered place = option_map_or (λ s. cons_option (act_in s.message) []) (at_place ordered place) []

abbrev pub acts_at : List (Sent Msg) → List ℕ → List Action
acts_at ordered [] = []
acts_at ordered (place ∷ places) = act_at ordered place ++ acts_at ordered places

acts-step : (k : ℕ) (ordered : List (Sent Msg)) → acts_in (take (suc k) ordered) ≡ acts_in (take k ordered) ++ act_at ordered (suc k)
acts-step zero [] = refl
acts-step (suc k) [] = refl
acts-step zero (s ∷ ordered) = refl
acts-step (suc k) (s ∷ ordered) = at (act_in s.message) (acts-step k ordered) where
  at : (o : Option Action) → acts_in (take (suc k) ordered) ≡ acts_in (take k ordered) ++ act_at ordered (suc k) →
      cons_option o (acts_in (take (suc k) ordered)) ≡ cons_option o (acts_in (take k ordered)) ++ act_at ordered (suc k)
  at None e = e
  at (Some a) e = ap (λ xs. a ∷ xs) e

-- The actions up to a place are those up to an earlier one and those between.
pub acts-split : (n low : ℕ) (ordered : List (Sent Msg)) → acts_in (take (low + n) ordered) ≡ acts_in (take low ordered) ++ acts_at ordered (count_up (suc low) n)
acts-split zero low ordered =
    let e : low + 0 ≡ low = omega arith in
    ap (λ k. acts_in (take k ordered)) e ∙ sym (append-nil (acts_in (take low ordered)))
acts-split (suc n) low ordered =
    let e : low + suc n ≡ suc low + n = omega arith in
    ap (λ k. acts_in (take k ordered)) e ∙ acts-split n (suc low) ordered ∙ ap (λ xs. xs ++ acts_at ordered (count_up (suc (suc low)) n)) (acts-step low ordered)
    ∙ append_assoc (acts_in (take low ordered)) (act_at ordered (suc low)) (acts_at ordered (count_up (suc (suc low)) n))

-- so their names begin with all of these, where the yellow names do with those between
pub row-covers : (low last : ℕ) (ordered : List (Sent Msg)) (yellow : List ActionId) → Front (names_of (acts_at ordered (above_up_to low last))) yellow →
    Front (names_of (acts_in (take last ordered))) (names_of (acts_in (take low ordered)) ++ yellow)
row-covers low last ordered yellow front = ⊎_elim
    (λ (less : last < low).
    Front-trans (names_of (acts_in (take last ordered))) (names_of (acts_in (take low ordered))) (names_of (acts_in (take low ordered)) ++ yellow)
    (Front-map (λ (a : Action). a.id) (acts_in (take last ordered)) (acts_in (take low ordered)) (acts-front (take last ordered) (take low ordered) (Front-takes last low ordered (omega arith))))
    (Front-append (names_of (acts_in (take low ordered))) yellow))
    (λ (le : low ≤ last).
    let e : low + (last - low) ≡ last = omega arith in
    let all : names_of (acts_in (take last ordered)) ≡ names_of (acts_in (take low ordered)) ++ names_of (acts_at ordered (above_up_to low last)) =
    ap (λ k. names_of (acts_in (take k ordered))) (sym e) ∙ ap names_of (acts-split (last - low) low ordered)
    ∙ map-append (λ (a : Action). a.id) (acts_in (take low ordered)) (acts_at ordered (above_up_to low last)) in
    subst (λ xs. Front xs (names_of (acts_in (take low ordered)) ++ yellow)) (sym all)
    (Front-behind (names_of (acts_in (take low ordered))) (names_of (acts_at ordered (above_up_to low last))) yellow front))
    (cases_lt last low)

-- ---- a level

-- Who is out covers the level.
pub covers-outside : (c : Chronicle) (conf p level low : ℕ) (greens : List Action) (yellow : List ActionId) → LevelsStand c → InstalledCount c → 0 < level → level ≤ top_of c →
    (attempt_at c level).conf ≡ conf → is_member c conf p ≡ true → is_regular_in c conf p ≡ false →
    greens ≡ installation (attempt_at c level) ++ acts_in (take low (ordered_in c conf)) →
    Front (names_of (acts_at (ordered_in c conf) (above_up_to low (received_outside c conf)))) yellow → CoversLevel c level (names_of greens ++ yellow)
covers-outside c conf p level low greens yellow stands counts some le here member out green front =
    let a = attempt_at c level in
    let ordered = ordered_in c conf in
    let first = names_of (installation a) in
    let last = received_outside c conf in
    let line : line_outside c a ≡ installation a ++ acts_in (take last ordered) = ap (λ k. installation a ++ acts_in (take (received_outside c k) (ordered_in c k))) here in
    let far : names_of (line_outside c a) ≡ first ++ names_of (acts_in (take last ordered)) = ap names_of line ∙ map-append (λ (x : Action). x.id) (installation a) (acts_in (take last ordered)) in
    let mine : names_of greens ++ yellow ≡ first ++ (names_of (acts_in (take low ordered)) ++ yellow) =
    ap (λ xs. names_of xs ++ yellow) green ∙ ap (λ xs. xs ++ yellow) (map-append (λ (x : Action). x.id) (installation a) (acts_in (take low ordered)))
    ∙ append_assoc first (names_of (acts_in (take low ordered))) yellow in (
      level-frozen c conf p member out level here,
      Front-trans (names_of (reach_at c level)) (names_of (line_outside c a)) (names_of greens ++ yellow)
          (Front-map (λ (x : Action). x.id) (reach_at c level) (line_outside c a) (reach-outside c level stands counts some le))
          (subst (λ xs. Front xs (names_of greens ++ yellow)) (sym far) (subst (Front (first ++ names_of (acts_in (take last ordered)))) (sym mine)
          (Front-behind first (names_of (acts_in (take last ordered))) (names_of (acts_in (take low ordered)) ++ yellow) (row-covers low last ordered yellow front)))),
    )
