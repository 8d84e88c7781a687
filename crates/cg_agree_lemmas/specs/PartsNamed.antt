-- The parts of an attempt at a member that begins it: their names follow from the summaries.
use Rattle.std.proofs.Common.{◌≡◌, ℕ, suc, ◌≤◌, ◌<◌, Bool, true, false, cond, not, List, [], ◌∷◌, ◌++◌, filter, flat_map, fold, Option, Some, None, is_some, refl, sym, ap, ap₂, ◌∙◌, subst, ⊎_elim, arith, eq-eqb}
use Rattle.std.specs.Prelude.{◌==◌, nat_lt}
use Rattle.std.specs.Option.{option_map_or, option_to_list}
use Rattle.std.specs.List.{list_all}
use Rattle.std.proofs.lemmas.Bool.{cases_Bool, cases_lt, cond-true, cond-false, cond_both, and_parts, ltb-true, ltb-false}
use Rattle.cg_base.specs.declared.action_id.ActionId.{ActionId}
use Rattle.cg_base.specs.declared.weighted.Weighted.{Weighted}
use Rattle.cg_base.specs.Cuts.{index_in, creators_in}
use Rattle.cg_base.specs.Ids.{has_name, same_id}
use Rattle.cg_base.specs.Sets.{union, with_member}
use Rattle.cg_base.specs.FindLaws.{found_passes}
use Rattle.cg_base.specs.IdLaws.{same_id-is}
use Rattle.cg_action.specs.declared.action.Action.{Action}
use Rattle.cg_queue.specs.Queue.{QueueView, names_of, action_of}
use Rattle.cg_records.specs.declared.yellow.Yellow.{Yellow}
use Rattle.cg_knowledge.specs.declared.summary.Summary.{Summary}
use Rattle.cg_knowledge.specs.Summaries.{most_updated, lowest}
use Rattle.cg_knowledge.specs.Yellow.{yellow_group, yellow_of as yellow_in, common_yellow}
use Rattle.cg_plan.specs.Plan.{creators}
use Rattle.cg_client.specs.Replica.{Held, yellow_of}
use Rattle.cg_client.specs.Install.{actions_named, valid_yellow}
use Rattle.cg_client.specs.Queries.{plain_reds}
use Rattle.cg_model.specs.FactsAttempts.{names_between, red_names}
use Rattle.cg_model.specs.FactsLists.{IsRising}
use Rattle.cg_disk_records.specs.Holds.{cut_behind}
use Rattle.cg_model.specs.Talk.{known_up_to}
use Rattle.cg_agree_lemmas.specs.HeldMarks.{IsOneself, are_within, rising-green}
use Rattle.cg_agree_lemmas.specs.KnownBounds.{unknown-creator}
use Rattle.cg_agree_lemmas.specs.NamesAscend.{names_of_creators, reds-between}
use Rattle.cg_agree_lemmas.specs.PartHeld.{name-found}
use Rattle.cg_agree_lemmas.specs.YellowMeets.{reds-named}
use Rattle.cg_queue.specs.NameLaws.{names-filter}

-- ---- yellow

-- names of reds are those of the actions that they stand for
pub actions-names : (q : QueueView) (ids : List ActionId) → list_all (has_name (names_of q.reds)) ids ≡ true → names_of (actions_named q ids) ≡ ids
actions-names q [] named = refl
actions-names q (id ∷ ids) named =
    let parts = and_parts (has_name (names_of q.reds) id) (list_all (has_name (names_of q.reds)) ids) named in
    at (action_of q id) refl (name-found q.greens q.reds id parts.0) (actions-names q ids parts.1) where
      at : (o : Option Action) → action_of q id ≡ o → is_some o ≡ true → names_of (actions_named q ids) ≡ ids → names_of (option_to_list o ++ actions_named q ids) ≡ id ∷ ids
      at None e some rest = absurd (let clash : false ≡ true = some in cc)
      at (Some a) e some rest = ap₂ (λ x xs. x ∷ xs) (same_id-is a.id id (found_passes (λ (x : Action). same_id x.id id) (q.greens ++ q.reds) a e)) rest

-- a list that doesn't count is empty
pub none-invalid : (heard : List Summary) → (common_yellow heard).valid ≡ false → (common_yellow heard).list ≡ []
unfolding common_yellow
none-invalid heard e = at (lowest (yellow_group heard)) e where
  at : (o : Option Summary) → (yellow_in heard o).valid ≡ false → (yellow_in heard o).list ≡ []
  at None e = refl
  at (Some low) e = absurd (let clash : true ≡ false = e in cc)

yellow-names : (h : Held) (heard : List Summary) → yellow_of h ≡ common_yellow heard → list_all (has_name (names_of h.queue.reds)) h.queue.yellow ≡ true → names_of (valid_yellow h) ≡ (common_yellow heard).list
yellow-names h heard same named = at h.yellow_valid refl where
  at : (b : Bool) → h.yellow_valid ≡ b → names_of (cond b (actions_named h.queue h.queue.yellow) []) ≡ (common_yellow heard).list
  at true valid = actions-names h.queue h.queue.yellow named ∙ ap (λ (y : Yellow). y.list) same
  at false invalid = sym (none-invalid heard (sym (ap (λ (y : Yellow). y.valid) same) ∙ invalid))

-- ---- reds

-- the creators that some member knows ascend
rising-member : (set : List ℕ) (low p : ℕ) → low ≤ p → IsRising low set → IsRising low (with_member set p)
rising-member [] low p le rising = (le, tt)
rising-member (q ∷ set) low p le rising = ⊎_elim
    (λ same. subst (IsRising low) (sym (cond-true (p == q) (q ∷ set) (cond (nat_lt p q) (p ∷ q ∷ set) (q ∷ with_member set p)) same)) rising)
    (λ other. subst (IsRising low) (sym (cond-false (p == q) (q ∷ set) (cond (nat_lt p q) (p ∷ q ∷ set) (q ∷ with_member set p)) other))
    (cond_both (nat_lt p q) (p ∷ q ∷ set) (q ∷ with_member set p) (IsRising low)
    (λ y. (let lt = ltb-true p q y in (le, (omega arith, rising.1))))
    (λ n. (let ge = ltb-false p q n in let apart = eqb-apart p q other in (rising.0, rising-member set (suc q) p (above p q ge apart) rising.1)))))
    (cases_Bool (p == q))
  where
    eqb-apart : (p q : ℕ) → (p == q) ≡ false → p ≡ q → ⊥
    eqb-apart p q f e = let clash : true ≡ false = sym (eq-eqb p q e) ∙ f in cc

    above : (p q : ℕ) → q ≤ p → (p ≡ q → ⊥) → suc q ≤ p
    above p q ge apart = ⊎_elim (λ (lt : q < p). lt) (λ (le : p ≤ q). absurd (apart (omega arith))) (cases_lt q p)

rising-union : (more set : List ℕ) → IsRising 0 set → IsRising 0 (union set more)
rising-union [] set rising = rising
rising-union (p ∷ more) set rising = rising-union more (with_member set p) (rising-member set 0 p (omega arith) rising)

rising-creators : (heard : List Summary) (set : List ℕ) → IsRising 0 set → IsRising 0 (fold (λ set s. union set (creators_in s.red_cut)) set heard)
rising-creators [] set rising = rising
rising-creators (s ∷ heard) set rising = rising-creators heard (union set (creators_in s.red_cut)) (rising-union (creators_in s.red_cut) set rising)

known-rising : (heard : List Summary) → IsRising 0 (creators heard)
unfolding creators
known-rising heard = rising-creators heard [] tt

-- the names of all reds are those that some member knows and the most updated one doesn't have green
pub known-names : (start : List Weighted) (h : Held) (all : List Action) (heard : List Summary) (best : Summary) → IsOneself start h all → h.queue.green_cut ≡ best.green_cut →
    ((q : ℕ) → index_in h.queue.red_cut q ≡ known_up_to heard q) → names_of h.queue.reds ≡ flat_map (names_between heard best) (creators heard)
known-names start h all heard best is cut red =
    reds-between h.queue.green_cut (known_up_to heard) (names_of h.queue.reds) (creators heard) 0 (rising-green start h all is) is.contiguous.reds is.contiguous.by_name
    (λ p. ap (λ c. index_in c p) (sym is.made_of.red_cut) ∙ red p) (known-rising heard) (λ p absent. (let none = unknown-creator heard p absent in omega arith))
    ∙ ap (λ gc. names_of_creators (λ creator. index_in gc creator) (known_up_to heard) (creators heard)) cut

-- the names of both parts
pub record PartsNamed (h : Held) (heard : List Summary) : Type 0 where
  pub yellow : names_of (valid_yellow h) ≡ (common_yellow heard).list
  pub reds : names_of (plain_reds h.queue) ≡ red_names heard

-- A member that has the most updated one's greens, knows all that some member knew, and has the common yellow list has the parts so named.
pub parts-named : (start : List Weighted) (h : Held) (all : List Action) (heard : List Summary) (best : Summary) → IsOneself start h all → h.queue.green_cut ≡ best.green_cut →
    ((q : ℕ) → index_in h.queue.red_cut q ≡ known_up_to heard q) → yellow_of h ≡ common_yellow heard → most_updated heard ≡ Some best → PartsNamed h heard
parts-named start h all heard best is cut red same most =
    let within : are_within (cut_behind h.queue.green_cut (names_of h.queue.reds)) h.queue.yellow ≡ true = ap (λ rc. are_within rc h.queue.yellow) (sym is.made_of.red_cut) ∙ is.yellow_closed.known in
    let named = reds-named h.queue.green_cut (names_of h.queue.reds) h.queue.yellow (rising-green start h all is) is.contiguous.reds is.yellow_closed.next within in
    let yellow : h.queue.yellow ≡ (common_yellow heard).list = ap (λ (y : Yellow). y.list) same in
    record {
      yellow = yellow-names h heard same named;
      reds = names-filter (λ id. not (has_name h.queue.yellow id)) h.queue.reds
          ∙ ap₂ (λ ys ids. filter (λ id. not (has_name ys id)) ids) yellow (known-names start h all heard best is cut red)
          ∙ sym (ap (λ o. option_map_or (λ b. filter (λ id. not (has_name (common_yellow heard).list id)) (flat_map (names_between heard b) (creators heard))) o []) most);
    }
