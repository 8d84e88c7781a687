-- Whoever is up stays up as others, or they themselves, go into another phase.
use Rattle.std.proofs.Common.{◌≡◌, ℕ, Bool, true, false, cond, List, [], ◌∷◌, Option, Some, None, refl, ap, ◌∙◌, is_some, not, map}
use Rattle.std.specs.Prelude.{◌==◌}
use Rattle.std.proofs.lemmas.Bool.{not-false}
use Rattle.cg_group.specs.declared.phase.Phase.TheVariants.{Regular, Transitional}
use Rattle.cg_group.specs.declared.reason.Reason.TheVariants.{NotUp}
use Rattle.cg_group.specs.State.{Configuration, Standing, GroupState, is_up, standing_of, set_standing, phase_of, regular_in, delivered_to}
use Rattle.cg_group.specs.Events.{become_regular, become_transitional}
use Rattle.cg_group.specs.Refusals.{any_of, not_up, empty_set, merge_refusal, split_refusal}
use Rattle.cg_group.specs.Rosters.{AllUp}
use Rattle.cg_group.specs.RefusalLaws.{refuse_none}
use Rattle.cg_group.specs.LookupLaws.{standing_of-set}
use Rattle.cg_base.specs.OptionLaws.{first_none}

module _ {M : Type 0} where
  pub is_up-set : (g : GroupState M) (s : Standing M) (q : ℕ) → is_up g q ≡ true → is_up (set_standing g s) q ≡ true
  is_up-set g s q up = ap is_some (standing_of-set g s q) ∙ by_choice (q == s.id) (standing_of g q) up
    where
      by_choice : (b : Bool) (o : Option (Standing M)) → is_some o ≡ true → is_some (cond b (Some s) o) ≡ true
      by_choice true o e = refl
      by_choice false o e = e

  pub AllUp-set : (g : GroupState M) (s : Standing M) (set : List ℕ) → AllUp g set → AllUp (set_standing g s) set
  AllUp-set g s [] up = tt
  AllUp-set g s (q ∷ set) up = (is_up-set g s q up.0, AllUp-set g s set up.1)

  pub AllUp-become_regular : (conf : ℕ) (g : GroupState M) (p : ℕ) (set : List ℕ) → AllUp g set → AllUp (become_regular conf g p) set
  unfolding become_regular
  AllUp-become_regular conf g p set up = AllUp-set g (record { id = p; phase = Regular conf; delivered = 0; unordered = [] }) set up

  pub AllUp-become_transitional : (parted : List ℕ) (g : GroupState M) (p : ℕ) (set : List ℕ) → AllUp g set → AllUp (become_transitional parted g p) set
  unfolding become_transitional
  AllUp-become_transitional parted g p set up =
      AllUp-set g (record { id = p; phase = Transitional (regular_in (phase_of g p)) parted; delivered = delivered_to g p; unordered = [] }) set up

  -- no replica of the set is the first that isn't up
  pub AllUp-from : (g : GroupState M) (set : List ℕ) → any_of (not_up g) set ≡ None → AllUp g set
  AllUp-from g [] e = tt
  AllUp-from g (p ∷ set) e =
      let both = first_none (not_up g p) (map (not_up g) set) e in
      (not-false (is_up g p) (refuse_none (not (is_up g p)) (NotUp p) both.0), AllUp-from g set both.1)

  pub AllUp-opened : (g : GroupState M) (configurations : List (Configuration M)) (set : List ℕ) → AllUp g set → AllUp (record g { configurations = configurations }) set
  unfolding standing_of
  AllUp-opened g configurations [] up = tt
  AllUp-opened g configurations (q ∷ set) up = (up.0, AllUp-opened g configurations set up.1)

  -- a merge that isn't refused is of replicas that are up
  pub AllUp-merge : (g : GroupState M) (set left : List ℕ) → merge_refusal g set left ≡ None → AllUp g set
  unfolding merge_refusal
  AllUp-merge g set left e = let some = first_none (empty_set set) _ e in AllUp-from g set (first_none (any_of (not_up g) set) _ some.1).0

  pub AllUp-split : (g : GroupState M) (set : List ℕ) → split_refusal g set ≡ None → AllUp g set
  unfolding split_refusal
  AllUp-split g set e = let some = first_none (empty_set set) _ e in AllUp-from g set (first_none (any_of (not_up g) set) _ some.1).0
