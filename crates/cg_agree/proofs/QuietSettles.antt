-- A configuration that is quiet behind a step of a run is settled.
use Rattle.std.proofs.Common.{zero, suc, length, slice_index_or, arith, ◌≡◌, ℕ, ◌<◌, Bool, true, false, List, [], ◌∷◌, Option, IfSome, refl, sym, ap, ap₂, ◌∙◌, subst, ◌&&◌}
use Rattle.std.specs.Option.{option_map_or}
use Rattle.std.specs.List.{list_all}
use Rattle.cg_base.specs.declared.action_id.ActionId.{ActionId}
use Rattle.cg_base.specs.Sets.{has}
use Rattle.cg_knowledge.specs.Summaries.{gone, remaining}
use Rattle.cg_wire.specs.declared.message.Msg.{Msg}
use Rattle.cg_group.specs.State.{GroupState}
use Rattle.cg_client.specs.Replica.{Replica}
use Rattle.cg_model.specs.World.{World, no_world, is_left, is_left_state}
use Rattle.cg_model.specs.Run.{Step, IsRunFrom, world_after}
use Rattle.cg_model.specs.Quiet.{is_quiet, summaries_in, is_known_in, Remains, IsSettled}
use Rattle.cg_model.specs.Agreement.{ComesAfter, QuietSettles}
use Rattle.cg_model.specs.Chronicle.{Chronicle, no_chronicle}
use Rattle.cg_model.specs.Noting.{chronicle_step, chronicle_after}
use Rattle.cg_model.specs.FactsReplica.{IsEmptyIn, BufferEmpty}
use Rattle.cg_model.specs.Played.{IsSame, StandsBeside, AlwaysHolds}
use Rattle.cg_agree.proofs.RunPrefix.{comes}
use Rattle.cg_agree.proofs.QuietSettled.{settles, passes_at, quiet-settled}

all-same : (s t : ℕ → Bool) → ((p : ℕ) → s p ≡ t p) → (set : List ℕ) → list_all s set ≡ list_all t set
all-same s t same [] = refl
all-same s t same (p ∷ set) = ap₂ (λ a b. a && b) (same p) (all-same s t same set)

-- what is quiet and settled is so in a world that is the same for the facts
module _ (w v : World) (conf : ℕ) (same : IsSame w v) where
  abbrev grouped : GroupState Msg → World
  grouped g = record w { group = g }

  pub quiet-same : is_quiet w conf ≡ is_quiet v conf
  quiet-same = ap (λ g. is_quiet (grouped g) conf) same.group

  summaries-same : summaries_in w conf ≡ summaries_in v conf
  summaries-same = ap (λ g. summaries_in (grouped g) conf) same.group

  known-same : (id : ActionId) → is_known_in w conf id ≡ is_known_in v conf id
  known-same id = ap (λ g. is_known_in (grouped g) conf id) same.group

  remains-same : (p : ℕ) (r : Replica) → Remains w conf p r → Remains v conf p r
  remains-same p r is = (subst (λ h. has (remaining h) p ≡ true) summaries-same is.0, sym (same.running p) ∙ is.1)

  pub settled-same : IsSettled v conf → IsSettled w conf
  settled-same is = record {
    left = ap (λ h. list_all (is_left w) (gone h)) summaries-same
        ∙ all-same (is_left w) (is_left v) (λ p. ap (λ o. option_map_or (λ (r : Replica). is_left_state r.state) o false) (same.running p)) (gone (summaries_in v conf)) ∙ is.left;
    states = ap (λ h. list_all (passes_at w (settles h)) (remaining h)) summaries-same
        ∙ all-same (passes_at w (settles (summaries_in v conf))) (passes_at v (settles (summaries_in v conf)))
        (λ p. ap (λ o. option_map_or (settles (summaries_in v conf)) o false) (same.running p)) (remaining (summaries_in v conf)) ∙ is.states;
    greens = λ p q r s at_p at_q. is.greens p q r s (remains-same p r at_p) (remains-same q s at_q);
    actions = λ p r id at_p one. is.actions p r id (remains-same p r at_p) one ∙ sym (known-same id);
  }

pub world-settles : (c : Chronicle) (w : World) → StandsBeside c w → (conf : ℕ) → 0 < conf → is_quiet w conf ≡ true → IsSettled w conf
world-settles c w stands conf some quiet =
    let empty : BufferEmpty c = λ p. subst (λ (o : Option Replica). IfSome o (λ r. IsEmptyIn r.held r.state)) (stands.same.running p) (stands.rests.replica.buffer_empty p) in
    settled-same w c.world conf stands.same (quiet-settled c stands.facts empty conf some (sym (quiet-same w c.world conf stands.same) ∙ quiet))

-- a step of a list comes behind some of the others
contained-at : (k : ℕ) (steps : List Step) (s : Step) → k < length steps → slice_index_or steps k s ≡ s → (earlier : List Step) × ComesAfter steps earlier s
contained-at k [] s lt is = absurd (omega arith)
contained-at zero (x ∷ steps) s lt is = ([], (steps, ap (λ (y : Step). y ∷ steps) is))
contained-at (suc k) (x ∷ steps) s lt is =
    let rest = contained-at k steps s (omega arith) is in
    let comes = rest.1 in
    (x ∷ rest.0, (comes.0, ap (λ (list : List Step). x ∷ list) comes.1))

pub quiet-settles : AlwaysHolds → (steps : List Step) → IsRunFrom no_world steps → QuietSettles steps
quiet-settles always steps run s conf there some within quiet =
    let behind = contained-at there.0 steps s there.1 there.2 in
    let is = comes always steps run behind.0 s behind.1 in
    world-settles (chronicle_step (chronicle_after no_chronicle no_world behind.0) (world_after no_world behind.0) s.event) s.world is.step.behind conf some quiet
