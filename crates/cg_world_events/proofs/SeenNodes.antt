-- What a replica shows, through its node.
use Rattle.std.proofs.Common.{◌≡◌, ℕ, List, [], ◌∷◌, Some, option_and_then, sym, ap, ◌∙◌}
use Rattle.std.specs.Option.{option_map_or}
use Rattle.cg_action.specs.declared.query.Query.{Query}
use Rattle.cg_client.specs.Replica.{Replica}
use Rattle.cg_client.specs.Queries.{weak_answer, dirty_answer}
use Rattle.cg_report.specs.declared.entry.Shown.{Shown}
use Rattle.cg_report.specs.declared.entry.Shown.TheVariants.{Weak as ShownWeak, Dirty as ShownDirty}
use Rattle.cg_model.specs.World.{Node, World, running, node_of, replica_of}
use Rattle.cg_world_events.proofs.StruckNodes.{found-id}

abbrev weak : ℕ → Query → Replica → List Shown
weak p query r = ShownWeak p (weak_answer r.held query) ∷ []

abbrev dirty : ℕ → Query → Replica → List Shown
dirty p query r = ShownDirty p (dirty_answer r.held query) ∷ []

abbrev shown_at : World → ℕ → (Replica → List Shown) → List Shown
shown_at w p f = option_map_or f (replica_of w p) []

of-node : (w : World) (p : ℕ) (s : Node) (f : Replica → List Shown) → node_of w p ≡ Some s → option_map_or f (running s.life) [] ≡ shown_at w p f
of-node w p s f there = sym (ap (λ o. option_map_or f (option_and_then (λ (s : Node). running s.life) o) []) there)

pub weak-at : (w : World) (p : ℕ) (s : Node) (query : Query) → node_of w p ≡ Some s → option_map_or (weak s.id query) (running s.life) [] ≡ shown_at w p (weak p query)
weak-at w p s query there = ap (λ n. option_map_or (weak n query) (running s.life) []) (found-id w.nodes p s there) ∙ of-node w p s (weak p query) there

pub dirty-at : (w : World) (p : ℕ) (s : Node) (query : Query) → node_of w p ≡ Some s → option_map_or (dirty s.id query) (running s.life) [] ≡ shown_at w p (dirty p query)
dirty-at w p s query there = ap (λ n. option_map_or (dirty n query) (running s.life) []) (found-id w.nodes p s there) ∙ of-node w p s (dirty p query) there
