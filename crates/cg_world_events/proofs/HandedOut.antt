-- The disk that is handed out of a node is its disk at rest.
use Rattle.std.proofs.Common.{◌≡◌, ◌==◌, ℕ, Bool, true, false, cond, List, [], ◌∷◌, Some, refl, sym, ap, subst, ◌∙◌, eqb-true}
use Rattle.std.specs.Option.{option_map}
use Rattle.cg_disk.specs.View.{DiskView}
use Rattle.cg_disk_records.specs.Crash.{at_rest}
use Rattle.cg_store.specs.Formats.{StandsFor, disk_in}
use Rattle.cg_engine.specs.Engines.{Fallen}
use Rattle.cg_model.specs.World.{NodeState, Up, Down, Node, World, node_disk, node_of}
use Rattle.cg_model.specs.Step.{crashed}
use Rattle.cg_world_events.specs.Nodes.{node, changed}
use Rattle.cg_world_events.specs.CrashedDisk.{IsCrashedDisk}
use Rattle.cg_world_events.specs.DiskOut.{HoldsDisk, GivesDisk}
use Rattle.cg_world_events.specs.Seen.{down_seen}
use Rattle.cg_world_events.specs.SeenLaws.{disk-left}
use Rattle.cg_world_events.proofs.NodeFacts.{found}

-- a crash leaves the disk at rest as it was
rests_alike : (p : ℕ) (life : NodeState) → at_rest (node_disk (changed (node p life) (crashed life)).life) ≡ at_rest (node_disk life)
rests_alike p (Up r disk) = refl
rests_alike p (Down disk green) = refl

same_node : (p : ℕ) (life : NodeState) → (changed (node p life) (crashed life)).id ≡ p
same_node p (Up r disk) = refl
same_node p (Down disk green) = refl

module _ {D : Type 0} (view : D → DiskView) (w : Fallen D) (rests : IsCrashedDisk (view w.disk) w.id) (p : ℕ) (life : NodeState) (same : changed (node p life) (crashed life) ≡ down_seen view w) where
  whose : w.id ≡ p
  whose = sym (ap (λ (s : Node). s.id) same) ∙ same_node p life

  stands_so : at_rest (node_disk life) ≡ disk_in [] rests.standing
  stands_so =
      sym (rests_alike p life) ∙ ap (λ (s : Node). at_rest (node_disk s.life)) same
      ∙ ap at_rest (disk-left view w rests.standing rests.stands)

  pub handed_out : HoldsDisk p (node_disk life) (view w.disk)
  handed_out = record {
    image = record {
      standing = rests.standing;
      stands = subst (λ (id : ℕ). StandsFor id (view w.disk).reads rests.standing) whose rests.stands;
      same = stands_so;
    };
    rest = rests.rest;
    unarmed = rests.unarmed;
    room = rests.room;
  }

-- ---- the node of a replica

found_id : (nodes : List Node) (p : ℕ) (s : Node) → found nodes p ≡ Some s → s.id ≡ p
found_id [] p s e = cc
found_id (x ∷ nodes) p s e = by_test (x.id == p) refl e (found_id nodes p s) where
  by_test : (b : Bool) → (x.id == p) ≡ b → cond b (Some x) (found nodes p) ≡ Some s → (found nodes p ≡ Some s → s.id ≡ p) → s.id ≡ p
  by_test true is e later = let same : x ≡ s = cc in ap (λ (n : Node). n.id) (sym same) ∙ eqb-true x.id p is
  by_test false is e later = later e

-- the disk of the replica's node is the one that the world holds for it
pub given_out : {D : Type 0} (view : D → DiskView) (w : World) (p : ℕ) (s : Node) (d : D) → node_of w p ≡ Some s → HoldsDisk s.id (node_disk s.life) (view d) → GivesDisk view w p (Some d)
given_out view w p s d here holds = (
  node_disk s.life,
  ap (option_map (λ s. node_disk s.life)) here,
  subst (λ (id : ℕ). HoldsDisk id (node_disk s.life) (view d)) (found_id w.nodes p s here) holds,
)
