-- The relaxed database as it is kept: how far each creator's actions are known, what they add to each key, and each key's
-- last write.
use Rattle.std.specs.Prelude.{◌≡◌, ℕ, suc, ◌==◌, ◌<◌, ◌^◌, nat_lt, List, [], map, flat_map, fold, Option, None, ℤ, pos, ◌+ℤ◌, if◌then◌else◌}
use Rattle.cg_base.specs.declared.action_id.ActionId.{ActionId}
use Rattle.cg_base.specs.Calls.{greatest_cut}
use Rattle.cg_base.specs.Cuts.{index_in, raise}
use Rattle.cg_base.specs.Lists.{count_up}
use Rattle.cg_base.specs.Replicas.{every_replica}
use Rattle.cg_base.specs.CutLimits.{IsCut}
use Rattle.cg_action.specs.declared.action.Action.{Action}
use Rattle.cg_relaxed.specs.declared.cell.Cell.{Cell}
use Rattle.cg_relaxed.specs.declared.write.Write.{Write}
use Rattle.cg_relaxed.specs.Writes.{later, added, written, value_in}
use Rattle.cg_relaxed.specs.Cells.{sum_of, last_write}

-- what each creator's known actions add to a key, and a key's last write
pub record RelaxedView : Type 0 where
  pub known : List ActionId
  pub sums : List ℕ → ℕ → ℤ
  pub registers : List ℕ → Option Write

-- no action is known
abbrev pub nothing_known : RelaxedView
nothing_known = record { known = []; sums = λ key p. pos 0; registers = λ key. None }

-- the next action of its creator
abbrev pub with_action : RelaxedView → Action → RelaxedView
with_action r a =
    record {
      known = raise r.known a.id;
      sums = λ key p. if p == a.id.creator then r.sums key p +ℤ added key a else r.sums key p;
      registers = λ key. later (r.registers key) (written key a);
    }

-- what two know together: of each creator the sums of the one that knows more of it
abbrev pub joined : RelaxedView → RelaxedView → RelaxedView
joined r o =
    record {
      known = greatest_cut r.known o.known;
      sums = λ key p. if nat_lt (index_in r.known p) (index_in o.known p) then o.sums key p else r.sums key p;
      registers = λ key. later (r.registers key) (o.registers key);
    }

-- what is read of a key
abbrev pub cell_in : RelaxedView → List ℕ → Cell
cell_in r key = record { value = value_in (r.registers key); sum = fold (λ n p. n +ℤ r.sums key p) (pos 0) every_replica }

-- ---- what is known are made actions

-- the first actions of a creator, and all that a cut names, creator by creator
abbrev pub first_of : (ActionId → Action) → ℕ → ℕ → List Action
first_of made p n = map (λ index. made (record { creator = p; index = index })) (count_up 1 n)

abbrev pub named : (ActionId → Action) → List ActionId → List Action
named made cut = flat_map (λ p. first_of made p (index_in cut p)) every_replica

-- an action stands under its own name, and all that a cut names do
abbrev pub IsMade : (ActionId → Action) → Action → Type 0
IsMade made a = made a.id ≡ a

abbrev pub AreMade : (ActionId → Action) → List ActionId → Type 0
AreMade made cut = (id : ActionId) → 0 < id.index → id.index < suc (index_in cut id.creator) → (made id).id ≡ id

-- the indexes of relaxed actions are small, so that no sum is large
abbrev pub AreFew : List ActionId → Type 0
AreFew cut = (p : ℕ) → index_in cut p < 2 ^ 40

-- What is kept is what the known actions make, as a map of made actions has them: of each creator their sums, and of all of
-- them the last write.
pub record IsOf (made : ActionId → Action) (r : RelaxedView) : Type 0 where
  pub cut : IsCut r.known
  pub few : AreFew r.known
  pub by_name : AreMade made r.known
  pub sums : (key : List ℕ) (p : ℕ) → r.sums key p ≡ sum_of key (first_of made p (index_in r.known p))
  pub registers : (key : List ℕ) → r.registers key ≡ last_write key (named made r.known)

-- both come from one map of made actions
pub record AreOfOne (r o : RelaxedView) : Type 0 where
  pub made : ActionId → Action
  pub one : IsOf made r
  pub other : IsOf made o
