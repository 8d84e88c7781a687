-- A whole event: what holds is kept, and its change leads from what stands on the disk to what is held behind it.
use Rattle.std.proofs.Common.{List, [], ◌∷◌, ◌++◌, fold, Bool, true, false, refl, if◌then◌else◌}
use Rattle.cg_action.specs.declared.action.Kind.{Kind}
use Rattle.cg_client.specs.Replica.{State, RegPrim, TransPrim, ExchangeStates, ExchangeActions, Construct, No, Un, NonPrim, Left, Replica}
use Rattle.cg_client.specs.Turn.{Turn, begin}
use Rattle.cg_client.specs.Requests.{is_creating, next_action, create, create_kept, empty_buffer, buffer, settle, request_in}
use Rattle.cg_states.specs.ReplicaStep.{Input, Deliveries, Asks, after_delivery, replica_step}
use Rattle.cg_disk_records.specs.Holds.{Holds}
use Rattle.cg_model.proofs.Rows.{of-deliveries, of-buffer, of-empty_buffer}
use Rattle.cg_model.proofs.Knowing.{HoldsIn, holds-rule}
use Rattle.cg_disk_records.specs.HoldsValueLaws.{holds-made}
use Rattle.cg_model.specs.RowLaws.{any-deliveries}

-- ---- what a turn with own actions made keeps

-- a fact that is kept by one action made, and by what is kept in memory alone
pub record IsKeptByMaking (P : Turn → Type 0) : Type 0 where
  pub creates : (t : Turn) (kind : Kind) → P t → P (create t kind)
  pub buffers : (t : Turn) (kind : Kind) → P t → P (buffer t kind)
  pub empties : (t : Turn) → P t → P (empty_buffer t)

module _ (P : Turn → Type 0) (kept : IsKeptByMaking P) where
  made-all : (t : Turn) (kinds : List Kind) → P t → P (fold create t kinds)
  made-all t [] p = p
  made-all t (kind ∷ kinds) p = made-all (create t kind) kinds (kept.creates t kind p)

  of-create_kept : (t : Turn) → P t → P (create_kept t)
  unfolding create_kept
  of-create_kept t p = made-all (empty_buffer t) t.replica.held.buffered (kept.empties t p)

  pub of-settle : (t : Turn) → P t → P (settle t)
  of-settle t p = at (is_creating t.replica.state) where
    at : (b : Bool) → P (if b then create_kept t else t)
    at true = of-create_kept t p
    at false = p

  pub of-request_in : (state : State) (t : Turn) (kind : Kind) → P t → P (request_in state t kind)
  of-request_in RegPrim t kind p = kept.creates t kind p
  of-request_in TransPrim t kind p = kept.buffers t kind p
  of-request_in (ExchangeStates conf set heard) t kind p = kept.buffers t kind p
  of-request_in (ExchangeActions conf summaries accepted) t kind p = kept.buffers t kind p
  of-request_in (Construct conf heard) t kind p = kept.buffers t kind p
  of-request_in (No conf heard) t kind p = kept.buffers t kind p
  of-request_in Un t kind p = kept.buffers t kind p
  of-request_in (NonPrim true) t kind p = kept.creates t kind p
  of-request_in (NonPrim false) t kind p = kept.buffers t kind p
  of-request_in Left t kind p = p

-- ---- what holds

holds-create : (t : Turn) (kind : Kind) → HoldsIn t → HoldsIn (create t kind)
unfolding create
holds-create t kind is =
    let h = t.replica.held in
    let a = next_action h kind in
    holds-made h a (h.owed ++ a.id ∷ []) refl refl is

pub holds-making : IsKeptByMaking HoldsIn
holds-making = record {
  creates = λ t kind is. holds-create t kind is;
  buffers = λ t kind is. of-buffer HoldsIn (λ a. Unit {0}) holds-rule t kind is;
  empties = λ t is. of-empty_buffer HoldsIn (λ a. Unit {0}) holds-rule t is;
}

pub holds-step : (r : Replica) (input : Input) → Holds r.held → Holds (replica_step r input).replica.held
unfolding replica_step
holds-step r (Deliveries list) is =
    of-settle HoldsIn holds-making (fold after_delivery (begin r) list) (of-deliveries HoldsIn (λ a. Unit {0}) holds-rule (begin r) list (any-deliveries list) is)
holds-step r (Asks kind) is = of-request_in HoldsIn holds-making r.state (begin r) kind is
