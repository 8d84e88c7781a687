-- How many greens there are behind an event: those before it, and the newly green ones.
use Rattle.std.proofs.Common.{◌≡◌, ℕ, suc, ◌+◌, List, [], ◌∷◌, ◌++◌, fold, length, length-append, false, refl, sym, ◌∙◌, ap, arith}
use Rattle.cg_base.specs.declared.action_id.ActionId.{ActionId}
use Rattle.cg_base.specs.Cuts.{index_in}
use Rattle.cg_action.specs.declared.action.Action.{Action}
use Rattle.cg_action.specs.declared.action.Kind.{Kind}
use Rattle.cg_queue.specs.Queue.{green_count}
use Rattle.cg_client.specs.Replica.{Held, Replica}
use Rattle.cg_client.specs.Turn.{Turn, begin}
use Rattle.cg_client.specs.Marks.{is_unmade, place_green}
use Rattle.cg_client.specs.Requests.{create}
use Rattle.cg_client.specs.Summary.{own_to_red}
use Rattle.cg_states.specs.ReplicaStep.{Input, Deliveries, Asks, after_delivery, replica_step}
use Rattle.cg_disk_records.specs.Holds.{Holds}
use Rattle.cg_model.specs.Recorded.{AlwaysKept}
use Rattle.cg_model.proofs.Rows.{IsRule, of-deliveries, of-buffer, of-empty_buffer}
use Rattle.cg_model.proofs.Knowing.{each-any, holds-rule}
use Rattle.cg_model.proofs.Steps.{IsKeptByMaking, holds-making, of-settle, of-request_in, holds-step}
use Rattle.cg_disk_records.specs.HoldsMarkLaws.{known_by}
use Rattle.cg_disk_records.specs.KnownLaws.{known_all, own-reddened}
use Rattle.cg_model.specs.RowLaws.{any-deliveries}

-- there are as many greens as at first, and the newly green ones
record Counts (n : ℕ) (t : Turn) : Type 0 where
  holds : Holds t.replica.held
  count : green_count t.replica.held.queue ≡ n + length t.green

known_all-count : (list : List Action) (h : Held) → green_count (known_all h list).queue ≡ green_count h.queue
known_all-count [] h = refl
known_all-count (a ∷ list) h = known_all-count list (known_by h a)

count-green : (n : ℕ) (t : Turn) (a : Action) → green_count t.replica.held.queue ≡ n + length t.green → green_count (place_green t a).replica.held.queue ≡ n + length (place_green t a).green
unfolding place_green
count-green n t a is =
    let q = t.replica.held.queue in
    let greens : length (q.greens ++ a ∷ []) ≡ suc (length q.greens) = length-append q.greens (a ∷ []) ∙ omega arith in
    let names : length (t.green ++ a.id ∷ []) ≡ suc (length t.green) = length-append t.green (a.id ∷ []) ∙ omega arith in
    omega (arith, greens, names, is)

counts-green : (n : ℕ) (t : Turn) (a : Action) → a.id.index ≡ suc (index_in t.replica.held.queue.green_cut a.id.creator) → is_unmade t.replica.held a ≡ false → Counts n t → Counts n (place_green t a)
counts-green n t a next made is = record { holds = holds-rule.green t a tt next made is.holds; count = count-green n t a is.count }

counts-own : (n : ℕ) (t : Turn) → Counts n t → Counts n (own_to_red t)
counts-own n t is =
    let red = own-reddened t is.holds in
    record {
      holds = holds-rule.own_red t is.holds;
      count = ap (λ (h : Held). green_count h.queue) red.held ∙ known_all-count t.replica.held.own t.replica.held ∙ is.count ∙ ap (λ (g : List ActionId). n + length g) (sym red.green);
    }

counts-rule : (n : ℕ) → IsRule (Counts n) (λ a. Unit {0})
counts-rule n = record {
  holds = λ t is. is.holds;
  reds = λ t is. each-any t.replica.held.queue.reds;
  quiet = λ t state sent is. record { holds = is.holds; count = is.count };
  values = λ t yellow valid prim index v buffered red is. record { holds = holds-rule.values t yellow valid prim index v buffered red is.holds; count = is.count };
  known = λ t a fine next made is. record { holds = holds-rule.known t a fine next made is.holds; count = is.count };
  green = λ t a fine next made is. counts-green n t a next made is;
  own_red = λ t is. counts-own n t is;
}

count-create : (n : ℕ) (t : Turn) (kind : Kind) → green_count t.replica.held.queue ≡ n + length t.green → green_count (create t kind).replica.held.queue ≡ n + length (create t kind).green
unfolding create
count-create n t kind is = is

counts-create : (n : ℕ) (t : Turn) (kind : Kind) → Counts n t → Counts n (create t kind)
counts-create n t kind is = record { holds = holds-making.creates t kind is.holds; count = count-create n t kind is.count }

counts-making : (n : ℕ) → IsKeptByMaking (Counts n)
counts-making n = record {
  creates = λ t kind is. counts-create n t kind is;
  buffers = λ t kind is. of-buffer (Counts n) (λ a. Unit {0}) (counts-rule n) t kind is;
  empties = λ t is. of-empty_buffer (Counts n) (λ a. Unit {0}) (counts-rule n) t is;
}

counts-first : (r : Replica) → Holds r.held → Counts (green_count r.held.queue) (begin r)
counts-first r is = record { holds = is; count = omega arith }

counts-step : (r : Replica) (input : Input) → Holds r.held → Counts (green_count r.held.queue) (replica_step r input)
unfolding replica_step
counts-step r (Deliveries list) is =
    let n = green_count r.held.queue in
    of-settle (Counts n) (counts-making n) (fold after_delivery (begin r) list) (of-deliveries (Counts n) (λ a. Unit {0}) (counts-rule n) (begin r) list (any-deliveries list) (counts-first r is))
counts-step r (Asks kind) is =
    let n = green_count r.held.queue in
    of-request_in (Counts n) (counts-making n) r.state (begin r) kind (counts-first r is)

step-counts : (r : Replica) (input : Input) → Holds r.held → green_count (replica_step r input).replica.held.queue ≡ green_count r.held.queue + length (replica_step r input).green
step-counts r input is = (counts-step r input is).count

pub always-kept : AlwaysKept
always-kept = record {
  step = λ r input is. holds-step r input is;
  counted = λ r input is. step-counts r input is;
}
