-- A commit leaves the green count of a replica that has taken its whole step.
use Rattle.std.proofs.Common.{◌≡◌, suc, ◌+◌, ◌-◌, ◌≤◌, Bool, true, false, cond, List, ◌++◌, drop, length, sym, ap, ap₂, ◌∙◌, subst, arith}
use Rattle.std.specs.Option.{unwrap_or}
use Rattle.std.proofs.lemmas.List.{length-append, length-drop}
use Rattle.cg_base.specs.declared.weighted.Weighted.{Weighted}
use Rattle.cg_action.specs.declared.action.Action.{Action}
use Rattle.cg_members.specs.Servers.{members_of, starting, after_greens, white_line}
use Rattle.cg_members.specs.MemberLaws.{members_of-apart}
use Rattle.cg_queue.specs.Queue.{green_count}
use Rattle.cg_client.specs.Replica.{Held, Replica}
use Rattle.cg_client.specs.Turn.{Turn, begin}
use Rattle.cg_client.specs.Requests.{is_creating, create_kept, empty_buffer, settle}
use Rattle.cg_client.specs.Whitening.{white_at}
use Rattle.cg_disk_records.specs.Stored.{whiten}
use Rattle.cg_states.specs.ReplicaStep.{Input, Deliveries, Asks, replica_step}
use Rattle.cg_model.specs.Small.{take_all}
use Rattle.cg_agree_lemmas.specs.HeldMarks.{IsOneself, counted}
use Rattle.cg_disk_records.specs.HeldLaws.{line-below}
use Rattle.cg_agree_lemmas.specs.GreenMembers.{FollowsGreens, greens-behind, takes-follow, asks-follow, follows-same, creates-same}

settle-follows : (old : Held) (t : Turn) → FollowsGreens old t.replica.held → FollowsGreens old (settle t).replica.held
unfolding create_kept
settle-follows old t p = at (is_creating t.replica.state) where
  at : (b : Bool) → FollowsGreens old (cond b (create_kept t) t).replica.held
  at true = follows-same old t.replica.held (create_kept t).replica.held
      (let rest = creates-same t.replica.held.buffered (empty_buffer t) in record { greens = rest.greens; members = rest.members; white = rest.white }) p
  at false = p

pub step-follows : (r : Replica) (input : Input) → FollowsGreens r.held (replica_step r input).replica.held
unfolding replica_step
step-follows r (Deliveries list) = settle-follows r.held (take_all list (begin r)) (takes-follow r list)
step-follows r (Asks kind) = asks-follow r kind

pub whitened-count : (start : List Weighted) (old h : Held) (all : List Action) → IsOneself start old all → FollowsGreens old h → green_count (whiten h).queue ≡ green_count h.queue
unfolding whiten
whitened-count start old h all is f =
    let list = all ++ f.more in
    let before : green_count old.queue ≡ length all = counted start old all is in
    let place : suc (green_count old.queue) ≡ 1 + length all = omega arith in
    let members : h.members ≡ members_of start list =
    f.members ∙ ap₂ (λ m n. after_greens m n f.more) is.made_of.members place ∙ sym (greens-behind (starting start) 1 all f.more) in
    let long : length h.queue.greens ≡ length old.queue.greens + length f.more = ap length f.greens ∙ length-append old.queue.greens f.more in
    let whole : length list ≡ length all + length f.more = length-append all f.more in
    let white : h.queue.white ≡ old.queue.white = f.white in
    let line : unwrap_or (white_line h.members) 0 ≤ length list =
    subst (λ m. unwrap_or (white_line m) 0 ≤ length list) (sym members) (line-below (length list) (members_of start list).servers (members_of-apart start list).lines) in
    let dropped : length (drop (white_at h - h.queue.white) h.queue.greens) ≡ length h.queue.greens - (white_at h - h.queue.white) = length-drop (white_at h - h.queue.white) h.queue.greens in
    omega arith
