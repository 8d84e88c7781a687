-- Through a turn the servers are what the greens make of them, and no green is discarded: whatever comes, and for every core.
use Rattle.std.proofs.Common.{◌≡◌, ℕ, suc, ◌+◌, Bool, true, false, cond, List, [], ◌∷◌, ◌++◌, append_assoc, append-nil, drop, fold, length, length-append, refl, sym, ap, ap₂, ◌∙◌, arith, if◌then◌else◌}
use Rattle.std.specs.Prelude.{◌==◌, nat_le}
use Rattle.std.proofs.lemmas.Bool.{cond_both}
use Rattle.cg_base.specs.EachLaws.{Each-all}
use Rattle.cg_base.specs.Cuts.{index_in}
use Rattle.cg_action.specs.declared.action.Action.{Action}
use Rattle.cg_action.specs.declared.action.Kind.{Kind}
use Rattle.cg_members.specs.Members.{Members}
use Rattle.cg_members.specs.Servers.{after_green, after_greens}
use Rattle.cg_queue.specs.Queue.{Marks, Gaps, placed_red, green_count}
use Rattle.cg_queue.specs.declared.mark.Mark.TheVariants.{Placed, Known}
use Rattle.cg_wire.specs.declared.message.Msg.{Msg}
use Rattle.cg_group.specs.declared.delivery.Delivery.{Delivery}
use Rattle.cg_client.specs.Replica.{Held, State, RegPrim, TransPrim, ExchangeStates, ExchangeActions, Construct, No, Un, NonPrim, Left, Replica}
use Rattle.cg_client.specs.Turn.{Turn, begin}
use Rattle.cg_client.specs.Marks.{marked, with_green, place_green}
use Rattle.cg_client.specs.Requests.{is_creating, create, create_kept, empty_buffer, buffer, settle, request_in, request}
use Rattle.cg_client.specs.Summary.{redden, forget_own, own_to_red}
use Rattle.cg_model.specs.Small.{newly_green, take_all}
use Rattle.cg_agree_lemmas.specs.TurnRows.{IsRule, of-deliveries}
use Rattle.cg_model.specs.RowLaws.{any-deliveries}

-- what is held follows what was held: these became green
pub record FollowsGreens (old h : Held) : Type 0 where
  pub more : List Action
  pub greens : h.queue.greens ≡ old.queue.greens ++ more
  pub members : h.members ≡ after_greens old.members (suc (green_count old.queue)) more
  pub white : h.queue.white ≡ old.queue.white

-- nothing of it changes
pub record SameMembers (old h : Held) : Type 0 where
  pub greens : h.queue.greens ≡ old.queue.greens
  pub members : h.members ≡ old.members
  pub white : h.queue.white ≡ old.queue.white

pub follows-same : (old h new : Held) → SameMembers h new → FollowsGreens old h → FollowsGreens old new
follows-same old h new same is = record { more = is.more; greens = same.greens ∙ is.greens; members = same.members ∙ is.members; white = same.white ∙ is.white }

pub follows-first : (h : Held) → FollowsGreens h h
follows-first h = record { more = []; greens = sym (append-nil h.queue.greens); members = refl; white = refl }

pub greens-behind : (m : Members) (place : ℕ) (xs ys : List Action) → after_greens m place (xs ++ ys) ≡ after_greens (after_greens m place xs) (place + length xs) ys
greens-behind m place [] ys = ap (λ n. after_greens m n ys) (let none : place ≡ place + 0 = omega arith in none)
greens-behind m place (x ∷ xs) ys =
    greens-behind (after_green m place x) (suc place) xs ys
    ∙ ap (λ n. after_greens (after_greens m place (x ∷ xs)) n ys) (let next : suc place + length xs ≡ place + suc (length xs) = omega arith in next)

-- ---- own actions become red

pub redden-same : (t : Turn) (a : Action) → SameMembers t.replica.held (redden t a).replica.held
redden-same t a =
    let q = t.replica.held.queue in
    let cut = index_in q.red_cut a.id.creator in
    cond_both (nat_le a.id.index cut) (Marks Known q) (if a.id.index == suc cut then Marks Placed (placed_red q a) else Gaps cut) (λ m. SameMembers t.replica.held (marked t a m).replica.held)
    (λ y. record { greens = refl; members = refl; white = refl })
    (λ n. cond_both (a.id.index == suc cut) (Marks Placed (placed_red q a)) (Gaps cut) (λ m. SameMembers t.replica.held (marked t a m).replica.held)
    (λ y. record { greens = refl; members = refl; white = refl })
    (λ n. record { greens = refl; members = refl; white = refl }))

reddens-same : (list : List Action) (t : Turn) → SameMembers t.replica.held (fold redden t list).replica.held
reddens-same [] t = record { greens = refl; members = refl; white = refl }
reddens-same (a ∷ list) t =
    let one = redden-same t a in
    let rest = reddens-same list (redden t a) in
    record { greens = rest.greens ∙ one.greens; members = rest.members ∙ one.members; white = rest.white ∙ one.white }

pub own-same : (t : Turn) → SameMembers t.replica.held (own_to_red t).replica.held
unfolding own_to_red
own-same t = let rest = reddens-same t.replica.held.own (forget_own t) in record { greens = rest.greens; members = rest.members; white = rest.white }

-- ---- each change

green-follows : (old h : Held) (a : Action) (new : Held) → new.queue.greens ≡ h.queue.greens ++ a ∷ [] → new.members ≡ after_green h.members (suc (green_count h.queue)) a → new.queue.white ≡ h.queue.white →
    FollowsGreens old h → FollowsGreens old new
green-follows old h a new greens members white is =
    let count : suc (green_count h.queue) ≡ suc (green_count old.queue) + length is.more =
    (let long = ap length is.greens in let both = length-append old.queue.greens is.more in let w = is.white in omega arith) in
    record {
      more = is.more ++ a ∷ [];
      greens = greens ∙ ap (λ xs. xs ++ a ∷ []) is.greens ∙ append_assoc old.queue.greens is.more (a ∷ []);
      members = members ∙ ap₂ (λ m n. after_green m n a) is.members count ∙ sym (greens-behind old.members (suc (green_count old.queue)) is.more (a ∷ []));
      white = white ∙ is.white;
    }

pub follows-rule : (old : Held) → IsRule (λ t. FollowsGreens old t.replica.held) (λ a. Unit {0})
unfolding place_green
follows-rule old = record {
  greens = λ t p. Each-all (λ (a : Action). Unit {0}) (λ a. tt) t.replica.held.queue.greens;
  reds = λ t p. Each-all (λ (a : Action). Unit {0}) (λ a. tt) t.replica.held.queue.reds;
  goes = λ t state apart p. p;
  leaves = λ t p. record { more = p.more; greens = p.greens; members = p.members; white = p.white };
  says = λ t m none p. p;
  part = λ t part p. p;
  values = λ t yellow valid prim index v p. record { more = p.more; greens = p.greens; members = p.members; white = p.white };
  known = λ t a fine next made p. record { more = p.more; greens = p.greens; members = p.members; white = p.white };
  green = λ t a fine next made p. green-follows old t.replica.held a (with_green t.replica.held a) refl refl refl p;
  own_red = λ t p. follows-same old t.replica.held (own_to_red t).replica.held (own-same t) p;
}

-- ---- whole turns

pub takes-follow : (r : Replica) (list : List (Delivery Msg)) → FollowsGreens r.held (take_all list (begin r)).replica.held
takes-follow r list = of-deliveries (λ t. FollowsGreens r.held t.replica.held) (λ a. Unit {0}) (follows-rule r.held) (begin r) list (any-deliveries list) (follows-first r.held)

pub creates-same : (list : List Kind) (t : Turn) → SameMembers t.replica.held (fold create t list).replica.held
unfolding create
creates-same [] t = record { greens = refl; members = refl; white = refl }
creates-same (kind ∷ list) t = let rest = creates-same list (create t kind) in record { greens = rest.greens; members = rest.members; white = rest.white }

pub settles-follow : (r : Replica) → FollowsGreens r.held (settle (begin r)).replica.held
unfolding create_kept
settles-follow r = at (is_creating r.state) where
  at : (b : Bool) → FollowsGreens r.held (cond b (create_kept (begin r)) (begin r)).replica.held
  at true = follows-same r.held r.held (fold create (empty_buffer (begin r)) r.held.buffered).replica.held
      (let rest = creates-same r.held.buffered (empty_buffer (begin r)) in record { greens = rest.greens; members = rest.members; white = rest.white }) (follows-first r.held)
  at false = follows-first r.held

pub asks-follow : (r : Replica) (kind : Kind) → FollowsGreens r.held (request (begin r) kind).replica.held
asks-follow r kind = at r.state where
  t : Turn
  t = begin r

  made : FollowsGreens r.held (create t kind).replica.held
  made = follows-same r.held r.held (create t kind).replica.held (let rest = creates-same (kind ∷ []) t in record { greens = rest.greens; members = rest.members; white = rest.white }) (follows-first r.held)

  kept : FollowsGreens r.held (buffer t kind).replica.held
  kept = (let p = follows-first r.held in record { more = p.more; greens = p.greens; members = p.members; white = p.white })

  at : (state : State) → FollowsGreens r.held (request_in state t kind).replica.held
  at RegPrim = made
  at (NonPrim true) = made
  at Left = follows-first r.held
  at TransPrim = kept
  at (ExchangeStates conf set heard) = kept
  at (ExchangeActions conf heard accepted) = kept
  at (Construct conf heard) = kept
  at (No conf heard) = kept
  at Un = kept
  at (NonPrim false) = kept

-- what becomes green in a turn is what follows
pub drop-front : (xs ys : List Action) → drop (length xs) (xs ++ ys) ≡ ys
drop-front [] ys = refl
drop-front (x ∷ xs) ys = drop-front xs ys

pub newly-more : (r new : Replica) (f : FollowsGreens r.held new.held) → newly_green r new ≡ f.more
newly-more r new f = ap (drop (length r.held.queue.greens)) f.greens ∙ drop-front r.held.queue.greens f.more
