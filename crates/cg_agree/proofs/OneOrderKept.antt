-- One order, behind each small step: the greens that a replica has in memory, on its disk and in a snapshot are a front of the newest line.
use Rattle.std.proofs.Common.{◌≡◌, ℕ, true, List, [], ◌++◌, Option, Some, None, IfSome, is_some, refl, sym, ap, ◌∙◌, subst, inl, inr}
use Rattle.cg_action.specs.declared.action.Action.{Action}
use Rattle.cg_client.specs.Replica.{Replica}
use Rattle.cg_client.specs.Turn.{Turn, begin}
use Rattle.cg_client.specs.Requests.{settle}
use Rattle.cg_disk_records.specs.Crash.{Disk}
use Rattle.cg_model.specs.World.{Up, TransferState, node_of}
use Rattle.cg_model.specs.Chronicle.{Chronicle}
use Rattle.cg_model.specs.Looks.{greens_of, snapshot_of, copied_for}
use Rattle.cg_model.specs.FactsAttempts.{LevelsStand, LeftOut, YellowValid}
use Rattle.cg_model.specs.FactsGreens.{PrimaryGreens, InstalledCount, Spine, OneOrder}
use Rattle.cg_model.specs.Facts.{Invariant}
use Rattle.cg_model.specs.Played.{AtRest}
use Rattle.cg_model.specs.Small.{Small, Starts, Makes, Enters, Orders, Receives, Hands, Leaves, Asks, Settles, Commits, Crashes, Recovers, Copies, Joins, small_step, turning, newly_green, coming, handed_next, leaving, take_newest, take_next, take_parting, take_request}
use Rattle.cg_model.specs.Smalls.{may_make}
use Rattle.cg_agree_lemmas.specs.CoresKept.{IsClosed, cores-weaker, greens-turn}
use Rattle.cg_agree_lemmas.specs.CoresSmall.{StepKeeps, cores-kept, ready-of}
use Rattle.cg_agree.proofs.FactsKept.{attempt-now}
use Rattle.cg_agree.proofs.GreensMove.{GreensMove, Stays, IsHanded, Parts, Begins, greens-move}
use Rattle.cg_agree.proofs.OneLine.{IsOnTop}
use Rattle.cg_agree.proofs.OneOrderNow.{OnLine, nothing-on_top, all-on_top, top-still, late-on_top, hands-on_top}
use Rattle.cg_agree_lemmas.specs.OneselfWorld.{HavePasts}
use Rattle.cg_agree_lemmas.specs.RecordKept.{turn-is}
use Rattle.cg_agree.proofs.SpineNow.{spine-now}

-- what a fact of the greens alone asks of a commit, a recovery and a joining is nothing
closed : (d : Chronicle) → IsClosed (λ h xs. OnLine d xs)
closed d = record { whitened = λ h all is. is; stored = λ h all is. is; recovers = λ h all is. is; joins = λ p h all is. is }

turn-greens : (b : Chronicle) (p : ℕ) (part : Turn → Turn) (r : Replica) (disk : Disk) → HavePasts b → node_of b.world p ≡ Some (record { id = p; life = Up r disk }) →
    greens_of (turning b p part) p ≡ greens_of b p ++ newly_green r (part (begin r)).replica
turn-greens b p part r disk pasts node = ap (λ (x : Chronicle). greens_of x p) (turn-is b p part r disk node) ∙ greens-turn b p r disk (part (begin r)) pasts node

-- what holds behind the step beside one order: members of primary components have green what they were handed, and counts are right;
-- and what isn't among the facts before it
pub record OrderAsks (c d : Chronicle) : Type 0 where
  pub left_out : LeftOut c
  pub yellow_valid : YellowValid c
  pub primary_greens : PrimaryGreens d
  pub installed_count : InstalledCount d

module _ (c : Chronicle) (s : Small) (i : Invariant c) (may : may_make c s ≡ true) (rest : AtRest c s) (asks : OrderAsks c (small_step c s)) where
  stands : LevelsStand (small_step c s)
  stands = (attempt-now c s i may rest).levels_stand

  spine : Spine (small_step c s)
  spine = spine-now c s i may rest asks.left_out stands asks.installed_count

  still : (xs : List Action) → IsOnTop c xs → IsOnTop (small_step c s) xs
  still = top-still c s i may rest asks.left_out stands asks.installed_count

  -- the greens of each replica are on top
  pub behind-on_top : (q : ℕ) → IsOnTop (small_step c s) (greens_of (small_step c s) q)
  behind-on_top q = at (greens-move c s i may rest q) where
    given : (o : Option TransferState) → is_some o ≡ true → IfSome o (λ x. OnLine c (copied_for c q)) → IsOnTop c (copied_for c q)
    given None there is = absurd (let clash : is_some (let x : Option TransferState = None in x) ≡ true = there in cc)
    given (Some x) there is = record { front = is.0; count = is.1 }

    at : GreensMove c (small_step c s) q → IsOnTop (small_step c s) (greens_of (small_step c s) q)
    at (Stays same) = subst (IsOnTop (small_step c s)) (sym same) (still (greens_of c q) (all-on_top c i q))
    at (IsHanded may' step) =
        subst (λ (x : Chronicle). IsOnTop x (greens_of x q)) (sym step)
        (hands-on_top c q i may' asks.left_out (subst PrimaryGreens step asks.primary_greens) (subst InstalledCount step asks.installed_count) (subst Spine step spine))
    at (Parts late) = late-on_top c i asks.yellow_valid (small_step c s) q late s refl stands asks.installed_count spine
    at (Begins none (inl e)) = subst (IsOnTop (small_step c s)) (sym e) (nothing-on_top (small_step c s))
    at (Begins none (inr e)) = subst (IsOnTop (small_step c s)) (sym e.1) (still (copied_for c q) (given (snapshot_of c.world q) e.0 (i.green.one_order.snapshot q)))

  pair : (xs : List Action) → IsOnTop (small_step c s) xs → OnLine (small_step c s) xs
  pair xs on = (on.front, on.count)

  pub order-pair : (xs : List Action) → OnLine c xs → OnLine (small_step c s) xs
  order-pair xs is = pair xs (still xs (record { front = is.0; count = is.1 }))

-- at its turn
turn-keeps : (d b : Chronicle) (p : ℕ) (part : Turn → Turn) → HavePasts b → d ≡ turning b p part → IsOnTop d (greens_of d p) → (r : Replica) (disk : Disk) → node_of b.world p ≡ Some (record { id = p; life = Up r disk }) →
    OnLine d (greens_of b p ++ newly_green r (part (begin r)).replica)
turn-keeps d b p part pasts step on r disk node =
    subst (OnLine d) (ap (λ (x : Chronicle). greens_of x p) step ∙ turn-greens b p part r disk pasts node) (on.front, on.count)

keeps : (c : Chronicle) (s : Small) (i : Invariant c) → OnLine (small_step c s) [] → ((q : ℕ) → IsOnTop (small_step c s) (greens_of (small_step c s) q)) → StepKeeps c s (λ h xs. OnLine (small_step c s) xs)
unfolding small_step
keeps c (Starts set) i none on = λ p. none
keeps c (Enters p) i none on = turn-keeps (small_step c (Enters p)) (coming c p) p (take_newest c.world.group) i.net.hosted.past refl (on p)
keeps c (Hands p) i none on = turn-keeps (small_step c (Hands p)) (handed_next c p) p (take_next c.world.group p) i.net.hosted.past refl (on p)
keeps c (Leaves p set own places) i none on = turn-keeps (small_step c (Leaves p set own places)) (leaving c p set own) p (take_parting c.world.group p set places) i.net.hosted.past refl (on p)
keeps c (Asks p kind) i none on = turn-keeps (small_step c (Asks p kind)) c p (take_request kind) i.net.hosted.past refl (on p)
keeps c (Settles p) i none on = turn-keeps (small_step c (Settles p)) c p settle i.net.hosted.past refl (on p)
keeps c (Makes set) i none on = tt
keeps c (Orders p) i none on = tt
keeps c (Receives p place) i none on = tt
keeps c (Commits p) i none on = tt
keeps c (Crashes p) i none on = tt
keeps c (Recovers p) i none on = tt
keeps c (Copies p joiner) i none on = tt
keeps c (Joins joiner) i none on = tt

-- Each small step keeps it.
pub one_order-now : (c : Chronicle) (s : Small) → Invariant c → may_make c s ≡ true → AtRest c s → OrderAsks c (small_step c s) → OneOrder (small_step c s)
one_order-now c s i may rest asks =
    let none = nothing-on_top (small_step c s) in
    cores-kept (λ h xs. OnLine (small_step c s) xs) c s (ready-of c i.net.hosted i.replica.disk_behind) may (closed (small_step c s))
    (keeps c s i (none.front, none.count) (behind-on_top c s i may rest asks))
    (cores-weaker (λ h xs. OnLine c xs) (λ h xs. OnLine (small_step c s) xs) c (λ h xs is. order-pair c s i may rest asks xs is) i.green.one_order)
