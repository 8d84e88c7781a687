-- What a replica has green against the order, and so what a follower is made of and what it is fed.
use Rattle.std.proofs.Common.{◌≡◌, ℕ, zero, suc, ◌+◌, ◌-◌, ◌≤◌, ◌<◌, min, List, [], ◌++◌, length, take, drop, refl, sym, ap, ◌∙◌, inl, inr, arith, length-append, length-drop, length-take, take_all, drop-drop, take-add, drop_of_length-le}
use Rattle.std.proofs.lemmas.Bool.{cases_lt}
use Rattle.cg_action.specs.declared.action.Action.{Action}
use Rattle.cg_db.specs.Apply.{fold_actions}
use Rattle.cg_queue.specs.Queue.{green_count}
use Rattle.cg_client.specs.Replica.{Replica}
use Rattle.cg_model.specs.Run.{Step}
use Rattle.cg_model.specs.Shown.{order_of, ordered_actions, position_of, white_of}
use Rattle.cg_follow.specs.Followed.{Followed, fed, follower_of}
use Rattle.cg_follower_list.specs.Followers.{next_greens}
use Rattle.cg_model.specs.MadeLaws.{AreMade}
use Rattle.cg_items_agree.proofs.OrderActions.{ordered-count, ordered-front}
use Rattle.cg_db.specs.FoldLaws.{fold_actions_from-append}

-- the lines told of the replica's position and white count, and what it has is the order's up to there
pub record HasGreens (steps : List Step) (p : ℕ) (r : Replica) : Type 0 where
  pub position : position_of p steps ≡ green_count r.held.queue
  pub white : white_of p steps ≡ r.held.queue.white
  pub within : green_count r.held.queue ≤ length (order_of steps)
  pub db : r.held.db ≡ fold_actions (ordered_actions steps (green_count r.held.queue))
  pub kept : r.held.queue.greens ≡ drop r.held.queue.white (ordered_actions steps (green_count r.held.queue))

-- ---- followers of lists

feeds-go-on : (first next : List Action) → fed (follower_of first) next ≡ follower_of (first ++ next)
feeds-go-on first next =
    let count = length-append first next in
    let db = fold_actions_from-append [] first next in
    (λ i. record { cursor = sym count i; db = sym db i })

take-none : (n : ℕ) → take {A = Action} n [] ≡ []
take-none zero = refl
take-none (suc n) = refl

fed-nothing : (f : Followed) → fed f [] ≡ f
fed-nothing f = let same : f.cursor + 0 ≡ f.cursor = omega arith in (λ i. record { cursor = same i; db = f.db })

-- the follower of the first actions of the order
abbrev pub at_steps : List Step → ℕ → Followed
at_steps steps n = follower_of (ordered_actions steps n)

module _ (steps : List Step) (made : AreMade steps (order_of steps)) where
  module _ (p : ℕ) (r : Replica) (has : HasGreens steps p r) where
    abbrev count : ℕ
    count = green_count r.held.queue

    abbrev all : List Action
    all = ordered_actions steps count

    all-count : length all ≡ count
    all-count = ordered-count steps made count has.within

    -- a follower that is made of the replica
    pub made-is : (record { cursor = count; db = r.held.db }) ≡ at_steps steps count
    made-is = (λ i. record { cursor = sym all-count i; db = has.db i })

    -- so many of its greens past a cursor
    pub next-is : (c n : ℕ) → r.held.queue.white ≤ c → next_greens r.held.queue c n ≡ take n (drop c all)
    next-is c n behind =
        let there : r.held.queue.white + (c - r.held.queue.white) ≡ c = omega arith in
        ap (λ (list : List Action). take n (drop (c - r.held.queue.white) list)) has.kept
        ∙ ap (take n) (drop-drop (c - r.held.queue.white) r.held.queue.white all)
        ∙ ap (λ m. take n (drop m all)) there

    pub next-count : (c n : ℕ) → r.held.queue.white ≤ c → length (next_greens r.held.queue c n) ≡ min n (count - c)
    next-count c n behind =
        ap length (next-is c n behind) ∙ length-take n (drop c all)
        ∙ ap (min n) (length-drop c all ∙ ap (λ m. m - c) all-count)

    -- as many as there are
    take-count : (c n : ℕ) → take n (drop c all) ≡ take (min n (count - c)) (drop c all)
    take-count c n = elim (cases_lt n (count - c)) [
      | inl fewer ↦ ap (λ m. take m (drop c all)) (let less : n < count - c = fewer in
          let same : n ≡ min n (count - c) = omega arith in same)
      | inr more ↦
          let rest : length (drop c all) ≡ count - c = length-drop c all ∙ ap (λ m. m - c) all-count in
          let many : count - c ≤ n = more in
          take_all n (drop c all) (omega arith) ∙ sym (take_all (min n (count - c)) (drop c all) (omega arith))
    ]

    pub next-feeds : (c n : ℕ) → r.held.queue.white ≤ c → c ≤ length (order_of steps) →
        fed (at_steps steps c) (next_greens r.held.queue c n) ≡ at_steps steps (c + min n (count - c))
    next-feeds c n behind within = elim (cases_lt count c) [
      | inl past ↦
          let beyond : length all ≤ c = (let same = all-count in let less : count < c = past in omega arith) in
          let none : next_greens r.held.queue c n ≡ [] = next-is c n behind ∙ take-count c n
          ∙ ap (take (min n (count - c))) (drop_of_length-le all beyond) ∙ take-none (min n (count - c)) in
          let stays : c + min n (count - c) ≡ c = (let less : count < c = past in omega arith) in
          ap (fed (at_steps steps c)) none ∙ fed-nothing (at_steps steps c) ∙ ap (at_steps steps) (sym stays)
      | inr inside ↦
          let k : ℕ = min n (count - c) in
          let few : c ≤ count = inside in
          let reach : c + k ≤ count = omega arith in
          let first : ordered_actions steps c ≡ take c all = ordered-front steps made c count few has.within in
          let both : ordered_actions steps (c + k) ≡ take (c + k) all =
          ordered-front steps made (c + k) count reach has.within in
          ap (fed (at_steps steps c)) (next-is c n behind ∙ take-count c n)
          ∙ feeds-go-on (ordered_actions steps c) (take k (drop c all))
          ∙ ap follower_of (ap (λ (list : List Action). list ++ take k (drop c all)) first ∙ sym (take-add c k all)
          ∙ sym both)
    ]

    pub reach-within : (c n : ℕ) → c ≤ length (order_of steps) → c + min n (count - c) ≤ length (order_of steps)
    reach-within c n within = let inside = has.within in omega arith
