-- The actions of the first places of the order: how many they are, and that later steps don't change them.
use Rattle.std.proofs.Common.{◌≡◌, ℕ, ◌≤◌, List, [], ◌++◌, length, take, drop, Contains, sym, ap, ◌∙◌, subst, inl, inr, arith, length-append}
use Rattle.std.proofs.lemmas.List.{length-map, take-take, take_at, take-append-drop, take-append-le, length-take-le}
use Rattle.cg_base.specs.declared.action_id.ActionId.{ActionId}
use Rattle.cg_action.specs.declared.action.Action.{Action}
use Rattle.cg_model.specs.Run.{Step}
use Rattle.cg_model.specs.Shown.{order_of, made_names, made_actions, ordered_actions}
use Rattle.cg_model.specs.Agreement.{CreatorOrder}
use Rattle.cg_base.specs.ElementLaws.{contains-none, take-there, last-of}
use Rattle.cg_model.specs.MadeLaws.{AreMade, actions-more, actions-append, names-made}
use Rattle.cg_model.specs.RunLaws.{order-append}

-- all names of the order were made
pub all-made : (steps : List Step) → CreatorOrder steps → AreMade steps (order_of steps)
all-made steps creators = elim (last-of steps) [
  | inl none ↦ λ id there. absurd (contains-none id (subst (λ (xs : List Step). Contains (order_of xs) id) none there))
  | inr some ↦ λ id there.
      subst (λ (xs : List Step). Contains (made_names xs) id) (sym some.is)
      (creators.made_before some.front some.last id ([], some.is)
      (subst (λ (xs : List Step). Contains (order_of xs) id) some.is there))
]

module _ (steps : List Step) (made : AreMade steps (order_of steps)) where
  pub ordered-count : (n : ℕ) → n ≤ length (order_of steps) → length (ordered_actions steps n) ≡ n
  ordered-count n less =
      let ids = take n (order_of steps) in
      sym (length-map (ordered_actions steps n) (λ (a : Action). a.id))
      ∙ ap length (names-made steps ids (λ id there. made id (take-there n (order_of steps) id there)))
      ∙ length-take-le n (order_of steps) less

  -- fewer of them are a front
  pub ordered-front : (m n : ℕ) → m ≤ n → n ≤ length (order_of steps) →
      ordered_actions steps m ≡ take m (ordered_actions steps n)
  ordered-front m n few less =
      let ids = take n (order_of steps) in
      let parts : ids ≡ take m (order_of steps) ++ drop m ids =
      sym (take-append-drop m ids)
      ∙ ap (λ (xs : List ActionId). xs ++ drop m ids) (take-take m n (order_of steps) few) in
      let both : ordered_actions steps n ≡ ordered_actions steps m ++ made_actions steps (drop m ids) =
      ap (made_actions steps) parts ∙ actions-append steps (take m (order_of steps)) (drop m ids) in
      let within : m ≤ length (order_of steps) = omega arith in
      sym (ap (take m) both ∙ take_at (ordered_actions steps m) (made_actions steps (drop m ids)) m
      (ordered-count m within))

  -- they are the same behind later steps
  pub ordered-more : (later : List Step) (n : ℕ) → n ≤ length (order_of steps) →
      ordered_actions (steps ++ later) n ≡ ordered_actions steps n
  ordered-more later n less =
      let names : take n (order_of (steps ++ later)) ≡ take n (order_of steps) =
      ap (take n) (order-append steps later) ∙ take-append-le n (order_of steps) (order_of later) less in
      ap (made_actions (steps ++ later)) names
      ∙ actions-more steps later (take n (order_of steps))
      (λ id there. made id (take-there n (order_of steps) id there))

pub order-longer : (steps later : List Step) → length (order_of steps) ≤ length (order_of (steps ++ later))
order-longer steps later =
    let whole : length (order_of (steps ++ later)) ≡ length (order_of steps ++ order_of later) =
    ap length (order-append steps later) in
    let both = length-append (order_of steps) (order_of later) in
    omega arith
