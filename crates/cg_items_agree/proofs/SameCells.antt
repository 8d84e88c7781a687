-- Lists with the same actions have the same cells, whatever their order.
use Rattle.std.proofs.Common.{◌≡◌, ℕ, suc, ◌+◌, ◌≤◌, true, false, List, [], ◌∷◌, ◌++◌, Option, Some, refl, sym, ap, ap₂, ◌∙◌, subst, inl, inr, arith, append_assoc}
use Rattle.std.specs.Option.{option_map_or}
use Rattle.std.proofs.lemmas.Bool.{cases_Bool, cond-true, cond-false}
use Rattle.cg_base.specs.Lists.{Each}
use Rattle.cg_base.specs.EachLaws.{Each-append}
use Rattle.cg_base.specs.declared.action_id.ActionId.{ActionId}
use Rattle.cg_base.specs.Ids.{same_id}
use Rattle.cg_base.specs.IdLaws.{same_id-is, same_id-self}
use Rattle.cg_action.specs.declared.action.Action.{Action}
use Rattle.cg_queue.specs.Queue.{names_of}
use Rattle.cg_agree_lemmas.specs.RepliesPlaced.{times, times-both}
use Rattle.cg_relaxed.specs.declared.cell.Cell.{Cell}
use Rattle.cg_relaxed.specs.Cells.{cell_of}
use Rattle.cg_relaxed.specs.Laws.{OrderDoesNotMatter}
use Rattle.cg_queue.specs.NameLaws.{names-append}

-- each name is as often among the ones as among the others
abbrev pub SameTimes : List Action → List Action → Type 0
SameTimes xs ys = (id : ActionId) → times id (names_of xs) ≡ times id (names_of ys)

-- each action is the one of its name
abbrev pub AreOf : (ActionId → Option Action) → List Action → Type 0
AreOf book list = Each (λ a. book a.id ≡ Some a) list

pub times-appended : (id : ActionId) (xs ys : List Action) →
    times id (names_of (xs ++ ys)) ≡ times id (names_of xs) + times id (names_of ys)
times-appended id xs ys = ap (times id) (names-append xs ys) ∙ times-both id (names_of xs) (names_of ys)

times-first : (id : ActionId) (a : Action) (xs : List Action) →
    times id (names_of (a ∷ xs)) ≡ times id (a.id ∷ []) + times id (names_of xs)
times-first id a xs = times-both id (a.id ∷ []) (names_of xs)

times-own : (id : ActionId) (ids : List ActionId) → 1 ≤ times id (id ∷ ids)
times-own id ids =
    let here : times id (id ∷ ids) ≡ suc (times id ids) = cond-true (same_id id id) (suc (times id ids)) (times id ids) (same_id-self id) in
    omega arith

module _ (book : ActionId → Option Action) where
  same-action : (a b : Action) → book a.id ≡ Some a → book b.id ≡ Some b → a.id ≡ b.id → a ≡ b
  same-action a b one other same = ap (λ o. option_map_or (λ x. x) o a) (sym one ∙ ap book same ∙ other)

  record IsAmong (list : List Action) (a : Action) : Type 0 where
    before : List Action
    after : List Action
    is : list ≡ before ++ a ∷ after

  among : (list : List Action) (a : Action) → AreOf book list → book a.id ≡ Some a → 1 ≤ times a.id (names_of list) →
      IsAmong list a
  among [] a each own some = absurd (omega arith)
  among (x ∷ list) a each own some = elim (cases_Bool (same_id x.id a.id)) [
    | inl here ↦ record { before = []; after = list; is = ap (λ y. y ∷ list) (same-action x a each.0 own (same_id-is x.id a.id here)) }
    | inr other ↦
        let less : times a.id (names_of (x ∷ list)) ≡ times a.id (names_of list) = cond-false (same_id x.id a.id) (suc (times a.id (names_of list))) (times a.id (names_of list)) other in
        let rest = among list a each.1 own (omega arith) in
        record { before = x ∷ rest.before; after = rest.after; is = ap (λ ys. x ∷ ys) rest.is }
  ]

  front-of : (xs ys : List Action) → AreOf book (xs ++ ys) → AreOf book xs
  front-of [] ys each = tt
  front-of (x ∷ xs) ys each = (each.0, front-of xs ys each.1)

  back-of : (xs ys : List Action) → AreOf book (xs ++ ys) → AreOf book ys
  back-of [] ys each = each
  back-of (x ∷ xs) ys each = back-of xs ys each.1

  module _ (order : OrderDoesNotMatter) (key : List ℕ) where
    abbrev of : List Action → Cell
    of list = cell_of list key

    swapped : (front back : List Action) (a b : Action) → book a.id ≡ Some a → book b.id ≡ Some b →
        of (front ++ a ∷ b ∷ back) ≡ of (front ++ b ∷ a ∷ back)
    swapped front back a b one other = elim (cases_Bool (same_id a.id b.id)) [
      | inl same ↦
          let is : a ≡ b = same-action a b one other (same_id-is a.id b.id same) in
          ap₂ (λ x y. of (front ++ x ∷ y ∷ back)) is (sym is)
      | inr apart ↦ order front back a b key (λ e.
          let same : same_id a.id b.id ≡ true = subst (λ (x : ActionId). same_id a.id x ≡ true) e (same_id-self a.id) in
          let clash : true ≡ false = sym same ∙ apart in
          cc)
    ]

    to-front : (front xs back : List Action) (a : Action) → AreOf book xs → book a.id ≡ Some a →
        of (front ++ (xs ++ a ∷ back)) ≡ of (front ++ a ∷ (xs ++ back))
    to-front front [] back a each own = refl
    to-front front (x ∷ xs) back a each own =
        ap of (sym (append_assoc front (x ∷ []) (xs ++ a ∷ back)))
        ∙ to-front (front ++ x ∷ []) xs back a each.1 own
        ∙ ap of (append_assoc front (x ∷ []) (a ∷ (xs ++ back)))
        ∙ swapped front (xs ++ back) x a each.0 own

    pub same-cells : (front xs ys : List Action) → AreOf book xs → AreOf book ys → SameTimes xs ys →
        of (front ++ xs) ≡ of (front ++ ys)
    same-cells front [] [] each also same = refl
    same-cells front [] (y ∷ ys) each also same =
        absurd (let here = times-own y.id (names_of ys) in let none = same y.id in omega arith)
    same-cells front (x ∷ xs) ys each also same =
        let there = among ys x also each.0 (let here = times-own x.id (names_of xs) in let as_often = same x.id in omega arith) in
        let parts : AreOf book (there.before ++ x ∷ there.after) = subst (AreOf book) there.is also in
        let before = front-of there.before (x ∷ there.after) parts in
        let behind = back-of there.before (x ∷ there.after) parts in
        let rest : SameTimes xs (there.before ++ there.after) = λ id.
        let all = same id ∙ ap (λ (zs : List Action). times id (names_of zs)) there.is in
        let one = times-first id x xs in
        let split = times-appended id there.before (x ∷ there.after) in
        let other = times-first id x there.after in
        let joined = times-appended id there.before there.after in
        omega arith
        in
        ap of (sym (append_assoc front (x ∷ []) xs))
        ∙ same-cells (front ++ x ∷ []) xs (there.before ++ there.after) each.1 (Each-append (λ a. book a.id ≡ Some a) there.before there.after before behind.1) rest
        ∙ ap of (append_assoc front (x ∷ []) (there.before ++ there.after))
        ∙ sym (to-front front there.before there.after x before each.0)
        ∙ ap (λ zs. of (front ++ zs)) (sym there.is)
