-- The actions that a member has said: those that were handed to it, and behind them those that are on the way to it.
use Rattle.std.proofs.Common.{◌≡◌, ℕ, suc, ◌+◌, ◌≤◌, true, List, [], ◌∷◌, ◌++◌, filter_map, take, drop, length, max, refl, sym, ap, ap₂, subst, ◌∙◌, arith, length-append}
use Rattle.std.proofs.lemmas.Bool.{and_parts}
use Rattle.std.proofs.lemmas.List.{append_assoc}
use Rattle.std.proofs.lemmas.List.Elements.{filter_map-append}
use Rattle.cg_base.specs.Cuts.{index_in}
use Rattle.cg_action.specs.declared.action.Action.{Action}
use Rattle.cg_wire.specs.declared.message.Msg.{Msg}
use Rattle.cg_group.specs.State.{Sent, delivered_to}
use Rattle.cg_client.specs.Replica.{Held, created, last_index}
use Rattle.cg_model.specs.Chronicle.{Chronicle}
use Rattle.cg_model.specs.Looks.{members_in, ordered_in, placed_of, waiting_in, said_in}
use Rattle.cg_model.specs.Talk.{no_talk, talk_of, is_legal, act_in}
use Rattle.cg_model.specs.FactsTalk.{handed_talk, TalkLegal, of_creator, AreOnTheWay}
use Rattle.cg_agree_lemmas.specs.ActsSaid.{acts-by, acts-of}
use Rattle.cg_agree_lemmas.specs.HandsKept.{take-drop}
use Rattle.cg_agree_lemmas.specs.NumbersSame.{AreInRow}
use Rattle.cg_agree_lemmas.specs.TalkCommute.{legal-append}
use Rattle.cg_agree_lemmas.specs.SaidSoFar.{placed-append}

-- the actions of a member that weren't handed to it yet
abbrev pub later_acts : Chronicle → ℕ → ℕ → List Action
later_acts c k q = filter_map act_in (placed_of q (drop (delivered_to c.world.group q) (ordered_in c k)) ++ waiting_in c k q)

pub drop-behind : {X : Type 0} (xs ys : List X) → drop (length xs) (xs ++ ys) ≡ ys
drop-behind [] ys = refl
drop-behind (x ∷ xs) ys = drop-behind xs ys

-- the actions of a member among those handed to one, and those that follow
pub acts-split : (c : Chronicle) (k : ℕ) → TalkLegal c → (n q : ℕ) →
    filter_map act_in (said_in c k q) ≡ of_creator q (talk_of (take n (ordered_in c k))).acts ++ filter_map act_in (placed_of q (drop n (ordered_in c k)) ++ waiting_in c k q)
acts-split c k legal n q =
    let list = ordered_in c k in
    let front = take n list in
    let rest = drop n list in
    let set = members_in c k in
    let split : placed_of q list ≡ placed_of q front ++ placed_of q rest = ap (placed_of q) (sym (take-drop list n)) ∙ placed-append q front rest in
    let first : filter_map act_in (placed_of q front) ≡ of_creator q (talk_of front).acts =
    sym (acts-by set k q front no_talk (front-legal set list n (legal.ordered k))) ∙ ap (of_creator q) (sym (acts-of front no_talk)) in
    ap (filter_map act_in) (ap (λ xs. xs ++ waiting_in c k q) split ∙ append_assoc (placed_of q front) (placed_of q rest) (waiting_in c k q))
    ∙ filter_map-append act_in (placed_of q front) (placed_of q rest ++ waiting_in c k q)
    ∙ ap (λ xs. xs ++ filter_map act_in (placed_of q rest ++ waiting_in c k q)) first where
      front-legal : (set : List ℕ) (list : List (Sent Msg)) (n : ℕ) → is_legal set k no_talk list ≡ true → is_legal set k no_talk (take n list) ≡ true
      front-legal set list n all =
          (and_parts (is_legal set k no_talk (take n list)) (is_legal set k (talk_of (take n list)) (drop n list))
          (sym (legal-append set k (take n list) (drop n list) no_talk) ∙ ap (is_legal set k no_talk) (take-drop list n) ∙ all)).0

module _ (c : Chronicle) (k q : ℕ) (legal : TalkLegal c) where
  abbrev before : List Action
  before = of_creator q (handed_talk c k q).acts

  pub said-split : filter_map act_in (said_in c k q) ≡ before ++ later_acts c k q
  said-split = acts-split c k legal (delivered_to c.world.group q) q

  -- what is on the way is what follows
  pub way-later : (h : Held) → AreOnTheWay c k q h → h.own ≡ later_acts c k q
  way-later h way = way ∙ ap (drop (length before)) said-split ∙ drop-behind before (later_acts c k q)

-- ---- rows

pub row-both : (n : ℕ) (xs ys : List Action) → AreInRow n xs → AreInRow (n + length xs) ys → AreInRow n (xs ++ ys)
row-both n [] ys a b = subst (λ m. AreInRow m ys) (let e : n + 0 ≡ n = omega arith in e) b
row-both n (x ∷ xs) ys a b =
    ap₂ (λ y zs. y ∷ zs) (ap (head 0) a) (row-both (suc n) xs ys (ap tail a) (subst (λ m. AreInRow m ys) (let e : n + suc (length xs) ≡ suc n + length xs = omega arith in e) b)) where
      head : ℕ → List ℕ → ℕ
      head none [] = none
      head none (y ∷ list) = y

      tail : List ℕ → List ℕ
      tail [] = []
      tail (y ∷ list) = list

-- an action in a row
pub row-at : (n : ℕ) (xs : List Action) (a : Action) (ys : List Action) → AreInRow n (xs ++ a ∷ ys) → a.id.index ≡ suc (n + length xs)
row-at n [] a ys row = ap (head 0) row ∙ (let e : suc n ≡ suc (n + 0) = omega arith in e) where
  head : ℕ → List ℕ → ℕ
  head none [] = none
  head none (y ∷ list) = y
row-at n (x ∷ xs) a ys row = row-at (suc n) xs a ys (ap tail row) ∙ (let e : suc (suc n + length xs) ≡ suc (n + suc (length xs)) = omega arith in e) where
  tail : List ℕ → List ℕ
  tail [] = []
  tail (y ∷ list) = list

pub row-rest : (n : ℕ) (xs ys : List Action) → AreInRow n (xs ++ ys) → AreInRow (n + length xs) ys
row-rest n [] ys row = subst (λ m. AreInRow m ys) (let e : n ≡ n + 0 = omega arith in e) row
row-rest n (x ∷ xs) ys row = subst (λ m. AreInRow m ys) (let e : suc n + length xs ≡ n + suc (length xs) = omega arith in e) (row-rest (suc n) xs ys (ap tail row)) where
  tail : List ℕ → List ℕ
  tail [] = []
  tail (y ∷ list) = list

-- the last of a row
pub row-last : (n : ℕ) (xs : List Action) → AreInRow n xs → max n (last_index xs) ≡ n + length xs
row-last n [] row = (let e : max n 0 ≡ n + 0 = omega arith in e)
row-last n (x ∷ []) row = let one : x.id.index ≡ suc n = row-at n [] x [] row ∙ (let e : suc (n + 0) ≡ suc n = omega arith in e) in omega arith
row-last n (x ∷ y ∷ xs) row =
    let rest = row-last (suc n) (y ∷ xs) (row-rest-one row) in
    let next : y.id.index ≡ suc (suc n) = row-at (suc n) [] y xs (row-rest-one row) ∙ (let e : suc (suc n + 0) ≡ suc (suc n) = omega arith in e) in
    let above = last-above (suc n) (y ∷ xs) (row-rest-one row) in
    omega arith where
      tail : List ℕ → List ℕ
      tail [] = []
      tail (z ∷ list) = list

      row-rest-one : AreInRow n (x ∷ y ∷ xs) → AreInRow (suc n) (y ∷ xs)
      row-rest-one r = ap tail r

      last-above : (m : ℕ) (zs : List Action) → AreInRow m zs → m ≤ max m (last_index zs)
      last-above m zs r = omega arith

-- how many a member has created, where it knows those handed to it and the others are on the way
pub created-count : (h : Held) (q n : ℕ) (before later : List Action) → h.id ≡ q → index_in h.queue.red_cut q ≡ n + length before → h.own ≡ later → AreInRow n (before ++ later) →
    created h ≡ n + length (before ++ later)
created-count h q n before later id red own row =
    let long = length-append before later in
    let rest = row-last (n + length before) later (row-rest n before later row) in
    ap₂ max (ap (index_in h.queue.red_cut) id ∙ red) (ap last_index own) ∙ rest ∙ omega arith
