-- What an action that is handed makes of the numbers that are held, where it is the next of its creator.
use Rattle.std.proofs.Common.{◌≡◌, ℕ, suc, ◌+◌, ◌≤◌, Bool, true, false, cond, not, ◌&&◌, List, [], ◌∷◌, ◌++◌, length, filter, fold, refl, sym, ap, subst, ◌∙◌, ⊎_elim, arith, eqb-true, eq-eqb, if◌then◌else◌}
use Rattle.std.specs.Prelude.{◌==◌, nat_lt}
use Rattle.std.specs.List.{list_all}
use Rattle.std.proofs.lemmas.Bool.{cases_eq, cond-true, cond-false, cond_both, and_parts, and_from, ne_eqb, le-ltb}
use Rattle.cg_base.specs.declared.action_id.ActionId.{ActionId}
use Rattle.cg_base.specs.Cuts.{index_in, raise}
use Rattle.cg_base.specs.Ids.{same_id}
use Rattle.cg_action.specs.declared.action.Action.{Action}
use Rattle.cg_queue.specs.Queue.{marked_red}
use Rattle.cg_queue.specs.MarkLaws.{red-placed}
use Rattle.cg_client.specs.Replica.{Held, created}
use Rattle.cg_client.specs.Turn.{Turn}
use Rattle.cg_client.specs.Marks.{is_unmade, after_first, marked, mark_red, can_be_green, place_green, mark_green}
use Rattle.cg_client.specs.Install.{valid_yellow, yellow_green, install}
use Rattle.cg_model.specs.Talk.{Talk}
use Rattle.cg_model.specs.FactsTalk.{of_creator, count_behind}
use Rattle.cg_disk_records.specs.Holds.{Rising}
use Rattle.cg_disk_records.specs.CutRaiseLaws.{index-same, index-other}

-- one more, of that creator
abbrev pub one_of : Action → ℕ → ℕ
one_of a creator = if a.id.creator == creator then 1 else 0

-- a cut that is raised to the next action
pub raised-next : (cut : List ActionId) (a : Action) → Rising 0 cut → a.id.index ≡ suc (index_in cut a.id.creator) → (creator : ℕ) →
    index_in (raise cut a.id) creator ≡ index_in cut creator + one_of a creator
raised-next cut a rising next creator = ⊎_elim
    (λ (same : a.id.creator ≡ creator).
    let here : index_in cut a.id.creator ≡ index_in cut creator = ap (index_in cut) same in
    let one : one_of a creator ≡ 1 = cond-true (a.id.creator == creator) 1 0 (eq-eqb a.id.creator creator same) in
    index-same cut a.id rising creator same ∙ omega arith)
    (λ (other : a.id.creator ≡ creator → ⊥).
    let none : one_of a creator ≡ 0 = cond-false (a.id.creator == creator) 1 0 (ne_eqb a.id.creator creator other) in
    index-other cut a.id rising creator other ∙ omega arith)
    (cases_eq a.id.creator creator)

-- and so rises what a talk counts
pub counted-next : (t : Talk) (a : Action) (creator : ℕ) → count_behind (record t { acts = t.acts ++ a ∷ [] }) creator ≡ count_behind t creator + one_of a creator
counted-next t a creator = let e = filtered t.acts in omega arith where
  filtered : (acts : List Action) → length (of_creator creator (acts ++ a ∷ [])) ≡ length (of_creator creator acts) + one_of a creator
  filtered [] = cond_both (a.id.creator == creator) (a ∷ []) [] (λ xs. length xs ≡ 0 + one_of a creator)
      (λ y. (let one : one_of a creator ≡ 1 = cond-true (a.id.creator == creator) 1 0 y in omega arith)) (λ n. (let none : one_of a creator ≡ 0 = cond-false (a.id.creator == creator) 1 0 n in omega arith))
  filtered (b ∷ acts) = by (b.id.creator == creator) b (of_creator creator (acts ++ a ∷ [])) (of_creator creator acts) (one_of a creator) (filtered acts) where
    by : (t : Bool) (b : Action) (more less : List Action) (k : ℕ) → length more ≡ length less + k → length (cond t (b ∷ more) more) ≡ length (cond t (b ∷ less) less) + k
    by true b more less k e = omega (arith, e)
    by false b more less k e = e

-- ---- marks

pub record RedTaken (t u : Turn) (a : Action) : Type 0 where
  pub red : u.replica.held.queue.red_cut ≡ raise t.replica.held.queue.red_cut a.id
  pub own : u.replica.held.own ≡ after_first t.replica.held.own a.id
  pub state : u.replica.state ≡ t.replica.state

pub red-taken : (t : Turn) (a : Action) → is_unmade t.replica.held a ≡ false → a.id.index ≡ suc (index_in t.replica.held.queue.red_cut a.id.creator) → RedTaken t (mark_red t a) a
unfolding mark_red
red-taken t a made next =
    let h = t.replica.held in
    subst (λ (u : Turn). RedTaken t u a) (sym (ap (λ b. cond b t (marked t a (marked_red h.queue a))) made ∙ ap (marked t a) (red-placed h.queue a next)))
    (record { red = refl; own = refl; state = refl })

pub record GreenTaken (t u : Turn) (a : Action) : Type 0 where
  pub green : u.replica.held.queue.green_cut ≡ raise t.replica.held.queue.green_cut a.id
  pub reds : t.replica.held.queue.reds ≡ [] → u.replica.held.queue.reds ≡ []
  pub own : u.replica.held.own ≡ after_first t.replica.held.own a.id
  pub state : u.replica.state ≡ t.replica.state

pub green-taken : (t : Turn) (a : Action) → is_unmade t.replica.held a ≡ false → a.id.index ≡ suc (index_in t.replica.held.queue.green_cut a.id.creator) → GreenTaken t (mark_green t a) a
unfolding mark_green can_be_green place_green
green-taken t a made next =
    let h = t.replica.held in
    let can : ((a.id.index == suc (index_in h.queue.green_cut a.id.creator)) && not (is_unmade h a)) ≡ true =
    and_from (a.id.index == suc (index_in h.queue.green_cut a.id.creator)) (not (is_unmade h a)) (eq-eqb a.id.index (suc (index_in h.queue.green_cut a.id.creator)) next) (ap not made) in
    subst (λ (u : Turn). GreenTaken t u a) (sym (cond-true (can_be_green h a) (place_green t a) t can))
    (record { green = refl; reds = λ none. ap (λ (xs : List Action). filter (λ x. not (same_id x.id a.id)) xs) none; own = refl; state = refl })

-- an action that its creator has made
pub made-so : (h : Held) (a : Action) → (a.id.creator ≡ h.id → a.id.index ≤ created h) → is_unmade h a ≡ false
unfolding is_unmade
made-so h a made = ⊎_elim
    (λ same. ap (λ b. (a.id.creator == h.id) && b) (le-ltb (created h) a.id.index (made same)) ∙ both (a.id.creator == h.id))
    (λ other. ap (λ b. b && nat_lt (created h) a.id.index) (ne_eqb a.id.creator h.id other))
    (cases_eq a.id.creator h.id) where
      both : (b : Bool) → (b && false) ≡ false
      both true = refl
      both false = refl

-- ---- own actions

-- one's own action is the first that waits
pub after-own : (a : Action) (rest : List Action) → after_first (a ∷ rest) a.id ≡ rest
after-own a rest = cond-true (same_id a.id a.id) rest (a ∷ rest) (and_from (a.id.creator == a.id.creator) (a.id.index == a.id.index) (eq-eqb a.id.creator a.id.creator refl) (eq-eqb a.id.index a.id.index refl))

-- another's isn't waited for
pub after-other : (me : ℕ) (own : List Action) (id : ActionId) → list_all (λ a. a.id.creator == me) own ≡ true → (id.creator ≡ me → ⊥) → after_first own id ≡ own
after-other me [] id mine other = refl
after-other me (a ∷ own) id mine other =
    let first = (and_parts (a.id.creator == me) (list_all (λ a. a.id.creator == me) own) mine).0 in
    cond-false (same_id a.id id) own (a ∷ own) (ap (λ b. b && (a.id.index == id.index)) (ne_eqb a.id.creator id.creator (λ e. other (sym e ∙ eqb-true a.id.creator me first))))

-- an installation leaves nothing to wait for where nothing is
none-after : (own : List Action) (id : ActionId) → own ≡ [] → after_first own id ≡ []
none-after own id none = ap (λ xs. after_first xs id) none

own-green : (t : Turn) (a : Action) → t.replica.held.own ≡ [] → (mark_green t a).replica.held.own ≡ []
unfolding mark_green place_green
own-green t a none = cond_both (can_be_green t.replica.held a) (place_green t a) t (λ u. u.replica.held.own ≡ []) (λ y. none-after t.replica.held.own a.id none) (λ n. none)

own-greens : (list : List Action) (t : Turn) → t.replica.held.own ≡ [] → (fold mark_green t list).replica.held.own ≡ []
own-greens [] t none = none
own-greens (a ∷ list) t none = own-greens list (mark_green t a) (own-green t a none)

pub own-install : (t : Turn) → t.replica.held.own ≡ [] → (install t).replica.held.own ≡ []
unfolding install
own-install t none = let y = yellow_green t in own-greens y.replica.held.queue.reds y (own-greens (valid_yellow t.replica.held) t none)
