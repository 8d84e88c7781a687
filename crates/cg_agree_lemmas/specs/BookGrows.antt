-- The book of all actions grows by what a replica makes: each next action is the next of its creator, so that a name stands for one.
use Rattle.std.proofs.Common.{length, ◌≡◌, ℕ, suc, max, Bool, true, false, cond, ◌||◌, List, [], ◌∷◌, ◌++◌, fold, find, append-nil, append_assoc, Option, Some, None, refl, sym, ap, ◌∙◌, subst, arith, inl, inr, Contains, ◌<◌, zero}
use Rattle.std.proofs.lemmas.Bool.{cases_Bool, cond-true, cond-false, and_parts, false_from_ne_true, or_cases}
use Rattle.cg_base.specs.Lists.{Each}
use Rattle.cg_base.specs.declared.action_id.ActionId.{ActionId}
use Rattle.cg_base.specs.Cuts.{index_in, raise}
use Rattle.cg_base.specs.Ids.{same_id, has_name}
use Rattle.cg_base.specs.IdLaws.{same_id-true, same_id-is, same_id-self}
use Rattle.cg_action.specs.declared.action.Action.{Action}
use Rattle.cg_action.specs.declared.action.Kind.{Kind}
use Rattle.cg_queue.specs.Queue.{names_of}
use Rattle.cg_client.specs.Replica.{Held, State, RegPrim, TransPrim, ExchangeStates, ExchangeActions, Construct, No, Un, NonPrim, Left, Replica, last_index, created}
use Rattle.cg_client.specs.Turn.{Turn, begin, with_held}
use Rattle.cg_client.specs.Requests.{is_creating, next_action, create, create_kept, empty_buffer, buffer, settle, request_in, request}
use Rattle.cg_disk_records.specs.Holds.{run_on, cut_behind, Rising}
use Rattle.cg_disk_records.specs.CutRaiseLaws.{index-same, index-other, rising-behind}
use Rattle.cg_disk_records.specs.RunLaws.{cut_behind-append, run_on-append, run_on-next}
use Rattle.cg_disk_records.specs.RunMarkLaws.{names-new, run-head}
use Rattle.cg_disk_records.specs.HeldLaws.{names-behind, created-behind}
use Rattle.cg_agree_lemmas.specs.DiskAhead.{OwnRuns}
use Rattle.cg_disk_records.specs.HoldsValueLaws.{mine-behind}
use Rattle.std.proofs.lemmas.List.Elements.{Contains-append_right}

-- the action of a name
abbrev pub named_in : List Action → ActionId → Option Action
named_in book id = find (λ a. same_id a.id id) book

abbrev pub IsNamed : List Action → Action → Type 0
IsNamed book a = named_in book a.id ≡ Some a

-- ---- in a list in which each is the next of its creator a name stands for one action

pub found-more : (xs ys : List Action) (id : ActionId) (a : Action) → named_in xs id ≡ Some a → named_in (xs ++ ys) id ≡ Some a
found-more [] ys id a e = absurd (let clash : None ≡ Some a = e in cc)
found-more (x ∷ xs) ys id a e = elim (cases_Bool (same_id x.id id)) [
  | inl here ↦ cond-true (same_id x.id id) (Some x) (named_in (xs ++ ys) id) here ∙ sym (cond-true (same_id x.id id) (Some x) (named_in xs id) here) ∙ e
  | inr other ↦ cond-false (same_id x.id id) (Some x) (named_in (xs ++ ys) id) other ∙ found-more xs ys id a (sym (cond-false (same_id x.id id) (Some x) (named_in xs id) other) ∙ e)
]

pub named-more : (xs ys : List Action) (a : Action) → IsNamed xs a → IsNamed (xs ++ ys) a
named-more xs ys a is = found-more xs ys a.id a is

-- a name that isn't among the earlier ones
found-last : (xs : List Action) (a : Action) (ys : List Action) → has_name (names_of xs) a.id ≡ false → named_in (xs ++ a ∷ ys) a.id ≡ Some a
found-last [] a ys none = cond-true (same_id a.id a.id) (Some a) (named_in ys a.id) (same_id-self a.id)
found-last (x ∷ xs) a ys none =
    let first : same_id a.id x.id ≡ false = or-first (same_id a.id x.id) (has_name (names_of xs) a.id) none in
    cond-false (same_id x.id a.id) (Some x) (named_in (xs ++ a ∷ ys) a.id) (other-way x.id a.id first) ∙ found-last xs a ys (or-second (same_id a.id x.id) (has_name (names_of xs) a.id) none)
  where
    or-first : (p q : Bool) → (p || q) ≡ false → p ≡ false
    or-first true q e = absurd (let clash : true ≡ false = e in cc)
    or-first false q e = refl

    or-second : (p q : Bool) → (p || q) ≡ false → q ≡ false
    or-second true q e = absurd (let clash : true ≡ false = e in cc)
    or-second false q e = e

    other-way : (m n : ActionId) → same_id n m ≡ false → same_id m n ≡ false
    other-way m n e = false_from_ne_true (same_id m n) (λ y.
        let one = same_id-is m n y in
        let back : same_id n m ≡ true = same_id-true n m (ap (λ (x : ActionId). x.creator) (sym one)) (ap (λ (x : ActionId). x.index) (sym one)) in
        let clash : true ≡ false = sym back ∙ e in cc)

named-behind : (done rest : List Action) → run_on [] (names_of (done ++ rest)) ≡ true → Each (IsNamed (done ++ rest)) rest
named-behind done [] run = tt
named-behind done (a ∷ rest) run =
    let cut = cut_behind [] (names_of done) in
    let parts = and_parts (run_on [] (names_of done)) (run_on cut (a.id ∷ names_of rest)) (sym (run_on-append [] (names_of done) (a.id ∷ names_of rest)) ∙ ap (run_on []) (sym (names-both done (a ∷ rest))) ∙ run) in
    let new = names-new [] (names_of done) a.id tt parts.0 (run-head cut a.id (names_of rest) parts.1) in
    let joined : (done ++ a ∷ []) ++ rest ≡ done ++ a ∷ rest = append_assoc done (a ∷ []) rest in
    (found-last done a rest new, subst (λ xs. Each (IsNamed xs) rest) joined (named-behind (done ++ a ∷ []) rest (ap (λ xs. run_on [] (names_of xs)) joined ∙ run)))
  where
    names-both : (xs ys : List Action) → names_of (xs ++ ys) ≡ names_of xs ++ names_of ys
    names-both [] ys = refl
    names-both (x ∷ xs) ys = ap (λ list. x.id ∷ list) (names-both xs ys)

pub named-all : (book made : List Action) → run_on [] (names_of (book ++ made)) ≡ true → Each (IsNamed (book ++ made)) made
named-all book made run = named-behind book made run

-- ---- what a replica makes

abbrev pub cut_of : List Action → List ActionId
cut_of book = cut_behind [] (names_of book)

pub rising-of : (book : List Action) → Rising 0 (cut_of book)
rising-of book = rising-behind [] (names_of book) tt

-- the book so far and what was made in the turn run on, and count what the replica has created
pub record IsCounted (book : List Action) (old : Held) (t : Turn) : Type 0 where
  pub run : run_on [] (names_of (book ++ t.made)) ≡ true
  pub id : t.replica.held.id ≡ old.id
  pub counted : index_in (cut_of (book ++ t.made)) old.id ≡ created t.replica.held
  pub others : (q : ℕ) → (q ≡ old.id → ⊥) → index_in (cut_of (book ++ t.made)) q ≡ index_in (cut_of book) q
  pub own : OwnRuns t.replica.held

cut-next : (xs : List Action) (a : Action) → cut_of (xs ++ a ∷ []) ≡ raise (cut_of xs) a.id
cut-next xs a = ap (cut_behind []) (names-behind xs a) ∙ cut_behind-append [] (names_of xs) (a.id ∷ [])

pub create-counted : (book : List Action) (old : Held) (t : Turn) (kind : Kind) → IsCounted book old t → IsCounted book old (create t kind)
unfolding create
create-counted book old t kind is =
    let h = t.replica.held in
    let a = next_action h kind in
    let all = book ++ t.made in
    let joined : book ++ (t.made ++ a ∷ []) ≡ all ++ a ∷ [] = sym (append_assoc book t.made (a ∷ [])) in
    let cut : cut_of (book ++ (t.made ++ a ∷ [])) ≡ raise (cut_of all) a.id = ap cut_of joined ∙ cut-next all a in
    let next : a.id.index ≡ suc (index_in (cut_of all) a.id.creator) = ap suc (sym is.counted ∙ ap (index_in (cut_of all)) (sym is.id)) in
    let reached : index_in (raise (cut_of all) a.id) old.id ≡ max (index_in (cut_of all) old.id) (suc (created h)) = index-same (cut_of all) a.id (rising-of all) old.id is.id in
    let count : index_in (cut_of all) old.id ≡ created h = is.counted in
    let now : index_in (raise (cut_of all) a.id) old.id ≡ suc (created h) = omega arith in
    let own_cut : cut_behind h.queue.red_cut (names_of (h.own ++ a ∷ [])) ≡ raise (cut_behind h.queue.red_cut (names_of h.own)) a.id =
    ap (cut_behind h.queue.red_cut) (names-behind h.own a) ∙ cut_behind-append h.queue.red_cut (names_of h.own) (a.id ∷ []) in
    let behind : index_in (cut_behind h.queue.red_cut (names_of h.own)) h.id ≡ created h = created-behind h.queue.red_cut h.id h.own is.own.rising is.own.run is.own.mine in
    let runs : run_on h.queue.red_cut (names_of (h.own ++ a ∷ [])) ≡ true =
    ap (run_on h.queue.red_cut) (names-behind h.own a) ∙ run_on-next h.queue.red_cut (names_of h.own) a.id is.own.run (ap suc (sym behind)) in
    let mine = mine-behind h.id h.own a is.own.mine refl in
    let new_behind : index_in (cut_behind h.queue.red_cut (names_of (h.own ++ a ∷ []))) h.id ≡ max (index_in h.queue.red_cut h.id) (last_index (h.own ++ a ∷ [])) =
    created-behind h.queue.red_cut h.id (h.own ++ a ∷ []) is.own.rising runs mine in
    let raised : index_in (raise (cut_behind h.queue.red_cut (names_of h.own)) a.id) h.id ≡ max (index_in (cut_behind h.queue.red_cut (names_of h.own)) h.id) (suc (created h)) =
    index-same (cut_behind h.queue.red_cut (names_of h.own)) a.id (rising-behind h.queue.red_cut (names_of h.own) is.own.rising) h.id refl in
    let most : index_in (raise (cut_behind h.queue.red_cut (names_of h.own)) a.id) h.id ≡ suc (created h) = omega arith in
    let made : max (index_in h.queue.red_cut h.id) (last_index (h.own ++ a ∷ [])) ≡ suc (created h) = sym new_behind ∙ ap (λ c. index_in c h.id) own_cut ∙ most in
    record {
      run = ap (λ xs. run_on [] (names_of xs)) joined ∙ ap (run_on []) (names-behind all a) ∙ run_on-next [] (names_of all) a.id is.run next;
      id = is.id;
      counted = ap (λ c. index_in c old.id) cut ∙ now ∙ sym made;
      others = λ q apart. ap (λ c. index_in c q) cut ∙ index-other (cut_of all) a.id (rising-of all) q (λ e. apart (sym e ∙ is.id)) ∙ is.others q apart;
      own = record { rising = is.own.rising; run = runs; mine = mine };
    }

creates-counted : (book : List Action) (old : Held) (list : List Kind) (t : Turn) → IsCounted book old t → IsCounted book old (fold create t list)
creates-counted book old [] t is = is
creates-counted book old (kind ∷ list) t is = creates-counted book old list (create t kind) (create-counted book old t kind is)

buffered-counted : (book : List Action) (old : Held) (t : Turn) (list : List Kind) → IsCounted book old t → (let h = t.replica.held in IsCounted book old (with_held t (record h { buffered = list })))
buffered-counted book old t list is =
    record { run = is.run; id = is.id; counted = is.counted; others = is.others; own = record { rising = is.own.rising; run = is.own.run; mine = is.own.mine } }

pub settle-counted : (book : List Action) (old : Held) (t : Turn) → IsCounted book old t → IsCounted book old (settle t)
unfolding create_kept
settle-counted book old t is = at (is_creating t.replica.state) where
  at : (b : Bool) → IsCounted book old (cond b (create_kept t) t)
  at true = creates-counted book old t.replica.held.buffered (empty_buffer t) (buffered-counted book old t [] is)
  at false = is

pub request-counted : (book : List Action) (old : Held) (t : Turn) (kind : Kind) → IsCounted book old t → IsCounted book old (request t kind)
request-counted book old t kind is = at t.replica.state where
  made : IsCounted book old (create t kind)
  made = create-counted book old t kind is

  kept : IsCounted book old (buffer t kind)
  kept = buffered-counted book old t (t.replica.held.buffered ++ kind ∷ []) is

  at : (state : State) → IsCounted book old (request_in state t kind)
  at RegPrim = made
  at (NonPrim true) = made
  at Left = is
  at TransPrim = kept
  at (ExchangeStates conf set heard) = kept
  at (ExchangeActions conf heard accepted) = kept
  at (Construct conf heard) = kept
  at (No conf heard) = kept
  at Un = kept
  at (NonPrim false) = kept

-- at a replica's turn's beginning
pub counted-first : (book : List Action) (r : Replica) → run_on [] (names_of book) ≡ true → index_in (cut_of book) r.held.id ≡ created r.held → OwnRuns r.held → IsCounted book r.held (begin r)
counted-first book r run counted own = record {
  run = ap (λ xs. run_on [] (names_of xs)) (append-nil book) ∙ run;
  id = refl;
  counted = ap (λ xs. index_in (cut_of xs) r.held.id) (append-nil book) ∙ counted;
  others = λ q apart. ap (λ xs. index_in (cut_of xs) q) (append-nil book);
  own = own;
}

-- a name that stands in a list is found there
pub record IsFoundIn (list : List Action) (id : ActionId) : Type 0 where
  pub action : Action
  pub found : named_in list id ≡ Some action
  pub name : action.id ≡ id
  pub there : Contains list action

pub named-found : (list : List Action) (id : ActionId) → has_name (names_of list) id ≡ true → IsFoundIn list id
named-found [] id is = absurd (let clash : false ≡ true = is in cc)
named-found (a ∷ list) id is = elim (cases_Bool (same_id a.id id)) [
  | inl here ↦ record {
    action = a;
    found = cond-true (same_id a.id id) (Some a) (named_in list id) here;
    name = same_id-is a.id id here;
    there = (zero, (let less : 0 < suc (length list) = omega arith in less), refl);
  }
  | inr other ↦
      let rest = named-found list id (elim (or_cases (same_id id a.id) (has_name (names_of list) id) is) [
        | inl here ↦ absurd (let same : id ≡ a.id = same_id-is id a.id here in
            let self : same_id a.id id ≡ true = subst (λ (x : ActionId). same_id a.id x ≡ true) (sym same) (same_id-self a.id) in
            let clash : true ≡ false = sym self ∙ other in cc)
        | inr later ↦ later
      ]) in
      record {
        action = rest.action;
        found = cond-false (same_id a.id id) (Some a) (named_in list id) other ∙ rest.found;
        name = rest.name;
        there = Contains-append_right (a ∷ []) list rest.action rest.there;
      }
]
