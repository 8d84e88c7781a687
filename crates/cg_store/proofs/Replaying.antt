-- Changes put in one after another, where each of them fits.
use Rattle.std.proofs.Common.{◌≡◌, List, [], ◌∷◌, Bool, true, false, Option, Some, None, Result, Ok, Err, IfOk, refl, sym, ap, ◌∙◌}
use Rattle.std.specs.Prelude.{option_and_then, slice_get}
use Rattle.std.specs.List.{list_all}
use Rattle.std.proofs.lemmas.Bool.{and_parts}
use Rattle.cg_base.specs.declared.action_id.ActionId.{ActionId}
use Rattle.cg_base.specs.Ids.{has_name, same_id}
use Rattle.cg_action.specs.declared.action.Action.{Action}
use Rattle.cg_client.specs.Marks.{is_first}
use Rattle.cg_queue.specs.Answers.{AreReds}
use Rattle.cg_queue.specs.Queue.{QueueView, names_of}
use Rattle.cg_disk_records.specs.Stored.{Stored}
use Rattle.cg_disk_records.specs.Following.{know, green_by_name, make, all_of, with_values, after_change}
use Rattle.cg_disk_records.specs.declared.change.Change.{Change}
use Rattle.cg_store.specs.Opening.{Follows}
use Rattle.cg_disk_records.specs.KnownLaws.{none-all}

-- an item that doesn't fit
pub stops : {A : Type 0} (go : Stored → A → Option Stored) (s : Stored) (a : A) (items : List A) (total : Option Stored) → go s a ≡ None → all_of go (Some s) (a ∷ items) ≡ total → total ≡ None
stops go s a items total none all = sym all ∙ ap (λ now. all_of go now items) none ∙ none-all go items

pub are_reds : (q : QueueView) (ids : List ActionId) → list_all (has_name (names_of q.reds)) ids ≡ true → AreReds q ids
are_reds q [] all = tt
are_reds q (id ∷ ids) all =
    let parts = and_parts (has_name (names_of q.reds) id) (list_all (has_name (names_of q.reds)) ids) all in
    (parts.0, are_reds q ids parts.1)

-- the first own action
pub first_is : (own : List Action) (a : Action) (id : ActionId) → slice_get own 0 ≡ Some a → is_first (names_of own) id ≡ same_id a.id id
first_is [] a id is = cc
first_is (b ∷ own) a id is = let same : b ≡ a = cc in ap (λ (x : Action). same_id x.id id) same

pub none_first : (own : List Action) (id : ActionId) → slice_get own 0 ≡ None → is_first (names_of own) id ≡ false
none_first [] id is = refl
none_first (b ∷ own) id is = cc

-- an item that doesn't fit, among those that are left
pub stops_at : {A : Type 0} (go : Stored → A → Option Stored) (s : Stored) (a : A) (left items : List A) (total : Option Stored) → go s a ≡ None → left ≡ a ∷ items → all_of go (Some s) left ≡ total → total ≡ None
stops_at go s a left items total none first all = stops go s a items total none (sym (ap (λ l. all_of go (Some s) l) first) ∙ all)

-- the parts of a change
pub unknown_none : (s : Stored) (c : Change) → all_of know (Some s) c.known ≡ None → after_change s c ≡ None
unfolding after_change
unknown_none s c none =
    ap (λ x. option_and_then (with_values c.stable) (all_of make (all_of green_by_name x c.green) c.made)) none
    ∙ ap (λ x. option_and_then (with_values c.stable) (all_of make x c.made)) (none-all green_by_name c.green)
    ∙ ap (option_and_then (with_values c.stable)) (none-all make c.made)

pub ungreen_none : (s t : Stored) (c : Change) → all_of know (Some s) c.known ≡ Some t → all_of green_by_name (Some t) c.green ≡ None → after_change s c ≡ None
unfolding after_change
ungreen_none s t c known none =
    ap (λ x. option_and_then (with_values c.stable) (all_of make (all_of green_by_name x c.green) c.made)) known
    ∙ ap (λ x. option_and_then (with_values c.stable) (all_of make x c.made)) none
    ∙ ap (option_and_then (with_values c.stable)) (none-all make c.made)

pub unmade_none : (s t u : Stored) (c : Change) → all_of know (Some s) c.known ≡ Some t → all_of green_by_name (Some t) c.green ≡ Some u → all_of make (Some u) c.made ≡ None → after_change s c ≡ None
unfolding after_change
unmade_none s t u c known green none =
    ap (λ x. option_and_then (with_values c.stable) (all_of make (all_of green_by_name x c.green) c.made)) known
    ∙ ap (λ x. option_and_then (with_values c.stable) (all_of make x c.made)) green
    ∙ ap (option_and_then (with_values c.stable)) none

pub all_marked : (s t u v : Stored) (c : Change) → all_of know (Some s) c.known ≡ Some t → all_of green_by_name (Some t) c.green ≡ Some u → all_of make (Some u) c.made ≡ Some v →
    all_of make (all_of green_by_name (all_of know (Some s) c.known) c.green) c.made ≡ Some v
all_marked s t u v c known green made =
    ap (λ x. all_of make (all_of green_by_name x c.green) c.made) known
    ∙ ap (λ x. all_of make x c.made) green
    ∙ made

pub all_fit : (s t u v : Stored) (c : Change) → all_of know (Some s) c.known ≡ Some t → all_of green_by_name (Some t) c.green ≡ Some u → all_of make (Some u) c.made ≡ Some v → after_change s c ≡ with_values c.stable v
unfolding after_change
all_fit s t u v c known green made = ap (option_and_then (with_values c.stable)) (all_marked s t u v c known green made)

pub if_ok_follows : (o p : Option Stored) (h : Stored) (E : Type 0) (r : Result Bool E) → p ≡ o → IfOk r (Follows o h) → IfOk r (Follows p h)
if_ok_follows o p h E (Ok true) same is = same ∙ is
if_ok_follows o p h E (Ok false) same is = same ∙ is
if_ok_follows o p h E (Err e) same is = tt
