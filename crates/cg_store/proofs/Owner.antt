-- Whose state a disk stands for: changes and checkpoints keep the replica.
use Rattle.std.proofs.Common.{◌≡◌, ℕ, List, [], ◌∷◌, ◌++◌, Bool, true, false, Option, Some, None, refl, sym, ◌∙◌, ap}
use Rattle.std.specs.Prelude.{option_and_then, if◌then◌else◌}
use Rattle.std.specs.Option.{option_map}
use Rattle.cg_base.specs.declared.action_id.ActionId.{ActionId}
use Rattle.cg_action.specs.declared.action.Action.{Action}
use Rattle.cg_queue.specs.Queue.{action_of}
use Rattle.cg_records.specs.declared.stable.Stable.{Stable}
use Rattle.cg_client.specs.Replica.{Held}
use Rattle.cg_client.specs.Marks.{with_green, after_first}
use Rattle.cg_queue.specs.Queue.{placed_red}
use Rattle.cg_disk_records.specs.Stored.{Stored, whiten}
use Rattle.cg_disk_records.specs.declared.change.Change.{Change}
use Rattle.cg_disk_records.specs.declared.checkpoint.Checkpoint.{Checkpoint}
use Rattle.cg_disk_records.specs.Following.{fits_known, know, turn_green, green_by_name, make, all_of, put_values, with_values, after_change}
use Rattle.cg_disk_records.specs.Parts.{Saved, saved_of, saved_in, do_agree, change_in, checkpoint_in}
use Rattle.cg_store.specs.Stands.{led_by, led_by_all, Live, live_from, live_on, OnDisk, stands_for}
use Rattle.cg_journal.specs.Records.{Records}
use Rattle.cg_store.proofs.Standing.{standing_parts}

-- the state of a test
of_test : (b : Bool) (x t : Stored) → (if b then Some x else None) ≡ Some t → x ≡ t
of_test true x t is = cc
of_test false x t is = cc

module _ {A : Type 0} (go : Stored → A → Option Stored) (keeps : (s t : Stored) (a : A) → go s a ≡ Some t → t.id ≡ s.id) where
  step : (now : Option Stored) (a : A) (t : Stored) → option_and_then (λ x. go x a) now ≡ Some t → (s : Stored) × (now ≡ Some s) × (t.id ≡ s.id)
  step None a t is = cc
  step (Some s) a t is = (s, refl, keeps s t a is)

  pub all-from : (now : Option Stored) (items : List A) (t : Stored) → all_of go now items ≡ Some t → (s : Stored) × (now ≡ Some s) × (t.id ≡ s.id)
  all-from None [] t is = cc
  all-from (Some s) [] t is = (s, refl, (let same : s ≡ t = cc in sym (ap (λ (x : Stored). x.id) same)))
  all-from now (a ∷ items) t is =
      let more = all-from (option_and_then (λ x. go x a) now) items t is in
      let one = step now a more.0 more.1 in
      (one.0, one.1, more.2 ∙ one.2)

know-id : (s t : Stored) (a : Action) → know s a ≡ Some t → t.id ≡ s.id
know-id s t a is = sym (ap (λ (x : Stored). x.id) (of_test (fits_known s a) (record s { queue = placed_red s.queue a; own = after_first s.own a.id }) t is))

turn-id : (s t : Stored) (a : Action) → turn_green s a ≡ Some t → t.id ≡ s.id
turn-id s t a is = sym (ap (λ (x : Stored). x.id) (of_test _ (with_green s a) t is))

green-id : (s t : Stored) (id : ActionId) → green_by_name s id ≡ Some t → t.id ≡ s.id
green-id s t id is = at (action_of s.queue id) is where
  at : (found : Option Action) → option_and_then (turn_green s) found ≡ Some t → t.id ≡ s.id
  at None is = cc
  at (Some a) is = turn-id s t a is

make-id : (s t : Stored) (a : Action) → make s a ≡ Some t → t.id ≡ s.id
make-id s t a is = sym (ap (λ (x : Stored). x.id) (of_test _ (record s { own = s.own ++ a ∷ [] }) t is))

whiten-id : (h : Held) → (whiten h).id ≡ h.id
unfolding whiten
whiten-id h = refl

values-id : (v : Stable) (s t : Stored) → with_values v s ≡ Some t → t.id ≡ s.id
values-id v s t is = sym (ap (λ (x : Stored). x.id) (of_test _ (whiten (put_values s v)) t is)) ∙ whiten-id (put_values s v)

after-id : (s t : Stored) (c : Change) → after_change s c ≡ Some t → t.id ≡ s.id
unfolding after_change
after-id s t c is = at (all_of make (all_of green_by_name (all_of know (Some s) c.known) c.green) c.made) refl is where
  at : (found : Option Stored) → all_of make (all_of green_by_name (all_of know (Some s) c.known) c.green) c.made ≡ found → option_and_then (with_values c.stable) found ≡ Some t → t.id ≡ s.id
  at None e is = cc
  at (Some x) e is =
      let made = all-from make make-id (all_of green_by_name (all_of know (Some s) c.known) c.green) c.made x e in
      let green = all-from green_by_name green-id (all_of know (Some s) c.known) c.green made.0 made.1 in
      let known = all-from know know-id (Some s) c.known green.0 green.1 in
      let same : s ≡ known.0 = (let one = known.1 in cc) in
      values-id c.stable x t is ∙ made.2 ∙ green.2 ∙ known.2 ∙ sym (ap (λ (y : Stored). y.id) same)

led-id : (s t : Stored) (body : List ℕ) → led_by s body ≡ Some t → t.id ≡ s.id
led-id s t body is = at (change_in body) is where
  at : (found : Option Change) → option_and_then (after_change s) found ≡ Some t → t.id ≡ s.id
  at None is = cc
  at (Some c) is = after-id s t c is

led_all-id : (s t : Stored) (bodies : List (List ℕ)) → led_by_all (Some s) bodies ≡ Some t → t.id ≡ s.id
led_all-id s t bodies is =
    let found = all-from led_by led-id (Some s) bodies t is in
    let same : s ≡ found.0 = (let one = found.1 in cc) in
    found.2 ∙ sym (ap (λ (y : Stored). y.id) same)

saved-id : (id : ℕ) (body : List ℕ) (x : Saved) → checkpoint_in id body ≡ Some x → x.content.id ≡ id
unfolding checkpoint_in
saved-id id body x is = at _ is where
  test : (b : Bool) (p : Checkpoint) → (if b then Some (saved_in id p) else None) ≡ Some x → x.content.id ≡ id
  test true p is = let same : saved_in id p ≡ x = cc in sym (ap (λ (y : Saved). y.content.id) same)
  test false p is = cc

  at : (found : Option Checkpoint) → option_and_then (saved_of id) found ≡ Some x → x.content.id ≡ id
  at None is = cc
  at (Some p) is = test (do_agree id p) p is

live-id : (id : ℕ) (bodies : List (List ℕ)) (l : Live) (s : Stored) → live_on id bodies ≡ Some l → l.content ≡ Some s → s.id ≡ id
live-id id [] l s is content = cc
live-id id (first ∷ changes) l s is content = at (checkpoint_in id first) refl is where
  at : (found : Option Saved) → checkpoint_in id first ≡ found → option_map (live_from (first ∷ changes) changes) found ≡ Some l → s.id ≡ id
  at None e is = cc
  at (Some x) e is =
      let same : live_from (first ∷ changes) changes x ≡ l = cc in
      led_all-id x.content s changes (ap (λ (y : Live). y.content) same ∙ content) ∙ saved-id id first x e

-- the state is the replica's
pub standing-id : (id : ℕ) (found : Option Records) (u : OnDisk) → stands_for id found ≡ Some u → u.content.id ≡ id
standing-id id None u is = cc
standing-id id (Some r) u is =
    let parts = standing_parts id r u is in
    live-id id parts.bodies parts.live u.content parts.on parts.content
