-- What a disk stands for holds: its checkpoint does, and each change that fits keeps it.
use Rattle.std.proofs.Common.{◌≡◌, List, [], ◌∷◌, ◌++◌, Bool, true, false, Option, Some, None, Result, Ok, Err, IfOk, refl, ap, subst}
use Rattle.std.specs.Prelude.{ℕ, option_and_then, if◌then◌else◌}
use Rattle.cg_base.specs.declared.action_id.ActionId.{ActionId}
use Rattle.cg_action.specs.declared.action.Action.{Action}
use Rattle.cg_queue.specs.Queue.{action_of, placed_red}
use Rattle.cg_records.specs.declared.stable.Stable.{Stable}
use Rattle.cg_client.specs.Marks.{with_green, after_first, after_owed}
use Rattle.cg_disk_records.specs.Stored.{Stored, whiten}
use Rattle.cg_disk_records.specs.declared.change.Change.{Change}
use Rattle.cg_disk_records.specs.Limits.{IsStored}
use Rattle.cg_disk_records.specs.Parts.{change_in}
use Rattle.cg_disk_records.specs.Following.{fits_known, know, turn_green, green_by_name, make, all_of, put_values, with_values, after_change}
use Rattle.cg_disk_records.specs.Agreeing.{Agrees}
use Rattle.cg_disk_records.specs.Holds.{Holds}
use Rattle.cg_disk_records.specs.Always.{AlwaysHolds}
use Rattle.cg_store.specs.Opening.{Follows, IsSound}
use Rattle.cg_store.specs.Stands.{led_by, led_by_all}

-- nothing is kept in memory alone
record IsBare (s : Stored) : Type 0 where
  buffered : s.buffered ≡ []
  owed : s.owed ≡ []

-- each of these makes a bare state of a bare one
abbrev Keeps : {A : Type 0} → (Stored → A → Option Stored) → Type 0
Keeps {A} go = (s t : Stored) (a : A) → go s a ≡ Some t → IsBare s → IsBare t

of_test : (b : Bool) (x t : Stored) → (if b then Some x else None) ≡ Some t → IsBare x → IsBare t
of_test true x t is bare = let same : x ≡ t = cc in subst IsBare same bare
of_test false x t is bare = cc

module _ {A : Type 0} (P : Stored → Type 0) (go : Stored → A → Option Stored) (keeps : (s t : Stored) (a : A) → go s a ≡ Some t → P s → P t) where
  none_leads : (items : List A) (t : Stored) → all_of go None items ≡ Some t → ⊥
  none_leads [] t is = cc
  none_leads (a ∷ items) t is = none_leads items t is

  pub all-keeps : (s t : Stored) (items : List A) → all_of go (Some s) items ≡ Some t → P s → P t
  all-keeps s t [] is p = let same : s ≡ t = cc in subst P same p
  all-keeps s t (a ∷ items) is p = at (go s a) (λ x e rest. all-keeps x t items rest (keeps s x a e p)) refl is where
    at : (found : Option Stored) → ((x : Stored) → go s a ≡ Some x → all_of go (Some x) items ≡ Some t → P t) → go s a ≡ found → all_of go found items ≡ Some t → P t
    at None more e rest = absurd (none_leads items t rest)
    at (Some x) more e rest = more x e rest

know-bare : Keeps know
know-bare s t a is bare = of_test (fits_known s a) (record s { queue = placed_red s.queue a; own = after_first s.own a.id }) t is (record { buffered = bare.buffered; owed = bare.owed })

-- no reply is owed, so none is given
owed-none : (owed : List ActionId) (id : ActionId) → owed ≡ [] → after_owed owed id ≡ []
owed-none owed id none = ap (λ o. after_owed o id) none

turn-bare : Keeps turn_green
turn-bare s t a is bare = of_test _ (with_green s a) t is (record { buffered = bare.buffered; owed = owed-none s.owed a.id bare.owed })

green-bare : Keeps green_by_name
green-bare s t id is bare = at (action_of s.queue id) is where
  at : (found : Option Action) → option_and_then (turn_green s) found ≡ Some t → IsBare t
  at None is = cc
  at (Some a) is = turn-bare s t a is bare

make-bare : Keeps make
make-bare s t a is bare = of_test _ (record s { own = s.own ++ a ∷ [] }) t is (record { buffered = bare.buffered; owed = bare.owed })

values-bare : (v : Stable) (s t : Stored) → with_values v s ≡ Some t → IsBare s → IsBare t
unfolding whiten
values-bare v s t is bare = of_test _ (whiten (put_values s v)) t is (record { buffered = bare.buffered; owed = bare.owed })

after-bare : (s t : Stored) (c : Change) → after_change s c ≡ Some t → IsBare s → IsBare t
unfolding after_change
after-bare s t c is bare = known (all_of know (Some s) c.known) refl is where
  values : (u : Option Stored) → ((x : Stored) → u ≡ Some x → IsBare x) → option_and_then (with_values c.stable) u ≡ Some t → IsBare t
  values None from is = cc
  values (Some x) from is = values-bare c.stable x t is (from x refl)

  made : (g : Stored) → IsBare g → option_and_then (with_values c.stable) (all_of make (Some g) c.made) ≡ Some t → IsBare t
  made g bare is = values (all_of make (Some g) c.made) (λ x e. all-keeps IsBare make make-bare g x c.made e bare) is

  none_made : (items : List Action) → option_and_then (with_values c.stable) (all_of make None items) ≡ Some t → ⊥
  none_made [] is = cc
  none_made (a ∷ items) is = none_made items is

  green : (k : Stored) → IsBare k → (u : Option Stored) → all_of green_by_name (Some k) c.green ≡ u → option_and_then (with_values c.stable) (all_of make u c.made) ≡ Some t → IsBare t
  green k bare None e is = absurd (none_made c.made is)
  green k bare (Some g) e is = made g (all-keeps IsBare green_by_name green-bare k g c.green e bare) is

  none_green : (ids : List ActionId) → option_and_then (with_values c.stable) (all_of make (all_of green_by_name None ids) c.made) ≡ Some t → ⊥
  none_green [] is = none_made c.made is
  none_green (id ∷ ids) is = none_green ids is

  known : (u : Option Stored) → all_of know (Some s) c.known ≡ u → option_and_then (with_values c.stable) (all_of make (all_of green_by_name u c.green) c.made) ≡ Some t → IsBare t
  known None e is = absurd (none_green c.green is)
  known (Some k) e is = green k (all-keeps IsBare know know-bare s k c.known e bare) (all_of green_by_name (Some k) c.green) refl is

module _ (always : AlwaysHolds) where
  -- what a checkpoint stands for
  pub stored-sound : (s : Stored) → Agrees s → IsStored s → IsSound s
  stored-sound s agrees is = record { holds = always.opened s agrees is; buffered = agrees.buffered; owed = agrees.owed }

  led-sound : (s t : Stored) (body : List ℕ) → led_by s body ≡ Some t → IsSound s → IsSound t
  led-sound s t body is sound = at (change_in body) is where
    at : (found : Option Change) → option_and_then (after_change s) found ≡ Some t → IsSound t
    at None is = cc
    at (Some c) is =
        let bare = after-bare s t c is (record { buffered = sound.buffered; owed = sound.owed }) in
        record { holds = always.changed s c t sound.holds is; buffered = bare.buffered; owed = bare.owed }

  -- and what the changes behind it lead to
  pub led_all-sound : (s t : Stored) (bodies : List (List ℕ)) → IsSound s → led_by_all (Some s) bodies ≡ Some t → IsSound t
  led_all-sound s t bodies sound is = all-keeps IsSound led_by led-sound s t bodies is sound

  -- a change was put in, where it fits
  pub if_ok_holds : (s t : Stored) (c : Change) (E : Type 0) (r : Result Bool E) → Holds s → IfOk r (Follows (after_change s c) t) → IfOk r (λ fits. fits ≡ true → Holds t)
  if_ok_holds s t c E (Ok true) holds is = λ e. always.changed s c t holds is
  if_ok_holds s t c E (Ok false) holds is = λ e. cc
  if_ok_holds s t c E (Err fault) holds is = tt
