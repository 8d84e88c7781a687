-- Red marks change no values: an event is to be written by what stands on the disk just where it is by what is held.
use Rattle.std.proofs.Common.{◌≡◌, List, [], ◌∷◌, Bool, true, false, Option, Some, None, refl, ◌∙◌, ap, subst, ◌&&◌, ◌||◌, not}
use Rattle.std.specs.Prelude.{◌==◌, if◌then◌else◌}
use Rattle.cg_base.specs.Text.{is_nil}
use Rattle.cg_action.specs.declared.action.Action.{Action}
use Rattle.cg_queue.specs.Queue.{green_count, placed_red}
use Rattle.std.specs.Option.{option_eq}
use Rattle.cg_records.specs.contracts.primary.PrimaryPartialEq.TheImpl.{ghosts as primary}
use Rattle.cg_records.specs.contracts.vulnerable.VulnerablePartialEq.TheImpl.{ghosts as vulnerable}
use Rattle.cg_records.specs.contracts.yellow.YellowPartialEq.TheImpl.{ghosts as yellow}
use Rattle.cg_client.specs.Replica.{Held, yellow_of}
use Rattle.cg_client.specs.Turn.{Turn}
use Rattle.cg_client.specs.Marks.{after_first}
use Rattle.cg_disk_records.specs.Stored.{Stored, stored_of}
use Rattle.cg_disk_records.specs.Following.{fits_known, know, all_of, IsAhead}
use Rattle.cg_disk_records.specs.Commit.{same_values, commits}

-- both have these values
record HaveOne (s t : Held) : Type 0 where
  prim : s.prim ≡ t.prim
  attempt_index : s.attempt_index ≡ t.attempt_index
  vulnerable : s.vulnerable ≡ t.vulnerable
  valid : s.yellow_valid ≡ t.yellow_valid
  list : s.queue.yellow ≡ t.queue.yellow
  count : green_count s.queue ≡ green_count t.queue

of_test : (b : Bool) (s x t : Stored) → HaveOne s x → (if b then Some x else None) ≡ Some t → HaveOne s t
of_test true s x t one is = let same : x ≡ t = cc in subst (HaveOne s) same one
of_test false s x t one is = cc

know-one : (s t : Stored) (a : Action) → know s a ≡ Some t → HaveOne s t
know-one s t a is =
    of_test (fits_known s a) s (record s { queue = placed_red s.queue a; own = after_first s.own a.id }) t
    (record { prim = refl; attempt_index = refl; vulnerable = refl; valid = refl; list = refl; count = refl }) is

none_leads : (items : List Action) (t : Stored) → all_of know None items ≡ Some t → ⊥
none_leads [] t is = cc
none_leads (a ∷ items) t is = none_leads items t is

joined : (s x t : Stored) → HaveOne s x → HaveOne x t → HaveOne s t
joined s x t first second = record {
  prim = first.prim ∙ second.prim;
  attempt_index = first.attempt_index ∙ second.attempt_index;
  vulnerable = first.vulnerable ∙ second.vulnerable;
  valid = first.valid ∙ second.valid;
  list = first.list ∙ second.list;
  count = first.count ∙ second.count;
}

known-one : (s t : Stored) (items : List Action) → all_of know (Some s) items ≡ Some t → HaveOne s t
known-one s t [] is =
    let same : s ≡ t = cc in
    subst (HaveOne s) same (record { prim = refl; attempt_index = refl; vulnerable = refl; valid = refl; list = refl; count = refl })
known-one s t (a ∷ items) is = at (know s a) (λ x e rest. joined s x t (know-one s x a e) (known-one x t items rest)) refl is where
  at : (found : Option Stored) → ((x : Stored) → know s a ≡ Some x → all_of know (Some x) items ≡ Some t → HaveOne s t) → know s a ≡ found → all_of know found items ≡ Some t → HaveOne s t
  at None more e rest = absurd (none_leads items t rest)
  at (Some x) more e rest = more x e rest

one-same : (s h x : Held) → HaveOne s h → same_values s x ≡ same_values h x
unfolding same_values
one-same s h x one =
    λ i. primary.eq (one.prim i) x.prim && (one.attempt_index i == x.attempt_index) && option_eq vulnerable.eq (one.vulnerable i) x.vulnerable
    && yellow.eq (record { valid = one.valid i; list = one.list i }) (yellow_of x)

pub same_commits : (s : Stored) (unwritten : List Action) (h : Held) (t : Turn) → IsAhead s unwritten h → commits s t ≡ commits h t
unfolding commits
same_commits s unwritten h t ahead =
    let one = known-one s (stored_of h) unwritten ahead in
    let values : same_values s t.replica.held ≡ same_values h t.replica.held =
    one-same s h t.replica.held (record { prim = one.prim; attempt_index = one.attempt_index; vulnerable = one.vulnerable; valid = one.valid; list = one.list; count = one.count }) in
    ap (λ v. t.marked_own || not (is_nil t.green) || not (is_nil t.made) || not v) values

-- and there are as many greens on the disk as are held
pub same_count : (s : Stored) (unwritten : List Action) (h : Held) → IsAhead s unwritten h → green_count s.queue ≡ green_count h.queue
same_count s unwritten h ahead = (known-one s (stored_of h) unwritten ahead).count
