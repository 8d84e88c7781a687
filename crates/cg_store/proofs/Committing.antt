-- An event that is written, and one that isn't.
use Rattle.std.proofs.Common.{◌≡◌, inl, ℕ, ◌<◌, List, Bool, true, false, Option, Some, None, Result, Ok, Err, IfSome, refl, sym, ◌∙◌, ap, subst, arith}
use Rattle.std.specs.Prelude.{option_and_then}
use Rattle.std.specs.Option.{option_map}
use Rattle.cg_action.specs.declared.action.Action.{Action}
use Rattle.cg_disk.specs.State.{DiskState}
use Rattle.cg_disk.specs.View.{DiskView, IsView, IsAtRest}
use Rattle.cg_journal.specs.Strikes.{IsUnstruck}
use Rattle.cg_records.specs.declared.stable.Stable.{Stable}
use Rattle.cg_client.specs.Replica.{Held, State}
use Rattle.cg_client.specs.Drafts.{turn_with}
use Rattle.cg_client.specs.declared.parts.DraftParts.{DraftParts}
use Rattle.cg_disk_records.specs.Stored.{Stored, stored_of, stable_of, whiten}
use Rattle.cg_disk_records.specs.declared.change.Change.{Change}
use Rattle.cg_disk_records.specs.Change.{spelled_change, change_of}
use Rattle.cg_disk_records.specs.Limits.{IsChange}
use Rattle.cg_disk_records.specs.Parts.{change_in}
use Rattle.cg_disk_records.specs.Following.{after_change, IsRecorded}
use Rattle.cg_disk_records.specs.Commit.{same_values, commits}
use Rattle.cg_store.specs.Stands.{led_by, OnDisk, Stands, led, committed}
use Rattle.cg_store.specs.StoreState.{StoreState}
use Rattle.cg_store.specs.Answers.{IsRefused, EachMoment}
use Rattle.cg_store.specs.Due.{is_due, IsRecord, IsPrepared, IsReady, IsLed, IsBehind, WhetherDue}
use Rattle.cg_base.specs.Choice.{Either}
use Rattle.cg_store.specs.Calls.{outputs_of, Writes, Commits, Keeps, IsEither, paired}
use Rattle.cg_store.specs.declared.pending_record.PendingRecord.{PendingRecord}
use Rattle.cg_store.specs.declared.outputs.Outputs.{Outputs}
use Rattle.cg_store.specs.declared.errors.CommitErr.{CommitErr}
use Rattle.cg_store.specs.declared.errors.CommitErr.TheVariants.{Lost, NoMemory}
use Rattle.cg_store.proofs.Writing.{stands_at_rest}
use Rattle.cg_journal.specs.ViewLaws.{started}

-- ---- what was made ready

due_same : (s : Stored) (h : Held) (d : DraftParts) (state : State) → is_due (stable_of s) (stable_of h) d ≡ commits s (turn_with h state d)
unfolding commits same_values
due_same s h d state = refl

ready_from : (s : Stored) (unwritten : List Action) (h : Held) (d : DraftParts) (state : State) (due : Option PendingRecord) → IsPrepared (stable_of s) unwritten h d due → IsReady s unwritten h d state due
ready_from s unwritten h d state None is = sym (due_same s h d state) ∙ is
ready_from s unwritten h d state (Some due) is = (sym (due_same s h d state) ∙ is.0, is.1)

pub ready_of : (values : Stable) (s : Stored) (unwritten : List Action) (h : Held) (d : DraftParts) (state : State) (due : Option PendingRecord) → values ≡ stable_of s → IsPrepared values unwritten h d due →
    IsReady s unwritten h d state due
ready_of values s unwritten h d state due same is = ready_from s unwritten h d state due (subst (λ v. IsPrepared v unwritten h d due) same is)

-- ---- what the record leads to

abbrev pub ReadsAgain : Type 0
ReadsAgain = (c : Change) → IsChange c → change_in (spelled_change c) ≡ Some c

values_behind : (h : Held) → stable_of h ≡ stable_of (stored_of (whiten h))
unfolding whiten
values_behind h = refl

leads_to : ReadsAgain → (s : Stored) (unwritten : List Action) (h : Held) (d : DraftParts) (state : State) (due : PendingRecord) → IsRecord unwritten h d due → IsRecorded s unwritten (turn_with h state d) →
    led_by s due.body ≡ Some (stored_of (whiten h))
leads_to again s unwritten h d state due is recorded =
    ap (led_by s) is.body ∙ ap (option_and_then (after_change s)) (again (change_of unwritten (turn_with h state d)) is.within) ∙ recorded

pub led_of : ReadsAgain → (u : OnDisk) (unwritten : List Action) (h : Held) (d : DraftParts) (state : State) (due : Option PendingRecord) → IsReady u.content unwritten h d state due → IsRecorded u.content unwritten (turn_with h state d) →
    IfSome due (IsLed u)
led_of again u unwritten h d state None is recorded = tt
led_of again u unwritten h d state (Some due) is recorded = record {
  state = stored_of (whiten h);
  leads = leads_to again u.content unwritten h d state due is.1 recorded;
  values = is.1.values ∙ values_behind h;
}

pub behind_of : ReadsAgain → (u : OnDisk) (unwritten : List Action) (h : Held) (d : DraftParts) (state : State) (due : Option PendingRecord) → IsReady u.content unwritten h d state due → IsRecorded u.content unwritten (turn_with h state d) →
    IsBehind u due (committed unwritten (turn_with h state d) u)
behind_of again u unwritten h d state None is recorded = tt
behind_of again u unwritten h d state (Some due) is recorded =
    (stored_of (whiten h), leads_to again u.content unwritten h d state due is.1 recorded, ap (λ (bytes : List ℕ). led u bytes (stored_of (whiten h))) (sym is.1.body))

pub whether_of : (s : Stored) (unwritten : List Action) (h : Held) (d : DraftParts) (state : State) (due : Option PendingRecord) (A B : Type 0) → IsReady s unwritten h d state due → WhetherDue due A B → Either (commits s (turn_with h state d)) A B
whether_of s unwritten h d state None A B is b = subst (λ x. Either x A B) (sym is) b
whether_of s unwritten h d state (Some due) A B is a = subst (λ x. Either x A B) (sym is.0) a

-- ---- outputs behind a call

module _ {D : Type 0} (view : D → DiskView) where
  pub paired_writes : (k : StoreState D) (u v : OnDisk) (d : DraftParts) (r : Result (StoreState D) (CommitErr D)) (o : Outputs) → o ≡ outputs_of true d → Writes view k u v r → Commits view k u v d (paired r o)
  paired_writes k u v d (Ok store) o same is = (is, same)
  paired_writes k u v d (Err (Lost disk)) o same is = is
  paired_writes k u v d (Err (NoMemory disk)) o same is = is

-- ---- no call was made

pub unstruck_same : (d : DiskView) → IsView d → IsUnstruck d d
unstruck_same d is = record { faults = refl; stays = refl; ahead = told d.state is.ahead }
  where
    told : (state : Option DiskState) → IfSome state (λ s. IfSome s.strike (λ strike. d.time < strike.call)) → IfSome (option_map (λ (s : DiskState). s.strike) state) (λ strike. IfSome strike (λ s. d.time < s.call))
    told None ahead = tt
    told (Some s) ahead = ahead

-- memory was refused before the first call
module _ {D : Type 0} (view : D → DiskView) (k : StoreState D) (is_view : IsView (view k.disk)) (rest : IsAtRest (view k.disk)) (u : OnDisk) (stands : Stands k.id (view k.disk).reads u) where
  pub refused_first : (most : ℕ) → IsRefused k.id most u (view k.disk) (view k.disk)
  refused_first most = record { stands = stands; rest = rest; time = omega arith; unstruck = unstruck_same (view k.disk) is_view }

  pub refused_ends : (v : OnDisk) (d : DraftParts) (b : Bool) → Either b (Commits view k u v d (Err (NoMemory k.disk))) (Keeps k d (Err (NoMemory k.disk)))
  refused_ends v d true = refused_first 2
  refused_ends v d false = refl

  pub refused_moments : (T : Type 0) (disk_in : T → D) (v : OnDisk) → EachMoment {T = T} view disk_in (IsEither k.id u v) (view k.disk) (Err (NoMemory k.disk))
  refused_moments T disk_in v = started (view k.disk) (IsEither k.id u v) is_view (λ c left. inl (stands_at_rest k.id (view k.disk) u c rest stands left))
