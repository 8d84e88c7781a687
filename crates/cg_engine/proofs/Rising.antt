-- How a replica comes up again.
use Rattle.std.proofs.Common.{◌≡◌, ◌≤◌, ◌+◌, Bool, true, false, Some, List, [], ◌++◌, nat_lt, refl, sym, ◌∙◌, ap, subst, arith}
use Rattle.std.specs.Prelude.{if◌then◌else◌}
use Rattle.std.specs.Str.{bytes_eq}
use Rattle.cg_action.specs.declared.action.Action.{Action}
use Rattle.cg_disk.specs.View.{DiskView, LeavesOnly}
use Rattle.cg_journal.specs.Records.{header}
use Rattle.cg_queue.specs.Queue.{green_count}
use Rattle.cg_client.specs.Replica.{Held}
use Rattle.cg_client.specs.Turn.{Turn}
use Rattle.cg_disk_records.specs.Stored.{recovery_turn}
use Rattle.cg_disk_records.specs.Format.{Format, Older, Newer}
use Rattle.cg_disk_records.specs.Recovery.{recovery_calls}
use Rattle.cg_model.specs.Following.{Follows}
use Rattle.cg_disk_records.specs.Always.{AlwaysHolds, AlwaysCounts, AlwaysSettled}
use Rattle.cg_model.specs.Recorded.{AlwaysRecorded, AlwaysAhead}
use Rattle.cg_store.specs.StoreState.{StoreState}
use Rattle.cg_store.specs.Answers.{IsReached}
use Rattle.cg_store.specs.Formats.{Standing, StandsFor, StandsForState, opened, opened_as, newer}
use Rattle.cg_store.specs.Migrating.{IsOpening, IsOpeningRefused}
use Rattle.cg_store.specs.NewerLaws.{stands_newer}
use Rattle.cg_store.specs.Opening.{IsOpened, IsSound}
use Rattle.cg_store.specs.Stands.{OnDisk, Stands, disk_of}
use Rattle.cg_engine.specs.Engines.{Fallen, IsEngine}
use Rattle.cg_engine.specs.Answers.{Recovers}
use Rattle.cg_engine.specs.Ending.{IsOpen, Rises}
use Rattle.cg_engine.specs.declared.answers.Recovered.{Recovered}
use Rattle.cg_engine.specs.declared.answers.Recovered.TheVariants as recovered
use Rattle.cg_engine.specs.declared.wreck.LastEvent.{LastEvent}
use Rattle.cg_engine.proofs.Following.{recovered_follows}
use Rattle.std.proofs.lemmas.Option.{none-some}

-- the replica of an opened store, with the red marks of its recovery
pub open_engine : AlwaysHolds → AlwaysCounts → AlwaysSettled → AlwaysRecorded → AlwaysAhead → {D : Type 0} (view : D → DiskView) (k new : StoreState D) (core : Held) (t : Turn) → IsOpen (view k.disk) k core → t ≡ recovery_turn core →
    new ≡ record k { unwritten = k.unwritten ++ t.known } → IsEngine (view new.disk) new.id new.unwritten t.replica.held
open_engine holds counts settled records ahead {D} view k new core t opened turn same =
    let u = opened.standing in
    let is : t ≡ recovery_turn u.content = turn ∙ ap recovery_turn opened.core_is in
    let marks : (recovery_turn u.content).known ≡ k.unwritten ++ t.known = sym (ap (λ (m : List Action). m ++ t.known) opened.unwritten ∙ ap (λ (x : Turn). x.known) is) in
    let follows : Follows (disk_of (recovery_turn u.content).known u) (recovery_turn u.content).replica.held = recovered_follows holds counts settled records ahead u opened.sound in
    subst (λ (x : StoreState D). IsEngine (view x.disk) x.id x.unwritten t.replica.held) (sym same) (record {
      standing = u;
      stands = opened.stands;
      follows = subst (λ m. Follows (disk_of m u) t.replica.held) marks (subst (λ (x : Turn). Follows (disk_of (recovery_turn u.content).known u) x.replica.held) (sym is) follows);
    })

-- ---- a disk that was opened

-- it stands for the same state
pub content_stays : (format : Format) (u : OnDisk) → (opened_as format u).content ≡ u.content
content_stays Older u = refl
content_stays (Newer front) u = refl

-- in sixteen calls at the most
pub calls_within : (format : Format) → recovery_calls format ≤ 16
calls_within Older = omega arith
calls_within (Newer front) = at (bytes_eq front header)
  where
    at : (b : Bool) → 5 + (if b then 0 else 4) ≤ 16
    at true = omega arith
    at false = omega arith

module _ {D : Type 0} (view : D → DiskView) (w : Fallen D) (last : LastEvent) (count_is : last.count ≡ w.count) (green_is : last.green ≡ w.green) (k : StoreState D) (core : Held) (is_open : IsOpened view w.id (view w.disk) k core) where
  abbrev now : OnDisk
  now = opened is_open.standing

  content_is : now.content ≡ is_open.standing.on.content
  content_is = content_stays is_open.standing.format is_open.standing.on

  pub opened_is : IsOpen (view k.disk) k core
  opened_is = record {
    standing = now;
    stands = subst (λ id. Stands id (view k.disk).reads now) (sym is_open.id_is) is_open.reached.stands;
    sound = subst (λ s. IsSound s) (sym content_is) is_open.sound;
    core_is = is_open.core_is ∙ sym content_is;
    unwritten = is_open.unwritten;
  }

  stood_as : (s : Standing) → StandsFor w.id (view w.disk).reads s → StandsForState w.id s.on.content (view k.disk).reads
  stood_as s stands =
      let both : Some is_open.standing ≡ Some s = sym is_open.stands ∙ stands in
      let same : is_open.standing ≡ s = cc in
      record {
        standing = newer now;
        stands = stands_newer w.id (view k.disk).reads now is_open.reached.stands;
        content_is = content_is ∙ ap (λ (x : Standing). x.on.content) same;
      }

  -- memory was refused behind it
  refused : IsOpeningRefused w.id (view w.disk) (view k.disk)
  refused = record {
    stood = stood_as;
    stood_for_none = λ none. absurd (none-some is_open.standing (sym none ∙ is_open.stands));
    calls = omega (arith, is_open.reached.time, calls_within is_open.standing.format);
    unstruck = is_open.reached.unstruck;
    moments = is_open.moments;
  }

  pub recovers : (result : Recovered D) → Rises k core last result → Recovers view w result
  recovers (recovered.Running e green) is = record {
    standing = is_open.standing;
    stands = is_open.stands;
    replica = is.0 ∙ ap (λ c. (recovery_turn c).replica) is_open.core_is;
    id_is = ap (λ (x : StoreState D). x.id) is.1 ∙ is_open.id_is;
    unwritten = ap (λ (x : StoreState D). x.unwritten) is.1 ∙ ap (λ (m : List Action). m ++ (recovery_turn core).known) is_open.unwritten ∙ ap (λ c. (recovery_turn c).known) is_open.core_is;
    reached = subst (λ (x : StoreState D). IsReached w.id (recovery_calls is_open.standing.format) now (view w.disk) (view x.disk)) (sym is.1) is_open.reached;
    moments = subst (λ (x : StoreState D). LeavesOnly (view w.disk) (view x.disk) (IsOpening w.id (view w.disk))) (sym is.1) is_open.moments;
    green_is = is.2 ∙ (λ i. if nat_lt (count_is i) (green_count (is_open.core_is i).queue) then green_is i else []);
  }
  recovers (recovered.Down x) is = absurd is
  recovers (recovered.NotAStore x) is = absurd is
  recovers (recovered.NoMemory x) is = (
    subst (λ (y : Fallen D). IsOpeningRefused w.id (view w.disk) (view y.disk)) (sym is) refused,
    record { id_is = ap (λ (y : Fallen D). y.id) is ∙ is_open.id_is; count_is = ap (λ (y : Fallen D). y.count) is ∙ count_is; green_is = ap (λ (y : Fallen D). y.green) is ∙ green_is },
  )
