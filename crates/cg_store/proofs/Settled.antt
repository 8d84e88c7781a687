-- How a disk that was read ends behind the calls by which it goes over to the newer format.
use Rattle.std.proofs.Common.{◌≡◌, ◌≢◌, ℕ, suc, ◌+◌, ◌≤◌, Bool, true, false, List, Some, Result, Ok, Err, IfOk, refl, sym, ◌∙◌, ap, subst, arith}
use Rattle.std.specs.Prelude.{if◌then◌else◌}
use Rattle.std.specs.Str.{bytes_eq}
use Rattle.cg_disk.specs.Sides.{Image, opposite}
use Rattle.cg_disk.specs.View.{DiskView, IsView, LeavesOnly}
use Rattle.cg_disk.specs.declared.disk.Side.{Side}
use Rattle.cg_disk.specs.declared.disk.Side.TheVariants.{A, B}
use Rattle.cg_journal.specs.Records.{header}
use Rattle.cg_journal.specs.Clears.{front_left}
use Rattle.cg_journal.specs.Strikes.{IsUnstruck}
use Rattle.cg_journal.specs.ViewLaws.{chained, started, unstruck_more}
use Rattle.cg_journal.specs.Found.{Sides, sides, found_at, front_on}
use Rattle.cg_journal.specs.Renews.{MayGo, IsRenewing, Renews, MomentsOf}
use Rattle.cg_journal.specs.declared.open.MigrateErr.{MigrateErr}
use Rattle.cg_journal.specs.declared.open.MigrateErr.TheVariants.{Lost, NoMemory}
use Rattle.cg_disk_records.specs.Checkpoint.{spelled_checkpoint}
use Rattle.cg_disk_records.specs.Parts.{checkpoint_in}
use Rattle.cg_disk_records.specs.Format.{Newer}
use Rattle.cg_store.specs.Stands.{OnDisk}
use Rattle.cg_store.specs.Formats.{chosen_in, Standing, format_of, StandsFor, StandsForState}
use Rattle.cg_store.specs.FormatLaws.{stands_as}
use Rattle.cg_store.specs.Settling.{IsUsed, IsSettled, IsClearing, Settles, Clears, at_side}
use Rattle.cg_store.specs.declared.settling.Settled.{Settled}
use Rattle.cg_store.proofs.Versions.{front_version, not_two, two_is, stands_in_newer}
use Rattle.cg_store.proofs.Clearing.{across, state_of}
use Rattle.cg_store.proofs.MovingOver.{older, renewal_lost, renewal_refused, may_renew, front_late}
use Rattle.cg_store.proofs.Runs.{nothing_struck, lost_more, unsettled_more}

pub version_by_side : (side : Side) (s : Sides) (a b : ℕ) → s.a.version ≡ a → s.b.version ≡ b → (found_at side s).version ≡ at_side side a b
version_by_side A s a b is_a is_b = is_a
version_by_side B s a b is_a is_b = is_b

-- the disk stands for this and for nothing else
pub standing_is : (id : ℕ) (c : Image) (s : Sides) (u : OnDisk) (side : Side) (version : ℕ) → sides c ≡ Some s → chosen_in id s ≡ Some u → u.side ≡ opposite side → (found_at (opposite side) s).version ≡ version →
    (t : Standing) → StandsFor id c t → record { on = u; format = format_of version (front_on side c) } ≡ t
standing_is id c s u side version found stands on at t is = one (sym (stands_as id c s u side version found stands on at) ∙ is)
  where
    one : {a b : Standing} → Some a ≡ Some b → a ≡ b
    one e = cc

-- ---- the side in use is of the older format

module _ {D : Type 0} (view : D → DiskView) (id : ℕ) (u : OnDisk) (side : Side) (on : u.side ≡ opposite side) (old : DiskView) where
  pub behind_renewal : (mid : DiskView) (generation : ℕ) (r : Result (Settled D) (MigrateErr D)) → IsUnstruck old mid → mid.time ≡ old.time + 7 → LeavesOnly old mid (StandsForState id u.content) →
      generation ≡ suc u.generation → Clears view id 12 (older u) mid r → IfOk r (λ x. (x.side ≡ side) × (x.generation ≡ generation)) → Settles view id (older u) old r
  behind_renewal mid generation (Ok x) first time run next is kept = record {
    reached = record {
      stands = is.reached.stands;
      rest = is.reached.rest;
      time = omega (arith, is.reached.time, time);
      unstruck = unstruck_more old mid (view x.journal) first is.reached.unstruck;
    };
    side_is = kept.0 ∙ sym (across u.side side on);
    generation_is = kept.1 ∙ next;
    moments = chained old mid (view x.journal) (StandsForState id u.content) (StandsForState id u.content) run is.moments (λ c y. y);
  }
  behind_renewal mid generation (Err (Lost disk)) first time run next is kept = lost_more id 5 12 7 (older u) old mid (view disk) first time (omega arith) run is
  behind_renewal mid generation (Err (NoMemory disk)) first time run next is kept = unsettled_more id 7 2 11 (older u) old mid (view disk) first time (omega arith) run is

pub renewal_fails : {D : Type 0} (view : D → DiskView) (id : ℕ) (s : Sides) (u : OnDisk) (old : DiskView) (side : Side) (body : List ℕ) → IsUsed id s u old → u.side ≡ opposite side → (found_at (opposite side) s).version ≡ 1 →
    body ≡ spelled_checkpoint (suc u.generation) u.content → checkpoint_in id body ≡ Some (record { generation = suc u.generation; content = u.content }) → (fault : MigrateErr D) →
    ((t : Sides) → MayGo side t old → Renews {D = D} view side body t old (Err fault)) → ((t : Sides) → MayGo side t old → MomentsOf {D = D} view (IsRenewing side body t) old (Err fault)) → Settles view id (older u) old (Err fault)
renewal_fails view id s u old side body used on version spelled saved (Lost disk) ends run =
    let go = may_renew id s u old (view disk) side body used on version spelled saved in
    renewal_lost id s u old (view disk) side body used on version spelled saved (ends s go) (run s go)
renewal_fails view id s u old side body used on version spelled saved (NoMemory disk) ends run =
    let go = may_renew id s u old (view disk) side body used on version spelled saved in
    renewal_refused id s u old (view disk) side body used on version spelled saved (ends s go) (run s go)

-- ---- it is of the newer one

abbrev pub newer_with : OnDisk → List ℕ → Standing
newer_with u front = record { on = u; format = Newer front }

abbrev calls_where : Bool → ℕ
calls_where lacks = if lacks then 0 else 4

calls_by : (lacks : Bool) → lacks ≡ false → calls_where lacks ≡ 4
calls_by true e = absurd (let clash : true ≡ false = e in cc)
calls_by false e = refl

no_calls_by : (lacks : Bool) → lacks ≡ true → calls_where lacks ≡ 0
no_calls_by true e = refl
no_calls_by false e = absurd (let clash : false ≡ true = e in cc)

-- the other one isn't
pub lacks : (side : Side) (c : Image) (s : Sides) → sides c ≡ Some s → (found_at side s).version ≢ 2 → bytes_eq (front_on side c) header ≡ false
lacks side c s is isnt = not_two (front_on side c) (λ two. isnt (front_version side c s is ∙ two))

pub has : (side : Side) (c : Image) (s : Sides) → sides c ≡ Some s → (found_at side s).version ≡ 2 → bytes_eq (front_on side c) header ≡ true
has side c s is two = two_is (front_on side c) (sym (front_version side c s is) ∙ two)

pub clears_now : (id : ℕ) (s : Sides) (u : OnDisk) (old : DiskView) (side : Side) → IsUsed id s u old → u.side ≡ opposite side → (found_at (opposite side) s).version ≡ 2 → bytes_eq (front_on side old.reads) header ≡ false →
    IsClearing id 5 (newer_with u (front_on side old.reads)) s u old
clears_now id s u old side used on version bare = record {
  used = used;
  version_is = ap (λ x. (found_at x s).version) on ∙ version;
  opened_is = refl;
  content_is = refl;
  within = within;
  left = λ call blow fill one le.
      ap (newer_with u) (front_late 5 call blow fill (front_on side old.reads)
      ∙ ap (λ x. front_left blow call fill (front_on x old.reads)) (sym (across u.side side on)));
}
  where
    within : 5 + 4 ≤ 5 + calls_where (bytes_eq (front_on side old.reads) header)
    within = let four = calls_by (bytes_eq (front_on side old.reads) header) bare in omega (arith, four)

pub behind_clearing : {D : Type 0} (view : D → DiskView) (id : ℕ) (u : OnDisk) (front : List ℕ) (old : DiskView) (r : Result (Settled D) (MigrateErr D)) → bytes_eq front header ≡ false → Clears view id 5 (newer_with u front) old r →
    IfOk r (λ x. (x.side ≡ u.side) × (x.generation ≡ u.generation)) → Settles view id (newer_with u front) old r
behind_clearing view id u front old (Ok x) bare is kept = record {
  reached = record {
    stands = is.reached.stands;
    rest = is.reached.rest;
    time = is.reached.time ∙ ap (λ n. old.time + n) (sym (calls_by (bytes_eq front header) bare));
    unstruck = is.reached.unstruck;
  };
  side_is = kept.0;
  generation_is = kept.1;
  moments = is.moments;
}
behind_clearing view id u front old (Err (Lost disk)) bare is kept = is
behind_clearing view id u front old (Err (NoMemory disk)) bare is kept = record { stands = is.stands; time = omega (arith, is.time); unstruck = is.unstruck; moments = is.moments }

-- both are: started is to be done
pub settled_now : {D : Type 0} (view : D → DiskView) (id : ℕ) (s : Sides) (u : OnDisk) (journal : D) (side : Side) → IsView (view journal) → IsUsed id s u (view journal) → u.side ≡ opposite side → (found_at (opposite side) s).version ≡ 2 →
    (found_at side s).version ≡ 2 → IsSettled view id (newer_with u (front_on side (view journal).reads)) (view journal) (record { journal = journal; side = u.side; generation = u.generation })
settled_now view id s u journal side is used on version other =
    let d = view journal in
    let front = front_on side d.reads in
    record {
      reached = record {
        stands = stands_in_newer side id d.reads s u used.found other version used.stands;
        rest = used.rest;
        time = subst (λ n. d.time ≡ d.time + n) (sym (no_calls_by (bytes_eq front header) (has side d.reads s used.found other))) (omega arith);
        unstruck = nothing_struck d is;
      };
      side_is = refl;
      generation_is = refl;
      moments = started d (StandsForState id u.content) is (λ c left. state_of id c (newer_with u front) u.content
          (subst (λ x. StandsFor id x (newer_with u front)) (sym (used.rest.only c left)) (stands_as id d.reads s u side 2 used.found used.stands on version)) refl);
    }
