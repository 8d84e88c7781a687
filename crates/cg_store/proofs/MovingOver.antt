-- A checkpoint of the same state goes to the side that isn't in use: at each moment the disk stands for that state.
use Rattle.std.proofs.Common.{◌≡◌, ℕ, suc, ◌+◌, ◌-◌, ◌≤◌, nat_lt, Bool, true, false, List, [], ◌∷◌, take, Some, refl, sym, ◌∙◌, ap, subst, inl, ⊎_elim, arith}
use Rattle.std.specs.Prelude.{nat_le, if◌then◌else◌}
use Rattle.std.proofs.lemmas.Bool.Decides.{nat_tests}
use Rattle.cg_base.specs.Choice.{Either}
use Rattle.cg_disk.specs.Sides.{Image, opposite}
use Rattle.cg_disk.specs.State.{Blow, Fails, Stops, left_by}
use Rattle.cg_disk.specs.View.{DiskView, LeavesOnly}
use Rattle.cg_disk.specs.Writes.{overwritten}
use Rattle.cg_disk.specs.declared.disk.Side.{Side}
use Rattle.cg_journal.specs.Records.{header}
use Rattle.cg_journal.specs.Adds.{gate_stands}
use Rattle.cg_journal.specs.Found.{old_header, Sides, found_at, front_on}
use Rattle.cg_journal.specs.Renews.{MayGo, IsUnrenewed, IsRenewed, IsRenewing, renewed, IsLostRenewal, IsRenewedBy, IsUnrenewedBy}
use Rattle.cg_journal.specs.Clears.{front_left}
use Rattle.cg_journal.specs.declared.open.SideRecords.{SideRecords}
use Rattle.cg_journal.specs.ViewLaws.{weakened}
use Rattle.cg_disk_records.specs.Checkpoint.{spelled_checkpoint, size_with, empty_size}
use Rattle.cg_disk_records.specs.Parts.{checkpoint_in}
use Rattle.cg_disk_records.specs.Format.{Older, Newer}
use Rattle.cg_disk_records.specs.Recovery.{has_moved, front_left as front_after}
use Rattle.cg_store.specs.Stands.{OnDisk, checkpointed}
use Rattle.cg_store.specs.Defined.{fault_of, strike_at}
use Rattle.cg_store.specs.Formats.{chosen_in, Standing, StandsFor, StandsForState}
use Rattle.cg_store.specs.FormatLaws.{renewed_on, chosen_renewed, stands_as}
use Rattle.cg_store.specs.Migrating.{standing_left}
use Rattle.cg_store.specs.Settling.{IsUsed, IsLostSettling, IsUnsettled, IsClearing, IsNewerOn}
use Rattle.cg_store.proofs.Versions.{front_version, one_is}
use Rattle.cg_store.proofs.Clearing.{opposite_twice, across, found_same, version_other, state_of, unrenewed_stands}

-- ---- which call does what

pub moved_early : (call : ℕ) (blow : Blow) (fill : List ℕ) → call ≤ 7 → has_moved Older (strike_at (5 + call) blow fill) ≡ gate_stands blow (call - 3) fill
moved_early call Fails fill le = grind (arith, nat_tests)
moved_early call Stops [] le =
    let past : nat_lt 12 (5 + call) ≡ false = grind (arith, nat_tests) in
    let gate : nat_le 11 (5 + call) ≡ nat_lt 2 (call - 3) = grind (arith, nat_tests) in
    rw (past, gate) refl
moved_early call Stops (byte ∷ fill) le =
    let past : nat_lt 12 (5 + call) ≡ false = grind (arith, nat_tests) in
    let gate : nat_le 11 (5 + call) ≡ nat_lt 2 (call - 3) = grind (arith, nat_tests) in
    rw (past, gate) refl

pub moved_late : (call : ℕ) (blow : Blow) (fill : List ℕ) → 1 ≤ call → has_moved Older (strike_at (12 + call) blow fill) ≡ true
moved_late call Fails fill le = grind (arith, nat_tests)
moved_late call Stops fill le = let past : nat_lt 12 (12 + call) ≡ true = grind (arith, nat_tests) in rw past refl

-- the header isn't written yet
pub front_early : (call : ℕ) (blow : Blow) (fill front : List ℕ) → call ≤ 7 → front_after 15 (5 + call) (fault_of blow fill) front ≡ front
front_early call Fails fill front le = let early : nat_lt 15 (5 + call) ≡ false = grind (arith, nat_tests) in λ i. if early i then header else front
front_early call Stops fill front le = let early : nat_le 15 (5 + call) ≡ false = grind (arith, nat_tests) in λ i. if early i then overwritten front 0 (take 8 fill) else front

-- it is written by the third of the calls that clear the side
pub front_late : (before call : ℕ) (blow : Blow) (fill front : List ℕ) → front_after (before + 3) (before + call) (fault_of blow fill) front ≡ front_left blow call fill front
front_late before call Fails fill front = let same : nat_lt (before + 3) (before + call) ≡ nat_lt 3 call = grind (arith, nat_tests) in λ i. if same i then header else front
front_late before call Stops fill front = let same : nat_le (before + 3) (before + call) ≡ nat_lt 2 call = grind (arith, nat_tests) in λ i. if same i then overwritten front 0 (take 8 fill) else front

-- ---- what stands there

abbrev pub older : OnDisk → Standing
older u = record { on = u; format = Older }

abbrev moved_with : OnDisk → List ℕ → Standing
moved_with u front = record { on = checkpointed u; format = Newer front }

abbrev left_as : OnDisk → Bool → List ℕ → Standing
left_as u moved front = record { on = if moved then checkpointed u else u; format = if moved then Newer front else Older }

left_is : (u : OnDisk) (call : ℕ) (blow : Blow) (fill : List ℕ) → standing_left (older u) call blow fill ≡ left_as u (has_moved Older (strike_at call blow fill)) (front_after 15 call (fault_of blow fill) old_header)
left_is u call blow fill = refl

pub left_early : (u : OnDisk) (call : ℕ) (blow : Blow) (fill : List ℕ) → call ≤ 7 → standing_left (older u) (5 + call) blow fill ≡ left_as u (gate_stands blow (call - 3) fill) old_header
left_early u call blow fill le = left_is u (5 + call) blow fill ∙ (λ i. left_as u (moved_early call blow fill le i) (front_early call blow fill old_header le i))

pub left_late : (u : OnDisk) (call : ℕ) (blow : Blow) (fill : List ℕ) → 1 ≤ call → standing_left (older u) (12 + call) blow fill ≡ moved_with u (front_left blow call fill old_header)
left_late u call blow fill le = left_is u (12 + call) blow fill ∙ (λ i. left_as u (moved_late call blow fill le i) (front_late 12 call blow fill old_header i))

-- ---- the calls

module _ (id : ℕ) (s : Sides) (u : OnDisk) (old new : DiskView) (side : Side) (body : List ℕ) (used : IsUsed id s u old) (on : u.side ≡ opposite side)
    (version : (found_at (opposite side) s).version ≡ 1)
    (spelled : body ≡ spelled_checkpoint (suc u.generation) u.content)
    (saved : checkpoint_in id body ≡ Some (record { generation = suc u.generation; content = u.content })) where
  pub may_renew : MayGo side s old
  may_renew = record { found = used.found; other = λ none. absurd (omega (arith, version, none)) }

  kept_stands : (c : Image) → IsUnrenewed side s c → StandsFor id c (older u)
  kept_stands c is =
      let t = unrenewed_stands id s u side 1 on used.stands version c is in
      stands_as id c t.0 u side 1 t.1 t.2 on t.3

  pub renewed_is : checkpointed u ≡ renewed_on side body u
  renewed_is = λ i. record { side = across u.side side on i; generation = suc u.generation; size = size_with empty_size (sym spelled i); content = u.content }

  pub chosen_then : chosen_in id (renewed side body s) ≡ Some (checkpointed u)
  chosen_then = chosen_renewed id s u side body used.stands on saved ∙ ap Some (sym renewed_is)

  pub version_then : (found_at side (renewed side body s)).version ≡ 2
  version_then = ap (λ (x : SideRecords). x.version) (found_same side (record { version = 2; bodies = body ∷ [] }) s)

  -- the side that was in use is of the older format
  pub front_then : (c : Image) → IsRenewed side body s c → front_on (opposite side) c ≡ old_header
  front_then c is =
      one_is (front_on (opposite side) c) (sym (front_version (opposite side) c (renewed side body s) is)
      ∙ version_other side (record { version = 2; bodies = body ∷ [] }) s 1 version)

  moved_stands : (c : Image) → IsRenewed side body s c → StandsFor id c (moved_with u old_header)
  moved_stands c is =
      let other : found_at (opposite (opposite side)) (renewed side body s) ≡ found_at side (renewed side body s) = ap (λ x. found_at x (renewed side body s)) (opposite_twice side) in
      stands_as id c (renewed side body s) (checkpointed u) (opposite side) 2 is chosen_then (across u.side side on ∙ sym (opposite_twice side)) (ap (λ (x : SideRecords). x.version) other ∙ version_then)
      ∙ ap (λ front. Some (moved_with u front)) (front_then c is)

  renewing_state : (c : Image) → IsRenewing side body s c → StandsForState id u.content c
  renewing_state c is = ⊎_elim (λ x. state_of id c (older u) u.content (kept_stands c x) refl) (λ x. state_of id c (moved_with u old_header) u.content (moved_stands c x) refl) is

  renewing_moments : LeavesOnly old new (IsRenewing side body s) → LeavesOnly old new (StandsForState id u.content)
  renewing_moments run = weakened old new (IsRenewing side body s) (StandsForState id u.content) run renewing_state

  either_left : (moved : Bool) (c : Image) → Either moved (IsRenewed side body s c) (IsUnrenewed side s c) → StandsFor id c (left_as u moved old_header)
  either_left true c is = moved_stands c is
  either_left false c is = kept_stands c is

  pub renewal_lost : IsLostRenewal side body s old new → LeavesOnly old new (IsRenewing side body s) → IsLostSettling id 5 (older u) old new
  renewal_lost is run = record {
    call = 5 + is.call;
    struck = is.struck;
    time = omega (arith, is.time);
    within = omega (arith, is.within.1);
    images = λ c left. renewing_state c (is.images c left);
    reads = is.reads;
    told = λ d e before after.
        let t = is.told d e before after in
        record {
          strike = t.strike;
          armed = t.armed;
          fills = λ fill. subst (StandsFor id (left_by e fill)) (sym (left_early u is.call t.strike.blow fill is.within.1)) (either_left (gate_stands t.strike.blow (is.call - 3) fill) (left_by e fill) (t.fills fill));
        };
    moments = renewing_moments run;
  }

  pub renewal_refused : IsUnrenewedBy side s old new → LeavesOnly old new (IsRenewing side body s) → IsUnsettled id 11 (older u) old new
  renewal_refused is run = record {
    stands = renewing_state new.reads (inl is.is);
    time = omega (arith, is.time);
    unstruck = is.unstruck;
    moments = renewing_moments run;
  }

  -- the side that was in use is cleared then
  pub clears_then : IsRenewedBy side body s old new → IsClearing id 12 (older u) (renewed side body s) (checkpointed u) new
  clears_then is = record {
    used = record { found = is.is; stands = chosen_then; rest = is.rest };
    version_is = ap (λ x. (found_at x (renewed side body s)).version) (across u.side side on) ∙ version_then;
    opened_is = refl;
    content_is = refl;
    within = omega arith;
    left = λ call blow fill one le. left_late u call blow fill one
        ∙ ap (λ front. moved_with u (front_left blow call fill front)) (sym (ap (λ x. front_on x new.reads) (ap opposite (across u.side side on)) ∙ front_then new.reads is.is));
  }

  pub newer_then : IsRenewedBy side body s old new → IsNewerOn side new
  newer_then is = record { on = renewed side body s; found = is.is; version_is = version_then }

  pub moments_then : LeavesOnly old new (IsRenewing side body s) → LeavesOnly old new (StandsForState id u.content)
  moments_then run = renewing_moments run
