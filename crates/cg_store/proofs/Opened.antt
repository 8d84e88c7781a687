-- What the reading of a disk, and what was found there, make of the opening of a store.
use Rattle.std.proofs.Common.{◌≡◌, inl, inr, ℕ, ◌+◌, ◌-◌, ◌≤◌, nat_lt, false, List, take, Option, Some, None, IfSome, Result, Ok, Err, refl, sym, ◌∙◌, ap, subst, arith}
use Rattle.std.specs.Prelude.{nat_le, option_and_then, if◌then◌else◌}
use Rattle.std.specs.Option.{option_map}
use Rattle.std.proofs.lemmas.Bool.Decides.{nat_tests}
use Rattle.cg_disk.specs.Sides.{Image}
use Rattle.cg_disk.specs.State.{DiskState, Blow, Fails, Stops, left_by}
use Rattle.cg_disk.specs.View.{DiskView, IsAtRest, LeavesOnly}
use Rattle.cg_disk.specs.Writes.{overwritten}
use Rattle.cg_journal.specs.Records.{header}
use Rattle.cg_journal.specs.Found.{old_header, Sides, sides}
use Rattle.cg_journal.specs.Reads.{IsReadOnly, IsRead, IsReadStruck, IsReadRefused}
use Rattle.cg_journal.specs.ViewLaws.{chained, still_armed, struck_more, unstruck_more, weakened}
use Rattle.cg_journal.specs.OpensMixed.{OpensMixed}
use Rattle.cg_journal.specs.declared.open.JournalOpen.{JournalOpen}
use Rattle.cg_journal.specs.declared.open.JournalOpen.TheVariants.{Lost as ReadLost, NotAJournal, NoMemory as ReadNoMemory}
use Rattle.cg_journal.specs.declared.open.MigrateErr.{MigrateErr}
use Rattle.cg_journal.specs.declared.open.MigrateErr.TheVariants.{Lost as MoveLost, NoMemory as MoveNoMemory}
use Rattle.cg_client.specs.Replica.{Held}
use Rattle.cg_records.specs.Limits.{IsNumber}
use Rattle.cg_disk_records.specs.Stored.{stable_of}
use Rattle.cg_disk_records.specs.Format.{Format, Older, Newer}
use Rattle.cg_disk_records.specs.Recovery.{recovery_calls, front_left as front_after, has_moved}
use Rattle.cg_store.specs.Stands.{OnDisk, Stands, checkpointed}
use Rattle.cg_store.specs.StoreState.{StoreState, IsStore}
use Rattle.cg_store.specs.Formats.{chosen_in, Standing, with_format, standing_of, standing_on_disk, StandsFor, StandsForState, opened}
use Rattle.cg_store.specs.FormatLaws.{stands_with}
use Rattle.cg_store.specs.Answers.{IsReached}
use Rattle.cg_store.specs.Defined.{fault_of, strike_at}
use Rattle.cg_store.specs.Migrating.{IsOpening, standing_left, IsCutOpening, IsLostAt, IsLostOpening, IsOpeningRefused}
use Rattle.cg_store.specs.Opening.{OpensStore}
use Rattle.cg_store.specs.Settling.{IsAtHand, disk_found, settling_calls, IsSettled, IsLostSettling, IsUnsettled, Settles}
use Rattle.cg_store.specs.ComingUp.{ComesUp, move_fault, read_fault}
use Rattle.cg_store.specs.Translated.{IsFoundOn}
use Rattle.cg_store.specs.declared.errors.OpenErr.{OpenErr}
use Rattle.cg_store.specs.declared.errors.OpenErr.TheVariants.{Lost, NotAStore, NoMemory}
use Rattle.cg_store.specs.declared.finding.OpenedSide.{OpenedSide}
use Rattle.cg_store.specs.declared.settling.Settled.{Settled}
use Rattle.std.proofs.lemmas.Option.{none-some, same_Some}

-- ---- what a disk stands for

pub same_standing : (id : ℕ) (c : Image) (s t : Standing) → StandsFor id c s → StandsFor id c t → s ≡ t
same_standing id c s t is that = same_Some s t (sym is ∙ that)

pub for_none : (id : ℕ) (c : Image) (s : Sides) → sides c ≡ Some s → chosen_in id s ≡ None → standing_on_disk id c ≡ None
unfolding standing_on_disk
for_none id c s found none = ap (option_and_then (standing_of id c)) found ∙ ap (option_map (with_format c s)) none

pub no_journal : (id : ℕ) (c : Image) → sides c ≡ None → standing_on_disk id c ≡ None
unfolding standing_on_disk
no_journal id c none = ap (option_and_then (standing_of id c)) none

opened_content : (u : OnDisk) (f : Format) → (opened (record { on = u; format = f })).content ≡ u.content
opened_content u Older = refl
opened_content u (Newer front) = refl

-- ---- the store of it

-- this was found
pub found_stands : (f : OpenedSide) (a b : ℕ) (d : DiskView) (h : IsAtHand f a b d) → StandsFor f.core.id d.reads (with_format d.reads h.on (disk_found f h.size))
found_stands f a b d h = stands_with f.core.id d.reads h.on (disk_found f h.size) h.used.found h.used.stands

pub store_of : {D : Type 0} (view : D → DiskView) (f : OpenedSide) (format : Format) (size id : ℕ) (old : DiskView) (x : Settled D) → IsSettled view f.core.id (record { on = disk_found f size; format = format }) old x →
    f.core.id ≡ id → f.values ≡ stable_of f.core → IsNumber x.generation → IsStore (view x.journal) id x.side x.generation f.values
store_of view f format size id old x is owner values small =
    let u : OnDisk = opened (record { on = disk_found f size; format = format }) in
    record {
      size = u.size;
      content = u.content;
      stands = subst (λ n. Stands n (view x.journal).reads (record { side = x.side; generation = x.generation; size = u.size; content = u.content })) owner
          (subst (Stands f.core.id (view x.journal).reads) (λ i. record { side = sym is.side_is i; generation = sym is.generation_is i; size = u.size; content = u.content }) is.reached.stands);
      values_are = values ∙ ap stable_of (sym (opened_content (disk_found f size) format));
      small = small;
      rest = is.reached.rest;
    }

-- the calls were struck, or memory was refused
pub settling_fails : {D : Type 0} (view : D → DiskView) (id : ℕ) (s : Standing) (journal : D) (fault : MigrateErr D) → StandsFor id (view journal).reads s → Settles view id s (view journal) (Err fault) → ComesUp view id journal (Err (move_fault fault))
settling_fails view id s journal (MoveLost disk) stands is = record { standing = s; stands = stands; lost = is }
settling_fails view id s journal (MoveNoMemory disk) stands is = inr (record { standing = s; stands = stands; unsettled = is })

-- what stands on the sides, of the replica that it names itself
pub at_hand : (id : ℕ) (on : Sides) (f : OpenedSide) (d : DiskView) → sides d.reads ≡ Some on → IsAtRest d → IsFoundOn id on f → IsAtHand f on.a.version on.b.version d
at_hand id on f d found rest is = record {
  on = on;
  size = is.size;
  used = record { found = found; stands = subst (λ n. chosen_in n on ≡ Some (disk_found f is.size)) (sym is.owner) is.stands; rest = rest };
  version_a = refl;
  version_b = refl;
  sound = is.sound;
  small = is.small;
}

-- ---- what the five calls that read the disk leave

five : (f : Format) → 5 ≤ recovery_calls f
five Older = omega arith
five (Newer front) = omega arith

five_and : (f : Format) → 5 + settling_calls f ≡ recovery_calls f
five_and Older = refl
five_and (Newer front) = refl

unmoved : (call : ℕ) (blow : Blow) (fill : List ℕ) → call ≤ 5 → has_moved Older (strike_at call blow fill) ≡ false
unmoved call Fails fill le = grind (arith, nat_tests)
unmoved call Stops fill le =
    let past : nat_lt 12 call ≡ false = grind (arith, nat_tests) in
    let gate : nat_le 11 call ≡ false = grind (arith, nat_tests) in
    rw (past, gate) refl

front_unwritten : (call : ℕ) (blow : Blow) (fill front : List ℕ) → call ≤ 5 → front_after 8 call (fault_of blow fill) front ≡ front
front_unwritten call Fails fill front le = let early : nat_lt 8 call ≡ false = grind (arith, nat_tests) in λ i. if early i then header else front
front_unwritten call Stops fill front le = let early : nat_le 8 call ≡ false = grind (arith, nat_tests) in λ i. if early i then overwritten front 0 (take 8 fill) else front

abbrev standing_with : OnDisk → Format → Standing
standing_with u f = record { on = u; format = f }

left_unread : (u : OnDisk) (f : Format) (call : ℕ) (blow : Blow) (fill : List ℕ) → call ≤ 5 → standing_left (standing_with u f) call blow fill ≡ standing_with u f
left_unread u Older call blow fill le =
    λ i. standing_with (if unmoved call blow fill le i then checkpointed u else u) (if unmoved call blow fill le i then Newer (front_after 15 call (fault_of blow fill) old_header) else Older)
left_unread u (Newer front) call blow fill le = ap (λ x. standing_with u (Newer x)) (front_unwritten call blow fill front le)

module _ (id : ℕ) (old new : DiskView) where
  looking : IsReadOnly old new → LeavesOnly old new (IsOpening id old)
  looking only = weakened old new old.may_leave (IsOpening id old) only.moments (λ c left. inl left)

  pub struck_reading : IsReadStruck 5 old new → IsLostOpening id old new
  struck_reading is = record {
    call = new.time - old.time;
    struck = is.struck;
    time = omega (arith, is.struck.later);
    reads = is.has.reads;
    stood = stood;
    stood_for_none = λ none. (early, is.only);
    moments = looking is.only;
  }
    where
      early : new.time - old.time ≤ 5
      early = omega (arith, is.time)

      left : (e : DiskState) → new.state ≡ Some e → (fill : List ℕ) → new.may_leave (left_by e fill)
      left e after = subst (λ (x : Option DiskState). IfSome x (λ s. (fill : List ℕ) → new.may_leave (left_by s fill))) after is.has.fills

      told : (s : Standing) → StandsFor id old.reads s → IsAtRest old → (d e : DiskState) → old.state ≡ Some d → new.state ≡ Some e → IsCutOpening id s (new.time - old.time) d e
      told s stands rest d e before after =
          let hit = is.struck.reached d before in
          record {
            strike = hit.0;
            armed = hit.1;
            fills = λ fill. subst (StandsFor id (left_by e fill)) (sym (left_unread s.on s.format (new.time - old.time) hit.0.blow fill early))
                (subst (λ c. StandsFor id c s) (sym (rest.only (left_by e fill) (is.only.images (left_by e fill) (left e after fill)))) stands);
          }

      stood : (s : Standing) → StandsFor id old.reads s → IsLostAt id s (new.time - old.time) old new
      stood s stands = record {
        within = omega (arith, early, five s.format);
        images = λ c may. inl (is.only.images c may);
        told = told s stands;
      }

  pub refused_reading : IsReadRefused 5 old new → IsOpeningRefused id old new
  refused_reading is = record {
    stood = λ s stands. record { standing = s; stands = subst (λ c. StandsFor id c s) (sym is.only.reads) stands; content_is = refl };
    stood_for_none = λ none. is.only;
    calls = omega (arith, is.time);
    unstruck = is.unstruck;
    moments = looking is.only;
  }

-- ---- and what those behind them do

module _ (id : ℕ) (old mid new : DiskView) (read : IsRead 5 old mid) (s : Standing) (stands : StandsFor id mid.reads s) where
  pub stood_before : StandsFor id old.reads s
  stood_before = subst (λ c. StandsFor id c s) read.only.reads stands

  content_same : (t : Standing) → StandsFor id old.reads t → s.on.content ≡ t.on.content
  content_same t is = ap (λ (x : Standing). x.on.content) (same_standing id old.reads s t stood_before is)

  opening_now : (c : Image) → StandsForState id s.on.content c → IsOpening id old c
  opening_now c is = inr (λ t that. record { standing = is.standing; stands = is.stands; content_is = is.content_is ∙ content_same t that })

  pub opening_moments : LeavesOnly mid new (StandsForState id s.on.content) → LeavesOnly old new (IsOpening id old)
  opening_moments run = chained old mid new (IsOpening id old) (StandsForState id s.on.content)
      (weakened old mid old.may_leave (IsOpening id old) read.only.moments (λ c left. inl left)) run opening_now

  pub opening_reached : IsReached id (settling_calls s.format) (opened s) mid new → IsReached id (recovery_calls s.format) (opened s) old new
  opening_reached is = record {
    stands = is.stands;
    rest = is.rest;
    time = let all = five_and s.format in omega (arith, is.time, read.time, all);
    unstruck = unstruck_more old mid new read.unstruck is.unstruck;
  }

  pub opening_lost : IsLostSettling id 5 s mid new → IsLostOpening id old new
  opening_lost is = record {
    call = is.call;
    struck = struck_more old mid new read.unstruck (omega (arith, read.time)) is.struck;
    time = omega (arith, is.time, read.time);
    reads = is.reads;
    stood = λ t that. subst (λ x. IsLostAt id x is.call old new) (same_standing id old.reads s t stood_before that) (record {
      within = is.within;
      images = λ c left. inr (is.images c left);
      told = λ rest d e before after.
          let next = still_armed old mid read.unstruck d before in
          let cut : IsCutOpening id s is.call next.0 e = is.told next.0 e next.1 after in
          record { strike = cut.strike; armed = sym next.2 ∙ cut.armed; fills = cut.fills };
    });
    stood_for_none = λ none. absurd (none-some s (sym none ∙ stood_before));
    moments = opening_moments is.moments;
  }

  pub opening_refused : IsUnsettled id 11 s mid new → IsOpeningRefused id old new
  opening_refused is = record {
    stood = λ t that. record { standing = is.stands.standing; stands = is.stands.stands; content_is = is.stands.content_is ∙ content_same t that };
    stood_for_none = λ none. absurd (none-some s (sym none ∙ stood_before));
    calls = omega (arith, is.time, read.time);
    unstruck = unstruck_more old mid new read.unstruck is.unstruck;
    moments = opening_moments is.moments;
  }

pub refused_behind : (id : ℕ) (old mid : DiskView) → IsRead 5 old mid → IsOpeningRefused id old mid
refused_behind id old mid read = refused_reading id old mid (record { only = read.only; time = omega (arith, read.time); unstruck = read.unstruck })

pub opens_from : {D : Type 0} (view : D → DiskView) (id : ℕ) (old : DiskView) (journal : D) → IsRead 5 old (view journal) → (r : Result (StoreState D × Held) (OpenErr D)) → ComesUp view id journal r → OpensStore view id old r
opens_from view id old journal read (Ok up) is = record {
  standing = is.standing;
  stands = stood_before id old (view journal) (view up.0.disk) read is.standing is.stands;
  core_is = is.core_is;
  sound = is.sound;
  owner = is.owner;
  id_is = is.id_is;
  unwritten = is.unwritten;
  reached = opening_reached id old (view journal) (view up.0.disk) read is.standing is.stands is.reached;
  moments = opening_moments id old (view journal) (view up.0.disk) read is.standing is.stands is.moments;
}
opens_from view id old journal read (Err (Lost disk)) is = opening_lost id old (view journal) (view disk) read is.standing is.stands is.lost
opens_from view id old journal read (Err (NotAStore disk)) is = record {
  stands_for_none = subst (λ c. standing_on_disk id c ≡ None) read.only.reads is.1;
  read = subst (λ d. IsRead 5 old (view d)) (sym is.0) read;
}
opens_from view id old journal read (Err (NoMemory disk)) (inl same) = subst (λ d. IsOpeningRefused id old (view d)) (sym same) (refused_behind id old (view journal) read)
opens_from view id old journal read (Err (NoMemory disk)) (inr is) = opening_refused id old (view journal) (view disk) read is.standing is.stands is.unsettled

-- the disk wasn't read to its end, or it is no journal
pub reading_fails : {D : Type 0} (view : D → DiskView) (id : ℕ) (old : DiskView) (fault : JournalOpen D) → OpensMixed {D = D} view old (Err fault) → OpensStore view id old (Err (read_fault fault))
reading_fails view id old (ReadLost disk) is = struck_reading id old (view disk) is
reading_fails view id old (NotAJournal disk) is = record { stands_for_none = no_journal id old.reads is.sides_old; read = is.read }
reading_fails view id old (ReadNoMemory disk) is = refused_reading id old (view disk) is
