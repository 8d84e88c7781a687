-- The two writes that add a record.
use Rattle.std.proofs.Common.{◌≡◌, ◌≢◌, inl, inr, ⊎_elim, ◌⊎◌, ℕ, ◌+◌, ◌-◌, ◌^◌, ◌≤◌, ◌<◌, true, false, List, [], ◌∷◌, ◌++◌, length, get_or, take, drop, Option, Some, IfSome, Result, Ok, Err, refl, sym, ◌∙◌, ap, subst, arith, length-append}
use Rattle.std.specs.Bool.{if◌then◌else◌}
use Rattle.std.specs.Option.{option_map}
use Rattle.std.proofs.lemmas.List.{length-take-le}
use Rattle.std.proofs.lemmas.Bool.{cases_eq}
use Rattle.std.proofs.lemmas.Bool.Decides.{nat_tests}
use Rattle.cg_disk.specs.Sides.{Image, bytes_of, opposite}
use Rattle.cg_disk.specs.Writes.{Torn, TornSide, overwritten}
use Rattle.cg_disk.specs.State.{SideState, DiskState, Blow, Fails, Stops, is_unsynced, left_by, shown, synced_side, wrote, wrote_side, Range, filled, unsynced_from}
use Rattle.cg_disk.specs.View.{DiskView, IsView, IsSynced}
use Rattle.cg_disk.specs.declared.disk.Side.{Side}
use Rattle.cg_disk.specs.declared.disk.Side.TheVariants.{A, B}
use Rattle.cg_disk.specs.declared.disk.DiskFault.{DiskFault}
use Rattle.cg_disk.specs.declared.disk.DiskFault.TheVariants.{Failed, NoMemory}
use Rattle.cg_journal.specs.Records.{Records, HasRecords, records, bodies_of, added, framed}
use Rattle.cg_journal.specs.Strikes.{IsUnstruck, IsStruck}
use Rattle.cg_journal.specs.Put.{put_on, IsPut, IsCut, CutBy, IsKept, Puts}
use Rattle.cg_journal.specs.Adds.{state_on, IsEither, GateDecides, gate_stands, IsLostIn, IsAdded, IsNotAdded, Adds}
use Rattle.cg_journal.proofs.Reading.{reads_as}
use Rattle.cg_journal.proofs.Adding.{same_front, gate_of_same, take_staged, torn_open, torn_shut, gate_written, length-framed, end_within}
use Rattle.cg_journal.proofs.Both.{put_this, put_other, records_same, records_added}
use Rattle.cg_journal.proofs.Fills.{left_clean, filled_gate, first_or, gate_range, is_gate, no_offsets}
use Rattle.cg_journal.specs.ViewLaws.{some_state, struck_more, unstruck_more}

pub gate_early : (blow : Blow) (call : ℕ) (fill : List ℕ) → call ≤ 2 → gate_stands blow call fill ≡ false
gate_early Fails call fill early = grind (arith, nat_tests)
gate_early Stops call fill early = grind (arith, nat_tests)

-- what a told disk shows after a write
pub shown_wrote : (side : Side) (offset : ℕ) (bytes : List ℕ) (s : DiskState) → shown (wrote side offset bytes s) ≡ put_on side offset bytes (shown s)
shown_wrote A offset bytes s = refl
shown_wrote B offset bytes s = refl

pub clean_unsynced : (s : SideState) → s ≡ synced_side s → s.unsynced ≡ []
clean_unsynced s clean = ap (λ (x : SideState). x.unsynced) clean

pub clean_old : (s : SideState) → s ≡ synced_side s → s.old ≡ s.seen
clean_old s clean = ap (λ (x : SideState). x.old) clean

pub one_range : (s e : SideState) (gate : ℕ) → s ≡ synced_side s → e ≡ wrote_side gate (1 ∷ []) s → e.unsynced ≡ gate_range gate
one_range s e gate clean wrote_it = ap (λ (x : SideState). x.unsynced) wrote_it ∙ ap (λ (r : List Range). record { from = gate; to = gate + 1 } ∷ r) (clean_unsynced s clean)

-- a side at rest on which one byte was written, and the fill of a crash
module _ (s e : SideState) (gate : ℕ) (fill : List ℕ) (clean : s ≡ synced_side s) (wrote_it : e ≡ wrote_side gate (1 ∷ []) s) (inside : gate < length s.seen) where
  stop_old : e.old ≡ s.seen
  stop_old = ap (λ (x : SideState). x.old) wrote_it ∙ clean_old s clean

  stop_byte : get_or (filled e fill) gate 0 ≡ first_or fill (get_or s.seen gate 0)
  stop_byte =
      let long = ap (λ (x : SideState). length x.seen) wrote_it in
      filled_gate e gate (one_range s e gate clean wrote_it) (omega (arith, ap length stop_old)) fill
      (omega (arith, long, length-append (take gate s.seen ++ (1 ∷ [])) (drop (gate + 1) s.seen), length-append (take gate s.seen) (1 ∷ []), length-take-le gate s.seen (omega arith)))
      ∙ ap (λ (l : List ℕ). first_or fill (get_or l gate 0)) stop_old

pub stop_gate : (side : Side) (gate : ℕ) (s e : DiskState) (fill : List ℕ) → IsSynced s → e.a ≡ (wrote side gate (1 ∷ []) s).a → e.b ≡ (wrote side gate (1 ∷ []) s).b → gate < length (bytes_of side (shown s))
    → get_or (bytes_of side (left_by e fill)) gate 0 ≡ first_or fill (get_or (bytes_of side (shown s)) gate 0)
stop_gate A gate s e fill clean a b inside = stop_byte s.a e.a gate fill clean.0 a inside
stop_gate B gate s e fill clean a b inside =
    let none : unsynced_from e.a 0 e.a.seen ≡ 0 = no_offsets e.a (ap (λ (x : SideState). x.unsynced) a ∙ clean_unsynced s.a clean.0) in
    ap (λ n. get_or (filled e.b (drop n fill)) gate 0) none ∙ stop_byte s.b e.b gate fill clean.1 b inside

-- which offsets a strike in a gate's write or its sync leaves unsynced
failed_clean : (call : ℕ) (s w e : DiskState) → IsSynced s → (call ≡ 1) ⊎ (call ≡ 2) → CutBy Fails s w call e → (e.a.unsynced ≡ []) × (e.b.unsynced ≡ [])
failed_clean call s w e clean (inl one) by = (ap (λ (x : SideState). x.unsynced) ((by.0 one).0 ∙ clean.0), ap (λ (x : SideState). x.unsynced) ((by.0 one).1 ∙ clean.1))
failed_clean call s w e clean (inr two) by = (ap (λ (x : SideState). x.unsynced) (by.1 two).0, ap (λ (x : SideState). x.unsynced) (by.1 two).1)

cut_unsynced : (side : Side) (gate call : ℕ) (blow : Blow) (s e : DiskState) → IsSynced s → (call ≡ 1) ⊎ (call ≡ 2) → CutBy blow s (wrote side gate (1 ∷ []) s) call e
    → (((state_on side e).unsynced ≡ []) ⊎ ((state_on side e).unsynced ≡ gate_range gate)) × ((state_on (opposite side) e).unsynced ≡ [])
cut_unsynced A gate call Fails s e clean which by = let none = failed_clean call s (wrote A gate (1 ∷ []) s) e clean which by in (inl none.0, none.1)
cut_unsynced B gate call Fails s e clean which by = let none = failed_clean call s (wrote B gate (1 ∷ []) s) e clean which by in (inl none.1, none.0)
cut_unsynced A gate call Stops s e clean which by = (inr (one_range s.a e.a gate clean.0 by.0), ap (λ (x : SideState). x.unsynced) by.1 ∙ clean_unsynced s.b clean.1)
cut_unsynced B gate call Stops s e clean which by = (inr (one_range s.b e.b gate clean.1 by.1), ap (λ (x : SideState). x.unsynced) by.0 ∙ clean_unsynced s.a clean.0)

-- the first byte of a fill decides at the gate
decides : (side : Side) (gate call old_gate : ℕ) (before after : Option Records) (c : Image) (fill : List ℕ) → 2 < call → old_gate ≢ 1 → get_or (bytes_of side c) gate 0 ≡ first_or fill old_gate → GateDecides side gate before after c
    → records c ≡ (if gate_stands Stops call fill then after else before)
decides side gate call old_gate before after c [] late shut is gates = gates.closed (λ is_one. shut (sym is ∙ is_one)) ∙ (λ i. if sym none i then after else before)
  where
    none : gate_stands Stops call [] ≡ false
    none = grind (arith, nat_tests)
decides side gate call old_gate before after c (byte ∷ fill) late shut is gates = ⊎_elim
    (λ is_one. gates.opened (is ∙ is_one) ∙ (λ i. if sym (stands is_one) i then after else before))
    (λ not_one. gates.closed (λ is_one. not_one (sym is ∙ is_one)) ∙ (λ i. if sym (falls not_one) i then after else before))
    (cases_eq byte 1)
  where
    stands : byte ≡ 1 → gate_stands Stops call (byte ∷ fill) ≡ true
    stands is_one = grind (arith, nat_tests)

    falls : byte ≢ 1 → gate_stands Stops call (byte ∷ fill) ≡ false
    falls not_one = grind (arith, nat_tests)

module _ (side : Side) (end : ℕ) (bodies : List (List ℕ)) (body : List ℕ) (body_short : length body < 2 ^ 32) (old : DiskView) (has : HasRecords (bytes_of side old.reads) end bodies) where
  before : Option Records
  before = records old.reads

  read_old : bodies_of (bytes_of side old.reads) ≡ Some bodies
  read_old = reads_as (bytes_of side old.reads) end bodies has

  -- the first write leaves the records, and their gate closed
  first_image : (c : Image) → TornSide side end (length (framed body)) old.reads c → (records c ≡ records old.reads) × (get_or (bytes_of side c) (end - 1) 0 ≢ 1)
  first_image c torn =
      let same = same_front (bytes_of side old.reads) end bodies has (bytes_of side c) torn.torn.before in
      let gate = gate_of_same (bytes_of side old.reads) end bodies has (bytes_of side c) torn.torn.before in (
        records_same side c old.reads torn.other (reads_as (bytes_of side c) end bodies same ∙ sym read_old),
        λ is_one. has.closed (sym gate ∙ is_one),
      )

  first_gates : (c : Image) → TornSide side end (length (framed body)) old.reads c → GateDecides side (end - 1) (records old.reads) (option_map (added side body) (records old.reads)) c
  first_gates c torn = let image = first_image c torn in record { opened = λ is_one. absurd (image.1 is_one); closed = λ _. image.0 }

  pub first_either : (c : Image) → TornSide side end (length (framed body)) old.reads c → IsEither (records old.reads) (option_map (added side body) (records old.reads)) c
  first_either c torn = inl (first_image c torn).0

  module _ (mid : DiskView) where
    -- the first write or its sync is struck
    first_lost : (call : ℕ) → IsCut side end (framed body) call old mid → IsLostIn 0 call side (end - 1) (records old.reads) (option_map (added side body) (records old.reads)) old mid
    first_lost call cut =
        let few : (1 ≤ call) × (call ≤ 2) = ⊎_elim (λ one. (omega arith, omega arith)) (λ two. (omega arith, omega arith)) cut.first_or_second in
        record {
          struck = cut.struck;
          time = omega (arith, cut.time);
          within = (few.0, omega (arith, few.1));
          gates = λ c left. first_gates c (cut.images c left);
          early = λ _ c left. (first_image c (cut.images c left)).0;
          last = λ four. absurd (omega (arith, few.1));
          reads = cut.has.reads;
          told = λ s is.
              let told = cut.told s is in
              let fills : IfSome (Some told.0) (λ e. (fill : List ℕ) → mid.may_leave (left_by e fill)) = subst (λ x. IfSome x (λ e. (fill : List ℕ) → mid.may_leave (left_by e fill))) told.1 cut.has.fills in (
                told.0,
                told.1,
                record {
                  strike = told.2.strike;
                  armed = told.2.armed;
                  fills = λ fill.
                      (first_image (left_by told.0 fill) (cut.images (left_by told.0 fill) (fills fill))).0
                      ∙ (λ i. if sym (gate_early told.2.strike.blow call fill few.1) i then option_map (added side body) (records old.reads) else records old.reads);
                  only_gate = λ late. absurd (omega (arith, few.1));
                  other_synced = λ late. absurd (omega (arith, few.1));
                },
              );
        }

    first_kept : IsKept old mid → IsNotAdded side end bodies old mid
    first_kept kept = record {
      records_new = ap records kept.reads;
      on = subst (λ image. HasRecords (bytes_of side image) end bodies) (sym kept.reads) has;
      other = ap (bytes_of (opposite side)) kept.reads;
      rest = kept.rest;
      time = inl kept.time;
      unstruck = kept.unstruck;
    }

    pub add_failed : (T : Type 0) (fault : DiskFault) → Puts {T = T} side end (framed body) old mid (Err fault) → Adds {T = T} side end bodies body old mid (Err fault)
    add_failed T Failed puts = (puts.0, first_lost puts.0 puts.1)
    add_failed T NoMemory puts = first_kept puts

    -- the record stands behind its gate
    module _ (put : IsPut side end (framed body) old mid) (is_mid : IsView mid) where
      mid_this : bytes_of side mid.reads ≡ overwritten (bytes_of side old.reads) end (framed body)
      mid_this = ap (bytes_of side) put.reads ∙ put_this side end (framed body) old.reads

      mid_other : bytes_of (opposite side) mid.reads ≡ bytes_of (opposite side) old.reads
      mid_other = ap (bytes_of (opposite side)) put.reads ∙ put_other side end (framed body) old.reads

      mid_front : take end (bytes_of side mid.reads) ≡ take end (bytes_of side old.reads)
      mid_front = ap (take end) mid_this ∙ take_staged (bytes_of side old.reads) end bodies has body body_short

      mid_has : HasRecords (bytes_of side mid.reads) end bodies
      mid_has = same_front (bytes_of side old.reads) end bodies has (bytes_of side mid.reads) mid_front

      mid_records : records mid.reads ≡ records old.reads
      mid_records = records_same side mid.reads old.reads mid_other (reads_as (bytes_of side mid.reads) end bodies mid_has ∙ sym read_old)

      mid_gate : get_or (bytes_of side mid.reads) (end - 1) 0 ≢ 1
      mid_gate is_one = has.closed (sym (gate_of_same (bytes_of side old.reads) end bodies has (bytes_of side mid.reads) mid_front) ∙ is_one)

      second_gates : (c : Image) → TornSide side (end - 1) 1 mid.reads c → GateDecides side (end - 1) (records old.reads) (option_map (added side body) (records old.reads)) c
      second_gates c torn =
          let staged : Torn (end - 1) 1 (overwritten (bytes_of side old.reads) end (framed body)) (bytes_of side c) = subst (λ x. Torn (end - 1) 1 x (bytes_of side c)) mid_this torn.torn in
          record {
            opened = λ is_one. records_added side c old.reads bodies body (torn.other ∙ mid_other)
                (reads_as (bytes_of side c) (end + 5 + length body) (bodies ++ body ∷ []) (torn_open (bytes_of side old.reads) end bodies has body body_short (bytes_of side c) staged is_one)) read_old;
            closed = λ not_one. records_same side c old.reads (torn.other ∙ mid_other)
                (reads_as (bytes_of side c) end bodies (torn_shut (bytes_of side old.reads) end bodies has body body_short (bytes_of side c) staged not_one) ∙ sym read_old);
          }

      pub second_either : (c : Image) → TornSide side (end - 1) 1 mid.reads c → IsEither (records old.reads) (option_map (added side body) (records old.reads)) c
      second_either c torn =
          let gates = second_gates c torn in
          ⊎_elim (λ is_one. inr (gates.opened is_one)) (λ not_one. inl (gates.closed not_one)) (cases_eq (get_or (bytes_of side c) (end - 1) 0) 1)

      -- the gate is open
      module _ (c : Image) (opened : c ≡ put_on side (end - 1) (1 ∷ []) mid.reads) where
        open_other : bytes_of (opposite side) c ≡ bytes_of (opposite side) old.reads
        open_other = ap (bytes_of (opposite side)) opened ∙ put_other side (end - 1) (1 ∷ []) mid.reads ∙ mid_other

        open_has : HasRecords (bytes_of side c) (end + 5 + length body) (bodies ++ body ∷ [])
        open_has =
            let this : bytes_of side c ≡ overwritten (overwritten (bytes_of side old.reads) end (framed body)) (end - 1) (1 ∷ []) =
            ap (bytes_of side) opened ∙ put_this side (end - 1) (1 ∷ []) mid.reads ∙ ap (λ (l : List ℕ). overwritten l (end - 1) (1 ∷ [])) mid_this in
            subst (λ x. HasRecords x (end + 5 + length body) (bodies ++ body ∷ [])) (sym this) (gate_written (bytes_of side old.reads) end bodies has body body_short)

        open_records : records c ≡ option_map (added side body) (records old.reads)
        open_records = records_added side c old.reads bodies body open_other (reads_as (bytes_of side c) (end + 5 + length body) (bodies ++ body ∷ []) open_has) read_old

      gate_inside : end - 1 < length (bytes_of side mid.reads)
      gate_inside = omega (arith, end_within (bytes_of side mid.reads) end bodies mid_has, mid_has.ends)

      module _ (new : DiskView) where
        is_added : IsPut side (end - 1) (1 ∷ []) mid new → IsAdded side end bodies body old new
        is_added opened = record {
          records_new = open_records new.reads opened.reads;
          on = open_has new.reads opened.reads;
          other = open_other new.reads opened.reads;
          rest = opened.rest;
          time = omega (arith, put.time, opened.time);
          unstruck = unstruck_more old mid new put.unstruck opened.unstruck;
          short = omega (arith, put.short, length-framed body);
        }

        second_kept : IsKept mid new → IsNotAdded side end bodies old new
        second_kept kept = record {
          records_new = ap records kept.reads ∙ mid_records;
          on = subst (λ image. HasRecords (bytes_of side image) end bodies) (sym kept.reads) mid_has;
          other = ap (bytes_of (opposite side)) kept.reads ∙ mid_other;
          rest = kept.rest;
          time = inr (omega (arith, kept.time, put.time));
          unstruck = unstruck_more old mid new put.unstruck kept.unstruck;
        }

        -- the gate's write or its sync is struck, on a disk that tells its state
        module _ (call : ℕ) (cut : IsCut side (end - 1) (1 ∷ []) call mid new) (s e : DiskState) (clean : IsSynced s) (shows : shown s ≡ mid.reads) (left : (fill : List ℕ) → new.may_leave (left_by e fill)) where
          told_fills : (blow : Blow) → CutBy blow s (wrote side (end - 1) (1 ∷ []) s) call e → (fill : List ℕ) → records (left_by e fill) ≡ (if gate_stands blow (2 + call) fill then option_map (added side body) (records old.reads) else records old.reads)
          told_fills Fails by fill = ⊎_elim failed_write failed_sync cut.first_or_second
            where
              failed_write : call ≡ 1 → records (left_by e fill) ≡ (if gate_stands Fails (2 + call) fill then option_map (added side body) (records old.reads) else records old.reads)
              failed_write one =
                  let sides = by.0 one in
                  ap records (left_clean e fill (ap (λ (x : SideState). x.unsynced) (sides.0 ∙ clean.0)) (ap (λ (x : SideState). x.unsynced) (sides.1 ∙ clean.1)) ∙ (λ i. record { a = (sides.0 i).seen; b = (sides.1 i).seen }) ∙ shows)
                  ∙ mid_records
                  ∙ (λ i. if gate_stands Fails (2 + sym one i) fill then option_map (added side body) (records old.reads) else records old.reads)

              failed_sync : call ≡ 2 → records (left_by e fill) ≡ (if gate_stands Fails (2 + call) fill then option_map (added side body) (records old.reads) else records old.reads)
              failed_sync two =
                  let sides = by.1 two in
                  open_records (left_by e fill) (left_clean e fill (λ i. (sides.0 i).unsynced) (λ i. (sides.1 i).unsynced) ∙ (λ i. record { a = (sides.0 i).seen; b = (sides.1 i).seen }) ∙ shown_wrote side (end - 1) (1 ∷ []) s ∙ ap (put_on side (end - 1) (1 ∷ [])) shows)
                  ∙ (λ i. if gate_stands Fails (2 + sym two i) fill then option_map (added side body) (records old.reads) else records old.reads)
          told_fills Stops by fill =
              let c = left_by e fill in
              let gate = stop_gate side (end - 1) s e fill clean by.0 by.1 (subst (λ image. end - 1 < length (bytes_of side image)) (sym shows) gate_inside) in
              decides side (end - 1) (2 + call) (get_or (bytes_of side mid.reads) (end - 1) 0) (records old.reads) (option_map (added side body) (records old.reads)) c fill
              (⊎_elim (λ one. omega arith) (λ two. omega arith) cut.first_or_second) mid_gate
              (gate ∙ ap (λ image. first_or fill (get_or (bytes_of side image) (end - 1) 0)) shows)
              (second_gates c (cut.images c (left fill)))

          told : (blow : Blow) → CutBy blow s (wrote side (end - 1) (1 ∷ []) s) call e → ((state_on side e).unsynced ≡ []) ⊎ ((state_on side e).unsynced ≡ gate_range (end - 1))
          told blow by = (cut_unsynced side (end - 1) call blow s e clean cut.first_or_second by).0

          told_gate : (blow : Blow) → CutBy blow s (wrote side (end - 1) (1 ∷ []) s) call e → (offset : ℕ) → is_unsynced (state_on side e).unsynced offset ≡ true → offset ≡ end - 1
          told_gate blow by offset hit = ⊎_elim
              (λ none. absurd (let miss : is_unsynced (state_on side e).unsynced offset ≡ false = ap (λ r. is_unsynced r offset) none in cc))
              (λ one. is_gate (end - 1) offset (sym (ap (λ r. is_unsynced r offset) one) ∙ hit))
              (told blow by)

        second_lost : (call : ℕ) → IsCut side (end - 1) (1 ∷ []) call mid new → IsLostIn 0 (2 + call) side (end - 1) (records old.reads) (option_map (added side body) (records old.reads)) old new
        second_lost call cut =
            let few : (1 ≤ call) × (call ≤ 2) = ⊎_elim (λ one. (omega arith, omega arith)) (λ two. (omega arith, omega arith)) cut.first_or_second in
            record {
              struck = struck_more old mid new put.unstruck (omega (arith, put.time)) cut.struck;
              time = omega (arith, put.time, cut.time);
              within = (omega (arith, few.0), omega (arith, few.1));
              gates = λ c left. second_gates c (cut.images c left);
              early = λ early. absurd (omega (arith, few.0));
              last = λ four. open_records new.reads (cut.reads (omega (arith, four)));
              reads = cut.has.reads;
              told = λ s is.
                  let armed : option_map (λ (x : DiskState). x.strike) mid.state ≡ Some s.strike = put.unstruck.stays ∙ ap (option_map (λ (x : DiskState). x.strike)) is in
                  let next = some_state mid.state s.strike armed in
                  let clean : IsSynced next.0 = subst (λ x. IfSome x IsSynced) next.1 put.rest.clean in
                  let shows : shown next.0 ≡ mid.reads = subst (λ x. IfSome x (λ y. shown y ≡ mid.reads)) next.1 is_mid.shows in
                  let told = cut.told next.0 next.1 in
                  let fills : IfSome (Some told.0) (λ e. (fill : List ℕ) → new.may_leave (left_by e fill)) = subst (λ x. IfSome x (λ e. (fill : List ℕ) → new.may_leave (left_by e fill))) told.1 cut.has.fills in (
                    told.0,
                    told.1,
                    record {
                      strike = told.2.strike;
                      armed = sym next.2 ∙ told.2.armed;
                      fills = told_fills call cut next.0 told.0 clean shows fills told.2.strike.blow told.2.left;
                      only_gate = λ late. told_gate call cut next.0 told.0 clean shows fills told.2.strike.blow told.2.left;
                      other_synced = λ late. (cut_unsynced side (end - 1) call told.2.strike.blow next.0 told.0 clean cut.first_or_second told.2.left).1;
                    },
                  );
            }

        pub add_done : {T : Type 0} (r : Result T DiskFault) → Puts side (end - 1) (1 ∷ []) mid new r → Adds side end bodies body old new r
        add_done (Ok x) puts = is_added puts
        add_done (Err Failed) puts = (2 + puts.0, second_lost puts.0 puts.1)
        add_done (Err NoMemory) puts = second_kept puts
