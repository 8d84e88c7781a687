-- A side that goes over to the newer format without records.
use Rattle.std.proofs.Common.{◌≡◌, inl, inr, ⊎_elim, ℕ, zero, suc, ◌+◌, ◌≤◌, ◌<◌, nat_lt, true, false, List, [], ◌∷◌, ◌++◌, length, get_or, take, drop, Some, IfSome, Result, Ok, Err, OnOk, refl, sym, ◌∙◌, ap, subst, arith, length-append}
use Rattle.std.specs.Bool.{if◌then◌else◌}
use Rattle.std.specs.List.{slice_get}
use Rattle.std.specs.Option.{option_map}
use Rattle.std.proofs.lemmas.List.{drop_more}
use Rattle.std.proofs.lemmas.Option.{slice_get-get_or}
use Rattle.std.proofs.lemmas.Bool.Decides.{nat_tests}
use Rattle.cg_disk.specs.Sides.{Image, bytes_of, opposite}
use Rattle.cg_disk.specs.Writes.{TornSide, overwritten}
use Rattle.cg_disk.specs.State.{Range, SideState, DiskState, Blow, Fails, Stops, is_unsynced, fill_offset, filled_from, filled, unsynced_from, left_by, shown, synced_side, wrote, wrote_side}
use Rattle.cg_disk.specs.View.{DiskView, IsView, IsSynced}
use Rattle.cg_disk.specs.declared.disk.Side.{Side}
use Rattle.cg_disk.specs.declared.disk.Side.TheVariants.{A, B}
use Rattle.cg_disk.specs.declared.disk.DiskFault.{DiskFault}
use Rattle.cg_disk.specs.declared.disk.DiskFault.TheVariants.{Failed, NoMemory}
use Rattle.cg_journal.specs.Records.{header, HasRecords}
use Rattle.cg_journal.specs.Put.{put_on, IsPut, IsCut, CutBy, Puts}
use Rattle.cg_journal.specs.Found.{blank, Sides, sides, front_on}
use Rattle.cg_journal.specs.FoundLaws.{reads_newer, sides_with}
use Rattle.cg_journal.specs.Renews.{MayGo, IsUnrenewed}
use Rattle.cg_journal.specs.Clears.{front_left, IsLostClearing}
use Rattle.cg_journal.specs.Migrates.{IsShut, IsShutting, IsLostAs, IsShutBy, Shuts, IsClearedAt, ClearsSide}
use Rattle.cg_journal.specs.ViewLaws.{some_state, struck_more, unstruck_more}
use Rattle.cg_journal.proofs.AddSteps.{shown_wrote, clean_unsynced, clean_old}
use Rattle.cg_journal.proofs.Both.{put_this, put_other}
use Rattle.cg_journal.proofs.Fills.{left_clean, no_offsets}
use Rattle.cg_journal.proofs.Reading.{reads_as}
use Rattle.cg_journal.proofs.Renewing.{headed_base, other_found, shut_blank, shutting_unrenewed}
use Rattle.cg_journal.proofs.Shutting.{shut_front}

-- ---- what a fill leaves of eight bytes at the front

abbrev front_range : List Range
front_range = record { from = 0; to = 8 } ∷ []

hit : (offset : ℕ) → offset < 8 → is_unsynced front_range offset ≡ true
hit offset below = grind (arith, nat_tests)

-- the first bytes of a fill over those that were there
abbrev over : ℕ → List ℕ → List ℕ → List ℕ
over n fill old = take n fill ++ drop (length (take n fill)) (take n old)

none_over : (n : ℕ) (old : List ℕ) → over n [] old ≡ take n old
none_over zero old = refl
none_over (suc n) old = refl

-- one offset more in front of those of which it is known
one_more : (n byte : ℕ) (old : List ℕ) (rest : List ℕ → List ℕ) → ((fill : List ℕ) → take n (rest fill) ≡ over n fill old) → (fill : List ℕ) → take (suc n) (fill_offset fill (Some byte) rest) ≡ over (suc n) fill (byte ∷ old)
one_more n byte old rest is [] = ap (λ (l : List ℕ). byte ∷ l) (is [] ∙ none_over n old)
one_more n byte old rest is (x ∷ fill) = ap (λ (l : List ℕ). x ∷ l) (is fill)

module _ (s : SideState) (only : s.unsynced ≡ front_range) (there : 8 ≤ length s.old) where
  front_from : (n offset : ℕ) (seen fill : List ℕ) → offset + n ≡ 8 → n ≤ length seen → take n (filled_from s offset seen fill) ≡ over n fill (drop offset s.old)
  front_from zero offset seen fill at inside = refl
  front_from (suc n) offset [] fill at inside = absurd (omega arith)
  front_from (suc n) offset (x ∷ seen) fill at inside =
      let unsynced : is_unsynced s.unsynced offset ≡ true = ap (λ ranges. is_unsynced ranges offset) only ∙ hit offset (omega arith) in
      let byte : slice_get s.old offset ≡ Some (get_or s.old offset 0) = slice_get-get_or s.old offset 0 (omega arith) in
      let before : drop offset s.old ≡ get_or s.old offset 0 ∷ drop (offset + 1) s.old = drop_more s.old offset 0 (omega arith) in
      (λ i. take (suc n) (if unsynced i then fill_offset fill (byte i) (filled_from s (suc offset) seen) else x ∷ filled_from s (suc offset) seen fill))
      ∙ one_more n (get_or s.old offset 0) (drop (offset + 1) s.old) (filled_from s (suc offset) seen)
      (λ more. front_from n (suc offset) seen more (omega (arith, at)) (omega (arith, inside)) ∙ ap (λ k. over n more (drop k s.old)) (let next : suc offset ≡ offset + 1 = omega arith in next)) fill
      ∙ ap (over (suc n) fill) (sym before)

  front_filled : (fill : List ℕ) → 8 ≤ length s.seen → take 8 (filled s fill) ≡ over 8 fill s.old
  front_filled fill inside = front_from 8 0 s.seen fill refl inside

-- a side at rest at whose front eight bytes were written
module _ (s e : SideState) (fill : List ℕ) (clean : s ≡ synced_side s) (wrote_it : e ≡ wrote_side 0 header s) (inside : 8 ≤ length s.seen) (inside_new : 8 ≤ length (overwritten s.seen 0 header)) where
  side_front : take 8 (filled e fill) ≡ overwritten (take 8 s.seen) 0 (take 8 fill)
  side_front =
      let old : e.old ≡ s.seen = ap (λ (x : SideState). x.old) wrote_it ∙ clean_old s clean in
      let ranges : e.unsynced ≡ front_range = ap (λ (x : SideState). x.unsynced) wrote_it ∙ ap (λ (r : List Range). record { from = 0; to = 8 } ∷ r) (clean_unsynced s clean) in
      front_filled e ranges (omega (arith, ap length old, inside)) fill (omega (arith, ap (λ (x : SideState). length x.seen) wrote_it, inside_new))
      ∙ ap (over 8 fill) old
      ∙ (let from_zero : length (take 8 fill) ≡ 0 + length (take 8 fill) = omega arith in ap (λ n. take 8 fill ++ drop n (take 8 s.seen)) from_zero)

stop_front : (side : Side) (s e : DiskState) (fill : List ℕ) → IsSynced s → e.a ≡ (wrote side 0 header s).a → e.b ≡ (wrote side 0 header s).b → 8 ≤ length (bytes_of side (shown s)) → 8 ≤ length (overwritten (bytes_of side (shown s)) 0 header)
    → front_on side (left_by e fill) ≡ overwritten (front_on side (shown s)) 0 (take 8 fill)
stop_front A s e fill clean a b inside inside_new = side_front s.a e.a fill clean.0 a inside inside_new
stop_front B s e fill clean a b inside inside_new =
    let none : unsynced_from e.a 0 e.a.seen ≡ 0 = no_offsets e.a (ap (λ (x : SideState). x.unsynced) a ∙ clean_unsynced s.a clean.0) in
    ap (λ n. take 8 (filled e.b (drop n fill))) none ∙ side_front s.b e.b fill clean.1 b inside inside_new

-- ---- the four calls

headed_front : (side : List ℕ) → take 8 (overwritten side 0 header) ≡ header
headed_front side = refl

-- the header stands there
module _ (side : Side) (old m1 new : DiskView) (shut : IsShutBy side old m1) where
  put_has : IsPut side 0 header m1 new → HasRecords (bytes_of side new.reads) 9 []
  put_has put = subst (λ (l : List ℕ). HasRecords l 9 []) (sym (ap (bytes_of side) put.reads ∙ put_this side 0 header m1.reads)) (headed_base (bytes_of side m1.reads) shut.is.long shut.is.closed)

  put_other_is : IsPut side 0 header m1 new → bytes_of (opposite side) new.reads ≡ bytes_of (opposite side) old.reads
  put_other_is put = ap (bytes_of (opposite side)) put.reads ∙ put_other side 0 header m1.reads ∙ shut.is.other

  pub cleared_at : {T : Type 0} (r : Result T DiskFault) → Puts side 0 header m1 new r → OnOk r (IsClearedAt side old new)
  cleared_at (Ok x) put = record { on = put_has put; other = put_other_is put; rest = put.rest }
  cleared_at (Err fault) put = tt

module _ (side : Side) (s : Sides) (old m1 : DiskView) (may : MayGo side s old) where
  -- one of the first two calls is struck
  early_lost : (call : ℕ) → IsLostAs 2 (IsShutting side old.reads) call old m1 → IsLostClearing side s old m1
  early_lost call lost = record {
    call = call;
    within = (lost.within.0, omega (arith, lost.within.1));
    struck = lost.struck;
    time = lost.time;
    images = λ c left. shutting_unrenewed side s old may c (lost.images c left);
    reads = lost.has.reads;
    told = λ d e is_old is_new.
        let strike = lost.struck.reached d is_old in
        let fills : (fill : List ℕ) → m1.may_leave (left_by e fill) = subst (λ x. IfSome x (λ (y : DiskState). (fill : List ℕ) → m1.may_leave (left_by y fill))) is_new lost.has.fills in
        record {
          strike = strike.0;
          armed = strike.1;
          images = λ fill. shutting_unrenewed side s old may (left_by e fill) (lost.images (left_by e fill) (fills fill));
          fronts = λ fill. (lost.images (left_by e fill) (fills fill)).front ∙ sym (early strike.0.blow fill);
        };
  }
    where
      early : (blow : Blow) (fill : List ℕ) → front_left blow call fill (front_on side old.reads) ≡ front_on side old.reads
      early Fails fill = let not_yet : nat_lt 3 call ≡ false = grind (arith, nat_tests, lost.within.1) in λ i. if not_yet i then header else front_on side old.reads
      early Stops fill = let not_yet : nat_lt 2 call ≡ false = grind (arith, nat_tests, lost.within.1) in λ i. if not_yet i then overwritten (front_on side old.reads) 0 (take 8 fill) else front_on side old.reads

  pub early_failed : (T : Type 0) (fault : DiskFault) → Shuts {T = T} side old m1 (Err fault) → ClearsSide {T = T} side s old m1 (Err fault)
  early_failed T Failed lost = early_lost lost.0 lost.1
  early_failed T NoMemory refused = record {
    is = inl (ap sides refused.is ∙ may.found);
    front = ap (front_on side) refused.is;
    other = ap (bytes_of (opposite side)) refused.is;
    rest = refused.rest;
    time = omega (arith, refused.time);
    unstruck = refused.unstruck;
  }

  module _ (shut : IsShutBy side old m1) (is_m1 : IsView m1) (new : DiskView) where
    torn_shut : (c : Image) → TornSide side 0 8 m1.reads c → IsShut side old.reads c
    torn_shut c torn = shut_front side old.reads m1.reads c shut.is torn

    pub torn_unrenewed : (c : Image) → TornSide side 0 8 m1.reads c → IsUnrenewed side s c
    torn_unrenewed c torn = inr (shut_blank side s old may c (torn_shut c torn))

    -- the header's write or its sync is struck
    module _ (call : ℕ) (cut : IsCut side 0 header call m1 new) (d e : DiskState) (clean : IsSynced d) (shows : shown d ≡ m1.reads) where
      long_new : 8 ≤ length (overwritten (bytes_of side (shown d)) 0 header)
      long_new = omega (arith, length-append header (drop 8 (bytes_of side (shown d))))

      fronts : (blow : Blow) → CutBy blow d (wrote side 0 header d) call e → (fill : List ℕ) → front_on side (left_by e fill) ≡ front_left blow (2 + call) fill (front_on side old.reads)
      fronts Fails by fill = ⊎_elim failed_write failed_sync cut.first_or_second
        where
          failed_write : call ≡ 1 → front_on side (left_by e fill) ≡ front_left Fails (2 + call) fill (front_on side old.reads)
          failed_write one =
              let parts = by.0 one in
              let not_yet : nat_lt 3 (2 + call) ≡ false = grind (arith, nat_tests) in
              ap (front_on side) (left_clean e fill (ap (λ (x : SideState). x.unsynced) (parts.0 ∙ clean.0)) (ap (λ (x : SideState). x.unsynced) (parts.1 ∙ clean.1)) ∙ (λ i. record { a = (parts.0 i).seen; b = (parts.1 i).seen }) ∙ shows)
              ∙ shut.front
              ∙ (λ i. if sym not_yet i then header else front_on side old.reads)

          failed_sync : call ≡ 2 → front_on side (left_by e fill) ≡ front_left Fails (2 + call) fill (front_on side old.reads)
          failed_sync two =
              let parts = by.1 two in
              let done : nat_lt 3 (2 + call) ≡ true = grind (arith, nat_tests) in
              ap (front_on side) (left_clean e fill (λ i. (parts.0 i).unsynced) (λ i. (parts.1 i).unsynced) ∙ (λ i. record { a = (parts.0 i).seen; b = (parts.1 i).seen }) ∙ shown_wrote side 0 header d ∙ ap (put_on side 0 header) shows)
              ∙ ap (take 8) (put_this side 0 header m1.reads)
              ∙ headed_front (bytes_of side m1.reads)
              ∙ (λ i. if sym done i then header else front_on side old.reads)
      fronts Stops by fill =
          let late : nat_lt 2 (2 + call) ≡ true = ⊎_elim (λ one. grind (arith, nat_tests)) (λ two. grind (arith, nat_tests)) cut.first_or_second in
          stop_front side d e fill clean by.0 by.1 (subst (λ image. 8 ≤ length (bytes_of side image)) (sym shows) (omega (arith, shut.is.long))) long_new
          ∙ ap (λ (l : List ℕ). overwritten l 0 (take 8 fill)) (ap (front_on side) shows ∙ shut.front)
          ∙ (λ i. if sym late i then overwritten (front_on side old.reads) 0 (take 8 fill) else front_on side old.reads)

    late_lost : (call : ℕ) → IsCut side 0 header call m1 new → IsLostClearing side s old new
    late_lost call cut =
        let few : (1 ≤ call) × (call ≤ 2) = ⊎_elim (λ one. (omega (arith, one), omega (arith, one))) (λ two. (omega (arith, two), omega (arith, two))) cut.first_or_second in
        record {
          call = 2 + call;
          within = (omega arith, omega (arith, few.1));
          struck = struck_more old m1 new shut.unstruck (omega (arith, shut.time)) cut.struck;
          time = omega (arith, shut.time, cut.time);
          images = λ c left. torn_unrenewed c (cut.images c left);
          reads = cut.has.reads;
          told = λ d e is_old is_new.
              let armed : option_map (λ (x : DiskState). x.strike) m1.state ≡ Some d.strike = shut.unstruck.stays ∙ ap (option_map (λ (x : DiskState). x.strike)) is_old in
              let next = some_state m1.state d.strike armed in
              let clean : IsSynced next.0 = subst (λ x. IfSome x IsSynced) next.1 shut.rest.clean in
              let shows : shown next.0 ≡ m1.reads = subst (λ x. IfSome x (λ y. shown y ≡ m1.reads)) next.1 is_m1.shows in
              let told = cut.told next.0 next.1 in
              let same : told.0 ≡ e = same_state (sym told.1 ∙ is_new) in
              let fills : (fill : List ℕ) → new.may_leave (left_by e fill) = subst (λ x. IfSome x (λ (y : DiskState). (fill : List ℕ) → new.may_leave (left_by y fill))) is_new cut.has.fills in
              record {
                strike = told.2.strike;
                armed = sym next.2 ∙ told.2.armed;
                images = λ fill. torn_unrenewed (left_by e fill) (cut.images (left_by e fill) (fills fill));
                fronts = λ fill. subst (λ y. front_on side (left_by y fill) ≡ front_left told.2.strike.blow (2 + call) fill (front_on side old.reads)) same
                    (fronts call cut next.0 told.0 clean shows told.2.strike.blow told.2.left fill);
              };
        }
      where
        same_state : {x y : DiskState} → Some x ≡ Some y → x ≡ y
        same_state e = cc

    pub clears : {T : Type 0} (r : Result T DiskFault) → Puts side 0 header m1 new r → ClearsSide side s old new r
    clears (Ok x) put = record {
      is = sides_with side new.reads s (blank 2) (reads_newer (bytes_of side new.reads) [] (reads_as (bytes_of side new.reads) 9 [] (put_has side old m1 new shut put))).found (other_found side s old may new.reads (put_other_is side old m1 new shut put)) may.other;
      other = put_other_is side old m1 new shut put;
      rest = put.rest;
      time = omega (arith, shut.time, put.time);
      unstruck = unstruck_more old m1 new shut.unstruck put.unstruck;
    }
    clears (Err Failed) lost = late_lost lost.0 lost.1
    clears (Err NoMemory) kept = record {
      is = inr (shut_blank side s old may new.reads (subst (IsShut side old.reads) (sym kept.reads) shut.is));
      front = ap (front_on side) kept.reads ∙ shut.front;
      other = ap (bytes_of (opposite side)) kept.reads ∙ shut.is.other;
      rest = kept.rest;
      time = omega (arith, shut.time, kept.time);
      unstruck = unstruck_more old m1 new shut.unstruck kept.unstruck;
    }
