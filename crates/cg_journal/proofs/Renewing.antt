-- A side that goes over to the newer format with one record.
use Rattle.std.proofs.Common.{◌≡◌, ◌≢◌, inl, inr, ⊎_elim, ℕ, ◌+◌, ◌-◌, ◌^◌, ◌≤◌, ◌<◌, Bool, true, false, List, [], ◌∷◌, ◌++◌, length, get_or, take, drop, Some, IfSome, Result, Ok, Err, OnOk, refl, sym, ◌∙◌, ap, subst, arith, length-append, length-drop}
use Rattle.std.specs.Option.{option_map}
use Rattle.std.proofs.lemmas.List.{drop_more, length-take-le}
use Rattle.std.proofs.lemmas.Bool.{cases_eq}
use Rattle.std.proofs.lemmas.Bool.Decides.{nat_tests}
use Rattle.cg_base.specs.Choice.{Either}
use Rattle.cg_disk.specs.Sides.{Image, bytes_of, opposite}
use Rattle.cg_disk.specs.Writes.{Torn, TornSide, overwritten}
use Rattle.cg_disk.specs.State.{SideState, DiskState, Blow, Fails, Stops, left_by, shown, wrote}
use Rattle.cg_disk.specs.View.{DiskView, IsView, IsAtRest, IsSynced}
use Rattle.cg_disk.specs.declared.disk.Side.{Side}
use Rattle.cg_disk.specs.declared.disk.DiskFault.{DiskFault}
use Rattle.cg_disk.specs.declared.disk.DiskFault.TheVariants.{Failed, NoMemory}
use Rattle.cg_journal.specs.Records.{header, HasRecords, framed}
use Rattle.cg_journal.specs.Strikes.{IsUnstruck}
use Rattle.cg_journal.specs.Put.{put_on, IsCut, CutBy, Puts}
use Rattle.cg_journal.specs.Adds.{gate_stands}
use Rattle.cg_journal.specs.Found.{version_of, found_on, blank, Sides, sides, found_at}
use Rattle.cg_journal.specs.FoundLaws.{as_newer, reads_newer, sides_on, sides_with, shut_found}
use Rattle.cg_journal.specs.Renews.{MayGo, IsBlank, IsUnrenewed, IsRenewed, IsRenewing, IsLostRenewal}
use Rattle.cg_journal.specs.Migrates.{IsShut, IsShutting, IsLostAs, IsShutBy, Shuts, IsHeadedBy, Heads, IsRenewedAt, RenewsSide}
use Rattle.cg_journal.specs.ViewLaws.{some_state, struck_more, unstruck_more}
use Rattle.cg_journal.proofs.Adding.{torn_open, torn_shut, gate_written, length-framed}
use Rattle.cg_journal.proofs.AddSteps.{gate_early, shown_wrote, stop_gate}
use Rattle.cg_journal.proofs.Both.{put_this, put_other}
use Rattle.cg_journal.proofs.Closing.{closed_behind}
use Rattle.cg_journal.proofs.Fills.{left_clean, first_or}
use Rattle.cg_journal.proofs.Reading.{reads_as}

-- ---- what a closed gate leaves of what is found

module _ (side : Side) (s : Sides) (old : DiskView) (may : MayGo side s old) where
  -- the other side is as it was found
  pub other_found : (c : Image) → bytes_of (opposite side) c ≡ bytes_of (opposite side) old.reads → found_on (bytes_of (opposite side) c) ≡ Some (found_at (opposite side) s)
  other_found c other = ap found_on other ∙ sides_on (opposite side) old.reads s may.found

  pub shut_blank : (c : Image) → IsShut side old.reads c → IsBlank side s c
  shut_blank c is = record {
    version = version_of (take 8 (bytes_of side c));
    is = sides_with side c s (blank (version_of (take 8 (bytes_of side c)))) (shut_found (bytes_of side c) is.long is.closed) (other_found c is.other) may.other;
  }

  pub shutting_unrenewed : (c : Image) → IsShutting side old.reads c → IsUnrenewed side s c
  shutting_unrenewed c is = ⊎_elim (λ same. inl (ap sides same ∙ may.found)) (λ shut. inr (shut_blank c shut)) is.either

  -- one of the first five calls is struck
  pub lost_early : (body : List ℕ) (calls call : ℕ) (P : Image → Type 0) (new : DiskView) → ((c : Image) → P c → IsUnrenewed side s c) → calls ≤ 5 → IsLostAs calls P call old new → IsLostRenewal side body s old new
  lost_early body calls call P new weaker few lost = record {
    call = call;
    within = (lost.within.0, omega (arith, lost.within.1, few));
    struck = lost.struck;
    time = lost.time;
    images = λ c left. inl (weaker c (lost.images c left));
    early = λ _ c left. weaker c (lost.images c left);
    reads = lost.has.reads;
    told = λ d e is_old is_new.
        let strike = lost.struck.reached d is_old in
        let fills : (fill : List ℕ) → new.may_leave (left_by e fill) = subst (λ x. IfSome x (λ (y : DiskState). (fill : List ℕ) → new.may_leave (left_by y fill))) is_new lost.has.fills in
        record {
          strike = strike.0;
          armed = strike.1;
          fills = λ fill. unless_stands (IsRenewed side body s (left_by e fill)) (IsUnrenewed side s (left_by e fill)) (gate_stands strike.0.blow (call - 3) fill) (gate_early strike.0.blow (call - 3) fill (omega (arith, lost.within.1, few))) (weaker (left_by e fill) (lost.images (left_by e fill) (fills fill)));
        };
  }
    where
      unless_stands : (A B : Type 0) (b : Bool) → b ≡ false → B → Either b A B
      unless_stands A B true e y = cc
      unless_stands A B false e y = y

-- the same calls behind others
pub lost_behind : (earlier calls call : ℕ) (P : Image → Type 0) (old mid new : DiskView) → IsUnstruck old mid → mid.time ≡ old.time + earlier → IsLostAs calls P call mid new → IsLostAs (earlier + calls) P (earlier + call) old new
lost_behind earlier calls call P old mid new first time lost = record {
  struck = struck_more old mid new first (omega (arith, time)) lost.struck;
  time = omega (arith, time, lost.time);
  within = (omega (arith, lost.within.0), omega (arith, lost.within.1));
  images = lost.images;
  has = lost.has;
}

-- a side with a closed gate behind the header
pub headed_base : (side : List ℕ) → 9 ≤ length side → get_or side 8 0 ≢ 1 → HasRecords (overwritten side 0 header) 9 []
headed_base side long shut = closed_behind (overwritten side 0 header) (drop 9 side) (get_or side 8 0) (ap (λ (l : List ℕ). header ++ l) (drop_more side 8 0 (omega (arith, long)))) shut

-- ---- the gate of the record

written_has : (side : Side) (body : List ℕ) → length body < 2 ^ 32 → (base : List ℕ) → HasRecords base 9 [] → (mid : DiskView) → bytes_of side mid.reads ≡ overwritten base 9 (framed body) → (c : Image) → c ≡ put_on side 8 (1 ∷ []) mid.reads → HasRecords (bytes_of side c) (14 + length body) (body ∷ [])
written_has side body body_short base has mid here c is =
    let this : bytes_of side c ≡ overwritten (overwritten base 9 (framed body)) 8 (1 ∷ []) = ap (bytes_of side) is ∙ put_this side 8 (1 ∷ []) mid.reads ∙ ap (λ (l : List ℕ). overwritten l 8 (1 ∷ [])) here in
    subst (λ (l : List ℕ). HasRecords l (14 + length body) (body ∷ [])) (sym this) (gate_written base 9 [] has body body_short)

module _ (side : Side) (body : List ℕ) (body_short : length body < 2 ^ 32) (s : Sides) (base : List ℕ) (has : HasRecords base 9 []) (mid : DiskView)
    (here : bytes_of side mid.reads ≡ overwritten base 9 (framed body)) (other : found_on (bytes_of (opposite side) mid.reads) ≡ Some (found_at (opposite side) s)) (some : (found_at (opposite side) s).version ≢ 0) where
  side_record : (c : Image) → HasRecords (bytes_of side c) (14 + length body) (body ∷ []) → bytes_of (opposite side) c ≡ bytes_of (opposite side) mid.reads → IsRenewed side body s c
  side_record c on same = sides_with side c s (as_newer (body ∷ [])) (reads_newer (bytes_of side c) (body ∷ []) (reads_as (bytes_of side c) (14 + length body) (body ∷ []) on)).found (ap found_on same ∙ other) some

  side_none : (c : Image) → HasRecords (bytes_of side c) 9 [] → bytes_of (opposite side) c ≡ bytes_of (opposite side) mid.reads → IsBlank side s c
  side_none c on same = record { version = 2; is = sides_with side c s (blank 2) (reads_newer (bytes_of side c) [] (reads_as (bytes_of side c) 9 [] on)).found (ap found_on same ∙ other) some }

  staged : (c : Image) → TornSide side 8 1 mid.reads c → Torn 8 1 (overwritten base 9 (framed body)) (bytes_of side c)
  staged c torn = subst (λ (l : List ℕ). Torn 8 1 l (bytes_of side c)) here torn.torn

  opened : (c : Image) → TornSide side 8 1 mid.reads c → get_or (bytes_of side c) 8 0 ≡ 1 → IsRenewed side body s c
  opened c torn is_one = side_record c (torn_open base 9 [] has body body_short (bytes_of side c) (staged c torn) is_one) torn.other

  closed : (c : Image) → TornSide side 8 1 mid.reads c → get_or (bytes_of side c) 8 0 ≢ 1 → IsUnrenewed side s c
  closed c torn not_one = inr (side_none c (torn_shut base 9 [] has body body_short (bytes_of side c) (staged c torn) not_one) torn.other)

  pub renewing : (c : Image) → TornSide side 8 1 mid.reads c → IsRenewing side body s c
  renewing c torn = ⊎_elim (λ is_one. inr (opened c torn is_one)) (λ not_one. inl (closed c torn not_one)) (cases_eq (get_or (bytes_of side c) 8 0) 1)

  -- the gate is written
  pub written_renewed : (c : Image) → c ≡ put_on side 8 (1 ∷ []) mid.reads → IsRenewed side body s c
  written_renewed c is = side_record c (written_has side body body_short base has mid here c is) (ap (bytes_of (opposite side)) is ∙ put_other side 8 (1 ∷ []) mid.reads)

  module _ (shut : get_or (bytes_of side mid.reads) 8 0 ≢ 1) (long : 9 ≤ length (bytes_of side mid.reads)) (new : DiskView) where
    -- the gate's write or its sync is struck, on a disk that tells its state
    module _ (call : ℕ) (cut : IsCut side 8 (1 ∷ []) call mid new) (d e : DiskState) (clean : IsSynced d) (shows : shown d ≡ mid.reads) (left : (fill : List ℕ) → new.may_leave (left_by e fill)) where
      abbrev Outcome : Bool → List ℕ → Type 0
      Outcome b fill = Either b (IsRenewed side body s (left_by e fill)) (IsUnrenewed side s (left_by e fill))

      torn : (fill : List ℕ) → TornSide side 8 1 mid.reads (left_by e fill)
      torn fill = cut.images (left_by e fill) (left fill)

      stands : (b : Bool) (fill : List ℕ) → b ≡ true → IsRenewed side body s (left_by e fill) → Outcome b fill
      stands true fill is done = done
      stands false fill is done = cc

      falls : (b : Bool) (fill : List ℕ) → b ≡ false → IsUnrenewed side s (left_by e fill) → Outcome b fill
      falls true fill is none = cc
      falls false fill is none = none

      failed_write : call ≡ 1 → CutBy Fails d (wrote side 8 (1 ∷ []) d) call e → (fill : List ℕ) → Outcome (gate_stands Fails (2 + call) fill) fill
      failed_write one by fill =
          let sides = by.0 one in
          let same : left_by e fill ≡ mid.reads = left_clean e fill (ap (λ (x : SideState). x.unsynced) (sides.0 ∙ clean.0)) (ap (λ (x : SideState). x.unsynced) (sides.1 ∙ clean.1)) ∙ (λ i. record { a = (sides.0 i).seen; b = (sides.1 i).seen }) ∙ shows in
          falls (gate_stands Fails (2 + call) fill) fill (grind (arith, nat_tests)) (closed (left_by e fill) (torn fill) (λ is_one. shut (ap (λ (c : Image). get_or (bytes_of side c) 8 0) (sym same) ∙ is_one)))

      failed_sync : call ≡ 2 → CutBy Fails d (wrote side 8 (1 ∷ []) d) call e → (fill : List ℕ) → Outcome (gate_stands Fails (2 + call) fill) fill
      failed_sync two by fill =
          let sides = by.1 two in
          let same : left_by e fill ≡ put_on side 8 (1 ∷ []) mid.reads = left_clean e fill (λ i. (sides.0 i).unsynced) (λ i. (sides.1 i).unsynced) ∙ (λ i. record { a = (sides.0 i).seen; b = (sides.1 i).seen }) ∙ shown_wrote side 8 (1 ∷ []) d ∙ ap (put_on side 8 (1 ∷ [])) shows in
          stands (gate_stands Fails (2 + call) fill) fill (grind (arith, nat_tests)) (written_renewed (left_by e fill) same)

      late : 2 < 2 + call
      late = ⊎_elim (λ one. omega (arith, one)) (λ two. omega (arith, two)) cut.first_or_second

      gate_left : CutBy Stops d (wrote side 8 (1 ∷ []) d) call e → (fill : List ℕ) → get_or (bytes_of side (left_by e fill)) 8 0 ≡ first_or fill (get_or (bytes_of side mid.reads) 8 0)
      gate_left by fill =
          stop_gate side 8 d e fill clean by.0 by.1 (subst (λ image. 8 < length (bytes_of side image)) (sym shows) (omega (arith, long)))
          ∙ ap (λ image. first_or fill (get_or (bytes_of side image) 8 0)) shows

      stopped : CutBy Stops d (wrote side 8 (1 ∷ []) d) call e → (fill : List ℕ) → Outcome (gate_stands Stops (2 + call) fill) fill
      stopped by [] = falls (gate_stands Stops (2 + call) []) [] (grind (arith, nat_tests)) (closed (left_by e []) (torn []) (λ is_one. shut (sym (gate_left by []) ∙ is_one)))
      stopped by (byte ∷ fill) =
          let after : 2 < 2 + call = late in
          ⊎_elim
          (λ is_one. stands (gate_stands Stops (2 + call) (byte ∷ fill)) (byte ∷ fill) (grind (arith, nat_tests)) (opened (left_by e (byte ∷ fill)) (torn (byte ∷ fill)) (gate_left by (byte ∷ fill) ∙ is_one)))
          (λ not_one. falls (gate_stands Stops (2 + call) (byte ∷ fill)) (byte ∷ fill) (grind (arith, nat_tests)) (closed (left_by e (byte ∷ fill)) (torn (byte ∷ fill)) (λ is_one. not_one (sym (gate_left by (byte ∷ fill)) ∙ is_one))))
          (cases_eq byte 1)

      told_fills : (blow : Blow) → CutBy blow d (wrote side 8 (1 ∷ []) d) call e → (fill : List ℕ) → Outcome (gate_stands blow (2 + call) fill) fill
      told_fills Fails by fill = ⊎_elim (λ one. failed_write one by fill) (λ two. failed_sync two by fill) cut.first_or_second
      told_fills Stops by fill = stopped by fill

    -- behind five calls that weren't struck
    module _ (old : DiskView) (unstruck : IsUnstruck old mid) (time : mid.time ≡ old.time + 5) (rest : IsAtRest mid) (is_mid : IsView mid) where
      pub gate_lost : (call : ℕ) → IsCut side 8 (1 ∷ []) call mid new → IsLostRenewal side body s old new
      gate_lost call cut =
          let few : (1 ≤ call) × (call ≤ 2) = ⊎_elim (λ one. (omega (arith, one), omega (arith, one))) (λ two. (omega (arith, two), omega (arith, two))) cut.first_or_second in
          record {
            call = 5 + call;
            within = (omega arith, omega (arith, few.1));
            struck = struck_more old mid new unstruck (omega (arith, time)) cut.struck;
            time = omega (arith, time, cut.time);
            images = λ c left. renewing c (cut.images c left);
            early = λ early. absurd (omega (arith, early, few.0));
            reads = cut.has.reads;
            told = λ d e is_old is_new.
                let armed : option_map (λ (x : DiskState). x.strike) mid.state ≡ Some d.strike = unstruck.stays ∙ ap (option_map (λ (x : DiskState). x.strike)) is_old in
                let next = some_state mid.state d.strike armed in
                let clean : IsSynced next.0 = subst (λ x. IfSome x IsSynced) next.1 rest.clean in
                let shows : shown next.0 ≡ mid.reads = subst (λ x. IfSome x (λ y. shown y ≡ mid.reads)) next.1 is_mid.shows in
                let told = cut.told next.0 next.1 in
                let same : told.0 ≡ e = same_state (sym told.1 ∙ is_new) in
                let fills : (fill : List ℕ) → new.may_leave (left_by told.0 fill) = subst (λ x. IfSome x (λ (y : DiskState). (fill : List ℕ) → new.may_leave (left_by y fill))) told.1 cut.has.fills in
                let before_gate : 2 + call ≡ 5 + call - 3 = omega arith in
                record {
                  strike = told.2.strike;
                  armed = sym next.2 ∙ told.2.armed;
                  fills = λ fill. subst (λ y. Either (gate_stands told.2.strike.blow (5 + call - 3) fill) (IsRenewed side body s (left_by y fill)) (IsUnrenewed side s (left_by y fill))) same
                      (subst (λ n. Either (gate_stands told.2.strike.blow n fill) (IsRenewed side body s (left_by told.0 fill)) (IsUnrenewed side s (left_by told.0 fill))) before_gate
                      (told_fills call cut next.0 told.0 clean shows fills told.2.strike.blow told.2.left fill));
                };
          }
        where
          same_state : {x y : DiskState} → Some x ≡ Some y → x ≡ y
          same_state e = cc

-- ---- all seven calls

headed_gate : (side bytes : List ℕ) → 9 ≤ length side → get_or (overwritten (overwritten side 0 header) 9 bytes) 8 0 ≡ get_or side 8 0
headed_gate [] bytes long = absurd (omega arith)
headed_gate (a ∷ []) bytes long = absurd (omega arith)
headed_gate (a ∷ b ∷ []) bytes long = absurd (omega arith)
headed_gate (a ∷ b ∷ c ∷ []) bytes long = absurd (omega arith)
headed_gate (a ∷ b ∷ c ∷ d ∷ []) bytes long = absurd (omega arith)
headed_gate (a ∷ b ∷ c ∷ d ∷ e ∷ []) bytes long = absurd (omega arith)
headed_gate (a ∷ b ∷ c ∷ d ∷ e ∷ f ∷ []) bytes long = absurd (omega arith)
headed_gate (a ∷ b ∷ c ∷ d ∷ e ∷ f ∷ g ∷ []) bytes long = absurd (omega arith)
headed_gate (a ∷ b ∷ c ∷ d ∷ e ∷ f ∷ g ∷ h ∷ []) bytes long = absurd (omega arith)
headed_gate (a ∷ b ∷ c ∷ d ∷ e ∷ f ∷ g ∷ h ∷ x ∷ l) bytes long = refl

headed_long : (side bytes : List ℕ) → 9 ≤ length side → 9 ≤ length (overwritten (overwritten side 0 header) 9 bytes)
headed_long side bytes long =
    let front : length (overwritten side 0 header) ≡ length side = omega (arith, long, length-append header (drop 8 side), length-drop 8 side) in
    omega (arith, long, front, length-append (take 9 (overwritten side 0 header) ++ bytes) (drop (9 + length bytes) (overwritten side 0 header)), length-append (take 9 (overwritten side 0 header)) bytes, length-take-le 9 (overwritten side 0 header) (omega (arith, long, front)))

-- what stands on the side, whatever stands on the other one
pub renewed_at : {T : Type 0} (side : Side) (body : List ℕ) → length body < 2 ^ 32 → (old m1 m2 new : DiskView) → IsShutBy side old m1 → IsHeadedBy side (framed body) m1 m2 → (r : Result T DiskFault) → Puts side 8 (1 ∷ []) m2 new r → OnOk r (IsRenewedAt side body old new)
renewed_at side body short old m1 m2 new shut headed (Ok x) put = record {
  on = written_has side body short (overwritten (bytes_of side m1.reads) 0 header) (headed_base (bytes_of side m1.reads) shut.is.long shut.is.closed) m2 headed.this new.reads put.reads;
  short = omega (arith, headed.short, length-framed body);
  other = ap (bytes_of (opposite side)) put.reads ∙ put_other side 8 (1 ∷ []) m2.reads ∙ headed.other ∙ shut.is.other;
  rest = put.rest;
}
renewed_at side body short old m1 m2 new shut headed (Err fault) put = tt

module _ (side : Side) (body : List ℕ) (body_short : length body < 2 ^ 32) (s : Sides) (old m1 : DiskView) (may : MayGo side s old) where
  pub shut_failed : (T : Type 0) (fault : DiskFault) → Shuts {T = T} side old m1 (Err fault) → RenewsSide {T = T} side body s old m1 (Err fault)
  shut_failed T Failed lost = lost_early side s old may body 2 lost.0 (IsShutting side old.reads) m1 (shutting_unrenewed side s old may) (omega arith) lost.1
  shut_failed T NoMemory refused = record {
    is = inl (ap sides refused.is ∙ may.found);
    other = ap (bytes_of (opposite side)) refused.is;
    rest = refused.rest;
    time = omega (arith, refused.time);
    unstruck = refused.unstruck;
  }

  module _ (shut : IsShutBy side old m1) where
    -- an image with the gate closed behind the closing
    again : (c : Image) → IsShut side m1.reads c → IsShut side old.reads c
    again c is = record { long = is.long; closed = is.closed; other = is.other ∙ shut.is.other }

    pub shut_unrenewed : (c : Image) → IsShut side m1.reads c → IsUnrenewed side s c
    shut_unrenewed c is = inr (shut_blank side s old may c (again c is))

    pub head_failed : (T : Type 0) (m2 : DiskView) (bytes : List ℕ) (fault : DiskFault) → Heads {T = T} side bytes m1 m2 (Err fault) → RenewsSide {T = T} side body s old m2 (Err fault)
    head_failed T m2 bytes Failed lost =
        lost_early side s old may body 5 (2 + lost.0) (IsShut side m1.reads) m2 shut_unrenewed (omega arith)
        (lost_behind 2 3 lost.0 (IsShut side m1.reads) old m1 m2 shut.unstruck shut.time lost.1)
    head_failed T m2 bytes NoMemory refused = record {
      is = shut_unrenewed m2.reads refused.is;
      other = refused.is.other ∙ shut.is.other;
      rest = refused.rest;
      time = omega (arith, shut.time, refused.time);
      unstruck = unstruck_more old m1 m2 shut.unstruck refused.unstruck;
    }

    module _ (m2 : DiskView) (headed : IsHeadedBy side (framed body) m1 m2) (is_m2 : IsView m2) where
      base : List ℕ
      base = overwritten (bytes_of side m1.reads) 0 header

      base_has : HasRecords (overwritten (bytes_of side m1.reads) 0 header) 9 []
      base_has = headed_base (bytes_of side m1.reads) shut.is.long shut.is.closed

      other_is : bytes_of (opposite side) m2.reads ≡ bytes_of (opposite side) old.reads
      other_is = headed.other ∙ shut.is.other

      other_on : found_on (bytes_of (opposite side) m2.reads) ≡ Some (found_at (opposite side) s)
      other_on = other_found side s old may m2.reads other_is

      m2_gate : get_or (bytes_of side m2.reads) 8 0 ≢ 1
      m2_gate is_one = shut.is.closed (sym (ap (λ (l : List ℕ). get_or l 8 0) headed.this ∙ headed_gate (bytes_of side m1.reads) (framed body) shut.is.long) ∙ is_one)

      m2_long : 9 ≤ length (bytes_of side m2.reads)
      m2_long = subst (λ (l : List ℕ). 9 ≤ length l) (sym headed.this) (headed_long (bytes_of side m1.reads) (framed body) shut.is.long)

      m2_shut : IsShut side old.reads m2.reads
      m2_shut = record { long = m2_long; closed = m2_gate; other = other_is }

      unstruck2 : IsUnstruck old m2
      unstruck2 = unstruck_more old m1 m2 shut.unstruck headed.unstruck

      pub gate_renewing : (c : Image) → TornSide side 8 1 m2.reads c → IsRenewing side body s c
      gate_renewing = renewing side body body_short s (overwritten (bytes_of side m1.reads) 0 header) base_has m2 headed.this other_on may.other

      pub renews : {T : Type 0} (new : DiskView) (r : Result T DiskFault) → Puts side 8 (1 ∷ []) m2 new r → RenewsSide side body s old new r
      renews new (Ok x) put = record {
        is = written_renewed side body body_short s (overwritten (bytes_of side m1.reads) 0 header) base_has m2 headed.this other_on may.other new.reads put.reads;
        other = ap (bytes_of (opposite side)) put.reads ∙ put_other side 8 (1 ∷ []) m2.reads ∙ other_is;
        rest = put.rest;
        time = omega (arith, shut.time, headed.time, put.time);
        unstruck = unstruck_more old m2 new unstruck2 put.unstruck;
      }
      renews new (Err Failed) lost =
          gate_lost side body body_short s (overwritten (bytes_of side m1.reads) 0 header) base_has m2 headed.this other_on may.other m2_gate m2_long new
          old unstruck2 (omega (arith, shut.time, headed.time)) headed.rest is_m2 lost.0 lost.1
      renews new (Err NoMemory) kept = record {
        is = inr (shut_blank side s old may new.reads (subst (IsShut side old.reads) (sym kept.reads) m2_shut));
        other = ap (bytes_of (opposite side)) kept.reads ∙ other_is;
        rest = kept.rest;
        time = omega (arith, shut.time, headed.time, kept.time);
        unstruck = unstruck_more old m2 new unstruck2 kept.unstruck;
      }
