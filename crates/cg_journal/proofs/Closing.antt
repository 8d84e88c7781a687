-- The first gate of a side is closed.
use Rattle.std.proofs.Common.{◌≡◌, ◌≢◌, inl, inr, ⊎_elim, ◌⊎◌, ℕ, ◌+◌, ◌≤◌, ◌<◌, List, [], ◌∷◌, ◌++◌, length, get_or, take, drop, Option, Some, None, IfSome, Result, Ok, Err, refl, sym, ◌∙◌, ap, subst, arith, take-append-drop, length-append}
use Rattle.std.specs.Option.{option_map}
use Rattle.std.proofs.lemmas.List.{drop_more, append-nil}
use Rattle.std.proofs.lemmas.Bool.{cases_eq}
use Rattle.cg_disk.specs.Sides.{Image, bytes_of, opposite}
use Rattle.cg_disk.specs.Writes.{Torn, TornSide, overwritten}
use Rattle.cg_disk.specs.State.{DiskState, left_by}
use Rattle.cg_disk.specs.View.{DiskView}
use Rattle.cg_disk.specs.declared.disk.Side.{Side}
use Rattle.cg_disk.specs.declared.disk.DiskFault.{DiskFault}
use Rattle.cg_disk.specs.declared.disk.DiskFault.TheVariants.{Failed, NoMemory}
use Rattle.cg_codec.specs.Fields.{number32}
use Rattle.cg_journal.specs.Records.{header, spelled, HasRecords, records, bodies_of, emptied}
use Rattle.cg_journal.specs.Put.{IsPut, IsCut, Puts}
use Rattle.cg_journal.specs.Adds.{IsEither}
use Rattle.cg_journal.specs.Closes.{IsClosed, IsLostClosing, Closes}
use Rattle.cg_journal.proofs.Reading.{reads_as}
use Rattle.cg_journal.proofs.Both.{put_this, put_other, records_same, records_emptied}

-- what stands behind the header and a gate
pub closed_behind : (side rest : List ℕ) (gate : ℕ) → side ≡ header ++ gate ∷ rest → gate ≢ 1 → HasRecords side 9 []
closed_behind side rest gate is shut = record { gate = gate; rest = rest; spelled_out = is; closed = shut; short = tt; ends = refl }

-- the first gate of a side that has records is open
record BeginsOpen (side : List ℕ) : Type 0 where
  rest : List ℕ
  is : side ≡ header ++ 1 ∷ rest

begins_open : (side : List ℕ) (end : ℕ) (bodies : List (List ℕ)) → HasRecords side end bodies → 9 < end → BeginsOpen side
begins_open side end [] has some = absurd (omega (arith, has.ends))
begins_open side end (body ∷ bodies) has some = record { rest = number32 (length body) ++ body ++ spelled bodies ++ has.gate ∷ has.rest; is = has.spelled_out }

-- a side without records
pub nothing_on : (side : List ℕ) (end : ℕ) (bodies : List (List ℕ)) → HasRecords side end bodies → end ≡ 9 → HasRecords side 9 []
nothing_on side end [] has is = record { gate = has.gate; rest = has.rest; spelled_out = has.spelled_out; closed = has.closed; short = tt; ends = refl }
nothing_on side end (body ∷ bodies) has is = absurd (omega (arith, has.ends))

-- the first gate torn
gate_torn : (side c : List ℕ) → BeginsOpen side → Torn 8 1 side c → (c ≡ side) ⊎ HasRecords c 9 []
gate_torn side c begins torn =
    let inside : 8 < length c = omega (arith, torn.no_shorter, ap length begins.is, length-append header (1 ∷ begins.rest)) in
    let front : take 8 c ≡ header = torn.before ∙ ap (take 8) begins.is in
    let behind : drop 9 c ≡ begins.rest = torn.after ∙ ap (drop 9) begins.is in
    let whole : c ≡ header ++ get_or c 8 0 ∷ begins.rest =
    sym (take-append-drop 8 c) ∙ ap (λ (l : List ℕ). l ++ drop 8 c) front ∙ ap (λ (l : List ℕ). header ++ l) (drop_more c 8 0 inside ∙ ap (λ (l : List ℕ). get_or c 8 0 ∷ l) behind) in
    ⊎_elim
    (λ is_one. inl (whole ∙ ap (λ g. header ++ g ∷ begins.rest) is_one ∙ sym begins.is))
    (λ not_one. inr (closed_behind c begins.rest (get_or c 8 0) whole not_one))
    (cases_eq (get_or c 8 0) 1)

-- the first gate closed
gate_closed : (side : List ℕ) → BeginsOpen side → HasRecords (overwritten side 8 (0 ∷ [])) 9 []
gate_closed side begins = closed_behind (overwritten side 8 (0 ∷ [])) begins.rest 0 (ap (λ (l : List ℕ). take 8 l ++ (0 ∷ []) ++ drop 9 l) begins.is) (λ is_one. absurd (omega arith))

-- nothing torn, nothing written
pub nothing_torn : (side c : List ℕ) (offset : ℕ) → offset ≤ length side → Torn offset 0 side c → c ≡ side
nothing_torn side c offset inside torn =
    let same : drop offset c ≡ drop offset side = (let e : offset + 0 ≡ offset = omega arith in ap (λ n. drop n c) (sym e) ∙ torn.after ∙ ap (λ n. drop n side) e) in
    sym (take-append-drop offset c) ∙ (λ i. torn.before i ++ same i) ∙ take-append-drop offset side

pub nothing_written : (side : List ℕ) (offset : ℕ) → overwritten side offset [] ≡ side
nothing_written side offset = (let e : offset + 0 ≡ offset = omega arith in ap (λ n. take offset side ++ [] ++ drop n side) e) ∙ ap (λ (l : List ℕ). l ++ drop offset side) (append-nil (take offset side)) ∙ take-append-drop offset side

-- what is written is nothing where the gate is closed, or a closed gate
abbrev pub Closing : ℕ → List ℕ → Type 0
Closing end bytes = ((end ≡ 9) × (bytes ≡ [])) ⊎ ((9 < end) × (bytes ≡ 0 ∷ []))

module _ (side : Side) (end : ℕ) (bodies : List (List ℕ)) (bytes : List ℕ) (old : DiskView) (has : HasRecords (bytes_of side old.reads) end bodies) where
  read_old : bodies_of (bytes_of side old.reads) ≡ Some bodies
  read_old = reads_as (bytes_of side old.reads) end bodies has

  without : (c : Image) → bytes_of (opposite side) c ≡ bytes_of (opposite side) old.reads → HasRecords (bytes_of side c) 9 [] → records c ≡ option_map (emptied side) (records old.reads)
  without c other none = records_emptied side c old.reads bodies other (reads_as (bytes_of side c) 9 [] none) read_old

  pub close_either : Closing end bytes → 8 ≤ length (bytes_of side old.reads) → (c : Image) → TornSide side 8 (length bytes) old.reads c → IsEither (records old.reads) (option_map (emptied side) (records old.reads)) c
  close_either (inl (at, none)) inside c torn =
      let none_torn : Torn 8 0 (bytes_of side old.reads) (bytes_of side c) = subst (λ (l : List ℕ). Torn 8 (length l) (bytes_of side old.reads) (bytes_of side c)) none torn.torn in
      inl (records_same side c old.reads torn.other (ap bodies_of (nothing_torn (bytes_of side old.reads) (bytes_of side c) 8 inside none_torn)))
  close_either (inr (some, one)) inside c torn =
      let one_torn : Torn 8 1 (bytes_of side old.reads) (bytes_of side c) = subst (λ (l : List ℕ). Torn 8 (length l) (bytes_of side old.reads) (bytes_of side c)) one torn.torn in
      ⊎_elim
      (λ same. inl (records_same side c old.reads torn.other (ap bodies_of same)))
      (λ none. inr (without c torn.other none))
      (gate_torn (bytes_of side old.reads) (bytes_of side c) (begins_open (bytes_of side old.reads) end bodies has some) one_torn)

  written_closed : Closing end bytes → HasRecords (overwritten (bytes_of side old.reads) 8 bytes) 9 []
  written_closed (inl (at, none)) = subst (λ (l : List ℕ). HasRecords l 9 []) (sym (ap (overwritten (bytes_of side old.reads) 8) none ∙ nothing_written (bytes_of side old.reads) 8)) (nothing_on (bytes_of side old.reads) end bodies has at)
  written_closed (inr (some, one)) = subst (λ (l : List ℕ). HasRecords (overwritten (bytes_of side old.reads) 8 l) 9 []) (sym one) (gate_closed (bytes_of side old.reads) (begins_open (bytes_of side old.reads) end bodies has some))

  module _ (closing : Closing end bytes) (inside : 8 ≤ length (bytes_of side old.reads)) (new : DiskView) where
    is_closed : IsPut side 8 bytes old new → IsClosed side old new
    is_closed put = record {
      on = subst (λ (l : List ℕ). HasRecords l 9 []) (sym (ap (bytes_of side) put.reads ∙ put_this side 8 bytes old.reads)) (written_closed closing);
      other = ap (bytes_of (opposite side)) put.reads ∙ put_other side 8 bytes old.reads;
      rest = put.rest;
      time = put.time;
      unstruck = put.unstruck;
    }

    lost_closing : (call : ℕ) → IsCut side 8 bytes call old new → IsLostClosing call (records old.reads) (option_map (emptied side) (records old.reads)) old new
    lost_closing call cut = record {
      struck = cut.struck;
      time = cut.time;
      within = ⊎_elim (λ one. (omega arith, omega arith)) (λ two. (omega arith, omega arith)) cut.first_or_second;
      images = λ c left. close_either closing inside c (cut.images c left);
      reads = cut.has.reads;
      fills = filled new.state cut.has.fills;
    }
      where
        filled : (state : Option DiskState) → IfSome state (λ e. (fill : List ℕ) → new.may_leave (left_by e fill)) → IfSome state (λ e. (fill : List ℕ) → IsEither (records old.reads) (option_map (emptied side) (records old.reads)) (left_by e fill))
        filled None left = tt
        filled (Some e) left = λ fill. close_either closing inside (left_by e fill) (cut.images (left_by e fill) (left fill))

    pub closes : {T : Type 0} (r : Result T DiskFault) → Puts side 8 bytes old new r → Closes side old new r
    closes (Ok x) puts = is_closed puts
    closes (Err Failed) puts = (puts.0, lost_closing puts.0 puts.1)
    closes (Err NoMemory) puts = puts
