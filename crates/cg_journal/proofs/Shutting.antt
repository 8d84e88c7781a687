-- The first gate of a side of either format is closed.
use Rattle.std.proofs.Common.{◌≡◌, ◌≢◌, inl, inr, ⊎_elim, ℕ, ◌+◌, ◌≤◌, ◌<◌, Bool, true, false, List, [], ◌∷◌, ◌++◌, length, get_or, take, drop, Result, Ok, Err, refl, sym, ◌∙◌, ap, subst, arith, take-append-drop, length-append, length-drop}
use Rattle.std.proofs.lemmas.List.{drop_more, take_at, get_or-drop, get_or-take, length-take-le}
use Rattle.std.proofs.lemmas.Bool.{cases_eq}
use Rattle.std.proofs.lemmas.Bool.Decides.{nat_tests}
use Rattle.cg_disk.specs.Sides.{Image, bytes_of, opposite}
use Rattle.cg_disk.specs.Writes.{Torn, TornSide, overwritten}
use Rattle.cg_disk.specs.View.{DiskView, LeavesOnly}
use Rattle.cg_disk.specs.declared.disk.Side.{Side}
use Rattle.cg_disk.specs.declared.disk.Side.TheVariants.{A, B}
use Rattle.cg_disk.specs.declared.disk.DiskFault.{DiskFault}
use Rattle.cg_disk.specs.declared.disk.DiskFault.TheVariants.{Failed, NoMemory}
use Rattle.cg_journal.specs.Heads.{gate_is_open}
use Rattle.cg_journal.specs.Migrates.{IsShut, IsShutting, IsLostAs, IsShutBy, Shuts}
use Rattle.cg_journal.specs.Put.{IsPut, IsCut, Puts}
use Rattle.cg_journal.specs.ViewLaws.{weakened}
use Rattle.cg_journal.proofs.Both.{put_this, put_other}
use Rattle.cg_journal.proofs.Closing.{nothing_torn, nothing_written}

pub same_image : (side : Side) (c old : Image) → bytes_of side c ≡ bytes_of side old → bytes_of (opposite side) c ≡ bytes_of (opposite side) old → c ≡ old
same_image A c old this other = λ i. record { a = this i; b = other i }
same_image B c old this other = λ i. record { a = other i; b = this i }

-- ---- what a torn write makes of a side whose gate is closed

front_torn : (old new : List ℕ) → Torn 0 8 old new → get_or new 8 0 ≡ get_or old 8 0
front_torn old new torn = sym (get_or-drop 8 new 0 0) ∙ ap (λ (l : List ℕ). get_or l 0 0) torn.after ∙ get_or-drop 8 old 0 0

behind_torn : (n : ℕ) (old new : List ℕ) → Torn 9 n old new → get_or new 8 0 ≡ get_or old 8 0
behind_torn n old new torn =
    let inside : 8 < 9 = omega arith in
    sym (get_or-take 9 new 8 0 inside) ∙ ap (λ (l : List ℕ). get_or l 8 0) torn.before ∙ get_or-take 9 old 8 0 inside

pub shut_front : (side : Side) (base d c : Image) → IsShut side base d → TornSide side 0 8 d c → IsShut side base c
shut_front side base d c is torn = record {
  long = omega (arith, is.long, torn.torn.no_shorter);
  closed = λ is_one. is.closed (sym (front_torn (bytes_of side d) (bytes_of side c) torn.torn) ∙ is_one);
  other = torn.other ∙ is.other;
}

pub shut_behind : (side : Side) (n : ℕ) (base d c : Image) → IsShut side base d → TornSide side 9 n d c → IsShut side base c
shut_behind side n base d c is torn = record {
  long = omega (arith, is.long, torn.torn.no_shorter);
  closed = λ is_one. is.closed (sym (behind_torn n (bytes_of side d) (bytes_of side c) torn.torn) ∙ is_one);
  other = torn.other ∙ is.other;
}

-- ---- the gate

whole : (l : List ℕ) → 9 ≤ length l → l ≡ take 8 l ++ get_or l 8 0 ∷ drop 9 l
whole l long = sym (take-append-drop 8 l) ∙ ap (λ (x : List ℕ). take 8 l ++ x) (drop_more l 8 0 (omega (arith, long)))

open_is : (l : List ℕ) → true ≡ gate_is_open l → get_or l 8 0 ≡ 1
open_is l e = grind (arith, nat_tests)

closed_is : (l : List ℕ) → false ≡ gate_is_open l → get_or l 8 0 ≢ 1
closed_is l e = grind (arith, nat_tests)

take_written : (l w : List ℕ) → 9 ≤ length l → take 8 (overwritten l 8 w) ≡ take 8 l
take_written l w long =
    ap (take 8) (append3 (take 8 l) w (drop (8 + length w) l))
    ∙ take_at (take 8 l) (w ++ drop (8 + length w) l) 8 (length-take-le 8 l (omega (arith, long)))
  where
    append3 : (a b c : List ℕ) → a ++ b ++ c ≡ a ++ (b ++ c)
    append3 [] b c = refl
    append3 (x ∷ a) b c = ap (λ (t : List ℕ). x ∷ t) (append3 a b c)

-- what is written is a closed gate where it is open, or nothing
abbrev pub Shutting : Bool → List ℕ → Type 0
Shutting true w = w ≡ 0 ∷ []
Shutting false w = w ≡ []

module _ (side : Side) (old : DiskView) (long : 9 ≤ length (bytes_of side old.reads)) where
  this : List ℕ
  this = bytes_of side old.reads

  same_bytes : (c : List ℕ) → get_or (bytes_of side old.reads) 8 0 ≡ 1 → Torn 8 1 (bytes_of side old.reads) c → get_or c 8 0 ≡ 1 → c ≡ bytes_of side old.reads
  same_bytes c was torn is =
      let there : 9 ≤ length c = omega (arith, long, torn.no_shorter) in
      let gate : get_or c 8 0 ≡ get_or (bytes_of side old.reads) 8 0 = is ∙ sym was in
      whole c there
      ∙ (λ i. torn.before i ++ gate i ∷ torn.after i)
      ∙ sym (whole (bytes_of side old.reads) long)

  pub shut_torn : (is_open : Bool) (w : List ℕ) → is_open ≡ gate_is_open (bytes_of side old.reads) → Shutting is_open w → (c : Image) → TornSide side 8 (length w) old.reads c → IsShutting side old.reads c
  shut_torn true w gate is c torn =
      let cut : Torn 8 1 (bytes_of side old.reads) (bytes_of side c) = subst (λ (l : List ℕ). Torn 8 (length l) (bytes_of side old.reads) (bytes_of side c)) is torn.torn in
      record {
        either = ⊎_elim
            (λ is_one. inl (same_image side c old.reads (same_bytes (bytes_of side c) (open_is (bytes_of side old.reads) gate) cut is_one) torn.other))
            (λ not_one. inr (record { long = omega (arith, long, cut.no_shorter); closed = not_one; other = torn.other }))
            (cases_eq (get_or (bytes_of side c) 8 0) 1);
        front = cut.before;
      }
  shut_torn false w gate is c torn =
      let none : Torn 8 0 (bytes_of side old.reads) (bytes_of side c) = subst (λ (l : List ℕ). Torn 8 (length l) (bytes_of side old.reads) (bytes_of side c)) is torn.torn in
      let same : bytes_of side c ≡ bytes_of side old.reads = nothing_torn (bytes_of side old.reads) (bytes_of side c) 8 (omega (arith, long)) none in
      record { either = inl (same_image side c old.reads same torn.other); front = ap (take 8) same }

  -- the gate of what was written
  written_gate : (is_open : Bool) (w : List ℕ) → is_open ≡ gate_is_open (bytes_of side old.reads) → Shutting is_open w → get_or (overwritten (bytes_of side old.reads) 8 w) 8 0 ≢ 1
  written_gate true w gate is = λ is_one. absurd (let zero_there = sym (zero_gate (bytes_of side old.reads) long) ∙ ap (λ (l : List ℕ). get_or (overwritten (bytes_of side old.reads) 8 l) 8 0) (sym is) ∙ is_one in omega (arith, zero_there))
    where
      zero_gate : (l : List ℕ) → 9 ≤ length l → get_or (overwritten l 8 (0 ∷ [])) 8 0 ≡ 0
      zero_gate [] inside = absurd (omega arith)
      zero_gate (a ∷ []) inside = absurd (omega arith)
      zero_gate (a ∷ b ∷ []) inside = absurd (omega arith)
      zero_gate (a ∷ b ∷ c ∷ []) inside = absurd (omega arith)
      zero_gate (a ∷ b ∷ c ∷ d ∷ []) inside = absurd (omega arith)
      zero_gate (a ∷ b ∷ c ∷ d ∷ e ∷ []) inside = absurd (omega arith)
      zero_gate (a ∷ b ∷ c ∷ d ∷ e ∷ f ∷ []) inside = absurd (omega arith)
      zero_gate (a ∷ b ∷ c ∷ d ∷ e ∷ f ∷ g ∷ []) inside = absurd (omega arith)
      zero_gate (a ∷ b ∷ c ∷ d ∷ e ∷ f ∷ g ∷ h ∷ l) inside = refl
  written_gate false w gate is = λ is_one. closed_is (bytes_of side old.reads) gate (sym (ap (λ (l : List ℕ). get_or l 8 0) (ap (overwritten (bytes_of side old.reads) 8) is ∙ nothing_written (bytes_of side old.reads) 8)) ∙ is_one)

  written_long : (w : List ℕ) → 9 ≤ length (overwritten (bytes_of side old.reads) 8 w)
  written_long w = omega (arith, long, length-append (take 8 (bytes_of side old.reads) ++ w) (drop (8 + length w) (bytes_of side old.reads)), length-append (take 8 (bytes_of side old.reads)) w, length-take-le 8 (bytes_of side old.reads) (omega (arith, long)), length-drop (8 + length w) (bytes_of side old.reads))

  module _ (is_open : Bool) (w : List ℕ) (gate : is_open ≡ gate_is_open (bytes_of side old.reads)) (is : Shutting is_open w) (new : DiskView) where
    is_shut : IsPut side 8 w old new → IsShutBy side old new
    is_shut put =
        let here : bytes_of side new.reads ≡ overwritten (bytes_of side old.reads) 8 w = ap (bytes_of side) put.reads ∙ put_this side 8 w old.reads in
        record {
          is = record {
            long = subst (λ (l : List ℕ). 9 ≤ length l) (sym here) (written_long w);
            closed = subst (λ (l : List ℕ). get_or l 8 0 ≢ 1) (sym here) (written_gate is_open w gate is);
            other = ap (bytes_of (opposite side)) put.reads ∙ put_other side 8 w old.reads;
          };
          front = ap (take 8) here ∙ take_written (bytes_of side old.reads) w long;
          rest = put.rest;
          time = put.time;
          unstruck = put.unstruck;
        }

    lost : (call : ℕ) → IsCut side 8 w call old new → IsLostAs 2 (IsShutting side old.reads) call old new
    lost call cut = record {
      struck = cut.struck;
      time = cut.time;
      within = ⊎_elim (λ one. (omega arith, omega arith)) (λ two. (omega arith, omega arith)) cut.first_or_second;
      images = λ c left. shut_torn is_open w gate is c (cut.images c left);
      has = cut.has;
    }

    pub shuts : {T : Type 0} (r : Result T DiskFault) → Puts side 8 w old new r → Shuts side old new r
    shuts (Ok x) puts = is_shut puts
    shuts (Err Failed) puts = (puts.0, lost puts.0 puts.1)
    shuts (Err NoMemory) puts = record { is = puts.reads; rest = puts.rest; time = omega (arith, puts.time); unstruck = puts.unstruck }

    pub shut_moments : LeavesOnly old new (TornSide side 8 (length w) old.reads) → LeavesOnly old new (IsShutting side old.reads)
    shut_moments run = weakened old new (TornSide side 8 (length w) old.reads) (IsShutting side old.reads) run (shut_torn is_open w gate is)
