-- What a journal of sides of either format keeps of its disk.
use Rattle.std.proofs.Common.{◌≡◌, ℕ, ◌+◌, ◌≤◌, true, false, List, [], ◌∷◌, ◌++◌, length, sym, ◌∙◌, ap, subst, arith, length-append, lit<}
use Rattle.std.proofs.lemmas.Bool.Decides.{nat_tests}
use Rattle.cg_disk.specs.Sides.{Image, bytes_of, opposite}
use Rattle.cg_disk.specs.View.{DiskView}
use Rattle.cg_disk.specs.declared.disk.Side.{Side}
use Rattle.cg_disk.specs.declared.disk.Side.TheVariants.{A, B}
use Rattle.cg_journal.specs.Answers.{CanBeRead}
use Rattle.cg_journal.specs.FoundLaws.{front_newer}
use Rattle.cg_journal.specs.Heads.{head_on, with_head, gate_is_open, IsHead, IsMixedJournal}
use Rattle.cg_journal.specs.Held.{end_on, EndsAt, IsJournal}
use Rattle.cg_journal.specs.Migrates.{IsRenewedAt, IsClearedAt}
use Rattle.cg_journal.specs.Records.{header, spelled, HasRecords}
use Rattle.cg_journal.specs.declared.heads.Head.{Head}
use Rattle.cg_journal.specs.declared.heads.Heads.{Heads}

-- the journal, where both sides are of the newer format
pub journal_held : (d : DiskView) (heads : Heads) → IsMixedJournal d heads → CanBeRead d → IsJournal d (record { a = heads.a.end; b = heads.b.end })
journal_held d heads mixed can = record { on = on; rest = mixed.rest }
  where
    on : (side : Side) → EndsAt (bytes_of side d.reads) (end_on side (record { a = heads.a.end; b = heads.b.end }))
    on A = (mixed.on A).ends (front_newer A d.reads can.all can.read)
    on B = (mixed.on B).ends (front_newer B d.reads can.all can.read)

-- the heads behind a change of one side
after : (side t : Side) (new old : Image) (head : Head) (heads : Heads) → IsHead (bytes_of side new) head → bytes_of (opposite side) new ≡ bytes_of (opposite side) old → ((u : Side) → IsHead (bytes_of u old) (head_on u heads)) → IsHead (bytes_of t new) (head_on t (with_head side head heads))
after A A new old head heads here other were = here
after A B new old head heads here other were = subst (λ (l : List ℕ). IsHead l heads.b) (sym other) (were B)
after B A new old head heads here other were = subst (λ (l : List ℕ). IsHead l heads.a) (sym other) (were A)
after B B new old head heads here other were = here

-- the gate of a side with records
gate_open : (side : List ℕ) (end : ℕ) (body : List ℕ) (bodies : List (List ℕ)) → HasRecords side end (body ∷ bodies) → true ≡ gate_is_open side
gate_open side end body bodies has = ap gate_is_open (sym has.spelled_out)

gate_closed : (side : List ℕ) (end : ℕ) → HasRecords side end [] → false ≡ gate_is_open side
gate_closed side end has = shut ∙ ap gate_is_open (sym has.spelled_out)
  where
    shut : false ≡ gate_is_open (header ++ has.gate ∷ has.rest)
    shut = (let closed = has.closed in grind (arith, nat_tests))

long : (side : List ℕ) (end : ℕ) (bodies : List (List ℕ)) → HasRecords side end bodies → 9 ≤ length side
long side end bodies has = omega (arith, ap length has.spelled_out, length-append header (spelled bodies ++ has.gate ∷ has.rest), length-append (spelled bodies) (has.gate ∷ has.rest))

pub renewed_held : (side : Side) (body : List ℕ) (n : ℕ) (old new : DiskView) (heads : Heads) → IsMixedJournal old heads → IsRenewedAt side body old new → n ≡ 14 + length body → IsMixedJournal new (with_head side (record { is_open = true; end = n }) heads)
renewed_held side body n old new heads mixed is same = record {
  on = λ t. after side t new.reads old.reads (record { is_open = true; end = n }) heads
      (record {
        long = long (bytes_of side new.reads) (14 + length body) (body ∷ []) is.on;
        gate = gate_open (bytes_of side new.reads) (14 + length body) body [] is.on;
        ends = λ front. subst (EndsAt (bytes_of side new.reads)) (sym same) (record { bodies = body ∷ []; has = is.on; short = is.short });
      }) is.other mixed.on;
  rest = is.rest;
}

pub cleared_held : (side : Side) (old new : DiskView) (heads : Heads) → IsMixedJournal old heads → IsClearedAt side old new → IsMixedJournal new (with_head side (record { is_open = false; end = 9 }) heads)
cleared_held side old new heads mixed is = record {
  on = λ t. after side t new.reads old.reads (record { is_open = false; end = 9 }) heads
      (record {
        long = long (bytes_of side new.reads) 9 [] is.on;
        gate = gate_closed (bytes_of side new.reads) 9 is.on;
        ends = λ front. record { bodies = []; has = is.on; short = lit< tt };
      }) is.other mixed.on;
  rest = is.rest;
}
