-- What the calls of the journal make of what the disk stands for.
use Rattle.std.proofs.Common.{◌≡◌, inl, inr, ⊎_elim, ℕ, List, Bool, true, false, Option, Some, IfSome, refl, sym, ◌∙◌, ap, subst, arith}
use Rattle.std.specs.Prelude.{if◌then◌else◌}
use Rattle.cg_disk.specs.Sides.{Image}
use Rattle.cg_disk.specs.State.{left_by}
use Rattle.cg_disk.specs.View.{DiskView, IsAtRest}
use Rattle.cg_disk.specs.declared.disk.Side.{Side}
use Rattle.cg_journal.specs.Records.{Records, records}
use Rattle.cg_journal.specs.Adds.{IsLostIn, IsEither as IsOneOf, gate_stands}
use Rattle.cg_journal.specs.Closes.{IsLostClosing}
use Rattle.cg_journal.specs.Answers.{IsDone}
use Rattle.cg_store.specs.Stands.{OnDisk, stands_for, Stands}
use Rattle.cg_store.specs.Answers.{IsReached, IsCutShort, IsLost}
use Rattle.cg_store.specs.Calls.{IsEither}

-- ---- one state

either_way : (b : Bool) (id : ℕ) (r before after : Option Records) (u v : OnDisk) → r ≡ (if b then after else before) → stands_for id before ≡ Some u → stands_for id after ≡ Some v →
    stands_for id r ≡ Some (if b then v else u)
either_way true id r before after u v is first second = ap (stands_for id) is ∙ second
either_way false id r before after u v is first second = ap (stands_for id) is ∙ first

pub either_of : (id : ℕ) (before after : Option Records) (u v : OnDisk) (c : Image) → stands_for id before ≡ Some u → stands_for id after ≡ Some v → IsOneOf before after c → IsEither id u v c
either_of id before after u v c first second one = ⊎_elim (λ e. inl (ap (stands_for id) e ∙ first)) (λ e. inr (ap (stands_for id) e ∙ second)) one

-- ---- the parts of an answer

pub reached : (id calls : ℕ) (after : Option Records) (v : OnDisk) (old new : DiskView) → IsDone after calls old new → stands_for id after ≡ Some v → IsReached id calls v old new
reached id calls after v old new done is = record { stands = ap (stands_for id) done.records_new ∙ is; rest = done.rest; time = done.time; unstruck = done.unstruck }

pub lost : (id earlier call : ℕ) (side : Side) (gate : ℕ) (before after : Option Records) (u v : OnDisk) (old new : DiskView) → IsLostIn earlier call side gate before after old new →
    stands_for id before ≡ Some u → stands_for id after ≡ Some v → IsLost id earlier u v old new
lost id earlier call side gate before after u v old new is first second = record {
  call = call;
  side = side;
  gate = gate;
  struck = is.struck;
  time = is.time;
  within = is.within;
  gates = λ c left. record { opened = λ e. ap (stands_for id) ((is.gates c left).opened e) ∙ second; closed = λ e. ap (stands_for id) ((is.gates c left).closed e) ∙ first };
  early = λ le c left. ap (stands_for id) (is.early le c left) ∙ first;
  last = λ e. ap (stands_for id) (is.last e) ∙ second;
  reads = is.reads;
  told = λ s e old_is new_is.
      let found = is.told s old_is in
      let same : found.0 ≡ e = (let one = sym found.1 ∙ new_is in cc) in
      let cut = found.2 in
      subst (λ x. IsCutShort id call u v s x) same (record {
        strike = cut.strike;
        armed = cut.armed;
        fills = λ fill. either_way (gate_stands cut.strike.blow call fill) id (records (left_by found.0 fill)) before after u v (cut.fills fill) first second;
      });
}

same_both : (b : Bool) (u : OnDisk) → u ≡ (if b then u else u)
same_both true u = refl
same_both false u = refl

one_of_both : (id : ℕ) (before after : Option Records) (u : OnDisk) (c : Image) → stands_for id before ≡ Some u → stands_for id after ≡ Some u → IsOneOf before after c → Stands id c u
one_of_both id before after u c first second one = ⊎_elim (λ e. ap (stands_for id) e ∙ first) (λ e. ap (stands_for id) e ∙ second) one

if_some : {X : Type 0} (o : Option X) (P : X → Type 0) (x : X) → IfSome o P → o ≡ Some x → P x
if_some o P x is e = subst (λ p. IfSome p P) e is

pub lost_closing : (id call : ℕ) (side : Side) (before closed : Option Records) (u : OnDisk) (old new : DiskView) → IsLostClosing call before closed old new →
    stands_for id before ≡ Some u → stands_for id closed ≡ Some u → IsLost id 0 u u old new
lost_closing id call side before closed u old new is first second =
    let stands : (c : Image) → IsOneOf before closed c → Stands id c u = λ c one. one_of_both id before closed u c first second one in
    record {
      call = call;
      side = side;
      gate = 8;
      struck = is.struck;
      time = omega (arith, is.time);
      within = (is.within.0, omega (arith, is.within.1));
      gates = λ c left. record { opened = λ e. stands c (is.images c left); closed = λ e. stands c (is.images c left) };
      early = λ le c left. stands c (is.images c left);
      last = λ e. absurd (omega (arith, e, is.within.1));
      reads = is.reads;
      told = λ s e old_is new_is.
          let struck = is.struck.reached s old_is in
          let all = if_some new.state (λ x. (fill : List ℕ) → IsOneOf before closed (left_by x fill)) e is.fills new_is in
          record {
            strike = struck.0;
            armed = struck.1;
            fills = λ fill. stands (left_by e fill) (all fill) ∙ ap Some (same_both (gate_stands struck.0.blow call fill) u);
          };
    }

-- ---- moments

pub stands_at_rest : (id : ℕ) (d : DiskView) (u : OnDisk) (c : Image) → IsAtRest d → Stands id d.reads u → d.may_leave c → Stands id c u
stands_at_rest id d u c rest is left = ap (λ x. stands_for id (records x)) (rest.only c left) ∙ is
