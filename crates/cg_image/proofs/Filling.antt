-- A new disk on which both sides are written and synced.
use Rattle.std.proofs.Common.{◌≡◌, ℕ, ◌+◌, List, [], ◌++◌, Some, length, refl, ap, ap₂, ◌∙◌, arith}
use Rattle.std.proofs.Math.Seq.{drop-nil}
use Rattle.std.proofs.lemmas.List.{append-nil}
use Rattle.cg_disk.specs.Crashes.{IsNew, clean_disk}
use Rattle.cg_disk.specs.Sides.{with_bytes}
use Rattle.cg_disk.specs.State.{DiskState, synced, wrote}
use Rattle.cg_disk.specs.View.{DiskView, IsAtRest}
use Rattle.cg_disk.specs.Writes.{overwritten}
use Rattle.cg_disk.specs.declared.disk.Side.TheVariants.{A, B}
use Rattle.cg_image.specs.Calls.{IsUnarmed, IsDone, IsDiskOf}

abbrev empty : DiskState
empty = clean_disk (record { a = []; b = [] })

-- the states on the way
abbrev with_a : List ℕ → DiskState
with_a a = wrote A 0 a empty

abbrev with_both : List ℕ → List ℕ → DiskState
with_both a b = wrote B 0 b (with_a a)

-- bytes over nothing
over_nothing : (bytes : List ℕ) → overwritten [] 0 bytes ≡ bytes
over_nothing bytes = ap (λ (rest : List ℕ). bytes ++ rest) (drop-nil (0 + length bytes)) ∙ append-nil bytes

cleaned : (a b : List ℕ) → synced (with_both a b) ≡ clean_disk (record { a = a; b = b })
cleaned a b = ap₂ (λ x y. clean_disk (record { a = x; b = y })) (over_nothing a) (over_nothing b)

-- what the calls have told
module _ (old one two : DiskView) (a b : List ℕ) (new : IsNew old) (first : IsDone (wrote A 0 a) old one) where
  first_state : one.state ≡ Some (with_a a)
  first_state = first.state empty new.state

  pub first_unarmed : IsUnarmed one
  first_unarmed = record { state = with_a a; told = first_state; unarmed = refl }

  module _ (second : IsDone (wrote B 0 b) one two) where
    second_state : two.state ≡ Some (with_both a b)
    second_state = second.state (with_a a) first_state

    pub second_unarmed : IsUnarmed two
    second_unarmed = record { state = with_both a b; told = second_state; unarmed = refl }

    pub filled : (end : DiskView) → one.reads ≡ with_bytes A a old.reads → two.reads ≡ with_bytes B b one.reads →
        end.reads ≡ two.reads → IsAtRest end → IsDone synced two end → IsDiskOf (record { a = a; b = b }) 3 end
    filled end read_a read_b read_all rest last = record {
      reads = read_all ∙ read_b ∙ ap (with_bytes B b) (read_a ∙ ap (with_bytes A a) new.reads);
      state = last.state (with_both a b) second_state ∙ ap Some (cleaned a b);
      time = omega (arith, last.time, second.time, first.time, new.time);
      faults = last.faults ∙ second.faults ∙ first.faults ∙ new.faults;
      rest = rest;
    }
